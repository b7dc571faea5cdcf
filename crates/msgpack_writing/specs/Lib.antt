-- The shortest forms, and what a lent buffer holds after a piece was written into its rest.
pub mod Forms
pub mod Put
pub mod Examples
