-- What an operation plans.
pub mod Plan
