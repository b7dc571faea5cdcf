-- What a list came to, written into lent buffers.
pub mod Delivering
pub mod Gathering
