-- The parts of a report: the words of a refusal, the bytes around a place in hexadecimal.
pub mod Words
pub mod Dump
pub mod Steps
pub mod Examples
