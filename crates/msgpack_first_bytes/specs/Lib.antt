-- What the first byte of a MessagePack value says, and two words that every layer's definitions use.
pub mod Bytes
pub mod FirstByte
pub mod Entry
pub mod Rows
