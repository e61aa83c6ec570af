pub mod Digest
pub mod Reads
