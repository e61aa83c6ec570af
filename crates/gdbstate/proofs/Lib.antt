mod Bytes
mod Passing
