pub mod Ahead
mod Counting
