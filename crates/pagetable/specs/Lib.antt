pub mod Tree
pub mod Marks
pub mod Agree
pub mod Shape
pub mod Owned
