pub mod Line
pub mod Inside
