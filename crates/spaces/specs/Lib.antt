pub mod Ends
pub mod Spaces
pub mod Instructions
pub mod View
