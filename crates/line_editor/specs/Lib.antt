pub mod Lines
pub mod Keys
pub mod Editors
