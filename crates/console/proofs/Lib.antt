mod Common
pub mod Lines
