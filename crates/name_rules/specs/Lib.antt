pub mod Rules
pub mod Changes
