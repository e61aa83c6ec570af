mod Common
pub mod Others
pub mod Table
pub mod Events
pub mod Passing
