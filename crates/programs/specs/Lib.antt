pub mod Executed
pub mod Headed
pub mod Loadable
pub mod Passed
pub mod Placed
