pub mod Walking
pub mod Looking
pub mod Comparing
