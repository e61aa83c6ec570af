mod Common
pub mod Sounding
pub mod Holding
pub mod Console
