pub mod Keys
pub mod Verdicts
pub mod Explored
pub mod Faults
