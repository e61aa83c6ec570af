pub mod Pick
pub mod Mask
pub mod Waits
pub mod Places
pub mod Sound
pub mod Lending
pub mod Next
pub mod Picked
