pub mod Bodies
pub mod Cuts
pub mod Numbers
pub mod Sent
