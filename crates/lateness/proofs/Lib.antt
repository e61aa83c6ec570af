pub mod Numbers
pub mod Lasting
pub mod Settling
pub mod Laws
