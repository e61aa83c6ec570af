pub mod Finding
pub mod OnDisk
pub mod Reading
pub mod Writing
pub mod Freeing
pub mod Looking
pub mod Store
