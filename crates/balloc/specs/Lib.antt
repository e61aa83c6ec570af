pub mod Bitmap
pub mod Format
pub mod Inodes
