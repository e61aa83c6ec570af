mod Disks
mod Reading
