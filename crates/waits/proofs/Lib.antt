pub mod ByPid
mod Prompting
mod Waiting
