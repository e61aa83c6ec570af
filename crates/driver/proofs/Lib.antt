mod Common
mod Driving
mod Pacing
mod Playing
mod Reaching
mod Scripting
mod Sitting
mod Striding
pub mod Tails
mod Walking
