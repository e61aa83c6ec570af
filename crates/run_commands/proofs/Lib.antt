mod Ends
mod Recorded
mod Showing
mod Sitting
