pub mod Leaf
pub mod Dense
pub mod Space
pub mod Fork
pub mod Reach
pub mod Shares
pub mod Owned
pub mod TrapFrame
