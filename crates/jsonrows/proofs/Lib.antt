mod Ending
mod Rowing
