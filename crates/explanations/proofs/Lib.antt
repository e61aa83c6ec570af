mod Chosen
mod Occurs
mod Parts
