mod Repeating
mod Copying
mod Named
