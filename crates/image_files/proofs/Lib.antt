mod Entries
mod Replacing
