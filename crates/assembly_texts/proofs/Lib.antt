mod Headers
mod Sections
