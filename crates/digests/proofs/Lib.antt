mod Common
mod Numbers
mod Steps
