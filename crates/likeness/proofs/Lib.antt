mod Same
mod Growing
mod Reading
