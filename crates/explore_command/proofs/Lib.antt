mod Typed
mod Recording
mod Going
mod Finding
