pub mod AllAnswered
mod Cuts
mod FirstWords
mod FrontLines
mod Refusing
mod RunCommands
mod RunLines
mod SomeSectors
mod Unbegun
