mod Drawn
mod Groups
mod MixedWords
