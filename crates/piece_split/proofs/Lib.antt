mod Cutting
mod InBlocks
mod Rows
