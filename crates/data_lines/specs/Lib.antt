pub mod DataLines
