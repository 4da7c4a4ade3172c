mod AnswerRows
mod HexDigits
pub mod NamesFound
