pub mod NewAreas
pub mod PassedRows
