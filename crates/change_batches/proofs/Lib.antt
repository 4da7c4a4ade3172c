mod Adding
pub mod AreaBatch
pub mod BaseShows
mod ChangeBatches
pub mod ChecksumBound
pub mod ClearBatch
pub mod ClearedAreas
pub mod ClearedImages
mod ClearsAdded
pub mod DiskSets
mod DisksWritten
pub mod FarAreas
pub mod FittingAreas
pub mod HeldInDisks
pub mod KeptImages
mod LabelBatch
pub mod LabelPuts
pub mod LabelsRead
pub mod MarkedLabels
pub mod ZeroBatch
