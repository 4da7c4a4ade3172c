mod AddedLabels
pub mod Carried
mod LineImages
pub mod LineLabels
pub mod Sound
mod SoundCommit
mod SoundPvcreate
mod TextRoom
mod WrittenBoth
