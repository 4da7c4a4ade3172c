pub mod Areas
pub mod NextPlace
pub mod Ring
pub mod RingSpans
pub mod ShownRing
pub mod Texts
