pub mod Placing
pub mod PlaceLaw
pub mod PlaceSizes
pub mod PlaceDoubles
pub mod Cases
pub mod Rank
pub mod Clear
pub mod NoOverlap
