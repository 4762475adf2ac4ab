pub mod OffsetList
