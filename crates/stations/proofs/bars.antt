-- Laws that the functions' proofs use.
pub mod SpanLaw
pub mod BarSizes
