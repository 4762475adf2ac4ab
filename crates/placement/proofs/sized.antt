-- Laws of refusal 8.
pub mod Sizing
pub mod SizedDoubles
