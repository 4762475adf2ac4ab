pub mod First
pub mod FirstBoxCases
pub mod Length
pub mod Corner
pub mod Detour
pub mod DetourCases
pub mod Laws
pub mod Stages
