-- Laws of the mesh and of its test.
pub mod Tests
pub mod Meshes
pub mod Pigeons
