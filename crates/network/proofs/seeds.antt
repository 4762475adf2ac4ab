-- Laws of seeds, on plain lists.
pub mod Seeding
