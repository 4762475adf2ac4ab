-- Laws that the functions' proofs use.
mod Counting
