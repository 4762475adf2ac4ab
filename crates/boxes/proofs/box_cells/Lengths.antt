-- The needed length of the list that boxes are entered in: it grows with the stations. Assumes nothing.
use Prim.Native.Nat.{ℕ, ◌≤◌}
use native.Mathlib.Omega.{arith}
use Rattle.boxes.specs.Length.{index_length}

pub index_least : (n : ℕ) → n ≤ index_length n
unfolding index_length
index_least n = omega arith

pub index_rises : (k n : ℕ) → k ≤ n → index_length k ≤ index_length n
unfolding index_length
index_rises k n h = omega arith
