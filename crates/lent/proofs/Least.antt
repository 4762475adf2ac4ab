-- The least of six lengths.
-- Assumes nothing.
use mathlib.Core.Path.{◌≡◌}
use Prim.Native.Nat.{ℕ, min}
use native.Mathlib.Omega.{arith}

-- the least of six, by pairs
pub six : (a b c d e f : ℕ) → min (min (min a b) c) (min (min d e) f) ≡ min a (min b (min c (min d (min e f))))
six a b c d e f = simp assoc
  where
    assoc : (a b c : ℕ) → min (min a b) c ≡ min a (min b c)
    assoc a b c = omega arith
