-- Rounding toward minus infinity. A finite float is the fraction m * up e / down e. Definitions only.
use Rattle.std.specs.Prelude.{◌≡◌, ℕ, suc, ◌+◌, ◌-◌, ◌*◌, ◌/◌, ◌≤◌, Bool, true, false, ℤ, pos, negsuc, neg_ℤ, Float}
use Rattle.std.specs.Float.{nan, inf, fin, binary64}
use Rattle.std.specs.Float.Ieee.{up, down, round}
use Rattle.std.specs.Float.Ieee.Exact.{HasValue}

-- the size of a finite float, rounded down and up to a whole number
unfoldable pub size_down : Float → ℕ
size_down nan = 0
size_down (inf s) = 0
size_down (fin s m e) = m * up e / down e

unfoldable pub size_up : Float → ℕ
size_up nan = 0
size_up (inf s) = 0
size_up (fin s m e) = (m * up e + (down e - 1)) / down e

-- The float of the largest whole number that is not above x, with x's sign, so that -0 stays -0. That number is a value
-- of the format, so `round` changes nothing.
unfoldable pub floor_of : Float → Float
unfolding size_down size_up round
floor_of nan = nan
floor_of (inf s) = inf s
floor_of (fin false m e) = round binary64 false (size_down (fin false m e)) 1
floor_of (fin true m e) = round binary64 true (size_up (fin true m e)) 1

-- the whole number itself
unfoldable pub floor_int : Float → ℤ
unfolding size_down size_up
floor_int nan = pos 0
floor_int (inf s) = pos 0
floor_int (fin false m e) = pos (size_down (fin false m e))
floor_int (fin true m e) = neg_ℤ (pos (size_up (fin true m e)))

-- ---- the same over whole numbers: what a floor is, whatever computes it
-- n with the sign s
abbrev pub signed : Bool → ℕ → ℤ
signed false n = pos n
signed true n = neg_ℤ (pos n)

-- the whole number z is not above a / c with the sign s
abbrev pub NotAbove : ℤ → Bool → ℕ → ℕ → Type 0
NotAbove (pos n) false a c = n * c ≤ a
NotAbove (pos n) true a c = n * c + a ≤ 0
NotAbove (negsuc n) false a c = Unit
NotAbove (negsuc n) true a c = a ≤ suc n * c

-- y is the greatest whole number not above a / c with the sign s, and has that sign, zero's too; z is that whole number
pub record Floored (s : Bool) (a c : ℕ) (y : Float) (z : ℤ) : Type 0 where
  pub n : ℕ
  pub value : HasValue y s n 1
  pub whole : z ≡ signed s n
  pub below : NotAbove (signed s n) s a c
  pub greatest : (k : ℤ) → NotAbove k s a c → NotAbove k s n 1
