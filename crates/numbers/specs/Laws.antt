-- What the arithmetic of a drawing must be, whatever computes it. A contract of `numbers::laws` or of `hypot` states each of these. Definitions only.
use Rattle.std.specs.Prelude.{◌≡◌, ◌⊎◌, ℕ, ℤ, suc, pos, negsuc, ◌+◌, ◌*◌, ◌^◌, ◌<◌, Bool, true, false, not, T, Float, nat_le}
use Rattle.std.specs.Float.{nan, inf, binary64}
use Rattle.std.specs.Float.Ieee.{fits, unlike, round, add, sub, mul, div, of_int}
use Rattle.std.specs.Float.Ieee.Exact.{HasValue}
use Rattle.numbers.specs.Rounding.{Rounded, RootRounded}
use Rattle.numbers.specs.Operations.{SumRounded}
use Rattle.numbers.specs.Floor.{floor_of, floor_int, Floored}
use Rattle.numbers.specs.Key.{key_of}
use Rattle.numbers.specs.TotalOrder.{total_order}

-- ---- rounding
-- `round` gives the fraction rounded once
abbrev pub Rounds : Type 0
Rounds = (s : Bool) (num den : ℕ) → 0 < den → Rounded s num den (round binary64 s num den)

-- and no other number of the format is that fraction rounded
abbrev pub RoundsToOne : Type 0
RoundsToOne = (s : Bool) (num den : ℕ) → 0 < den → (x : Float) → T (fits binary64 x) → Rounded s num den x → x ≡ round binary64 s num den

-- ---- operations on finite floats, as counts of grains of 2 ^ -1074
abbrev pub AddsOnce : Type 0
AddsOnce = (x y : Float) (s t : Bool) (a b : ℕ) → HasValue x s a (2 ^ 1074) → HasValue y t b (2 ^ 1074) → SumRounded s a t b (add binary64 x y)

-- the sum with the other sign
abbrev pub SubtractsOnce : Type 0
SubtractsOnce = (x y : Float) (s t : Bool) (a b : ℕ) → HasValue x s a (2 ^ 1074) → HasValue y t b (2 ^ 1074) → SumRounded s a (not t) b (sub binary64 x y)

abbrev pub MultipliesOnce : Type 0
MultipliesOnce = (x y : Float) (s t : Bool) (a b : ℕ) → HasValue x s a (2 ^ 1074) → HasValue y t b (2 ^ 1074) → Rounded (unlike s t) (a * b) (2 ^ 1074 * 2 ^ 1074) (mul binary64 x y)

-- by a number that isn't zero
abbrev pub DividesOnce : Type 0
DividesOnce = (x y : Float) (s t : Bool) (a b : ℕ) → HasValue x s a (2 ^ 1074) → HasValue y t b (2 ^ 1074) → 0 < b → Rounded (unlike s t) a b (div binary64 x y)

-- a whole number of either sign as a float
abbrev pub whole_sign : ℤ → Bool
whole_sign (pos n) = false
whole_sign (negsuc n) = true

abbrev pub whole_size : ℤ → ℕ
whole_size (pos n) = n
whole_size (negsuc n) = suc n

abbrev pub ConvertsOnce : Type 0
ConvertsOnce = (z : ℤ) → Rounded (whole_sign z) (whole_size z) 1 (of_int binary64 z)

-- ---- the hypotenuse
-- r is the length of (x, y): infinite beside an infinite side, else no number beside a NaN, else the exact root of the sum of squares rounded once
pub record IsHypotenuse (x y r : Float) : Type 0 where
  pub infinite : (s : Bool) → (x ≡ inf s) ⊎ (y ≡ inf s) → r ≡ inf false
  pub no_number : ((s : Bool) → x ≡ inf s → ⊥) → ((s : Bool) → y ≡ inf s → ⊥) → (x ≡ nan) ⊎ (y ≡ nan) → r ≡ nan
  pub finite : (s t : Bool) (a b : ℕ) → HasValue x s a (2 ^ 1074) → HasValue y t b (2 ^ 1074) → RootRounded (a * a + b * b) r

-- two numbers of the format that are both the root of n rounded are equal
abbrev pub RootsToOne : Type 0
RootsToOne = (n : ℕ) (x y : Float) → T (fits binary64 x) → T (fits binary64 y) → RootRounded n x → RootRounded n y → x ≡ y

-- ---- the floor
abbrev pub FloorIsGreatest : Type 0
FloorIsGreatest = (x : Float) (s : Bool) (a c : ℕ) → 0 < c → T (fits binary64 x) → HasValue x s a c → Floored s a c (floor_of x) (floor_int x)

abbrev pub FloorOfInfinity : Type 0
FloorOfInfinity = (s : Bool) → floor_of (inf s) ≡ inf s

abbrev pub FloorOfNan : Type 0
FloorOfNan = floor_of nan ≡ nan

-- ---- the total order of bit patterns
-- the order of their keys is totalOrder
abbrev pub KeysAreTotalOrder : Type 0
KeysAreTotalOrder = (x y : ℕ) → x < 2 ^ 64 → y < 2 ^ 64 → total_order x y ≡ nat_le (key_of x) (key_of y)
