-- IEEE 754-2019, 5.4.1 and 6.3: sum, product and quotient of two finite values, over whole numbers. A value is a sign
-- and a count of grains of 2 ^ -1074. Definitions only.
use Rattle.std.specs.Prelude.{◌≡◌, ℕ, ◌+◌, ◌-◌, ◌^◌, ◌<◌, Bool, false, pos, ◌≢◌, Float}
use Rattle.std.specs.Float.{fin}
use Rattle.numbers.specs.Rounding.{Rounded}

-- x is the sum of a grains with the sign s and b grains with the sign t, rounded once. A sum of unlike signs that is
-- exactly zero is +0; of like signs it keeps the sign.
pub record SumRounded (s : Bool) (a : ℕ) (t : Bool) (b : ℕ) (x : Float) : Type 0 where
  pub same : s ≡ t → Rounded s (a + b) (2 ^ 1074) x
  pub more : (s ≢ t) → b < a → Rounded s (a - b) (2 ^ 1074) x
  pub less : (s ≢ t) → a < b → Rounded t (b - a) (2 ^ 1074) x
  pub none : (s ≢ t) → a ≡ b → x ≡ fin false 0 (pos 0)
