-- How large a finite float is, over whole numbers. An exponent is counted from 2 ^ -1074, the least positive f64, so
-- that it is a natural number: 1074 + 40 stands for 2 ^ 40, and 1074 - 650 for 2 ^ -650. A finite float is the fraction
-- num / den. Definitions only.
use Rattle.std.specs.Prelude.{ℕ, ◌*◌, ◌^◌, ◌≤◌, Bool, ◌&&◌, T, nat_le, Float}
use Rattle.std.specs.Float.Ieee.Positive.{num, den}
use Rattle.numbers.specs.Small.{is_finite}

-- x is finite, and at most a / c in size
pub record Within (a c : ℕ) (x : Float) : Type 0 where
  pub finite : T (is_finite x)
  pub size : num x * c ≤ a * den x

-- x is finite, and at most 2 ^ (k - 1074) in size
pub record AtMost (k : ℕ) (x : Float) : Type 0 where
  pub finite : T (is_finite x)
  pub size : num x * 2 ^ 1074 ≤ 2 ^ k * den x

-- x is finite, and at least 2 ^ (k - 1074) in size
pub record AtLeast (k : ℕ) (x : Float) : Type 0 where
  pub finite : T (is_finite x)
  pub size : 2 ^ k * den x ≤ num x * 2 ^ 1074

-- the same as tests, for what is closed
unfoldable pub most_test : ℕ → Float → Bool
most_test k x = is_finite x && nat_le (num x * 2 ^ 1074) (2 ^ k * den x)

unfoldable pub least_test : ℕ → Float → Bool
least_test k x = is_finite x && nat_le (2 ^ k * den x) (num x * 2 ^ 1074)
