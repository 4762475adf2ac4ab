-- IEEE 754-2019, 4.3.1: roundTiesToEven at binary64, over whole numbers. Lengths are counted in grains of 2 ^ -1074,
-- the least positive f64. Definitions only.
use Rattle.std.specs.Prelude.{◌≡◌, ℕ, ◌+◌, ◌-◌, ◌*◌, ◌%◌, ◌^◌, ◌<◌, ◌≤◌, Bool, false, ◌≢◌, Float}
use Rattle.std.specs.Float.{inf}
use Rattle.std.specs.Float.Ieee.Exact.{HasValue}

-- 3.3: v grains are the size of a finite value: a significand q of p = 53 binary digits at most, times 2 ^ k, with the
-- exponent k - 1074 from emin - 52 = -1074 to emax - 52 = 971. The exponent is the least there is: below 53 digits it
-- is emin's. So q's last digit is the value's least significant one.
pub record Value (v q k : ℕ) : Type 0 where
  pub is : v ≡ q * 2 ^ k
  pub digits : q < 2 ^ 53
  pub normal : 0 < k → 2 ^ 52 ≤ q
  pub range : k ≤ 2045

-- the distance of two whole numbers
abbrev pub distance_between : ℕ → ℕ → ℕ
distance_between a b = a - b + (b - a)

-- the distance of v grains from num / den, times den * 2 ^ 1074
abbrev pub far : ℕ → ℕ → ℕ → ℕ
far num den v = distance_between (num * 2 ^ 1074) (v * den)

-- x is finite, with the sign s and a size of v / 2 ^ 1074, a value of the format. None lies nearer to num / den, and
-- where another lies as near, x is the one with an even least significant digit. A value of the other sign lies no
-- nearer than zero.
pub record Nearest (s : Bool) (num den : ℕ) (x : Float) : Type 0 where
  pub v : ℕ
  pub q : ℕ
  pub k : ℕ
  pub size : HasValue x s v (2 ^ 1074)
  pub value : Value v q k
  pub nearest : (w p j : ℕ) → Value w p j → far num den v ≤ far num den w
  pub even : (w p j : ℕ) → Value w p j → (w ≢ v) → far num den w ≡ far num den v → q % 2 ≡ 0

-- x is num / den with the sign s, rounded: from 2 ^ emax * (2 - 2 ^ -53) = 2 ^ 1024 - 2 ^ 970 on to infinity, and below
-- it to the nearest value. The sign is kept, zero's too.
pub record Rounded (s : Bool) (num den : ℕ) (x : Float) : Type 0 where
  pub finite : num < (2 ^ 1024 - 2 ^ 970) * den → Nearest s num den x
  pub infinite : (2 ^ 1024 - 2 ^ 970) * den ≤ num → x ≡ inf s

-- x is the value nearest to the square root of n, counted in grains. Half way from v to w lies (v + w) / 2, which is
-- compared with the root by the squares of their doubles: a value w below v is no nearer where that point is no higher
-- than the root, a w above v where it is no lower, and where it is the root both are as near.
pub record RootNearest (n : ℕ) (x : Float) : Type 0 where
  pub v : ℕ
  pub q : ℕ
  pub k : ℕ
  pub size : HasValue x false v (2 ^ 1074)
  pub value : Value v q k
  pub below : (w p j : ℕ) → Value w p j → w < v → (v + w) * (v + w) ≤ 4 * n
  pub above : (w p j : ℕ) → Value w p j → v < w → 4 * n ≤ (v + w) * (v + w)
  pub even : (w p j : ℕ) → Value w p j → (w ≢ v) → 4 * n ≡ (v + w) * (v + w) → q % 2 ≡ 0

-- x is the square root of n, rounded: from 2 ^ 1024 - 2 ^ 970, which is 2 ^ 2098 - 2 ^ 2044 grains, on to infinity, and
-- below it to the nearest value
pub record RootRounded (n : ℕ) (x : Float) : Type 0 where
  pub finite : n < (2 ^ 2098 - 2 ^ 2044) * (2 ^ 2098 - 2 ^ 2044) → RootNearest n x
  pub infinite : (2 ^ 2098 - 2 ^ 2044) * (2 ^ 2098 - 2 ^ 2044) ≤ n → x ≡ inf false
