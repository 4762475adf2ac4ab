-- What the parts of hypot hand to one another.
use Rattle.std.specs.Prelude.{◌≡◌, ℕ, ◌+◌, ◌*◌, ◌%◌, ◌^◌, ◌<◌, ◌≤◌, cond, ◌==◌, from_bits}
use Rattle.std.specs.Float.{binary64}
use Rattle.numbers.specs.Hypot.{nearest_root}

-- In units of 2 ^ e, r is the whole part of twice the root of n, and x is 0 just where nothing is left of it.
pub record Close (n r x e : ℕ) : Type 0 where
  pub low : r * 2 ^ e * (r * 2 ^ e) ≤ 4 * n
  pub high : 4 * n < (r + 1) * 2 ^ e * ((r + 1) * 2 ^ e)
  pub exact : x ≡ 0 → 4 * n ≡ r * 2 ^ e * (r * 2 ^ e)
  pub only : 4 * n ≡ r * 2 ^ e * (r * 2 ^ e) → x ≡ 0

-- The pattern p of a finite float that is not negative: m * 2 ^ e grains.
pub record Packed (p m e : ℕ) : Type 0 where
  pub sum : p ≡ e * 2 ^ 52 + m
  pub small : m < 2 ^ 53
  pub normal : 0 < e → 2 ^ 52 ≤ m

-- 1 where the next number up from q is nearer: half is the digit after q's last, and x is 0 where nothing follows that
abbrev pub up_by : ℕ → ℕ → ℕ → ℕ
up_by q half x = cond (half == 0) 0 (cond (x == 0) (q % 2) 1)

-- The pattern b, of no NaN, is that of the f64 nearest to the root of each n that r, x and e are close to.
pub record Nearest (b r x e : ℕ) : Type 0 where
  pub number : b ≤ 0x7ff0_0000_0000_0000
  pub value : (n : ℕ) → Close n r x e → from_bits binary64 b ≡ nearest_root n

-- hi * 2 ^ 54 + lo is n.
pub record IsWide (hi lo n : ℕ) : Type 0 where
  pub sum : hi * 2 ^ 54 + lo ≡ n
  pub small : lo < 2 ^ 54

-- root is the whole part of n's square root, and rest what is left of n.
pub record IsRoot (root rest n : ℕ) : Type 0 where
  pub sum : root * root + rest ≡ n
  pub left : rest ≤ 2 * root

-- Two sides of m * 2 ^ e and n * 2 ^ d grains, the first one's exponent the larger.
pub record Sides (m e n d : ℕ) : Type 0 where
  pub first : m < 2 ^ 53
  pub second : n < 2 ^ 53
  pub order : d ≤ e
  pub finite : e ≤ 2045
  pub normal : 0 < e → 2 ^ 52 ≤ m

-- The pattern b, of no NaN, is that of the f64 nearest to the hypotenuse over sides of a and c grains.
pub record Length (b a c : ℕ) : Type 0 where
  pub number : b ≤ 0x7ff0_0000_0000_0000
  pub value : from_bits binary64 b ≡ nearest_root (a * a + c * c)

-- A root that two digits of base b, l and k, can be added to by a division.
pub record Extends (root rest l k b : ℕ) : Type 0 where
  pub left : rest ≤ 2 * root
  pub first : l < b
  pub second : k < b
  pub enough : b ≤ 2 * root
  pub small : root < 2 ^ 28
  pub base : b ≤ 2 ^ 27
