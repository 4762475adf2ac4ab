-- Doubling: the float of twice a float's value, and what is asked of a number so that an operation on doubled numbers
-- gives the doubled result. Definitions only.
use Rattle.std.specs.Prelude.{◌≡◌, ℕ, zero, suc, ◌*◌, ◌^◌, ◌<◌, ◌≤◌, T, Float}
use Rattle.std.proofs.Math.IntN.{suc_ℤ}
use Rattle.std.specs.Float.{nan, inf, fin, binary64}
use Rattle.std.specs.Float.Ieee.{fits}
use Rattle.numbers.specs.Small.{is_finite}
use Rattle.numbers.specs.Hypot.{grains}

-- m * 2 ^ e doubled is m * 2 ^ (e + 1), and zero stays zero, with its sign. It is exact at every number; whether the
-- format holds it is a question of its own, `Doublable`.
unfoldable pub twice : Float → Float
twice nan = nan
twice (inf s) = inf s
twice (fin s zero e) = fin s zero e
twice (fin s (suc m) e) = fin s (suc m) (suc_ℤ e)

-- a number of the format
pub record Finite (x : Float) : Type 0 where
  pub held : T (fits binary64 x)
  pub finite : T (is_finite x)

-- a number of the format below 2 ^ 1023 in size, so that its double is one too
pub record Doublable (x : Float) : Type 0 where
  pub number : Finite x
  pub room : grains x < 2 ^ 2097

-- Above 2 ^ -1022 in size. At 2 ^ -1022 itself a product may have been rounded up to it, and the doubled product is
-- then rounded on a finer grid (specs/DoubleCases.antt).
abbrev pub AboveLeast : Float → Type 0
AboveLeast x = 2 ^ 52 < grains x

-- without size
abbrev pub ZeroSize : Float → Type 0
ZeroSize x = grains x ≡ 0

-- ---- what is known of a number along a calculation: it is a multiple of 2 ^ lo grains, and at most `top` grains in
-- size. So unless it is 0 it is 2 ^ lo grains at least.
pub record Stepped (lo top : ℕ) (x : Float) : Type 0 where
  pub number : Finite x
  pub count : ℕ
  pub grid : grains x ≡ count * 2 ^ lo
  pub size : grains x ≤ top

-- so many grains are a value of the format with room
pub record Limit (v : ℕ) : Type 0 where
  pub q : ℕ
  pub k : ℕ
  pub is : v ≡ q * 2 ^ k
  pub digits : q < 2 ^ 53
  pub room : v < 2 ^ 2097

-- a number of one calculation, and that of the other, its double
pub record Doubles (lo top : ℕ) (x x' : Float) : Type 0 where
  pub is : x' ≡ twice x
  pub stepped : Stepped lo top x

-- doubled n times
unfoldable pub scaled : ℕ → Float → Float
unfolding twice
scaled zero x = x
scaled (suc n) x = twice (scaled n x)
