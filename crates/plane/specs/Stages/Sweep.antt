-- The points in the order of their x, and what a scan along it has found so far. Definitions only.
use Rattle.std.specs.Prelude.{◌≡◌, ◌⊎◌, Bool, true, false, List, ℕ, ◌+◌, ◌*◌, ◌≤◌, ◌<◌, T, get_or, take, Float}
use Rattle.std.specs.Float.{nan, inf, binary64}
use Rattle.std.specs.Float.Ieee.{fits, lt, le}
use Rattle.numbers.specs.Small.{is_finite}
use Rattle.numbers.specs.Hypot.{hypot_of}
use Rattle.numbers.specs.Ops.{◌⊖◌, f0, order_key}
use Rattle.numbers.specs.Order.{key_at, sort_by, up_from}

-- the x of point j
abbrev pub x_at : List Float → ℕ → Float
x_at ps j = get_or ps (2 * j) nan

-- the x of the first n points are finite; ks has their order keys, and o leads with their numbers
pub record Numbered (ps : List Float) (n : ℕ) (ks o : List ℕ) : Type 0 where
  pub listed : take n o ≡ up_from 0 n
  pub finite : (j : ℕ) → j < n → is_finite (x_at ps j) ≡ true
  pub formed : (j : ℕ) → j < n → T (fits binary64 (x_at ps j))
  pub keyed : (j : ℕ) → j < n → key_at ks j ≡ order_key (x_at ps j)

-- the order key of the x of point j
abbrev pub x_key : List Float → ℕ → ℕ
x_key ps j = order_key (x_at ps j)

-- the x of the first n points are finite, and o leads with their numbers by rising x
pub record Swept (ps : List Float) (n : ℕ) (o : List ℕ) : Type 0 where
  pub listed : take n o ≡ sort_by (x_key ps) (up_from 0 n)
  pub finite : (j : ℕ) → j < n → is_finite (x_at ps j) ≡ true
  pub rising : (i j : ℕ) → i < n → j < n → x_key ps i ≤ x_key ps j → T (le (x_at ps i) (x_at ps j))

-- the distance from (x, y) to the point at place q of the order o
abbrev pub away : List Float → List ℕ → Float → Float → ℕ → Float
away ps o x y q = hypot_of (get_or ps (2 * get_or o q 0) nan ⊖ x) (get_or ps (2 * get_or o q 0 + 1) nan ⊖ y)

-- whether that distance is at most so much
abbrev pub in_radius : List Float → List ℕ → Float → Float → Float → ℕ → Bool
in_radius ps o x y radius q = le (away ps o x y q) radius

-- q is one of lo, .., hi - 1 and another than c
abbrev pub Others : ℕ → ℕ → ℕ → ℕ → Type 0
Others c lo hi q = (lo ≤ q) × (q < hi) × (q ≡ c → ⊥)

-- r is the least positive of the numbers d q of all q that are P, infinity if none
pub record Least (d : ℕ → Float) (P : ℕ → Type 0) (r : Float) : Type 0 where
  pub hit : (r ≡ inf false) ⊎ ((q : ℕ) × P q × (r ≡ d q) × (lt f0 (d q) ≡ true))
  pub under : (q : ℕ) → P q → lt f0 (d q) ≡ true → order_key r ≤ order_key (d q)
