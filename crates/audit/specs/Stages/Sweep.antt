-- Stations in the order of their boxes' left sides, and the pairs of a list: each station with those behind it.
-- Definitions only.
use Rattle.std.specs.Prelude.{◌≡◌, Bool, true, ◌&&◌, ◌||◌, List, [], ◌∷◌, ℕ, ◌+◌, ◌*◌, ◌≤◌, ◌<◌, T, ltb, length, get_or}
use Rattle.std.specs.Prelude.{take, Float}
use Rattle.std.specs.Float.{nan}
use Rattle.std.specs.Float.Ieee.{le}
use Rattle.numbers.specs.Small.{is_finite}
use Rattle.numbers.specs.Order.{key_at, count, sort_by}
use Rattle.plane.specs.declared.geometry.Box.{Box}
use Rattle.plane.specs.Plane.{shrunk}
use Rattle.plane.specs.Overlap.{overlap}
use Rattle.audit.specs.Overlaps.{overlapping}

-- the left side of box s in a list of four numbers each
abbrev pub left_at : List Float → ℕ → Float
left_at boxes s = get_or boxes (4 * s) nan

-- all numbers of a list are finite
pub record Finite (l : List Float) : Type 0 where
  pub at : (i : ℕ) → i < length l → is_finite (get_or l i nan) ≡ true

-- of k boxes, one whose key is not above another's has its left side not right of the other's
pub record Keyed (boxes : List Float) (k : ℕ) (ks : List ℕ) : Type 0 where
  pub rising : (i j : ℕ) → i < k → j < k → key_at ks i ≤ key_at ks j → T (le (left_at boxes i) (left_at boxes j))

-- o is a list of stations below k, whose left sides do not fall
pub record Sorted (boxes : List Float) (k : ℕ) (o : List ℕ) : Type 0 where
  pub below : (q : ℕ) → q < length o → get_or o q 0 < k
  pub rising : (i j : ℕ) → i ≤ j → j < length o → T (le (left_at boxes (get_or o i 0)) (left_at boxes (get_or o j 0)))

-- o leads with n stations: ss, sorted by a key, so that their left sides do not fall
pub record Lefts (boxes : List Float) (k : ℕ) (ss : List ℕ) (n : ℕ) (o : List ℕ) : Type 0 where
  pub key : ℕ → ℕ
  pub listed : take n o ≡ sort_by key ss
  pub sorted : Sorted boxes k (take n o)

-- the boxes p of station s and q of station t overlap, that of the higher number shrunk
unfoldable pub paired : Box → Box → ℕ → ℕ → Bool
paired p q s t = (ltb t s && overlap (shrunk p) q) || (ltb s t && overlap (shrunk q) p)

-- two stations overlap, whichever is the higher number
unfoldable pub either : List Box → ℕ → ℕ → Bool
either bs s t = overlapping bs s t || overlapping bs t s

-- the pairs that overlap, of one of these stations with one behind it
unfoldable pub pairs : List Box → List ℕ → ℕ
pairs bs [] = 0
pairs bs (s ∷ ss) = count (either bs s) ss + pairs bs ss
