-- Each seed's least positive distance to another (docs/RULES.md, 'Spacing and unit'), and how many others are near
-- ('Scales'), over all pairs. Definitions only.
use Rattle.std.specs.Prelude.{◌≡◌, ℕ, zero, suc, Bool, true, false, not, ◌&&◌, List, eqb, Float}
use Rattle.std.specs.Float.{inf}
use Rattle.std.specs.Float.Ieee.{lt, le}
use Rattle.numbers.specs.Small.{min_of}
use Rattle.numbers.specs.Hypot.{hypot_of}
use Rattle.numbers.specs.Ops.{◌⊖◌, f0}
use Rattle.numbers.specs.Order.{pick}
use Rattle.numbers.specs.Table.{how_many}
use Rattle.plane.specs.declared.geometry.Point.{Point}
use Rattle.plane.specs.Plane.{point_at}

-- the distance from p to q
unfoldable pub distance : Point → Point → Float
distance p q = hypot_of (q.x ⊖ p.x) (q.y ⊖ p.y)

-- the lesser of b and d, of positive numbers
unfoldable pub nearer : Float → Float → Float
nearer b d = pick (lt f0 d) (min_of b d) b

-- r is not past d: a bound below r is below d
pub record NotPast (r d : Float) : Type 0 where
  pub bound : (b : Float) → lt b r ≡ true → le d b ≡ false

-- the least positive distance of point i to another among the first j, infinity if none
unfoldable pub nearest_to : List Float → ℕ → ℕ → Float
unfolding distance nearer
nearest_to ps i zero = inf false
nearest_to ps i (suc j) =
    let b = nearest_to ps i j in
    let c = nearer b (distance (point_at ps i) (point_at ps j)) in
    pick (eqb j i) b c

-- among the first n
unfoldable pub nearest : List Float → ℕ → ℕ → Float
unfolding nearest_to
nearest ps n i = nearest_to ps i n

-- point j is another than i and at most so far away
unfoldable pub near : List Float → Float → ℕ → ℕ → Bool
unfolding distance
near ps radius i j = not (eqb j i) && le (distance (point_at ps i) (point_at ps j)) radius

-- how many of the first n points are near point i
unfoldable pub within : List Float → ℕ → Float → ℕ → ℕ
unfolding near
within ps n radius i = how_many (near ps radius i) n

-- none where the radius is 0, negative or a NaN
unfoldable pub neighbours : List Float → ℕ → Float → ℕ → ℕ
unfolding within
neighbours ps n radius i = pick (lt f0 radius) (within ps n radius i) 0
