-- `first_hit`: the box that a piece enters first (docs/RULES.md, 'The box entered first'). Definitions only.
use Rattle.std.specs.Prelude.{ℕ, Bool, cond, ◌&&◌, ◌||◌, List, [], ◌∷◌, eqb, ltb, Float, Option, Some, None, option_map}
use Rattle.std.specs.Float.Ieee.{lt, eq}
use Rattle.plane.specs.declared.geometry.Point.{Point}
use Rattle.plane.specs.declared.geometry.Box.{Box}
use Rattle.plane.specs.Entry.{enters}
use Rattle.plane.specs.Plane.{box_in}

-- where the piece p q enters station s's box; the boxes of the line's own stations, a and b, are passed over
unfoldable pub entry_at : List Box → Point → Point → ℕ → ℕ → ℕ → Option Float
entry_at boxes p q a b s = cond (eqb s a || eqb s b) None (enters p q (box_in boxes s))

-- station s's box, entered at t, comes before station r's, entered at u: a tie goes to the lower station number
unfoldable pub comes_first : Float → ℕ → Float → ℕ → Bool
comes_first t s u r = lt t u || (eq t u && ltb s r)

-- station s's box in place of the one entered first so far, by its entry and its station, where it comes before that
unfoldable pub sooner : ℕ → Option Float → Option (Float × ℕ) → Option (Float × ℕ)
sooner s None best = best
sooner s (Some t) None = Some (t, s)
sooner s (Some t) (Some (u, r)) = cond (comes_first t s u r) (Some (t, s)) (Some (u, r))

-- the box entered first after each of these stations'
unfoldable pub look : List Box → Point → Point → ℕ → ℕ → List ℕ → Option (Float × ℕ) → Option (Float × ℕ)
look boxes p q a b [] best = best
look boxes p q a b (s ∷ ss) best = look boxes p q a b ss (sooner s (entry_at boxes p q a b s) best)

-- `first_hit`: of the occupied stations' boxes the one that the piece p q enters first, by its station
unfoldable pub first_hit : List Box → List ℕ → Point → Point → ℕ → ℕ → Option ℕ
first_hit boxes occupied p q a b = option_map (λ first. first.1) (look boxes p q a b occupied None)
