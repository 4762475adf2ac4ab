-- The audit's overlaps: the number of pairs of occupied stations' boxes that strictly overlap, that of the higher
-- number shrunk by 1e-9 on each side (docs/RULES.md, 'Overlaps'). Definitions only.
use Rattle.std.specs.Prelude.{ℕ, ◌+◌, Bool, ◌&&◌, List, [], ◌∷◌, ltb}
use Rattle.numbers.specs.Order.{count}
use Rattle.plane.specs.declared.geometry.Box.{Box}
use Rattle.plane.specs.Plane.{shrunk, box_in}
use Rattle.plane.specs.Overlap.{overlap}

-- stations t and s, of which s is the higher number, overlap
unfoldable pub overlapping : List Box → ℕ → ℕ → Bool
overlapping bs s t = ltb t s && overlap (shrunk (box_in bs s)) (box_in bs t)

-- the pairs of one of these stations, as the higher number, with one of ss
unfoldable pub overlapping_pairs : List Box → List ℕ → List ℕ → ℕ
overlapping_pairs bs ss [] = 0
overlapping_pairs bs ss (s ∷ higher) = count (overlapping bs s) ss + overlapping_pairs bs ss higher

unfoldable pub overlaps : List Box → List ℕ → ℕ
overlaps bs ss = overlapping_pairs bs ss ss
