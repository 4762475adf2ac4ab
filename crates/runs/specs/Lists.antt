-- The drawing as lists of numbers, and a lent list after it. Definitions only.
use Rattle.std.specs.Prelude.{List, [], ◌∷◌, ◌++◌, Float, Option, Some, None}
use Rattle.plane.specs.declared.geometry.Point.{Point}
use Rattle.plane.specs.declared.geometry.Box.{Box}
use Rattle.stations.specs.declared.bars.Bar.{Bar}
use Rattle.runs.specs.Run.{Piece}
use Rattle.numbers.specs.Over.{over}

unfoldable pub flat : {A B : Type 0} → (A → List B) → List A → List B
flat f [] = []
flat f (x ∷ xs) = f x ++ flat f xs

abbrev pub point_numbers : Point → List Float
point_numbers p = p.x ∷ p.y ∷ []

abbrev pub box_numbers : Box → List Float
box_numbers b = b.left ∷ b.top ∷ b.right ∷ b.bottom ∷ []

abbrev pub bar_numbers : Bar → List Float
bar_numbers b = b.x ∷ b.y0 ∷ b.x ∷ b.y1 ∷ []

abbrev pub piece_numbers : Piece → List Float
piece_numbers p = p.start.x ∷ p.start.y ∷ p.end.x ∷ p.end.y ∷ []

-- A refusal changes no result list.
unfoldable pub after : {A R : Type 0} → Option R → List A → List A → List A
after None new old = over new old
after (Some r) new old = old
