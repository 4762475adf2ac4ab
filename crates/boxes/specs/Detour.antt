-- `detour`: at most four points put into a path, each beside a box that a piece of it hits
-- (docs/RULES.md, 'Detour'). Definitions only.
use Rattle.std.specs.Prelude.{ℕ, zero, suc, List, [], ◌∷◌, Float, Some, None}
use Rattle.plane.specs.declared.geometry.Point.{Point}
use Rattle.plane.specs.declared.geometry.Box.{Box}
use Rattle.plane.specs.Plane.{box_in}
use Rattle.boxes.specs.First.{first_hit}
use Rattle.boxes.specs.Corner.{corner}

module _ (boxes : List Box) (occupied : List ℕ) (clearance : Float) (a b : ℕ) where
  -- The pieces from p on, in turn. Where one hits a box a point is put in, and `again` looks at the path from that
  -- piece on.
  unfoldable pub detour_on : (List Point → List Point) → Point → List Point → List Point
  detour_on again p [] = p ∷ []
  detour_on again p (q ∷ rest) =
      elim (first_hit boxes occupied p q a b) [
        | None ↦ p ∷ detour_on again q rest
        | Some s ↦ again (p ∷ corner p q (box_in boxes s) clearance ∷ q ∷ rest)
      ]

  -- with at most n points put in
  unfoldable pub detour_to : ℕ → List Point → List Point
  detour_to zero path = path
  detour_to (suc n) [] = []
  detour_to (suc n) (p ∷ rest) = detour_on (detour_to n) p rest

  -- at most four for the whole path
  unfoldable pub detour : List Point → List Point
  detour path = detour_to 4 path
