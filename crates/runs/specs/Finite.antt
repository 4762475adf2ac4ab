-- Whether points, boxes and bars are finite. Definitions only.
use Rattle.std.specs.Prelude.{Bool, true, ◌&&◌, List, [], ◌∷◌}
use Rattle.numbers.specs.Small.{is_finite}
use Rattle.plane.specs.declared.geometry.Point.{Point}
use Rattle.plane.specs.declared.geometry.Box.{Box}
use Rattle.stations.specs.declared.bars.Bar.{Bar}

-- all of a list pass the test
unfoldable pub all_of : {A : Type 0} → (A → Bool) → List A → Bool
all_of p [] = true
all_of p (x ∷ xs) = p x && all_of p xs

unfoldable pub finite_point : Point → Bool
finite_point p = is_finite p.x && is_finite p.y

unfoldable pub finite_box : Box → Bool
finite_box b = is_finite b.left && (is_finite b.top && (is_finite b.right && is_finite b.bottom))

unfoldable pub finite_bar : Bar → Bool
finite_bar b = is_finite b.x && (is_finite b.y0 && is_finite b.y1)
