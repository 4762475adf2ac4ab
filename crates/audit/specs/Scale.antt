-- Refusal 8 in the audit: that of the occupied stations' boxes, with the piece ends. Definitions only.
use Rattle.std.specs.Prelude.{ℕ, Bool, not, ◌&&◌, ◌||◌, List, ltb, length, get_or, Float}
use Rattle.std.specs.Float.{nan}
use Rattle.numbers.specs.Ops.{f0}
use Rattle.plane.specs.declared.geometry.Box.{Box}
use Rattle.placement.specs.Sized.{largest, sized, ill_sized}
use Rattle.numbers.specs.Order.{all_to}

-- every piece end's coordinate divided by l is at most 2^40 in size
unfoldable pub sized_ends : Float → List Float → Bool
sized_ends l pieces = all_to (λ i. sized l (get_or pieces i nan)) (length pieces)

-- It is skipped where no station is occupied.
unfoldable pub ill_drawn : List Box → List ℕ → List Float → Bool
ill_drawn bs ss pieces = ill_sized bs ss || (ltb 0 (length ss) && not (sized_ends (largest bs f0 ss) pieces))
