-- Refusal 8: the largest of right − left and bottom − top over occupied stations' boxes is 0, or a corner of these
-- boxes divided by it isn't at most 2^40 in size (docs/RULES.md, 'Refusals'). Definitions only.
use Rattle.std.specs.Prelude.{ℕ, Bool, true, false, not, ◌&&◌, ◌||◌, List, [], ◌∷◌, Float}
use Rattle.std.specs.Float.{binary64}
use Rattle.std.specs.Float.Ieee.{le, eq, of_bits}
use Rattle.numbers.specs.Small.{max_of, abs_of}
use Rattle.numbers.specs.Ops.{f0, ◌⊖◌, ◌⊘◌}
use Rattle.plane.specs.declared.geometry.Box.{Box}
use Rattle.plane.specs.Plane.{box_in}

-- the largest of a number, right − left and bottom − top of a box; over these stations' boxes
abbrev pub larger_side : Float → Box → Float
larger_side l b = max_of (max_of l (b.right ⊖ b.left)) (b.bottom ⊖ b.top)

unfoldable pub largest : List Box → Float → List ℕ → Float
largest bs l [] = l
largest bs l (s ∷ ss) = largest bs (larger_side l (box_in bs s)) ss

-- a corner's coordinate divided by it is at most 2^40 in size
unfoldable pub sized : Float → Float → Bool
sized l c = le (abs_of (c ⊘ l)) (of_bits binary64 0x4270_0000_0000_0000)

unfoldable pub sized_box : Float → Box → Bool
sized_box l b = sized l b.left && (sized l b.top && (sized l b.right && sized l b.bottom))

unfoldable pub all_sized : List Box → Float → List ℕ → Bool
all_sized bs l [] = true
all_sized bs l (s ∷ ss) = sized_box l (box_in bs s) && all_sized bs l ss

-- Refusal 8 is skipped where no station is occupied.
unfoldable pub ill_sized : List Box → List ℕ → Bool
ill_sized bs [] = false
ill_sized bs (s ∷ ss) = let l = largest bs f0 (s ∷ ss) in eq l f0 || not (all_sized bs l (s ∷ ss))
