-- Points and boxes, and how lists of numbers hold them. Definitions only.
use Rattle.std.specs.Prelude.{ℕ, ◌+◌, ◌*◌, List, get_or, Float}
use Rattle.std.specs.Float.{nan, binary64}
use Rattle.std.specs.Float.Ieee.{of_bits}
use Rattle.numbers.specs.Ops.{◌⊕◌, ◌⊖◌, f0}
use Rattle.plane.specs.declared.geometry.Point.{Point}
use Rattle.plane.specs.declared.geometry.Box.{Box}

abbrev pub point : Float → Float → Point
point a b = record { x = a; y = b }

abbrev pub origin : Point
origin = point f0 f0

-- the point s of a list of coordinates, x at 2 s and y at 2 s + 1
abbrev pub point_at : List Float → ℕ → Point
point_at cs s = point (get_or cs (2 * s) nan) (get_or cs (2 * s + 1) nan)

-- the box s of a list of four numbers each
abbrev pub box_at : List Float → ℕ → Box
box_at bs s =
    record {
      left = get_or bs (4 * s) nan;
      top = get_or bs (4 * s + 1) nan;
      right = get_or bs (4 * s + 2) nan;
      bottom = get_or bs (4 * s + 3) nan;
    }

-- the box of a station in a list of boxes, and what stands there for a station without buses
abbrev pub no_box : Box
no_box = record { left = f0; top = f0; right = f0; bottom = f0 }

abbrev pub box_in : List Box → ℕ → Box
box_in bs s = get_or bs s no_box

-- 1e-9
abbrev pub shrinking : Float
shrinking = of_bits binary64 0x3E11_2E0B_E826_D695

-- a box with its sides moved in by 1e-9
abbrev pub shrunk : Box → Box
shrunk b = record { left = b.left ⊕ shrinking; top = b.top ⊕ shrinking; right = b.right ⊖ shrinking; bottom = b.bottom ⊖ shrinking }
