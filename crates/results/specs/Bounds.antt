-- The bounds of a drawing (docs/RULES.md, 'Runs, pieces, roles and bounds'). Definitions only.
use Rattle.std.specs.Prelude.{ℕ, true, false, List, [], ◌∷◌}
use Rattle.std.specs.Float.{inf}
use Rattle.numbers.specs.Small.{min_of, max_of, is_finite}
use Rattle.numbers.specs.Ops.{f0, f1}
use Rattle.numbers.specs.Order.{pick}
use Rattle.plane.specs.declared.geometry.Box.{Box}
use Rattle.plane.specs.Plane.{box_in}

-- the least box around b and another
unfoldable pub around : Box → Box → Box
around b c =
    record {
      left = min_of b.left c.left;
      top = min_of b.top c.top;
      right = max_of b.right c.right;
      bottom = max_of b.bottom c.bottom;
    }

-- the least box around these stations' boxes and b
unfoldable pub around_all : List Box → Box → List ℕ → Box
around_all bs b [] = b
around_all bs b (s ∷ ss) = around_all bs (around b (box_in bs s)) ss

-- what nothing is around: every box around it and another is the other
abbrev pub nowhere : Box
nowhere = record { left = inf false; top = inf false; right = inf true; bottom = inf true }

-- the bounds of a drawing, 0, 0, 1, 1 where no station is occupied
unfoldable pub bounds_of : List Box → List ℕ → Box
bounds_of bs ss =
    let b = around_all bs nowhere ss in
    pick (is_finite b.left) b (record { left = f0; top = f0; right = f1; bottom = f1 })
