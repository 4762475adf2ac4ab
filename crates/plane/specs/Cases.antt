-- Worked cases of pieces and boxes (docs/RULES.md, 'Where a piece enters a box'), each a table and a theorem. Floats
-- stand by their bits.
use Rattle.std.specs.Prelude.{◌≡◌, refl, ℕ, Bool, true, false, List, [], ◌∷◌, map, Float, Option, Some, None}
use Rattle.std.specs.Float.{binary64}
use Rattle.std.specs.Float.Ieee.{of_bits, lt, eq, neg, sub, div}
use Rattle.numbers.specs.Small.{max_of, min_of}
use Rattle.numbers.specs.Ops.{f0, f1}
use Rattle.plane.specs.Plane.{point, box_at}
use Rattle.plane.specs.Clip.{part, cut, clip_by, clipped, hits}
use Rattle.plane.specs.Entry.{enters}

-- does the piece (0, 0) to (1, 0) hit the box
abbrev hit : List ℕ → Bool
hit b = hits (point f0 f0) (point f1 f0) (box_at (map (of_bits binary64) b) 0)

-- boxes 1, 0, 2, 1 and 1.5, 0, 2, 1
abbrev boxes : List (List ℕ)
boxes =
    (0x3FF0_0000_0000_0000 ∷ 0 ∷ 0x4000_0000_0000_0000 ∷ 0x3FF0_0000_0000_0000 ∷ [])
    ∷ (0x3FF8_0000_0000_0000 ∷ 0 ∷ 0x4000_0000_0000_0000 ∷ 0x3FF0_0000_0000_0000 ∷ []) ∷ []

pub worked : map hit boxes ≡ true ∷ false ∷ []
unfolding hits clipped clip_by cut part of_bits lt eq neg sub div max_of min_of
worked = refl

-- where that piece enters the box: the first at its end
abbrev entry : List ℕ → Option Float
entry b = enters (point f0 f0) (point f1 f0) (box_at (map (of_bits binary64) b) 0)

pub places : map entry boxes ≡ Some f1 ∷ None ∷ []
unfolding enters clipped clip_by cut part of_bits lt eq neg sub div max_of min_of
places = refl
