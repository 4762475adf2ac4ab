-- The box entered first, which antt computes: a wide box before a narrow one whose middle is nearer, and a tie. Floats
-- stand by their bits.
use Rattle.std.specs.Prelude.{◌≡◌, refl, ℕ, List, [], ◌∷◌, map, Option, Some, None}
use Rattle.std.specs.Float.{binary64}
use Rattle.std.specs.Float.Ieee.{of_bits, lt, eq, neg, sub, div}
use Rattle.numbers.specs.Small.{max_of, min_of}
use Rattle.numbers.specs.Table.{table_from}
use Rattle.plane.specs.Plane.{point}
use Rattle.plane.specs.Clip.{part, cut, clip_by, clipped}
use Rattle.plane.specs.Entry.{enters}
use Rattle.network.specs.Views.{boxes_in}
use Rattle.boxes.specs.First.{entry_at, comes_first, sooner, look, first_hit}

-- no station: none is passed over
abbrev none : ℕ
none = 4294967295

-- the piece (0, 0.5) to (10, 0.5) among two boxes of these numbers, a's and b's passed over
abbrev first : ℕ → ℕ → List ℕ → Option ℕ
first a b l =
    first_hit
    (boxes_in 2 (map (of_bits binary64) l))
    (0 ∷ 1 ∷ [])
    (point (of_bits binary64 0) (of_bits binary64 0x3FE0_0000_0000_0000))
    (point (of_bits binary64 0x4024_0000_0000_0000) (of_bits binary64 0x3FE0_0000_0000_0000))
    a
    b

-- boxes 1, 0, 3, 9 and 3.25, 0, 4.25, 1
abbrev apart : List ℕ
apart =
    0x3FF0_0000_0000_0000 ∷ 0 ∷ 0x4008_0000_0000_0000 ∷ 0x4022_0000_0000_0000
    ∷ 0x400A_0000_0000_0000 ∷ 0 ∷ 0x4011_0000_0000_0000 ∷ 0x3FF0_0000_0000_0000 ∷ []

-- boxes −1, 0, 3, 9 and −1, 0, 4.25, 1, in which the piece begins
abbrev both : List ℕ
both =
    0xBFF0_0000_0000_0000 ∷ 0 ∷ 0x4008_0000_0000_0000 ∷ 0x4022_0000_0000_0000
    ∷ 0xBFF0_0000_0000_0000 ∷ 0 ∷ 0x4011_0000_0000_0000 ∷ 0x3FF0_0000_0000_0000 ∷ []

pub worked :
    first none none apart ∷ first 0 none apart ∷ first none 0 apart ∷ first 0 1 apart ∷ first none none both
    ∷ first 0 none both ∷ first none 0 both ∷ []
    ≡ Some 0 ∷ Some 1 ∷ Some 1 ∷ None ∷ Some 0 ∷ Some 1 ∷ Some 1 ∷ []
unfolding first_hit look sooner comes_first entry_at enters clipped clip_by cut part boxes_in table_from of_bits lt
    eq neg sub div max_of min_of
worked = refl
