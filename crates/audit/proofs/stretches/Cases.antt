-- A worked case of the audit's relative lengths. Floats stand by their bits. Assumes nothing.
use mathlib.Core.Path.{◌≡◌, refl}
use mathlib.Core.List.{List, [], ◌∷◌, map}
use lib.Count.{count_trailing_zeros}
use lib.Ieee.{Float, binary64, of_bits, of_fields, to_bits, odd, units, round, size, span, climb, sum, neg, lt, add, sub, div}
use Rattle.numbers.specs.Hypot.{hypot_of}
use Rattle.plane.specs.Near.{distance}
use Rattle.audit.specs.Fit.{is_line}
use Rattle.audit.specs.Relative.{piece_start, piece_end, longer, begun, ratio, ended, relative_on, relatives}

-- Pieces (0, 0) to (3, 4) to (0, 8) of line 0, one of branch 1, which is none, and one without length of line 0: 10 / 8, and 1.
abbrev numbers : List Float
numbers =
    map (of_bits binary64)
    (0 ∷ 0 ∷ 0x4008_0000_0000_0000 ∷ 0x4010_0000_0000_0000 ∷ 0x4008_0000_0000_0000 ∷ 0x4010_0000_0000_0000 ∷ 0 ∷ 0x4020_0000_0000_0000
    ∷ 0 ∷ 0 ∷ 0x3FF0_0000_0000_0000 ∷ 0 ∷ 0 ∷ 0 ∷ 0 ∷ 0 ∷ [])

pub relative_case : map (to_bits binary64) (relatives (0 ∷ 1 ∷ []) numbers (0 ∷ 0 ∷ 1 ∷ 0 ∷ [])) ≡ 0x3FF4_0000_0000_0000 ∷ 0x3FF0_0000_0000_0000 ∷ []
unfolding relatives relative_on begun longer ended ratio is_line piece_start piece_end distance hypot_of of_bits of_fields to_bits odd units round size span climb sum neg lt add sub div count_trailing_zeros
relative_case = refl
