-- Worked cases of overlaps. Floats stand by their bits. Assumes nothing.
use mathlib.Core.Path.{◌≡◌, refl}
use Prim.Native.Nat.{ℕ}
use mathlib.Core.List.{List, [], ◌∷◌, map}
use lib.Count.{count_trailing_zeros}
use lib.ListN.{length}
use lib.Ieee.{binary64, of_bits, of_fields, odd, units, round, size, span, climb, sum, neg, lt, add, sub}
use Rattle.numbers.specs.Order.{count, up_from}
use Rattle.plane.specs.declared.geometry.Box.{Box}
use Rattle.plane.specs.Overlap.{meet, overlap}
use Rattle.audit.specs.Overlaps.{overlapping, overlapping_pairs, overlaps}

abbrev box : ℕ → ℕ → ℕ → ℕ → Box
box a b c d = record { left = of_bits binary64 a; top = of_bits binary64 b; right = of_bits binary64 c; bottom = of_bits binary64 d }

-- −0.125, −0.25, 0.125, 0.25: one bus at (0, 0) with fill 1/2
abbrev one : Box
one = box 0xBFC0_0000_0000_0000 0xBFD0_0000_0000_0000 0x3FC0_0000_0000_0000 0x3FD0_0000_0000_0000

-- 0, 0, 1, 1
abbrev unit : Box
unit = box 0 0 0x3FF0_0000_0000_0000 0x3FF0_0000_0000_0000

-- 1, 0, 2, 1, which touches it, and 1 − 1.5e-9, 0, 2, 1
abbrev beside : Box
beside = box 0x3FF0_0000_0000_0000 0 0x4000_0000_0000_0000 0x3FF0_0000_0000_0000

abbrev nearly : Box
nearly = box 0x3FEF_FFFF_FF31_D771 0 0x4000_0000_0000_0000 0x3FF0_0000_0000_0000

-- 0.8e-9, 0.8e-9, 2.3e-9, 2.3e-9, which turns inside out
abbrev tiny : Box
tiny = box 0x3E0B_7CDF_D9D7_BDBB 0x3E0B_7CDF_D9D7_BDBB 0x3E23_C1C0_E493_105E 0x3E23_C1C0_E493_105E

-- two and three stations on one seed; touching boxes; one box of a pair shrunk, not both; two that turn inside out
abbrev drawings : List (List Box)
drawings = (one ∷ one ∷ []) ∷ (one ∷ one ∷ one ∷ []) ∷ (unit ∷ beside ∷ []) ∷ (unit ∷ nearly ∷ []) ∷ (tiny ∷ tiny ∷ []) ∷ []

pub overlap_cases : map (λ bs. overlaps bs (up_from 0 (length bs))) drawings ≡ 1 ∷ 3 ∷ 0 ∷ 1 ∷ 1 ∷ []
unfolding overlaps overlapping_pairs overlapping count up_from meet overlap of_bits of_fields odd units round size span climb sum neg lt add sub count_trailing_zeros
overlap_cases = refl
