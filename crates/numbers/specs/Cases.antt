-- Closed cases, which antt computes.
use Rattle.std.specs.Prelude.{◌≡◌, ℕ, true, false, [], ◌∷◌, map, refl}
use Rattle.std.specs.Float.{nan, inf, binary64}
use Rattle.std.specs.Float.Ieee.{of_bits, to_bits}
use Rattle.numbers.specs.Floor.{floor_of}
use Rattle.numbers.specs.Key.{key_of}
use Rattle.numbers.specs.Hypot.{hypot_of}

-- the bits of the hypotenuse of two bit patterns
abbrev bits_of : ℕ → ℕ → ℕ
bits_of a b = to_bits binary64 (hypot_of (of_bits binary64 a) (of_bits binary64 b))

three_four : bits_of 0x4008_0000_0000_0000 0x4010_0000_0000_0000 ≡ 0x4014_0000_0000_0000
unfolding hypot_of of_bits to_bits
three_four = refl

one_one : bits_of 0x3ff0_0000_0000_0000 0x3ff0_0000_0000_0000 ≡ 0x3ff6_a09e_667f_3bcd
unfolding hypot_of of_bits to_bits
one_one = refl

-- the least subnormal: the root of 2 rounds to 1
least : bits_of 1 1 ≡ 1
unfolding hypot_of of_bits to_bits
least = refl

-- overflow
over : bits_of 0x7fef_ffff_ffff_ffff 0x7fef_ffff_ffff_ffff ≡ 0x7ff0_0000_0000_0000
unfolding hypot_of of_bits to_bits
over = refl

-- an infinite side wins over a NaN
inf_nan : hypot_of (inf true) nan ≡ inf false
unfolding hypot_of
inf_nan = refl

nan_inf : hypot_of nan (inf true) ≡ inf false
unfolding hypot_of
nan_inf = refl

one_nan : hypot_of (of_bits binary64 0x3ff0_0000_0000_0000) nan ≡ nan
unfolding hypot_of of_bits
one_nan = refl

-- ---- floor, from bits to bits
abbrev floor_bits : ℕ → ℕ
floor_bits a = to_bits binary64 (floor_of (of_bits binary64 a))

-- 2.5 and -2.5
half_up : floor_bits 0x4004_0000_0000_0000 ≡ 0x4000_0000_0000_0000
unfolding floor_of of_bits to_bits
half_up = refl

half_down : floor_bits 0xc004_0000_0000_0000 ≡ 0xc008_0000_0000_0000
unfolding floor_of of_bits to_bits
half_down = refl

-- -0 stays, the least subnormal goes to +0 and its negative to -1
minus_zero : floor_bits 0x8000_0000_0000_0000 ≡ 0x8000_0000_0000_0000
unfolding floor_of of_bits to_bits
minus_zero = refl

tiny : floor_bits 1 ≡ 0
unfolding floor_of of_bits to_bits
tiny = refl

minus_tiny : floor_bits 0x8000_0000_0000_0001 ≡ 0xbff0_0000_0000_0000
unfolding floor_of of_bits to_bits
minus_tiny = refl

-- the largest value stays
largest : floor_bits 0x7fef_ffff_ffff_ffff ≡ 0x7fef_ffff_ffff_ffff
unfolding floor_of of_bits to_bits
largest = refl

-- ---- keys: the infinities, the zeros and the values next to them, in order
keys : map key_of
    (0xfff0_0000_0000_0000 ∷ 0xbff0_0000_0000_0000 ∷ 0x8000_0000_0000_0001 ∷ 0x8000_0000_0000_0000
    ∷ 0 ∷ 1 ∷ 0x7ff0_0000_0000_0000 ∷ [])
    ≡ 0x000f_ffff_ffff_ffff ∷ 0x400f_ffff_ffff_ffff ∷ 0x7fff_ffff_ffff_fffe ∷ 0x7fff_ffff_ffff_ffff
    ∷ 0x8000_0000_0000_0000 ∷ 0x8000_0000_0000_0001 ∷ 0xfff0_0000_0000_0000 ∷ []
unfolding key_of
keys = refl
