-- Worked cases of spacing (docs/RULES.md, 'Spacing on a channel'), and two more that a slip would change. Floats stand by their bits.
use mathlib.Core.Path.{◌≡◌, refl}
use Prim.Native.Nat.{ℕ}
use mathlib.Core.List.{List, [], ◌∷◌, map}
use lib.Ieee.{binary64, of_bits, to_bits, is_nan, units, lt, eq, add, sub, mul, div, of_int}
use Rattle.numbers.specs.Small.{max_of, min_of, clamp_of}
use Rattle.numbers.specs.Key.{key_of}
use Rattle.numbers.specs.Order.{insert_by, sort_by, up_from}
use Rattle.channels.specs.Space.{wish_key, wish_order, in_order, even_at, forward, forward_all, backward, crowded, spaced, put_all, placed}

-- the places of wishes on a channel from lo to hi with a least step
abbrev places : ℕ → ℕ → ℕ → List ℕ → List ℕ
places lo hi least_step ws = map (to_bits binary64) (placed (record { lo = of_bits binary64 lo; hi = of_bits binary64 hi; least_step = of_bits binary64 least_step }) (map (of_bits binary64) ws))

-- 0.25, 0.5, 0.75, 1, -0
abbrev b14 : ℕ
b14 = 0x3FD0_0000_0000_0000

abbrev b12 : ℕ
b12 = 0x3FE0_0000_0000_0000

abbrev b34 : ℕ
b34 = 0x3FE8_0000_0000_0000

abbrev b1 : ℕ
b1 = 0x3FF0_0000_0000_0000

abbrev minus : ℕ
minus = 0x8000_0000_0000_0000

-- three wishes 0.5 on 0 to 1, by their least steps
abbrev three : ℕ → List ℕ
three least_step = places 0 b1 least_step (b12 ∷ b12 ∷ b12 ∷ [])

-- 0.4 and 0.03: six wishes of 1 on 0.25 to 0.4, of which the first falls below 0.25 by rounding
abbrev six : List ℕ
six = places b14 0x3FD9_9999_9999_999A 0x3F9E_B851_EB85_1EB8 (b1 ∷ b1 ∷ b1 ∷ b1 ∷ b1 ∷ b1 ∷ [])

-- a wish of -0 stands before one of +0, whatever their numbers
abbrev zeros : List ℕ
zeros = places 0 b1 b14 (0 ∷ minus ∷ [])

abbrev answers : List (List ℕ)
answers = three b14 ∷ three b12 ∷ three b34 ∷ six ∷ zeros ∷ []

abbrev table : List (List ℕ)
table =
    (b12 ∷ b34 ∷ b1 ∷ [])
    ∷ (0 ∷ b12 ∷ b1 ∷ [])
    ∷ (0 ∷ b12 ∷ b1 ∷ [])
    ∷ (0x3FCF_FFFF_FFFF_FFFD ∷ 0x3FD1_EB85_1EB8_51EA ∷ 0x3FD3_D70A_3D70_A3D6 ∷ 0x3FD5_C28F_5C28_F5C2 ∷ 0x3FD7_AE14_7AE1_47AE ∷ 0x3FD9_9999_9999_999A ∷ [])
    ∷ (b14 ∷ minus ∷ [])
    ∷ []

pub worked : answers ≡ table
unfolding wish_key wish_order in_order even_at forward forward_all backward crowded spaced put_all placed max_of min_of clamp_of key_of insert_by sort_by up_from is_nan of_bits to_bits units lt eq add sub mul div of_int
worked = refl
