-- Float operations at binary64, each rounded once (docs/RULES.md, 'Rounding'), whole numbers as floats, constants by
-- their bit patterns. Definitions only.
use Rattle.std.specs.Prelude.{ℕ, ℤ, pos, from_bits, to_bits, Float}
use Rattle.std.specs.Float.{binary64}
use Rattle.std.specs.Float.Ieee.{add, sub, mul, div, of_int}
use Rattle.numbers.specs.Key.{key_of}

infixl 65 ◌⊕◌ ◌⊖◌
infixl 70 ◌⊗◌ ◌⊘◌
abbrev pub ◌⊕◌ : Float → Float → Float
x ⊕ y = add binary64 x y

abbrev pub ◌⊖◌ : Float → Float → Float
x ⊖ y = sub binary64 x y

abbrev pub ◌⊗◌ : Float → Float → Float
x ⊗ y = mul binary64 x y

abbrev pub ◌⊘◌ : Float → Float → Float
x ⊘ y = div binary64 x y

-- a whole number as a float
abbrev pub num : ℕ → Float
num n = of_int binary64 (pos n)

abbrev pub int : ℤ → Float
int z = of_int binary64 z

-- 0, 0.5, 1, 2, 3, 4
abbrev pub f0 : Float
f0 = from_bits binary64 0

abbrev pub f½ : Float
f½ = from_bits binary64 0x3FE0_0000_0000_0000

abbrev pub f1 : Float
f1 = from_bits binary64 0x3FF0_0000_0000_0000

abbrev pub f2 : Float
f2 = from_bits binary64 0x4000_0000_0000_0000

abbrev pub f3 : Float
f3 = from_bits binary64 0x4008_0000_0000_0000

abbrev pub f4 : Float
f4 = from_bits binary64 0x4010_0000_0000_0000

-- f64::MIN_POSITIVE, 2 ^ -1022
abbrev pub least_normal : Float
least_normal = from_bits binary64 0x0010_0000_0000_0000

-- the place of a float that is no NaN in the order of `total_cmp`
abbrev pub order_key : Float → ℕ
order_key x = key_of (to_bits binary64 x)
