-- Closed cases, which antt computes: why a product, a quotient or hypot must be above 2 ^ -1022 to double, and why 'the
-- result is 0' is not enough.
use Rattle.std.specs.Prelude.{◌≡◌, ℕ, refl}
use Rattle.std.specs.Float.{binary64}
use Rattle.std.specs.Float.Ieee.{mul, of_bits, to_bits}
use Rattle.numbers.specs.Hypot.{hypot_of}
use Rattle.numbers.specs.Double.{twice}

-- the product of two bit patterns, the product of twice the first, and twice the product
abbrev product : ℕ → ℕ → ℕ
product a b = to_bits binary64 (mul binary64 (of_bits binary64 a) (of_bits binary64 b))

abbrev of_twice : ℕ → ℕ → ℕ
of_twice a b = to_bits binary64 (mul binary64 (twice (of_bits binary64 a)) (of_bits binary64 b))

abbrev twice_of : ℕ → ℕ → ℕ
twice_of a b = to_bits binary64 (twice (mul binary64 (of_bits binary64 a) (of_bits binary64 b)))

-- 2 ^ -1022 times 1 - 2 ^ -53 is rounded up to 2 ^ -1022. Doubled it is exact, one grain below twice that.
least_product : product 0x0010_0000_0000_0000 0x3FEF_FFFF_FFFF_FFFF ≡ 0x0010_0000_0000_0000
unfolding mul of_bits to_bits
least_product = refl

least_of_twice : of_twice 0x0010_0000_0000_0000 0x3FEF_FFFF_FFFF_FFFF ≡ 0x001F_FFFF_FFFF_FFFF
unfolding mul of_bits to_bits twice
least_of_twice = refl

least_twice : twice_of 0x0010_0000_0000_0000 0x3FEF_FFFF_FFFF_FFFF ≡ 0x0020_0000_0000_0000
unfolding mul of_bits to_bits twice
least_twice = refl

-- the least number times 0.5 is rounded to 0, doubled it is the least number
zero_product : product 1 0x3FE0_0000_0000_0000 ≡ 0
unfolding mul of_bits to_bits
zero_product = refl

zero_of_twice : of_twice 1 0x3FE0_0000_0000_0000 ≡ 1
unfolding mul of_bits to_bits twice
zero_of_twice = refl

-- hypot of the least number and itself is the least number; doubled it is three times that
hypot_least : to_bits binary64 (hypot_of (of_bits binary64 1) (of_bits binary64 1)) ≡ 1
unfolding hypot_of of_bits to_bits
hypot_least = refl

hypot_of_twice : to_bits binary64 (hypot_of (twice (of_bits binary64 1)) (twice (of_bits binary64 1))) ≡ 3
unfolding hypot_of of_bits to_bits twice
hypot_of_twice = refl
