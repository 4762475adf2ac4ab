-- IEEE 754-2019, clause 5.10: totalOrder of two binary64 bit patterns, clause by clause. Definitions only.
-- A pattern is a whole number below 2 ^ 64: by clause 3.4 a bit of sign, 11 of exponent and 52 of fraction.
use Rattle.std.specs.Prelude.{ℕ, ◌/◌, ◌%◌, ◌^◌, Bool, true, false, cond, not, ◌&&◌, ◌==◌, nat_le}
use Rattle.std.specs.Float.Ieee.{lt, of_bits}
use Rattle.std.specs.Float.{binary64}

-- the sign bit is set
abbrev pub negative : ℕ → Bool
negative x = nat_le (2 ^ 63) x

abbrev pub exponent : ℕ → ℕ
exponent x = x / 2 ^ 52 % 2 ^ 11

abbrev pub fraction : ℕ → ℕ
fraction x = x % 2 ^ 52

-- 3.4: the exponent's bits are all ones and the fraction isn't 0
abbrev pub is_nan : ℕ → Bool
is_nan x = exponent x == 2047 && not (fraction x == 0)

-- 6.2.1: the fraction's first bit is 1 in a quiet NaN and 0 in a signaling one; the others are the payload
abbrev pub quiet : ℕ → Bool
quiet x = nat_le (2 ^ 51) (fraction x)

abbrev pub payload : ℕ → ℕ
payload x = fraction x % 2 ^ 51

-- x < y as numbers
abbrev pub less : ℕ → ℕ → Bool
less x y = lt (of_bits binary64 x) (of_bits binary64 y)

-- Two numbers. a) true if x < y; b) false if x > y; c) if x = y, true of -0 and +0, false of +0 and -0;
-- else both are the same datum, which a binary format represents in one way, and it is true.
abbrev pub numbers : ℕ → ℕ → Bool
numbers x y = cond (less x y) true (cond (less y x) false (cond (negative y) (negative x) true))

-- Two NaNs of positive sign. d.3 ii) signaling orders below quiet; iii) then lesser payload below greater.
abbrev pub positive_nans : ℕ → ℕ → Bool
positive_nans x y =
    cond (quiet x)
    (cond (quiet y) (nat_le (payload x) (payload y)) false)
    (cond (quiet y) true (nat_le (payload x) (payload y)))

-- Two NaNs. d.3 i) negative sign orders below positive; ii), iii) the reverse for negative sign.
abbrev pub nans : ℕ → ℕ → Bool
nans x y = cond (negative x) (cond (negative y) (positive_nans y x) true) (cond (negative y) false (positive_nans x y))

-- d.1) a NaN and a number: true if the NaN has negative sign; d.2) a number and a NaN: true if the NaN has positive
-- sign.
unfoldable pub total_order : ℕ → ℕ → Bool
unfolding lt of_bits
total_order x y =
    cond (is_nan x)
    (cond (is_nan y) (nans x y) (negative x))
    (cond (is_nan y) (not (negative y)) (numbers x y))

-- x stands before y: the strict order
unfoldable pub before : ℕ → ℕ → Bool
unfolding total_order
before x y = not (total_order y x)
