-- Which bit patterns are a NaN's, by one comparison, and the keys of a NaN and of any number.
-- Assumes nothing.
use Rattle.std.proofs.Common.{◌≡◌, ℕ, ◌-◌, ◌*◌, ◌%◌, ◌^◌, ◌<◌, ◌≤◌, Bool, true, false, not, T, sym, refl, ap, ◌∙◌, subst, true≢false, le-ltb, lt-ltb, arith}
use native.Mathlib.Decide.{dec_le}
use lib.Ieee.{Float, nan, inf, fin, binary64, is_nan, hid, ones, top, fits, of_fields, of_bits, to_bits, nan_bits}
use lib.Ieee.Bits.{nan_bits_is, nan_bits_above, of_bits-to_bits, to_bits-lt}
use Rattle.numbers.specs.Key.{key_of}
use Rattle.numbers.specs.Ops.{order_key}
use Rattle.numbers.proofs.float.Keys.{key_low, key_high}

only_nan : (x : Float) → is_nan x ≡ true → x ≡ nan
unfolding is_nan
only_nan nan h = refl
only_nan (inf s) h = absurd (true≢false (sym h))
only_nan (fin s m e) h = absurd (true≢false (sym h))

pub nan_above : (p : ℕ) → 0x7FF0_0000_0000_0000 < p % 0x8000_0000_0000_0000 → of_bits binary64 p ≡ nan
nan_above p h =
    only_nan (of_bits binary64 p) (sym (nan_bits_is binary64 p) ∙ nan_bits_above binary64 p ∙ lt-ltb (ones binary64 * hid binary64) (p % top binary64) h)

pub number_below : (p : ℕ) → p % 0x8000_0000_0000_0000 ≤ 0x7FF0_0000_0000_0000 → T (not (nan_bits binary64 p))
number_below p h =
    subst (λ (t : Bool). T (not t)) (sym (nan_bits_above binary64 p ∙ le-ltb (ones binary64 * hid binary64) (p % top binary64) h)) tt

pub nan_pattern : of_bits binary64 0x7ff8_0000_0000_0000 ≡ nan
unfolding of_bits of_fields nan_bits
nan_pattern = refl

-- the key of every NaN is that of the one pattern
pub key_nan : (x : Float) → is_nan x ≡ true → 0xfff8_0000_0000_0000 ≡ order_key x
unfolding is_nan key_of to_bits
key_nan nan h = refl
key_nan (inf s) h = absurd (true≢false (sym h))
key_nan (fin s m e) h = absurd (true≢false (sym h))

-- ---- no number has the largest key
last_bits : of_bits binary64 0x7fff_ffff_ffff_ffff ≡ nan
unfolding of_bits of_fields nan_bits
last_bits = refl

-- the largest key would be that of a NaN pattern
key_less : (b : ℕ) → b < 2 ^ 64 → (b ≡ 0x7fff_ffff_ffff_ffff → ⊥) → key_of b < 2 ^ 64 - 1
key_less b h n = go (dec_le (2 ^ 63) b)
  where
    go : Dec (2 ^ 63 ≤ b) → key_of b < 2 ^ 64 - 1
    go (yes l) = omega (arith, key_high b l)
    go (no f) = let l : b < 2 ^ 63 = omega arith in omega (arith, key_low b l)

pub key_fits : (x : Float) → T (fits binary64 x) → is_nan x ≡ false → order_key x < 2 ^ 64 - 1
unfolding is_nan
key_fits x f n =
    key_less (to_bits binary64 x) (to_bits-lt binary64 x f)
    (λ e. subst (λ (y : Float). is_nan y ≡ false → ⊥) (sym last_bits ∙ ap (of_bits binary64) (sym e) ∙ of_bits-to_bits binary64 x f) nan_is n)
  where
    nan_is : is_nan nan ≡ false → ⊥
    nan_is h = absurd (subst T h tt)
