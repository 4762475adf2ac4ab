-- What std says of abs and is_finite, and signs of bit patterns. Assumes nothing.
use Rattle.std.proofs.Common.{◌≡◌, ℕ, zero, suc, ◌+◌, ◌*◌, ◌^◌, ◌<◌, ◌≤◌, Bool, true, false, ◌&&◌, T, eqb, ◌⊎◌, ℤ, pos, negsuc, sym, refl, ap, ◌∙◌, inl, inr, true≢false, eq-zero-or-pos, mul-pos, one-mul, zero-mul, mul-one, arith, eqb→eq, pow_pos, ltb-false, ltb-true, eq-eqb, eqb-true}
use native.Mathlib.Nat.{pow-succ'}
use lib.Ieee.{Float, nan, inf, fin, up, down, lt, eq, neg, fits, of_bits, of_fields, binary64, odd}
use lib.Ieee.Fits.{up_pos}
use Rattle.std.specs.Float.{float_with_sign, float_is_finite}
use Rattle.numbers.specs.Small.{abs_of, is_finite}

-- std's words say the same
pub std_abs : (x : Float) → float_with_sign false x ≡ abs_of x
unfolding float_with_sign abs_of
std_abs nan = refl
std_abs (inf s) = refl
std_abs (fin s m e) = refl

pub std_is_finite : (x : Float) → float_is_finite x ≡ is_finite x
unfolding float_is_finite is_finite
std_is_finite nan = refl
std_is_finite (inf s) = refl
std_is_finite (fin s m e) = refl

no_power : (x y : ℕ) → x ≡ 2 * y → 0 < y → x ≡ 1 → ⊥
no_power x y e p h = omega arith

-- 2 ^ e is 1 / 1 only for e = 0
pub plain : (e : ℤ) → up e * down e ≡ 1 → e ≡ pos 0
plain (pos zero) h = refl
plain (pos (suc a)) h = absurd (no_power (2 ^ suc a) (2 ^ a) (pow-succ' 2 a) (pow_pos a) (sym (mul-one (2 ^ suc a)) ∙ h))
plain (negsuc a) h = absurd (no_power (2 ^ suc a) (2 ^ a) (pow-succ' 2 a) (pow_pos a) (sym (one-mul (2 ^ suc a)) ∙ h))

pub zero_bits : of_bits binary64 0 ≡ fin false 0 (pos 0)
unfolding of_bits of_fields odd
zero_bits = refl

pub inf_bits : of_bits binary64 0x7ff0_0000_0000_0000 ≡ inf false
unfolding of_bits of_fields odd
inf_bits = refl

-- x = 0: both zeros give +0
pub no_magnitude : (m u : ℕ) → 0 < u → m * u * 1 ≡ 0 → m ≡ 0
no_magnitude m u p h = go (eq-zero-or-pos m)
  where
    no : (w : ℕ) → 0 < m * u → m * u * 1 ≡ 0 → ⊥
    no w a b = omega arith

    go : (m ≡ 0) ⊎ (0 < m) → m ≡ 0
    go (inl e) = e
    go (inr q) = absurd (no 0 (mul-pos q p) h)

zero_fits : (s : Bool) (m : ℕ) (e : ℤ) → T (fits binary64 (fin s m e)) → m ≡ 0 → fin false 0 (pos 0) ≡ fin false m e
unfolding fits
zero_fits s zero e h z = ap (λ (d : ℤ). fin false 0 d) (sym (plain e (eqb→eq (up e * down e) 1 h)))
zero_fits s (suc m) e h z = absurd (no-suc m z)
  where
    no-suc : (n : ℕ) → suc n ≡ 0 → ⊥
    no-suc n q = omega arith

and_left : (a b : Bool) → (a && b) ≡ true → a ≡ true
and_left true b h = refl
and_left false b h = h

abs_zero : (x : Float) → T (fits binary64 x) → eq x (fin false 0 (pos 0)) ≡ true → fin false 0 (pos 0) ≡ abs_of x
unfolding eq abs_of
abs_zero nan f h = absurd (true≢false (sym h))
abs_zero (inf s) f h = absurd (true≢false (sym h))
abs_zero (fin s m e) f h =
    zero_fits s m e f (no_magnitude m (up e) (up_pos e) (eqb-true _ _ (and_left _ _ h) ∙ zero-mul (down e)))

pub abs_at : (x : Float) → T (fits binary64 x) → eq x (of_bits binary64 0) ≡ true → of_bits binary64 0 ≡ abs_of x
abs_at x = rw zero_bits (abs_zero x)

-- the sign goes through
pub odd_neg : (d q k l : ℕ) → odd d true q k l ≡ neg (odd d false q k l)
unfolding odd neg
odd_neg d zero k l = refl
odd_neg d (suc q) k l = refl

-- finite numbers and sizes, by comparisons with the infinities and with 0
below_inf : (x : Float) → lt x (inf false) ≡ true → lt (neg (inf false)) x ≡ is_finite x
unfolding lt neg is_finite
below_inf nan h = refl
below_inf (inf true) h = refl
below_inf (inf false) h = sym h
below_inf (fin s m e) h = refl

not_below_inf : (x : Float) → lt x (inf false) ≡ false → false ≡ is_finite x
unfolding lt is_finite
not_below_inf nan h = refl
not_below_inf (inf s) h = refl
not_below_inf (fin s m e) h = sym h

pub finite_below : (x : Float) → lt x (of_bits binary64 0x7ff0_0000_0000_0000) ≡ true → lt (neg (of_bits binary64 0x7ff0_0000_0000_0000)) x ≡ is_finite x
finite_below x = rw inf_bits (below_inf x)

pub finite_above : (x : Float) → lt x (of_bits binary64 0x7ff0_0000_0000_0000) ≡ false → false ≡ is_finite x
finite_above x = rw inf_bits (not_below_inf x)

abs_neg : (x : Float) → lt x (fin false 0 (pos 0)) ≡ true → neg x ≡ abs_of x
unfolding lt neg abs_of
abs_neg nan h = refl
abs_neg (inf true) h = refl
abs_neg (inf false) h = absurd (true≢false (sym h))
abs_neg (fin true m e) h = refl
abs_neg (fin false m e) h = absurd (no_less (m * up e * 1) (0 * down e) (ltb-true _ _ h) (zero-mul (down e)))
  where
    no_less : (a b : ℕ) → a < b → b ≡ 0 → ⊥
    no_less a b p q = omega arith

none : (a b : ℕ) → a + b ≤ 0 → a ≡ b
none a b h = omega arith

and_false : (a b : Bool) → a ≡ true → b ≡ true → (a && b) ≡ false → ⊥
and_false a b p q h = let z : true ≡ false = sym (ap (λ (t : Bool). t && b) p ∙ q) ∙ h in true≢false z

abs_pos : (x : Float) → lt x (fin false 0 (pos 0)) ≡ false → eq x (fin false 0 (pos 0)) ≡ false → x ≡ abs_of x
unfolding lt eq abs_of
abs_pos nan h k = refl
abs_pos (inf true) h k = absurd (true≢false h)
abs_pos (inf false) h k = refl
abs_pos (fin false m e) h k = refl
abs_pos (fin true m e) h k =
    let same : m * up e * 1 ≡ 0 * down e = none _ _ (ltb-false _ _ h) in
    let none' : m * up e * 1 ≡ 0 = same ∙ zero-mul (down e) in
    absurd (and_false (eqb (m * up e * 1) (0 * down e)) (eqb (m * up e * 1) 0) (eq-eqb _ _ same) (eq-eqb _ _ none') k)

pub abs_below : (x : Float) → lt x (of_bits binary64 0) ≡ true → neg x ≡ abs_of x
abs_below x = rw zero_bits (abs_neg x)

pub abs_above : (x : Float) → lt x (of_bits binary64 0) ≡ false → eq x (of_bits binary64 0) ≡ false → x ≡ abs_of x
abs_above x = rw zero_bits (abs_pos x)
