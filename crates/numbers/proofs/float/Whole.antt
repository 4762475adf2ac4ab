-- hypot, from the bits of the sides and by the tests that the code makes. Assumes nothing.
use Rattle.std.proofs.Common.{◌≡◌, ℕ, zero, suc, ◌+◌, ◌-◌, ◌*◌, ◌/◌, ◌%◌, ◌^◌, ◌<◌, ◌≤◌, Bool, true, false, not, ◌&&◌, T, eqb, ltb, leb, ℤ, sym, refl, ap, ◌∙◌, subst, true≢false, le_trans, le_of_eq, lt_of_lt_of_le, lt_of_le_of_lt, mod-eq_of_lt, div-lt_iff_lt-mul, add_comm, mul-lt-mul_of_pos_right, zero-mul, mul_right_comm, arith, ltb→lt, pow_pos, le-ltb}
use native.Mathlib.Nat.{zero-div}
use native.Mathlib.Decide.{dec_le}
use lib.Ieee.{Float, nan, inf, fin, up, down, size, eq, fits, is_nan, nan_bits, to_bits, of_bits, binary64}
use lib.Ieee.Digits.{size-le}
use lib.Ieee.Fits.{kept-lt, and_r, down_pos}
use lib.Ieee.Bits.{of_bits-to_bits, nan_bits_above}
use Rattle.numbers.specs.Small.{abs_of, is_finite}
use Rattle.numbers.specs.Hypot.{grains, nearest_root, hypot_of}
use Rattle.numbers.specs.Stages.Steps.{Packed, Sides, Length}
use Rattle.numbers.proofs.float.Signs.{inf_bits}
use Rattle.numbers.proofs.float.Pack.{of_packed}

abbrev INF : ℕ
INF = 0x7ff0_0000_0000_0000

-- ---- two patterns, taken apart
pub exponents : (p m e q n d : ℕ) → Packed p m e → Packed q n d → q ≤ p → d ≤ e
exponents p m e q n d P Q h = go (dec_le d e)
  where
    never : (d ≤ e → ⊥) → (0 < d → 2 ^ 52 ≤ n) → q ≡ d * 2 ^ 52 + n → ⊥
    never f g k = let z : 2 ^ 52 ≤ n = g (omega arith) in omega (arith, P.sum, P.small)

    go : Dec (d ≤ e) → d ≤ e
    go (yes l) = l
    go (no f) = absurd (never f Q.normal Q.sum)

pub sides : (p m e q n d : ℕ) → Packed p m e → Packed q n d → q ≤ p → p < INF → Sides m e n d
sides p m e q n d P Q h l = record {
  first = P.small;
  second = Q.small;
  order = exponents p m e q n d P Q h;
  finite = go (dec_le e 2045);
  normal = P.normal;
}
  where
    never : (e ≤ 2045 → ⊥) → (0 < e → 2 ^ 52 ≤ m) → p ≡ e * 2 ^ 52 + m → ⊥
    never f g k = let z : 2 ^ 52 ≤ m = g (omega arith) in omega arith

    go : Dec (e ≤ 2045) → e ≤ 2045
    go (yes l) = l
    go (no f) = absurd (never f P.normal P.sum)

pub grains_at : (p m e : ℕ) → Packed p m e → p < INF → grains (of_bits binary64 p) ≡ m * 2 ^ e
grains_at p m e P h =
    ap (λ (a : ℕ). grains (of_bits binary64 a)) P.sum
    ∙ of_packed m e P.small P.normal (subst (λ (a : ℕ). a < INF) P.sum h)

pub length_at : (b p m e q n d : ℕ) → Packed p m e → Packed q n d → q ≤ p → p < INF → Length b (m * 2 ^ e) (n * 2 ^ d) → Length b (grains (of_bits binary64 p)) (grains (of_bits binary64 q))
length_at b p m e q n d P Q h l v =
    subst (λ (a : ℕ). Length b a (grains (of_bits binary64 q))) (sym (grains_at p m e P l))
    (subst (λ (a : ℕ). Length b (m * 2 ^ e) a) (sym (grains_at q n d Q (lt_of_le_of_lt h l))) v)

-- ---- infinities and NaNs
inf_first : (x y : Float) → eq (abs_of x) (inf false) ≡ true → inf false ≡ hypot_of x y
unfolding eq abs_of hypot_of
inf_first nan y h = absurd (true≢false (sym h))
inf_first (inf s) y h = refl
inf_first (fin s m e) y h = absurd (true≢false (sym h))

inf_second : (x y : Float) → eq (abs_of y) (inf false) ≡ true → inf false ≡ hypot_of x y
unfolding eq abs_of hypot_of
inf_second x nan h = absurd (true≢false (sym h))
inf_second nan (inf s) h = refl
inf_second (inf t) (inf s) h = refl
inf_second (fin t m e) (inf s) h = refl
inf_second x (fin s m e) h = absurd (true≢false (sym h))

nan_first : (x y : Float) → eq (abs_of y) (inf false) ≡ false → is_nan (abs_of x) ≡ true → abs_of x ≡ hypot_of x y
unfolding eq is_nan abs_of hypot_of
nan_first nan nan h k = refl
nan_first nan (inf t) h k = absurd (true≢false h)
nan_first nan (fin t n d) h k = refl
nan_first (inf s) y h k = absurd (true≢false (sym k))
nan_first (fin s m e) y h k = absurd (true≢false (sym k))

nan_second : (x y : Float) → eq (abs_of x) (inf false) ≡ false → is_nan (abs_of y) ≡ true → abs_of y ≡ hypot_of x y
unfolding eq is_nan abs_of hypot_of
nan_second nan nan h k = refl
nan_second (inf s) nan h k = absurd (true≢false h)
nan_second (fin s m e) nan h k = refl
nan_second x (inf t) h k = absurd (true≢false (sym k))
nan_second x (fin t n d) h k = absurd (true≢false (sym k))

finite_of : (x : Float) → eq (abs_of x) (inf false) ≡ false → is_nan (abs_of x) ≡ false → T (is_finite x)
unfolding eq is_nan abs_of is_finite
finite_of nan h k = absurd (true≢false k)
finite_of (inf s) h k = absurd (true≢false h)
finite_of (fin s m e) h k = tt

-- ---- finite sides
pub abs_fits : (x : Float) → T (fits binary64 x) → T (fits binary64 (abs_of x))
unfolding fits abs_of
abs_fits nan h = tt
abs_fits (inf s) h = tt
abs_fits (fin s zero e) h = h
abs_fits (fin s (suc m) e) h = h

pub abs_grains : (x : Float) → grains (abs_of x) ≡ grains x
unfolding grains abs_of
abs_grains nan = refl
abs_grains (inf s) = refl
abs_grains (fin s m e) = refl

-- a value that fits is below 2 ^ 2098 grains
fits_lt : (s : Bool) (m : ℕ) (e : ℤ) → T (fits binary64 (fin s m e)) → m * up e * 2 ^ 1074 / down e < 2 ^ 2098
unfolding fits
fits_lt s zero e h = subst (λ (a : ℕ). a < 2 ^ 2098) (sym (ap (λ (a : ℕ). a * 2 ^ 1074 / down e) (zero-mul (up e)) ∙ zero-div (down e))) (pow_pos 2098)
fits_lt s (suc m) e h =
    (div-lt_iff_lt-mul {k = down e} {x = suc m * up e * 2 ^ 1074} {y = 2 ^ 2098} (down_pos e)).1
    (lt_of_lt_of_le (mul-lt-mul_of_pos_right (ltb→lt (suc m * up e) (2 ^ 1024 * down e) (and_r (eqb (suc m % 2) 1 && ltb (suc m) (2 ^ 53) && leb (down e) (2 ^ 1074)) (ltb (suc m * up e) (2 ^ 1024 * down e)) h)) (pow_pos 1074))
    (le_of_eq (mul_right_comm (2 ^ 1024) (down e) (2 ^ 1074))))

pub finite_bits : (x : Float) → T (fits binary64 x) → T (is_finite x) → to_bits binary64 (abs_of x) < INF
unfolding to_bits abs_of is_finite
finite_bits nan f h = absurd h
finite_bits (inf s) f h = absurd h
finite_bits (fin s m e) f h =
    let n = m * up e * 2 ^ 1074 / down e in
    bound (size n) (n / 2 ^ (size n - 53)) (size-le n 2098 (fits_lt s m e f)) (kept-lt 53 n)
  where
    bound : (z q : ℕ) → z ≤ 2098 → q < 2 ^ 53 → 0 + (z - 53) * 2 ^ 52 + q < INF
    bound z q a b = omega arith

pub both_finite : (x y : Float) → T (is_finite x) → T (is_finite y) → nearest_root (grains x * grains x + grains y * grains y) ≡ hypot_of x y
unfolding hypot_of is_finite
both_finite nan y h k = absurd h
both_finite (inf s) y h k = absurd h
both_finite (fin s m e) nan h k = absurd k
both_finite (fin s m e) (inf t) h k = absurd k
both_finite (fin s m e) (fin t n d) h k = refl

-- ---- what the proof of the function asks. a and b are the absolute values
number : (b : ℕ) → b ≤ INF → T (not (nan_bits binary64 b))
number b h = subst (λ (t : Bool). T (not t)) (sym (nan_bits_above binary64 b ∙ le-ltb INF (b % 2 ^ 63) (le_trans (le_of_eq (mod-eq_of_lt (small b h))) h))) tt
  where
    small : (b : ℕ) → b ≤ INF → b < 2 ^ 63
    small b h = omega arith

module _ (x y a b : Float) (A : a ≡ abs_of x) (B : b ≡ abs_of y) where
  pub at_inf : eq a (of_bits binary64 INF) ≡ true → of_bits binary64 INF ≡ hypot_of x y
  at_inf h = inf_bits ∙ inf_first x y (subst (λ (z : Float). eq z (inf false) ≡ true) A (rw inf_bits at h))

  pub at_inf_2 : eq b (of_bits binary64 INF) ≡ true → of_bits binary64 INF ≡ hypot_of x y
  at_inf_2 h = inf_bits ∙ inf_second x y (subst (λ (z : Float). eq z (inf false) ≡ true) B (rw inf_bits at h))

  pub at_nan : eq b (of_bits binary64 INF) ≡ false → is_nan a ≡ true → a ≡ hypot_of x y
  at_nan h k = A ∙ nan_first x y (subst (λ (z : Float). eq z (inf false) ≡ false) B (rw inf_bits at h)) (subst (λ (z : Float). is_nan z ≡ true) A k)

  pub at_nan_2 : eq a (of_bits binary64 INF) ≡ false → is_nan b ≡ true → b ≡ hypot_of x y
  at_nan_2 h k = B ∙ nan_second x y (subst (λ (z : Float). eq z (inf false) ≡ false) A (rw inf_bits at h)) (subst (λ (z : Float). is_nan z ≡ true) B k)

-- one side's absolute value a
module _ (x a : Float) (A : a ≡ abs_of x) (F : T (fits binary64 x)) where
  pub finite_at : eq a (of_bits binary64 INF) ≡ false → is_nan a ≡ false → T (is_finite x)
  finite_at h k = finite_of x (subst (λ (z : Float). eq z (inf false) ≡ false) A (rw inf_bits at h)) (subst (λ (z : Float). is_nan z ≡ false) A k)

  pub bits_at : T (is_finite x) → to_bits binary64 a < INF
  bits_at h = subst (λ (z : Float). to_bits binary64 z < INF) (sym A) (finite_bits x F h)

  pub grains_back : grains (of_bits binary64 (to_bits binary64 a)) ≡ grains x
  grains_back = ap (λ (z : Float). grains (of_bits binary64 (to_bits binary64 z))) A ∙ ap grains (of_bits-to_bits binary64 (abs_of x) (abs_fits x F)) ∙ abs_grains x

pub no_nan_bits : (r a c : ℕ) → Length r a c → T (not (nan_bits binary64 r))
no_nan_bits r a c h = number r h.number

pub at_last : (x y : Float) (r a c : ℕ) → Length r a c → a ≡ grains x → c ≡ grains y → T (is_finite x) → T (is_finite y) → of_bits binary64 r ≡ hypot_of x y
at_last x y r a c h p q F G = h.value ∙ ap (λ (z : ℕ). nearest_root (z * z + c * c)) p ∙ ap (λ (z : ℕ). nearest_root (grains x * grains x + z * z)) q ∙ both_finite x y F G

pub at_last_2 : (x y : Float) (r a c : ℕ) → Length r c a → a ≡ grains x → c ≡ grains y → T (is_finite x) → T (is_finite y) → of_bits binary64 r ≡ hypot_of x y
at_last_2 x y r a c h p q F G = h.value ∙ ap nearest_root (add_comm (c * c) (a * a)) ∙ ap (λ (z : ℕ). nearest_root (z * z + c * c)) p ∙ ap (λ (z : ℕ). nearest_root (grains x * grains x + z * z)) q ∙ both_finite x y F G

pub ruleset side_laws = (exponents, sides, length_at)
