-- Doubling and the sign, the size, the comparisons, the maximum, the minimum and the clamp: these commute with `twice` at every float, NaN, infinities and numbers beyond the format included.
-- Assumes nothing.
use Rattle.std.proofs.Common.{◌≡◌, ℕ, zero, suc, ◌+◌, ◌*◌, ◌^◌, ◌<◌, Bool, true, false, cond, not, ◌&&◌, ◌||◌, eqb, ℤ, pos, negsuc, sym, refl, ap, ◌∙◌, mul-pos, arith, eq-eqb, ne_eqb}
use native.Mathlib.Nat.{eq_of_mul-eq-mul_right, pow-succ'}
use native.Mathlib.Decide.{ℕ_discrete}
use mathlib.Core.Bool.{beq}
use lib.IntN.{suc_ℤ}
use lib.Ieee.{Float, nan, inf, fin, up, down, neg, lt, le, eq, ne, below, level}
use lib.Ieee.Exact.{HasValue}
use lib.Ieee.Fits.{down_pos}
use Rattle.numbers.specs.Small.{abs_of, is_finite, max_of, min_of, clamp_of}
use Rattle.numbers.specs.Double.{twice}
use Rattle.numbers.proofs.float.OperationLaws.{ltb_scale}

-- ---- 2 ^ (e + 1) is twice 2 ^ e, as fractions
up_down : (e : ℤ) → up (suc_ℤ e) * down e ≡ 2 * up e * down (suc_ℤ e)
up_down (pos k) = ap (λ (a : ℕ). a * 1) (pow-succ' 2 k)
up_down (negsuc zero) = refl
up_down (negsuc (suc k)) = ap (λ (a : ℕ). 1 * a) (pow-succ' 2 (suc k)) ∙ flat (2 ^ suc k)
  where
    flat : (a : ℕ) → 1 * (2 * a) ≡ 2 * 1 * a
    flat a = omega arith

-- a number's value, doubled
pub twice_value : (x : Float) (s : Bool) (a c : ℕ) → HasValue x s a c → HasValue (twice x) s (2 * a) c
unfolding twice
twice_value nan s a c h = h
twice_value (inf t) s a c h = h
twice_value (fin t zero e) s a c h = (h.0, none (up e) (down e) h.1)
  where
    none : (u d : ℕ) → 0 * u * c ≡ a * d → 0 * u * c ≡ 2 * a * d
    none u d h = omega arith
twice_value (fin t (suc m) e) s a c h = (h.0, eq_of_mul-eq-mul_right (down e) (down_pos e) (suc m * up (suc_ℤ e) * c) (2 * a * down (suc_ℤ e)) (at (suc m) (up e) (down e) (up (suc_ℤ e)) (down (suc_ℤ e)) h.1 (up_down e)))
  where
    at : (m u d v w : ℕ) → m * u * c ≡ a * d → v * d ≡ 2 * u * w → m * v * c * d ≡ 2 * a * w * d
    at m u d v w h e =
        let p : m * c * (v * d) ≡ m * c * (2 * u * w) = ap (λ (z : ℕ). m * c * z) e in
        let q : 2 * w * (m * u * c) ≡ 2 * w * (a * d) = ap (λ (z : ℕ). 2 * w * z) h in
        omega arith

-- ---- comparisons by values: a / c with the sign s, and b / d with the sign t
pub eqb_scale : (a b a' b' p q : ℕ) → 0 < p → 0 < q → a' * p ≡ a * q → b' * p ≡ b * q → eqb a' b' ≡ eqb a b
eqb_scale a b a' b' p q P Q h k = go (ℕ_discrete a b)
  where
    go : Dec (a ≡ b) → eqb a' b' ≡ eqb a b
    go (yes e) = eq-eqb a' b' (eq_of_mul-eq-mul_right p P a' b' (h ∙ ap (λ (z : ℕ). z * q) e ∙ sym k)) ∙ sym (eq-eqb a b e)
    go (no f) = ne_eqb a' b' (λ (e : a' ≡ b'). f (eq_of_mul-eq-mul_right q Q a b (sym h ∙ ap (λ (z : ℕ). z * p) e ∙ k))) ∙ sym (ne_eqb a b f)

pub below_scale : (s : Bool) (a : ℕ) (t : Bool) (b a' b' p q : ℕ) → 0 < p → 0 < q → a' * p ≡ a * q → b' * p ≡ b * q → below s a' t b' ≡ below s a t b
below_scale false a false b a' b' p q P Q h k = ltb_scale a b a' b' p q P Q h k
below_scale false a true b a' b' p q P Q h k = refl
below_scale true a false b a' b' p q P Q h k = ltb_scale 0 (a + b) 0 (a' + b') p q P Q (none p q) total
  where
    none : (p q : ℕ) → 0 * p ≡ 0 * q
    none p q = omega arith

    total : (a' + b') * p ≡ (a + b) * q
    total = omega arith
below_scale true a true b a' b' p q P Q h k = ltb_scale b a b' a' p q P Q k h

level_scale : (s : Bool) (a : ℕ) (t : Bool) (b a' b' p q : ℕ) → 0 < p → 0 < q → a' * p ≡ a * q → b' * p ≡ b * q → level s a' t b' ≡ level s a t b
level_scale s a t b a' b' p q P Q h k =
    ap (λ (z : Bool). z && (beq s t || eqb a' 0)) (eqb_scale a b a' b' p q P Q h k)
    ∙ ap (λ (z : Bool). eqb a b && (beq s t || z)) (eqb_scale a 0 a' 0 p q P Q h (none p q))
  where
    none : (p q : ℕ) → 0 * p ≡ 0 * q
    none p q = omega arith

-- the values of x and y at a common denominator, and those of x' and y' whose fractions are r times theirs
module _ (a c b d u v w z r : ℕ) where
  cross : u * c ≡ r * a * v → u * z * (c * d) ≡ a * d * (r * (v * z))
  cross h = let p : u * c * (z * d) ≡ r * a * v * (z * d) = ap (λ (y : ℕ). y * (z * d)) h in omega arith

  cross_2 : w * d ≡ r * b * z → w * v * (c * d) ≡ b * c * (r * (v * z))
  cross_2 k = let p : w * d * (v * c) ≡ r * b * z * (v * c) = ap (λ (y : ℕ). y * (v * c)) k in omega arith

-- own value, and that of the double
own : (s : Bool) (m : ℕ) (e : ℤ) → HasValue (fin s m e) s (m * up e) (down e)
own s m e = (refl, refl)

-- the double of a number is a number of the same sign
pub record DoubleOf (x : Float) (s : Bool) (m : ℕ) (e : ℤ) : Type 0 where
  pub n : ℕ
  pub d : ℤ
  pub is : x ≡ fin s n d
  pub value : n * up d * down e ≡ 2 * (m * up e) * down d

pub double_of : (s : Bool) (m : ℕ) (e : ℤ) → DoubleOf (twice (fin s m e)) s m e
unfolding twice
double_of s zero e = record { n = zero; d = e; is = refl; value = (twice_value (fin s zero e) s (0 * up e) (down e) (own s zero e)).1 }
double_of s (suc m) e = record { n = suc m; d = suc_ℤ e; is = refl; value = (twice_value (fin s (suc m) e) s (suc m * up e) (down e) (own s (suc m) e)).1 }

lt_fin : (s : Bool) (m : ℕ) (e : ℤ) (t : Bool) (n : ℕ) (d : ℤ) → lt (twice (fin s m e)) (twice (fin t n d)) ≡ lt (fin s m e) (fin t n d)
unfolding lt
lt_fin s m e t n d =
    let X = double_of s m e in
    let Y = double_of t n d in
    ap (λ (z : Float). lt z (twice (fin t n d))) X.is
    ∙ ap (λ (z : Float). lt (fin s X.n X.d) z) Y.is
    ∙ below_scale s (m * up e * down d) t (n * up d * down e) (X.n * up X.d * down Y.d) (Y.n * up Y.d * down X.d) (down e * down d) (2 * (down X.d * down Y.d))
    (mul-pos (down_pos e) (down_pos d)) (two (mul-pos (down_pos X.d) (down_pos Y.d)))
    (cross (m * up e) (down e) (n * up d) (down d) (X.n * up X.d) (down X.d) (Y.n * up Y.d) (down Y.d) 2 X.value)
    (cross_2 (m * up e) (down e) (n * up d) (down d) (X.n * up X.d) (down X.d) (Y.n * up Y.d) (down Y.d) 2 Y.value)
  where
    two : {k : ℕ} → 0 < k → 0 < 2 * k
    two {k} h = omega arith

eq_fin : (s : Bool) (m : ℕ) (e : ℤ) (t : Bool) (n : ℕ) (d : ℤ) → eq (twice (fin s m e)) (twice (fin t n d)) ≡ eq (fin s m e) (fin t n d)
unfolding eq
eq_fin s m e t n d =
    let X = double_of s m e in
    let Y = double_of t n d in
    ap (λ (z : Float). eq z (twice (fin t n d))) X.is
    ∙ ap (λ (z : Float). eq (fin s X.n X.d) z) Y.is
    ∙ level_scale s (m * up e * down d) t (n * up d * down e) (X.n * up X.d * down Y.d) (Y.n * up Y.d * down X.d) (down e * down d) (2 * (down X.d * down Y.d))
    (mul-pos (down_pos e) (down_pos d)) (two (mul-pos (down_pos X.d) (down_pos Y.d)))
    (cross (m * up e) (down e) (n * up d) (down d) (X.n * up X.d) (down X.d) (Y.n * up Y.d) (down Y.d) 2 X.value)
    (cross_2 (m * up e) (down e) (n * up d) (down d) (X.n * up X.d) (down X.d) (Y.n * up Y.d) (down Y.d) 2 Y.value)
  where
    two : {k : ℕ} → 0 < k → 0 < 2 * k
    two {k} h = omega arith

-- ---- the laws
pub lt_twice : (x y : Float) → lt (twice x) (twice y) ≡ lt x y
unfolding lt twice
lt_twice nan y = refl
lt_twice (inf s) nan = refl
lt_twice (inf s) (inf t) = refl
lt_twice (inf s) (fin t zero d) = refl
lt_twice (inf s) (fin t (suc n) d) = refl
lt_twice (fin s zero e) nan = refl
lt_twice (fin s (suc m) e) nan = refl
lt_twice (fin s zero e) (inf t) = refl
lt_twice (fin s (suc m) e) (inf t) = refl
lt_twice (fin s zero e) (fin t n d) = lt_fin s zero e t n d
lt_twice (fin s (suc m) e) (fin t n d) = lt_fin s (suc m) e t n d

pub eq_twice : (x y : Float) → eq (twice x) (twice y) ≡ eq x y
unfolding eq twice
eq_twice nan y = refl
eq_twice (inf s) nan = refl
eq_twice (inf s) (inf t) = refl
eq_twice (inf s) (fin t zero d) = refl
eq_twice (inf s) (fin t (suc n) d) = refl
eq_twice (fin s zero e) nan = refl
eq_twice (fin s (suc m) e) nan = refl
eq_twice (fin s zero e) (inf t) = refl
eq_twice (fin s (suc m) e) (inf t) = refl
eq_twice (fin s zero e) (fin t n d) = eq_fin s zero e t n d
eq_twice (fin s (suc m) e) (fin t n d) = eq_fin s (suc m) e t n d

pub le_twice : (x y : Float) → le (twice x) (twice y) ≡ le x y
unfolding le
le_twice x y = ap (λ (b : Bool). b || eq (twice x) (twice y)) (lt_twice x y) ∙ ap (λ (b : Bool). lt x y || b) (eq_twice x y)

pub ne_twice : (x y : Float) → ne (twice x) (twice y) ≡ ne x y
unfolding ne
ne_twice x y = ap not (eq_twice x y)

pub neg_twice : (x : Float) → neg (twice x) ≡ twice (neg x)
unfolding neg twice
neg_twice nan = refl
neg_twice (inf s) = refl
neg_twice (fin s zero e) = refl
neg_twice (fin s (suc m) e) = refl

pub abs_twice : (x : Float) → abs_of (twice x) ≡ twice (abs_of x)
unfolding abs_of twice
abs_twice nan = refl
abs_twice (inf s) = refl
abs_twice (fin s zero e) = refl
abs_twice (fin s (suc m) e) = refl

pub finite_twice : (x : Float) → is_finite (twice x) ≡ is_finite x
unfolding is_finite twice
finite_twice nan = refl
finite_twice (inf s) = refl
finite_twice (fin s zero e) = refl
finite_twice (fin s (suc m) e) = refl

-- a choice between doubled numbers
pub cond_twice : (b : Bool) (x y : Float) → cond b (twice x) (twice y) ≡ twice (cond b x y)
cond_twice true x y = refl
cond_twice false x y = refl

pub max_twice : (x y : Float) → max_of (twice x) (twice y) ≡ twice (max_of x y)
unfolding max_of
max_twice x y = ap (λ (b : Bool). cond b (twice y) (twice x)) (lt_twice x y) ∙ cond_twice (lt x y) y x

pub min_twice : (x y : Float) → min_of (twice x) (twice y) ≡ twice (min_of x y)
unfolding min_of
min_twice x y = ap (λ (b : Bool). cond b (twice y) (twice x)) (lt_twice y x) ∙ cond_twice (lt y x) y x

pub clamp_twice : (x lo hi : Float) → clamp_of (twice x) (twice lo) (twice hi) ≡ twice (clamp_of x lo hi)
unfolding clamp_of
clamp_twice x lo hi =
    ap (λ (b : Bool). cond b (twice lo) (cond (lt (twice hi) (twice x)) (twice hi) (twice x))) (lt_twice x lo)
    ∙ ap (λ (b : Bool). cond (lt x lo) (twice lo) (cond b (twice hi) (twice x))) (lt_twice hi x)
    ∙ ap (λ (z : Float). cond (lt x lo) (twice lo) z) (cond_twice (lt hi x) hi x)
    ∙ cond_twice (lt x lo) lo (cond (lt hi x) hi x)
