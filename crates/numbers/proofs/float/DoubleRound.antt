-- Doubling and rounding: a fraction that is large enough, or a whole number of grains, doubled and rounded is the rounded one doubled, as long as the result has room.
-- Sums and differences of numbers of the format are whole numbers of grains, so they double always. Products, quotients and hypot ask for a large enough result. Assumes nothing.
use Rattle.std.proofs.Common.{◌≡◌, ℕ, zero, suc, ◌+◌, ◌-◌, ◌*◌, ◌/◌, ◌%◌, ◌^◌, ◌<◌, ◌≤◌, Bool, true, false, cond, ◌&&◌, T, eqb, ltb, leb, ℤ, pos, negsuc, sym, refl, ap, ◌∙◌, subst, le_trans, mul-le-mul_right, mul_comm, mul-lt-mul_of_pos_right, lt_of_not-le, not-le_of_lt, arith, lit<, lit≤, le→leb, ltb→lt, lt→ltb, leb→le, pow_pos, pow_mono}
use native.Mathlib.Decide.{dec_le}
use mathlib.Core.Bool.{beq}
use lib.IntN.{suc_ℤ}
use lib.Ieee.{Float, nan, inf, fin, up, down, size, units, odd, neg, add, sub, sum, round, fits, binary64}
use lib.Ieee.Exact.{HasValue, units_val, round_exact}
use lib.Ieee.Fits.{down_pos, and_i, and_l, and_r, round_is, round-fits, neg-fits}
use lib.Ieee.Order.{drop, kept}
use lib.Ieee.Scale.{grid, grid_scale, normal_of_fraction, normal_of_rounded}
use Rattle.numbers.specs.Small.{is_finite}
use Rattle.numbers.specs.Hypot.{grains}
use Rattle.numbers.specs.Double.{twice, Finite, Doublable, AboveLeast}
use Rattle.numbers.proofs.float.Pack.{same_value, grains_of}
use Rattle.numbers.proofs.float.Sums.{zero_round}
use Rattle.numbers.proofs.float.RoundLaws.{value_of}
use Rattle.numbers.proofs.float.OperationLaws.{ltb_scale, add_is}
use Rattle.numbers.proofs.float.DoubleLaws.{twice_value, neg_twice}

-- ---- the double of a number with room is a number of the format
down_le : (e : ℤ) → down (suc_ℤ e) ≤ down e
down_le (pos k) = lit≤ tt
down_le (negsuc zero) = lit≤ tt
down_le (negsuc (suc k)) = pow_mono (next k)
  where
    next : (k : ℕ) → suc k ≤ suc (suc k)
    next k = omega arith

pub double_lt : (v p : ℕ) → v < p → 2 * v < 2 * p
double_lt v p h = omega arith

pub twice_fits : (x : Float) (s : Bool) (v : ℕ) → T (fits binary64 x) → HasValue x s v (2 ^ 1074) → v < 2 ^ 2097 → T (fits binary64 (twice x))
unfolding fits twice
twice_fits nan s v f h l = f
twice_fits (inf t) s v f h l = f
twice_fits (fin t zero e) s v f h l = f
twice_fits (fin t (suc m) e) s v f h l =
    and_i (eqb (suc m % 2) 1 && ltb (suc m) (2 ^ 53) && leb (down (suc_ℤ e)) (2 ^ 1074)) (ltb (suc m * up (suc_ℤ e)) (2 ^ 1024 * down (suc_ℤ e)))
    (and_i (eqb (suc m % 2) 1 && ltb (suc m) (2 ^ 53)) (leb (down (suc_ℤ e)) (2 ^ 1074)) (and_l A B (and_l (A && B) C f))
    (le→leb (down (suc_ℤ e)) (2 ^ 1074) (le_trans (down_le e) (leb→le (down e) (2 ^ 1074) (and_r A B (and_l (A && B) C f))))))
    (lt→ltb (suc m * up (suc_ℤ e)) (2 ^ 1024 * down (suc_ℤ e)) less)
  where
    A : Bool
    A = eqb (suc m % 2) 1 && ltb (suc m) (2 ^ 53)

    B : Bool
    B = leb (down e) (2 ^ 1074)

    C : Bool
    C = ltb (suc m * up e) (2 ^ 1024 * down e)

    at : (p u d w b : ℕ) → p * w ≡ u * d → u < b * w → 0 < d → p * w < b * d * w
    at p u d w b h l D = let z : u * d < b * w * d = mul-lt-mul_of_pos_right l D in omega arith

    cancel : (a b w : ℕ) → a * w < b * w → a < b
    cancel a b w h = lt_of_not-le (λ (g : b ≤ a). not-le_of_lt h (mul-le-mul_right w g))

    less : suc m * up (suc_ℤ e) < 2 ^ 1024 * down (suc_ℤ e)
    less =
        cancel (suc m * up (suc_ℤ e)) (2 ^ 1024 * down (suc_ℤ e)) (2 ^ 1074)
        (at (suc m * up (suc_ℤ e)) (2 * v) (down (suc_ℤ e)) (2 ^ 1074) (2 ^ 1024) (twice_value (fin t (suc m) e) s v (2 ^ 1074) h).1 (double_lt v (2 ^ 2097) l) (down_pos (suc_ℤ e)))

-- two numbers of the format, of v and of 2 * v grains
pub twice_is : (x y : Float) (s : Bool) (v : ℕ) → T (fits binary64 x) → T (fits binary64 y) → HasValue x s v (2 ^ 1074) → HasValue y s (2 * v) (2 ^ 1074) → v < 2 ^ 2097 → y ≡ twice x
twice_is x y s v f g h k l = same_value y (twice x) s (2 * v) g (twice_fits x s v f h l) k (twice_value x s v (2 ^ 1074) h)

-- ---- what `round` gives, in grains
pub round_value : (s : Bool) (a c : ℕ) → grid binary64 a c < 2 ^ 2098 → HasValue (round binary64 s a c) s (grid binary64 a c) (2 ^ 1074)
round_value s a c h =
    subst (λ (z : Float). HasValue z s (grid binary64 a c) (2 ^ 1074)) (sym (round_is binary64 s a c))
    (units_val binary64 s (kept 53 (a * 2 ^ 1074) c) (drop 53 (a * 2 ^ 1074) c) h)

units_under : (s : Bool) (q k : ℕ) → T (is_finite (units binary64 s q k)) → q * 2 ^ k < 2 ^ 2098
unfolding units is_finite
units_under s q k = go (ltb (q * 2 ^ k) (2 ^ 2098)) (ltb→lt (q * 2 ^ k) (2 ^ 2098))
  where
    go : (b : Bool) → (T b → q * 2 ^ k < 2 ^ 2098) → T (is_finite (cond b (odd 54 s q k 1074) (inf s))) → q * 2 ^ k < 2 ^ 2098
    go true h t = h tt
    go false h t = absurd t

pub round_under : (s : Bool) (a c : ℕ) → T (is_finite (round binary64 s a c)) → grid binary64 a c < 2 ^ 2098
round_under s a c t = units_under s (kept 53 (a * 2 ^ 1074) c) (drop 53 (a * 2 ^ 1074) c) (subst (λ (z : Float). T (is_finite z)) (round_is binary64 s a c) t)

round_grains : (s : Bool) (a c : ℕ) → Doublable (round binary64 s a c) → grains (round binary64 s a c) ≡ grid binary64 a c
round_grains s a c r = grains_of (round binary64 s a c) s (grid binary64 a c) (round_value s a c (round_under s a c r.number.finite))

-- ---- in the normal range
round_normal : (s : Bool) (a c : ℕ) → 0 < c → 53 ≤ size (a * 2 ^ 1074 / c) → Doublable (round binary64 s a c) → round binary64 s (2 * a) c ≡ twice (round binary64 s a c)
round_normal s a c C N r =
    let g = grid binary64 a c in
    let l : g < 2 ^ 2097 = subst (λ (z : ℕ). z < 2 ^ 2097) (round_grains s a c r) r.room in
    let e : grid binary64 (2 * a) c ≡ 2 * g = ap (λ (z : ℕ). grid binary64 z c) (mul_comm 2 a) ∙ grid_scale binary64 a c 1 C N ∙ mul_comm g 2 in
    twice_is (round binary64 s a c) (round binary64 s (2 * a) c) s g (round-fits binary64 s a c) (round-fits binary64 s (2 * a) c)
    (round_value s a c (round_under s a c r.number.finite))
    (subst (λ (z : ℕ). HasValue (round binary64 s (2 * a) c) s z (2 ^ 1074)) e (round_value s (2 * a) c (subst (λ (z : ℕ). z < 2 ^ 2098) (sym e) (double_lt g (2 ^ 2097) l)))) l

-- a / c is 2 ^ -1022 at least
pub round_large : (s : Bool) (a c : ℕ) → 0 < c → 2 ^ 52 * c ≤ a * 2 ^ 1074 → Doublable (round binary64 s a c) → round binary64 s (2 * a) c ≡ twice (round binary64 s a c)
round_large s a c C h r = round_normal s a c C (normal_of_fraction binary64 a c C h) r

-- what it is rounded to is above 2 ^ -1022
pub round_above : (s : Bool) (a c : ℕ) → 0 < c → AboveLeast (round binary64 s a c) → Doublable (round binary64 s a c) → round binary64 s (2 * a) c ≡ twice (round binary64 s a c)
round_above s a c C h r = round_normal s a c C (normal_of_rounded binary64 a c (subst (λ (z : ℕ). 2 ^ 52 < z) (round_grains s a c r) h)) r

-- zero
twice_zero : (s : Bool) → twice (fin s 0 (pos 0)) ≡ fin s 0 (pos 0)
unfolding twice
twice_zero s = refl

pub round_none : (s : Bool) (a c : ℕ) → 0 < c → a ≡ 0 → round binary64 s (2 * a) c ≡ twice (round binary64 s a c)
round_none s a c C e =
    ap (λ (z : ℕ). round binary64 s (2 * z) c) e ∙ zero_round s c C ∙ sym (twice_zero s) ∙ ap twice (sym (zero_round s c C)) ∙ ap (λ (z : ℕ). twice (round binary64 s z c)) (sym e)

-- ---- a whole number of grains, of any size
pub round_whole : (s : Bool) (v : ℕ) → Doublable (round binary64 s v (2 ^ 1074)) → round binary64 s (2 * v) (2 ^ 1074) ≡ twice (round binary64 s v (2 ^ 1074))
round_whole s v r = go (dec_le (2 ^ 52) v)
  where
    wide : (v b d : ℕ) → v < b → 2 * b ≤ d → 2 * v < d
    wide v b d h k = omega arith

    less : (v b d : ℕ) → v < b → b ≤ d → v < d
    less v b d h k = omega arith

    at_one : (v : ℕ) → v * 2 ^ 0 ≡ v
    at_one v = omega arith

    exact : (u : ℕ) → u < 2 ^ 53 → HasValue (round binary64 s u (2 ^ 1074)) s u (2 ^ 1074)
    exact u h =
        round_exact binary64 s u (2 ^ 1074) u 0 (pow_pos 1074) h (subst (λ (z : ℕ). z < 2 ^ 2098) (sym (at_one u)) (less u (2 ^ 53) (2 ^ 2098) h (lit≤ tt)))
        (ap (λ (z : ℕ). z * 2 ^ 1074) (sym (at_one u)))

    go : Dec (2 ^ 52 ≤ v) → round binary64 s (2 * v) (2 ^ 1074) ≡ twice (round binary64 s v (2 ^ 1074))
    go (yes l) = round_large s v (2 ^ 1074) (pow_pos 1074) (mul-le-mul_right (2 ^ 1074) l) r
    go (no f) =
        let l : v < 2 ^ 52 = lt_of_not-le f in
        twice_is (round binary64 s v (2 ^ 1074)) (round binary64 s (2 * v) (2 ^ 1074)) s v (round-fits binary64 s v (2 ^ 1074)) (round-fits binary64 s (2 * v) (2 ^ 1074))
        (exact v (less v (2 ^ 52) (2 ^ 53) l (lit≤ tt))) (exact (2 * v) (wide v (2 ^ 52) (2 ^ 53) l (lit≤ tt))) (less v (2 ^ 52) (2 ^ 2097) l (lit≤ tt))

-- ---- sums
sum_twice : (s : Bool) (a : ℕ) (t : Bool) (b : ℕ) → Doublable (sum binary64 s a t b (2 ^ 1074)) → sum binary64 s (2 * a) t (2 * b) (2 ^ 1074) ≡ twice (sum binary64 s a t b (2 ^ 1074))
unfolding sum
sum_twice s a t b =
    subst (λ (z : Bool). Doublable (whole (beq s t) (ltb a b) (s && ltb b a)) → doubled (beq s t) z (s && ltb (2 * b) (2 * a)) ≡ twice (whole (beq s t) (ltb a b) (s && ltb b a))) (sym (same a b))
    (subst (λ (z : Bool). Doublable (whole (beq s t) (ltb a b) (s && ltb b a)) → doubled (beq s t) (ltb a b) (s && z) ≡ twice (whole (beq s t) (ltb a b) (s && ltb b a))) (sym (same b a))
    (go (beq s t) (ltb a b) (s && ltb b a)))
  where
    whole : Bool → Bool → Bool → Float
    whole p q r = cond p (round binary64 s (a + b) (2 ^ 1074)) (cond q (round binary64 t (b - a) (2 ^ 1074)) (round binary64 r (a - b) (2 ^ 1074)))

    doubled : Bool → Bool → Bool → Float
    doubled p q r = cond p (round binary64 s (2 * a + 2 * b) (2 ^ 1074)) (cond q (round binary64 t (2 * b - 2 * a) (2 ^ 1074)) (round binary64 r (2 * a - 2 * b) (2 ^ 1074)))

    two-one : (x : ℕ) → 2 * x * 1 ≡ x * 2
    two-one x = omega arith

    same : (x y : ℕ) → ltb (2 * x) (2 * y) ≡ ltb x y
    same x y = ltb_scale x y (2 * x) (2 * y) 1 2 (lit< tt) (lit< tt) (two-one x) (two-one y)

    plus : (x y : ℕ) → 2 * x + 2 * y ≡ 2 * (x + y)
    plus x y = omega arith

    minus : (x y : ℕ) → 2 * x - 2 * y ≡ 2 * (x - y)
    minus x y = omega arith

    go : (p q r : Bool) → Doublable (whole p q r) → doubled p q r ≡ twice (whole p q r)
    go true q r h = ap (λ (z : ℕ). round binary64 s z (2 ^ 1074)) (plus a b) ∙ round_whole s (a + b) h
    go false true r h = ap (λ (z : ℕ). round binary64 t z (2 ^ 1074)) (minus b a) ∙ round_whole t (b - a) h
    go false false r h = ap (λ (z : ℕ). round binary64 r z (2 ^ 1074)) (minus a b) ∙ round_whole r (a - b) h

-- ---- the laws of sums
pub add_twice : (x y : Float) → Finite x → Finite y → Doublable (add binary64 x y) → add binary64 (twice x) (twice y) ≡ twice (add binary64 x y)
add_twice x y f g r =
    let X = value_of x f.held f.finite in
    let Y = value_of y g.held g.finite in
    let w = 2 ^ 1074 in
    let e : add binary64 x y ≡ sum binary64 X.0 (grains x) Y.0 (grains y) w = add_is x y X.0 Y.0 (grains x) (grains y) w (pow_pos 1074) X.3 Y.3 in
    add_is (twice x) (twice y) X.0 Y.0 (2 * grains x) (2 * grains y) w (pow_pos 1074) (twice_value x X.0 (grains x) w X.3) (twice_value y Y.0 (grains y) w Y.3)
    ∙ sum_twice X.0 (grains x) Y.0 (grains y) (subst Doublable e r)
    ∙ ap twice (sym e)

neg_same : (z : Float) → is_finite z ≡ is_finite (neg z)
unfolding is_finite neg
neg_same nan = refl
neg_same (inf s) = refl
neg_same (fin s m e) = refl

pub neg_finite : (y : Float) → Finite y → Finite (neg y)
neg_finite y f = record { held = neg-fits binary64 y f.held; finite = subst T (neg_same y) f.finite }

pub sub_twice : (x y : Float) → Finite x → Finite y → Doublable (sub binary64 x y) → sub binary64 (twice x) (twice y) ≡ twice (sub binary64 x y)
unfolding sub
sub_twice x y f g r = ap (λ (z : Float). add binary64 (twice x) z) (neg_twice y) ∙ add_twice x (neg y) f (neg_finite y g) r
