-- Quotients keep the order: x ≤ y gives x / d ≤ y / d for a d above zero, and a quotient of a fixed sign shrinks in size as its divisor grows. Overflow, underflow and zeros included.
-- A direction: each side over its hypotenuse is at most 1, and the larger one at least 1/2. Assumes nothing.
use Rattle.std.proofs.Common.{◌≡◌, ℕ, zero, suc, ◌+◌, ◌-◌, ◌*◌, ◌^◌, ◌<◌, ◌≤◌, Bool, true, false, cond, not, ◌&&◌, T, eqb, ltb, ℤ, pos, sym, refl, ap, ◌∙◌, subst, true≢false, le_trans, le_of_eq, le_refl, lt_of_le_of_lt, mul-le-mul_right, mul-pos, zero-mul, le_of_mul-le-mul_right, arith, lit<, lit≤, eqb→eq, ltb→lt, lt→ltb, pow_pos, pow-add, ltb-true, ne_eqb}
use mathlib.Core.Bool.{beq}
use lib.Ieee.{Float, nan, inf, fin, up, down, unlike, lt, le, neg, fits, is_nan, add, sub, sum, mul, div, round, binary64}
use lib.Ieee.Exact.{HasValue, round_exact}
use lib.Ieee.Fits.{up_pos, down_pos, and_l, and_r}
use lib.Ieee.Order.{round_mono}
use lib.Ieee.Positive.{num, den, den_pos, through, positive}
use Rattle.numbers.specs.Small.{abs_of, is_finite, min_of}
use Rattle.numbers.specs.Hypot.{grains, hypot_of}
use Rattle.numbers.specs.Rounding.{Value}
use Rattle.numbers.specs.Size.{Within, AtMost, AtLeast}
use Rattle.numbers.proofs.float.Keys.{plus, le_neg, le_cross}
use Rattle.numbers.proofs.float.Floors.{round_neg}
use Rattle.numbers.proofs.float.Sums.{plus_round, zeros_le, le_number, le_number_2, add_commutes}
use Rattle.numbers.proofs.float.Hypots.{hypot_above}
use Rattle.numbers.proofs.float.Bounds.{plus_number, hypot_plus, hypot_under, size_of, plus_unsigned, add_unsigned, mul_unsigned, abs_unsigned}
use Rattle.numbers.proofs.float.RoundLaws.{value_of}
use Rattle.numbers.proofs.float.SizeLaws.{Exact, over_value, round_within, within_most, add_within, abs_within, exact_power, round_least, neg_least, hypot_least, not_zero, some_size}

-- ---- a divisor above zero
pub above_positive : (d : Float) → T (is_finite d) → lt (fin false 0 (pos 0)) d ≡ true → T (positive d)
unfolding is_finite lt
above_positive nan f h = absurd f
above_positive (inf s) f h = absurd f
above_positive (fin true n g) f h = absurd (true≢false (sym h))
above_positive (fin false n g) f h = lt→ltb 0 n (some n (up g) (down g) (ltb-true (0 * down g) (n * up g * 1) h))
  where
    some : (n u d : ℕ) → 0 * d < n * u * 1 → 0 < n
    some zero u d h = absurd (none u d h)
      where
        none : (u d : ℕ) → 0 * d < 0 * u * 1 → ⊥
        none u d h = omega arith
    some (suc n) u d h = one n
      where
        one : (n : ℕ) → 0 < suc n
        one n = omega arith

no_zero : (n : ℕ) → 0 < n → n ≡ 0 → ⊥
no_zero n h e = omega arith

sign_of : (s : Bool) → unlike s false ≡ s
sign_of true = refl
sign_of false = refl

div_is : (s : Bool) (m : ℕ) (e : ℤ) (n : ℕ) (g : ℤ) → 0 < n → div binary64 (fin s m e) (fin false n g) ≡ round binary64 s (m * up e * down g) (n * up g * down e)
unfolding div
div_is s m e n g h =
    ap (λ (b : Bool). cond b (cond (eqb m 0) nan (inf (unlike s false))) (round binary64 (unlike s false) (m * up e * down g) (n * up g * down e))) (ne_eqb n 0 (no_zero n h))
    ∙ ap (λ (t : Bool). round binary64 t (m * up e * down g) (n * up g * down e)) (sign_of s)

-- ---- rounded fractions in order: a / c with the sign s, and b / d with the sign t
Cross : Bool → Bool → ℕ → ℕ → Type 0
Cross false false x y = x ≤ y
Cross true true x y = y ≤ x
Cross true false x y = Unit {0}
Cross false true x y = (x ≡ 0) × (y ≡ 0)

module _ (a c b d : ℕ) (C : 0 < c) (D : 0 < d) where
  zero_of : (x u : ℕ) → 0 < u → x * u ≡ 0 → x ≡ 0
  zero_of zero u U h = refl
  zero_of (suc x) u U h = absurd (never (suc x * u) (mul-pos (one x) U) h)
    where
      never : (i : ℕ) → 0 < i → i ≡ 0 → ⊥
      never i p q = omega arith

      one : (x : ℕ) → 0 < suc x
      one x = omega arith

  round_order : (s t : Bool) → Cross s t (a * d) (b * c) → T (le (round binary64 s a c) (round binary64 t b d))
  unfolding Cross
  round_order false false h = round_mono binary64 a c b d C D h
  round_order true true h =
      subst (λ (v : Float). T (le v (round binary64 true b d))) (round_neg a c)
      (subst (λ (v : Float). T (le (neg (round binary64 false a c)) v)) (round_neg b d)
      (le_neg (round binary64 false b d) (round binary64 false a c) (round_mono binary64 b d a c D C h)))
  round_order true false h = subst (λ (v : Float). T (le v (round binary64 false b d))) (round_neg a c) (le_cross (round binary64 false a c) (round binary64 false b d) (plus_round a c) (plus_round b d))
  round_order false true h =
      subst (λ (x : ℕ). T (le (round binary64 false x c) (round binary64 true b d))) (sym (zero_of a d D h.0))
      (subst (λ (x : ℕ). T (le (round binary64 false 0 c) (round binary64 true x d))) (sym (zero_of b c C h.1)) (zeros_le c d C D))

-- the order of two finite floats, by the sizes crosswise
le_cross_of : (s : Bool) (m : ℕ) (e : ℤ) (t : Bool) (n : ℕ) (d : ℤ) → T (le (fin s m e) (fin t n d)) → Cross s t (m * up e * down d) (n * up d * down e)
unfolding le Cross
le_cross_of false m e false n d h = le_number (m * up e * down d) (n * up d * down e) h
le_cross_of true m e true n d h = le_number_2 (m * up e * down d) (n * up d * down e) h
le_cross_of true m e false n d h = tt
le_cross_of false m e true n d h = both (m * up e * down d) (n * up d * down e) h
  where
    both : (a b : ℕ) → T (eqb a b && eqb a 0) → (a ≡ 0) × (b ≡ 0)
    both a b h =
        let p : a ≡ b = eqb→eq a b (and_l (eqb a b) (eqb a 0) h) in
        let q : a ≡ 0 = eqb→eq a 0 (and_r (eqb a b) (eqb a 0) h) in
        (q, sym p ∙ q)

-- times k on both sides
cross_scale : (s t : Bool) (x y x' y' k : ℕ) → x' ≡ x * k → y' ≡ y * k → Cross s t x y → Cross s t x' y'
unfolding Cross
cross_scale false false x y x' y' k p q h = let z : x * k ≤ y * k = mul-le-mul_right k h in omega arith
cross_scale true true x y x' y' k p q h = let z : y * k ≤ x * k = mul-le-mul_right k h in omega arith
cross_scale true false x y x' y' k p q h = tt
cross_scale false true x y x' y' k p q h = (p ∙ ap (λ (z : ℕ). z * k) h.0 ∙ zero-mul k, q ∙ ap (λ (z : ℕ). z * k) h.1 ∙ zero-mul k)

-- ---- x ≤ y gives x / d ≤ y / d
pub div_mono : (x y d : Float) → T (is_finite x) → T (is_finite y) → T (positive d) → T (le x y) → T (le (div binary64 x d) (div binary64 y d))
unfolding is_finite
div_mono nan y d f k p h = absurd f
div_mono (inf s) y d f k p h = absurd f
div_mono (fin s m e) nan d f k p h = absurd k
div_mono (fin s m e) (inf t) d f k p h = absurd k
div_mono (fin s m e) (fin t i j) nan f k p h = absurd p
div_mono (fin s m e) (fin t i j) (inf u) f k p h = absurd p
div_mono (fin s m e) (fin t i j) (fin true n g) f k p h = absurd p
div_mono (fin s m e) (fin t i j) (fin false n g) f k p h =
    let N : 0 < n = ltb→lt 0 n p in
    subst (λ (v : Float). T (le v (div binary64 (fin t i j) (fin false n g)))) (sym (div_is s m e n g N))
    (subst (λ (v : Float). T (le (round binary64 s (m * up e * down g) (n * up g * down e)) v)) (sym (div_is t i j n g N))
    (round_order (m * up e * down g) (n * up g * down e) (i * up j * down g) (n * up g * down j) (mul-pos (mul-pos N (up_pos g)) (down_pos e)) (mul-pos (mul-pos N (up_pos g)) (down_pos j)) s t
    (cross_scale s t (m * up e * down j) (i * up j * down e) (m * up e * down g * (n * up g * down j)) (i * up j * down g * (n * up g * down e)) (down g * (n * up g))
    (flat (m * up e) (down g) (n * up g) (down j)) (flat (i * up j) (down g) (n * up g) (down e)) (le_cross_of s m e t i j h))))
  where
    flat : (a b c d : ℕ) → a * b * (c * d) ≡ a * d * (b * c)
    flat a b c d = omega arith

-- ---- 0 < d ≤ d' gives x / d' ≤ x / d for an x with the sign clear, and x / d ≤ x / d' for one with the sign set
twice : (x : Float) → neg (neg x) ≡ x
unfolding neg
twice nan = refl
twice (inf true) = refl
twice (inf false) = refl
twice (fin true m e) = refl
twice (fin false m e) = refl

neg_round : (s : Bool) (a c : ℕ) → neg (round binary64 s a c) ≡ round binary64 (not s) a c
neg_round false a c = round_neg a c
neg_round true a c = ap neg (sym (round_neg a c)) ∙ twice (round binary64 false a c)

pub div_neg : (x d : Float) → T (is_finite x) → T (positive d) → neg (div binary64 x d) ≡ div binary64 (neg x) d
unfolding is_finite neg
div_neg nan d f p = absurd f
div_neg (inf s) d f p = absurd f
div_neg (fin s m e) nan f p = absurd p
div_neg (fin s m e) (inf t) f p = absurd p
div_neg (fin s m e) (fin true n g) f p = absurd p
div_neg (fin s m e) (fin false n g) f p =
    let N : 0 < n = ltb→lt 0 n p in
    ap neg (div_is s m e n g N) ∙ neg_round s (m * up e * down g) (n * up g * down e) ∙ sym (div_is (not s) m e n g N)

anti_sizes : (m : ℕ) (e : ℤ) (n : ℕ) (g : ℤ) (i : ℕ) (j : ℤ) → T (le (fin false n g) (fin false i j)) → m * up e * down j * (n * up g * down e) ≤ m * up e * down g * (i * up j * down e)
unfolding le
anti_sizes m e n g i j h = at (m * up e) (down e) (n * up g) (down g) (i * up j) (down j) (le_number (n * up g * down j) (i * up j * down g) h)
  where
    at : (a b c d p q : ℕ) → c * q ≤ p * d → a * q * (c * b) ≤ a * d * (p * b)
    at a b c d p q h = let z : c * q * (a * b) ≤ p * d * (a * b) = mul-le-mul_right (a * b) h in omega arith

pub div_anti : (x d d' : Float) → T (is_finite x) → T (plus x) → T (positive d) → T (positive d') → T (le d d') → T (le (div binary64 x d') (div binary64 x d))
unfolding is_finite plus
div_anti nan d d' f u p q h = absurd f
div_anti (inf s) d d' f u p q h = absurd f
div_anti (fin true m e) d d' f u p q h = absurd u
div_anti (fin false m e) nan d' f u p q h = absurd p
div_anti (fin false m e) (inf s) d' f u p q h = absurd p
div_anti (fin false m e) (fin true n g) d' f u p q h = absurd p
div_anti (fin false m e) (fin false n g) nan f u p q h = absurd q
div_anti (fin false m e) (fin false n g) (inf s) f u p q h = absurd q
div_anti (fin false m e) (fin false n g) (fin true i j) f u p q h = absurd q
div_anti (fin false m e) (fin false n g) (fin false i j) f u p q h =
    let N : 0 < n = ltb→lt 0 n p in
    let I : 0 < i = ltb→lt 0 i q in
    subst (λ (v : Float). T (le v (div binary64 (fin false m e) (fin false n g)))) (sym (div_is false m e i j I))
    (subst (λ (v : Float). T (le (round binary64 false (m * up e * down j) (i * up j * down e)) v)) (sym (div_is false m e n g N))
    (round_mono binary64 (m * up e * down j) (i * up j * down e) (m * up e * down g) (n * up g * down e) (mul-pos (mul-pos I (up_pos j)) (down_pos e)) (mul-pos (mul-pos N (up_pos g)) (down_pos e))
    (anti_sizes m e n g i j h)))

pub div_anti_neg : (x d d' : Float) → T (is_finite x) → T (plus x) → T (positive d) → T (positive d') → T (le d d') → T (le (div binary64 (neg x) d) (div binary64 (neg x) d'))
div_anti_neg x d d' f u p q h =
    subst (λ (v : Float). T (le v (div binary64 (neg x) d'))) (div_neg x d f p)
    (subst (λ (v : Float). T (le (neg (div binary64 x d)) v)) (div_neg x d' f q)
    (le_neg (div binary64 x d') (div binary64 x d) (div_anti x d d' f u p q h)))

-- ---- a quotient of finite floats is a number, where the divisor is no zero
neg_no_nan : (x : Float) → T (plus x) → T (not (is_nan (neg x)))
unfolding plus is_nan neg
neg_no_nan nan p = absurd p
neg_no_nan (inf s) p = tt
neg_no_nan (fin s m e) p = tt

no_nan : (s : Bool) (a c : ℕ) → 0 < c → T (not (is_nan (round binary64 s a c)))
no_nan false a c C = plus_number (round binary64 false a c) (plus_round a c)
no_nan true a c C = subst (λ (v : Float). T (not (is_nan v))) (round_neg a c) (neg_no_nan (round binary64 false a c) (plus_round a c))

pub div_number : (k : ℕ) (x y : Float) → T (is_finite x) → AtLeast k y → T (not (is_nan (div binary64 x y)))
unfolding is_finite div
div_number k nan y f h = absurd f
div_number k (inf s) y f h = absurd f
div_number k (fin s m e) nan f h = absurd h.finite
div_number k (fin s m e) (inf t) f h = absurd h.finite
div_number k (fin s m e) (fin t n g) f h =
    subst (λ (b : Bool). T (not (is_nan (cond b (cond (eqb m 0) nan (inf (unlike s t))) (round binary64 (unlike s t) (m * up e * down g) (n * up g * down e)))))) (sym (ne_eqb n 0 (not_zero k n g h.size)))
    (no_nan (unlike s t) (m * up e * down g) (n * up g * down e) (mul-pos (some_size k n g h.size) (down_pos e)))

-- ---- |x| ≤ |y| gives a quotient of at most 1 in size
pub div_unit : (k : ℕ) (x y : Float) → T (is_finite x) → AtLeast k y → num x * den y ≤ num y * den x → AtMost 1074 (div binary64 x y)
unfolding is_finite div
div_unit k nan y f h l = absurd f
div_unit k (inf s) y f h l = absurd f
div_unit k (fin s m e) nan f h l = absurd h.finite
div_unit k (fin s m e) (inf t) f h l = absurd h.finite
div_unit k (fin s m e) (fin t n g) f h l =
    subst (λ (b : Bool). AtMost 1074 (cond b (cond (eqb m 0) nan (inf (unlike s t))) (round binary64 (unlike s t) (m * up e * down g) (n * up g * down e)))) (sym (ne_eqb n 0 (not_zero k n g h.size)))
    (within_most 1074 (round binary64 (unlike s t) (m * up e * down g) (n * up g * down e))
    (round_within (m * up e * down g) (n * up g * down e) (2 ^ 1074) (2 ^ 1074) (2 ^ 1074) (2 ^ 1074) (mul-pos (some_size k n g h.size) (down_pos e)) (pow_pos 1074)
    (scale (m * up e * down g) (n * up g * down e) (2 ^ 1074) l) (exact_power 1074 (lit≤ tt)) (unlike s t)))
  where
    scale : (a b w : ℕ) → a ≤ b → a * w ≤ w * b
    scale a b w h = let z : a * w ≤ b * w = mul-le-mul_right w h in omega arith

-- |y| ≤ 2 |x| gives one of at least 1/2
pub div_half : (k : ℕ) (x y : Float) → T (is_finite x) → AtLeast k y → num y * den x ≤ 2 * num x * den y → T (is_finite (div binary64 x y)) → AtLeast 1073 (div binary64 x y)
unfolding is_finite div
div_half k nan y f h l F = absurd f
div_half k (inf s) y f h l F = absurd f
div_half k (fin s m e) nan f h l F = absurd h.finite
div_half k (fin s m e) (inf t) f h l F = absurd h.finite
div_half k (fin s m e) (fin t n g) f h l F =
    let q = ne_eqb n 0 (not_zero k n g h.size) in
    subst (AtLeast 1073) (sym (ap at q))
    (round_least (m * up e * down g) (n * up g * down e) 1073 (mul-pos (some_size k n g h.size) (down_pos e)) (lit≤ tt)
    (scale (m * up e) (down g) (n * up g * down e) (2 ^ 1073) (2 ^ 1074) l refl) (unlike s t) (subst (λ (v : Float). T (is_finite v)) (ap at q) F))
  where
    at : Bool → Float
    at b = cond b (cond (eqb m 0) nan (inf (unlike s t))) (round binary64 (unlike s t) (m * up e * down g) (n * up g * down e))

    scale : (a b c v w : ℕ) → c ≤ 2 * a * b → w ≡ 2 * v → v * c ≤ a * b * w
    scale a b c v w h e =
        let y : c * v ≤ 2 * a * b * v = mul-le-mul_right v h in
        let z : a * b * w ≡ a * b * (2 * v) = ap (λ (i : ℕ). a * b * i) e in
        omega arith

-- ---- a direction
sized : (x : Float) (s : Bool) (a c : ℕ) → HasValue x s a c → num x * c ≡ a * den x
sized nan s a c h = absurd h
sized (inf t) s a c h = absurd h
sized (fin t m e) s a c h = h.1

-- the double of a float that is at most 2 ^ 1022 is a value of the format
double_exact : (x : Float) → T (fits binary64 x) → AtMost 2096 x → Exact (num x + num x) (den x)
double_exact x f h = at (value_of x f h.finite)
  where
    at : (s : Bool) × (q : ℕ) × (k : ℕ) × HasValue x s (grains x) (2 ^ 1074) × Value (grains x) q k → Exact (num x + num x) (den x)
    at (s, q, k, v, u) =
        let c : num x * 2 ^ 1074 ≡ grains x * den x = sized x s (grains x) (2 ^ 1074) v in
        let l : grains x ≤ 2 ^ 2096 = le_of_mul-le-mul_right (le_trans (le_of_eq (sym c)) h.size) (den_pos x) in
        let p : q * 2 ^ (k + 1) ≡ 2 * grains x = ap (λ (z : ℕ). q * z) (pow-add 2 k 1) ∙ flat q (2 ^ k) (grains x) u.is in
        round_exact binary64 false (num x + num x) (den x) q (k + 1) (den_pos x) u.digits
        (lt_of_le_of_lt (le_of_eq p) (lt_of_le_of_lt (twice-le (grains x) (2 ^ 2096) l) (lit< tt)))
        (both (num x) (2 ^ 1074) (grains x) (den x) c ∙ ap (λ (z : ℕ). z * den x) (sym p))
      where
        flat : (q b n : ℕ) → n ≡ q * b → q * (b * 2) ≡ 2 * n
        flat q b n h = omega arith

        twice-le : (a b : ℕ) → a ≤ b → 2 * a ≤ 2 * b
        twice-le a b h = omega arith

        both : (a w n d : ℕ) → a * w ≡ n * d → (a + a) * w ≡ 2 * n * d
        both a w n d h = omega arith

abs_num : (x : Float) → num (abs_of x) ≡ num x
unfolding abs_of
abs_num nan = refl
abs_num (inf s) = refl
abs_num (fin s m e) = refl

abs_den : (x : Float) → den (abs_of x) ≡ den x
unfolding abs_of
abs_den nan = refl
abs_den (inf s) = refl
abs_den (fin s m e) = refl

own_abs : (x : Float) → T (is_finite x) → HasValue (abs_of x) false (num x) (den x)
unfolding abs_of is_finite
own_abs nan f = absurd f
own_abs (inf s) f = absurd f
own_abs (fin s m e) f = (refl, refl)

own_within : (x : Float) → T (is_finite x) → Within (num x) (den x) x
own_within x f = record { finite = f; size = le_refl (num x * den x) }

-- below what is bounded, with the sign clear
le_within : (a c : ℕ) (v w : Float) → T (plus v) → T (plus w) → T (le v w) → Within a c w → Within a c v
unfolding plus le is_finite
le_within a c nan w p q l h = absurd p
le_within a c (inf true) w p q l h = absurd p
le_within a c (inf false) nan p q l h = absurd q
le_within a c (inf false) (inf t) p q l h = absurd h.finite
le_within a c (inf false) (fin t n d) p q l h = absurd l
le_within a c (fin true m e) w p q l h = absurd p
le_within a c (fin false m e) nan p q l h = absurd q
le_within a c (fin false m e) (inf t) p q l h = absurd h.finite
le_within a c (fin false m e) (fin true n d) p q l h = absurd q
le_within a c (fin false m e) (fin false n d) p q l h =
    record { finite = tt; size = through (m * up e) (n * up d) a (down e) (down d) c (down_pos d) (le_number (m * up e * down d) (n * up d * down e) l) h.size }

-- the hypotenuse is at most twice the larger side
module _ (x y : Float) (F : T (fits binary64 x)) (G : T (fits binary64 y)) (X : AtMost 2096 x) (Y : T (is_finite y)) (l : num y * den x ≤ num x * den y) where
  hypot_double : Within (num x + num x) (den x) (hypot_of x y)
  hypot_double =
      let S : Within (num x + num x) (den x) (add binary64 (abs_of x) (abs_of y)) = add_within (num x) (num x) (den x) (abs_of x) (abs_of y) (den_pos x) (double_exact x F X)
      (abs_within (num x) (den x) x (own_within x X.finite)) (abs_within (num x) (den x) y (record { finite = Y; size = l })) in
      le_within (num x + num x) (den x) (hypot_of x y) (add binary64 (abs_of x) (abs_of y)) (hypot_plus x y X.finite Y) (sum-plus S.finite) (hypot_under x y F G X.finite Y) S
    where
      sum-plus : T (is_finite (add binary64 (abs_of x) (abs_of y))) → T (plus (add binary64 (abs_of x) (abs_of y)))
      sum-plus f = (size_of (add binary64 (abs_of x) (abs_of y)) (add_unsigned (abs_of x) (abs_of y) (abs_unsigned x) (abs_unsigned y)) f).1

  hypot_over : num x * den (hypot_of x y) ≤ num (hypot_of x y) * den x
  hypot_over = at (hypot_of x y) (hypot_plus x y X.finite Y) hypot_double.finite (hypot_above x y F X.finite Y)
    where
      at : (v : Float) → T (plus v) → T (is_finite v) → T (le (abs_of x) v) → num x * den v ≤ num v * den x
      at v p f h = over_value v (abs_of x) (num x) (den x) p f (own_abs x X.finite) h

  hypot_some : (k : ℕ) → k ≤ 2097 → AtLeast k x → AtLeast k (hypot_of x y)
  hypot_some k K h = hypot_least k x y K h Y hypot_double.finite

  -- x over the hypotenuse is from 1/2 to 1 in size
  pub larger_side : (k : ℕ) → k ≤ 2097 → AtLeast k x → AtMost 1074 (div binary64 x (hypot_of x y)) × AtLeast 1073 (div binary64 x (hypot_of x y))
  larger_side k K h =
      let H = hypot_some k K h in
      let U : AtMost 1074 (div binary64 x (hypot_of x y)) = div_unit k x (hypot_of x y) X.finite H hypot_over in
      (U, div_half k x (hypot_of x y) X.finite H (le_trans hypot_double.size (le_of_eq (flat (num x) (den (hypot_of x y))))) U.finite)
    where
      flat : (a b : ℕ) → (a + a) * b ≡ 2 * a * b
      flat a b = omega arith

-- ---- signs: a quotient by a float above zero keeps a clear sign, and so do a product that is finite and a minimum
pub div_plus : (x d : Float) → T (is_finite x) → T (plus x) → T (positive d) → T (plus (div binary64 x d))
unfolding is_finite plus
div_plus nan d f u p = absurd f
div_plus (inf s) d f u p = absurd f
div_plus (fin true m e) d f u p = absurd u
div_plus (fin false m e) nan f u p = absurd p
div_plus (fin false m e) (inf s) f u p = absurd p
div_plus (fin false m e) (fin true n g) f u p = absurd p
div_plus (fin false m e) (fin false n g) f u p = subst (λ (v : Float). T (plus v)) (sym (div_is false m e n g (ltb→lt 0 n p))) (plus_round (m * up e * down g) (n * up g * down e))

pub mul_plus : (x y : Float) → T (plus x) → T (plus y) → T (is_finite (mul binary64 x y)) → T (plus (mul binary64 x y))
mul_plus x y p q f = (size_of (mul binary64 x y) (mul_unsigned x y (plus_unsigned x p) (plus_unsigned y q)) f).1

pub min_plus : (x y : Float) → T (plus x) → T (plus y) → T (plus (min_of x y))
unfolding min_of
min_plus x y p q = go (lt y x)
  where
    go : (b : Bool) → T (plus (cond b y x))
    go true = q
    go false = p

-- at least something, with the sign clear: above zero
pub least_positive : (k : ℕ) (x : Float) → AtLeast k x → T (plus x) → T (positive x)
unfolding is_finite plus
least_positive k nan h p = absurd p
least_positive k (inf s) h p = absurd h.finite
least_positive k (fin true m e) h p = absurd p
least_positive k (fin false m e) h p = lt→ltb 0 m (pos_of m (not_zero k m e h.size))
  where
    pos_of : (m : ℕ) → (m ≡ 0 → ⊥) → 0 < m
    pos_of zero f = absurd (f refl)
    pos_of (suc m) f = one m
      where
        one : (m : ℕ) → 0 < suc m
        one m = omega arith

-- ---- x - y and y - x have one size
cond_least : (k : ℕ) (b : Bool) (x y x' y' : Float) → (AtLeast k x → AtLeast k x') → (AtLeast k y → AtLeast k y') → AtLeast k (cond b x y) → AtLeast k (cond b x' y')
cond_least k true x y x' y' f g h = f h
cond_least k false x y x' y' f g h = g h

any_sign : (k : ℕ) (s t : Bool) (a c : ℕ) → AtLeast k (round binary64 s a c) → AtLeast k (round binary64 t a c)
any_sign k true true a c h = h
any_sign k false false a c h = h
any_sign k true false a c h = subst (AtLeast k) (neg_round true a c) (neg_least k (round binary64 true a c) h)
any_sign k false true a c h = subst (AtLeast k) (neg_round false a c) (neg_least k (round binary64 false a c) h)

like : (s t : Bool) → beq (not s) (not t) ≡ beq s t
like true true = refl
like true false = refl
like false true = refl
like false false = refl

sum_turned : (k : ℕ) (s : Bool) (A : ℕ) (t : Bool) (B C : ℕ) → AtLeast k (sum binary64 s A t B C) → AtLeast k (sum binary64 (not s) A (not t) B C)
unfolding sum
sum_turned k s A t B C h =
    subst (λ (b : Bool). AtLeast k (cond b (round binary64 (not s) (A + B) C) (cond (ltb A B) (round binary64 (not t) (B - A) C) (round binary64 (not s && ltb B A) (A - B) C)))) (sym (like s t))
    (cond_least k (beq s t) (round binary64 s (A + B) C) (cond (ltb A B) (round binary64 t (B - A) C) (round binary64 (s && ltb B A) (A - B) C)) (round binary64 (not s) (A + B) C)
    (cond (ltb A B) (round binary64 (not t) (B - A) C) (round binary64 (not s && ltb B A) (A - B) C))
    (any_sign k s (not s) (A + B) C)
    (cond_least k (ltb A B) (round binary64 t (B - A) C) (round binary64 (s && ltb B A) (A - B) C) (round binary64 (not t) (B - A) C) (round binary64 (not s && ltb B A) (A - B) C)
    (any_sign k t (not t) (B - A) C) (any_sign k (s && ltb B A) (not s && ltb B A) (A - B) C)) h)

add_turned : (k : ℕ) (x y : Float) → T (is_finite x) → T (is_finite y) → AtLeast k (add binary64 x y) → AtLeast k (add binary64 (neg x) (neg y))
unfolding add neg is_finite
add_turned k nan y f g h = absurd f
add_turned k (inf s) y f g h = absurd f
add_turned k (fin s m e) nan f g h = absurd g
add_turned k (fin s m e) (inf t) f g h = absurd g
add_turned k (fin s m e) (fin t n d) f g h = sum_turned k s (m * up e * down d) t (n * up d * down e) (down e * down d) h

pub sub_swap : (k : ℕ) (x y : Float) → T (is_finite x) → T (is_finite y) → AtLeast k (sub binary64 x y) → AtLeast k (sub binary64 y x)
unfolding sub
sub_swap k x y f g h =
    subst (AtLeast k) (add_commutes (neg x) y)
    (subst (λ (v : Float). AtLeast k (add binary64 (neg x) v)) (twice y) (add_turned k x (neg y) f (finite-neg y g) h))
  where
    finite-neg : (y : Float) → T (is_finite y) → T (is_finite (neg y))
    finite-neg nan g = unfold is_finite neg in g
    finite-neg (inf s) g = unfold is_finite neg in g
    finite-neg (fin s m e) g = unfold is_finite neg in tt
