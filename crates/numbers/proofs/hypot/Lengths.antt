-- The two sides' squares, and what is close to the root of their sum. Assumes nothing.
use mathlib.Core.Path.{◌≡◌, sym, ap, ◌∙◌, subst}
use mathlib.Core.Logic.{◌⊎◌, inl, inr}
use Prim.Native.Nat.{ℕ, ◌+◌, ◌-◌, ◌*◌, ◌/◌, ◌%◌, ◌^◌, ◌≤◌, ◌<◌}
use native.Mathlib.Nat.{lt_of_lt_of_le, mul-le-mul_right, mul-le-mul, mul-lt-mul_of_pos_left, mul-lt-mul_of_pos_right, le-mul_of_pos_right, mul-pos, mod-lt, div-add-mod', eq-zero-or-pos}
use native.Mathlib.Omega.{arith}
use lib.Pow.{pow_pos, pow-add, pow_mono}
use Rattle.numbers.specs.Stages.Steps.{Close}
use Rattle.numbers.proofs.hypot.Words.{square_lt, cut_le, root_lt}
use Rattle.numbers.proofs.float.Rounding.{sq_lt_back}
use Rattle.numbers.proofs.float.Whole.{at_inf, at_inf_2, at_nan, at_nan_2, no_nan_bits}

-- `Close` with the number in place of the power
abbrev Near : ℕ → ℕ → ℕ → ℕ → Type 0
Near n s x w = (s * s * w ≤ n) × (n < (s + 1) * (s + 1) * w) × (x ≡ 0 → n ≡ s * s * w) × (n ≡ s * s * w → x ≡ 0)

to_close : (n s x e w : ℕ) → 2 ^ e * 2 ^ e ≡ w → Near (4 * n) s x w → Close n s x e
to_close n s x e w p h = record {
  low = subst (λ (a : ℕ). a ≤ 4 * n) (sq s) h.0;
  high = subst (λ (a : ℕ). 4 * n < a) (sq (s + 1)) h.1;
  exact = λ z. h.2 z ∙ sq s;
  only = λ z. h.3 (z ∙ sym (sq s));
}
  where
    flat : (s d : ℕ) → s * s * (d * d) ≡ s * d * (s * d)
    flat s d = omega arith

    sq : (s : ℕ) → s * s * w ≡ s * 2 ^ e * (s * 2 ^ e)
    sq s = ap (λ (a : ℕ). s * s * a) (sym p) ∙ flat s (2 ^ e)

-- the powers: e = f + d
powers : (e f d : ℕ) → e ≡ f + d → 2 ^ e * 2 ^ e ≡ 2 ^ f * 2 ^ f * 2 ^ (2 * d)
powers e f d h =
    ap (λ (k : ℕ). 2 ^ k * 2 ^ k) h
    ∙ ap (λ (a : ℕ). a * a) (pow-add 2 f d)
    ∙ flat (2 ^ f) (2 ^ d)
    ∙ ap (λ (a : ℕ). 2 ^ f * 2 ^ f * a) (sym (pow-add 2 d d) ∙ ap (λ (k : ℕ). 2 ^ k) (twice d))
  where
    flat : (a b : ℕ) → a * b * (a * b) ≡ a * a * (b * b)
    flat a b = omega arith

    twice : (d : ℕ) → d + d ≡ 2 * d
    twice d = omega arith

-- ---- exponents less than 27 apart. k is 4 ^ f, p is 4 ^ d, m what the division by p leaves
near_at : (k p s r m : ℕ) → 0 < k → 0 < p → m < p → r ≤ 2 * s → Near (k * ((s * s + r) * p + m)) s (r + m) (k * p)
near_at k p s r m K P M R =
    let kp : 0 < k * p = mul-pos K P in
    let a : r * (k * p) ≤ 2 * s * (k * p) = mul-le-mul_right (k * p) R in
    let b : k * m < k * p = mul-lt-mul_of_pos_left M K in
    let c : r ≤ r * (k * p) = le-mul_of_pos_right r kp in
    let d : m ≤ m * k = le-mul_of_pos_right m K in
    (omega arith, omega arith, zero_left k p s r m, (λ z. omega arith))
  where
    at_zero : (k p s : ℕ) → k * ((s * s + 0) * p + 0) ≡ s * s * (k * p)
    at_zero k p s = omega arith

    none : (a b : ℕ) → a + b ≡ 0 → (a ≡ 0) × (b ≡ 0)
    none a b h = (omega arith, omega arith)

    zero_left : (k p s r m : ℕ) → r + m ≡ 0 → k * ((s * s + r) * p + m) ≡ s * s * (k * p)
    zero_left k p s r m h =
        ap (λ (a : ℕ). k * ((s * s + a) * p + m)) (none r m h).0
        ∙ ap (λ (a : ℕ). k * ((s * s + 0) * p + a)) (none r m h).1
        ∙ at_zero k p s

-- four times the sum of the squares
four_sum : (x y E F K P : ℕ) → E * E ≡ F * F * P → 4 * (x * E * (x * E) + y * F * (y * F)) ≡ F * F * ((2 * x * (2 * x) + 2 * y * (2 * y) / P) * P + 2 * y * (2 * y) % P)
four_sum x y E F K P h =
    spread x y E F
    ∙ ap (λ (a : ℕ). 2 * x * (2 * x) * a + 2 * y * (2 * y) * (F * F)) h
    ∙ ap (λ (a : ℕ). 2 * x * (2 * x) * (F * F * P) + a * (F * F)) (sym (div-add-mod' (2 * y * (2 * y)) P))
    ∙ gather (2 * x * (2 * x)) (2 * y * (2 * y) / P) (2 * y * (2 * y) % P) (F * F) P
  where
    spread : (x y E F : ℕ) → 4 * (x * E * (x * E) + y * F * (y * F)) ≡ 2 * x * (2 * x) * (E * E) + 2 * y * (2 * y) * (F * F)
    spread x y E F = omega arith

    gather : (a b m k p : ℕ) → a * (k * p) + (b * p + m) * k ≡ k * ((a + b) * p + m)
    gather a b m k p = omega arith

pub near_close : (x e y f d s r : ℕ) → e ≡ f + d → s * s + r ≡ 2 * x * (2 * x) + 2 * y * (2 * y) / 2 ^ (2 * d) → r ≤ 2 * s
    → Close (x * 2 ^ e * (x * 2 ^ e) + y * 2 ^ f * (y * 2 ^ f)) s (r + 2 * y * (2 * y) % 2 ^ (2 * d)) e
near_close x e y f d s r g h l =
    let p = 2 ^ (2 * d) in
    let k = 2 ^ f * 2 ^ f in
    let m = 2 * y * (2 * y) % p in
    to_close (x * 2 ^ e * (x * 2 ^ e) + y * 2 ^ f * (y * 2 ^ f)) s (r + m) e (k * p) (powers e f d g)
    (subst (λ (n : ℕ). Near n s (r + m) (k * p))
    (ap (λ (v : ℕ). k * (v * p + m)) h ∙ sym (four_sum x y (2 ^ e) (2 ^ f) k p (powers e f d g)))
    (near_at k p s r m (mul-pos (pow_pos f) (pow_pos f)) (pow_pos (2 * d)) (mod-lt (2 * y * (2 * y)) (pow_pos (2 * d))) l))

-- ---- further apart
far_at : (k p x y : ℕ) → 0 < k → y * y < x * p → Near (2 * x * (2 * x) * (k * p) + 2 * y * (2 * y) * k) (2 * x) y (k * p)
far_at k p x y K H =
    let a : y * y * k < x * p * k = mul-lt-mul_of_pos_right H K in
    (omega arith, omega arith, none, (λ z. zero_of (eq-zero-or-pos y) z))
  where
    none : y ≡ 0 → 2 * x * (2 * x) * (k * p) + 2 * y * (2 * y) * k ≡ 2 * x * (2 * x) * (k * p)
    none z = ap (λ (a : ℕ). 2 * x * (2 * x) * (k * p) + 2 * a * (2 * a) * k) z ∙ flat
      where
        flat : 2 * x * (2 * x) * (k * p) + 2 * 0 * (2 * 0) * k ≡ 2 * x * (2 * x) * (k * p)
        flat = omega arith

    zero_of : (y ≡ 0) ⊎ (0 < y) → 2 * x * (2 * x) * (k * p) + 2 * y * (2 * y) * k ≡ 2 * x * (2 * x) * (k * p) → y ≡ 0
    zero_of (inl e) z = e
    zero_of (inr h) z = absurd (no (mul-pos (mul-pos h h) K) z)
      where
        no : 0 < y * y * k → 2 * x * (2 * x) * (k * p) + 2 * y * (2 * y) * k ≡ 2 * x * (2 * x) * (k * p) → ⊥
        no a b = omega arith

pub far_close : (x e y f : ℕ) → f + 27 ≤ e → 2 ^ 52 ≤ x → y < 2 ^ 53
    → Close (x * 2 ^ e * (x * 2 ^ e) + y * 2 ^ f * (y * 2 ^ f)) (2 * x) y e
far_close x e y f D X Y =
    let d = e - f in
    let g : e ≡ f + (e - f) = omega arith in
    let p = 2 ^ (2 * d) in
    let k = 2 ^ f * 2 ^ f in
    let far : 54 ≤ 2 * (e - f) = omega arith in
    let big : 2 ^ 106 ≤ x * p = mul-le-mul {n₁ = 2 ^ 52} {m₁ = 2 ^ 54} {n₂ = x} {m₂ = p} X (pow_mono far) in
    to_close (x * 2 ^ e * (x * 2 ^ e) + y * 2 ^ f * (y * 2 ^ f)) (2 * x) y e (k * p) (powers e f d g)
    (subst (λ (n : ℕ). Near n (2 * x) y (k * p))
    (ap (λ (a : ℕ). 2 * x * (2 * x) * a + 2 * y * (2 * y) * k) (sym (powers e f d g)) ∙ sym (spread x y (2 ^ e) (2 ^ f)))
    (far_at k p x y (mul-pos (pow_pos f) (pow_pos f)) (lt_of_lt_of_le (square_lt (2 ^ 53) y Y) big)))
  where
    spread : (x y E F : ℕ) → 4 * (x * E * (x * E) + y * F * (y * F)) ≡ 2 * x * (2 * x) * (E * E) + 2 * y * (2 * y) * (F * F)
    spread x y E F = omega arith

-- ---- bounds
pub squares_lt : (x y p : ℕ) → x < 2 ^ 53 → y < 2 ^ 53 → 2 * x * (2 * x) + 2 * y * (2 * y) / p < 2 ^ 109
squares_lt x y p X Y =
    let a : 2 * x < 2 ^ 54 = omega arith in
    let b : 2 * y < 2 ^ 54 = omega arith in
    let c : 2 * x * (2 * x) < 2 ^ 108 = square_lt (2 ^ 54) (2 * x) a in
    let d : 2 * y * (2 * y) / p < 2 ^ 108 = cut_le (2 * y) p b in
    sum (2 * x * (2 * x)) (2 * y * (2 * y) / p) c d
  where
    sum : (a b : ℕ) → a < 2 ^ 108 → b < 2 ^ 108 → a + b < 2 ^ 109
    sum a b h k = omega arith

-- the root is not below the longer side's double
pub root_ge : (x b s r : ℕ) → s * s + r ≡ 2 * x * (2 * x) + b → r ≤ 2 * s → 2 * x ≤ s
root_ge x b s r h l = down (sq_lt_back (2 * x) (s + 1) (up (2 * x * (2 * x)) h))
  where
    up : (a : ℕ) → s * s + r ≡ a + b → a < (s + 1) * (s + 1)
    up a h = omega arith

    down : 2 * x < s + 1 → 2 * x ≤ s
    down h = omega arith

pub cut_lt : (n d : ℕ) → d < 27 → n % 2 ^ (2 * d) < 2 ^ 54
cut_lt n d h = lt_of_lt_of_le (mod-lt n (pow_pos (2 * d))) (pow_mono (less d h))
  where
    less : (d : ℕ) → d < 27 → 2 * d ≤ 54
    less d h = omega arith

-- an argument that is infinite or NaN, and that a length of bits is a number
pub ruleset special_laws = (at_inf, at_inf_2, at_nan, at_nan_2, no_nan_bits)

pub ruleset near_laws = (root_lt, squares_lt, root_ge, cut_lt)
