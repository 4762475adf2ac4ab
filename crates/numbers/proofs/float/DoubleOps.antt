-- Doubling and products, quotients and hypot. A quotient of two doubled numbers is the quotient, at every float, so its floor is too. The others ask that the result has room and is
-- above 2 ^ -1022 in size, or that nothing is rounded at zero. Assumes nothing.
use Rattle.std.proofs.Common.{◌≡◌, ℕ, zero, suc, ◌+◌, ◌-◌, ◌*◌, ◌/◌, ◌^◌, ◌<◌, ◌≤◌, Bool, true, false, cond, not, T, eqb, ◌⊎◌, ℤ, sym, refl, ap, ◌∙◌, subst, inl, inr, le_trans, le_of_eq, add-zero, mul-le-mul_right, zero-lt-suc, mul_assoc, mul_comm, eq-or-lt_of_le, mul-pos, lt_of_not-le, zero-mul, not-le_of_lt, arith, lit<, lit≤, pow_pos, pow_mono}
use Prim.Native.Nat.{compare}
use native.Mathlib.Nat.{mul-div-mul_left, pow-succ'}
use native.Mathlib.Decide.{dec_le}
use mathlib.Core.Bool.{beq}
use lib.Ieee.{Float, nan, inf, fin, up, down, unlike, size, nearest, units, mul, div, round, fits, binary64}
use lib.Ieee.Digits.{size-lt, size_reaches}
use lib.Ieee.Exact.{HasValue}
use lib.Ieee.Fits.{up_pos, down_pos, round-fits}
use lib.Ieee.Scale.{round_same}
use Rattle.numbers.specs.Small.{is_finite, abs_of}
use Rattle.numbers.specs.Floor.{floor_of, floor_int}
use Rattle.numbers.specs.Hypot.{grains, root_in, nearest_root, hypot_of}
use Rattle.numbers.specs.Rounding.{Value}
use Rattle.numbers.specs.Double.{twice, Finite, Doublable, AboveLeast, ZeroSize}
use Rattle.numbers.proofs.float.Pack.{size_exact, grains_of, units_value, units_over}
use Rattle.numbers.proofs.float.Whole.{both_finite}
use Rattle.numbers.proofs.float.Rounding.{nearest_lt, nearest_eq, nearest_gt, sq_le}
use Rattle.numbers.proofs.float.Hypots.{quarters, nearest_round, root_own, hypot_comm}
use Rattle.numbers.proofs.float.RoundLaws.{value_of, root_rounded}
use Rattle.numbers.proofs.float.OperationLaws.{mul_is, div_is}
use Rattle.numbers.proofs.float.DoubleLaws.{twice_value, abs_twice, finite_twice}
use Rattle.numbers.proofs.float.DoubleRound.{twice_fits, twice_is, double_lt, round_large, round_above, round_none}

-- ---- grains
pub grains_twice : (x : Float) → Finite x → grains (twice x) ≡ 2 * grains x
grains_twice x f = let X = value_of x f.held f.finite in grains_of (twice x) X.0 (2 * grains x) (twice_value x X.0 (grains x) (2 ^ 1074) X.3)

pub twice_finite : (x : Float) → Doublable x → Finite (twice x)
twice_finite x r =
    let X = value_of x r.number.held r.number.finite in
    record { held = twice_fits x X.0 (grains x) r.number.held X.3 r.room; finite = subst T (sym (finite_twice x)) r.number.finite }

-- ---- products
module _ (x y : Float) (f : Finite x) (g : Finite y) where
  -- a product is rounded from its factors' grains
  pub product_is : (s : Bool) × (mul binary64 x y ≡ round binary64 s (grains x * grains y) (2 ^ 1074 * 2 ^ 1074)) × (mul binary64 (twice x) y ≡ round binary64 s (2 * (grains x * grains y)) (2 ^ 1074 * 2 ^ 1074))
  product_is =
      let X = value_of x f.held f.finite in
      let Y = value_of y g.held g.finite in
      let w = 2 ^ 1074 in (
        unlike X.0 Y.0,
        mul_is x y X.0 Y.0 (grains x) w (grains y) w (pow_pos 1074) (pow_pos 1074) X.3 Y.3,
        mul_is (twice x) y X.0 Y.0 (2 * grains x) w (grains y) w (pow_pos 1074) (pow_pos 1074) (twice_value x X.0 (grains x) w X.3) Y.3
            ∙ ap (λ (z : ℕ). round binary64 (unlike X.0 Y.0) z (w * w)) (mul_assoc 2 (grains x) (grains y)),
      )

  pub mul_twice : AboveLeast (mul binary64 x y) → Doublable (mul binary64 x y) → mul binary64 (twice x) y ≡ twice (mul binary64 x y)
  mul_twice a r =
      let P = product_is in
      P.2 ∙ round_above P.0 (grains x * grains y) (2 ^ 1074 * 2 ^ 1074) (mul-pos (pow_pos 1074) (pow_pos 1074)) (subst AboveLeast P.1 a) (subst Doublable P.1 r) ∙ ap twice (sym P.1)

  -- by the exact product: 2 ^ -1022 at least
  pub mul_twice_large : 2 ^ 1126 ≤ grains x * grains y → Doublable (mul binary64 x y) → mul binary64 (twice x) y ≡ twice (mul binary64 x y)
  mul_twice_large a r =
      let P = product_is in
      let w = 2 ^ 1074 in
      P.2
      ∙ round_large P.0 (grains x * grains y) (w * w) (mul-pos (pow_pos 1074) (pow_pos 1074)) (le_trans (le_of_eq (split w)) (mul-le-mul_right w a)) (subst Doublable P.1 r)
      ∙ ap twice (sym P.1)
    where
      split : (w : ℕ) → 2 ^ 52 * (2 ^ 1074 * 2 ^ 1074) ≡ 2 ^ 1126 * 2 ^ 1074
      split w = refl

  -- a factor of size 0
  pub mul_twice_zero : ZeroSize x ⊎ ZeroSize y → mul binary64 (twice x) y ≡ twice (mul binary64 x y)
  mul_twice_zero z =
      let P = product_is in
      P.2 ∙ round_none P.0 (grains x * grains y) (2 ^ 1074 * 2 ^ 1074) (mul-pos (pow_pos 1074) (pow_pos 1074)) (none z) ∙ ap twice (sym P.1)
    where
      none : ZeroSize x ⊎ ZeroSize y → grains x * grains y ≡ 0
      none (inl e) = ap (λ (a : ℕ). a * grains y) e ∙ zero-mul (grains y)
      none (inr e) = ap (λ (a : ℕ). grains x * a) e ∙ mul_comm (grains x) 0 ∙ zero-mul (grains x)

beq_comm : (s t : Bool) → beq s t ≡ beq t s
beq_comm true true = refl
beq_comm true false = refl
beq_comm false true = refl
beq_comm false false = refl

pub mul_commutes : (x y : Float) → mul binary64 x y ≡ mul binary64 y x
unfolding mul
mul_commutes nan nan = refl
mul_commutes nan (inf t) = refl
mul_commutes nan (fin t n d) = refl
mul_commutes (inf s) nan = refl
mul_commutes (inf s) (inf t) = ap (λ (b : Bool). inf (not b)) (beq_comm s t)
mul_commutes (inf s) (fin t n d) = ap (λ (b : Bool). cond (eqb n 0) nan (inf (not b))) (beq_comm s t)
mul_commutes (fin s m e) nan = refl
mul_commutes (fin s m e) (inf t) = ap (λ (b : Bool). cond (eqb m 0) nan (inf (not b))) (beq_comm s t)
mul_commutes (fin s m e) (fin t n d) =
    ap (λ (b : Bool). round binary64 (not b) (m * up e * (n * up d)) (down e * down d)) (beq_comm s t)
    ∙ ap (λ (a : ℕ). round binary64 (unlike t s) a (down e * down d)) (mul_comm (m * up e) (n * up d))
    ∙ ap (λ (a : ℕ). round binary64 (unlike t s) (n * up d * (m * up e)) a) (mul_comm (down e) (down d))

-- ---- quotients
-- two doubled numbers: the same quotient, whatever they are
div_both_fin : (s : Bool) (m : ℕ) (e : ℤ) (t : Bool) (n : ℕ) (d : ℤ) → div binary64 (twice (fin s m e)) (twice (fin t (suc n) d)) ≡ div binary64 (fin s m e) (fin t (suc n) d)
div_both_fin s m e t n d =
    let x = fin s m e in
    let y = fin t (suc n) d in
    let a = m * up e * down d in
    let b = suc n * up d * down e in
    let w = down e * down d in
    let W : 0 < w = mul-pos (down_pos e) (down_pos d) in
    let B : 0 < b = mul-pos (mul-pos (zero-lt-suc n) (up_pos d)) (down_pos e) in
    let X : HasValue x s a w = (refl, left (m * up e) (down e) (down d)) in
    let Y : HasValue y t b w = (refl, right (suc n * up d) (down e) (down d)) in
    div_is (twice x) (twice y) s t (2 * a) (2 * b) w W (two b B) (twice_value x s a w X) (twice_value y t b w Y)
    ∙ round_same binary64 (unlike s t) (2 * a) (2 * b) a b (two b B) B (swap a b)
    ∙ sym (div_is x y s t a b w W B X Y)
  where
    left : (p i j : ℕ) → p * (i * j) ≡ p * j * i
    left p i j = omega arith

    right : (p i j : ℕ) → p * (i * j) ≡ p * i * j
    right p i j = omega arith

    two : (b : ℕ) → 0 < b → 0 < 2 * b
    two b h = omega arith

    swap : (a b : ℕ) → 2 * a * b ≡ a * (2 * b)
    swap a b = omega arith

pub div_both : (x y : Float) → div binary64 (twice x) (twice y) ≡ div binary64 x y
unfolding div twice
div_both nan y = refl
div_both (inf s) nan = refl
div_both (inf s) (inf t) = refl
div_both (inf s) (fin t zero d) = refl
div_both (inf s) (fin t (suc n) d) = refl
div_both (fin s zero e) nan = refl
div_both (fin s (suc m) e) nan = refl
div_both (fin s zero e) (inf t) = refl
div_both (fin s (suc m) e) (inf t) = refl
div_both (fin s zero e) (fin t zero d) = refl
div_both (fin s (suc m) e) (fin t zero d) = refl
div_both (fin s zero e) (fin t (suc n) d) = div_both_fin s zero e t n d
div_both (fin s (suc m) e) (fin t (suc n) d) = div_both_fin s (suc m) e t n d

pub floor_both : (x y : Float) → floor_of (div binary64 (twice x) (twice y)) ≡ floor_of (div binary64 x y)
floor_both x y = ap floor_of (div_both x y)

pub floor_int_both : (x y : Float) → floor_int (div binary64 (twice x) (twice y)) ≡ floor_int (div binary64 x y)
floor_int_both x y = ap floor_int (div_both x y)

module _ (x y : Float) (f : Finite x) (g : Finite y) (l : 0 < grains y) where
  pub quotient_is : (s : Bool) × (div binary64 x y ≡ round binary64 s (grains x) (grains y)) × (div binary64 (twice x) y ≡ round binary64 s (2 * grains x) (grains y))
  quotient_is =
      let X = value_of x f.held f.finite in
      let Y = value_of y g.held g.finite in
      let w = 2 ^ 1074 in (
        unlike X.0 Y.0,
        div_is x y X.0 Y.0 (grains x) (grains y) w (pow_pos 1074) l X.3 Y.3,
        div_is (twice x) y X.0 Y.0 (2 * grains x) (grains y) w (pow_pos 1074) l (twice_value x X.0 (grains x) w X.3) Y.3,
      )

  pub div_twice : AboveLeast (div binary64 x y) → Doublable (div binary64 x y) → div binary64 (twice x) y ≡ twice (div binary64 x y)
  div_twice a r =
      let P = quotient_is in
      P.2 ∙ round_above P.0 (grains x) (grains y) l (subst AboveLeast P.1 a) (subst Doublable P.1 r) ∙ ap twice (sym P.1)

  -- by the exact quotient: 2 ^ -1022 at least
  pub div_twice_large : 2 ^ 52 * grains y ≤ grains x * 2 ^ 1074 → Doublable (div binary64 x y) → div binary64 (twice x) y ≡ twice (div binary64 x y)
  div_twice_large a r =
      let P = quotient_is in
      P.2 ∙ round_large P.0 (grains x) (grains y) l a (subst Doublable P.1 r) ∙ ap twice (sym P.1)

  pub div_twice_zero : ZeroSize x → div binary64 (twice x) y ≡ twice (div binary64 x y)
  div_twice_zero z =
      let P = quotient_is in
      P.2 ∙ round_none P.0 (grains x) (grains y) l z ∙ ap twice (sym P.1)

-- ---- hypot
size_four : (n : ℕ) → 2 ^ 104 ≤ n → size (4 * n) ≡ size n + 2
size_four n h = go (size n) refl
  where
    some : (z : ℕ) → 0 < n → n < 2 ^ 0 → ⊥
    some z p q = omega arith

    pos-n : (b : ℕ) → 0 < b → b ≤ n → 0 < n
    pos-n b p q = omega arith

    reach : (t : ℕ) → t < suc t
    reach t = omega arith

    low : (t : ℕ) → size n ≡ suc t → 2 ^ suc (suc t) ≤ 4 * n
    low t e = at (2 ^ t) (size_reaches n t (subst (λ (z : ℕ). t < z) (sym e) (reach t))) (pow-succ' 2 t) (pow-succ' 2 (suc t))
      where
        at : (p : ℕ) → p ≤ n → 2 ^ suc t ≡ 2 * p → 2 ^ suc (suc t) ≡ 2 * 2 ^ suc t → 2 ^ suc (suc t) ≤ 4 * n
        at p a b c = omega arith

    high : (t : ℕ) → size n ≡ suc t → 4 * n < 2 ^ suc (suc (suc t))
    high t e = at (2 ^ suc t) (subst (λ (z : ℕ). n < 2 ^ z) e (size-lt n)) (pow-succ' 2 (suc t)) (pow-succ' 2 (suc (suc t)))
      where
        at : (p : ℕ) → n < p → 2 ^ suc (suc t) ≡ 2 * p → 2 ^ suc (suc (suc t)) ≡ 2 * 2 ^ suc (suc t) → 4 * n < 2 ^ suc (suc (suc t))
        at p a b c = omega arith

    plus : (t : ℕ) → suc (suc (suc t)) ≡ suc t + 2
    plus t = omega arith

    go : (z : ℕ) → size n ≡ z → size (4 * n) ≡ size n + 2
    go zero e = absurd (some zero (pos-n (2 ^ 104) (pow_pos 104) h) (subst (λ (z : ℕ). n < 2 ^ z) e (size-lt n)))
    go (suc t) e = size_exact (suc (suc t)) (4 * n) (low t e) (high t e) ∙ plus t ∙ ap (λ (z : ℕ). z + 2) (sym e)

size_large : (n : ℕ) → 2 ^ 104 ≤ n → 105 ≤ size n
size_large n h = lt_of_not-le (λ (g : size n ≤ 104). not-le_of_lt (size-lt n) (le_trans (pow_mono g) h))

compare_scale : (q n h : ℕ) → nearest q (compare (4 * (4 * n)) (2 * h * (2 * h))) ≡ nearest q (compare (4 * n) (h * h))
compare_scale q n h = go (dec_le (h * h) (4 * n))
  where
    lt' : 4 * n < h * h → 4 * (4 * n) < 2 * h * (2 * h)
    lt' k = omega arith

    eq' : 4 * n ≡ h * h → 4 * (4 * n) ≡ 2 * h * (2 * h)
    eq' k = omega arith

    gt' : h * h < 4 * n → 2 * h * (2 * h) < 4 * (4 * n)
    gt' k = omega arith

    over : (h * h ≡ 4 * n) ⊎ (h * h < 4 * n) → nearest q (compare (4 * (4 * n)) (2 * h * (2 * h))) ≡ nearest q (compare (4 * n) (h * h))
    over (inl e) = nearest_eq q _ _ (eq' (sym e)) ∙ sym (nearest_eq q _ _ (sym e))
    over (inr k) = nearest_gt q _ _ (gt' k) ∙ sym (nearest_gt q _ _ k)

    go : Dec (h * h ≤ 4 * n) → nearest q (compare (4 * (4 * n)) (2 * h * (2 * h))) ≡ nearest q (compare (4 * n) (h * h))
    go (yes k) = over (eq-or-lt_of_le k)
    go (no f) = nearest_lt q _ _ (lt' (lt_of_not-le f)) ∙ sym (nearest_lt q _ _ (lt_of_not-le f))

-- what the nearest root keeps, and how many digits it drops
abbrev dropped : ℕ → ℕ
dropped n = (size n + 1) / 2 - 53

abbrev root_at : ℕ → ℕ → ℕ
root_at n k = nearest (root_in 53 (n / 4 ^ k)) (compare (4 * n) ((2 * root_in 53 (n / 4 ^ k) + 1) * 2 ^ k * ((2 * root_in 53 (n / 4 ^ k) + 1) * 2 ^ k)))

root_units : (n : ℕ) → nearest_root n ≡ units binary64 false (root_at n (dropped n)) (dropped n)
unfolding nearest_root
root_units n = refl

root_four : (n k : ℕ) → root_at (4 * n) (suc k) ≡ root_at n k
root_four n k =
    let q = root_in 53 (n / 4 ^ k) in
    ap (λ (r : ℕ). nearest r (compare (4 * (4 * n)) ((2 * r + 1) * 2 ^ suc k * ((2 * r + 1) * 2 ^ suc k)))) (ap (root_in 53) cut)
    ∙ ap (λ (p : ℕ). nearest q (compare (4 * (4 * n)) (p * p))) (double (2 * q + 1))
    ∙ compare_scale q n ((2 * q + 1) * 2 ^ k)
  where
    cut : 4 * n / 4 ^ suc k ≡ n / 4 ^ k
    cut = ap (λ (p : ℕ). 4 * n / p) (pow-succ' 4 k) ∙ mul-div-mul_left n (4 ^ k) (lit< tt)

    flat : (a p : ℕ) → a * (2 * p) ≡ 2 * (a * p)
    flat a p = omega arith

    double : (a : ℕ) → a * 2 ^ suc k ≡ 2 * (a * 2 ^ k)
    double a = ap (λ (p : ℕ). a * p) (pow-succ' 2 k) ∙ flat a (2 ^ k)

drop_four : (n : ℕ) → 2 ^ 104 ≤ n → dropped (4 * n) ≡ suc (dropped n)
drop_four n h = ap (λ (z : ℕ). (z + 1) / 2 - 53) (size_four n h) ∙ at (size n) (size_large n h)
  where
    at : (z : ℕ) → 105 ≤ z → (z + 2 + 1) / 2 - 53 ≡ suc ((z + 1) / 2 - 53)
    at z h = omega arith

root_fits : (n : ℕ) → T (fits binary64 (nearest_root n))
root_fits n = subst (λ (z : Float). T (fits binary64 z)) (sym (nearest_round n)) (round-fits binary64 false (quarters n) (2 ^ 1076))

inf_not : T (is_finite (inf false)) → ⊥
unfolding is_finite
inf_not h = h

units_under : (q k : ℕ) → T (is_finite (units binary64 false q k)) → q * 2 ^ k < 2 ^ 2098
units_under q k t = lt_of_not-le (λ (g : 2 ^ 2098 ≤ q * 2 ^ k). inf_not (subst (λ (z : Float). T (is_finite z)) (units_over false q k g) t))

pub root_twice : (n : ℕ) → 2 ^ 104 ≤ n → Doublable (nearest_root n) → nearest_root (4 * n) ≡ twice (nearest_root n)
root_twice n h r =
    let k = dropped n in
    let q = root_at n k in
    let u = units binary64 false q k in
    let fin-u : T (is_finite u) = subst (λ (z : Float). T (is_finite z)) (root_units n) r.number.finite in
    let H : HasValue u false (q * 2 ^ k) (2 ^ 1074) = units_value q k (units_under q k fin-u) in
    let g : grains (nearest_root n) ≡ q * 2 ^ k = ap grains (root_units n) ∙ grains_of u false (q * 2 ^ k) H in
    let l : q * 2 ^ k < 2 ^ 2097 = subst (λ (z : ℕ). z < 2 ^ 2097) g r.room in
    let e : nearest_root (4 * n) ≡ units binary64 false q (suc k) = root_units (4 * n) ∙ ap (λ (j : ℕ). units binary64 false (root_at (4 * n) j) j) (drop_four n h) ∙ ap (λ (p : ℕ). units binary64 false p (suc k)) (root_four n k) in
    let d : q * 2 ^ suc k ≡ 2 * (q * 2 ^ k) = ap (λ (p : ℕ). q * p) (pow-succ' 2 k) ∙ flat q (2 ^ k) in
    twice_is (nearest_root n) (nearest_root (4 * n)) false (q * 2 ^ k) (root_fits n) (root_fits (4 * n))
    (subst (λ (z : Float). HasValue z false (q * 2 ^ k) (2 ^ 1074)) (sym (root_units n)) H)
    (subst (λ (z : Float). HasValue z false (2 * (q * 2 ^ k)) (2 ^ 1074)) (sym e)
    (subst (λ (v : ℕ). HasValue (units binary64 false q (suc k)) false v (2 ^ 1074)) d
    (units_value q (suc k) (subst (λ (v : ℕ). v < 2 ^ 2098) (sym d) (double_lt (q * 2 ^ k) (2 ^ 2097) l))))) l
  where
    flat : (a p : ℕ) → a * (2 * p) ≡ 2 * (a * p)
    flat a p = omega arith

-- a result above 2 ^ -1022
root_above : (n : ℕ) → Doublable (nearest_root n) → AboveLeast (nearest_root n) → 2 ^ 104 ≤ n
root_above n r a = go (dec_le ((2 ^ 2098 - 2 ^ 2044) * (2 ^ 2098 - 2 ^ 2044)) n)
  where
    square : (v : ℕ) → 2 ^ 52 < v → (v + 2 ^ 52) * (v + 2 ^ 52) ≤ 4 * n → 2 ^ 104 ≤ n
    square v h k = at (le_trans (sq_le (wide v h)) k)
      where
        wide : (v : ℕ) → 2 ^ 52 < v → 2 ^ 53 ≤ v + 2 ^ 52
        wide v h = omega arith

        at : 2 ^ 53 * 2 ^ 53 ≤ 4 * n → 2 ^ 104 ≤ n
        at z = omega arith

    least : Value (2 ^ 52) (2 ^ 52) 0
    least = record { is = refl; digits = lit< tt; normal = λ _. lit≤ tt; range = lit≤ tt }

    go : Dec ((2 ^ 2098 - 2 ^ 2044) * (2 ^ 2098 - 2 ^ 2044) ≤ n) → 2 ^ 104 ≤ n
    go (yes l) = le_trans (lit≤ tt) l
    go (no f) =
        let N = (root_rounded n).finite (lt_of_not-le f) in
        let l : 2 ^ 52 < N.v = subst (λ (z : ℕ). 2 ^ 52 < z) (grains_of (nearest_root n) false N.v N.size) a in
        square N.v l (N.below (2 ^ 52) (2 ^ 52) 0 least l)

module _ (x y : Float) (f : Finite x) (g : Finite y) where
  pub hypot_is : hypot_of x y ≡ nearest_root (grains x * grains x + grains y * grains y)
  hypot_is = sym (both_finite x y f.finite g.finite)

  hypot_double : hypot_of (twice x) (twice y) ≡ nearest_root (4 * (grains x * grains x + grains y * grains y))
  hypot_double =
      sym (both_finite (twice x) (twice y) (subst T (sym (finite_twice x)) f.finite) (subst T (sym (finite_twice y)) g.finite))
      ∙ ap (λ (z : ℕ). nearest_root (z * z + grains (twice y) * grains (twice y))) (grains_twice x f)
      ∙ ap (λ (z : ℕ). nearest_root (2 * grains x * (2 * grains x) + z * z)) (grains_twice y g)
      ∙ ap nearest_root (flat (grains x) (grains y))
    where
      flat : (a b : ℕ) → 2 * a * (2 * a) + 2 * b * (2 * b) ≡ 4 * (a * a + b * b)
      flat a b = omega arith

  -- by the squares of the sides' grains: the exact length is 2 ^ -1022 at least
  pub hypot_twice_large : 2 ^ 104 ≤ grains x * grains x + grains y * grains y → Doublable (hypot_of x y) → hypot_of (twice x) (twice y) ≡ twice (hypot_of x y)
  hypot_twice_large h r = hypot_double ∙ root_twice (grains x * grains x + grains y * grains y) h (subst Doublable hypot_is r) ∙ ap twice (sym hypot_is)

  pub hypot_twice : AboveLeast (hypot_of x y) → Doublable (hypot_of x y) → hypot_of (twice x) (twice y) ≡ twice (hypot_of x y)
  hypot_twice a r = hypot_twice_large (root_above (grains x * grains x + grains y * grains y) (subst Doublable hypot_is r) (subst AboveLeast hypot_is a)) r

  -- one side of 2 ^ -1022 at least
  pub hypot_twice_side : (2 ^ 52 ≤ grains x) ⊎ (2 ^ 52 ≤ grains y) → Doublable (hypot_of x y) → hypot_of (twice x) (twice y) ≡ twice (hypot_of x y)
  hypot_twice_side (inl h) r = hypot_twice_large (left (grains x * grains x) (grains y * grains y) (sq_le h)) r
    where
      left : (a b : ℕ) → 2 ^ 52 * 2 ^ 52 ≤ a → 2 ^ 104 ≤ a + b
      left a b h = omega arith
  hypot_twice_side (inr h) r = hypot_twice_large (right (grains x * grains x) (grains y * grains y) (sq_le h)) r
    where
      right : (a b : ℕ) → 2 ^ 52 * 2 ^ 52 ≤ b → 2 ^ 104 ≤ a + b
      right a b h = omega arith

-- a side of size 0: the other's size
hypot_zero : (x y : Float) → Finite x → Finite y → ZeroSize y → hypot_of x y ≡ abs_of x
hypot_zero x y f g z =
    sym (both_finite x y f.finite g.finite)
    ∙ ap (λ (b : ℕ). nearest_root (grains x * grains x + b * b)) z
    ∙ ap nearest_root (add-zero (grains x * grains x))
    ∙ root_own x f.held f.finite

pub hypot_twice_zero : (x y : Float) → Doublable x → Doublable y → ZeroSize y → hypot_of (twice x) (twice y) ≡ twice (hypot_of x y)
hypot_twice_zero x y f g z =
    hypot_zero (twice x) (twice y) (twice_finite x f) (twice_finite y g) (grains_twice y g.number ∙ ap (λ (b : ℕ). 2 * b) z)
    ∙ abs_twice x
    ∙ ap twice (sym (hypot_zero x y f.number g.number z))

pub hypot_twice_zero_2 : (x y : Float) → Doublable x → Doublable y → ZeroSize x → hypot_of (twice x) (twice y) ≡ twice (hypot_of x y)
hypot_twice_zero_2 x y f g z = hypot_comm (twice x) (twice y) ∙ hypot_twice_zero y x g f z ∙ ap twice (hypot_comm y x)
