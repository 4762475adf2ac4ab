-- A float's place among all floats as a natural number: the order of numbers is that of the places, +0 and -0 having one.
-- What sums and differences do to it. Assumes nothing.
use Prim.Native.Nat.{ℕ, zero, suc, ◌+◌, ◌-◌, ◌*◌, ◌/◌, ◌%◌, ◌^◌, ◌≤◌, ◌<◌}
use mathlib.Core.Path.{◌≡◌, refl, sym, ap, ap₂, subst, ◌∙◌}
use mathlib.Core.Bool.{Bool, true, false, not, ◌&&◌, beq, cond, true≢false}
use native.Mathlib.Nat.{zero-mul, mul-one, mul_assoc, mul_comm, mul_right_comm, add-mul, mul-pos, mul-div_cancel, sub-add_cancel, not-le_of_lt, lt_of_not-le, lt_of_lt_of_le, lt_of_mul-lt-mul_right, mul-lt-mul_of_pos_right, mul-le-mul_right, le_of_eq, eq_of_mul-eq-mul_right}
use native.Mathlib.Omega.{arith}
use native.Mathlib.Decide.{dec_le}
use lib.IntN.{ℤ, pos, negsuc}
use lib.Dec.{T, ltb, leb, eqb, ltb→lt, leb→le, lit<, lit≤}
use lib.Pow.{pow_pos, pow_mono, pow-add, pow-lt, shl_lt}
use lib.Ieee.{Float, nan, inf, fin, up, down, lt, le, neg, fits, below, add, sub, sum, odd, units, round, binary64}
use lib.Ieee.Fits.{and_l, and_r, down_pos, round_is, round-fits}
use lib.Ieee.Exact.{HasValue, round_exact}
use lib.Ieee.Order.{round_mono}
use lib.Ieee.Scale.{round_same}
use borrow.Author.Tests.{lt-ltb, le-ltb, ltb-true, ltb-false}
use Rattle.numbers.specs.Small.{is_finite}
use Rattle.numbers.specs.Hypot.{grains}
use Rattle.numbers.proofs.float.Keys.{not_both}

-- ---- a finite float is a whole number of grains of 2 ^ -1074

whole_grains : (e : ℤ) → T (leb (down e) (2 ^ 1074)) → (w : ℕ) × (2 ^ 1074 ≡ w * down e)
whole_grains (pos k) h = (2 ^ 1074, sym (mul-one (2 ^ 1074)))
whole_grains (negsuc k) h =
    (2 ^ (1074 - suc k), ap (λ (j : ℕ). 2 ^ j) (sym (sub-add_cancel (exponent k (leb→le (2 ^ suc k) (2 ^ 1074) h)))) ∙ pow-add 2 (1074 - suc k) (suc k))
  where
    exponent : (k : ℕ) → 2 ^ suc k ≤ 2 ^ 1074 → suc k ≤ 1074
    exponent k l = either (dec_le (suc k) 1074)
      where
        either : Dec (suc k ≤ 1074) → suc k ≤ 1074
        either (yes h) = h
        either (no f) = absurd (not-le_of_lt (pow-lt (lt_of_not-le f)) l)

abbrev pub Fits : Float → Type 0
Fits x = T (fits binary64 x)

fits_parts : (s : Bool) (m : ℕ) (e : ℤ) → T (fits binary64 (fin s (suc m) e)) → (suc m < 2 ^ 53) × T (leb (down e) (2 ^ 1074)) × (suc m * up e < 2 ^ 1024 * down e)
unfolding fits
fits_parts s m e h =
    let A = eqb (suc m % 2) 1 in
    let B = ltb (suc m) (2 ^ 53) in
    let C = leb (down e) (2 ^ 1074) in
    let D = ltb (suc m * up e) (2 ^ 1024 * down e) in (
      ltb→lt (suc m) (2 ^ 53) (and_r A B (and_l (A && B) C (and_l (A && B && C) D h))),
      and_r (A && B) C (and_l (A && B && C) D h),
      ltb→lt (suc m * up e) (2 ^ 1024 * down e) (and_r (A && B && C) D h),
    )

grains_is : (s : Bool) (m : ℕ) (e : ℤ) (g : ℕ) → m * up e * 2 ^ 1074 ≡ g * down e → grains (fin s m e) ≡ g
unfolding grains
grains_is s m e g h = ap (λ (x : ℕ). x / down e) h ∙ mul-div_cancel g (down_pos e)

in_grains : (s : Bool) (m : ℕ) (e : ℤ) → T (fits binary64 (fin s m e)) → (g : ℕ) × (m * up e * 2 ^ 1074 ≡ g * down e)
in_grains s zero e h = (0, ap (λ (x : ℕ). x * 2 ^ 1074) (zero-mul (up e)) ∙ zero-mul (2 ^ 1074) ∙ sym (zero-mul (down e)))
in_grains s (suc m) e h =
    let z = whole_grains e (fits_parts s m e h).1 in
    (suc m * up e * z.0, ap (λ (x : ℕ). suc m * up e * x) z.1 ∙ sym (mul_assoc (suc m * up e) z.0 (down e)))

pub exact : (s : Bool) (m : ℕ) (e : ℤ) → T (fits binary64 (fin s m e)) → m * up e * 2 ^ 1074 ≡ grains (fin s m e) * down e
exact s m e h = let z = in_grains s m e h in z.1 ∙ ap (λ (x : ℕ). x * down e) (sym (grains_is s m e z.0 z.1))

-- more grains than any finite float has
pub top : ℕ
top = 2 ^ 2098

grains_under : (s : Bool) (m : ℕ) (e : ℤ) → T (fits binary64 (fin s m e)) → grains (fin s m e) < top
unfolding top
grains_under s zero e h =
    subst (λ (g : ℕ). g < 2 ^ 2098) (sym (grains_is s zero e 0 (ap (λ (x : ℕ). x * 2 ^ 1074) (zero-mul (up e)) ∙ zero-mul (2 ^ 1074) ∙ sym (zero-mul (down e))))) (pow_pos 2098)
grains_under s (suc m) e h =
    lt_of_mul-lt-mul_right (down e)
    (subst (λ (x : ℕ). x < 2 ^ 2098 * down e) (exact s (suc m) e h)
    (lt_of_lt_of_le (mul-lt-mul_of_pos_right (fits_parts s m e h).2 (pow_pos 1074)) (le_of_eq (shape (down e)))))
  where
    shape : (d : ℕ) → 2 ^ 1024 * d * 2 ^ 1074 ≡ 2 ^ 2098 * d
    shape d = mul_right_comm (2 ^ 1024) d (2 ^ 1074) ∙ ap (λ (x : ℕ). x * d) (sym (pow-add 2 1024 1074))

top_pos : 0 < top
unfolding top
top_pos = pow_pos 2098

-- ---- the place

abbrev pub side : Bool → ℕ → ℕ
side false g = top + g
side true g = top - g

unfoldable pub rank : Float → ℕ
rank nan = 0
rank (inf true) = 0
rank (inf false) = top + top
rank (fin s m e) = side s (grains (fin s m e))

-- ---- the order

same_ltb : (p q r w : ℕ) → (p < q → r < w) → (r < w → p < q) → ltb p q ≡ ltb r w
same_ltb p q r w f g = go (ltb p q) refl
  where
    le : q ≤ p → Dec (w ≤ r) → w ≤ r
    le h (yes l) = l
    le h (no n) = let k : p < q = g (lt_of_not-le n) in omega arith

    go : (b : Bool) → ltb p q ≡ b → ltb p q ≡ ltb r w
    go true e = e ∙ sym (lt-ltb r w (f (ltb-true p q e)))
    go false e = e ∙ sym (le-ltb r w (le (ltb-false p q e) (dec_le w r)))

-- p / q in one measure and x / y in another
conv : (p q x y k d : ℕ) → 0 < k → p * k ≡ x * d → q * k ≡ y * d → p < q → x < y
conv p q x y k d K e f h =
    lt_of_mul-lt-mul_right d (subst (λ (z : ℕ). z < y * d) e (subst (λ (z : ℕ). p * k < z) f (mul-lt-mul_of_pos_right h K)))

below_side : (s t : Bool) (a b x y k d : ℕ) → 0 < k → 0 < d → a * k ≡ x * d → b * k ≡ y * d → x < top → y < top
    → below s a t b ≡ ltb (side s x) (side t y)
below_side false false a b x y k d K D e f h i =
    same_ltb a b (top + x) (top + y) (λ (l : a < b). let m : x < y = conv a b x y k d K e f l in omega arith)
    (λ (l : top + x < top + y). conv x y a b d k D (sym e) (sym f) (omega arith))
below_side false true a b x y k d K D e f h i = sym (le-ltb (top + x) (top - y) (omega arith))
below_side true false a b x y k d K D e f h i =
    let u : (a + b) * k ≡ (x + y) * d = add-mul a b k ∙ ap₂ (λ (p q : ℕ). p + q) e f ∙ sym (add-mul x y d) in
    let z : 0 * k ≡ 0 * d = zero-mul k ∙ sym (zero-mul d) in
    same_ltb 0 (a + b) (top - x) (top + y) (λ (l : 0 < a + b). let m : 0 < x + y = conv 0 (a + b) 0 (x + y) k d K z u l in omega arith)
    (λ (l : top - x < top + y). conv 0 (x + y) 0 (a + b) d k D (sym z) (sym u) (omega arith))
below_side true true a b x y k d K D e f h i =
    same_ltb b a (top - x) (top - y) (λ (l : b < a). let m : y < x = conv b a y x k d K f e l in omega arith)
    (λ (l : top - x < top - y). conv y x b a d k D (sym f) (sym e) (omega arith))

shape_a : (m ue dd de g k : ℕ) → m * ue * k ≡ g * de → m * ue * dd * k ≡ g * (de * dd)
shape_a m ue dd de g k e = mul_right_comm (m * ue) dd k ∙ ap (λ (z : ℕ). z * dd) e ∙ mul_assoc g de dd

shape_b : (n ud dd de g k : ℕ) → n * ud * k ≡ g * dd → n * ud * de * k ≡ g * (de * dd)
shape_b n ud dd de g k e = shape_a n ud de dd g k e ∙ ap (λ (z : ℕ). g * z) (mul_comm dd de)

-- a float that is no NaN
abbrev pub Number : Float → Type 0
Number nan = ⊥
Number (inf s) = Unit {0}
Number (fin s m e) = Unit {0}

pub lt_rank : (x y : Float) → T (fits binary64 x) → T (fits binary64 y) → Number x → Number y → lt x y ≡ ltb (rank x) (rank y)
unfolding lt rank
lt_rank nan y f g p q = absurd p
lt_rank (inf s) nan f g p q = absurd q
lt_rank (fin s m e) nan f g p q = absurd q
lt_rank (inf true) (inf true) f g p q = sym (le-ltb 0 0 (omega arith))
lt_rank (inf true) (inf false) f g p q = let t : 0 < top = top_pos in sym (lt-ltb 0 (top + top) (omega arith))
lt_rank (inf false) (inf true) f g p q = sym (le-ltb (top + top) 0 (omega arith))
lt_rank (inf false) (inf false) f g p q = sym (le-ltb (top + top) (top + top) (omega arith))
lt_rank (inf true) (fin true n d) f g p q = let t : grains (fin true n d) < top = grains_under true n d g in sym (lt-ltb 0 (top - grains (fin true n d)) (omega arith))
lt_rank (inf true) (fin false n d) f g p q = let t : 0 < top = top_pos in sym (lt-ltb 0 (top + grains (fin false n d)) (omega arith))
lt_rank (inf false) (fin true n d) f g p q = sym (le-ltb (top + top) (top - grains (fin true n d)) (omega arith))
lt_rank (inf false) (fin false n d) f g p q =
    let t : grains (fin false n d) < top = grains_under false n d g in sym (le-ltb (top + top) (top + grains (fin false n d)) (omega arith))
lt_rank (fin true m e) (inf true) f g p q = sym (le-ltb (top - grains (fin true m e)) 0 (omega arith))
lt_rank (fin false m e) (inf true) f g p q = sym (le-ltb (top + grains (fin false m e)) 0 (omega arith))
lt_rank (fin true m e) (inf false) f g p q = let t : 0 < top = top_pos in sym (lt-ltb (top - grains (fin true m e)) (top + top) (omega arith))
lt_rank (fin false m e) (inf false) f g p q =
    let t : grains (fin false m e) < top = grains_under false m e f in sym (lt-ltb (top + grains (fin false m e)) (top + top) (omega arith))
lt_rank (fin s m e) (fin t n d) f g p q =
    below_side s t (m * up e * down d) (n * up d * down e) (grains (fin s m e)) (grains (fin t n d)) (2 ^ 1074) (down e * down d) (pow_pos 1074) (mul-pos (down_pos e) (down_pos d))
    (shape_a m (up e) (down d) (down e) (grains (fin s m e)) (2 ^ 1074) (exact s m e f))
    (shape_b n (up d) (down d) (down e) (grains (fin t n d)) (2 ^ 1074) (exact t n d g))
    (grains_under s m e f) (grains_under t n d g)

-- ---- rounding

le_rank : (x y : Float) → T (fits binary64 x) → T (fits binary64 y) → Number x → Number y → T (le x y) → rank x ≤ rank y
le_rank x y f g p q l = go (dec_le (rank x) (rank y))
  where
    go : Dec (rank x ≤ rank y) → rank x ≤ rank y
    go (yes h) = h
    go (no n) = absurd (not_both y x (subst T (sym (lt_rank y x g f q p ∙ lt-ltb (rank y) (rank x) (lt_of_not-le n))) tt) l)

-- x is not negative, and y is its negation
Mirror : Float → Float → Type 0
Mirror x y = Number x × Number y × (top ≤ rank x) × (rank y ≡ top + top - rank x)

grains_sign : (m : ℕ) (e : ℤ) → grains (fin true m e) ≡ grains (fin false m e)
unfolding grains
grains_sign m e = refl

fin_mirror : (m : ℕ) (e : ℤ) → Mirror (fin false m e) (fin true m e)
unfolding Mirror rank
fin_mirror m e = let g : grains (fin true m e) ≡ grains (fin false m e) = grains_sign m e in (tt, tt, omega arith, omega arith)

odd_mirror : (d q k l : ℕ) → Mirror (odd d false q k l) (odd d true q k l)
unfolding odd
odd_mirror d zero k l = fin_mirror zero (pos zero)
odd_mirror d (suc q) k l = fin_mirror _ _

inf_mirror : Mirror (inf false) (inf true)
unfolding Mirror rank
inf_mirror = (tt, tt, omega arith, omega arith)

units_mirror : (q k : ℕ) → Mirror (units binary64 false q k) (units binary64 true q k)
unfolding units
units_mirror q k = go (ltb (q * 2 ^ k) (2 ^ 2098))
  where
    go : (b : Bool) → Mirror (cond b (odd 54 false q k 1074) (inf false)) (cond b (odd 54 true q k 1074) (inf true))
    go true = odd_mirror 54 q k 1074
    go false = inf_mirror

round_mirror : (n c : ℕ) → Mirror (round binary64 false n c) (round binary64 true n c)
round_mirror n c = rw (round_is binary64 false n c, round_is binary64 true n c) (units_mirror _ _)

over_top : (n c : ℕ) → top ≤ rank (round binary64 false n c)
unfolding Mirror
over_top n c = (round_mirror n c).2

turned : (n c : ℕ) → rank (round binary64 true n c) ≡ top + top - rank (round binary64 false n c)
unfolding Mirror
turned n c = (round_mirror n c).3

round_number : (s : Bool) (n c : ℕ) → Number (round binary64 s n c)
unfolding Mirror
round_number false n c = (round_mirror n c).0
round_number true n c = (round_mirror n c).1

mono : (a b c d : ℕ) → 0 < b → 0 < d → a * d ≤ c * b → rank (round binary64 false a b) ≤ rank (round binary64 false c d)
mono a b c d B D h =
    le_rank (round binary64 false a b) (round binary64 false c d) (round-fits binary64 false a b) (round-fits binary64 false c d) (round_number false a b) (round_number false c d)
    (round_mono binary64 a b c d B D h)

-- ---- a float's own value isn't changed by rounding

own_value : (s : Bool) (m : ℕ) (e : ℤ) → T (fits binary64 (fin s m e)) → HasValue (round binary64 false (m * up e) (down e)) false (m * up e) (down e)
own_value s zero e h =
    round_exact binary64 false (0 * up e) (down e) 0 0 (down_pos e) (pow_pos 53) (pow_pos 2098)
    (ap (λ (x : ℕ). x * 2 ^ 1074) (zero-mul (up e)) ∙ zero-mul (2 ^ 1074) ∙ sym (zero-mul (down e)))
own_value s (suc m) (pos p) h =
    round_exact binary64 false (suc m * 2 ^ p) 1 (suc m) (p + 1074) (lit< tt) (fits_parts s m (pos p) h).0
    (subst (λ (a : ℕ). a < 2 ^ 2098) shape (lt_of_lt_of_le (mul-lt-mul_of_pos_right (fits_parts s m (pos p) h).2 (pow_pos 1074)) (lit≤ tt)))
    (shape ∙ sym (mul-one (suc m * 2 ^ (p + 1074))))
  where
    shape : suc m * 2 ^ p * 2 ^ 1074 ≡ suc m * 2 ^ (p + 1074)
    shape = mul_assoc (suc m) (2 ^ p) (2 ^ 1074) ∙ ap (λ (a : ℕ). suc m * a) (sym (pow-add 2 p 1074))
own_value s (suc m) (negsuc p) h =
    let w : suc p ≤ 1074 = few p (fits_parts s m (negsuc p) h).1 in
    round_exact binary64 false (suc m * 1) (2 ^ suc p) (suc m) (1074 - suc p) (pow_pos (suc p)) (fits_parts s m (negsuc p) h).0
    (lt_of_lt_of_le (shl_lt 53 (1074 - suc p) (fits_parts s m (negsuc p) h).0) (pow_mono (far (1074 - suc p) (omega arith))))
    (ap (λ (z : ℕ). z * 2 ^ 1074) (mul-one (suc m)) ∙ ap (λ (j : ℕ). suc m * 2 ^ j) (sym (sub-add_cancel w)) ∙ ap (λ (z : ℕ). suc m * z) (pow-add 2 (1074 - suc p) (suc p)) ∙ sym (mul_assoc (suc m) (2 ^ (1074 - suc p)) (2 ^ suc p)))
  where
    far : (j : ℕ) → j ≤ 1074 → 53 + j ≤ 2098
    far j l = omega arith

    few : (k : ℕ) → T (leb (2 ^ suc k) (2 ^ 1074)) → suc k ≤ 1074
    few k t = either (dec_le (suc k) 1074)
      where
        either : Dec (suc k ≤ 1074) → suc k ≤ 1074
        either (yes h) = h
        either (no f) = absurd (not-le_of_lt (pow-lt (lt_of_not-le f)) (leb→le (2 ^ suc k) (2 ^ 1074) t))

val_rank : (x : Float) (s : Bool) (m : ℕ) (e : ℤ) → T (fits binary64 x) → T (fits binary64 (fin s m e)) → HasValue x false (m * up e) (down e) → rank x ≡ top + grains (fin s m e)
unfolding rank
val_rank nan s m e f g v = absurd v
val_rank (inf t) s m e f g v = absurd v
val_rank (fin true n d) s m e f g v = absurd (true≢false v.0)
val_rank (fin false n d) s m e f g v =
    ap (λ (z : ℕ). top + z)
    (eq_of_mul-eq-mul_right (down d * down e) (mul-pos (down_pos d) (down_pos e)) (grains (fin false n d)) (grains (fin s m e))
    (sym (mul_assoc (grains (fin false n d)) (down d) (down e))
    ∙ ap (λ (z : ℕ). z * down e) (sym (exact false n d f))
    ∙ mul_right_comm (n * up d) (2 ^ 1074) (down e)
    ∙ ap (λ (z : ℕ). z * 2 ^ 1074) v.1
    ∙ mul_right_comm (m * up e) (down d) (2 ^ 1074)
    ∙ ap (λ (z : ℕ). z * down d) (exact s m e g)
    ∙ mul_assoc (grains (fin s m e)) (down e) (down d)
    ∙ ap (λ (z : ℕ). grains (fin s m e) * z) (mul_comm (down e) (down d))))

-- also with both parts multiplied by one number
own : (s : Bool) (m : ℕ) (e : ℤ) (k : ℕ) → 0 < k → T (fits binary64 (fin s m e)) → rank (round binary64 false (m * up e * k) (down e * k)) ≡ top + grains (fin s m e)
own s m e k K h =
    ap rank (round_same binary64 false (m * up e * k) (down e * k) (m * up e) (down e) (mul-pos (down_pos e) K) (down_pos e) (mul_right_comm (m * up e) k (down e) ∙ mul_assoc (m * up e) (down e) k))
    ∙ val_rank (round binary64 false (m * up e) (down e)) s m e (round-fits binary64 false (m * up e) (down e)) h (own_value s m e h)

-- ---- sums and differences

-- finite, and with the sign clear
abbrev pub Plus : Float → Type 0
Plus nan = ⊥
Plus (inf s) = ⊥
Plus (fin true m e) = ⊥
Plus (fin false m e) = Unit {0}

module _ (a b c : ℕ) (C : 0 < c) where
  R : ℕ → ℕ
  R n = rank (round binary64 false n c)

  grows : R a ≤ R (a + b)
  unfolding R
  grows = mono a c (a + b) c C C (mul-le-mul_right c (omega arith))

  falls : R (a - b) ≤ R a
  unfolding R
  falls = mono (a - b) c a c C C (mul-le-mul_right c (omega arith))

  -- the sum of a negative a / c and b / c
  up_past : (g : ℕ) → R a ≡ top + g → top - g ≤ rank (sum binary64 true a false b c)
  unfolding sum
  up_past g e = go (ltb a b) (ltb b a)
    where
      turn : top - g ≤ rank (round binary64 true (a - b) c)
      turn =
          let t : rank (round binary64 true (a - b) c) ≡ top + top - R (a - b) = unfold R in turned (a - b) c in
          let l : R (a - b) ≤ R a = falls in
          omega arith

      go : (u v : Bool) → top - g ≤ rank (cond u (round binary64 false (b - a) c) (round binary64 (true && v) (a - b) c))
      go true v = let t : top ≤ rank (round binary64 false (b - a) c) = over_top (b - a) c in omega arith
      go false true = turn
      go false false = let t : top ≤ rank (round binary64 false (a - b) c) = over_top (a - b) c in omega arith

  -- a / c less b / c
  down_past : (g : ℕ) → R a ≡ top + g → rank (sum binary64 false a true b c) ≤ top + g
  unfolding sum
  down_past g e = go (ltb a b)
    where
      turn : rank (round binary64 true (b - a) c) ≤ top + g
      turn =
          let t : rank (round binary64 true (b - a) c) ≡ top + top - rank (round binary64 false (b - a) c) = turned (b - a) c in
          let l : top ≤ rank (round binary64 false (b - a) c) = over_top (b - a) c in
          omega arith

      less : rank (round binary64 false (a - b) c) ≤ top + g
      less = let l : R (a - b) ≤ R a = falls in unfold R in omega arith

      go : (u : Bool) → rank (cond u (round binary64 true (b - a) c) (round binary64 false (a - b) c)) ≤ top + g
      go true = turn
      go false = less

  further : (g : ℕ) → R a ≡ top + g → rank (round binary64 true (a + b) c) ≤ top - g
  further g e =
      let t : rank (round binary64 true (a + b) c) ≡ top + top - R (a + b) = unfold R in turned (a + b) c in
      let l : R a ≤ R (a + b) = grows in
      omega arith

-- a sum with a number that isn't negative isn't less
pub add_up : (x y : Float) → T (fits binary64 x) → T (is_finite x) → Plus y → rank x ≤ rank (add binary64 x y)
unfolding add is_finite rank sum R
add_up nan y f p q = absurd p
add_up (inf s) y f p q = absurd p
add_up (fin s m e) nan f p q = absurd q
add_up (fin s m e) (inf t) f p q = absurd q
add_up (fin s m e) (fin true n d) f p q = absurd q
add_up (fin false m e) (fin false n d) f p q =
    let c : 0 < down e * down d = mul-pos (down_pos e) (down_pos d) in
    subst (λ (z : ℕ). z ≤ rank (round binary64 false (m * up e * down d + n * up d * down e) (down e * down d))) (own false m e (down d) (down_pos d) f)
    (grows (m * up e * down d) (n * up d * down e) (down e * down d) c)
add_up (fin true m e) (fin false n d) f p q =
    up_past (m * up e * down d) (n * up d * down e) (down e * down d) (mul-pos (down_pos e) (down_pos d)) (grains (fin true m e)) (own true m e (down d) (down_pos d) f)

-- a difference with such a number isn't more
pub sub_down : (x y : Float) → T (fits binary64 x) → T (is_finite x) → Plus y → rank (sub binary64 x y) ≤ rank x
unfolding sub neg add is_finite rank sum R
sub_down nan y f p q = absurd p
sub_down (inf s) y f p q = absurd p
sub_down (fin s m e) nan f p q = absurd q
sub_down (fin s m e) (inf t) f p q = absurd q
sub_down (fin s m e) (fin true n d) f p q = absurd q
sub_down (fin false m e) (fin false n d) f p q =
    down_past (m * up e * down d) (n * up d * down e) (down e * down d) (mul-pos (down_pos e) (down_pos d)) (grains (fin false m e)) (own false m e (down d) (down_pos d) f)
sub_down (fin true m e) (fin false n d) f p q =
    further (m * up e * down d) (n * up d * down e) (down e * down d) (mul-pos (down_pos e) (down_pos d)) (grains (fin true m e)) (own true m e (down d) (down_pos d) f)

sum_number : (s : Bool) (a : ℕ) (t : Bool) (b c : ℕ) → Number (sum binary64 s a t b c)
unfolding sum
sum_number s a t b c = go (beq s t) (ltb a b)
  where
    go : (u v : Bool) → Number (cond u (round binary64 s (a + b) c) (cond v (round binary64 t (b - a) c) (round binary64 (s && ltb b a) (a - b) c)))
    go true v = round_number s (a + b) c
    go false true = round_number t (b - a) c
    go false false = round_number (s && ltb b a) (a - b) c

-- finite numbers have a sum and a difference
pub add_number : (x y : Float) → T (is_finite x) → T (is_finite y) → Number (add binary64 x y)
unfolding add is_finite
add_number nan y p q = absurd p
add_number (inf s) y p q = absurd p
add_number (fin s m e) nan p q = absurd q
add_number (fin s m e) (inf t) p q = absurd q
add_number (fin s m e) (fin t n d) p q = sum_number s (m * up e * down d) t (n * up d * down e) (down e * down d)

pub sub_number : (x y : Float) → T (is_finite x) → T (is_finite y) → Number (sub binary64 x y)
unfolding sub neg is_finite
sub_number x nan p q = absurd q
sub_number x (inf t) p q = absurd q
sub_number x (fin t n d) p q = add_number x (fin (not t) n d) p tt

pub finite_number : (x : Float) → T (is_finite x) → Number x
unfolding is_finite
finite_number nan p = absurd p
finite_number (inf s) p = absurd p
finite_number (fin s m e) p = tt
