-- Each operation on finite floats sees only their values (`add_is`, `mul_is`, `div_is`) and gives the exact result, rounded once (`add_rounded`, `sub_rounded`, `mul_rounded`, `div_rounded`, `int_rounded`). Assumes nothing.
use Rattle.std.proofs.Common.{◌≡◌, ℕ, zero, suc, ◌+◌, ◌-◌, ◌*◌, ◌^◌, ◌<◌, ◌≤◌, Bool, true, false, cond, not, ◌&&◌, eqb, ltb, pos, negsuc, ℤ, sym, refl, ap, ◌∙◌, subst, true≢false, le_of_eq, le_of_lt, mul-le-mul_right, zero-lt-suc, mul-pos, lt_of_not-le, zero-mul, le_of_mul-le-mul_right, arith, lit<, pow_pos, le-ltb, lt-ltb}
use native.Mathlib.Nat.{eq_of_mul-eq-mul_right}
use native.Mathlib.Decide.{dec_le}
use mathlib.Core.Bool.{beq}
use lib.Dec.{eqb-suc-zero}
use lib.Ieee.{Float, nan, inf, fin, up, down, unlike, neg, add, sub, sum, mul, div, of_int, round, binary64}
use lib.Ieee.Exact.{HasValue}
use lib.Ieee.Fits.{up_pos, down_pos}
use lib.Ieee.Scale.{round_same}
use Rattle.numbers.specs.Rounding.{Rounded}
use Rattle.numbers.specs.Operations.{SumRounded}
use Rattle.numbers.specs.Laws.{whole_sign, whole_size}
use Rattle.numbers.proofs.float.RoundLaws.{rounded}
use Rattle.numbers.proofs.float.Sums.{zero_round}

-- ---- sums
-- two fractions scaled alike
pub ltb_scale : (a b a' b' p q : ℕ) → 0 < p → 0 < q → a' * p ≡ a * q → b' * p ≡ b * q → ltb a' b' ≡ ltb a b
ltb_scale a b a' b' p q P Q h k = go (dec_le b a)
  where
    hold : b * q ≤ a * q → b' * p ≤ a' * p
    hold l = omega arith

    back : b' * p ≤ a' * p → b * q ≤ a * q
    back l = omega arith

    go : Dec (b ≤ a) → ltb a' b' ≡ ltb a b
    go (yes l) = le-ltb a' b' (le_of_mul-le-mul_right (hold (mul-le-mul_right q l)) P) ∙ sym (le-ltb a b l)
    go (no f) = lt-ltb a' b' (lt_of_not-le (λ (g : b' ≤ a'). f (le_of_mul-le-mul_right (back (mul-le-mul_right p g)) Q))) ∙ sym (lt-ltb a b (lt_of_not-le f))

-- A / C is a / w and B / C is b / w
module _ (w A B C a b : ℕ) (W : 0 < w) (D : 0 < C) (h : A * w ≡ a * C) (k : B * w ≡ b * C) where
  total : (A + B) * w ≡ (a + b) * C
  total = omega arith

  rest : b ≤ a → (A - B) * w ≡ (a - b) * C
  rest l = at (a - b) (A - B) (back a b l) (back A B (le_of_mul-le-mul_right (over (mul-le-mul_right C l)) W))
    where
      over : b * C ≤ a * C → B * w ≤ A * w
      over z = omega arith

      back : (x y : ℕ) → y ≤ x → x - y + y ≡ x
      back x y z = omega arith

      at : (p q : ℕ) → p + b ≡ a → q + B ≡ A → q * w ≡ p * C
      at p q f g =
          let u : (p + b) * C ≡ a * C = ap (λ (z : ℕ). z * C) f in
          let v : (q + B) * w ≡ A * w = ap (λ (z : ℕ). z * w) g in
          omega arith

  rest_none : a < b → (A - B) * w ≡ (a - b) * C
  rest_none l = at (A - B) (a - b) (none A B (le_of_mul-le-mul_right (over (mul-le-mul_right C (le_of_lt l))) W)) (none a b (le_of_lt l))
    where
      over : a * C ≤ b * C → A * w ≤ B * w
      over z = omega arith

      none : (x y : ℕ) → x ≤ y → x - y ≡ 0
      none x y z = omega arith

      at : (p q : ℕ) → p ≡ 0 → q ≡ 0 → p * w ≡ q * C
      at p q f g = ap (λ (z : ℕ). z * w) f ∙ zero-mul w ∙ sym (zero-mul C) ∙ ap (λ (z : ℕ). z * C) (sym g)

  left : (A - B) * w ≡ (a - b) * C
  left = go (dec_le b a)
    where
      go : Dec (b ≤ a) → (A - B) * w ≡ (a - b) * C
      go (yes l) = rest l
      go (no f) = rest_none (lt_of_not-le f)

-- `sum` sees only the fractions
sum_same : (s : Bool) (A : ℕ) (t : Bool) (B C a b w : ℕ) → 0 < C → 0 < w → A * w ≡ a * C → B * w ≡ b * C → sum binary64 s A t B C ≡ sum binary64 s a t b w
unfolding sum
sum_same s A t B C a b w D W h k =
    ap (λ (z : Float). cond (beq s t) z (cond (ltb A B) (round binary64 t (B - A) C) (round binary64 (s && ltb B A) (A - B) C))) (round_same binary64 s (A + B) C (a + b) w D W (total w A B C a b W D h k))
    ∙ ap (λ (z : Float). cond (beq s t) (round binary64 s (a + b) w) (cond (ltb A B) z (round binary64 (s && ltb B A) (A - B) C))) (round_same binary64 t (B - A) C (b - a) w D W (left w B A C b a W D k h))
    ∙ ap (λ (z : Float). cond (beq s t) (round binary64 s (a + b) w) (cond (ltb A B) (round binary64 t (b - a) w) z)) (round_same binary64 (s && ltb B A) (A - B) C (a - b) w D W (left w A B C a b W D h k))
    ∙ ap (λ (z : Bool). cond (beq s t) (round binary64 s (a + b) w) (cond z (round binary64 t (b - a) w) (round binary64 (s && ltb B A) (a - b) w))) (ltb_scale a b A B w C W D h k)
    ∙ ap (λ (z : Bool). cond (beq s t) (round binary64 s (a + b) w) (cond (ltb a b) (round binary64 t (b - a) w) (round binary64 (s && z) (a - b) w))) (ltb_scale b a B A w C W D k h)

-- a value's fraction at the common denominator
pub widen : (p w a d g : ℕ) → p * w ≡ a * d → p * g * w ≡ a * (d * g)
widen p w a d g h = let x : p * w * g ≡ a * d * g = ap (λ (z : ℕ). z * g) h in omega arith

pub widen_2 : (q w b d g : ℕ) → q * w ≡ b * g → q * d * w ≡ b * (d * g)
widen_2 q w b d g h = let x : q * w * d ≡ b * g * d = ap (λ (z : ℕ). z * d) h in omega arith

-- the sum of a / w with the sign s and b / w with the sign t
pub add_is : (x y : Float) (s t : Bool) (a b w : ℕ) → 0 < w → HasValue x s a w → HasValue y t b w → add binary64 x y ≡ sum binary64 s a t b w
unfolding add
add_is nan y s t a b w W h k = absurd h
add_is (inf u) y s t a b w W h k = absurd h
add_is (fin u m e) nan s t a b w W h k = absurd k
add_is (fin u m e) (inf v) s t a b w W h k = absurd k
add_is (fin u m e) (fin v n d) s t a b w W h k =
    sum_same u (m * up e * down d) v (n * up d * down e) (down e * down d) a b w (mul-pos (down_pos e) (down_pos d)) W (widen (m * up e) w a (down e) (down d) h.1) (widen_2 (n * up d) w b (down e) (down d) k.1)
    ∙ ap (λ (i : Bool). sum binary64 i a v b w) h.0
    ∙ ap (λ (j : Bool). sum binary64 s a j b w) k.0

module _ (s t : Bool) (a b : ℕ) where
  -- the sum of unlike signs
  apart : Float
  apart = cond (ltb a b) (round binary64 t (b - a) (2 ^ 1074)) (round binary64 (s && ltb b a) (a - b) (2 ^ 1074))

  first_more : b < a → Rounded s (a - b) (2 ^ 1074) apart
  unfolding apart
  first_more l =
      subst (Rounded s (a - b) (2 ^ 1074))
      (sym (ap (λ (u : Bool). cond u (round binary64 t (b - a) (2 ^ 1074)) (round binary64 (s && ltb b a) (a - b) (2 ^ 1074))) (le-ltb a b (le_of_lt l))
      ∙ ap (λ (u : Bool). round binary64 (s && u) (a - b) (2 ^ 1074)) (lt-ltb b a l)
      ∙ ap (λ (u : Bool). round binary64 u (a - b) (2 ^ 1074)) (and-true s)))
      (rounded s (a - b) (2 ^ 1074) (pow_pos 1074))
    where
      and-true : (s : Bool) → s && true ≡ s
      and-true true = refl
      and-true false = refl

  second_more : a < b → Rounded t (b - a) (2 ^ 1074) apart
  unfolding apart
  second_more l =
      subst (Rounded t (b - a) (2 ^ 1074)) (sym (ap (λ (u : Bool). cond u (round binary64 t (b - a) (2 ^ 1074)) (round binary64 (s && ltb b a) (a - b) (2 ^ 1074))) (lt-ltb a b l)))
      (rounded t (b - a) (2 ^ 1074) (pow_pos 1074))

  equal : a ≡ b → apart ≡ fin false 0 (pos 0)
  unfolding apart
  equal e =
      ap (λ (u : Bool). cond u (round binary64 t (b - a) (2 ^ 1074)) (round binary64 (s && ltb b a) (a - b) (2 ^ 1074))) (le-ltb a b (le_of_eq (sym e)))
      ∙ ap (λ (u : Bool). round binary64 (s && u) (a - b) (2 ^ 1074)) (le-ltb b a (le_of_eq e))
      ∙ ap (λ (u : Bool). round binary64 u (a - b) (2 ^ 1074)) (and-false s)
      ∙ ap (λ (x : ℕ). round binary64 false x (2 ^ 1074)) (none a b e)
      ∙ zero_round false (2 ^ 1074) (pow_pos 1074)
    where
      and-false : (s : Bool) → s && false ≡ false
      and-false true = refl
      and-false false = refl

      none : (x y : ℕ) → x ≡ y → x - y ≡ 0
      none x y z = omega arith

sum_rounded : (s t : Bool) (a b : ℕ) → SumRounded s a t b (sum binary64 s a t b (2 ^ 1074))
unfolding sum apart
sum_rounded true true a b = record { same = λ _. rounded true (a + b) (2 ^ 1074) (pow_pos 1074); more = λ f. absurd (f refl); less = λ f. absurd (f refl); none = λ f. absurd (f refl) }
sum_rounded false false a b = record { same = λ _. rounded false (a + b) (2 ^ 1074) (pow_pos 1074); more = λ f. absurd (f refl); less = λ f. absurd (f refl); none = λ f. absurd (f refl) }
sum_rounded true false a b = record { same = λ e. absurd (true≢false e); more = λ _. first_more true false a b; less = λ _. second_more true false a b; none = λ _. equal true false a b }
sum_rounded false true a b = record { same = λ e. absurd (true≢false (sym e)); more = λ _. first_more false true a b; less = λ _. second_more false true a b; none = λ _. equal false true a b }

pub add_rounded : (x y : Float) (s t : Bool) (a b : ℕ) → HasValue x s a (2 ^ 1074) → HasValue y t b (2 ^ 1074) → SumRounded s a t b (add binary64 x y)
add_rounded x y s t a b h k = subst (SumRounded s a t b) (sym (add_is x y s t a b (2 ^ 1074) (pow_pos 1074) h k)) (sum_rounded s t a b)

neg_value : (y : Float) (t : Bool) (b c : ℕ) → HasValue y t b c → HasValue (neg y) (not t) b c
unfolding neg
neg_value nan t b c h = absurd h
neg_value (inf s) t b c h = absurd h
neg_value (fin s m e) t b c h = (ap not h.0, h.1)

pub sub_rounded : (x y : Float) (s t : Bool) (a b : ℕ) → HasValue x s a (2 ^ 1074) → HasValue y t b (2 ^ 1074) → SumRounded s a (not t) b (sub binary64 x y)
unfolding sub
sub_rounded x y s t a b h k = add_rounded x (neg y) s (not t) a b h (neg_value y t b (2 ^ 1074) k)

-- ---- products
-- of a / c and b / d
pub mul_is : (x y : Float) (s t : Bool) (a c b d : ℕ) → 0 < c → 0 < d → HasValue x s a c → HasValue y t b d → mul binary64 x y ≡ round binary64 (unlike s t) (a * b) (c * d)
unfolding mul
mul_is nan y s t a c b d C D h k = absurd h
mul_is (inf u) y s t a c b d C D h k = absurd h
mul_is (fin u m e) nan s t a c b d C D h k = absurd k
mul_is (fin u m e) (inf v) s t a c b d C D h k = absurd k
mul_is (fin u m e) (fin v n g) s t a c b d C D h k =
    round_same binary64 (unlike u v) (m * up e * (n * up g)) (down e * down g) (a * b) (c * d) (mul-pos (down_pos e) (down_pos g)) (mul-pos C D) (product (m * up e) (n * up g) (down e) (down g) h.1 k.1)
    ∙ ap (λ (i : Bool). round binary64 (unlike i v) (a * b) (c * d)) h.0
    ∙ ap (λ (j : Bool). round binary64 (unlike s j) (a * b) (c * d)) k.0
  where
    product : (p q i j : ℕ) → p * c ≡ a * i → q * d ≡ b * j → p * q * (c * d) ≡ a * b * (i * j)
    product p q i j h k =
        let x : p * c * (q * d) ≡ a * i * (q * d) = ap (λ (z : ℕ). z * (q * d)) h in
        let y : a * i * (q * d) ≡ a * i * (b * j) = ap (λ (z : ℕ). a * i * z) k in
        omega arith

pub mul_rounded : (x y : Float) (s t : Bool) (a b : ℕ) → HasValue x s a (2 ^ 1074) → HasValue y t b (2 ^ 1074) → Rounded (unlike s t) (a * b) (2 ^ 1074 * 2 ^ 1074) (mul binary64 x y)
mul_rounded x y s t a b h k =
    subst (Rounded (unlike s t) (a * b) (2 ^ 1074 * 2 ^ 1074)) (sym (mul_is x y s t a (2 ^ 1074) b (2 ^ 1074) (pow_pos 1074) (pow_pos 1074) h k))
    (rounded (unlike s t) (a * b) (2 ^ 1074 * 2 ^ 1074) (mul-pos (pow_pos 1074) (pow_pos 1074)))

-- ---- quotients
pub div_is : (x y : Float) (s t : Bool) (a b w : ℕ) → 0 < w → 0 < b → HasValue x s a w → HasValue y t b w → div binary64 x y ≡ round binary64 (unlike s t) a b
unfolding div
div_is nan y s t a b w W l h k = absurd h
div_is (inf u) y s t a b w W l h k = absurd h
div_is (fin u m e) nan s t a b w W l h k = absurd k
div_is (fin u m e) (inf v) s t a b w W l h k = absurd k
div_is (fin u m e) (fin v zero d) s t a b w W l h k = absurd (never (up d) (down d) (mul-pos l (down_pos d)) k.1)
  where
    never : (i j : ℕ) → 0 < b * j → 0 * i * w ≡ b * j → ⊥
    never i j p q = omega arith
div_is (fin u m e) (fin v (suc n) d) s t a b w W l h k =
    ap (λ (z : Bool). cond z (cond (eqb m 0) nan (inf (unlike u v))) (round binary64 (unlike u v) (m * up e * down d) (suc n * up d * down e))) (eqb-suc-zero n)
    ∙ round_same binary64 (unlike u v) (m * up e * down d) (suc n * up d * down e) a b (mul-pos (mul-pos (zero-lt-suc n) (up_pos d)) (down_pos e)) l (quotient (m * up e) (suc n * up d) (down e) (down d) h.1 k.1)
    ∙ ap (λ (i : Bool). round binary64 (unlike i v) a b) h.0
    ∙ ap (λ (j : Bool). round binary64 (unlike s j) a b) k.0
  where
    quotient : (p q i j : ℕ) → p * w ≡ a * i → q * w ≡ b * j → p * j * b ≡ a * (q * i)
    quotient p q i j h k = eq_of_mul-eq-mul_right w W (p * j * b) (a * (q * i)) (at h k)
      where
        at : p * w ≡ a * i → q * w ≡ b * j → p * j * b * w ≡ a * (q * i) * w
        at h k =
            let x : p * w * (j * b) ≡ a * i * (j * b) = ap (λ (z : ℕ). z * (j * b)) h in
            let y : a * i * (q * w) ≡ a * i * (b * j) = ap (λ (z : ℕ). a * i * z) k in
            omega arith

pub div_rounded : (x y : Float) (s t : Bool) (a b : ℕ) → HasValue x s a (2 ^ 1074) → HasValue y t b (2 ^ 1074) → 0 < b → Rounded (unlike s t) a b (div binary64 x y)
div_rounded x y s t a b h k l = subst (Rounded (unlike s t) a b) (sym (div_is x y s t a b (2 ^ 1074) (pow_pos 1074) l h k)) (rounded (unlike s t) a b l)

-- ---- a whole number as a float
pub int_rounded : (z : ℤ) → Rounded (whole_sign z) (whole_size z) 1 (of_int binary64 z)
unfolding of_int
int_rounded (pos n) = rounded false n 1 (lit< {m = 0} {n = 1} _)
int_rounded (negsuc n) = rounded true (suc n) 1 (lit< {m = 0} {n = 1} _)
