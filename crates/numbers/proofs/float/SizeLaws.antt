-- The sizes of results: a bound on the parts gives one on a sum, a difference, a product, a quotient, a hypotenuse, a mean. Rounding keeps the order, and a power of two is a value of the format,
-- so a bound by a power of two goes through each operation unrounded. Assumes nothing.
use Rattle.std.proofs.Common.{◌≡◌, ℕ, zero, suc, ◌+◌, ◌-◌, ◌*◌, ◌^◌, ◌<◌, ◌≤◌, Bool, true, false, cond, not, ◌&&◌, T, eqb, ltb, leb, ◌⊎◌, ℤ, pos, negsuc, nat_abs, sym, refl, ap, ◌∙◌, subst, inl, inr, true≢false, zero-le, le_trans, le_of_eq, lt_of_lt_of_le, le_of_lt, mul-le-mul_right, mul_comm, mul-le-mul, add_comm, lt_of_mul-lt-mul_right, mul-lt-mul_of_pos_right, mul-pos, one-mul, lt_of_not-le, le-div_iff_mul-le, mul-one, le-mul_of_pos_right, le_of_mul-le-mul_right, arith, lit<, lit≤, leb→le, pow_pos, pow_mono, pow-add, shl_lt, ltb-false, le-ltb, lt-ltb, ne_eqb}
use native.Mathlib.Nat.{div-le_of_le-mul}
use native.Mathlib.Decide.{dec_le}
use mathlib.Core.Bool.{beq}
use lib.Pow.{pow-lt}
use lib.Ieee.{Float, nan, inf, fin, up, down, unlike, below, lt, le, eq, neg, is_nan, add, sub, sum, mul, div, of_int, of_bits, of_fields, odd, round, binary64}
use lib.Ieee.Exact.{HasValue, round_exact}
use lib.Ieee.Fits.{down_pos, and_l, and_r}
use lib.Ieee.Back.{round_whole}
use lib.Ieee.Order.{round_mono}
use lib.Ieee.Scale.{round_same}
use lib.Ieee.Positive.{num, den, den_pos, through}
use Rattle.numbers.specs.Small.{abs_of, is_finite, max_of, min_of, clamp_of}
use Rattle.numbers.specs.Ops.{f0, f½, f1, f2, f4, least_normal}
use Rattle.numbers.specs.Hypot.{grains, nearest_root, hypot_of}
use Rattle.numbers.specs.Size.{Within, AtMost, AtLeast, most_test, least_test}
use Rattle.numbers.proofs.float.Keys.{plus, not_both, le_of_lt_float}
use Rattle.numbers.proofs.float.Floors.{round_neg}
use Rattle.numbers.proofs.float.Sums.{plus_round, le_number}
use Rattle.numbers.proofs.float.Whole.{both_finite}
use Rattle.numbers.proofs.float.Hypots.{quarters, quarters_eq, nearest_round, nearest_mono, hypot_comm}
use Rattle.numbers.proofs.float.Bounds.{hypot_plus}
use Rattle.numbers.proofs.float.Extremes.{max_first, max_second, clamp_low, clamp_high, clamp_inside}

-- ---- rounding keeps a bound
-- v, whose sign is clear, is not above w, which is a / c
pub under_value : (v w : Float) (a c : ℕ) → T (plus v) → HasValue w false a c → T (le v w) → Within a c v
unfolding plus le is_finite
under_value nan w a c p h l = absurd p
under_value (inf true) w a c p h l = absurd p
under_value (inf false) nan a c p h l = absurd h
under_value (inf false) (inf t) a c p h l = absurd h
under_value (inf false) (fin t n d) a c p h l = absurd l
under_value (fin true m e) w a c p h l = absurd p
under_value (fin false m e) nan a c p h l = absurd h
under_value (fin false m e) (inf t) a c p h l = absurd h
under_value (fin false m e) (fin true n d) a c p h l = absurd (true≢false h.0)
under_value (fin false m e) (fin false n d) a c p h l = record {
  finite = tt;
  size = through (m * up e) (n * up d) a (down e) (down d) c (down_pos d) (le_number (m * up e * down d) (n * up d * down e) l) (le_of_eq h.1);
}

-- the other way round
pub over_value : (v w : Float) (a c : ℕ) → T (plus v) → T (is_finite v) → HasValue w false a c → T (le w v) → a * den v ≤ num v * c
unfolding plus le is_finite
over_value nan w a c p f h l = absurd p
over_value (inf s) w a c p f h l = absurd f
over_value (fin true m e) w a c p f h l = absurd p
over_value (fin false m e) nan a c p f h l = absurd h
over_value (fin false m e) (inf t) a c p f h l = absurd h
over_value (fin false m e) (fin true n d) a c p f h l = absurd (true≢false h.0)
over_value (fin false m e) (fin false n d) a c p f h l =
    through a (n * up d) (m * up e) c (down d) (down e) (down_pos d) (le_of_eq (sym h.1)) (le_number (n * up d * down e) (m * up e * down d) l)

pub neg_within : (a c : ℕ) (x : Float) → Within a c x → Within a c (neg x)
unfolding neg is_finite
neg_within a c nan h = absurd h.finite
neg_within a c (inf s) h = absurd h.finite
neg_within a c (fin s m e) h = record { finite = tt; size = h.size }

pub neg_least : (k : ℕ) (x : Float) → AtLeast k x → AtLeast k (neg x)
unfolding neg is_finite
neg_least k nan h = absurd h.finite
neg_least k (inf s) h = absurd h.finite
neg_least k (fin s m e) h = record { finite = tt; size = h.size }

neg_finite : (x : Float) → T (is_finite (neg x)) → T (is_finite x)
unfolding neg is_finite
neg_finite nan h = h
neg_finite (inf s) h = h
neg_finite (fin s m e) h = tt

-- n / d is at most b / w, which rounds to a / c
module _ (n d b w a c : ℕ) (D : 0 < d) (W : 0 < w) (h : n * w ≤ b * d) (v : HasValue (round binary64 false b w) false a c) where
  round_clear : Within a c (round binary64 false n d)
  round_clear = under_value (round binary64 false n d) (round binary64 false b w) a c (plus_round n d) v (round_mono binary64 n d b w D W h)

  pub round_within : (s : Bool) → Within a c (round binary64 s n d)
  round_within false = round_clear
  round_within true = subst (Within a c) (round_neg n d) (neg_within a c (round binary64 false n d) round_clear)

pub within_cond : (a c : ℕ) (b : Bool) (x y : Float) → Within a c x → Within a c y → Within a c (cond b x y)
within_cond a c true x y h k = h
within_cond a c false x y h k = k

-- ---- values of the format: a / c rounds to itself
abbrev pub Exact : ℕ → ℕ → Type 0
Exact a c = HasValue (round binary64 false a c) false a c

pub exact_whole : (n : ℕ) → n ≤ 2 ^ 53 → Exact n 1
exact_whole n h = round_whole binary64 false n h

pub exact_count : (n k : ℕ) → n < 2 ^ 53 → k ≤ 2045 → Exact (n * 2 ^ k) (2 ^ 1074)
exact_count n k h l = round_exact binary64 false (n * 2 ^ k) (2 ^ 1074) n k (pow_pos 1074) h (lt_of_lt_of_le (shl_lt 53 k h) (pow_mono (room k l))) refl
  where
    room : (k : ℕ) → k ≤ 2045 → 53 + k ≤ 2098
    room k h = omega arith

pub exact_power : (k : ℕ) → k ≤ 2097 → Exact (2 ^ k) (2 ^ 1074)
exact_power k h =
    round_exact binary64 false (2 ^ k) (2 ^ 1074) 1 k (pow_pos 1074) (lit< tt) (subst (λ (z : ℕ). z < 2 ^ 2098) (sym (one-mul (2 ^ k))) (pow-lt (next k h)))
    (ap (λ (z : ℕ). z * 2 ^ 1074) (sym (one-mul (2 ^ k))))
  where
    next : (k : ℕ) → k ≤ 2097 → k < 2098
    next k h = omega arith

-- ---- between the forms
pub most_within : (k : ℕ) (x : Float) → AtMost k x → Within (2 ^ k) (2 ^ 1074) x
most_within k x h = record { finite = h.finite; size = h.size }

pub within_most : (k : ℕ) (x : Float) → Within (2 ^ k) (2 ^ 1074) x → AtMost k x
within_most k x h = record { finite = h.finite; size = h.size }

-- a / c is at most b / d
pub within_weaken : (a c b d : ℕ) (x : Float) → 0 < c → a * d ≤ b * c → Within a c x → Within b d x
within_weaken a c b d x C l h = record { finite = h.finite; size = through (num x) a b (den x) c d C h.size l }

pub most_weaken : (k g : ℕ) (x : Float) → k ≤ g → AtMost k x → AtMost g x
most_weaken k g x l h = record { finite = h.finite; size = le_trans h.size (mul-le-mul_right (den x) (pow_mono l)) }

pub least_weaken : (k g : ℕ) (x : Float) → g ≤ k → AtLeast k x → AtLeast g x
least_weaken k g x l h = record { finite = h.finite; size = le_trans (mul-le-mul_right (den x) (pow_mono l)) h.size }

-- a finite float is one or the other
pub most_or_least : (k : ℕ) (x : Float) → T (is_finite x) → AtMost k x ⊎ AtLeast k x
most_or_least k x f = go (dec_le (num x * 2 ^ 1074) (2 ^ k * den x))
  where
    go : Dec (num x * 2 ^ 1074 ≤ 2 ^ k * den x) → AtMost k x ⊎ AtLeast k x
    go (yes h) = inl (record { finite = f; size = h })
    go (no g) = inr (record { finite = f; size = le_of_lt (lt_of_not-le g) })

-- ---- closed floats, by computation: `most_lit k x tt`, with `unfolding most_test is_finite of_bits of_fields odd`
pub most_lit : (k : ℕ) (x : Float) → T (most_test k x) → AtMost k x
unfolding most_test
most_lit k x h = record { finite = and_l (is_finite x) (leb (num x * 2 ^ 1074) (2 ^ k * den x)) h; size = leb→le (num x * 2 ^ 1074) (2 ^ k * den x) (and_r (is_finite x) (leb (num x * 2 ^ 1074) (2 ^ k * den x)) h) }

pub least_lit : (k : ℕ) (x : Float) → T (least_test k x) → AtLeast k x
unfolding least_test
least_lit k x h = record { finite = and_l (is_finite x) (leb (2 ^ k * den x) (num x * 2 ^ 1074)) h; size = leb→le (2 ^ k * den x) (num x * 2 ^ 1074) (and_r (is_finite x) (leb (2 ^ k * den x) (num x * 2 ^ 1074)) h) }

-- ---- sums: a / c and b / c, where (a + b) / c is a value of the format
module _ (A B C b w a c : ℕ) (D : 0 < C) (W : 0 < w) (h : (A + B) * w ≤ b * C) (v : HasValue (round binary64 false b w) false a c) where
  sum_within : (s t : Bool) → Within a c (sum binary64 s A t B C)
  unfolding sum
  sum_within s t =
      within_cond a c (beq s t) (round binary64 s (A + B) C) (cond (ltb A B) (round binary64 t (B - A) C) (round binary64 (s && ltb B A) (A - B) C))
      (round_within (A + B) C b w a c D W h v s)
      (within_cond a c (ltb A B) (round binary64 t (B - A) C) (round binary64 (s && ltb B A) (A - B) C)
      (round_within (B - A) C b w a c D W (le_trans (mul-le-mul_right w (less B A)) h) v t)
      (round_within (A - B) C b w a c D W (le_trans (mul-le-mul_right w (less' A B)) h) v (s && ltb B A)))
    where
      less : (x y : ℕ) → x - y ≤ y + x
      less x y = omega arith

      less' : (x y : ℕ) → x - y ≤ x + y
      less' x y = omega arith

-- p / P is at most a / c, and q / Q at most b / c
sums : (p P q Q a b c : ℕ) → p * c ≤ a * P → q * c ≤ b * Q → (p * Q + q * P) * c ≤ (a + b) * (P * Q)
sums p P q Q a b c h k =
    let x : p * c * Q ≤ a * P * Q = mul-le-mul_right Q h in
    let y : q * c * P ≤ b * Q * P = mul-le-mul_right P k in
    omega arith

pub add_within : (a b c : ℕ) (x y : Float) → 0 < c → Exact (a + b) c → Within a c x → Within b c y → Within (a + b) c (add binary64 x y)
unfolding add is_finite
add_within a b c nan y C v h k = absurd h.finite
add_within a b c (inf s) y C v h k = absurd h.finite
add_within a b c (fin s m e) nan C v h k = absurd k.finite
add_within a b c (fin s m e) (inf t) C v h k = absurd k.finite
add_within a b c (fin s m e) (fin t n d) C v h k =
    sum_within (m * up e * down d) (n * up d * down e) (down e * down d) (a + b) c (a + b) c (mul-pos (down_pos e) (down_pos d)) C
    (sums (m * up e) (down e) (n * up d) (down d) a b c h.size k.size) v s t

pub sub_within : (a b c : ℕ) (x y : Float) → 0 < c → Exact (a + b) c → Within a c x → Within b c y → Within (a + b) c (sub binary64 x y)
unfolding sub
sub_within a b c x y C v h k = add_within a b c x (neg y) C v h (neg_within b c y k)

twice : (k : ℕ) → 2 ^ k + 2 ^ k ≡ 2 ^ (k + 1)
twice k = flat (2 ^ k) ∙ sym (pow-add 2 k 1)
  where
    flat : (a : ℕ) → a + a ≡ a * 2
    flat a = omega arith

one_more : (k : ℕ) → k ≤ 2096 → k + 1 ≤ 2097
one_more k h = omega arith

-- both parts at most 2 ^ k: the sum at most 2 ^ (k + 1)
pub add_most : (k : ℕ) (x y : Float) → k ≤ 2096 → AtMost k x → AtMost k y → AtMost (k + 1) (add binary64 x y)
add_most k x y l h i =
    within_most (k + 1) (add binary64 x y)
    (subst (λ (a : ℕ). Within a (2 ^ 1074) (add binary64 x y)) (twice k)
    (add_within (2 ^ k) (2 ^ k) (2 ^ 1074) x y (pow_pos 1074) (subst (λ (a : ℕ). Exact a (2 ^ 1074)) (sym (twice k)) (exact_power (k + 1) (one_more k l)))
    (most_within k x h) (most_within k y i)))

pub neg_most : (k : ℕ) (x : Float) → AtMost k x → AtMost k (neg x)
neg_most k x h = within_most k (neg x) (neg_within (2 ^ k) (2 ^ 1074) x (most_within k x h))

pub sub_most : (k : ℕ) (x y : Float) → k ≤ 2096 → AtMost k x → AtMost k y → AtMost (k + 1) (sub binary64 x y)
unfolding sub
sub_most k x y l h i = add_most k x (neg y) l h (neg_most k y i)

-- parts of any two bounds, and any bound above both
pub add_under : (d e g : ℕ) (x y : Float) → d + 1 ≤ g → e + 1 ≤ g → g ≤ 2097 → AtMost d x → AtMost e y → AtMost g (add binary64 x y)
add_under d e g x y D E G h k =
    subst (λ (z : ℕ). AtMost z (add binary64 x y)) (back g D)
    (add_most (g - 1) x y (omega arith) (most_weaken d (g - 1) x (omega arith) h) (most_weaken e (g - 1) y (omega arith) k))
  where
    back : (g : ℕ) → d + 1 ≤ g → g - 1 + 1 ≡ g
    back g D = omega arith

pub sub_under : (d e g : ℕ) (x y : Float) → d + 1 ≤ g → e + 1 ≤ g → g ≤ 2097 → AtMost d x → AtMost e y → AtMost g (sub binary64 x y)
unfolding sub
sub_under d e g x y D E G h k = add_under d e g x (neg y) D E G h (neg_most e y k)

-- ---- products: w stands for 2 ^ 1074
product : (p P q Q w X Y G : ℕ) → 0 < w → p * w ≤ X * P → q * w ≤ Y * Q → X * Y ≤ G * w → p * q * w ≤ G * (P * Q)
product p P q Q w X Y G W h k l =
    let a : p * w * (q * w) ≤ X * P * (Y * Q) = mul-le-mul h k in
    let b : X * Y * (P * Q) ≤ G * w * (P * Q) = mul-le-mul_right (P * Q) l in
    let c : p * q * w * w ≤ G * (P * Q) * w = omega arith in
    le_of_mul-le-mul_right c W

powers : (d e g i : ℕ) → d + e ≤ g + i → 2 ^ d * 2 ^ e ≤ 2 ^ g * 2 ^ i
powers d e g i h = le_trans (le_of_eq (sym (pow-add 2 d e))) (le_trans (pow_mono h) (le_of_eq (pow-add 2 g i)))

pub mul_most : (d e g : ℕ) (x y : Float) → d + e ≤ g + 1074 → g ≤ 2097 → AtMost d x → AtMost e y → AtMost g (mul binary64 x y)
unfolding mul is_finite
mul_most d e g nan y l G h k = absurd h.finite
mul_most d e g (inf s) y l G h k = absurd h.finite
mul_most d e g (fin s m i) nan l G h k = absurd k.finite
mul_most d e g (fin s m i) (inf t) l G h k = absurd k.finite
mul_most d e g (fin s m i) (fin t n j) l G h k =
    within_most g (round binary64 (unlike s t) (m * up i * (n * up j)) (down i * down j))
    (round_within (m * up i * (n * up j)) (down i * down j) (2 ^ g) (2 ^ 1074) (2 ^ g) (2 ^ 1074) (mul-pos (down_pos i) (down_pos j)) (pow_pos 1074)
    (product (m * up i) (down i) (n * up j) (down j) (2 ^ 1074) (2 ^ d) (2 ^ e) (2 ^ g) (pow_pos 1074) h.size k.size (powers d e g 1074 l))
    (exact_power g G) (unlike s t))

-- half the least value is rounded to zero, a tie to the even one
half_least : round binary64 false 1 (2 ^ 1075) ≡ fin false 0 (pos 0)
unfolding round
half_least = refl

gone_value : HasValue (round binary64 false 1 (2 ^ 1075)) false 0 1
gone_value = subst (λ (x : Float). HasValue x false 0 1) (sym half_least) (refl, refl)

-- a product that small is a zero
pub mul_gone : (d e : ℕ) (x y : Float) → d + e ≤ 1073 → AtMost d x → AtMost e y → Within 0 1 (mul binary64 x y)
unfolding mul is_finite
mul_gone d e nan y l h k = absurd h.finite
mul_gone d e (inf s) y l h k = absurd h.finite
mul_gone d e (fin s m i) nan l h k = absurd k.finite
mul_gone d e (fin s m i) (inf t) l h k = absurd k.finite
mul_gone d e (fin s m i) (fin t n j) l h k =
    round_within (m * up i * (n * up j)) (down i * down j) 1 (2 ^ 1075) 0 1 (mul-pos (down_pos i) (down_pos j)) (pow_pos 1075)
    (halved (m * up i) (down i) (n * up j) (down j) (2 ^ 1074) (2 ^ d) (2 ^ e) (2 ^ 1073) (pow_pos 1074) h.size k.size (le_trans (le_of_eq (sym (pow-add 2 d e))) (pow_mono l)) refl)
    gone_value (unlike s t)
  where
    halved : (p P q Q w X Y v : ℕ) → 0 < w → p * w ≤ X * P → q * w ≤ Y * Q → X * Y ≤ v → w ≡ 2 * v → p * q * (2 * w) ≤ 1 * (P * Q)
    halved p P q Q w X Y v W h k l e =
        let a : p * w * (q * w) ≤ X * P * (Y * Q) = mul-le-mul h k in
        let b : X * Y * (P * Q) ≤ v * (P * Q) = mul-le-mul_right (P * Q) l in
        let f : w * (P * Q) ≡ 2 * v * (P * Q) = ap (λ (z : ℕ). z * (P * Q)) e in
        let c : p * q * (2 * w) * w ≤ 1 * (P * Q) * w = omega arith in
        le_of_mul-le-mul_right c W

-- ---- quotients
quotient : (p P q Q w X Y G : ℕ) → 0 < Y → p * w ≤ X * P → Y * Q ≤ q * w → X * w ≤ G * Y → p * Q * w ≤ G * (q * P)
quotient p P q Q w X Y G C h k l =
    let a : p * w * (Y * Q) ≤ X * P * (q * w) = mul-le-mul h k in
    let b : X * w * (P * q) ≤ G * Y * (P * q) = mul-le-mul_right (P * q) l in
    let c : p * Q * w * Y ≤ G * (q * P) * Y = omega arith in
    le_of_mul-le-mul_right c C

-- a divisor that is at least something is not zero
pub not_zero : (d : ℕ) (n : ℕ) (j : ℤ) → 2 ^ d * down j ≤ n * up j * 2 ^ 1074 → n ≡ 0 → ⊥
not_zero d n j h z = none (2 ^ d * down j) (up j) (2 ^ 1074) (mul-pos (pow_pos d) (down_pos j)) (subst (λ (i : ℕ). 2 ^ d * down j ≤ i * up j * 2 ^ 1074) z h)
  where
    none : (a u w : ℕ) → 0 < a → a ≤ 0 * u * w → ⊥
    none a u w p q = omega arith

pub some_size : (d n : ℕ) (j : ℤ) → 2 ^ d * down j ≤ n * up j * 2 ^ 1074 → 0 < n * up j
some_size d n j h = first (n * up j) (2 ^ 1074) (lt_of_lt_of_le (mul-pos (pow_pos d) (down_pos j)) h)
  where
    first : (i w : ℕ) → 0 < i * w → 0 < i
    first zero w p = absurd (never w p)
      where
        never : (w : ℕ) → 0 < 0 * w → ⊥
        never w p = omega arith
    first (suc i) w p = one i
      where
        one : (i : ℕ) → 0 < suc i
        one i = omega arith

pub div_most : (e d g : ℕ) (x y : Float) → e + 1074 ≤ g + d → g ≤ 2097 → AtMost e x → AtLeast d y → AtMost g (div binary64 x y)
unfolding div is_finite
div_most e d g nan y l G h k = absurd h.finite
div_most e d g (inf s) y l G h k = absurd h.finite
div_most e d g (fin s m i) nan l G h k = absurd k.finite
div_most e d g (fin s m i) (inf t) l G h k = absurd k.finite
div_most e d g (fin s m i) (fin t n j) l G h k =
    subst (λ (b : Bool). AtMost g (cond b (cond (eqb m 0) nan (inf (unlike s t))) (round binary64 (unlike s t) (m * up i * down j) (n * up j * down i)))) (sym (ne_eqb n 0 (not_zero d n j k.size)))
    (within_most g (round binary64 (unlike s t) (m * up i * down j) (n * up j * down i))
    (round_within (m * up i * down j) (n * up j * down i) (2 ^ g) (2 ^ 1074) (2 ^ g) (2 ^ 1074) (mul-pos (some_size d n j k.size) (down_pos i)) (pow_pos 1074)
    (quotient (m * up i) (down i) (n * up j) (down j) (2 ^ 1074) (2 ^ e) (2 ^ d) (2 ^ g) (pow_pos d) h.size k.size (powers e 1074 g d l))
    (exact_power g G) (unlike s t)))

-- ---- hypotenuses
grains_most : (k : ℕ) (x : Float) → AtMost k x → grains x ≤ 2 ^ k
unfolding grains is_finite
grains_most k nan h = absurd h.finite
grains_most k (inf s) h = absurd h.finite
grains_most k (fin s m e) h = div-le_of_le-mul (down e) (le_trans h.size (le_of_eq (mul_comm (2 ^ k) (down e))))

grains_least : (k : ℕ) (x : Float) → AtLeast k x → 2 ^ k ≤ grains x
unfolding grains is_finite
grains_least k nan h = absurd h.finite
grains_least k (inf s) h = absurd h.finite
grains_least k (fin s m e) h = (le-div_iff_mul-le {k = down e} {x = 2 ^ k} {y = m * up e * 2 ^ 1074} (down_pos e)).1 h.size

-- the root of a square
power_root : (g : ℕ) → g ≤ 2097 → HasValue (nearest_root (2 ^ g * 2 ^ g)) false (2 ^ g) (2 ^ 1074)
power_root g G =
    subst (λ (v : Float). HasValue v false (2 ^ g) (2 ^ 1074))
    (sym (nearest_round (2 ^ g * 2 ^ g)
    ∙ ap (λ (z : ℕ). round binary64 false z (2 ^ 1076)) (quarters_eq (2 ^ g * 2 ^ g) (2 * 2 ^ g) (four (2 ^ g)))
    ∙ round_same binary64 false (2 * (2 * 2 ^ g)) (2 ^ 1076) (2 ^ g) (2 ^ 1074) (pow_pos 1076) (pow_pos 1074) (flat (2 ^ g) (2 ^ 1074))))
    (exact_power g G)
  where
    four : (c : ℕ) → 4 * (c * c) ≡ 2 * c * (2 * c)
    four c = omega arith

    flat : (c w : ℕ) → 2 * (2 * c) * w ≡ c * (4 * w)
    flat c w = omega arith

pub hypot_most : (d e g : ℕ) (x y : Float) → d + 1 ≤ g → e + 1 ≤ g → g ≤ 2097 → AtMost d x → AtMost e y → AtMost g (hypot_of x y)
hypot_most d e g x y D E G h k =
    let a = grains x in
    let b = grains y in
    let A : a ≤ 2 ^ (g - 1) = grains_most (g - 1) x (most_weaken d (g - 1) x (less d g D) h) in
    let B : b ≤ 2 ^ (g - 1) = grains_most (g - 1) y (most_weaken e (g - 1) y (less e g E) k) in
    let P : 2 ^ (g - 1) + 2 ^ (g - 1) ≡ 2 ^ g = twice (g - 1) ∙ ap (λ (z : ℕ). 2 ^ z) (back g D) in
    within_most g (hypot_of x y)
    (subst (Within (2 ^ g) (2 ^ 1074)) (both_finite x y h.finite k.finite)
    (under_value (nearest_root (a * a + b * b)) (nearest_root (2 ^ g * 2 ^ g)) (2 ^ g) (2 ^ 1074)
    (subst (λ (v : Float). T (plus v)) (sym (nearest_round (a * a + b * b))) (plus_round (quarters (a * a + b * b)) (2 ^ 1076)))
    (power_root g G)
    (nearest_mono (a * a + b * b) (2 ^ g * 2 ^ g) (squares a b (2 ^ (g - 1)) (2 ^ g) (mul-le-mul A A) (mul-le-mul B B) P))))
  where
    less : (d g : ℕ) → d + 1 ≤ g → d ≤ g - 1
    less d g h = omega arith

    back : (g : ℕ) → d + 1 ≤ g → g - 1 + 1 ≡ g
    back g D = omega arith

    squares : (a b c e : ℕ) → a * a ≤ c * c → b * b ≤ c * c → c + c ≡ e → a * a + b * b ≤ e * e
    squares a b c e h k p = let q : (c + c) * (c + c) ≡ e * e = ap (λ (z : ℕ). z * z) p in omega arith

-- it is at least each of its sides
pub hypot_least : (k : ℕ) (x y : Float) → k ≤ 2097 → AtLeast k x → T (is_finite y) → T (is_finite (hypot_of x y)) → AtLeast k (hypot_of x y)
hypot_least k x y K h f F =
    let a = grains x in
    let b = grains y in
    let l : 2 ^ k ≤ a = grains_least k x h in
    record {
      finite = F;
      size = over_value (hypot_of x y) (nearest_root (2 ^ k * 2 ^ k)) (2 ^ k) (2 ^ 1074) (hypot_plus x y h.finite f) F (power_root k K)
          (subst (λ (v : Float). T (le (nearest_root (2 ^ k * 2 ^ k)) v)) (both_finite x y h.finite f)
          (nearest_mono (2 ^ k * 2 ^ k) (a * a + b * b) (first (2 ^ k * 2 ^ k) (a * a) (b * b) (mul-le-mul l l))));
    }
  where
    first : (p q r : ℕ) → p ≤ q → p ≤ q + r
    first p q r h = omega arith

pub hypot_least_2 : (k : ℕ) (x y : Float) → k ≤ 2097 → T (is_finite x) → AtLeast k y → T (is_finite (hypot_of x y)) → AtLeast k (hypot_of x y)
hypot_least_2 k x y K f h F = subst (AtLeast k) (hypot_comm y x) (hypot_least k y x K h f (subst (λ (v : Float). T (is_finite v)) (hypot_comm x y) F))

-- ---- lower bounds
module _ (n d g : ℕ) (D : 0 < d) (G : g ≤ 2097) (h : 2 ^ g * d ≤ n * 2 ^ 1074) where
  clear_least : T (is_finite (round binary64 false n d)) → AtLeast g (round binary64 false n d)
  clear_least f = record {
    finite = f;
    size = over_value (round binary64 false n d) (round binary64 false (2 ^ g) (2 ^ 1074)) (2 ^ g) (2 ^ 1074) (plus_round n d) f (exact_power g G) (round_mono binary64 (2 ^ g) (2 ^ 1074) n d (pow_pos 1074) D h);
  }

  pub round_least : (s : Bool) → T (is_finite (round binary64 s n d)) → AtLeast g (round binary64 s n d)
  round_least false f = clear_least f
  round_least true f =
      subst (AtLeast g) (round_neg n d)
      (neg_least g (round binary64 false n d) (clear_least (neg_finite (round binary64 false n d) (subst (λ (v : Float). T (is_finite v)) (sym (round_neg n d)) f))))

product_low : (p P q Q w X Y G : ℕ) → 0 < w → X * P ≤ p * w → Y * Q ≤ q * w → G * w ≤ X * Y → G * (P * Q) ≤ p * q * w
product_low p P q Q w X Y G W h k l =
    let a : X * P * (Y * Q) ≤ p * w * (q * w) = mul-le-mul h k in
    let b : G * w * (P * Q) ≤ X * Y * (P * Q) = mul-le-mul_right (P * Q) l in
    let c : G * (P * Q) * w ≤ p * q * w * w = omega arith in
    le_of_mul-le-mul_right c W

pub mul_least : (d e g : ℕ) (x y : Float) → g + 1074 ≤ d + e → g ≤ 2097 → AtLeast d x → AtLeast e y → T (is_finite (mul binary64 x y)) → AtLeast g (mul binary64 x y)
unfolding mul is_finite
mul_least d e g nan y l G h k f = absurd h.finite
mul_least d e g (inf s) y l G h k f = absurd h.finite
mul_least d e g (fin s m i) nan l G h k f = absurd k.finite
mul_least d e g (fin s m i) (inf t) l G h k f = absurd k.finite
mul_least d e g (fin s m i) (fin t n j) l G h k f =
    round_least (m * up i * (n * up j)) (down i * down j) g (mul-pos (down_pos i) (down_pos j)) G
    (product_low (m * up i) (down i) (n * up j) (down j) (2 ^ 1074) (2 ^ d) (2 ^ e) (2 ^ g) (pow_pos 1074) h.size k.size (powers g 1074 d e l))
    (unlike s t) f

quotient_low : (p P q Q w X Y G : ℕ) → 0 < Y → X * P ≤ p * w → q * w ≤ Y * Q → G * Y ≤ X * w → G * (q * P) ≤ p * Q * w
quotient_low p P q Q w X Y G C h k l =
    let a : X * P * (q * w) ≤ p * w * (Y * Q) = mul-le-mul h k in
    let b : G * Y * (P * q) ≤ X * w * (P * q) = mul-le-mul_right (P * q) l in
    let c : G * (q * P) * Y ≤ p * Q * w * Y = omega arith in
    le_of_mul-le-mul_right c C

-- c is any exponent that shows the divisor to be no zero
pub div_least : (e d c g : ℕ) (x y : Float) → g + d ≤ e + 1074 → g ≤ 2097 → AtLeast e x → AtMost d y → AtLeast c y → T (is_finite (div binary64 x y)) → AtLeast g (div binary64 x y)
unfolding div is_finite
div_least e d c g nan y l G h k z f = absurd h.finite
div_least e d c g (inf s) y l G h k z f = absurd h.finite
div_least e d c g (fin s m i) nan l G h k z f = absurd k.finite
div_least e d c g (fin s m i) (inf t) l G h k z f = absurd k.finite
div_least e d c g (fin s m i) (fin t n j) l G h k z f =
    let q = ne_eqb n 0 (not_zero c n j z.size) in
    subst (AtLeast g) (sym (ap at q))
    (round_least (m * up i * down j) (n * up j * down i) g (mul-pos (some_size c n j z.size) (down_pos i)) G
    (quotient_low (m * up i) (down i) (n * up j) (down j) (2 ^ 1074) (2 ^ e) (2 ^ d) (2 ^ g) (pow_pos d) h.size k.size (powers g d e 1074 l))
    (unlike s t) (subst (λ (v : Float). T (is_finite v)) (ap at q) f))
  where
    at : Bool → Float
    at b = cond b (cond (eqb m 0) nan (inf (unlike s t))) (round binary64 (unlike s t) (m * up i * down j) (n * up j * down i))

-- ---- sizes, extremes, clamps
pub abs_most : (k : ℕ) (x : Float) → AtMost k x → AtMost k (abs_of x)
unfolding abs_of is_finite
abs_most k nan h = absurd h.finite
abs_most k (inf s) h = absurd h.finite
abs_most k (fin s m e) h = record { finite = tt; size = h.size }

pub abs_least : (k : ℕ) (x : Float) → AtLeast k x → AtLeast k (abs_of x)
unfolding abs_of is_finite
abs_least k nan h = absurd h.finite
abs_least k (inf s) h = absurd h.finite
abs_least k (fin s m e) h = record { finite = tt; size = h.size }

pub abs_within : (a c : ℕ) (x : Float) → Within a c x → Within a c (abs_of x)
unfolding abs_of is_finite
abs_within a c nan h = absurd h.finite
abs_within a c (inf s) h = absurd h.finite
abs_within a c (fin s m e) h = record { finite = tt; size = h.size }

pub most_cond : (k : ℕ) (b : Bool) (x y : Float) → AtMost k x → AtMost k y → AtMost k (cond b x y)
most_cond k true x y h i = h
most_cond k false x y h i = i

pub max_most : (k : ℕ) (x y : Float) → AtMost k x → AtMost k y → AtMost k (max_of x y)
unfolding max_of
max_most k x y h i = most_cond k (lt x y) y x i h

pub min_most : (k : ℕ) (x y : Float) → AtMost k x → AtMost k y → AtMost k (min_of x y)
unfolding min_of
min_most k x y h i = most_cond k (lt y x) y x i h

-- beside an infinity a minimum is the other
pub min_inf : (x : Float) → T (is_finite x) → min_of x (inf false) ≡ x
unfolding min_of lt is_finite
min_inf nan h = absurd h
min_inf (inf s) h = absurd h
min_inf (fin s m e) h = refl

pub inf_min : (x : Float) → T (is_finite x) → min_of (inf false) x ≡ x
unfolding min_of lt is_finite
inf_min nan h = absurd h
inf_min (inf s) h = absurd h
inf_min (fin s m e) h = refl

-- what is no NaN and lies between two bounded floats
smaller : (k : ℕ) (s : Bool) (m : ℕ) (e : ℤ) (t : Bool) (n : ℕ) (d : ℤ) → m * up e * down d ≤ n * up d * down e → AtMost k (fin t n d) → AtMost k (fin s m e)
unfolding is_finite
smaller k s m e t n d l h = record { finite = tt; size = through (m * up e) (n * up d) (2 ^ k) (down e) (down d) (2 ^ 1074) (down_pos d) l h.size }

not_under : (a : ℕ) (t : Bool) (b : ℕ) → below true a t b ≡ false → a ≤ b
not_under a true b h = ltb-false b a h
not_under a false b h = let z : a + b ≤ 0 = ltb-false 0 (a + b) h in omega arith

not_over : (u : Bool) (b a : ℕ) → below u b false a ≡ false → a ≤ b
not_over false b a h = ltb-false b a h
not_over true b a h = let z : b + a ≤ 0 = ltb-false 0 (b + a) h in omega arith

pub inside_most : (k : ℕ) (x lo hi : Float) → T (not (is_nan x)) → lt x lo ≡ false → lt hi x ≡ false → AtMost k lo → AtMost k hi → AtMost k x
unfolding is_nan lt is_finite
inside_most k nan lo hi n p q h i = absurd n
inside_most k (inf s) nan hi n p q h i = absurd h.finite
inside_most k (inf s) (inf t) hi n p q h i = absurd h.finite
inside_most k (inf s) (fin t j d) nan n p q h i = absurd i.finite
inside_most k (inf s) (fin t j d) (inf u) n p q h i = absurd i.finite
inside_most k (inf true) (fin t j d) (fin u l g) n p q h i = absurd (true≢false p)
inside_most k (inf false) (fin t j d) (fin u l g) n p q h i = absurd (true≢false q)
inside_most k (fin s m e) nan hi n p q h i = absurd h.finite
inside_most k (fin s m e) (inf t) hi n p q h i = absurd h.finite
inside_most k (fin s m e) (fin t j d) nan n p q h i = absurd i.finite
inside_most k (fin s m e) (fin t j d) (inf u) n p q h i = absurd i.finite
inside_most k (fin true m e) (fin t j d) (fin u l g) n p q h i = smaller k true m e t j d (not_under (m * up e * down d) t (j * up d * down e) p) h
inside_most k (fin false m e) (fin t j d) (fin u l g) n p q h i = smaller k false m e u l g (not_over u (l * up g * down e) (m * up e * down g) q) i

-- a clamp needs nothing of what it holds but that it is a number
pub clamp_most : (k : ℕ) (x lo hi : Float) → T (not (is_nan x)) → AtMost k lo → AtMost k hi → AtMost k (clamp_of x lo hi)
clamp_most k x lo hi n h i = go (lt x lo) (lt hi x) refl refl
  where
    go : (a b : Bool) → lt x lo ≡ a → lt hi x ≡ b → AtMost k (clamp_of x lo hi)
    go true b p q = subst (AtMost k) (sym (clamp_low x lo hi p)) h
    go false true p q = subst (AtMost k) (sym (clamp_high x lo hi p q)) i
    go false false p q = subst (AtMost k) (sym (clamp_inside x lo hi p q)) (inside_most k x lo hi n p q h i)

untrue : (b : Bool) → (T b → ⊥) → b ≡ false
untrue true h = absurd (h tt)
untrue false h = refl

le_no_nan : (x y : Float) → T (le x y) → T (not (is_nan y))
unfolding le lt eq is_nan
le_no_nan nan nan h = h
le_no_nan (inf s) nan h = h
le_no_nan (fin s m e) nan h = h
le_no_nan x (inf t) h = tt
le_no_nan x (fin t n d) h = tt

-- lo ≤ x ≤ hi
pub between_most : (k : ℕ) (x lo hi : Float) → T (le lo x) → T (le x hi) → AtMost k lo → AtMost k hi → AtMost k x
between_most k x lo hi p q h i =
    inside_most k x lo hi (le_no_nan lo x p) (untrue (lt x lo) (λ l. not_both x lo l p)) (untrue (lt hi x) (λ l. not_both hi x l q)) h i

-- ---- by a test of the size: b is not below |x|
pub size_within : (a c : ℕ) (x b : Float) → T (is_finite x) → lt b (abs_of x) ≡ false → Within a c b → Within a c x
unfolding is_finite lt abs_of
size_within a c nan b f p h = absurd f
size_within a c (inf s) b f p h = absurd f
size_within a c (fin s m e) nan f p h = absurd h.finite
size_within a c (fin s m e) (inf t) f p h = absurd h.finite
size_within a c (fin s m e) (fin t n d) f p h =
    record { finite = tt; size = through (m * up e) (n * up d) a (down e) (down d) c (down_pos d) (not_over t (n * up d * down e) (m * up e * down d) p) h.size }

pub size_most : (k : ℕ) (x b : Float) → T (is_finite x) → lt b (abs_of x) ≡ false → AtMost k b → AtMost k x
size_most k x b f p h = within_most k x (size_within (2 ^ k) (2 ^ 1074) x b f p (most_within k b h))

-- |x| is not below b, whose sign is clear
pub size_least : (k : ℕ) (x b : Float) → T (is_finite x) → T (plus b) → lt (abs_of x) b ≡ false → AtLeast k b → AtLeast k x
unfolding is_finite plus lt abs_of
size_least k nan b f u p h = absurd f
size_least k (inf s) b f u p h = absurd f
size_least k (fin s m e) nan f u p h = absurd u
size_least k (fin s m e) (inf t) f u p h = absurd h.finite
size_least k (fin s m e) (fin true n d) f u p h = absurd u
size_least k (fin s m e) (fin false n d) f u p h =
    record { finite = tt; size = through (2 ^ k) (n * up d) (m * up e) (2 ^ 1074) (down d) (down e) (down_pos d) h.size (ltb-false (m * up e * down d) (n * up d * down e) p) }

-- a larger exponent below: c < |x|
pub most_below_least : (k g : ℕ) (c x : Float) → k < g → AtMost k c → AtLeast g x → lt c (abs_of x) ≡ true
unfolding is_finite lt abs_of
most_below_least k g nan x l h i = absurd h.finite
most_below_least k g (inf s) x l h i = absurd h.finite
most_below_least k g (fin t n d) nan l h i = absurd i.finite
most_below_least k g (fin t n d) (inf s) l h i = absurd i.finite
most_below_least k g (fin t n d) (fin s m e) l h i = at t (less (n * up d) (down d) (m * up e) (down e) (2 ^ 1074) (2 ^ k) (2 ^ g) (pow_pos 1074) (down_pos d) (down_pos e) h.size i.size (pow-lt l))
  where
    less : (p P q Q w X Y : ℕ) → 0 < w → 0 < P → 0 < Q → p * w ≤ X * P → Y * Q ≤ q * w → X < Y → p * Q < q * P
    less p P q Q w X Y W A B h k l =
        let a : p * w * Q ≤ X * P * Q = mul-le-mul_right Q h in
        let b : Y * Q * P ≤ q * w * P = mul-le-mul_right P k in
        let c : X * (P * Q) < Y * (P * Q) = mul-lt-mul_of_pos_right l (mul-pos A B) in
        let z : p * Q * w < q * P * w = omega arith in
        lt_of_mul-lt-mul_right w z

    at : (t : Bool) → n * up d * down e < m * up e * down d → below t (n * up d * down e) false (m * up e * down d) ≡ true
    at false z = lt-ltb (n * up d * down e) (m * up e * down d) z
    at true z = lt-ltb 0 (n * up d * down e + m * up e * down d) (some (n * up d * down e) (m * up e * down d) z)
      where
        some : (a b : ℕ) → a < b → 0 < a + b
        some a b h = omega arith

-- ---- a zero
pub zero_not_below : (c : ℕ) (x : Float) → 0 < c → Within 0 c x → lt x (fin false 0 (pos 0)) ≡ false
unfolding is_finite lt
zero_not_below c nan C h = absurd h.finite
zero_not_below c (inf s) C h = absurd h.finite
zero_not_below c (fin false m e) C h = le-ltb (m * up e * 1) (0 * down e) (at (m * up e) (down e))
  where
    at : (a d : ℕ) → 0 * d ≤ a * 1
    at a d = omega arith
zero_not_below c (fin true m e) C h = le-ltb 0 (m * up e * 1 + 0 * down e) (at (m * up e) (down e) c C h.size)
  where
    at : (a d c : ℕ) → 0 < c → a * c ≤ 0 * d → a * 1 + 0 * d ≤ 0
    at a d c C h = let z : a ≤ a * c = le-mul_of_pos_right a C in omega arith

-- ---- whole numbers
pub whole_within : (n b : ℕ) → n ≤ b → b ≤ 2 ^ 53 → Within b 1 (of_int binary64 (pos n))
unfolding of_int
whole_within n b h l = round_within n 1 b 1 b 1 (lit< tt) (lit< tt) (mul-le-mul_right 1 h) (exact_whole b l) false

pub whole_most : (n k g : ℕ) → n ≤ 2 ^ k → k + 1074 ≤ g → g ≤ 2097 → AtMost g (of_int binary64 (pos n))
unfolding of_int
whole_most n k g h l G =
    within_most g (round binary64 false n 1)
    (round_within n 1 (2 ^ g) (2 ^ 1074) (2 ^ g) (2 ^ 1074) (lit< tt) (pow_pos 1074)
    (le_trans (mul-le-mul_right (2 ^ 1074) h) (le_trans (le_of_eq (sym (pow-add 2 k 1074))) (le_trans (pow_mono l) (le_of_eq (sym (mul-one (2 ^ g)))))))
    (exact_power g G) false)

pub int_most : (z : ℤ) (k g : ℕ) → nat_abs z ≤ 2 ^ k → k + 1074 ≤ g → g ≤ 2097 → AtMost g (of_int binary64 z)
unfolding of_int
int_most (pos n) k g h l G = whole_most n k g h l G
int_most (negsuc n) k g h l G = subst (AtMost g) (round_neg (suc n) 1) (neg_most g (round binary64 false (suc n) 1) (whole_most (suc n) k g h l G))

pub whole_least : (n k : ℕ) → 2 ^ k ≤ n → k ≤ 1023 → T (is_finite (of_int binary64 (pos n))) → AtLeast (k + 1074) (of_int binary64 (pos n))
unfolding of_int
whole_least n k h l f = round_least n 1 (k + 1074) (lit< tt) (omega arith) (le_trans (le_of_eq (mul-one (2 ^ (k + 1074)) ∙ pow-add 2 k 1074)) (mul-le-mul_right (2 ^ 1074) h)) false f

-- ---- running sums and means: b is a whole number, and as many times b as there are terms is at most 2 ^ 53
pub sum_step : (n b : ℕ) (x y : Float) → (n + 1) * b ≤ 2 ^ 53 → Within (n * b) 1 x → Within b 1 y → Within ((n + 1) * b) 1 (add binary64 x y)
sum_step n b x y l h k =
    subst (λ (a : ℕ). Within a 1 (add binary64 x y)) (sym (one n b))
    (add_within (n * b) b 1 x y (lit< tt) (exact_whole (n * b + b) (le_trans (le_of_eq (sym (one n b))) l)) h k)
  where
    one : (n b : ℕ) → (n + 1) * b ≡ n * b + b
    one n b = omega arith

pub sum_skip : (n b : ℕ) (x : Float) → Within (n * b) 1 x → Within ((n + 1) * b) 1 x
sum_skip n b x h = within_weaken (n * b) 1 ((n + 1) * b) 1 x (lit< tt) (more n b) h
  where
    more : (n b : ℕ) → n * b * 1 ≤ (n + 1) * b * 1
    more n b = omega arith

-- the sum of the first n of a list of terms, from zero
pub running : (ℕ → Float) → ℕ → Float
running f zero = fin false 0 (pos 0)
running f (suc n) = add binary64 (running f n) (f n)

pub running_within : (f : ℕ → Float) (b n : ℕ) → n * b ≤ 2 ^ 53 → ((i : ℕ) → i < n → Within b 1 (f i)) → Within (n * b) 1 (running f n)
unfolding running is_finite
running_within f b zero l h = record { finite = tt; size = none b }
  where
    none : (b : ℕ) → 0 * 2 ^ 0 * 1 ≤ 0 * b * 1
    none b = omega arith
running_within f b (suc n) l h =
    subst (λ (a : ℕ). Within a 1 (add binary64 (running f n) (f n))) (again n b)
    (sum_step n b (running f n) (f n) (le_trans (le_of_eq (again n b)) l) (running_within f b n (le_trans (less n b) l) (λ i k. h i (le_trans k (last n)))) (h n (own n)))
  where
    again : (n b : ℕ) → (n + 1) * b ≡ suc n * b
    again n b = omega arith

    less : (n b : ℕ) → n * b ≤ suc n * b
    less n b = omega arith

    last : (n : ℕ) → n ≤ suc n
    last n = omega arith

    own : (n : ℕ) → n < suc n
    own n = omega arith

-- a sum within n * b / c divided by the float of n is within b / c, where that is a value of the format
pub mean_within : (n b c : ℕ) (x : Float) → 0 < n → n ≤ 2 ^ 53 → 0 < c → Exact b c → Within (n * b) c x → Within b c (div binary64 x (of_int binary64 (pos n)))
unfolding of_int
mean_within n b c x N l C v h = at x (round binary64 false n 1) h (exact_whole n l)
  where
    step : (p P q Q a : ℕ) → p * c ≤ n * b * P → q * 1 ≡ n * Q → p * Q * c ≤ b * (q * P)
    step p P q Q a h k =
        let u : p * c * Q ≤ n * b * P * Q = mul-le-mul_right Q h in
        let z : q * 1 * (b * P) ≡ n * Q * (b * P) = ap (λ (i : ℕ). i * (b * P)) k in
        omega arith

    at : (x y : Float) → Within (n * b) c x → HasValue y false n 1 → Within b c (div binary64 x y)
    at nan y h k = absurd (unfold is_finite in h.finite)
    at (inf s) y h k = absurd (unfold is_finite in h.finite)
    at (fin s m e) nan h k = absurd k
    at (fin s m e) (inf t) h k = absurd k
    at (fin s m e) (fin t i j) h k =
        let w : 0 < i * up j = positive (i * up j) (n * down j) (mul-pos N (down_pos j)) k.1 in
        unfold div in
        subst (λ (u : Bool). Within b c (cond u (cond (eqb m 0) nan (inf (unlike s t))) (round binary64 (unlike s t) (m * up e * down j) (i * up j * down e)))) (sym (ne_eqb i 0 (some i (up j) w)))
        (round_within (m * up e * down j) (i * up j * down e) b c b c (mul-pos w (down_pos e)) C (step (m * up e) (down e) (i * up j) (down j) 0 h.size k.1) v (unlike s t))
      where
        positive : (p q : ℕ) → 0 < q → p * 1 ≡ q → 0 < p
        positive p q h e = omega arith

        some : (i u : ℕ) → 0 < i * u → i ≡ 0 → ⊥
        some i u h z = none u (subst (λ (a : ℕ). 0 < a * u) z h)
          where
            none : (u : ℕ) → 0 < 0 * u → ⊥
            none u h = omega arith

-- a maximum is at least its second operand, where that has its sign clear
not_less : (k : ℕ) (x y : Float) → T (is_finite x) → T (plus y) → AtLeast k y → lt x y ≡ false → AtLeast k x
unfolding is_finite plus lt
not_less k nan y f p h e = absurd f
not_less k (inf s) y f p h e = absurd f
not_less k (fin s m i) nan f p h e = absurd p
not_less k (fin s m i) (inf t) f p h e = absurd h.finite
not_less k (fin s m i) (fin true n d) f p h e = absurd p
not_less k (fin false m i) (fin false n d) f p h e =
    record { finite = tt; size = through (2 ^ k) (n * up d) (m * up i) (2 ^ 1074) (down d) (down i) (down_pos d) h.size (ltb-false (m * up i * down d) (n * up d * down i) e) }
not_less k (fin true m i) (fin false n d) f p h e =
    absurd (none (m * up i * down d) (n * up d) (down i) (some_size k n d h.size) (down_pos i) (ltb-false 0 (m * up i * down d + n * up d * down i) e))
  where
    none : (a b c : ℕ) → 0 < b → 0 < c → a + b * c ≤ 0 → ⊥
    none a b c B C h = let z : 0 < b * c = mul-pos B C in omega arith

pub max_least : (k : ℕ) (x y : Float) → T (is_finite x) → T (plus y) → AtLeast k y → AtLeast k (max_of x y)
max_least k x y f p h = go (lt x y) refl
  where
    go : (t : Bool) → lt x y ≡ t → AtLeast k (max_of x y)
    go true e = subst (AtLeast k) (sym (max_second x y e)) h
    go false e = subst (AtLeast k) (sym (max_first x y e)) (not_less k x y f p h e)

-- ---- constants: 0, 1/2, 1, 2, 10 ^ 12, the least normal number, 1e-12
pub f0_most : (k : ℕ) → AtMost k f0
f0_most k = most_weaken 0 k f0 (zero-le) (unfold most_test is_finite of_bits of_fields odd in most_lit 0 f0 tt)

pub f½_most : AtMost (1074 - 1) f½
unfolding most_test is_finite of_bits of_fields odd
f½_most = most_lit (1074 - 1) f½ tt

pub f1_most : AtMost 1074 f1
unfolding most_test is_finite of_bits of_fields odd
f1_most = most_lit 1074 f1 tt

pub f2_most : AtMost (1074 + 1) f2
unfolding most_test is_finite of_bits of_fields odd
f2_most = most_lit (1074 + 1) f2 tt

pub f4_most : AtMost (1074 + 2) f4
unfolding most_test is_finite of_bits of_fields odd
f4_most = most_lit (1074 + 2) f4 tt

pub f2_least : AtLeast (1074 + 1) f2
unfolding least_test is_finite of_bits of_fields odd
f2_least = least_lit (1074 + 1) f2 tt

pub normal_most : AtMost (1074 - 1022) least_normal
unfolding most_test is_finite of_bits of_fields odd
normal_most = most_lit (1074 - 1022) least_normal tt

pub normal_least : AtLeast (1074 - 1022) least_normal
unfolding least_test is_finite of_bits of_fields odd
normal_least = least_lit (1074 - 1022) least_normal tt

-- 1e-12
pub tiny_most : AtMost (1074 - 39) (of_bits binary64 0x3D71_9799_812D_EA11)
unfolding most_test is_finite of_bits of_fields odd
tiny_most = most_lit (1074 - 39) (of_bits binary64 0x3D71_9799_812D_EA11) tt

pub tiny_least : AtLeast (1074 - 40) (of_bits binary64 0x3D71_9799_812D_EA11)
unfolding least_test is_finite of_bits of_fields odd
tiny_least = least_lit (1074 - 40) (of_bits binary64 0x3D71_9799_812D_EA11) tt

-- what refusal 6 leaves: not above 10 ^ 12 in size
limit : Within (10 ^ 12) 1 (of_bits binary64 0x426D_1A94_A200_0000)
unfolding is_finite of_bits of_fields odd
limit = record { finite = tt; size = lit≤ tt }

pub limit_within : (x : Float) → T (is_finite x) → lt (of_bits binary64 0x426D_1A94_A200_0000) (abs_of x) ≡ false → Within (10 ^ 12) 1 x
limit_within x f h = size_within (10 ^ 12) 1 x (of_bits binary64 0x426D_1A94_A200_0000) f h limit

pub limit_most : (x : Float) → Within (10 ^ 12) 1 x → AtMost (1074 + 40) x
limit_most x h = within_most (1074 + 40) x (within_weaken (10 ^ 12) 1 (2 ^ (1074 + 40)) (2 ^ 1074) x (lit< tt) (lit≤ tt) h)

-- ---- tests that a bound decides
pub abs_plus : (x : Float) → T (plus x) → abs_of x ≡ x
unfolding plus abs_of
abs_plus nan p = absurd p
abs_plus (inf true) p = absurd p
abs_plus (inf false) p = refl
abs_plus (fin true m e) p = absurd p
abs_plus (fin false m e) p = refl

pub least_not_below : (k g : ℕ) (c x : Float) → k < g → AtMost k c → AtLeast g x → T (plus x) → lt x c ≡ false
least_not_below k g c x l h i p =
    let b : lt c x ≡ true = subst (λ (v : Float). lt c v ≡ true) (abs_plus x p) (most_below_least k g c x l h i) in
    untrue (lt x c) (λ z. not_both c x (subst T (sym b) tt) (le_of_lt_float x c z))

-- c < |x|
pub size_over : (k : ℕ) (c x : Float) → T (is_finite x) → T (plus c) → lt c (abs_of x) ≡ true → AtLeast k c → AtLeast k x
size_over k c x f p t h = size_least k x c f p (untrue (lt (abs_of x) c) (λ z. not_both c (abs_of x) (subst T (sym t) tt) (le_of_lt_float (abs_of x) c z))) h

-- a size that is no smaller
pub least_larger : (k : ℕ) (x y : Float) → T (is_finite x) → num y * den x ≤ num x * den y → AtLeast k y → AtLeast k x
least_larger k x y f l h = record { finite = f; size = through (2 ^ k) (num y) (num x) (2 ^ 1074) (den y) (den x) (den_pos y) h.size l }

-- a minimum of a bounded float and one that is bounded or plus infinity
pub min_either : (k : ℕ) (x y : Float) → AtMost k x → AtMost k y ⊎ (y ≡ inf false) → AtMost k (min_of x y)
min_either k x y h (inl i) = min_most k x y h i
min_either k x y h (inr e) = subst (λ (v : Float). AtMost k (min_of x v)) (sym e) (subst (AtMost k) (sym (min_inf x h.finite)) h)

pub either_min : (k : ℕ) (x y : Float) → AtMost k x ⊎ (x ≡ inf false) → AtMost k y → AtMost k (min_of x y)
either_min k x y (inl i) h = min_most k x y i h
either_min k x y (inr e) h = subst (λ (v : Float). AtMost k (min_of v y)) (sym e) (subst (AtMost k) (sym (inf_min y h.finite)) h)

-- a finite float is a number
pub most_number : (k : ℕ) (x : Float) → AtMost k x → T (not (is_nan x))
unfolding is_finite is_nan
most_number k nan h = h.finite
most_number k (inf s) h = tt
most_number k (fin s m e) h = tt

-- ---- the two bounds against one another
pub least_most : (k g : ℕ) (x : Float) → k < g → AtMost k x → AtLeast g x → ⊥
least_most k g x l h i = clash (2 ^ k) (2 ^ g) (den x) (den_pos x) (pow-lt l) (le_trans i.size h.size)
  where
    clash : (a b d : ℕ) → 0 < d → a < b → b * d ≤ a * d → ⊥
    clash a b d D l h = let z : a * d < b * d = mul-lt-mul_of_pos_right l D in omega arith

-- c is at least 1 and c * x at most 2 ^ (k - 1074): so is x, but for a factor of 2
pub factor_most : (k : ℕ) (c x : Float) → k ≤ 2096 → T (is_finite x) → AtLeast 1074 c → AtMost k (mul binary64 c x) → AtMost (k + 1) x
factor_most k c x K f C h = go (most_or_least (k + 1) x f)
  where
    go : AtMost (k + 1) x ⊎ AtLeast (k + 1) x → AtMost (k + 1) x
    go (inl i) = i
    go (inr i) = absurd (least_most k (k + 1) (mul binary64 c x) (omega arith) h (mul_least 1074 (k + 1) (k + 1) c x (omega arith) (omega arith) C i h.finite))

pub whole_plus : (n : ℕ) → T (plus (of_int binary64 (pos n)))
unfolding of_int
whole_plus n = plus_round n 1

pub max_within : (a c : ℕ) (x y : Float) → Within a c x → Within a c y → Within a c (max_of x y)
unfolding max_of
max_within a c x y h i = within_cond a c (lt x y) y x i h

pub min_within : (a c : ℕ) (x y : Float) → Within a c x → Within a c y → Within a c (min_of x y)
unfolding min_of
min_within a c x y h i = within_cond a c (lt y x) y x i h

-- whole bounds: 2 ^ k for an exponent of 1074 + k
pub most_whole : (k : ℕ) (x : Float) → AtMost (1074 + k) x → Within (2 ^ k) 1 x
most_whole k x h = within_weaken (2 ^ (1074 + k)) (2 ^ 1074) (2 ^ k) 1 x (pow_pos 1074) (le_of_eq (mul-one (2 ^ (1074 + k)) ∙ pow-add 2 1074 k ∙ mul_comm (2 ^ 1074) (2 ^ k))) (most_within (1074 + k) x h)

pub whole_bound : (a k g : ℕ) (x : Float) → a ≤ 2 ^ k → k + 1074 ≤ g → Within a 1 x → AtMost g x
whole_bound a k g x h l w =
    within_most g x (within_weaken a 1 (2 ^ g) (2 ^ 1074) x (lit< tt)
    (le_trans (mul-le-mul_right (2 ^ 1074) h) (le_trans (le_of_eq (sym (pow-add 2 k 1074))) (le_trans (pow_mono l) (le_of_eq (sym (mul-one (2 ^ g))))))) w)

-- terms of at most 2 ^ d, at most 2 ^ e of them: 4,096 terms of at most 2 ^ 40 give a sum of at most 2 ^ 52
pub running_most : (f : ℕ → Float) (d e n : ℕ) → d + e ≤ 53 → n ≤ 2 ^ e → ((i : ℕ) → i < n → AtMost (1074 + d) (f i)) → AtMost (1074 + (d + e)) (running f n)
running_most f d e n D N h =
    let l : n * 2 ^ d ≤ 2 ^ (d + e) = le_trans (mul-le-mul_right (2 ^ d) N) (le_of_eq (mul_comm (2 ^ e) (2 ^ d) ∙ sym (pow-add 2 d e))) in
    whole_bound (n * 2 ^ d) (d + e) (1074 + (d + e)) (running f n) l (le_of_eq (add_comm (d + e) 1074))
    (running_within f (2 ^ d) n (le_trans l (pow_mono D)) (λ i k. most_whole d (f i) (h i k)))

-- their mean is at most 2 ^ d, as they are
pub mean_most : (f : ℕ → Float) (d e n : ℕ) → d + e ≤ 53 → 0 < n → n ≤ 2 ^ e → ((i : ℕ) → i < n → AtMost (1074 + d) (f i)) → AtMost (1074 + d) (div binary64 (running f n) (of_int binary64 (pos n)))
mean_most f d e n D P N h =
    let l : n * 2 ^ d ≤ 2 ^ (d + e) = le_trans (mul-le-mul_right (2 ^ d) N) (le_of_eq (mul_comm (2 ^ e) (2 ^ d) ∙ sym (pow-add 2 d e))) in
    let i : d ≤ 53 = omega arith in
    let j : e ≤ 53 = omega arith in
    whole_bound (2 ^ d) d (1074 + d) (div binary64 (running f n) (of_int binary64 (pos n))) (le_of_eq refl) (le_of_eq (add_comm d 1074))
    (mean_within n (2 ^ d) 1 (running f n) P (le_trans N (pow_mono j)) (lit< tt) (exact_whole (2 ^ d) (pow_mono i))
    (running_within f (2 ^ d) n (le_trans l (pow_mono D)) (λ a k. most_whole d (f a) (h a k))))
