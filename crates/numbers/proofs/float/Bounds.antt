-- Upper bounds of floats that are not negative: a hypotenuse is at most the sum of its sides' sizes, and a product and a maximum grow with their parts.
-- What is finite in a sum, a product or a maximum, and where its sign is clear. Assumes nothing.
use Rattle.std.proofs.Common.{◌≡◌, ℕ, ◌+◌, ◌*◌, ◌^◌, ◌≤◌, Bool, true, false, cond, not, T, eqb, ℤ, sym, refl, ap, ◌∙◌, subst, true≢false, le_trans, le_of_eq, mul-le-mul, mul-pos, arith, pow_pos, ltb-false}
use native.Mathlib.Nat.{mul-mul-mul_comm}
use lib.Ieee.{Float, nan, inf, fin, up, down, unlike, lt, le, fits, is_nan, add, sum, mul, round, binary64}
use lib.Ieee.Fits.{down_pos}
use lib.Ieee.Order.{le_of_values, round_mono}
use lib.Ieee.Positive.{through}
use lib.Ieee.Scale.{round_same}
use Rattle.numbers.specs.Small.{abs_of, is_finite, max_of}
use Rattle.numbers.specs.Hypot.{grains, nearest_root, hypot_of}
use Rattle.numbers.proofs.float.Keys.{plus, le_of_lt_float, le_self}
use Rattle.numbers.proofs.float.Sums.{plus_round, le_number}
use Rattle.numbers.proofs.float.Whole.{both_finite}
use Rattle.numbers.proofs.float.Hypots.{quarters, quarters_eq, nearest_round, nearest_mono}
use Rattle.numbers.proofs.float.RoundLaws.{value_of}
use Rattle.numbers.proofs.float.Extremes.{max_first, max_second}

-- ---- the order of floats that are not negative
le_sizes : (m : ℕ) (e : ℤ) (n : ℕ) (d : ℤ) → T (le (fin false m e) (fin false n d)) → m * up e * down d ≤ n * up d * down e
unfolding le
le_sizes m e n d h = le_number (m * up e * down d) (n * up d * down e) h

sizes_le : (m : ℕ) (e : ℤ) (n : ℕ) (d : ℤ) → m * up e * down d ≤ n * up d * down e → T (le (fin false m e) (fin false n d))
sizes_le m e n d h = le_of_values (fin false m e) (fin false n d) (m * up e) (down e) (n * up d) (down d) (down_pos e) (down_pos d) (refl, refl) (refl, refl) h

pub plus_le_inf : (x : Float) → T (plus x) → T (le x (inf false))
unfolding plus le
plus_le_inf nan p = absurd p
plus_le_inf (inf true) p = absurd p
plus_le_inf (inf false) p = tt
plus_le_inf (fin s m e) p = tt

pub le_through : (x y z : Float) → T (plus x) → T (plus y) → T (plus z) → T (le x y) → T (le y z) → T (le x z)
unfolding plus le
le_through x y nan p q r h k = absurd r
le_through x y (inf true) p q r h k = absurd r
le_through x y (inf false) p q r h k = plus_le_inf x p
le_through x y (fin true i g) p q r h k = absurd r
le_through x nan (fin false i g) p q r h k = absurd q
le_through x (inf true) (fin false i g) p q r h k = absurd q
le_through x (inf false) (fin false i g) p q r h k = absurd k
le_through x (fin true n d) (fin false i g) p q r h k = absurd q
le_through nan (fin false n d) (fin false i g) p q r h k = absurd p
le_through (inf true) (fin false n d) (fin false i g) p q r h k = absurd p
le_through (inf false) (fin false n d) (fin false i g) p q r h k = absurd h
le_through (fin true m e) (fin false n d) (fin false i g) p q r h k = absurd p
le_through (fin false m e) (fin false n d) (fin false i g) p q r h k =
    sizes_le m e i g (through (m * up e) (n * up d) (i * up g) (down e) (down d) (down g) (down_pos d) (le_sizes m e n d h) (le_sizes n d i g k))

pub le_of_not_lt : (x y : Float) → T (plus x) → T (plus y) → lt x y ≡ false → T (le y x)
unfolding plus lt
le_of_not_lt nan y p q h = absurd p
le_of_not_lt (inf true) y p q h = absurd p
le_of_not_lt (inf false) y p q h = plus_le_inf y q
le_of_not_lt (fin true m e) y p q h = absurd p
le_of_not_lt (fin false m e) nan p q h = absurd q
le_of_not_lt (fin false m e) (inf true) p q h = absurd q
le_of_not_lt (fin false m e) (inf false) p q h = absurd (true≢false h)
le_of_not_lt (fin false m e) (fin true n d) p q h = absurd q
le_of_not_lt (fin false m e) (fin false n d) p q h = sizes_le n d m e (ltb-false (m * up e * down d) (n * up d * down e) h)

pub plus_number : (x : Float) → T (plus x) → T (not (is_nan x))
unfolding plus is_nan
plus_number nan p = absurd p
plus_number (inf s) p = tt
plus_number (fin s m e) p = tt

-- ---- the maximum grows with its first operand
pub max_mono : (a a' b : Float) → T (plus a) → T (plus a') → T (plus b) → T (le a a') → T (le (max_of a b) (max_of a' b))
max_mono a a' b p p' q h = go (lt a b) (lt a' b) refl refl
  where
    go : (t t' : Bool) → lt a b ≡ t → lt a' b ≡ t' → T (le (max_of a b) (max_of a' b))
    go true true e e' = rw (max_second a b e, max_second a' b e') (le_self b (plus_number b q))
    go true false e e' = rw (max_second a b e, max_first a' b e') (le_of_not_lt a' b p' q e')
    go false true e e' = rw (max_first a b e, max_second a' b e') (le_through a a' b p p' q h (le_of_lt_float a' b (subst T (sym e') tt)))
    go false false e e' = rw (max_first a b e, max_first a' b e') h

-- ---- the product grows with both factors
mul_sizes : (m : ℕ) (e : ℤ) (m' : ℕ) (e' : ℤ) (n : ℕ) (d : ℤ) (n' : ℕ) (d' : ℤ) → T (le (fin false m e) (fin false m' e')) → T (le (fin false n d) (fin false n' d'))
    → T (le (mul binary64 (fin false m e) (fin false n d)) (mul binary64 (fin false m' e') (fin false n' d')))
unfolding mul
mul_sizes m e m' e' n d n' d' h k =
    round_mono binary64 (m * up e * (n * up d)) (down e * down d) (m' * up e' * (n' * up d')) (down e' * down d') (mul-pos (down_pos e) (down_pos d)) (mul-pos (down_pos e') (down_pos d'))
    (le_trans (le_of_eq (mul-mul-mul_comm (m * up e) (n * up d) (down e') (down d')))
    (le_trans (mul-le-mul (le_sizes m e m' e' h) (le_sizes n d n' d' k)) (le_of_eq (mul-mul-mul_comm (m' * up e') (down e) (n' * up d') (down d)))))

-- finite, with the sign clear
abbrev pub Size : Float → Type 0
Size x = T (is_finite x) × T (plus x)

pub mul_mono : (x x' z z' : Float) → Size x → Size x' → Size z → Size z' → T (le x x') → T (le z z') → T (le (mul binary64 x z) (mul binary64 x' z'))
unfolding is_finite plus
mul_mono nan x' z z' a b c d h k = absurd a.0
mul_mono (inf s) x' z z' a b c d h k = absurd a.0
mul_mono (fin true m e) x' z z' a b c d h k = absurd a.1
mul_mono (fin false m e) nan z z' a b c d h k = absurd b.0
mul_mono (fin false m e) (inf s) z z' a b c d h k = absurd b.0
mul_mono (fin false m e) (fin true m' e') z z' a b c d h k = absurd b.1
mul_mono (fin false m e) (fin false m' e') nan z' a b c d h k = absurd c.0
mul_mono (fin false m e) (fin false m' e') (inf s) z' a b c d h k = absurd c.0
mul_mono (fin false m e) (fin false m' e') (fin true n g) z' a b c d h k = absurd c.1
mul_mono (fin false m e) (fin false m' e') (fin false n g) nan a b c d h k = absurd d.0
mul_mono (fin false m e) (fin false m' e') (fin false n g) (inf s) a b c d h k = absurd d.0
mul_mono (fin false m e) (fin false m' e') (fin false n g) (fin true n' g') a b c d h k = absurd d.1
mul_mono (fin false m e) (fin false m' e') (fin false n g) (fin false n' g') a b c d h k = mul_sizes m e m' e' n g n' g' h k

-- ---- a hypotenuse is at most the sum of its sides: the root of a² + b² is at most a + b, and both are rounded the same way
pub hypot_plus : (x y : Float) → T (is_finite x) → T (is_finite y) → T (plus (hypot_of x y))
hypot_plus x y h k =
    let n = grains x * grains x + grains y * grains y in
    subst (λ (v : Float). T (plus v)) (sym (nearest_round n) ∙ both_finite x y h k) (plus_round (quarters n) (2 ^ 1076))

-- the square's root is the rounded sum. p / d and q / g are a and b grains, w is 2 ^ 1074
crosswise : (p q d g w a b : ℕ) → p * w ≡ a * d → q * w ≡ b * g → 2 * (2 * (a + b)) * (d * g) ≡ (p * g + q * d) * (4 * w)
crosswise p q d g w a b h k =
    let x : p * w * g ≡ a * d * g = ap (λ (z : ℕ). z * g) h in
    let y : q * w * d ≡ b * g * d = ap (λ (z : ℕ). z * d) k in
    omega arith

root_sum : (x y : Float) → T (fits binary64 x) → T (fits binary64 y) → T (is_finite x) → T (is_finite y) → nearest_root ((grains x + grains y) * (grains x + grains y)) ≡ add binary64 (abs_of x) (abs_of y)
unfolding is_finite abs_of add sum
root_sum nan y f g h k = absurd h
root_sum (inf s) y f g h k = absurd h
root_sum (fin s m e) nan f g h k = absurd k
root_sum (fin s m e) (inf t) f g h k = absurd k
root_sum (fin s m e) (fin t n d) f g h k =
    let a = grains (fin s m e) in
    let b = grains (fin t n d) in
    nearest_round ((a + b) * (a + b))
    ∙ ap (λ (z : ℕ). round binary64 false z (2 ^ 1076)) (quarters_eq ((a + b) * (a + b)) (2 * (a + b)) (four (a + b)))
    ∙ round_same binary64 false (2 * (2 * (a + b))) (2 ^ 1076) (m * up e * down d + n * up d * down e) (down e * down d) (pow_pos 1076) (mul-pos (down_pos e) (down_pos d))
    (crosswise (m * up e) (n * up d) (down e) (down d) (2 ^ 1074) a b (value_of (fin s m e) f tt).3.1 (value_of (fin t n d) g tt).3.1)
  where
    four : (c : ℕ) → 4 * (c * c) ≡ 2 * c * (2 * c)
    four c = omega arith

pub hypot_under : (x y : Float) → T (fits binary64 x) → T (fits binary64 y) → T (is_finite x) → T (is_finite y) → T (le (hypot_of x y) (add binary64 (abs_of x) (abs_of y)))
hypot_under x y f g h k =
    let a = grains x in
    let b = grains y in
    subst (λ (v : Float). T (le v (add binary64 (abs_of x) (abs_of y)))) (both_finite x y h k)
    (subst (λ (v : Float). T (le (nearest_root (a * a + b * b)) v)) (root_sum x y f g h k)
    (nearest_mono (a * a + b * b) ((a + b) * (a + b)) (squares a b)))
  where
    squares : (a b : ℕ) → a * a + b * b ≤ (a + b) * (a + b)
    squares a b = omega arith

-- ---- a NaN, or a number with the sign clear: so are a size, and a sum, a product and a maximum of such
unfoldable pub unsigned : Float → Bool
unsigned nan = true
unsigned (inf s) = not s
unsigned (fin s m e) = not s

pub plus_unsigned : (x : Float) → T (plus x) → T (unsigned x)
unfolding plus unsigned
plus_unsigned nan p = tt
plus_unsigned (inf s) p = p
plus_unsigned (fin s m e) p = p

pub abs_unsigned : (x : Float) → T (unsigned (abs_of x))
unfolding unsigned abs_of
abs_unsigned nan = tt
abs_unsigned (inf s) = tt
abs_unsigned (fin s m e) = tt

pub add_unsigned : (x y : Float) → T (unsigned x) → T (unsigned y) → T (unsigned (add binary64 x y))
unfolding unsigned add sum
add_unsigned nan y p q = tt
add_unsigned (inf true) y p q = absurd p
add_unsigned (inf false) nan p q = tt
add_unsigned (inf false) (inf true) p q = absurd q
add_unsigned (inf false) (inf false) p q = tt
add_unsigned (inf false) (fin t n d) p q = tt
add_unsigned (fin true m e) y p q = absurd p
add_unsigned (fin false m e) nan p q = tt
add_unsigned (fin false m e) (inf t) p q = q
add_unsigned (fin false m e) (fin true n d) p q = absurd q
add_unsigned (fin false m e) (fin false n d) p q =
    let a = m * up e * down d + n * up d * down e in
    plus_unsigned (round binary64 false a (down e * down d)) (plus_round a (down e * down d))

no_sign : (b : Bool) → T (unsigned (cond b nan (inf false)))
unfolding unsigned
no_sign true = tt
no_sign false = tt

pub mul_unsigned : (x y : Float) → T (unsigned x) → T (unsigned y) → T (unsigned (mul binary64 x y))
unfolding unsigned mul
mul_unsigned nan y p q = tt
mul_unsigned (inf true) y p q = absurd p
mul_unsigned (inf false) nan p q = tt
mul_unsigned (inf false) (inf true) p q = absurd q
mul_unsigned (inf false) (inf false) p q = tt
mul_unsigned (inf false) (fin true n d) p q = absurd q
mul_unsigned (inf false) (fin false n d) p q = no_sign (eqb n 0)
mul_unsigned (fin true m e) y p q = absurd p
mul_unsigned (fin false m e) nan p q = tt
mul_unsigned (fin false m e) (inf true) p q = absurd q
mul_unsigned (fin false m e) (inf false) p q = no_sign (eqb m 0)
mul_unsigned (fin false m e) (fin true n d) p q = absurd q
mul_unsigned (fin false m e) (fin false n d) p q =
    let a = m * up e * (n * up d) in
    plus_unsigned (round binary64 false a (down e * down d)) (plus_round a (down e * down d))

pub max_unsigned : (a b : Float) → T (unsigned a) → T (unsigned b) → T (unsigned (max_of a b))
unfolding max_of
max_unsigned a b p q = go (lt a b)
  where
    go : (t : Bool) → T (unsigned (cond t b a))
    go true = q
    go false = p

-- ---- what is finite has finite parts
pub abs_finite : (x : Float) → T (is_finite (abs_of x)) → T (is_finite x)
unfolding is_finite abs_of
abs_finite nan h = h
abs_finite (inf s) h = h
abs_finite (fin s m e) h = tt

not_finite : (b s : Bool) → T (is_finite (cond b nan (inf s))) → ⊥
unfolding is_finite
not_finite true s h = h
not_finite false s h = h

pub add_finite : (x y : Float) → T (is_finite (add binary64 x y)) → T (is_finite x) × T (is_finite y)
unfolding is_finite add
add_finite nan y h = absurd h
add_finite (inf s) nan h = absurd h
add_finite (inf true) (inf true) h = absurd h
add_finite (inf true) (inf false) h = absurd h
add_finite (inf false) (inf true) h = absurd h
add_finite (inf false) (inf false) h = absurd h
add_finite (inf s) (fin t n d) h = absurd h
add_finite (fin s m e) nan h = absurd h
add_finite (fin s m e) (inf t) h = absurd h
add_finite (fin s m e) (fin t n d) h = (tt, tt)

pub mul_finite : (x y : Float) → T (is_finite (mul binary64 x y)) → T (is_finite x) × T (is_finite y)
unfolding is_finite mul
mul_finite nan y h = absurd h
mul_finite (inf s) nan h = absurd h
mul_finite (inf s) (inf t) h = absurd h
mul_finite (inf s) (fin t n d) h = absurd (not_finite (eqb n 0) (unlike s t) h)
mul_finite (fin s m e) nan h = absurd h
mul_finite (fin s m e) (inf t) h = absurd (not_finite (eqb m 0) (unlike s t) h)
mul_finite (fin s m e) (fin t n d) h = (tt, tt)

-- what is below a number is finite, where its sign is clear
below_finite : (a b : Float) → T (unsigned a) → lt a b ≡ true → T (is_finite a)
unfolding unsigned lt is_finite
below_finite nan b p h = absurd (true≢false (sym h))
below_finite (inf true) b p h = absurd p
below_finite (inf false) nan p h = absurd (true≢false (sym h))
below_finite (inf false) (inf t) p h = absurd (true≢false (sym h))
below_finite (inf false) (fin t n d) p h = absurd (true≢false (sym h))
below_finite (fin s m e) b p h = tt

pub max_finite : (a b : Float) → T (unsigned a) → T (is_finite (max_of a b)) → T (is_finite a)
max_finite a b p h = go (lt a b) refl
  where
    go : (t : Bool) → lt a b ≡ t → T (is_finite a)
    go true e = below_finite a b p e
    go false e = subst (λ (v : Float). T (is_finite v)) (max_first a b e) h

-- what is at most something finite is finite, where its sign is clear
pub le_finite : (x y : Float) → T (unsigned x) → T (is_finite y) → T (le x y) → T (is_finite x)
unfolding unsigned is_finite le
le_finite nan y p q h = h
le_finite (inf true) y p q h = p
le_finite (inf false) nan p q h = q
le_finite (inf false) (inf t) p q h = q
le_finite (inf false) (fin t n d) p q h = h
le_finite (fin s m e) y p q h = tt

pub size_of : (x : Float) → T (unsigned x) → T (is_finite x) → Size x
unfolding unsigned is_finite plus
size_of nan p h = absurd h
size_of (inf s) p h = absurd h
size_of (fin s m e) p h = (tt, p)
