-- floor by the tests that the code makes. Assumes nothing.
use Rattle.std.proofs.Common.{◌≡◌, ℕ, zero, suc, ◌+◌, ◌-◌, ◌*◌, ◌/◌, ◌%◌, ◌^◌, ◌<◌, ◌≤◌, Bool, true, false, cond, ◌&&◌, ◌||◌, T, eqb, ltb, leb, ℤ, pos, negsuc, ◌-ℤ◌, neg_ℤ, sym, refl, ap, ◌∙◌, subst, true≢false, le_trans, le_of_eq, lt_of_lt_of_le, add-zero, le_of_lt, mod-lt, mul_assoc, div-lt_iff_lt-mul, lt_of_mul-lt-mul_right, mul-lt-mul_of_pos_right, mul-pos, div-add-mod', zero-mul, mul-one, le_of_mul-le-mul_right, div-one, arith, lit<, lit≤, le→leb, eqb→eq, ltb→lt, lt→ltb, pow_pos, pow_mono, pow-add, w64, SFits, to_z, of_z, ltb-false, ltb-true, eqb-true}
use native.Mathlib.Nat.{div-eq_of_lt-le, min-eq_left}
use lib.IntN.{+ℤ_idl}
use mir.ValLaws.{to_z_pos, to_z-of_z}
use lib.Ieee.{Float, nan, inf, fin, up, down, lt, le, neg, is_nan, fits, odd, units, round, of_int, in_float, to_unsigned, of_fields, of_bits, binary64}
use lib.Ieee.Fits.{and_l, and_r, down_pos, up_pos, round-fits, round_is}
use lib.Ieee.Exact.{HasValue, round_exact}
use lib.Ieee.Back.{round_whole, whole_unique}
use borrow.Author.Tests.{eqb-false}
use Rattle.numbers.specs.Floor.{size_down, size_up, floor_of, floor_int}
use Rattle.numbers.proofs.float.Signs.{zero_bits, plain, odd_neg, no_magnitude}

-- ---- 0 < x < 2 ^ 52
Inside : Float → Type 0
Inside nan = ⊥
Inside (inf s) = ⊥
Inside (fin true m e) = ⊥
Inside (fin false m e) = (0 < m * up e) × (m * up e < 2 ^ 52 * down e)

inside : (x : Float) → T (lt (fin false 0 (pos 0)) x) → T (lt x (fin false 1 (pos 52))) → Inside x
unfolding lt Inside
inside nan h k = h
inside (inf true) h k = h
inside (inf false) h k = k
inside (fin true m e) h k = h
inside (fin false m e) h k = (more (0 * down e) (m * up e) (zero-mul (down e)) (ltb→lt (0 * down e) (m * up e * 1) h), less (m * up e) (2 ^ 52 * down e) (ltb→lt (m * up e * 1) (2 ^ 52 * down e) k))
  where
    more : (z a : ℕ) → z ≡ 0 → z < a * 1 → 0 < a
    more z a e h = omega arith

    less : (a b : ℕ) → a * 1 < b → a < b
    less a b h = omega arith

trunc_at : (x : Float) → Inside x → T (lt (fin true 1 (pos 0)) x) × T (lt x (fin false 1 (pos 64)))
unfolding lt Inside
trunc_at nan i = absurd i
trunc_at (inf s) i = absurd i
trunc_at (fin true m e) i = absurd i
trunc_at (fin false m e) i =
    (lt→ltb 0 (1 * down e + m * up e * 1) (more (down e) (m * up e) (down_pos e)), lt→ltb (m * up e * 1) (2 ^ 64 * down e) (less (m * up e) (down e) i.1))
  where
    more : (d a : ℕ) → 0 < d → 0 < 1 * d + a * 1
    more d a h = omega arith

    less : (a d : ℕ) → a < 2 ^ 52 * d → a * 1 < 2 ^ 64 * d
    less a d h = omega arith

pub trunc_low : (x : Float) → T (lt (fin false 0 (pos 0)) x) → T (lt x (fin false 1 (pos 52))) → T (lt (fin true 1 (pos 0)) x) × T (lt x (fin false 1 (pos 64)))
trunc_low x h k = trunc_at x (inside x h k)

-- the whole part is below 2 ^ 52
whole_lt : (x : Float) → Inside x → size_down x < 2 ^ 52
unfolding size_down Inside
whole_lt nan i = absurd i
whole_lt (inf s) i = absurd i
whole_lt (fin true m e) i = absurd i
whole_lt (fin false m e) i = (div-lt_iff_lt-mul {k = down e} {x = m * up e} {y = 2 ^ 52} (down_pos e)).1 i.1

unsigned_is : (x : Float) → Inside x → to_unsigned 64 x ≡ size_down x
unfolding size_down to_unsigned Inside
unsigned_is nan i = absurd i
unsigned_is (inf s) i = absurd i
unsigned_is (fin true m e) i = absurd i
unsigned_is (fin false m e) i =
    min-eq_left (le_trans (le_of_lt ((div-lt_iff_lt-mul {k = down e} {x = m * up e} {y = 2 ^ 52} (down_pos e)).1 i.1)) (lit≤ tt))

pub size_down_is : (x : Float) (n : ℕ) → T (lt (fin false 0 (pos 0)) x) → T (lt x (fin false 1 (pos 52))) → n ≡ to_unsigned 64 x → (n ≡ size_down x) × (n ≤ 2 ^ 52)
size_down_is x n h k e =
    let z : n ≡ size_down x = e ∙ unsigned_is x (inside x h k) in
    (z, subst (λ (a : ℕ). a ≤ 2 ^ 52) (sym z) (le_of_lt (whole_lt x (inside x h k))))

-- ---- the size rounded up, by a comparison with the whole part as a float
pub in_float_lem : (n : ℕ) → n ≤ 2 ^ 52 → T (in_float binary64 (pos n))
unfolding in_float
in_float_lem n h = le→leb n (2 ^ 53) (le_trans h (lit≤ tt))

int_value : (n : ℕ) → n ≤ 2 ^ 52 → HasValue (of_int binary64 (pos n)) false n 1
unfolding of_int
int_value n h = round_whole binary64 false n (le_trans h (lit≤ tt))

-- v is n, compared with m * up e / down e
cross_true : (v : Float) (n m : ℕ) (e : ℤ) → HasValue v false n 1 → lt v (fin false m e) ≡ true → n * down e < m * up e
unfolding lt
cross_true nan n m e h k = absurd h
cross_true (inf s) n m e h k = absurd h
cross_true (fin true a g) n m e h k = absurd (true≢false h.0)
cross_true (fin false a g) n m e h k = lt_of_mul-lt-mul_right (down g) (turn (a * up g) n (down g) (down e) (m * up e) h.1 (ltb-true _ _ k))
  where
    turn : (K n G D M : ℕ) → K * 1 ≡ n * G → K * D < M * G → n * D * G < M * G
    turn K n G D M p q = let z : K * 1 * D ≡ n * G * D = ap (λ (a : ℕ). a * D) p in omega arith

cross_false : (v : Float) (n m : ℕ) (e : ℤ) → HasValue v false n 1 → lt v (fin false m e) ≡ false → m * up e ≤ n * down e
unfolding lt
cross_false nan n m e h k = absurd h
cross_false (inf s) n m e h k = absurd h
cross_false (fin true a g) n m e h k = absurd (true≢false h.0)
cross_false (fin false a g) n m e h k = le_of_mul-le-mul_right (turn (a * up g) n (down g) (down e) (m * up e) h.1 (ltb-false _ _ k)) (down_pos g)
  where
    turn : (K n G D M : ℕ) → K * 1 ≡ n * G → M * G ≤ K * D → M * G ≤ n * D * G
    turn K n G D M p q = let z : K * 1 * D ≡ n * G * D = ap (λ (a : ℕ). a * D) p in omega arith

-- a / d rounded up is one more than rounded down where something is left, else the same
up_more : (a d : ℕ) → 0 < d → a / d * d < a → (a + (d - 1)) / d ≡ a / d + 1
up_more a d p h = div-eq_of_lt-le d (low (a / d) h) (high (a / d) (a % d) (div-add-mod' a d) (mod-lt a p))
  where
    low : (w : ℕ) → w * d < a → (w + 1) * d ≤ a + (d - 1)
    low w l = omega arith

    high : (w r : ℕ) → w * d + r ≡ a → r < d → a + (d - 1) < (w + 1 + 1) * d
    high w r e l = omega arith

up_same : (a d : ℕ) → 0 < d → a ≤ a / d * d → (a + (d - 1)) / d ≡ a / d
up_same a d p h = div-eq_of_lt-le d (low (a / d) (a % d) (div-add-mod' a d)) (high (a / d) h)
  where
    low : (w r : ℕ) → w * d + r ≡ a → w * d ≤ a + (d - 1)
    low w r e = omega arith

    high : (w : ℕ) → a ≤ w * d → a + (d - 1) < (w + 1) * d
    high w h = omega arith

up_at : (x : Float) (n : ℕ) → Inside x → n ≡ size_down x → n ≤ 2 ^ 52 → lt (of_int binary64 (pos n)) x ≡ true → n + 1 ≡ size_up x
unfolding size_down size_up Inside
up_at nan n i e l h = absurd i
up_at (inf s) n i e l h = absurd i
up_at (fin true m g) n i e l h = absurd i
up_at (fin false m g) n i e l h =
    let q : n * down g < m * up g = cross_true (of_int binary64 (pos n)) n m g (int_value n l) h in
    ap (λ (a : ℕ). a + 1) e ∙ sym (up_more (m * up g) (down g) (down_pos g) (subst (λ (a : ℕ). a * down g < m * up g) e q))

same_at : (x : Float) (n : ℕ) → Inside x → n ≡ size_down x → n ≤ 2 ^ 52 → lt (of_int binary64 (pos n)) x ≡ false → n ≡ size_up x
unfolding size_down size_up Inside
same_at nan n i e l h = absurd i
same_at (inf s) n i e l h = absurd i
same_at (fin true m g) n i e l h = absurd i
same_at (fin false m g) n i e l h =
    let q : m * up g ≤ n * down g = cross_false (of_int binary64 (pos n)) n m g (int_value n l) h in
    e ∙ sym (up_same (m * up g) (down g) (down_pos g) (subst (λ (a : ℕ). m * up g ≤ a * down g) e q))

pub size_up_more : (x : Float) (n : ℕ) → T (lt (fin false 0 (pos 0)) x) → T (lt x (fin false 1 (pos 52))) → (n ≡ size_down x) × (n ≤ 2 ^ 52) → lt (of_int binary64 (pos n)) x ≡ true → (n + 1 ≡ size_up x) × (n + 1 ≤ 2 ^ 52)
size_up_more x n h k z t =
    let w : size_down x < 2 ^ 52 = whole_lt x (inside x h k) in
    (up_at x n (inside x h k) z.0 z.1 t, next n (subst (λ (a : ℕ). a < 2 ^ 52) (sym z.0) w))
  where
    next : (n : ℕ) → n < 2 ^ 52 → n + 1 ≤ 2 ^ 52
    next n h = omega arith

pub size_up_same : (x : Float) (n : ℕ) → T (lt (fin false 0 (pos 0)) x) → T (lt x (fin false 1 (pos 52))) → (n ≡ size_down x) × (n ≤ 2 ^ 52) → lt (of_int binary64 (pos n)) x ≡ false → (n ≡ size_up x) × (n ≤ 2 ^ 52)
size_up_same x n h k z t = (same_at x n (inside x h k) z.0 z.1 t, z.1)

-- ---- from 2 ^ 52 on every float is whole
two_52 : of_bits binary64 0x4330_0000_0000_0000 ≡ fin false 1 (pos 52)
unfolding of_bits of_fields odd
two_52 = refl

fits_small : (s : Bool) (m : ℕ) (e : ℤ) → T (fits binary64 (fin s m e)) → m < 2 ^ 53
unfolding fits
fits_small s zero e h = pow_pos 53
fits_small s (suc m) e h =
    let A = eqb (suc m % 2) 1 in
    let B = ltb (suc m) (2 ^ 53) in
    let C = leb (down e) (2 ^ 1074) in
    ltb→lt (suc m) (2 ^ 53) (and_r A B (and_l (A && B) C (and_l (A && B && C) (ltb (suc m * up e) (2 ^ 1024 * down e)) h)))

fits_under : (s : Bool) (m : ℕ) (e : ℤ) → T (fits binary64 (fin s m e)) → m * up e < 2 ^ 1024 * down e
unfolding fits
fits_under s zero e h = subst (λ (a : ℕ). a < 2 ^ 1024 * down e) (sym (zero-mul (up e))) (mul-pos (pow_pos 1024) (down_pos e))
fits_under s (suc m) e h =
    ltb→lt (suc m * up e) (2 ^ 1024 * down e)
    (and_r (eqb (suc m % 2) 1 && ltb (suc m) (2 ^ 53) && leb (down e) (2 ^ 1074)) (ltb (suc m * up e) (2 ^ 1024 * down e)) h)

-- a whole number that the format holds is not changed by `round`
round_back : (s : Bool) (m k : ℕ) → T (fits binary64 (fin s m (pos k))) → fin s m (pos k) ≡ round binary64 s (m * 2 ^ k) 1
round_back s m k h =
    whole_unique binary64 (fin s m (pos k)) (round binary64 s (m * 2 ^ k) 1) s (m * 2 ^ k) h (round-fits binary64 s (m * 2 ^ k) 1)
    (refl, refl)
    (round_exact binary64 s (m * 2 ^ k) 1 m (k + 1074) (lit< tt) (fits_small s m (pos k) h)
    (subst (λ (a : ℕ). a < 2 ^ 2098) (shape m k) (lt_of_lt_of_le (mul-lt-mul_of_pos_right (fits_under s m (pos k) h) (pow_pos 1074)) (lit≤ tt)))
    (shape m k ∙ sym (mul-one (m * 2 ^ (k + 1074)))))
  where
    shape : (m k : ℕ) → m * 2 ^ k * 2 ^ 1074 ≡ m * 2 ^ (k + 1074)
    shape m k = mul_assoc m (2 ^ k) (2 ^ 1074) ∙ ap (λ (a : ℕ). m * a) (sym (pow-add 2 k 1074))

-- from 2 ^ 52 on a number of the format is whole
pub big_whole : (s : Bool) (m : ℕ) (e : ℤ) → T (fits binary64 (fin s m e)) → 2 ^ 52 * down e ≤ m * up e → down e ≡ 1
big_whole s m (pos k) f h = refl
big_whole s m (negsuc k) f h = absurd (never m (2 ^ suc k) (fits_small s m (negsuc k) f) (pow_mono (lit-one k)) h)
  where
    lit-one : (k : ℕ) → 1 ≤ suc k
    lit-one k = omega arith

    never : (m p : ℕ) → m < 2 ^ 53 → 2 ≤ p → 2 ^ 52 * p ≤ m * 1 → ⊥
    never m p a b c = omega arith

pub big_floor : (s : Bool) (m : ℕ) (e : ℤ) → T (fits binary64 (fin s m e)) → 2 ^ 52 * down e ≤ m * up e → fin s m e ≡ floor_of (fin s m e)
unfolding floor_of
big_floor false m (pos k) f h = round_back false m k f ∙ ap (λ (a : ℕ). round binary64 false a 1) (sym (div-one (m * 2 ^ k)))
big_floor true m (pos k) f h = round_back true m k f ∙ ap (λ (a : ℕ). round binary64 true a 1) (sym (div-one (m * 2 ^ k + 0) ∙ add-zero (m * 2 ^ k)))
big_floor s m (negsuc k) f h = absurd (never (2 ^ suc k) (pow_mono (lit-one k)) (big_whole s m (negsuc k) f h))
  where
    lit-one : (k : ℕ) → 1 ≤ suc k
    lit-one k = omega arith

    never : (p : ℕ) → 2 ≤ p → p ≡ 1 → ⊥
    never p a b = omega arith

-- ---- what the tests of the code say
or_true : (a b : ℕ) → (ltb a b || (eqb a b && true)) ≡ true → a ≤ b
or_true a b h = go (ltb a b) (eqb a b) (λ k. le_of_lt (ltb-true a b k)) (λ k. le_of_eq (eqb-true a b k)) h
  where
    go : (p q : Bool) → (p ≡ true → a ≤ b) → (q ≡ true → a ≤ b) → (p || (q && true)) ≡ true → a ≤ b
    go true q f g h = f refl
    go false true f g h = g refl
    go false false f g h = absurd (true≢false (sym h))

or_false : (a b : ℕ) → (ltb a b || (eqb a b && true)) ≡ false → b < a
or_false a b h = go (ltb a b) (eqb a b) (ltb-false a b) (eqb-false a b) h
  where
    less : b ≤ a → (a ≡ b → ⊥) → b < a
    less p q = omega arith

    go : (p q : Bool) → (p ≡ false → b ≤ a) → (q ≡ false → a ≡ b → ⊥) → (p || (q && true)) ≡ false → b < a
    go true q f g h = absurd (true≢false h)
    go false true f g h = absurd (true≢false h)
    go false false f g h = less (f refl) (g refl)

-- no zero is 2 ^ 52
and_zero : (a b : ℕ) → (eqb a b && eqb a 0) ≡ true → (a ≡ b) × (a ≡ 0)
and_zero a b h =
    let t : T (eqb a b && eqb a 0) = subst T (sym h) tt in
    (eqb→eq a b (and_l (eqb a b) (eqb a 0) t), eqb→eq a 0 (and_r (eqb a b) (eqb a 0) t))

not_zero : (d : ℕ) → 0 < d → 2 ^ 52 * d ≡ 0 → ⊥
not_zero d p h = omega arith

at_least : (x : Float) → T (fits binary64 x) → le (fin false 1 (pos 52)) x ≡ true → x ≡ floor_of x
unfolding le floor_of
at_least nan f h = refl
at_least (inf s) f h = refl
at_least (fin false m e) f h = big_floor false m e f (flat (or_true (2 ^ 52 * down e) (m * up e * 1) h))
  where
    flat : 2 ^ 52 * down e ≤ m * up e * 1 → 2 ^ 52 * down e ≤ m * up e
    flat h = omega arith
at_least (fin true m e) f h = absurd (not_zero (down e) (down_pos e) (and_zero (2 ^ 52 * down e) (m * up e * 1) h).1)

at_most : (x : Float) → T (fits binary64 x) → le x (fin true 1 (pos 52)) ≡ true → x ≡ floor_of x
unfolding le floor_of
at_most nan f h = refl
at_most (inf s) f h = refl
at_most (fin true m e) f h = big_floor true m e f (flat (m * up e) (2 ^ 52 * down e) (swap (m * up e * 1) (2 ^ 52 * down e) h))
  where
    flat : (a b : ℕ) → b ≤ a * 1 → b ≤ a
    flat a b h = omega arith

    swap : (a b : ℕ) → (ltb b a || (eqb a b && true)) ≡ true → b ≤ a
    swap a b h = go (ltb b a) (eqb a b) (λ k. le_of_lt (ltb-true b a k)) (λ k. le_of_eq (sym (eqb-true a b k))) h
      where
        go : (p q : Bool) → (p ≡ true → b ≤ a) → (q ≡ true → b ≤ a) → (p || (q && true)) ≡ true → b ≤ a
        go true q f g h = f refl
        go false true f g h = g refl
        go false false f g h = absurd (true≢false (sym h))
at_most (fin false m e) f h =
    let z = and_zero (m * up e * 1) (2 ^ 52 * down e) h in
    absurd (not_zero (down e) (down_pos e) (sym z.0 ∙ z.1))

-- 0 < x, and not 2 ^ 52 ≤ x
low_side : (x : Float) → lt (fin false 0 (pos 0)) x ≡ true → le (fin false 1 (pos 52)) x ≡ false → T (lt x (fin false 1 (pos 52)))
unfolding lt le
low_side nan h k = absurd (true≢false (sym h))
low_side (inf true) h k = absurd (true≢false (sym h))
low_side (inf false) h k = absurd (true≢false k)
low_side (fin true m e) h k = absurd (true≢false (sym h))
low_side (fin false m e) h k = lt→ltb (m * up e * 1) (2 ^ 52 * down e) (or_false (2 ^ 52 * down e) (m * up e * 1) k)

-- x < 0, and not x ≤ - 2 ^ 52
high_side : (x : Float) → lt x (fin false 0 (pos 0)) ≡ true → le x (fin true 1 (pos 52)) ≡ false → T (lt (fin false 0 (pos 0)) (neg x)) × T (lt (neg x) (fin false 1 (pos 52)))
unfolding lt le neg
high_side nan h k = absurd (true≢false (sym h))
high_side (inf true) h k = absurd (true≢false k)
high_side (inf false) h k = absurd (true≢false (sym h))
high_side (fin false m e) h k = absurd (no_less (m * up e * 1) (0 * down e) (ltb-true _ _ h) (zero-mul (down e)))
  where
    no_less : (a b : ℕ) → a < b → b ≡ 0 → ⊥
    no_less a b p q = omega arith
high_side (fin true m e) h k =
    (lt→ltb (0 * down e) (m * up e * 1) (some (m * up e * 1) (0 * down e) (ltb-true _ _ h) (zero-mul (down e))), lt→ltb (m * up e * 1) (2 ^ 52 * down e) (swap (m * up e * 1) (2 ^ 52 * down e) k))
  where
    some : (a b : ℕ) → 0 < a + b → b ≡ 0 → b < a
    some a b p q = omega arith

    less : (a b : ℕ) → a ≤ b → (a ≡ b → ⊥) → a < b
    less a b p q = omega arith

    swap : (a b : ℕ) → (ltb b a || (eqb a b && true)) ≡ false → a < b
    swap a b h = go (ltb b a) (eqb a b) (ltb-false b a) (eqb-false a b) h
      where
        go : (p q : Bool) → (p ≡ false → a ≤ b) → (q ≡ false → a ≡ b → ⊥) → (p || (q && true)) ≡ false → a < b
        go true q f g h = absurd (true≢false h)
        go false true f g h = absurd (true≢false h)
        go false false f g h = less a b (f refl) (g refl)

-- ---- the results
down_floor : (x : Float) (n : ℕ) → Inside x → n ≡ size_down x → of_int binary64 (pos n) ≡ floor_of x
unfolding of_int floor_of Inside
down_floor nan n i e = absurd i
down_floor (inf s) n i e = absurd i
down_floor (fin true m g) n i e = absurd i
down_floor (fin false m g) n i e = ap (λ (a : ℕ). round binary64 false a 1) e

units_neg : (q k : ℕ) → neg (units binary64 false q k) ≡ units binary64 true q k
unfolding units neg
units_neg q k = at (ltb (q * 2 ^ k) (2 ^ 2098))
  where
    at : (b : Bool) → neg (cond b (odd 54 false q k 1074) (inf false)) ≡ cond b (odd 54 true q k 1074) (inf true)
    at true = sym (odd_neg 54 q k 1074)
    at false = refl

pub round_neg : (a c : ℕ) → neg (round binary64 false a c) ≡ round binary64 true a c
round_neg a c = ap neg (round_is binary64 false a c) ∙ units_neg _ _ ∙ sym (round_is binary64 true a c)

up_floor : (x : Float) (n : ℕ) → Inside (neg x) → n ≡ size_up (neg x) → neg (of_int binary64 (pos n)) ≡ floor_of x
unfolding of_int floor_of Inside neg size_up
up_floor nan n i e = absurd i
up_floor (inf s) n i e = absurd i
up_floor (fin false m g) n i e = absurd i
up_floor (fin true m g) n i e = round_neg n 1 ∙ ap (λ (a : ℕ). round binary64 true a 1) e

zero_exp : (s : Bool) (m : ℕ) (e : ℤ) → T (fits binary64 (fin s m e)) → m ≡ 0 → e ≡ pos 0
unfolding fits
zero_exp s zero e h z = plain e (eqb→eq (up e * down e) 1 h)
zero_exp s (suc m) e h z = absurd (no-suc m z)
  where
    no-suc : (n : ℕ) → suc n ≡ 0 → ⊥
    no-suc n q = omega arith

zero_floor : (s : Bool) → fin s 0 (pos 0) ≡ floor_of (fin s 0 (pos 0))
unfolding floor_of units
zero_floor true = refl
zero_floor false = refl

zero_at : (s : Bool) (m : ℕ) (e : ℤ) → T (fits binary64 (fin s m e)) → m * up e * 1 ≡ 0 → fin s m e ≡ floor_of (fin s m e)
zero_at s m e f h =
    let z : m ≡ 0 = no_magnitude m (up e) (up_pos e) h in
    subst (λ (d : ℤ). fin s m d ≡ floor_of (fin s m d)) (sym (zero_exp s m e f z)) (subst (λ (n : ℕ). fin s n (pos 0) ≡ floor_of (fin s n (pos 0))) (sym z) (zero_floor s))

nan_floor : nan ≡ floor_of nan
unfolding floor_of
nan_floor = refl

inf_floor : (s : Bool) → inf s ≡ floor_of (inf s)
unfolding floor_of
inf_floor s = refl

neither : (x : Float) → T (fits binary64 x) → lt (fin false 0 (pos 0)) x ≡ false → lt x (fin false 0 (pos 0)) ≡ false → x ≡ floor_of x
unfolding lt
neither nan f h k = nan_floor
neither (inf s) f h k = inf_floor s
neither (fin false m e) f h k = zero_at false m e f (none (m * up e * 1) (0 * down e) (ltb-false _ _ h) (zero-mul (down e)))
  where
    none : (a b : ℕ) → a ≤ b → b ≡ 0 → a ≡ 0
    none a b p q = omega arith
neither (fin true m e) f h k = zero_at true m e f (none (m * up e * 1) (0 * down e) (ltb-false _ _ k))
  where
    none : (a b : ℕ) → a + b ≤ 0 → a ≡ 0
    none a b p = omega arith

-- ---- in the code's words
abbrev L : ℕ
L = 0x4330_0000_0000_0000

neg_52 : neg (of_bits binary64 L) ≡ fin true 1 (pos 52)
unfolding neg
neg_52 = ap neg two_52

is_true : {b : Bool} → b ≡ true → T b
is_true h = subst T (sym h) tt

pub floor_nan : (x : Float) → is_nan x ≡ true → x ≡ floor_of x
unfolding is_nan
floor_nan nan h = nan_floor
floor_nan (inf s) h = absurd (true≢false (sym h))
floor_nan (fin s m e) h = absurd (true≢false (sym h))

pub floor_high : (x : Float) → T (fits binary64 x) → le (of_bits binary64 L) x ≡ true → x ≡ floor_of x
floor_high x f h = at_least x f (subst (λ (v : Float). le v x ≡ true) two_52 h)

pub floor_low : (x : Float) → T (fits binary64 x) → le x (neg (of_bits binary64 L)) ≡ true → x ≡ floor_of x
floor_low x f h = at_most x f (subst (λ (v : Float). le x v ≡ true) neg_52 h)

pub down_requires : (x : Float) → lt (of_bits binary64 0) x ≡ true → le (of_bits binary64 L) x ≡ false → T (lt (fin false 0 (pos 0)) x) × T (lt x (fin false 1 (pos 52)))
down_requires x h k =
    let z : lt (fin false 0 (pos 0)) x ≡ true = subst (λ (v : Float). lt v x ≡ true) zero_bits h in
    (is_true z, low_side x z (subst (λ (v : Float). le v x ≡ false) two_52 k))

pub up_requires : (x : Float) → lt x (of_bits binary64 0) ≡ true → le x (neg (of_bits binary64 L)) ≡ false → T (lt (fin false 0 (pos 0)) (neg x)) × T (lt (neg x) (fin false 1 (pos 52)))
up_requires x h k = high_side x (subst (λ (v : Float). lt x v ≡ true) zero_bits h) (subst (λ (v : Float). le x v ≡ false) neg_52 k)

pub floor_down : (x : Float) (n : ℕ) → T (lt (fin false 0 (pos 0)) x) × T (lt x (fin false 1 (pos 52))) → n ≡ size_down x → of_int binary64 (pos n) ≡ floor_of x
floor_down x n h e = down_floor x n (inside x h.0 h.1) e

pub floor_up : (x : Float) (n : ℕ) → T (lt (fin false 0 (pos 0)) (neg x)) × T (lt (neg x) (fin false 1 (pos 52))) → n ≡ size_up (neg x) → neg (of_int binary64 (pos n)) ≡ floor_of x
floor_up x n h e = up_floor x n (inside (neg x) h.0 h.1) e

pub floor_zero : (x : Float) → T (fits binary64 x) → lt (of_bits binary64 0) x ≡ false → lt x (of_bits binary64 0) ≡ false → x ≡ floor_of x
floor_zero x f h k = neither x f (subst (λ (v : Float). lt v x ≡ false) zero_bits h) (subst (λ (v : Float). lt x v ≡ false) zero_bits k)

-- ---- as an integer
pub positive_at : (x : Float) → lt (of_bits binary64 0) x ≡ true → T (lt (fin false 0 (pos 0)) x)
positive_at x h = is_true (subst (λ (v : Float). lt v x ≡ true) zero_bits h)

lt_neg : (x : Float) → T (lt x (fin false 0 (pos 0))) → T (lt (fin true 1 (pos 52)) x) → T (lt (fin false 0 (pos 0)) (neg x)) × T (lt (neg x) (fin false 1 (pos 52)))
unfolding lt neg
lt_neg nan h k = absurd h
lt_neg (inf true) h k = absurd k
lt_neg (inf false) h k = absurd h
lt_neg (fin false m e) h k = absurd (no_less (m * up e * 1) (0 * down e) (ltb→lt _ _ h) (zero-mul (down e)))
  where
    no_less : (a b : ℕ) → a < b → b ≡ 0 → ⊥
    no_less a b p q = omega arith
lt_neg (fin true m e) h k =
    (lt→ltb (0 * down e) (m * up e * 1) (some (m * up e * 1) (0 * down e) (ltb→lt _ _ h) (zero-mul (down e))), k)
  where
    some : (a b : ℕ) → 0 < a + b → b ≡ 0 → b < a
    some a b p q = omega arith

pub negative_at : (x : Float) → lt x (of_bits binary64 0) ≡ true → T (lt (fin true 1 (pos 52)) x) → T (lt (fin false 0 (pos 0)) (neg x)) × T (lt (neg x) (fin false 1 (pos 52)))
negative_at x h k = lt_neg x (is_true (subst (λ (v : Float). lt x v ≡ true) zero_bits h)) k

int_down : (x : Float) (n : ℕ) → Inside x → n ≡ size_down x → pos n ≡ floor_int x
unfolding floor_int Inside
int_down nan n i e = absurd i
int_down (inf s) n i e = absurd i
int_down (fin true m g) n i e = absurd i
int_down (fin false m g) n i e = ap pos e

int_up : (x : Float) (n : ℕ) → Inside (neg x) → n ≡ size_up (neg x) → neg_ℤ (pos n) ≡ floor_int x
unfolding floor_int Inside neg size_up
int_up nan n i e = absurd i
int_up (inf s) n i e = absurd i
int_up (fin false m g) n i e = absurd i
int_up (fin true m g) n i e = ap (λ (a : ℕ). neg_ℤ (pos a)) e

word : (n : ℕ) → n ≤ 2 ^ 52 → n < 2 ^ 63
word n h = omega arith

pub down_int : (x : Float) (n : ℕ) → T (lt (fin false 0 (pos 0)) x) → T (lt x (fin false 1 (pos 52))) → (n ≡ size_down x) × (n ≤ 2 ^ 52) → to_z w64 n ≡ floor_int x
down_int x n h k z = to_z_pos w64 n (word n z.1) ∙ int_down x n (inside x h k) z.0

taken : (n : ℕ) → n ≤ 2 ^ 52 → pos 0 -ℤ to_z w64 n ≡ neg_ℤ (pos n)
taken n h = ap (λ (z : ℤ). pos 0 -ℤ z) (to_z_pos w64 n (word n h)) ∙ +ℤ_idl (neg_ℤ (pos n))

neg_fits : (n : ℕ) → n ≤ 2 ^ 52 → SFits w64 (neg_ℤ (pos n))
neg_fits zero h = record { sfits = pow_pos 63 }
neg_fits (suc n) h = record { sfits = less n h }
  where
    less : (n : ℕ) → suc n ≤ 2 ^ 52 → n < 2 ^ 63
    less n h = omega arith

pub up_fits : (n : ℕ) → n ≤ 2 ^ 52 → SFits w64 (pos 0 -ℤ to_z w64 n)
up_fits n h = subst (SFits w64) (sym (taken n h)) (neg_fits n h)

pub up_int : (x : Float) (n : ℕ) → T (lt (fin false 0 (pos 0)) (neg x)) × T (lt (neg x) (fin false 1 (pos 52))) → (n ≡ size_up (neg x)) × (n ≤ 2 ^ 52) → to_z w64 (of_z w64 (pos 0 -ℤ to_z w64 n)) ≡ floor_int x
up_int x n h z = to_z-of_z w64 (pos 0 -ℤ to_z w64 n) (up_fits n z.1) ∙ taken n z.1 ∙ int_up x n (inside (neg x) h.0 h.1) z.0

zero_int : (s : Bool) → pos 0 ≡ floor_int (fin s 0 (pos 0))
unfolding floor_int
zero_int true = refl
zero_int false = refl

zero_int_at : (s : Bool) (m : ℕ) (e : ℤ) → T (fits binary64 (fin s m e)) → m * up e * 1 ≡ 0 → pos 0 ≡ floor_int (fin s m e)
zero_int_at s m e f h =
    let z : m ≡ 0 = no_magnitude m (up e) (up_pos e) h in
    subst (λ (d : ℤ). pos 0 ≡ floor_int (fin s m d)) (sym (zero_exp s m e f z)) (subst (λ (n : ℕ). pos 0 ≡ floor_int (fin s n (pos 0))) (sym z) (zero_int s))

int_neither : (x : Float) → T (fits binary64 x) → lt (fin false 0 (pos 0)) x ≡ false → lt x (fin false 0 (pos 0)) ≡ false → pos 0 ≡ floor_int x
unfolding lt floor_int
int_neither nan f h k = refl
int_neither (inf s) f h k = refl
int_neither (fin false m e) f h k = zero_int_at false m e f (none (m * up e * 1) (0 * down e) (ltb-false _ _ h) (zero-mul (down e)))
  where
    none : (a b : ℕ) → a ≤ b → b ≡ 0 → a ≡ 0
    none a b p q = omega arith
int_neither (fin true m e) f h k = zero_int_at true m e f (none (m * up e * 1) (0 * down e) (ltb-false _ _ k))
  where
    none : (a b : ℕ) → a + b ≤ 0 → a ≡ 0
    none a b p = omega arith

pub int_zero : (x : Float) → T (fits binary64 x) → lt (of_bits binary64 0) x ≡ false → lt x (of_bits binary64 0) ≡ false → pos 0 ≡ floor_int x
int_zero x f h k = int_neither x f (subst (λ (v : Float). lt v x ≡ false) zero_bits h) (subst (λ (v : Float). lt x v ≡ false) zero_bits k)
