-- Laws of floor: it is the greatest whole number not above its argument (`floor_greatest`), not above its argument as floats are compared, and keeps the order, as floats (`floor_mono`) and as whole numbers (`floor_rises`). Assumes nothing.
use Rattle.std.proofs.Common.{◌≡◌, ℕ, zero, suc, ◌+◌, ◌-◌, ◌*◌, ◌/◌, ◌%◌, ◌^◌, ◌<◌, ◌≤◌, Bool, true, false, ◌&&◌, ◌||◌, T, eqb, ltb, ◌⊎◌, ℤ, pos, negsuc, neg_ℤ, sym, refl, ap, ◌∙◌, subst, inl, inr, zero-le, le_trans, le_of_eq, le_of_suc-le-suc, not-suc-le-zero, add-zero, le_of_lt, mul-le-mul_right, mod-lt, zero-lt-suc, div-lt_iff_lt-mul, eq-zero-or-pos, eq-or-lt_of_le, mul-pos, lt_of_not-le, div-add-mod', le-div_iff_mul-le, mul-one, div-mul-le_self, le_of_mul-le-mul_right, div-one, arith, lit<, lit≤, eqb→eq}
use native.Mathlib.Nat.{zero-div}
use native.Mathlib.Decide.{dec_le}
use lib.IntN.{suc_ℤ}
use lib.Dec.{eqb_refl}
use lib.Ieee.{Float, nan, inf, fin, up, down, le, neg, below, level, fits, round, binary64}
use lib.Ieee.Fits.{and_l, and_r, down_pos}
use lib.Ieee.Exact.{HasValue}
use lib.Ieee.Back.{round_whole}
use lib.Ieee.Order.{round_mono, le_of_values}
use lib.Ieee.Nearest.{div_mono}
use Rattle.numbers.specs.Small.{is_finite}
use Rattle.numbers.specs.Floor.{floor_of, floor_int, signed, NotAbove, Floored}
use Rattle.numbers.proofs.float.Keys.{le_neg, le_cross}
use Rattle.numbers.proofs.float.Floors.{big_whole, big_floor, round_neg}
use Rattle.numbers.proofs.float.Sums.{zeros_le, plus_round, le_number, le_number_2}

-- ---- rounding a fraction up
unfoldable pub ceil : ℕ → ℕ → ℕ
ceil a d = (a + (d - 1)) / d

pub ceil_le : (a d k : ℕ) → 0 < d → a ≤ k * d → ceil a d ≤ k
unfolding ceil
ceil_le a d k p h = down ((div-lt_iff_lt-mul {k = d} {x = a + (d - 1)} {y = k + 1} p).1 (less p h))
  where
    less : 0 < d → a ≤ k * d → a + (d - 1) < (k + 1) * d
    less p h = omega arith

    down : (a + (d - 1)) / d < k + 1 → (a + (d - 1)) / d ≤ k
    down h = omega arith

pub ceil_ge : (a d : ℕ) → 0 < d → a ≤ ceil a d * d
unfolding ceil
ceil_ge a d p = at ((a + (d - 1)) / d) ((a + (d - 1)) % d) (div-add-mod' (a + (d - 1)) d) (mod-lt (a + (d - 1)) p)
  where
    at : (q r : ℕ) → q * d + r ≡ a + (d - 1) → r < d → a ≤ q * d
    at q r e l = omega arith

pub ceil_mono : (a d b e : ℕ) → 0 < d → 0 < e → a * e ≤ b * d → ceil a d ≤ ceil b e
ceil_mono a d b e D E h =
    ceil_le a d (ceil b e) D
    (le_of_mul-le-mul_right {k = e} (le_trans h (le_trans (mul-le-mul_right d (ceil_ge b e E)) (le_of_eq (flat (ceil b e))))) E)
  where
    flat : (c : ℕ) → c * e * d ≡ c * d * e
    flat c = omega arith

-- ---- floor keeps the order
round_up_le : (a b : ℕ) → a ≤ b → T (le (round binary64 false a 1) (round binary64 false b 1))
round_up_le a b h = round_mono binary64 a 1 b 1 (lit< tt) (lit< tt) (mul-le-mul_right 1 h)

-- the size of floor: a fraction's size rounded down, or up where it is negative
whole_of : Bool → ℕ → ℕ → ℕ
whole_of false a d = a / d
whole_of true a d = ceil a d

floor_is : (s : Bool) (m : ℕ) (e : ℤ) → floor_of (fin s m e) ≡ round binary64 s (whole_of s (m * up e) (down e)) 1
unfolding floor_of whole_of ceil
floor_is false m e = refl
floor_is true m e = refl

int_is : (s : Bool) (m : ℕ) (e : ℤ) → floor_int (fin s m e) ≡ signed s (whole_of s (m * up e) (down e))
unfolding floor_int whole_of ceil
int_is false m e = refl
int_is true m e = refl

-- the order of two whole numbers with signs
abbrev Order : Bool → ℕ → Bool → ℕ → Type 0
Order false a false b = a ≤ b
Order false a true b = (a ≡ 0) × (b ≡ 0)
Order true a false b = Unit
Order true a true b = b ≤ a

order_at : (s : Bool) (m : ℕ) (e : ℤ) (t : Bool) (n : ℕ) (d : ℤ) → T (le (fin s m e) (fin t n d)) → Order s (whole_of s (m * up e) (down e)) t (whole_of t (n * up d) (down d))
unfolding le whole_of
order_at false m e false n d h = div_mono (m * up e) (down e) (n * up d) (down d) (down_pos e) (down_pos d) (le_number (m * up e * down d) (n * up d * down e) h)
order_at true m e true n d h = ceil_mono (n * up d) (down d) (m * up e) (down e) (down_pos d) (down_pos e) (le_number_2 (m * up e * down d) (n * up d * down e) h)
order_at true m e false n d h = tt
order_at false m e true n d h =
    let a = m * up e * down d in
    let b = n * up d * down e in
    let p : a ≡ b = eqb→eq a b (and_l (eqb a b) (eqb a 0) h) in
    let q : a ≡ 0 = eqb→eq a 0 (and_r (eqb a b) (eqb a 0) h) in
    let x : m * up e ≡ 0 = none (m * up e) (down d) (down_pos d) q in
    let y : n * up d ≡ 0 = none (n * up d) (down e) (down_pos e) (sym p ∙ q) in
    (ap (λ (k : ℕ). k / down e) x ∙ zero-div (down e), low (ceil (n * up d) (down d)) (ceil_le (n * up d) (down d) 0 (down_pos d) (le_of_eq (y ∙ sym (flat (down d))))))
  where
    none : (a d : ℕ) → 0 < d → a * d ≡ 0 → a ≡ 0
    none a d p h = go (eq-zero-or-pos a)
      where
        go : (a ≡ 0) ⊎ (0 < a) → a ≡ 0
        go (inl e) = e
        go (inr k) = absurd (never (mul-pos k p) h)
          where
            never : 0 < a * d → a * d ≡ 0 → ⊥
            never x y = omega arith

    low : (k : ℕ) → k ≤ 0 → k ≡ 0
    low k h = omega arith

    flat : (d : ℕ) → 0 * d ≡ 0
    flat d = omega arith

round_order : (s : Bool) (a : ℕ) (t : Bool) (b : ℕ) → Order s a t b → T (le (round binary64 s a 1) (round binary64 t b 1))
round_order false a false b h = round_up_le a b h
round_order true a true b h =
    subst (λ (v : Float). T (le v (round binary64 true b 1))) (round_neg a 1)
    (subst (λ (v : Float). T (le (neg (round binary64 false a 1)) v)) (round_neg b 1) (le_neg (round binary64 false b 1) (round binary64 false a 1) (round_up_le b a h)))
round_order true a false b h =
    subst (λ (v : Float). T (le v (round binary64 false b 1))) (round_neg a 1)
    (le_cross (round binary64 false a 1) (round binary64 false b 1) (plus_round a 1) (plus_round b 1))
round_order false a true b h =
    subst (λ (k : ℕ). T (le (round binary64 false k 1) (round binary64 true b 1))) (sym h.0)
    (subst (λ (k : ℕ). T (le (round binary64 false 0 1) (round binary64 true k 1))) (sym h.1) (zeros_le 1 1 (lit< tt) (lit< tt)))

mono_at : (s : Bool) (m : ℕ) (e : ℤ) (t : Bool) (n : ℕ) (d : ℤ) → T (le (fin s m e) (fin t n d)) → T (le (floor_of (fin s m e)) (floor_of (fin t n d)))
mono_at s m e t n d h =
    subst (λ (v : Float). T (le v (floor_of (fin t n d)))) (sym (floor_is s m e))
    (subst (λ (v : Float). T (le (round binary64 s (whole_of s (m * up e) (down e)) 1) v)) (sym (floor_is t n d))
    (round_order s (whole_of s (m * up e) (down e)) t (whole_of t (n * up d) (down d)) (order_at s m e t n d h)))

pub floor_mono : (x y : Float) → T (is_finite x) → T (is_finite y) → T (le x y) → T (le (floor_of x) (floor_of y))
unfolding is_finite
floor_mono nan y h k l = absurd h
floor_mono (inf s) y h k l = absurd h
floor_mono (fin s m e) nan h k l = absurd k
floor_mono (fin s m e) (inf t) h k l = absurd k
floor_mono (fin s m e) (fin t n d) h k l = mono_at s m e t n d l

-- the whole numbers rise too: seen by any function that rises
module _ (k : ℤ → ℕ) (rises : (z : ℤ) → k z ≤ k (suc_ℤ z)) where
  rise_plus : (a b : ℕ) → a ≤ b → k (pos a) ≤ k (pos b)
  rise_plus a b h = elim (eq-or-lt_of_le h) [ inl e ↦ le_of_eq (ap (λ (n : ℕ). k (pos n)) e) | inr l ↦ next b l ]
    where
      next : (b : ℕ) → a < b → k (pos a) ≤ k (pos b)
      next zero l = absurd (not-suc-le-zero l)
      next (suc b) l = le_trans (elim (eq-or-lt_of_le (le_of_suc-le-suc l)) [ inl e ↦ le_of_eq (ap (λ (n : ℕ). k (pos n)) e) | inr m ↦ next b m ]) (rises (pos b))

  down_one : (b : ℕ) → k (neg_ℤ (pos (suc b))) ≤ k (neg_ℤ (pos b))
  down_one zero = rises (negsuc zero)
  down_one (suc b) = rises (negsuc (suc b))

  rise_minus : (a b : ℕ) → a ≤ b → k (neg_ℤ (pos b)) ≤ k (neg_ℤ (pos a))
  rise_minus a zero h = le_of_eq (ap (λ (n : ℕ). k (neg_ℤ (pos n))) (none a h))
    where
      none : (a : ℕ) → a ≤ 0 → 0 ≡ a
      none a h = omega arith
  rise_minus a (suc b) h = elim (eq-or-lt_of_le h) [ inl e ↦ le_of_eq (ap (λ (n : ℕ). k (neg_ℤ (pos n))) (sym e)) | inr l ↦ le_trans (down_one b) (rise_minus a b (le_of_suc-le-suc l)) ]

  rise_order : (s : Bool) (a : ℕ) (t : Bool) (b : ℕ) → Order s a t b → k (signed s a) ≤ k (signed t b)
  rise_order false a false b h = rise_plus a b h
  rise_order true a true b h = rise_minus b a h
  rise_order true a false b h = le_trans (rise_minus 0 a zero-le) (rise_plus 0 b zero-le)
  rise_order false a true b h = le_of_eq (ap (λ (n : ℕ). k (pos n)) h.0 ∙ ap (λ (n : ℕ). k (neg_ℤ (pos n))) (sym h.1))

  pub floor_rises : (x y : Float) → T (is_finite x) → T (is_finite y) → T (le x y) → k (floor_int x) ≤ k (floor_int y)
  unfolding is_finite
  floor_rises nan y h l p = absurd h
  floor_rises (inf s) y h l p = absurd h
  floor_rises (fin s m e) nan h l p = absurd l
  floor_rises (fin s m e) (inf t) h l p = absurd l
  floor_rises (fin s m e) (fin t n d) h l p =
      subst (λ (z : ℤ). k z ≤ k (floor_int (fin t n d))) (sym (int_is s m e))
      (subst (λ (z : ℤ). k (signed s (whole_of s (m * up e) (down e))) ≤ k z) (sym (int_is t n d))
      (rise_order s (whole_of s (m * up e) (down e)) t (whole_of t (n * up d) (down d)) (order_at s m e t n d p)))

-- ---- floor is not above its argument
le_self : (s : Bool) (m : ℕ) (e : ℤ) → T (le (fin s m e) (fin s m e))
unfolding le
le_self s m e = at s (m * up e * down e)
  where
    same : (a : ℕ) (b : Bool) → T (b || (eqb a a && true))
    same a true = tt
    same a false = at_true (eqb a a) (eqb_refl a)
      where
        at_true : (t : Bool) → T t → T (t && true)
        at_true true h = tt
        at_true false h = h

    at : (s : Bool) (a : ℕ) → T (below s a s a || level s a s a)
    at true a = same a (ltb a a)
    at false a = same a (ltb a a)

small : (s : Bool) (m : ℕ) (e : ℤ) → m * up e < 2 ^ 52 * down e → T (le (floor_of (fin s m e)) (fin s m e))
unfolding floor_of ceil neg
small false m e h =
    let w = m * up e / down e in
    let few : w ≤ 2 ^ 53 = le_trans (le_of_lt ((div-lt_iff_lt-mul {k = down e} {x = m * up e} {y = 2 ^ 52} (down_pos e)).1 h)) (lit≤ tt) in
    le_of_values (round binary64 false w 1) (fin false m e) w 1 (m * up e) (down e) (lit< tt) (down_pos e) (round_whole binary64 false w few) (refl, refl)
    (le_trans (div-mul-le_self (m * up e) (down e)) (le_of_eq (sym (mul-one (m * up e)))))
small true m e h =
    let u = ceil (m * up e) (down e) in
    let few : u ≤ 2 ^ 53 = le_trans (ceil_le (m * up e) (down e) (2 ^ 52) (down_pos e) (le_of_lt h)) (lit≤ tt) in
    subst (λ (v : Float). T (le v (fin true m e))) (round_neg u 1)
    (le-minus (fin false m e) (round binary64 false u 1)
    (le_of_values (fin false m e) (round binary64 false u 1) (m * up e) (down e) u 1 (down_pos e) (lit< tt) (refl, refl) (round_whole binary64 false u few)
    (le_trans (le_of_eq (mul-one (m * up e))) (ceil_ge (m * up e) (down e) (down_pos e)))))
  where
    le-minus : (x y : Float) → T (le x y) → T (le (neg y) (neg x))
    le-minus x y k = le_neg x y k

pub floor_le : (x : Float) → T (fits binary64 x) → T (is_finite x) → T (le (floor_of x) x)
unfolding is_finite
floor_le nan f h = absurd h
floor_le (inf s) f h = absurd h
floor_le (fin s m e) f h = go (dec_le (2 ^ 52 * down e) (m * up e))
  where
    go : Dec (2 ^ 52 * down e ≤ m * up e) → T (le (floor_of (fin s m e)) (fin s m e))
    go (yes k) = subst (λ (v : Float). T (le v (fin s m e))) (big_floor s m e f k) (le_self s m e)
    go (no k) = small s m e (lt_of_not-le k)

-- ---- floor is the greatest whole number not above its argument
whole_few : (s : Bool) (a d : ℕ) → 0 < d → a < 2 ^ 52 * d → whole_of s a d ≤ 2 ^ 53
unfolding whole_of
whole_few false a d p h = le_trans (le_of_lt ((div-lt_iff_lt-mul {k = d} {x = a} {y = 2 ^ 52} p).1 h)) (lit≤ tt)
whole_few true a d p h = le_trans (ceil_le a d (2 ^ 52) p (le_of_lt h)) (lit≤ tt)

whole_one : (s : Bool) (a : ℕ) → whole_of s a 1 ≡ a
unfolding whole_of ceil
whole_one false a = div-one a
whole_one true a = div-one (a + 0) ∙ add-zero a

floor_value : (s : Bool) (m : ℕ) (e : ℤ) → T (fits binary64 (fin s m e)) → HasValue (floor_of (fin s m e)) s (whole_of s (m * up e) (down e)) 1
floor_value s m e f = go (dec_le (2 ^ 52 * down e) (m * up e))
  where
    go : Dec (2 ^ 52 * down e ≤ m * up e) → HasValue (floor_of (fin s m e)) s (whole_of s (m * up e) (down e)) 1
    go (yes k) =
        let one : down e ≡ 1 = big_whole s m e f k in
        subst (λ (y : Float). HasValue y s (whole_of s (m * up e) (down e)) 1) (big_floor s m e f k)
        (refl, sym (ap (λ (d : ℕ). whole_of s (m * up e) d * down e) one ∙ ap (λ (w : ℕ). w * down e) (whole_one s (m * up e)) ∙ ap (λ (d : ℕ). m * up e * d) one))
    go (no k) = subst (λ (y : Float). HasValue y s (whole_of s (m * up e) (down e)) 1) (sym (floor_is s m e)) (round_whole binary64 s (whole_of s (m * up e) (down e)) (whole_few s (m * up e) (down e) (down_pos e) (lt_of_not-le k)))

-- a / c and b / d are one fraction
module _ (a c b d : ℕ) (C : 0 < c) (D : 0 < d) (h : b * c ≡ a * d) where
  across : (n : ℕ) → n * d ≤ b → n * c ≤ a
  across n l = le_of_mul-le-mul_right {k = d} (at (mul-le-mul_right c l)) D
    where
      at : n * d * c ≤ b * c → n * c * d ≤ a * d
      at z = omega arith

  across_up : (n : ℕ) → b ≤ n * d → a ≤ n * c
  across_up n l = le_of_mul-le-mul_right {k = d} (at (mul-le-mul_right c l)) D
    where
      at : b * c ≤ n * d * c → a * d ≤ n * c * d
      at z = omega arith

whole_below : (s : Bool) (a c b d : ℕ) → 0 < c → 0 < d → b * c ≡ a * d → NotAbove (signed s (whole_of s b d)) s a c
unfolding whole_of
whole_below false a c b d C D h = across a c b d C D h (b / d) (div-mul-le_self b d)
whole_below true a c b d C D h = at (ceil b d) (across_up a c b d C D h (ceil b d) (ceil_ge b d D))
  where
    at : (n : ℕ) → a ≤ n * c → NotAbove (neg_ℤ (pos n)) true a c
    at zero l = omega arith
    at (suc n) l = l

whole_greatest : (s : Bool) (a c b d : ℕ) → 0 < c → 0 < d → b * c ≡ a * d → (k : ℤ) → NotAbove k s a c → NotAbove k s (whole_of s b d) 1
unfolding whole_of
whole_greatest false a c b d C D h (pos n) l = le_trans (le_of_eq (mul-one n)) ((le-div_iff_mul-le {k = d} D).1 (across b d a c D C (sym h) n l))
whole_greatest false a c b d C D h (negsuc n) l = tt
whole_greatest true a c b d C D h (negsuc n) l = le_trans (ceil_le b d (suc n) D (across_up b d a c D C (sym h) (suc n) l)) (le_of_eq (sym (mul-one (suc n))))
whole_greatest true a c b d C D h (pos n) l = at n (ceil b d) (both n l) (ceil_le b d 0 D (across_up b d a c D C (sym h) 0 (none n l)))
  where
    none : (n : ℕ) → n * c + a ≤ 0 → a ≤ 0 * c
    none n l = omega arith

    both : (n : ℕ) → n * c + a ≤ 0 → n ≤ 0
    both zero l = lit≤ tt
    both (suc n) l = absurd (never (suc n * c) (mul-pos (zero-lt-suc n) C) l)
      where
        never : (z : ℕ) → 0 < z → z + a ≤ 0 → ⊥
        never z p q = omega arith

    at : (n u : ℕ) → n ≤ 0 → u ≤ 0 → n * 1 + u ≤ 0
    at n u p q = omega arith

pub floor_greatest : (x : Float) (s : Bool) (a c : ℕ) → 0 < c → T (fits binary64 x) → HasValue x s a c → Floored s a c (floor_of x) (floor_int x)
floor_greatest nan s a c C f h = absurd h
floor_greatest (inf t) s a c C f h = absurd h
floor_greatest (fin t m e) s a c C f h = subst (λ (b : Bool). Floored b a c (floor_of (fin t m e)) (floor_int (fin t m e))) h.0 (record {
  n = whole_of t (m * up e) (down e);
  value = floor_value t m e f;
  whole = int_is t m e;
  below = whole_below t a c (m * up e) (down e) C (down_pos e) h.1;
  greatest = whole_greatest t a c (m * up e) (down e) C (down_pos e) h.1;
})

-- infinities and NaN are their own floor
pub floor_inf : (s : Bool) → floor_of (inf s) ≡ inf s
unfolding floor_of
floor_inf s = refl

pub floor_nan : floor_of nan ≡ nan
unfolding floor_of
floor_nan = refl
