-- Sums and differences of finite floats keep the order: x ≤ x' and z ≤ z' give x + z ≤ x' + z', signs, zeros and overflow included. Assumes nothing.
use Rattle.std.proofs.Common.{◌≡◌, ℕ, zero, suc, ◌+◌, ◌-◌, ◌*◌, ◌%◌, ◌^◌, ◌<◌, ◌≤◌, Bool, true, false, cond, not, ◌&&◌, ◌||◌, T, eqb, ltb, leb, ◌⊎◌, ℤ, pos, negsuc, sym, refl, ap, ◌∙◌, subst, inl, inr, true≢false, zero-le, le_trans, le_of_eq, add-zero, le_of_lt, mul-le-mul_right, zero-lt-suc, mul_assoc, mul_comm, add-mul, add_comm, lt_of_mul-lt-mul_right, eq-or-lt_of_le, mul-pos, one-mul, lt_of_not-le, zero-add, zero-mul, mul-one, sub-add_cancel, not-le_of_lt, le-mul_of_pos_right, arith, lit<, eqb→eq, ltb→lt, leb→le, pow_pos, pow-add, le-ltb, lt-ltb, eq-eqb, ne_eqb, eqb-true}
use native.Mathlib.Decide.{dec_le}
use mathlib.Core.Bool.{beq}
use lib.Ieee.{Float, nan, inf, fin, up, down, lt, le, eq, neg, fits, below, level, add, sub, sum, odd, units, round, binary64}
use lib.Ieee.Fits.{and_l, and_r, down_pos, round_is}
use lib.Ieee.Exact.{odd_sign}
use lib.Ieee.Order.{round_mono}
use lib.Ieee.Scale.{round_same}
use borrow.Author.Tests.{eqb-false}
use lib.Pow.{pow-lt}
use Rattle.numbers.specs.Small.{is_finite}
use Rattle.numbers.proofs.float.Keys.{le_neg, le_cross, plus, plus_value, plus_inf, or_elim}
use Rattle.numbers.proofs.float.Floors.{round_neg}

-- ---- a number with a sign, as what it adds and what it takes away
abbrev more : Bool → ℕ → ℕ
more s a = cond s 0 a

abbrev less : Bool → ℕ → ℕ
less s a = cond s a 0

more_mul : (s : Bool) (a b : ℕ) → more s (a * b) ≡ more s a * b
more_mul true a b = sym (zero-mul b)
more_mul false a b = refl

less_mul : (s : Bool) (a b : ℕ) → less s (a * b) ≡ less s a * b
less_mul true a b = refl
less_mul false a b = sym (zero-mul b)

-- v is (p - n) / c, rounded; a zero has either sign
Rounds : Float → ℕ → ℕ → ℕ → Type 0
Rounds v p n c = ((g : ℕ) × (n + g ≡ p) × (v ≡ round binary64 false g c)) ⊎ ((g : ℕ) × (p + g ≡ n) × (v ≡ round binary64 true g c))

sum_rounds : (s : Bool) (a : ℕ) (t : Bool) (b c : ℕ) → Rounds (sum binary64 s a t b c) (more s a + more t b) (less s a + less t b) c
unfolding sum Rounds
sum_rounds false a false b c = inl (a + b, omega arith, refl)
sum_rounds true a true b c = inr (a + b, omega arith, refl)
sum_rounds false a true b c = go (dec_le b a)
  where
    pick : Bool → Float
    pick x = cond x (round binary64 true (b - a) c) (round binary64 false (a - b) c)

    go : Dec (b ≤ a) → Rounds (pick (ltb a b)) (a + 0) (0 + b) c
    go (yes h) = inl (a - b, omega arith, ap pick (le-ltb a b h))
    go (no f) = inr (b - a, omega arith, ap pick (lt-ltb a b (lt_of_not-le f)))
sum_rounds true a false b c = go (dec_le b a)
  where
    pick : Bool → Bool → Float
    pick x y = cond x (round binary64 false (b - a) c) (round binary64 y (a - b) c)

    down_by : b ≤ a → (b ≡ a) ⊎ (b < a) → Rounds (pick (ltb a b) (ltb b a)) (0 + b) (a + 0) c
    down_by h (inl e) = inl (a - b, omega arith, ap (λ (x : Bool). pick x (ltb b a)) (le-ltb a b h) ∙ ap (pick false) (le-ltb b a (le_of_eq (sym e))))
    down_by h (inr l) = inr (a - b, omega arith, ap (λ (x : Bool). pick x (ltb b a)) (le-ltb a b h) ∙ ap (pick false) (lt-ltb b a l))

    go : Dec (b ≤ a) → Rounds (pick (ltb a b) (ltb b a)) (0 + b) (a + 0) c
    go (yes h) = down_by h (eq-or-lt_of_le h)
    go (no f) = inl (b - a, omega arith, ap (λ (x : Bool). pick x (ltb b a)) (lt-ltb a b (lt_of_not-le f)))

-- ---- rounding keeps the order
plus_units : (q k : ℕ) → T (plus (units binary64 false q k))
unfolding units
plus_units q k = at (ltb (q * 2 ^ k) (2 ^ 2098))
  where
    at : (b : Bool) → T (plus (cond b (odd 54 false q k 1074) (inf false)))
    at true = plus_value (odd 54 false q k 1074) (q * 2 ^ k) (2 ^ 1074) (odd_sign 54 false q k 1074)
    at false = plus_inf

pub plus_round : (a c : ℕ) → T (plus (round binary64 false a c))
plus_round a c = subst (λ (v : Float). T (plus v)) (sym (round_is binary64 false a c)) (plus_units _ _)

zero_one : (s : Bool) → round binary64 s 0 1 ≡ fin s 0 (pos 0)
unfolding round
zero_one true = refl
zero_one false = refl

zeros : T (le (fin false 0 (pos 0)) (fin true 0 (pos 0)))
unfolding le
zeros = tt

pub zero_round : (s : Bool) (c : ℕ) → 0 < c → round binary64 s 0 c ≡ fin s 0 (pos 0)
zero_round s c h = round_same binary64 s 0 c 0 1 h (lit< tt) (flat c) ∙ at_one s
  where
    flat : (c : ℕ) → 0 * 1 ≡ 0 * c
    flat c = omega arith

    at_one : (s : Bool) → round binary64 s 0 1 ≡ fin s 0 (pos 0)
    at_one true = zero_one true
    at_one false = zero_one false

pub zeros_le : (c c' : ℕ) → 0 < c → 0 < c' → T (le (round binary64 false 0 c) (round binary64 true 0 c'))
zeros_le c c' h k =
    subst (λ (v : Float). T (le v (round binary64 true 0 c'))) (sym (zero_round false c h))
    (subst (λ (v : Float). T (le (fin false 0 (pos 0)) v)) (sym (zero_round true c' k)) zeros)

-- p is n + g, and p' is n' + g'
apart : (n g p n' g' p' c c' : ℕ) → n + g ≡ p → n' + g' ≡ p' → p * c' + n' * c ≤ p' * c + n * c' → g * c' ≤ g' * c
apart n g p n' g' p' c c' e e' h =
    let a : (n + g) * c' ≡ p * c' = ap (λ (x : ℕ). x * c') e in
    let b : (n' + g') * c ≡ p' * c = ap (λ (x : ℕ). x * c) e' in
    omega arith

turned : (p g n p' g' n' c c' : ℕ) → p + g ≡ n → p' + g' ≡ n' → p * c' + n' * c ≤ p' * c + n * c' → g' * c ≤ g * c'
turned p g n p' g' n' c c' e e' h =
    let a : (p + g) * c' ≡ n * c' = ap (λ (x : ℕ). x * c') e in
    let b : (p' + g') * c ≡ n' * c = ap (λ (x : ℕ). x * c) e' in
    omega arith

-- p is n + g, and n' is p' + g': both are zero
both : (n g p p' g' n' c c' : ℕ) → 0 < c → 0 < c' → n + g ≡ p → p' + g' ≡ n' → p * c' + n' * c ≤ p' * c + n * c' → (g ≡ 0) × (g' ≡ 0)
both n g p p' g' n' c c' C C' e e' h =
    let a : (n + g) * c' ≡ p * c' = ap (λ (x : ℕ). x * c') e in
    let b : (p' + g') * c ≡ n' * c = ap (λ (x : ℕ). x * c) e' in
    let d : g ≤ g * c' = le-mul_of_pos_right g C' in
    let f : g' ≤ g' * c = le-mul_of_pos_right g' C in
    (omega arith, omega arith)

rounds_mono : (v v' : Float) (p n c p' n' c' : ℕ) → Rounds v p n c → Rounds v' p' n' c' → 0 < c → 0 < c' → p * c' + n' * c ≤ p' * c + n * c' → T (le v v')
unfolding Rounds
rounds_mono v v' p n c p' n' c' (inl (g, e, r)) (inl (g', e', r')) C C' h =
    subst (λ (x : Float). T (le x v')) (sym r) (subst (λ (x : Float). T (le (round binary64 false g c) x)) (sym r')
    (round_mono binary64 g c g' c' C C' (apart n g p n' g' p' c c' e e' h)))
rounds_mono v v' p n c p' n' c' (inr (g, e, r)) (inl (g', e', r')) C C' h =
    subst (λ (x : Float). T (le x v')) (sym (r ∙ sym (round_neg g c))) (subst (λ (x : Float). T (le (neg (round binary64 false g c)) x)) (sym r')
    (le_cross (round binary64 false g c) (round binary64 false g' c') (plus_round g c) (plus_round g' c')))
rounds_mono v v' p n c p' n' c' (inr (g, e, r)) (inr (g', e', r')) C C' h =
    subst (λ (x : Float). T (le x v')) (sym (r ∙ sym (round_neg g c))) (subst (λ (x : Float). T (le (neg (round binary64 false g c)) x)) (sym (r' ∙ sym (round_neg g' c')))
    (le_neg (round binary64 false g' c') (round binary64 false g c)
    (round_mono binary64 g' c' g c C' C (turned p g n p' g' n' c c' e e' h))))
rounds_mono v v' p n c p' n' c' (inl (g, e, r)) (inr (g', e', r')) C C' h =
    let z = both n g p p' g' n' c c' C C' e e' h in
    subst (λ (x : Float). T (le x v')) (sym (r ∙ ap (λ (a : ℕ). round binary64 false a c) z.0)) (subst (λ (x : Float). T (le (round binary64 false 0 c) x)) (sym (r' ∙ ap (λ (a : ℕ). round binary64 true a c') z.1)) (zeros_le c c' C C'))

-- ---- the order of two finite floats, crosswise: a and b are the sizes over the denominators d and e
pub le_number : (a b : ℕ) → T (ltb a b || (eqb a b && true)) → a ≤ b
le_number a b h = go (or_elim (ltb a b) (eqb a b && true) h)
  where
    go : T (ltb a b) ⊎ T (eqb a b && true) → a ≤ b
    go (inl k) = le_of_lt (ltb→lt a b k)
    go (inr k) = le_of_eq (eqb→eq a b (and_l (eqb a b) true k))

pub le_number_2 : (a b : ℕ) → T (ltb b a || (eqb a b && true)) → b ≤ a
le_number_2 a b h = go (or_elim (ltb b a) (eqb a b && true) h)
  where
    go : T (ltb b a) ⊎ T (eqb a b && true) → b ≤ a
    go (inl k) = le_of_lt (ltb→lt b a k)
    go (inr k) = le_of_eq (sym (eqb→eq a b (and_l (eqb a b) true k)))

le_numbers : (s : Bool) (a d : ℕ) (t : Bool) (b e : ℕ) → T (below s (a * e) t (b * d) || level s (a * e) t (b * d)) → more s a * e + less t b * d ≤ more t b * d + less s a * e
le_numbers false a d false b e h = let k : a * e ≤ b * d = le_number (a * e) (b * d) h in omega arith
le_numbers true a d true b e h = let k : b * d ≤ a * e = le_number_2 (a * e) (b * d) h in omega arith
le_numbers true a d false b e h = omega arith
le_numbers false a d true b e h =
    let p : a * e ≡ b * d = eqb→eq (a * e) (b * d) (and_l (eqb (a * e) (b * d)) (eqb (a * e) 0) h) in
    let q : a * e ≡ 0 = eqb→eq (a * e) 0 (and_r (eqb (a * e) (b * d)) (eqb (a * e) 0) h) in
    omega arith

add_fin : (s : Bool) (m : ℕ) (e : ℤ) (u : Bool) (k : ℕ) (g : ℤ) → Rounds (add binary64 (fin s m e) (fin u k g))
    (more s (m * up e) * down g + more u (k * up g) * down e) (less s (m * up e) * down g + less u (k * up g) * down e) (down e * down g)
unfolding add
add_fin s m e u k g =
    let v = sum binary64 s (m * up e * down g) u (k * up g * down e) (down e * down g) in
    subst (λ (p : ℕ). Rounds v p (less s (m * up e) * down g + less u (k * up g) * down e) (down e * down g))
    (ap (λ (x : ℕ). x + more u (k * up g * down e)) (more_mul s (m * up e) (down g)) ∙ ap (λ (x : ℕ). more s (m * up e) * down g + x) (more_mul u (k * up g) (down e)))
    (subst (λ (n : ℕ). Rounds v (more s (m * up e * down g) + more u (k * up g * down e)) n (down e * down g))
    (ap (λ (x : ℕ). x + less u (k * up g * down e)) (less_mul s (m * up e) (down g)) ∙ ap (λ (x : ℕ). less s (m * up e) * down g + x) (less_mul u (k * up g) (down e)))
    (sum_rounds s (m * up e * down g) u (k * up g * down e) (down e * down g)))

mixed : (P N D P' N' D' Q O G Q' O' G' : ℕ) → P * D' + N' * D ≤ P' * D + N * D' → Q * G' + O' * G ≤ Q' * G + O * G'
    → (P * G + Q * D) * (D' * G') + (N' * G' + O' * D') * (D * G) ≤ (P' * G' + Q' * D') * (D * G) + (N * G + O * D) * (D' * G')
mixed P N D P' N' D' Q O G Q' O' G' h k =
    gather (P * D' * (G * G')) (Q * G' * (D * D')) (N' * D * (G * G')) (O' * G * (D * D')) (P' * D * (G * G')) (Q' * G * (D * D')) (N * D' * (G * G')) (O * G' * (D * D'))
    ((P * G + Q * D) * (D' * G')) ((N' * G' + O' * D') * (D * G)) ((P' * G' + Q' * D') * (D * G)) ((N * G + O * D) * (D' * G'))
    (spread P Q D G D' G') (spread-2 N' O' D' G' D G) (spread-2 P' Q' D' G' D G) (spread N O D G D' G')
    (le_trans (le_of_eq (sym (add-mul (P * D') (N' * D) (G * G')))) (le_trans (mul-le-mul_right (G * G') h) (le_of_eq (add-mul (P' * D) (N * D') (G * G')))))
    (le_trans (le_of_eq (sym (add-mul (Q * G') (O' * G) (D * D')))) (le_trans (mul-le-mul_right (D * D') k) (le_of_eq (add-mul (Q' * G) (O * G') (D * D')))))
  where
    spread : (P Q D G D' G' : ℕ) → (P * G + Q * D) * (D' * G') ≡ P * D' * (G * G') + Q * G' * (D * D')
    spread P Q D G D' G' = omega arith

    spread-2 : (P Q D G D' G' : ℕ) → (P * G + Q * D) * (D' * G') ≡ P * D' * (G' * G) + Q * G' * (D' * D)
    spread-2 P Q D G D' G' = omega arith

    gather : (a b c d e f g h w x y z : ℕ) → w ≡ a + b → x ≡ c + d → y ≡ e + f → z ≡ g + h → a + c ≤ e + g → b + d ≤ f + h → w + x ≤ y + z
    gather a b c d e f g h w x y z p q r t u v = omega arith

le_fin : (s : Bool) (m : ℕ) (e : ℤ) (t : Bool) (n : ℕ) (d : ℤ) → T (le (fin s m e) (fin t n d))
    → more s (m * up e) * down d + less t (n * up d) * down e ≤ more t (n * up d) * down e + less s (m * up e) * down d
unfolding le
le_fin s m e t n d h = le_numbers s (m * up e) (down e) t (n * up d) (down d) h

add_at : (s : Bool) (m : ℕ) (e : ℤ) (s' : Bool) (m' : ℕ) (e' : ℤ) (u : Bool) (k : ℕ) (g : ℤ) (u' : Bool) (k' : ℕ) (g' : ℤ)
    → T (le (fin s m e) (fin s' m' e')) → T (le (fin u k g) (fin u' k' g')) → T (le (add binary64 (fin s m e) (fin u k g)) (add binary64 (fin s' m' e') (fin u' k' g')))
unfolding lt eq
add_at s m e s' m' e' u k g u' k' g' h l =
    rounds_mono (add binary64 (fin s m e) (fin u k g)) (add binary64 (fin s' m' e') (fin u' k' g')) _ _ _ _ _ _ (add_fin s m e u k g) (add_fin s' m' e' u' k' g')
    (mul-pos (down_pos e) (down_pos g)) (mul-pos (down_pos e') (down_pos g'))
    (mixed (more s (m * up e)) (less s (m * up e)) (down e) (more s' (m' * up e')) (less s' (m' * up e')) (down e')
    (more u (k * up g)) (less u (k * up g)) (down g) (more u' (k' * up g')) (less u' (k' * up g')) (down g')
    (le_fin s m e s' m' e' h) (le_fin u k g u' k' g' l))

-- a sum grows with both of its parts
pub add_mono : (x x' z z' : Float) → T (is_finite x) → T (is_finite x') → T (is_finite z) → T (is_finite z') → T (le x x') → T (le z z') → T (le (add binary64 x z) (add binary64 x' z'))
unfolding is_finite
add_mono nan x' z z' a b c d h k = absurd a
add_mono (inf s) x' z z' a b c d h k = absurd a
add_mono (fin s m e) nan z z' a b c d h k = absurd b
add_mono (fin s m e) (inf t) z z' a b c d h k = absurd b
add_mono (fin s m e) (fin s' m' e') nan z' a b c d h k = absurd c
add_mono (fin s m e) (fin s' m' e') (inf t) z' a b c d h k = absurd c
add_mono (fin s m e) (fin s' m' e') (fin u n g) nan a b c d h k = absurd d
add_mono (fin s m e) (fin s' m' e') (fin u n g) (inf t) a b c d h k = absurd d
add_mono (fin s m e) (fin s' m' e') (fin u n g) (fin u' n' g') a b c d h k = add_at s m e s' m' e' u n g u' n' g' h k

neg_finite : (x : Float) → T (is_finite x) → T (is_finite (neg x))
unfolding is_finite neg
neg_finite nan h = h
neg_finite (inf s) h = h
neg_finite (fin s m e) h = h

-- a difference grows with its first part and shrinks with its second
pub sub_mono : (x x' z z' : Float) → T (is_finite x) → T (is_finite x') → T (is_finite z) → T (is_finite z') → T (le x x') → T (le z' z) → T (le (sub binary64 x z) (sub binary64 x' z'))
unfolding sub
sub_mono x x' z z' a b c d h k = add_mono x x' (neg z) (neg z') a b (neg_finite z c) (neg_finite z' d) h (le_neg z' z k)

-- ---- a difference is zero just where its parts are equal: no difference of two values underflows to zero
least : round binary64 false 1 (2 ^ 1074) ≡ fin false 1 (negsuc 1073)
unfolding round
least = refl

above_least : (v : Float) → T (le (fin false 1 (negsuc 1073)) v) → eq v (fin false 0 (pos 0)) ≡ false
unfolding le lt eq
above_least nan h = absurd h
above_least (inf s) h = refl
above_least (fin true m e) h = absurd (never (down e) (m * up e) (and_r (eqb (1 * down e) (m * up e * 2 ^ 1074)) (eqb (1 * down e) 0) h) (down_pos e))
  where
    never : (d a : ℕ) → T (eqb (1 * d) 0) → 0 < d → ⊥
    never d a h p = let z : 1 * d ≡ 0 = eqb→eq (1 * d) 0 h in omega arith
above_least (fin false m e) h =
    and_no (eqb (m * up e * 1) (0 * down e)) true
    (ne_eqb (m * up e * 1) (0 * down e) (never (1 * down e) (m * up e) (0 * down e) (down-pos' e) (le_number (1 * down e) (m * up e * 2 ^ 1074) h) (zero-mul (down e))))
  where
    and_no : (a b : Bool) → a ≡ false → (a && b) ≡ false
    and_no a b h = ap (λ (t : Bool). t && b) h

    down-pos' : (e : ℤ) → 0 < 1 * down e
    down-pos' e = let h : 0 < down e = down_pos e in omega arith

    clash : {d : ℕ} → 0 < d → d ≤ 0 → ⊥
    clash p l = omega arith

    never : (d a z : ℕ) → 0 < d → d ≤ a * 2 ^ 1074 → z ≡ 0 → a * 1 ≡ z → ⊥
    never d a z p q r t =
        let e : a ≡ 0 = omega arith in
        let l : d ≤ 0 = subst (λ (x : ℕ). d ≤ x) (ap (λ (x : ℕ). x * 2 ^ 1074) e ∙ zero-mul (2 ^ 1074)) q in
        clash p l

neg_zero : (v : Float) → eq (neg v) (fin false 0 (pos 0)) ≡ eq v (fin false 0 (pos 0))
unfolding eq neg
neg_zero nan = refl
neg_zero (inf s) = refl
neg_zero (fin s m e) = flip s (eqb (m * up e * 1) (0 * down e)) (eqb (m * up e * 1) 0) (λ h. eq-eqb (m * up e * 1) 0 (eqb-true _ _ h ∙ zero-mul (down e)))
  where
    flip : (s a b : Bool) → (a ≡ true → b ≡ true) → (a && (beq (not s) false || b)) ≡ (a && (beq s false || b))
    flip s false b h = refl
    flip true true b h = sym (h refl)
    flip false true b h = h refl

some_round : (g c : ℕ) → 0 < c → c ≤ g * 2 ^ 1074 → eq (round binary64 false g c) (fin false 0 (pos 0)) ≡ false
some_round g c C h = above_least (round binary64 false g c) (subst (λ (v : Float). T (le v (round binary64 false g c))) least (round_mono binary64 1 (2 ^ 1074) g c (pow_pos 1074) C (subst (λ (x : ℕ). x ≤ g * 2 ^ 1074) (sym (one-mul c)) h)))

zero_eq : (s : Bool) → eq (fin s 0 (pos 0)) (fin false 0 (pos 0)) ≡ true
unfolding eq
zero_eq true = refl
zero_eq false = refl

-- the difference of the two, where it is not zero, is at least one
distance_between : (g n p w c i j : ℕ) → 0 < g → 0 < w → n + g ≡ p → p * w ≡ i * c → n * w ≡ j * c → c ≤ g * w
distance_between g n p w c i j G W e P N =
    let a : (n + g) * w ≡ i * c = ap (λ (x : ℕ). x * w) e ∙ P in
    let b : 0 < g * w = mul-pos G W in
    let l : j < i = lt_of_mul-lt-mul_right c (omega arith) in
    let m : suc j * c ≤ i * c = mul-le-mul_right c l in
    omega arith

differ : (g n p : ℕ) → n + suc g ≡ p → p ≡ n → ⊥
differ g n p e h = omega arith

-- v is (p - n) / c rounded, where p / c and n / c are whole numbers of grains
rounds_zero : (v : Float) (p n c i j : ℕ) → Rounds v p n c → 0 < c → p * 2 ^ 1074 ≡ i * c → n * 2 ^ 1074 ≡ j * c → eq v (fin false 0 (pos 0)) ≡ eqb p n
unfolding Rounds
rounds_zero v p n c i j (inl (g, e, r)) C P N = ap (λ (x : Float). eq x (fin false 0 (pos 0))) r ∙ go g e
  where
    go : (g : ℕ) → n + g ≡ p → eq (round binary64 false g c) (fin false 0 (pos 0)) ≡ eqb p n
    go zero e = ap (λ (x : Float). eq x (fin false 0 (pos 0))) (zero_round false c C) ∙ zero_eq false ∙ sym (eq-eqb p n (sym e ∙ add-zero n))
    go (suc g) e = some_round (suc g) c C (distance_between (suc g) n p (2 ^ 1074) c i j (zero-lt-suc g) (pow_pos 1074) e P N) ∙ sym (ne_eqb p n (differ g n p e))
rounds_zero v p n c i j (inr (g, e, r)) C P N = ap (λ (x : Float). eq x (fin false 0 (pos 0))) (r ∙ sym (round_neg g c)) ∙ neg_zero (round binary64 false g c) ∙ go g e
  where
    go : (g : ℕ) → p + g ≡ n → eq (round binary64 false g c) (fin false 0 (pos 0)) ≡ eqb p n
    go zero e = ap (λ (x : Float). eq x (fin false 0 (pos 0))) (zero_round false c C) ∙ zero_eq false ∙ sym (eq-eqb p n (sym (add-zero p) ∙ e))
    go (suc g) e = some_round (suc g) c C (distance_between (suc g) p n (2 ^ 1074) c j i (zero-lt-suc g) (pow_pos 1074) e N P) ∙ sym (ne_eqb p n (λ z. differ g p n e (sym z)))

-- ---- grains: a finite value that fits is a whole number of them
whole_grains : (e : ℤ) → T (leb (down e) (2 ^ 1074)) → (w : ℕ) × (2 ^ 1074 ≡ w * down e)
whole_grains (pos k) h = (2 ^ 1074, sym (mul-one (2 ^ 1074)))
whole_grains (negsuc k) h =
    (2 ^ (1074 - suc k), ap (λ (j : ℕ). 2 ^ j) (sym (sub-add_cancel (exponent k (leb→le (2 ^ suc k) (2 ^ 1074) h)))) ∙ pow-add 2 (1074 - suc k) (suc k))
  where
    exponent : (k : ℕ) → 2 ^ suc k ≤ 2 ^ 1074 → suc k ≤ 1074
    exponent k l = either (dec_le (suc k) 1074)
      where
        either : Dec (suc k ≤ 1074) → suc k ≤ 1074
        either (yes h) = h
        either (no f) = absurd (not-le_of_lt (pow-lt (lt_of_not-le f)) l)

-- the numerator over any denominator of the form down e * k, in grains
in_grains : (s : Bool) (m : ℕ) (e : ℤ) → T (fits binary64 (fin s m e)) → (a : ℕ) × (m * up e * 2 ^ 1074 ≡ a * down e)
unfolding fits
in_grains s zero e h = (0, ap (λ (x : ℕ). x * 2 ^ 1074) (zero-mul (up e)) ∙ zero-mul (2 ^ 1074) ∙ sym (zero-mul (down e)))
in_grains s (suc m) e h =
    let z = whole_grains e (and_r (eqb (suc m % 2) 1 && ltb (suc m) (2 ^ 53)) (leb (down e) (2 ^ 1074)) (and_l (eqb (suc m % 2) 1 && ltb (suc m) (2 ^ 53) && leb (down e) (2 ^ 1074)) (ltb (suc m * up e) (2 ^ 1024 * down e)) h)) in
    (suc m * up e * z.0, ap (λ (x : ℕ). suc m * up e * x) z.1 ∙ sym (mul_assoc (suc m * up e) z.0 (down e)))

-- ---- the law
more_at : (s : Bool) (a w b d : ℕ) → a * w ≡ b * d → more s a * w ≡ more s b * d
more_at true a w b d h = zero-mul w ∙ sym (zero-mul d)
more_at false a w b d h = h

less_at : (s : Bool) (a w b d : ℕ) → a * w ≡ b * d → less s a * w ≡ less s b * d
less_at true a w b d h = h
less_at false a w b d h = zero-mul w ∙ sym (zero-mul d)

-- (p * g + q * d) / (d * g), of p / d and q / g in grains
join : (p q d g w a b : ℕ) → p * w ≡ a * d → q * w ≡ b * g → (p * g + q * d) * w ≡ (a + b) * (d * g)
join p q d g w a b h k =
    let x : p * w * g ≡ a * d * g = ap (λ (z : ℕ). z * g) h in
    let y : q * w * d ≡ b * g * d = ap (λ (z : ℕ). z * d) k in
    omega arith

-- equality, by what is added and what is taken away
same : (x y : Bool) → (x ≡ true → y ≡ true) → (y ≡ true → x ≡ true) → x ≡ y
same true y f g = sym (f refl)
same false true f g = g refl
same false false f g = refl

and_true : (a b : Bool) → a ≡ true → b ≡ true → (a && b) ≡ true
and_true a b h k = ap (λ (x : Bool). x && b) h ∙ k

and_split : (a b : Bool) → (a && b) ≡ true → (a ≡ true) × (b ≡ true)
and_split true b h = (refl, h)
and_split false b h = absurd (true≢false (sym h))

level_is : (s : Bool) (a : ℕ) (t : Bool) (b : ℕ) → eqb (more s a + more (not t) b) (less s a + less (not t) b) ≡ level s a t b
level_is false a false b =
    same (eqb (a + 0) (0 + b)) (eqb a b && true)
    (λ h. let z : a + 0 ≡ 0 + b = eqb-true _ _ h in and_true (eqb a b) true (eq-eqb a b (omega arith)) refl)
    (λ h. let z : a ≡ b = eqb-true a b (and_split (eqb a b) true h).0 in eq-eqb (a + 0) (0 + b) (omega arith))
level_is true a true b =
    same (eqb (0 + b) (a + 0)) (eqb a b && true)
    (λ h. let z : 0 + b ≡ a + 0 = eqb-true _ _ h in and_true (eqb a b) true (eq-eqb a b (omega arith)) refl)
    (λ h. let z : a ≡ b = eqb-true a b (and_split (eqb a b) true h).0 in eq-eqb (0 + b) (a + 0) (omega arith))
level_is false a true b =
    same (eqb (a + b) (0 + 0)) (eqb a b && eqb a 0)
    (λ h. let z : a + b ≡ 0 + 0 = eqb-true _ _ h in and_true (eqb a b) (eqb a 0) (eq-eqb a b (omega arith)) (eq-eqb a 0 (omega arith)))
    (λ h.
    let z : a ≡ b = eqb-true a b (and_split (eqb a b) (eqb a 0) h).0 in
    let y : a ≡ 0 = eqb-true a 0 (and_split (eqb a b) (eqb a 0) h).1 in
    eq-eqb (a + b) (0 + 0) (omega arith))
level_is true a false b =
    same (eqb (0 + 0) (a + b)) (eqb a b && eqb a 0)
    (λ h. let z : 0 + 0 ≡ a + b = eqb-true _ _ h in and_true (eqb a b) (eqb a 0) (eq-eqb a b (omega arith)) (eq-eqb a 0 (omega arith)))
    (λ h.
    let z : a ≡ b = eqb-true a b (and_split (eqb a b) (eqb a 0) h).0 in
    let y : a ≡ 0 = eqb-true a 0 (and_split (eqb a b) (eqb a 0) h).1 in
    eq-eqb (0 + 0) (a + b) (omega arith))

sub_at : (s : Bool) (m : ℕ) (e : ℤ) (t : Bool) (n : ℕ) (d : ℤ) → T (fits binary64 (fin s m e)) → T (fits binary64 (fin t n d)) → eq (add binary64 (fin s m e) (fin (not t) n d)) (fin false 0 (pos 0)) ≡ level s (m * up e * down d) t (n * up d * down e)
sub_at s m e t n d f g =
    let M = m * up e in
    let N = n * up d in
    let a = in_grains s m e f in
    let b = in_grains t n d g in
    rounds_zero (add binary64 (fin s m e) (fin (not t) n d)) (more s M * down d + more (not t) N * down e) (less s M * down d + less (not t) N * down e) (down e * down d)
    (more s a.0 + more (not t) b.0) (less s a.0 + less (not t) b.0)
    (add_fin s m e (not t) n d) (mul-pos (down_pos e) (down_pos d))
    (join (more s M) (more (not t) N) (down e) (down d) (2 ^ 1074) (more s a.0) (more (not t) b.0) (more_at s M (2 ^ 1074) a.0 (down e) a.1) (more_at (not t) N (2 ^ 1074) b.0 (down d) b.1))
    (join (less s M) (less (not t) N) (down e) (down d) (2 ^ 1074) (less s a.0) (less (not t) b.0) (less_at s M (2 ^ 1074) a.0 (down e) a.1) (less_at (not t) N (2 ^ 1074) b.0 (down d) b.1))
    ∙ ap (λ (x : ℕ). eqb (x + more (not t) N * down e) (less s M * down d + less (not t) N * down e)) (sym (more_mul s M (down d)))
    ∙ ap (λ (x : ℕ). eqb (more s (M * down d) + x) (less s M * down d + less (not t) N * down e)) (sym (more_mul (not t) N (down e)))
    ∙ ap (λ (x : ℕ). eqb (more s (M * down d) + more (not t) (N * down e)) (x + less (not t) N * down e)) (sym (less_mul s M (down d)))
    ∙ ap (λ (x : ℕ). eqb (more s (M * down d) + more (not t) (N * down e)) (less s (M * down d) + x)) (sym (less_mul (not t) N (down e)))
    ∙ level_is s (M * down d) t (N * down e)

-- x - y is a zero just where x equals y
pub sub_zero : (x y : Float) → T (fits binary64 x) → T (fits binary64 y) → T (is_finite x) → T (is_finite y) → eq (sub binary64 x y) (fin false 0 (pos 0)) ≡ eq x y
unfolding is_finite sub neg eq
sub_zero nan y f g h k = absurd h
sub_zero (inf s) y f g h k = absurd h
sub_zero (fin s m e) nan f g h k = absurd k
sub_zero (fin s m e) (inf t) f g h k = absurd k
sub_zero (fin s m e) (fin t n d) f g h k = sub_at s m e t n d f g

-- ---- the sign of a difference is the order of its parts
plus_not_below : (v : Float) → T (plus v) → lt v (fin false 0 (pos 0)) ≡ false
unfolding plus lt
plus_not_below nan h = refl
plus_not_below (inf true) h = absurd h
plus_not_below (inf false) h = refl
plus_not_below (fin true m e) h = absurd h
plus_not_below (fin false m e) h = le-ltb (m * up e * 1) (0 * down e) (subst (λ (z : ℕ). z ≤ m * up e * 1) (sym (zero-mul (down e))) zero-le)

minus_below : (v : Float) → T (plus v) → eq v (fin false 0 (pos 0)) ≡ false → lt (neg v) (fin false 0 (pos 0)) ≡ true
unfolding plus lt eq neg
minus_below nan h k = absurd h
minus_below (inf true) h k = absurd h
minus_below (inf false) h k = refl
minus_below (fin true m e) h k = absurd h
minus_below (fin false m e) h k = lt-ltb 0 (m * up e * 1 + 0 * down e) (some (m * up e * 1) (0 * down e) (zero-mul (down e)) (differs (eqb (m * up e * 1) (0 * down e)) k))
  where
    differs : (a : Bool) → (a && true) ≡ false → a ≡ false
    differs true h = h
    differs false h = h

    some : (a z : ℕ) → z ≡ 0 → eqb a z ≡ false → 0 < a + z
    some a z e h = let f : a ≡ z → ⊥ = eqb-false a z h in omega arith

minus_zero : lt (neg (fin false 0 (pos 0))) (fin false 0 (pos 0)) ≡ false
unfolding lt neg
minus_zero = refl

rounds_sign : (v : Float) (p n c i j : ℕ) → Rounds v p n c → 0 < c → p * 2 ^ 1074 ≡ i * c → n * 2 ^ 1074 ≡ j * c → lt v (fin false 0 (pos 0)) ≡ ltb p n
unfolding Rounds
rounds_sign v p n c i j (inl (g, e, r)) C P N =
    ap (λ (x : Float). lt x (fin false 0 (pos 0))) r ∙ plus_not_below (round binary64 false g c) (plus_round g c) ∙ sym (le-ltb p n (at g n p e))
  where
    at : (g n p : ℕ) → n + g ≡ p → n ≤ p
    at g n p e = omega arith
rounds_sign v p n c i j (inr (g, e, r)) C P N = ap (λ (x : Float). lt x (fin false 0 (pos 0))) (r ∙ sym (round_neg g c)) ∙ go g e
  where
    go : (g : ℕ) → p + g ≡ n → lt (neg (round binary64 false g c)) (fin false 0 (pos 0)) ≡ ltb p n
    go zero e =
        ap (λ (x : Float). lt (neg x) (fin false 0 (pos 0))) (zero_round false c C) ∙ minus_zero ∙ sym (le-ltb p n (at p n e))
      where
        at : (p n : ℕ) → p + 0 ≡ n → n ≤ p
        at p n e = omega arith
    go (suc g) e =
        minus_below (round binary64 false (suc g) c) (plus_round (suc g) c) (some_round (suc g) c C (distance_between (suc g) p n (2 ^ 1074) c j i (zero-lt-suc g) (pow_pos 1074) e N P))
        ∙ sym (lt-ltb p n (at g p n e))
      where
        at : (g p n : ℕ) → p + suc g ≡ n → p < n
        at g p n e = omega arith

below_is : (s : Bool) (a : ℕ) (t : Bool) (b : ℕ) → ltb (more s a + more (not t) b) (less s a + less (not t) b) ≡ below s a t b
below_is false a false b = ap (λ (x : ℕ). ltb x (0 + b)) (add-zero a) ∙ ap (ltb a) (zero-add b)
below_is true a true b = ap (λ (x : ℕ). ltb x (a + 0)) (zero-add b) ∙ ap (ltb b) (add-zero a)
below_is false a true b = le-ltb (a + b) 0 zero-le
below_is true a false b = refl

sign_at : (s : Bool) (m : ℕ) (e : ℤ) (t : Bool) (n : ℕ) (d : ℤ) → T (fits binary64 (fin s m e)) → T (fits binary64 (fin t n d)) → lt (add binary64 (fin s m e) (fin (not t) n d)) (fin false 0 (pos 0)) ≡ below s (m * up e * down d) t (n * up d * down e)
sign_at s m e t n d f g =
    let M = m * up e in
    let N = n * up d in
    let a = in_grains s m e f in
    let b = in_grains t n d g in
    rounds_sign (add binary64 (fin s m e) (fin (not t) n d)) (more s M * down d + more (not t) N * down e) (less s M * down d + less (not t) N * down e) (down e * down d)
    (more s a.0 + more (not t) b.0) (less s a.0 + less (not t) b.0)
    (add_fin s m e (not t) n d) (mul-pos (down_pos e) (down_pos d))
    (join (more s M) (more (not t) N) (down e) (down d) (2 ^ 1074) (more s a.0) (more (not t) b.0) (more_at s M (2 ^ 1074) a.0 (down e) a.1) (more_at (not t) N (2 ^ 1074) b.0 (down d) b.1))
    (join (less s M) (less (not t) N) (down e) (down d) (2 ^ 1074) (less s a.0) (less (not t) b.0) (less_at s M (2 ^ 1074) a.0 (down e) a.1) (less_at (not t) N (2 ^ 1074) b.0 (down d) b.1))
    ∙ ap (λ (x : ℕ). ltb (x + more (not t) N * down e) (less s M * down d + less (not t) N * down e)) (sym (more_mul s M (down d)))
    ∙ ap (λ (x : ℕ). ltb (more s (M * down d) + x) (less s M * down d + less (not t) N * down e)) (sym (more_mul (not t) N (down e)))
    ∙ ap (λ (x : ℕ). ltb (more s (M * down d) + more (not t) (N * down e)) (x + less (not t) N * down e)) (sym (less_mul s M (down d)))
    ∙ ap (λ (x : ℕ). ltb (more s (M * down d) + more (not t) (N * down e)) (less s (M * down d) + x)) (sym (less_mul (not t) N (down e)))
    ∙ below_is s (M * down d) t (N * down e)

-- x - y is below zero just where x is below y
pub sub_sign : (x y : Float) → T (fits binary64 x) → T (fits binary64 y) → T (is_finite x) → T (is_finite y) → lt (sub binary64 x y) (fin false 0 (pos 0)) ≡ lt x y
unfolding is_finite sub neg lt
sub_sign nan y f g h k = absurd h
sub_sign (inf s) y f g h k = absurd h
sub_sign (fin s m e) nan f g h k = absurd k
sub_sign (fin s m e) (inf t) f g h k = absurd k
sub_sign (fin s m e) (fin t n d) f g h k = sign_at s m e t n d f g

-- ---- the order of the parts of a sum does not matter
-- a - b and (- b) + a, by the tests that `sum` makes
cross_comm : (a b c : ℕ) → cond (ltb a b) (round binary64 true (b - a) c) (round binary64 (false && ltb b a) (a - b) c) ≡ cond (ltb b a) (round binary64 false (a - b) c) (round binary64 (true && ltb a b) (b - a) c)
cross_comm a b c = go (dec_le b a)
  where
    left : Bool → Float
    left x = cond x (round binary64 true (b - a) c) (round binary64 false (a - b) c)

    right : Bool → Bool → Float
    right x y = cond x (round binary64 false (a - b) c) (round binary64 y (b - a) c)

    over : b ≤ a → (b ≡ a) ⊎ (b < a) → left (ltb a b) ≡ right (ltb b a) (ltb a b)
    over h (inl e) =
        ap left (le-ltb a b h)
        ∙ ap (λ (x : ℕ). round binary64 false x c) (same a b e)
        ∙ sym (ap (λ (x : Bool). right x (ltb a b)) (le-ltb b a (le_of_eq (sym e))) ∙ ap (right false) (le-ltb a b h))
      where
        same : (a b : ℕ) → b ≡ a → a - b ≡ b - a
        same a b e = omega arith
    over h (inr l) = ap left (le-ltb a b h) ∙ sym (ap (λ (x : Bool). right x (ltb a b)) (lt-ltb b a l))

    go : Dec (b ≤ a) → left (ltb a b) ≡ right (ltb b a) (ltb a b)
    go (yes h) = over h (eq-or-lt_of_le h)
    go (no f) =
        let l : a < b = lt_of_not-le f in
        ap left (lt-ltb a b l) ∙ sym (ap (λ (x : Bool). right x (ltb a b)) (le-ltb b a (le_of_lt l)) ∙ ap (right false) (lt-ltb a b l))

sum_comm : (s : Bool) (a : ℕ) (t : Bool) (b c : ℕ) → sum binary64 s a t b c ≡ sum binary64 t b s a c
unfolding sum
sum_comm false a false b c = ap (λ (x : ℕ). round binary64 false x c) (add_comm a b)
sum_comm true a true b c = ap (λ (x : ℕ). round binary64 true x c) (add_comm a b)
sum_comm false a true b c = cross_comm a b c
sum_comm true a false b c = sym (cross_comm b a c)

pub add_commutes : (x y : Float) → add binary64 x y ≡ add binary64 y x
unfolding add
add_commutes nan nan = refl
add_commutes nan (inf t) = refl
add_commutes nan (fin t n d) = refl
add_commutes (inf s) nan = refl
add_commutes (inf true) (inf true) = refl
add_commutes (inf true) (inf false) = refl
add_commutes (inf false) (inf true) = refl
add_commutes (inf false) (inf false) = refl
add_commutes (inf s) (fin t n d) = refl
add_commutes (fin s m e) nan = refl
add_commutes (fin s m e) (inf t) = refl
add_commutes (fin s m e) (fin t n d) = sum_comm s (m * up e * down d) t (n * up d * down e) (down e * down d) ∙ ap (sum binary64 t (n * up d * down e) s (m * up e * down d)) (mul_comm (down e) (down d))
