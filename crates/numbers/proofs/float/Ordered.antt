-- The order of floats, infinite ones included: it is transitive, and what isn't below is at or above. Larger and smaller of two keep it. Assumes nothing.
use Rattle.std.proofs.Common.{◌≡◌, ℕ, zero, suc, ◌+◌, ◌*◌, ◌<◌, ◌≤◌, Bool, true, false, cond, not, ◌&&◌, ◌||◌, T, eqb, ltb, sym, refl, ap, ◌∙◌, subst, true≢false, mul-pos, zero-mul, arith, eqb→eq, ltb-false, eq-eqb}
use lib.Ieee.{Float, nan, inf, fin, up, down, below, level, lt, le, eq, is_nan}
use lib.Ieee.Fits.{down_pos, and_l, and_r}
use lib.Ieee.Positive.{through}
use Rattle.numbers.specs.Small.{max_of, min_of}
use Rattle.numbers.proofs.float.Keys.{not_both, le_of_lt_float}
use Rattle.numbers.proofs.float.Sums.{le_number, le_number_2}

pub lift : (b : Bool) → b ≡ true → T b
lift true h = tt
lift false h = absurd (true≢false (sym h))

pub fall : (b : Bool) → T b → b ≡ true
fall true h = refl
fall false h = absurd h

-- ---- two fractions of the signs s and t, by their sizes crosswise
Cross : Bool → Bool → ℕ → ℕ → Type 0
Cross false false x y = x ≤ y
Cross true true x y = y ≤ x
Cross true false x y = Unit {0}
Cross false true x y = (x ≡ 0) × (y ≡ 0)

to_cross : (s t : Bool) (a b : ℕ) → T (below s a t b || level s a t b) → Cross s t a b
unfolding Cross
to_cross false false a b h = le_number a b h
to_cross true true a b h = le_number_2 a b h
to_cross true false a b h = tt
to_cross false true a b h =
    let p : a ≡ b = eqb→eq a b (and_l (eqb a b) (eqb a 0) h) in
    let q : a ≡ 0 = eqb→eq a 0 (and_r (eqb a b) (eqb a 0) h) in
    (q, sym p ∙ q)

of_cross : (s t : Bool) (a b : ℕ) → Cross s t a b → T (below s a t b || level s a t b)
unfolding Cross
of_cross false false a b h = go (ltb a b) refl
  where
    go : (x : Bool) → ltb a b ≡ x → T (x || (eqb a b && true))
    go true e = tt
    go false e = let same : a ≡ b = omega (arith, h, ltb-false a b e) in subst (λ (x : Bool). T (x && true)) (sym (eq-eqb a b same)) tt
of_cross true true a b h = go (ltb b a) refl
  where
    go : (x : Bool) → ltb b a ≡ x → T (x || (eqb a b && true))
    go true e = tt
    go false e = let same : a ≡ b = omega (arith, h, ltb-false b a e) in subst (λ (x : Bool). T (x && true)) (sym (eq-eqb a b same)) tt
of_cross true false a b h = go (ltb 0 (a + b)) refl
  where
    go : (x : Bool) → ltb 0 (a + b) ≡ x → T (x || (eqb a b && eqb a 0))
    go true e = tt
    go false e =
        let l : a + b ≤ 0 = ltb-false 0 (a + b) e in
        let p : a ≡ b = omega arith in
        let q : a ≡ 0 = omega arith in
        subst (λ (x : Bool). T (x && eqb a 0)) (sym (eq-eqb a b p)) (subst T (sym (eq-eqb a 0 q)) tt)
of_cross false true a b h =
    let p : a ≡ b = h.0 ∙ sym h.1 in
    subst (λ (x : Bool). T (x && eqb a 0)) (sym (eq-eqb a b p)) (subst T (sym (eq-eqb a 0 h.0)) tt)

none : (a d : ℕ) → 0 < d → a * d ≡ 0 → a ≡ 0
none zero d D h = refl
none (suc a) d D h = absurd (never (suc a * d) (mul-pos (one a) D) h)
  where
    never : (i : ℕ) → 0 < i → i ≡ 0 → ⊥
    never i p q = omega arith

    one : (x : ℕ) → 0 < suc x
    one x = omega arith

module _ (a d b e c f : ℕ) (D : 0 < d) (E : 0 < e) (F : 0 < f) where
  under : a * e ≤ b * d → b ≡ 0 → a ≡ 0
  under h z = none a e E (least (a * e) (b * d) h (ap (λ (x : ℕ). x * d) z ∙ zero-mul d))
    where
      least : (x y : ℕ) → x ≤ y → y ≡ 0 → x ≡ 0
      least x y h k = omega arith

  gone : (x y : ℕ) → x ≡ 0 → x * y ≡ 0
  gone x y h = ap (λ (z : ℕ). z * y) h ∙ zero-mul y

  first_least : a ≡ 0 → a * f ≤ c * d
  first_least h = least (a * f) (c * d) (gone a f h)
    where
      least : (x y : ℕ) → x ≡ 0 → x ≤ y
      least x y h = omega arith

  last_least : c ≡ 0 → c * d ≤ a * f
  last_least h = least (c * d) (a * f) (gone c d h)
    where
      least : (x y : ℕ) → x ≡ 0 → x ≤ y
      least x y h = omega arith

  cross_trans : (s t u : Bool) → Cross s t (a * e) (b * d) → Cross t u (b * f) (c * e) → Cross s u (a * f) (c * d)
  unfolding Cross
  cross_trans false false false h k = through a b c d e f E h k
  cross_trans false false true h k = (gone a f (under h (none b f F k.0)), gone c d (none c e E k.1))
  cross_trans false true false h k = first_least (none a e E h.0)
  cross_trans false true true h k = (gone a f (none a e E h.0), gone c d (none c e E (least (c * e) (b * f) k (gone b f (none b d D h.1)))))
    where
      least : (x y : ℕ) → x ≤ y → y ≡ 0 → x ≡ 0
      least x y h k = omega arith
  cross_trans true false false h k = tt
  cross_trans true false true h k = last_least (none c e E k.1)
  cross_trans true true false h k = tt
  cross_trans true true true h k = through c b a f e d E k h

-- ---- floats
pub le_right : (x y : Float) → T (le x y) → T (not (is_nan y))
unfolding le lt eq is_nan
le_right nan y h = absurd h
le_right (inf s) nan h = absurd h
le_right (inf s) (inf t) h = tt
le_right (inf s) (fin t n d) h = tt
le_right (fin s m e) nan h = absurd h
le_right (fin s m e) (inf t) h = tt
le_right (fin s m e) (fin t n d) h = tt

pub le_left : (x y : Float) → T (le x y) → T (not (is_nan x))
unfolding le lt eq is_nan
le_left nan y h = absurd h
le_left (inf s) y h = tt
le_left (fin s m e) y h = tt

pub low_le : (x : Float) → T (not (is_nan x)) → T (le (inf true) x)
unfolding le lt eq is_nan
low_le nan h = absurd h
low_le (inf true) h = tt
low_le (inf false) h = tt
low_le (fin s m e) h = tt

pub le_high : (x : Float) → T (not (is_nan x)) → T (le x (inf false))
unfolding le lt eq is_nan
le_high nan h = absurd h
le_high (inf true) h = tt
le_high (inf false) h = tt
le_high (fin s m e) h = tt

pub float_trans : (x y z : Float) → T (le x y) → T (le y z) → T (le x z)
unfolding le lt eq
float_trans nan y z h k = absurd h
float_trans (inf true) y z h k = low_le z (le_right y z k)
float_trans (inf false) nan z h k = absurd h
float_trans (inf false) (inf true) z h k = absurd h
float_trans (inf false) (inf false) z h k = k
float_trans (inf false) (fin t n d) z h k = absurd h
float_trans (fin s m e) nan z h k = absurd h
float_trans (fin s m e) (inf true) z h k = absurd h
float_trans (fin s m e) (inf false) nan h k = absurd k
float_trans (fin s m e) (inf false) (inf true) h k = absurd k
float_trans (fin s m e) (inf false) (inf false) h k = tt
float_trans (fin s m e) (inf false) (fin u i j) h k = absurd k
float_trans (fin s m e) (fin t n d) nan h k = absurd k
float_trans (fin s m e) (fin t n d) (inf true) h k = absurd k
float_trans (fin s m e) (fin t n d) (inf false) h k = tt
float_trans (fin s m e) (fin t n d) (fin u i j) h k =
    of_cross s u (m * up e * down j) (i * up j * down e)
    (cross_trans (m * up e) (down e) (n * up d) (down d) (i * up j) (down j) (down_pos e) (down_pos d) (down_pos j) s t u
    (to_cross s t (m * up e * down d) (n * up d * down e) h) (to_cross t u (n * up d * down j) (i * up j * down d) k))

at_or_above : (s t : Bool) (a b : ℕ) → below s a t b ≡ false → Cross t s b a
unfolding Cross
at_or_above false false a b h = ltb-false a b h
at_or_above true true a b h = ltb-false b a h
at_or_above false true a b h = tt
at_or_above true false a b h = let l : a + b ≤ 0 = ltb-false 0 (a + b) h in (omega arith, omega arith)

pub not_below : (x y : Float) → T (not (is_nan x)) → T (not (is_nan y)) → lt x y ≡ false → T (le y x)
unfolding le lt eq is_nan
not_below nan y h k l = absurd h
not_below (inf s) nan h k l = absurd k
not_below (inf true) (inf true) h k l = tt
not_below (inf true) (inf false) h k l = absurd (true≢false l)
not_below (inf false) (inf true) h k l = tt
not_below (inf false) (inf false) h k l = tt
not_below (inf true) (fin t n d) h k l = absurd (true≢false l)
not_below (inf false) (fin t n d) h k l = tt
not_below (fin s m e) nan h k l = absurd k
not_below (fin s m e) (inf true) h k l = tt
not_below (fin s m e) (inf false) h k l = absurd (true≢false l)
not_below (fin s m e) (fin t n d) h k l = of_cross t s (n * up d * down e) (m * up e * down d) (at_or_above s t (m * up e * down d) (n * up d * down e) l)

-- at most, then below, then at most: below
pub below_through : (w x y z : Float) → T (le w x) → lt x y ≡ true → T (le y z) → lt w z ≡ true
below_through w x y z h k l = go (lt w z) refl
  where
    go : (b : Bool) → lt w z ≡ b → lt w z ≡ true
    go true e = e
    go false e = absurd (not_both x y (lift (lt x y) k) (float_trans y z x l (float_trans z w x (not_below w z (le_left w x h) (le_right y z l) e) h)))

-- the larger and the smaller of two keep the order
pub max_keeps : (a a' b b' : Float) → T (le a a') → T (le b b') → T (le (max_of a b) (max_of a' b'))
unfolding max_of
max_keeps a a' b b' h k = go (lt a b) (lt a' b') refl refl
  where
    go : (x y : Bool) → lt a b ≡ x → lt a' b' ≡ y → T (le (cond x b a) (cond y b' a'))
    go true true p q = k
    go true false p q = float_trans b b' a' k (not_below a' b' (le_right a a' h) (le_right b b' k) q)
    go false true p q = float_trans a a' b' h (le_of_lt_float a' b' (lift (lt a' b') q))
    go false false p q = h

pub min_keeps : (a a' b b' : Float) → T (le a a') → T (le b b') → T (le (min_of a b) (min_of a' b'))
unfolding min_of
min_keeps a a' b b' h k = go (lt b a) (lt b' a') refl refl
  where
    go : (x y : Bool) → lt b a ≡ x → lt b' a' ≡ y → T (le (cond x b a) (cond y b' a'))
    go true true p q = k
    go true false p q = float_trans b a a' (le_of_lt_float b a (lift (lt b a) p)) h
    go false true p q = float_trans a b b' (not_below b a (le_left b b' k) (le_left a a' h) p) k
    go false false p q = h

-- ---- equal floats
pub same_le : (x y : Float) → eq x y ≡ true → T (le x y)
unfolding le
same_le x y h = go (lt x y) (eq x y) h
  where
    go : (a b : Bool) → b ≡ true → T (a || b)
    go true b h = tt
    go false b h = lift b h

level_turned : (s t : Bool) (a b : ℕ) → T (level s a t b) → Cross t s b a
unfolding Cross
level_turned false false a b h = let e : a ≡ b = eqb→eq a b (and_l (eqb a b) true h) in omega arith
level_turned true true a b h = let e : a ≡ b = eqb→eq a b (and_l (eqb a b) true h) in omega arith
level_turned false true a b h = tt
level_turned true false a b h =
    let p : a ≡ b = eqb→eq a b (and_l (eqb a b) (eqb a 0) h) in
    let q : a ≡ 0 = eqb→eq a 0 (and_r (eqb a b) (eqb a 0) h) in
    (sym p ∙ q, q)

pub same_ge : (x y : Float) → eq x y ≡ true → T (le y x)
unfolding le lt eq
same_ge nan y h = absurd (true≢false (sym h))
same_ge (inf s) nan h = absurd (true≢false (sym h))
same_ge (inf true) (inf true) h = tt
same_ge (inf true) (inf false) h = absurd (true≢false (sym h))
same_ge (inf false) (inf true) h = absurd (true≢false (sym h))
same_ge (inf false) (inf false) h = tt
same_ge (inf s) (fin t n d) h = absurd (true≢false (sym h))
same_ge (fin s m e) nan h = absurd (true≢false (sym h))
same_ge (fin s m e) (inf t) h = absurd (true≢false (sym h))
same_ge (fin s m e) (fin t n d) h = of_cross t s (n * up d * down e) (m * up e * down d) (level_turned s t (m * up e * down d) (n * up d * down e) (lift _ h))

-- at most, and not below: equal
pub le_same : (x y : Float) → T (le x y) → lt x y ≡ false → eq x y ≡ true
unfolding le
le_same x y h k = go (lt x y) (eq x y) h k
  where
    go : (a b : Bool) → T (a || b) → a ≡ false → b ≡ true
    go true b h k = absurd (true≢false k)
    go false b h k = fall b h

-- below is at most, and what is at most isn't above
pub below_le : (x y : Float) → lt x y ≡ true → T (le x y)
below_le x y h = le_of_lt_float x y (lift (lt x y) h)

pub not_above : (x y : Float) → T (le x y) → lt y x ≡ false
not_above x y h = go (lt y x) refl
  where
    go : (b : Bool) → lt y x ≡ b → b ≡ false
    go true e = absurd (not_both y x (lift (lt y x) e) h)
    go false e = refl
