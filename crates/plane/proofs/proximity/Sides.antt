-- A hypotenuse is at least as long as each side: where a side exceeds a bound, the hypotenuse is not within it. Assumes nothing.
use mathlib.Core.Path.{◌≡◌, refl, sym, ap, ◌∙◌, subst}
use mathlib.Core.Logic.{◌⊎◌, inl, inr}
use mathlib.Core.Bool.{Bool, true, false, cond, true≢false}
use Prim.Native.Nat.{ℕ, ◌+◌, ◌*◌, ◌≤◌, ◌<◌}
use native.Mathlib.Nat.{mul-pos, zero-mul, eq-zero-or-pos}
use native.Mathlib.Omega.{arith}
use lib.Dec.{T, ltb, eqb, ltb→lt, eqb→eq}
use lib.IntN.{ℤ}
use lib.Ieee.{Float, nan, inf, fin, up, down, lt, le, eq, neg, add, fits, of_bits, binary64}
use borrow.Author.Tests.{lt-ltb, ltb-true}
use lib.Ieee.Fits.{down_pos, and_l, and_r}
use lib.Ieee.Positive.{through}
use Rattle.numbers.specs.Small.{abs_of, max_of, min_of, is_finite}
use Rattle.numbers.specs.Hypot.{hypot_of}
use Rattle.numbers.proofs.float.Keys.{plus, not_both, le_of_lt_float}
use Rattle.numbers.proofs.float.Sums.{le_number}
use Rattle.numbers.proofs.float.Hypots.{hypot_above, hypot_comm}
use Rattle.numbers.proofs.float.Bounds.{hypot_plus, hypot_under, le_through, unsigned, abs_unsigned, add_unsigned, abs_finite, add_finite, size_of}
use Rattle.numbers.proofs.float.Extremes.{max_first, max_second, min_first}
use Rattle.numbers.specs.Order.{pick}
use Rattle.numbers.specs.Ops.{f0}
use Rattle.plane.specs.Near.{NotPast, nearer}

-- ---- b below a, a at most h and h at most b can't all be
-- of fractions b / p, a / q, h / r
pub cycle : (b p a q h r : ℕ) → 0 < r → b * q < a * p → a * r ≤ h * q → h * p ≤ b * r → ⊥
cycle b p a q h r R l m n = no (through a h b q r p R m n)
  where
    no : a * p ≤ b * q → ⊥
    no k = omega arith

none : (a p : ℕ) → 0 < p → a * p ≡ 0 → a ≡ 0
none a p P e = go (eq-zero-or-pos a)
  where
    no : 0 < a * p → ⊥
    no h = omega arith

    go : (a ≡ 0) ⊎ (0 < a) → a ≡ 0
    go (inl z) = z
    go (inr h) = absurd (no (mul-pos h P))

-- of the fractions - b / p, a / q, h / r
minus_cycle : (b p a q h r : ℕ) → 0 < p → 0 < r → 0 < b * q + a * p → a * r ≤ h * q → h * p ≡ b * r → h * p ≡ 0 → ⊥
minus_cycle b p a q h r P R l m n z =
    let b0 : b ≡ 0 = none b r R (sym n ∙ z) in
    let h0 : h * q ≡ 0 = ap (λ (t : ℕ). t * q) (none h p P z) ∙ zero-mul q in
    let a0 : a ≡ 0 = none a r R (least h0) in
    no (ap (λ (t : ℕ). t * q) b0 ∙ zero-mul q) (ap (λ (t : ℕ). t * p) a0 ∙ zero-mul p)
  where
    least : h * q ≡ 0 → a * r ≡ 0
    least e = omega arith

    no : b * q ≡ 0 → a * p ≡ 0 → ⊥
    no e f = omega arith

past : (b a h : Float) → T (is_finite a) → T (plus a) → T (plus h) → T (lt b a) → T (le a h) → T (le h b) → ⊥
unfolding is_finite plus lt le eq
past nan a h F A H l m n = l
past (inf s) nan h F A H l m n = F
past (inf s) (inf t) h F A H l m n = F
past (inf false) (fin t k c) h F A H l m n = l
past (inf true) (fin t k c) nan F A H l m n = H
past (inf true) (fin t k c) (inf true) F A H l m n = H
past (inf true) (fin t k c) (inf false) F A H l m n = n
past (inf true) (fin t k c) (fin u i d) F A H l m n = n
past (fin s j e) nan h F A H l m n = F
past (fin s j e) (inf t) h F A H l m n = F
past (fin s j e) (fin true k c) h F A H l m n = A
past (fin s j e) (fin false k c) nan F A H l m n = H
past (fin s j e) (fin false k c) (inf true) F A H l m n = H
past (fin s j e) (fin false k c) (inf false) F A H l m n = n
past (fin s j e) (fin false k c) (fin true i d) F A H l m n = H
past (fin false j e) (fin false k c) (fin false i d) F A H l m n =
    cycle (j * up e) (down e) (k * up c) (down c) (i * up d) (down d) (down_pos d) (ltb→lt _ _ l) (le_number _ _ m) (le_number _ _ n)
past (fin true j e) (fin false k c) (fin false i d) F A H l m n =
    minus_cycle (j * up e) (down e) (k * up c) (down c) (i * up d) (down d) (down_pos e) (down_pos d) (ltb→lt _ _ l) (le_number _ _ m)
    (eqb→eq _ _ (and_l (eqb (i * up d * down e) (j * up e * down d)) (eqb (i * up d * down e) 0) n))
    (eqb→eq _ _ (and_r (eqb (i * up d * down e) (j * up e * down d)) (eqb (i * up d * down e) 0) n))

-- ---- a test's answer
truth : (b : Bool) → b ≡ true → T b
truth b h = subst T (sym h) tt

untrue : (b : Bool) → (T b → ⊥) → b ≡ false
untrue true h = absurd (h tt)
untrue false h = refl

below_nan : (b : Float) → lt b nan ≡ false
unfolding lt
below_nan nan = refl
below_nan (inf s) = refl
below_nan (fin s m e) = refl

-- what is below something is below infinity
below_inf : (b a : Float) → lt b a ≡ true → le (inf false) b ≡ false
unfolding lt le eq
below_inf nan a h = refl
below_inf (inf true) a h = refl
below_inf (inf false) nan h = absurd (true≢false (sym h))
below_inf (inf false) (inf t) h = absurd (true≢false (sym h))
below_inf (inf false) (fin t k c) h = absurd (true≢false (sym h))
below_inf (fin s m e) a h = refl

finite : (b x y : Float) → T (is_finite x) → T (is_finite y) → T (is_finite (abs_of x)) → T (plus (abs_of x)) → T (fits binary64 x) → lt b (abs_of x) ≡ true → le (hypot_of x y) b ≡ false
finite b x y X Y A P f h =
    untrue (le (hypot_of x y) b)
    (past b (abs_of x) (hypot_of x y) A P (hypot_plus x y X Y)
    (truth (lt b (abs_of x)) h) (hypot_above x y f X Y))

-- where a side exceeds b, the hypotenuse is not at most b
pub hypot_past : (b x y : Float) → T (fits binary64 x) → lt b (abs_of x) ≡ true → le (hypot_of x y) b ≡ false
unfolding abs_of hypot_of is_finite plus lt le eq
hypot_past b nan y f h = absurd (true≢false (sym h ∙ below_nan b))
hypot_past b (inf t) y f h = below_inf b (inf false) h
hypot_past b (fin t k c) nan f h = refl
hypot_past b (fin t k c) (inf u) f h = below_inf b (fin false k c) h
hypot_past b (fin t k c) (fin u i d) f h = finite b (fin t k c) (fin u i d) tt tt tt tt f h

-- the longer of two sides, each the greater of a number and its negative
-- what is below a negative number is below its negative
pub raise : (b : Float) (m : ℕ) (e : ℤ) → lt b (fin true m e) ≡ true → lt b (fin false m e) ≡ true
unfolding lt
raise nan m e h = h
raise (inf s) m e h = h
raise (fin false k c) m e h = absurd (true≢false (sym h))
raise (fin true k c) m e h = some (m * up e * down c) (k * up c * down e) h
  where
    some : (u v : ℕ) → ltb u v ≡ true → ltb 0 (v + u) ≡ true
    some u v l = let p : u < v = ltb-true u v l in lt-ltb 0 (v + u) (omega arith)

size_abs : (b x : Float) → lt b (max_of x (neg x)) ≡ true → lt b (abs_of x) ≡ true
unfolding max_of neg abs_of lt
size_abs b nan h = h
size_abs b (inf false) h = h
size_abs b (inf true) h = h
size_abs b (fin false m e) h = h
size_abs b (fin true m e) h = go (lt (fin true m e) (fin false m e)) h
  where
    go : (t : Bool) → lt b (cond t (fin false m e) (fin true m e)) ≡ true → lt b (fin false m e) ≡ true
    go true k = k
    go false k = raise b m e k

pub longer_past : (x y : Float) → T (fits binary64 x) → T (fits binary64 y) → NotPast (max_of (max_of x (neg x)) (max_of y (neg y))) (hypot_of x y)
longer_past x y f g = record { bound = λ b h. side b (lt u v) refl h }
  where
    u : Float
    u = max_of x (neg x)

    v : Float
    v = max_of y (neg y)

    side : (b : Float) (t : Bool) → lt u v ≡ t → lt b (max_of u v) ≡ true → le (hypot_of x y) b ≡ false
    side b true e h =
        ap (λ (w : Float). le w b) (hypot_comm x y) ∙ hypot_past b y x g (size_abs b y (subst (λ (w : Float). lt b w ≡ true) (max_second u v e) h))
    side b false e h = hypot_past b x y f (size_abs b x (subst (λ (w : Float). lt b w ≡ true) (max_first u v e) h))

-- a distance that is not at most b is no nearer
pub nearer_keeps : (b d : Float) → le d b ≡ false → b ≡ nearer b d
unfolding nearer
nearer_keeps b d h = sym (go (lt f0 d) (min_first b d (untrue (lt d b) (λ t. true≢false (sym (all (le d b) (le_of_lt_float d b t)) ∙ h)))))
  where
    all : (t : Bool) → T t → t ≡ true
    all true k = refl
    all false k = absurd k

    go : (t : Bool) → min_of b d ≡ b → pick t (min_of b d) b ≡ b
    go true e = e
    go false e = refl

-- ---- two sides that are shorter together

-- what is below something is finite, where its sign is clear; and then the greater's sign is clear too
below_finite : (a b : Float) → T (unsigned a) → lt a b ≡ true → T (is_finite a)
unfolding unsigned lt is_finite
below_finite nan b p h = absurd (true≢false (sym h))
below_finite (inf true) b p h = absurd p
below_finite (inf false) nan p h = absurd (true≢false (sym h))
below_finite (inf false) (inf t) p h = absurd (true≢false (sym h))
below_finite (inf false) (fin t n d) p h = absurd (true≢false (sym h))
below_finite (fin s m e) b p h = tt

above_plus : (a b : Float) → T (plus a) → lt a b ≡ true → T (plus b)
unfolding plus lt
above_plus nan b p h = absurd p
above_plus (inf true) b p h = absurd p
above_plus (inf false) nan p h = absurd (true≢false (sym h))
above_plus (inf false) (inf t) p h = absurd (true≢false (sym h))
above_plus (inf false) (fin t n d) p h = absurd (true≢false (sym h))
above_plus (fin true m e) b p h = absurd p
above_plus (fin false m e) nan p h = absurd (true≢false (sym h))
above_plus (fin false m e) (inf true) p h = absurd (true≢false (sym h))
above_plus (fin false m e) (inf false) p h = tt
above_plus (fin false m e) (fin true n d) p h = absurd (true≢false (sym h))
above_plus (fin false m e) (fin false n d) p h = tt

pub near_under : (x y r : Float) → T (fits binary64 x) → T (fits binary64 y) → lt (add binary64 (abs_of x) (abs_of y)) r ≡ true → le (hypot_of x y) r ≡ true
near_under x y r X Y h =
    let s = add binary64 (abs_of x) (abs_of y) in
    let U : T (unsigned s) = add_unsigned (abs_of x) (abs_of y) (abs_unsigned x) (abs_unsigned y) in
    let F : T (is_finite s) = below_finite s r U h in
    let z = add_finite (abs_of x) (abs_of y) F in
    let P : T (plus s) = (size_of s U F).1 in
    let A : T (is_finite x) = abs_finite x z.0 in
    let B : T (is_finite y) = abs_finite y z.1 in
    holds (le (hypot_of x y) r)
    (le_through (hypot_of x y) s r (hypot_plus x y A B) P (above_plus s r P h) (hypot_under x y X Y A B) (le_of_lt_float s r (truth (lt s r) h)))
  where
    holds : (b : Bool) → T b → b ≡ true
    holds true t = refl
    holds false t = absurd t

-- ---- two sides of 0
low_finite : (a : Float) → T (unsigned a) → le a f0 ≡ true → T (is_finite a)
unfolding unsigned le eq lt is_finite of_bits
low_finite nan p h = absurd (true≢false (sym h))
low_finite (inf true) p h = absurd p
low_finite (inf false) p h = absurd (true≢false (sym h))
low_finite (fin s m e) p h = tt

pub nearer_zero : (b x y : Float) → T (fits binary64 x) → T (fits binary64 y) → le (add binary64 (abs_of x) (abs_of y)) f0 ≡ true → b ≡ nearer b (hypot_of x y)
unfolding nearer plus of_bits
nearer_zero b x y X Y h =
    let s = add binary64 (abs_of x) (abs_of y) in
    let U : T (unsigned s) = add_unsigned (abs_of x) (abs_of y) (abs_unsigned x) (abs_unsigned y) in
    let F : T (is_finite s) = low_finite s U h in
    let z = add_finite (abs_of x) (abs_of y) F in
    let A : T (is_finite x) = abs_finite x z.0 in
    let B : T (is_finite y) = abs_finite y z.1 in
    let l : T (le (hypot_of x y) f0) = le_through (hypot_of x y) s f0 (hypot_plus x y A B) (size_of s U F).1 tt (hypot_under x y X Y A B) (truth (le s f0) h) in
    ap (λ (t : Bool). pick t (min_of b (hypot_of x y)) b) (sym (untrue (lt f0 (hypot_of x y)) (λ t. not_both f0 (hypot_of x y) t l)))
