-- Where points stand by rising x, those past one whose x alone is too far are too far themselves. Assumes nothing.
use mathlib.Core.Path.{◌≡◌, refl, sym, ap, ◌∙◌, subst}
use mathlib.Core.Bool.{Bool, true, false, true≢false, ◌&&◌}
use mathlib.Core.List.{List}
use Prim.Native.Nat.{ℕ, ◌+◌, ◌*◌, ◌≤◌, ◌<◌}
use native.Mathlib.Omega.{arith}
use native.Mathlib.Nat.{mul-pos, lt_of_not-le}
use lib.Dec.{T, eqb, eqb→eq}
use lib.IntN.{pos}
use lib.ListN.{get_or}
use lib.Ieee.{Float, nan, inf, fin, up, down, lt, le, eq, neg, fits, binary64}
use lib.Ieee.Fits.{down_pos, and_r, sub-fits}
use lib.Ieee.Positive.{first_pos}
use borrow.Author.Tests.{lt-ltb, ltb-true}
use Rattle.numbers.specs.Small.{abs_of, is_finite}
use Rattle.numbers.specs.Hypot.{hypot_of}
use Rattle.numbers.specs.Ops.{◌⊖◌, f0}
use Rattle.numbers.proofs.float.Signs.{zero_bits}
use Rattle.numbers.proofs.float.Keys.{le_neg, le_self, finite_no_nan}
use Rattle.numbers.proofs.float.Sums.{sub_mono, le_number}
use Rattle.plane.specs.Stages.Sweep.{x_at, Swept, away}
use Rattle.plane.proofs.proximity.Sides.{cycle, hypot_past, raise}
use Rattle.plane.proofs.neighbours.Places.{place_below, place_rising}

-- of fractions b / p below a / q, and a / q at most v / r
below_through : (b p a q v r : ℕ) → 0 < r → b * q < a * p → a * r ≤ v * q → b * r < v * p
below_through b p a q v r R l m = lt_of_not-le (λ (n : v * p ≤ b * r). cycle b p a q v r R l m n)

no_zero : (b p a q r : ℕ) → 0 < r → b * q < a * p → a * r ≡ 0 → ⊥
no_zero b p a q r R l e = clash (mul-pos (first_pos a p (some l)) R)
  where
    some : b * q < a * p → 0 < a * p
    some h = omega arith

    clash : 0 < a * r → ⊥
    clash h = omega arith

-- what is below a is below what a is at most, for positive numbers
lt_through : (b a v : Float) → lt (fin false 0 (pos 0)) b ≡ true → lt b a ≡ true → T (le a v) → lt b v ≡ true
unfolding lt le eq
lt_through nan a v p l m = absurd (true≢false (sym l))
lt_through (inf true) a v p l m = absurd (true≢false (sym p))
lt_through (inf false) nan v p l m = absurd (true≢false (sym l))
lt_through (inf false) (inf t) v p l m = absurd (true≢false (sym l))
lt_through (inf false) (fin t k c) v p l m = absurd (true≢false (sym l))
lt_through (fin true j e) a v p l m = absurd (true≢false (sym p))
lt_through (fin false j e) nan v p l m = absurd (true≢false (sym l))
lt_through (fin false j e) (inf true) v p l m = absurd (true≢false (sym l))
lt_through (fin false j e) (inf false) nan p l m = absurd m
lt_through (fin false j e) (inf false) (inf true) p l m = absurd m
lt_through (fin false j e) (inf false) (inf false) p l m = refl
lt_through (fin false j e) (inf false) (fin u i d) p l m = absurd m
lt_through (fin false j e) (fin true k c) v p l m = absurd (true≢false (sym l))
lt_through (fin false j e) (fin false k c) nan p l m = absurd m
lt_through (fin false j e) (fin false k c) (inf true) p l m = absurd m
lt_through (fin false j e) (fin false k c) (inf false) p l m = refl
lt_through (fin false j e) (fin false k c) (fin true i d) p l m =
    absurd (no_zero (j * up e) (down e) (k * up c) (down c) (down d) (down_pos d) (ltb-true _ _ l)
    (eqb→eq _ _ (and_r (eqb (k * up c * down d) (i * up d * down c)) (eqb (k * up c * down d) 0) m)))
lt_through (fin false j e) (fin false k c) (fin false i d) p l m =
    lt-ltb _ _ (below_through (j * up e) (down e) (k * up c) (down c) (i * up d) (down d) (down_pos d) (ltb-true _ _ l) (le_number _ _ m))

-- what is below a number is below its size
lt_size : (b v : Float) → lt b v ≡ true → lt b (abs_of v) ≡ true
unfolding abs_of lt
lt_size b nan h = h
lt_size b (inf false) h = h
lt_size nan (inf true) h = h
lt_size (inf s) (inf true) h = go s h
  where
    go : (s : Bool) → (s && false) ≡ true → (s && true) ≡ true
    go true e = absurd (true≢false (sym e))
    go false e = e
lt_size (fin s m e) (inf true) h = refl
lt_size b (fin false m e) h = h
lt_size b (fin true m e) h = raise b m e h

neg_size : (x : Float) → abs_of (neg x) ≡ abs_of x
unfolding abs_of neg
neg_size nan = refl
neg_size (inf s) = refl
neg_size (fin s m e) = refl

too_far : (b a v x y : Float) → lt f0 b ≡ true → lt b a ≡ true → T (le a v) → abs_of v ≡ abs_of x → T (fits binary64 x) → le (hypot_of x y) b ≡ false
too_far b a v x y p l m e f =
    hypot_past b x y f (subst (λ (w : Float). lt b w ≡ true) e (lt_size b v (lt_through b a v (ap (λ (w : Float). lt w b) (sym zero_bits) ∙ p) l m)))

module _ (ps : List Float) (n : ℕ) (o : List ℕ) (S : Swept ps n o) (x y b : Float) (X : is_finite x ≡ true) (p : lt f0 b ≡ true) where
  finite : (q : ℕ) → q < n → T (is_finite (x_at ps (get_or o q 0)))
  finite q h = subst T (sym (S.finite (get_or o q 0) (place_below ps n o S q h))) tt

  apart : (i j : ℕ) → i ≤ j → j < n → T (le (x_at ps (get_or o i 0) ⊖ x) (x_at ps (get_or o j 0) ⊖ x))
  apart i j h k =
      let t : T (is_finite x) = subst T (sym X) tt in
      sub_mono (x_at ps (get_or o i 0)) (x_at ps (get_or o j 0)) x x (finite i (omega arith)) (finite j k) t t (place_rising ps n o S i j h k) (le_self x (finite_no_nan x X))

  -- from place i to the right, and from place j to the left
  pub stop_right : (i : ℕ) → lt b (x_at ps (get_or o i 0) ⊖ x) ≡ true → (q : ℕ) → i ≤ q → q < n → le (away ps o x y q) b ≡ false
  stop_right i l q h k =
      too_far b (x_at ps (get_or o i 0) ⊖ x) (x_at ps (get_or o q 0) ⊖ x) (x_at ps (get_or o q 0) ⊖ x) (get_or ps (2 * get_or o q 0 + 1) nan ⊖ y) p l (apart i q h k) refl (sub-fits binary64 (x_at ps (get_or o q 0)) x)

  pub stop_left : (j : ℕ) → j < n → lt b (neg (x_at ps (get_or o j 0) ⊖ x)) ≡ true → (q : ℕ) → q ≤ j → le (away ps o x y q) b ≡ false
  stop_left j k l q h =
      too_far b (neg (x_at ps (get_or o j 0) ⊖ x)) (neg (x_at ps (get_or o q 0) ⊖ x)) (x_at ps (get_or o q 0) ⊖ x) (get_or ps (2 * get_or o q 0 + 1) nan ⊖ y) p l
      (le_neg (x_at ps (get_or o q 0) ⊖ x) (x_at ps (get_or o j 0) ⊖ x) (apart q j h k)) (neg_size (x_at ps (get_or o q 0) ⊖ x)) (sub-fits binary64 (x_at ps (get_or o q 0)) x)
