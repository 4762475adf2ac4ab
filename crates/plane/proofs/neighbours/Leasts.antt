-- The least positive one of some numbers: one more of them, others that are not less, and that there is only one least. Assumes nothing.
use mathlib.Core.Path.{◌≡◌, refl, sym, ap, ◌∙◌, subst}
use mathlib.Core.Logic.{◌⊎◌, inl, inr}
use mathlib.Core.Bool.{Bool, true, false, not, true≢false}
use Prim.Native.Nat.{ℕ, ◌≤◌, ◌<◌, ◌^◌}
use native.Mathlib.Omega.{arith}
use native.Mathlib.Nat.{le_antisymm}
use lib.Dec.{T}
use native.Mathlib.Decide.{dec_le}
use lib.Ieee.{Float, nan, inf, fin, lt, le, fits, binary64, is_nan, of_bits, to_bits, nan_bits}
use lib.Ieee.Fits.{inf-fits}
use lib.Ieee.Bits.{of_bits-to_bits, to_bits-lt, nan_bits_is}
use Rattle.numbers.specs.Small.{min_of}
use Rattle.numbers.specs.Ops.{f0, order_key}
use Rattle.numbers.proofs.float.Keys.{key_cases, order_key_le, order_key_lt, order_key_injective}
use Rattle.numbers.proofs.float.Extremes.{min_first, min_second}
use Rattle.numbers.specs.Order.{pick}
use Rattle.plane.specs.Near.{nearer}
use Rattle.plane.specs.Stages.Sweep.{Least}

truth : (b : Bool) → b ≡ true → T b
truth b h = subst T (sym h) tt

known : (b : Bool) → T b → b ≡ true
known true h = refl
known false h = absurd h

-- a number that is compared as lower or greater is no NaN
number_left : (x y : Float) → lt x y ≡ true → T (not (is_nan x))
unfolding lt is_nan
number_left nan y h = absurd (true≢false (sym h))
number_left (inf s) y h = tt
number_left (fin s m e) y h = tt

number_right : (x y : Float) → lt x y ≡ true → T (not (is_nan y))
unfolding lt is_nan
number_right nan nan h = absurd (true≢false (sym h))
number_right (inf s) nan h = absurd (true≢false (sym h))
number_right (fin s m e) nan h = absurd (true≢false (sym h))
number_right x (inf s) h = tt
number_right x (fin s m e) h = tt

no_minus_zero : lt f0 (of_bits binary64 (2 ^ 63)) ≡ false
unfolding of_bits lt
no_minus_zero = refl

-- of a positive number and another the lower key is that of the lower
below_key : (x y : Float) → T (fits binary64 x) → T (fits binary64 y) → T (not (is_nan y)) → lt f0 x ≡ true → order_key x < order_key y → lt x y ≡ true
below_key x y f g n p h = go (key_cases (to_bits binary64 x) (to_bits binary64 y) (to_bits-lt binary64 x f) (to_bits-lt binary64 y g) (plain x f (number_right f0 x p)) (plain y g n) h)
  where
    plain : (v : Float) → T (fits binary64 v) → T (not (is_nan v)) → T (not (nan_bits binary64 (to_bits binary64 v)))
    plain v k l = subst (λ (t : Bool). T (not t)) (sym (nan_bits_is binary64 (to_bits binary64 v) ∙ ap is_nan (of_bits-to_bits binary64 v k))) l

    go : T (lt (of_bits binary64 (to_bits binary64 x)) (of_bits binary64 (to_bits binary64 y))) ⊎ ((to_bits binary64 x ≡ 2 ^ 63) × (to_bits binary64 y ≡ 0)) → lt x y ≡ true
    go (inl l) =
        known (lt x y)
        (subst (λ (v : Float). T (lt v y)) (of_bits-to_bits binary64 x f)
        (subst (λ (v : Float). T (lt (of_bits binary64 (to_bits binary64 x)) v)) (of_bits-to_bits binary64 y g) l))
    go (inr z) =
        absurd (true≢false (sym p ∙ ap (lt f0) (sym (of_bits-to_bits binary64 x f) ∙ ap (of_bits binary64) z.0) ∙ no_minus_zero))

not_past_inf : (y : Float) → lt (inf false) y ≡ false
unfolding lt
not_past_inf nan = refl
not_past_inf (inf s) = refl
not_past_inf (fin s m e) = refl

inf_above : lt f0 (inf false) ≡ true
unfolding of_bits lt
inf_above = refl

module _ (d : ℕ → Float) (F : (q : ℕ) → T (fits binary64 (d q))) where
  -- what is least is positive and fits the format
  pub least_above : (P : ℕ → Type 0) (r : Float) → Least d P r → lt f0 r ≡ true
  least_above P r k = go k.hit
    where
      go : (r ≡ inf false) ⊎ ((q : ℕ) × P q × (r ≡ d q) × (lt f0 (d q) ≡ true)) → lt f0 r ≡ true
      go (inl e) = ap (lt f0) e ∙ inf_above
      go (inr z) = ap (lt f0) z.2 ∙ z.3

  least_fits : (P : ℕ → Type 0) (r : Float) → Least d P r → T (fits binary64 r)
  least_fits P r k = go k.hit
    where
      go : (r ≡ inf false) ⊎ ((q : ℕ) × P q × (r ≡ d q) × (lt f0 (d q) ≡ true)) → T (fits binary64 r)
      go (inl e) = subst (λ (v : Float). T (fits binary64 v)) (sym e) (inf-fits binary64 false)
      go (inr z) = subst (λ (v : Float). T (fits binary64 v)) (sym z.2) (F z.0)

  least_number : (P : ℕ → Type 0) (r : Float) → Least d P r → T (not (is_nan r))
  least_number P r k = number_right f0 r (least_above P r k)

  pub least_none : (P : ℕ → Type 0) → ((q : ℕ) → P q → ⊥) → Least d P (inf false)
  least_none P f = record { hit = inl refl; under = λ q h _. absurd (f q h) }

  module _ (P Q : ℕ → Type 0) (r : Float) (k : Least d P r) (f : (q : ℕ) → P q → Q q) where
    wider : (r ≡ inf false) ⊎ ((q : ℕ) × P q × (r ≡ d q) × (lt f0 (d q) ≡ true)) → (r ≡ inf false) ⊎ ((q : ℕ) × Q q × (r ≡ d q) × (lt f0 (d q) ≡ true))
    wider (inl e) = inl e
    wider (inr z) = inr (z.0, f z.0 z.1, z.2, z.3)

    -- others that are not at most r change nothing
    pub least_same : ((q : ℕ) → Q q → P q ⊎ (le (d q) r ≡ false)) → Least d Q r
    least_same g = record { hit = wider k.hit; under = λ q h p. go q p (g q h) }
      where
        go : (q : ℕ) → lt f0 (d q) ≡ true → P q ⊎ (le (d q) r ≡ false) → order_key r ≤ order_key (d q)
        go q p (inl h) = k.under q h p
        go q p (inr h) = at (dec_le (order_key (d q)) (order_key r))
          where
            above : (a b : ℕ) → (a ≤ b → ⊥) → b ≤ a
            above a b n = omega arith

            at : Dec (order_key (d q) ≤ order_key r) → order_key r ≤ order_key (d q)
            at (yes l) =
                absurd (true≢false (sym (known (le (d q) r) (order_key_le (d q) r (F q) (least_fits P r k) (number_right f0 (d q) p) (least_number P r k) l)) ∙ h))
            at (no n) = above (order_key (d q)) (order_key r) n

    -- one number more
    pub least_more : (i : ℕ) → Q i → ((q : ℕ) → Q q → P q ⊎ (q ≡ i)) → Least d Q (nearer r (d i))
    unfolding nearer
    least_more i y g = go (lt f0 (d i)) refl (lt (d i) r) refl
      where
        here : (v : Float) → order_key v ≤ order_key r → (lt f0 (d i) ≡ true → order_key v ≤ order_key (d i)) → (q : ℕ) → P q ⊎ (q ≡ i) → lt f0 (d q) ≡ true → order_key v ≤ order_key (d q)
        here v a b q (inl h) p = let c : order_key r ≤ order_key (d q) = k.under q h p in omega arith
        here v a b q (inr e) p = subst (λ (t : ℕ). order_key v ≤ order_key (d t)) (sym e) (b (subst (λ (t : ℕ). lt f0 (d t) ≡ true) e p))

        kept : (lt f0 (d i) ≡ true → order_key r ≤ order_key (d i)) → Least d Q r
        kept b = record { hit = wider k.hit; under = λ q h p. here r (omega arith) b q (g q h) p }

        not_lower : lt f0 (d i) ≡ true → lt (d i) r ≡ false → order_key r ≤ order_key (d i)
        not_lower p h = at (dec_le (order_key r) (order_key (d i)))
          where
            over : (a b : ℕ) → (a ≤ b → ⊥) → b < a
            over a b n = omega arith

            at : Dec (order_key r ≤ order_key (d i)) → order_key r ≤ order_key (d i)
            at (yes l) = l
            at (no n) =
                absurd (true≢false (sym (below_key (d i) r (F i) (least_fits P r k) (least_number P r k) p (over (order_key r) (order_key (d i)) n)) ∙ h))

        lower : lt f0 (d i) ≡ true → lt (d i) r ≡ true → Least d Q (d i)
        lower p h =
            let l : order_key (d i) < order_key r = order_key_lt (d i) r (F i) (least_fits P r k) (number_left (d i) r h) (least_number P r k) (truth (lt (d i) r) h) in
            record { hit = inr (i, y, refl, p); under = λ q u v. here (d i) (omega arith) (λ _. omega arith) q (g q u) v }

        go : (a : Bool) → lt f0 (d i) ≡ a → (b : Bool) → lt (d i) r ≡ b → Least d Q (pick a (min_of r (d i)) r)
        go true p true h = subst (Least d Q) (sym (min_second r (d i) h)) (lower p h)
        go true p false h = subst (Least d Q) (sym (min_first r (d i) h)) (kept (λ _. not_lower p h))
        go false p b h = kept (λ u. absurd (true≢false (sym u ∙ p)))

  -- there is one least
  module _ (P : ℕ → Type 0) where
    at_most : (r s : Float) → Least d P r → Least d P s → order_key r ≤ order_key s
    at_most r s k l = go l.hit
      where
        over : (a b : ℕ) → (a ≤ b → ⊥) → b < a
        over a b n = omega arith

        at : s ≡ inf false → Dec (order_key r ≤ order_key s) → order_key r ≤ order_key s
        at e (yes h) = h
        at e (no n) =
            absurd (true≢false (sym (below_key s r (least_fits P s l) (least_fits P r k) (least_number P r k) (least_above P s l) (over (order_key r) (order_key s) n)) ∙ ap (λ (v : Float). lt v r) e ∙ not_past_inf r))

        go : (s ≡ inf false) ⊎ ((q : ℕ) × P q × (s ≡ d q) × (lt f0 (d q) ≡ true)) → order_key r ≤ order_key s
        go (inl e) = at e (dec_le (order_key r) (order_key s))
        go (inr z) = subst (λ (v : Float). order_key r ≤ order_key v) (sym z.2) (k.under z.0 z.1 z.3)

    pub least_one : (r s : Float) → Least d P r → Least d P s → r ≡ s
    least_one r s k l =
        order_key_injective r s (least_fits P r k) (least_fits P s l) (least_number P r k) (least_number P s l) (le_antisymm (at_most r s k l) (at_most s r l k))
