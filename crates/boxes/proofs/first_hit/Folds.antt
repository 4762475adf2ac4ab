-- The box entered first so far, with one more station's, is the one that `sooner` gives; a station folded in once is covered from then on. Assumes nothing.
use mathlib.Core.Path.{◌≡◌, refl, sym, ap, ◌∙◌}
use mathlib.Core.List.{List, [], ◌∷◌}
use Prim.Native.Nat.{ℕ}
use mathlib.Core.Bool.{Bool, true, false, cond, true≢false}
use lib.Dec.{T}
use lib.Ieee.{Float, lt, le, of_bits, of_fields, odd}
use Rattle.numbers.specs.Ops.{f1, f2}
use Rattle.plane.specs.declared.geometry.Point.{Point}
use Rattle.plane.specs.declared.geometry.Box.{Box}
use Rattle.std.specs.Prelude.{Option, Some, None}
use Rattle.numbers.proofs.float.Ordered.{fall, below_through}
use Rattle.boxes.specs.First.{entry_at, comes_first, sooner, look}
use Rattle.boxes.proofs.first_box.Folding.{nearer, first_of, swap_at, look_past}
use Rattle.boxes.specs.Stages.Cells.{In, front, later}
use Rattle.boxes.specs.declared.first_hit.search.Near.{Near}
use Rattle.boxes.specs.Stages.Looks.{near, best_of, closer}

-- ---- one more station
-- entered at 1 at the latest, where it is entered
unfoldable pub Low : Option Float → Type 0
Low None = Unit {0}
Low (Some v) = T (le v f1)

-- the entry is at most 1, or 2
abbrev pub Fair : Near → Type 0
Fair n = le n.entry f1 ≡ false → n.entry ≡ f2

one_below_two : lt f1 f2 ≡ true
unfolding lt of_bits of_fields odd
one_below_two = refl

two_itself : T (le f2 f2)
unfolding le of_bits of_fields odd
two_itself = tt

before_two : (v : Float) (s r : ℕ) → T (le v f1) → comes_first v s f2 r ≡ true
before_two v s r h = first_of v s f2 r (nearer (below_through v f1 f2 f2 h one_below_two two_itself))

best_low : (v : Float) (s : ℕ) → le v f1 ≡ true → best_of (near v s) ≡ Some (v, s)
unfolding best_of near
best_low v s h = ap (λ (x : Bool). cond x (Some (v, s)) None) h

pub closer_best : (s : ℕ) (e : Option Float) (n : Near) → Low e → Fair n → best_of (closer s e n) ≡ sooner s e (best_of n)
unfolding closer best_of sooner near Low
closer_best s None n h f = refl
closer_best s (Some v) n h f = go (le n.entry f1) refl
  where
    go : (x : Bool) → le n.entry f1 ≡ x → best_of (cond (comes_first v s n.entry n.station) (near v s) n) ≡ sooner s (Some v) (cond x (Some (n.entry, n.station)) None)
    go true e = by (comes_first v s n.entry n.station)
      where
        by : (y : Bool) → best_of (cond y (near v s) n) ≡ cond y (Some (v, s)) (Some (n.entry, n.station))
        by true = best_low v s (fall (le v f1) h)
        by false = ap (λ (x : Bool). cond x (Some (n.entry, n.station)) None) e
    go false e =
        ap (λ (y : Float). best_of (cond (comes_first v s y n.station) (near v s) n)) (f e)
        ∙ ap (λ (y : Bool). best_of (cond y (near v s) n)) (before_two v s n.station h)
        ∙ best_low v s (fall (le v f1) h)

pub closer_fair : (s : ℕ) (e : Option Float) (n : Near) → Low e → Fair n → Fair (closer s e n)
unfolding closer near Low
closer_fair s None n h f = f
closer_fair s (Some v) n h f = by (comes_first v s n.entry n.station)
  where
    by : (y : Bool) → Fair (cond y (near v s) n)
    by true = λ e. absurd (true≢false (sym (fall (le v f1) h) ∙ e))
    by false = f

-- ---- covered stations
twice : (s : ℕ) (e : Option Float) (best : Option (Float × ℕ)) → sooner s e (sooner s e best) ≡ sooner s e best
unfolding sooner
twice s None best = refl
twice s (Some t) None = by (comes_first t s t s)
  where
    by : (x : Bool) → cond {A = Option (Float × ℕ)} x (Some (t, s)) (Some (t, s)) ≡ Some (t, s)
    by true = refl
    by false = refl
twice s (Some t) (Some (u, r)) = go (comes_first t s u r) refl
  where
    by : (x : Bool) → cond {A = Option (Float × ℕ)} x (Some (t, s)) (Some (t, s)) ≡ Some (t, s)
    by true = refl
    by false = refl

    go : (x : Bool) → comes_first t s u r ≡ x → sooner s (Some t) (cond x (Some (t, s)) (Some (u, r))) ≡ cond x (Some (t, s)) (Some (u, r))
    go true h = by (comes_first t s t s)
    go false h = ap (λ (x : Bool). cond {A = Option (Float × ℕ)} x (Some (t, s)) (Some (u, r))) h

module _ (boxes : List Box) (p q : Point) (a b : ℕ) where
  -- station s doesn't come before the box entered first so far
  abbrev pub Covered : ℕ → Near → Type 0
  Covered s n = sooner s (entry_at boxes p q a b s) (best_of n) ≡ best_of n

  -- a look at these stations that goes on from n ends as one from nothing
  abbrev pub Sound : List ℕ → Near → Type 0
  Sound stations n = look boxes p q a b stations (best_of n) ≡ look boxes p q a b stations None

  abbrev pub After : ℕ → Near → Near
  After s n = closer s (entry_at boxes p q a b s) n

  -- a station of the list is covered by the look at all
  inside : (s : ℕ) (l : List ℕ) → In s l → (best : Option (Float × ℕ)) → sooner s (entry_at boxes p q a b s) (look boxes p q a b l best) ≡ look boxes p q a b l best
  unfolding look
  inside s l (front ys) best =
      sym (look_past boxes p q a b s ys (sooner s (entry_at boxes p q a b s) best))
      ∙ ap (look boxes p q a b ys) (twice s (entry_at boxes p q a b s) best)
  inside s l (later y ys i) best = inside s ys i (sooner y (entry_at boxes p q a b y) best)

  module _ (s : ℕ) (n : Near) (low : Low (entry_at boxes p q a b s)) (fair : Fair n) where
    folded : best_of (After s n) ≡ sooner s (entry_at boxes p q a b s) (best_of n)
    folded = closer_best s (entry_at boxes p q a b s) n low fair

    pub covered_now : Covered s (After s n)
    covered_now =
        ap (sooner s (entry_at boxes p q a b s)) folded
        ∙ twice s (entry_at boxes p q a b s) (best_of n)
        ∙ sym folded

    pub covered_still : (r : ℕ) → Covered r n → Covered r (After s n)
    covered_still r h =
        ap (sooner r (entry_at boxes p q a b r)) folded
        ∙ swap_at boxes p q a b r s (best_of n)
        ∙ ap (sooner s (entry_at boxes p q a b s)) h
        ∙ sym folded

    pub sound_still : (stations : List ℕ) → In s stations → Sound stations n → Sound stations (After s n)
    sound_still stations i h =
        ap (look boxes p q a b stations) folded
        ∙ look_past boxes p q a b s stations (best_of n)
        ∙ inside s stations i (best_of n)
        ∙ h

  -- a look at stations that are all covered changes nothing
  pub look_covered : (stations : List ℕ) (best : Option (Float × ℕ)) → ((s : ℕ) → In s stations → sooner s (entry_at boxes p q a b s) best ≡ best) → look boxes p q a b stations best ≡ best
  unfolding look
  look_covered [] best h = refl
  look_covered (s ∷ ss) best h = ap (look boxes p q a b ss) (h s (front ss)) ∙ look_covered ss best (λ r i. h r (later s ss i))
