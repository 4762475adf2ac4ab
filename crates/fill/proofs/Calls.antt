-- The whole call from its parts.
-- Assumes nothing.
use mathlib.Core.Path.{◌≡◌, refl, sym, ap, ◌∙◌}
use mathlib.Core.Bool.{Bool, true, false, ◌&&◌}
use Prim.Native.Nat.{ℕ, zero, suc, ◌≤◌, ◌<◌}
use native.Mathlib.Nat.{not-suc-le-zero, le_of_suc-le-suc, eq-or-lt_of_le}
use native.Mathlib.Omega.{arith}
use mathlib.Core.Logic.{⊎_elim}
use lib.Count.{count_trailing_zeros}
use lib.Ieee.{Float, binary64, of_bits, of_fields, to_bits, odd, units, round, size, span, climb, sum, neg, lt, le, add, sub, mul, div, of_int}
use lib.Dec.{leb}
use Rattle.std.specs.Prelude.{Option, Some, None, Result, Ok, Err, is_ok, is_none}
use Rattle.std.specs.Option.{ok_or}
use Rattle.numbers.specs.Ops.{f0, f1, num, ◌⊘◌}
use Rattle.numbers.specs.Order.{pick, all_to}
use Rattle.network.specs.declared.options.Options.{Options}
use Rattle.network.specs.Options.{in_range, between, search_fits, block_options_fit}
use Rattle.network.specs.declared.refusals.Refusal.{Refusal}
use Rattle.network.specs.declared.refusals.Refusal.TheVariants.{NoFill}
use Rattle.network.specs.Refusal.{unless}
use Rattle.drawing.specs.declared.answer.Plot.{Plot}
use Rattle.drawing.specs.declared.lengths.ListLengths.{ListLengths}
use Rattle.drawing.specs.Network.{Network, Lists, Work, Crossings}
use Rattle.drawing.specs.Drawing.{drawing, all_free}
use Rattle.drawing.specs.Answer.{room_of, early, late, plot_of, answer_for, zeroed_work, zeroed_crossings, call_late, call_early, layout_of, lists_of, lists_after}
use Rattle.layout.proofs.Calls.{Alike, cleared_alike, Level, cleared_level}
use Rattle.fill.specs.declared.answer.Largest.{Largest}
use Rattle.fill.specs.Fill.{at_fill, serves, greatest, fill_call, with_fill, fill_late, fill_early, largest_fill_of}
use Rattle.fill.specs.Stages.Tried.{passes, largest_pass, AfterFills}
use Rattle.fill.specs.Laws.{GreatestHolds}

pub refused : (O : Options) (N : Network) (L : Lists) (W : Work) (X : Crossings) (r : Refusal)
    → Some r ≡ early (at_fill O 64) N (room_of L W X) → fill_call (Err r) L W X ≡ largest_fill_of O N L W X
unfolding largest_fill_of fill_early
refused O N L W X r e = rw (sym e)

-- ---- each fill of 1/64 to 64/64 is in range
abbrev fill_for : ℕ → Float
fill_for k = num k ⊘ of_bits binary64 0x4050_0000_0000_0000

abbrev fill_fits : ℕ → Bool
fill_fits k = lt f0 (fill_for (suc k)) && le (fill_for (suc k)) (of_bits binary64 0x4030_0000_0000_0000)

fills_fit : all_to fill_fits 64 ≡ true
unfolding all_to of_bits of_fields to_bits odd units round size span climb sum neg lt le add sub mul div of_int count_trailing_zeros
fills_fit = refl

pub and_true : (a b : Bool) → (a && b) ≡ true → (a ≡ true) × (b ≡ true)
and_true true b e = (refl, e)
and_true false b e = cc

all_at : (p : ℕ → Bool) (n : ℕ) → all_to p n ≡ true → (k : ℕ) → k < n → p k ≡ true
unfolding all_to
all_at p zero e k h = absurd (not-suc-le-zero h)
all_at p (suc n) e k h = ⊎_elim
    (λ (q : k ≡ n). ap p q ∙ (and_true (all_to p n) (p n) e).1)
    (λ (q : k < n). all_at p n (and_true (all_to p n) (p n) e).0 k q)
    (eq-or-lt_of_le (le_of_suc-le-suc h))

first_two : (a b c : Bool) → (a && b) ≡ true → (a && (b && c)) ≡ c
first_two true true c e = refl
first_two true false c e = cc
first_two false b c e = cc

-- the tests of the other options
abbrev others_fit : Options → Bool
others_fit O =
    between f0 O.tier_radius (of_bits binary64 0x408F_4000_0000_0000)
    && (between (of_bits binary64 0x3F90_0000_0000_0000) O.tier_scale_1 f1
    && (between (of_bits binary64 0x3F90_0000_0000_0000) O.tier_scale_2 f1 && (search_fits O.search && (block_options_fit O.block_options && leb 0 100))))

range_at : (O : Options) (k : ℕ) → k < 64 → in_range (at_fill O (suc k)) ≡ others_fit O
unfolding in_range at_fill
range_at O k h =
    first_two (lt f0 (fill_for (suc k))) (le (fill_for (suc k)) (of_bits binary64 0x4030_0000_0000_0000)) (others_fit O) (all_at fill_fits 64 fills_fit k h)

ranges_same : (O : Options) (k : ℕ) → k < 64 → in_range (at_fill O (suc k)) ≡ in_range (at_fill O 64)
ranges_same O k h = range_at O k h ∙ sym (range_at O 63 (omega arith))

pub early_same : (O : Options) (N : Network) (L : Lists) (W : Work) (X : Crossings) (k : ℕ) → k < 64
    → early (at_fill O (suc k)) N (room_of L W X) ≡ early (at_fill O 64) N (room_of L W X)
unfolding early
early_same O N L W X k h = let e = ranges_same O k h in rw e

-- ---- the greatest
greatest_same : (p q : ℕ → Bool) (n : ℕ) → ((k : ℕ) → k < n → p (suc k) ≡ q (suc k)) → greatest p n ≡ greatest q n
unfolding greatest
greatest_same p q zero f = refl
greatest_same p q (suc n) f =
    ap (λ (b : Bool). pick b (Some (suc n)) (greatest p n)) (f n (omega arith))
    ∙ ap (pick (q (suc n)) (Some (suc n))) (greatest_same p q n (λ k h. f k (omega arith)))

-- The greatest has the property.
pub greatest_has : (p : ℕ → Bool) (n k : ℕ) → greatest p n ≡ Some k → (j : ℕ) × (k ≡ suc j) × (j < n) × (p k ≡ true)
unfolding greatest
greatest_has p zero k e = cc
greatest_has p (suc n) k e = go (p (suc n)) refl (greatest_has p n k) e
  where
    go : (b : Bool) → p (suc n) ≡ b → (greatest p n ≡ Some k → (j : ℕ) × (k ≡ suc j) × (j < n) × (p k ≡ true))
        → pick b (Some (suc n)) (greatest p n) ≡ Some k → (j : ℕ) × (k ≡ suc j) × (j < suc n) × (p k ≡ true)
    go true f l g = let s : suc n ≡ k = cc in (n, sym s, omega arith, ap p (sym s) ∙ f)
    go false f l g = let h = l g in (h.0, h.1, omega (arith, h.2), h.3)

four : {a a' : Result Largest Refusal} {l l' : Lists} {w w' : Work} {x x' : Crossings}
    → a ≡ a' → l ≡ l' → w ≡ w' → x ≡ x' → fill_call a l w x ≡ fill_call a' l' w' x'
four p q r s = rw (p, q, r, s)

module _ (O : Options) (N : Network) (L : Lists) (W : Work) (X : Crossings) (e : None ≡ early (at_fill O 64) N (room_of L W X)) where
  drawn_at : (k : ℕ) → k < 64 → layout_of (at_fill O (suc k)) N L W X ≡ call_late (late (drawing (at_fill O (suc k)) N) (room_of L W X)) (drawing (at_fill O (suc k)) N) L W X
  unfolding layout_of call_early
  drawn_at k h = let f = early_same O N L W X k h ∙ sym e in rw f

  ok_unless : {A : Type 0} (r : Option Refusal) (a : A) → is_ok (unless r a) ≡ is_none r
  ok_unless None a = refl
  ok_unless (Some r) a = refl

  serves_is : (k : ℕ) → k < 64 → serves O N L W X (suc k) ≡ passes (at_fill O (suc k)) N (room_of L W X)
  unfolding serves passes call_late answer_for
  serves_is k h =
      let d = drawn_at k h in
      let u = ok_unless (late (drawing (at_fill O (suc k)) N) (room_of L W X)) (plot_of (drawing (at_fill O (suc k)) N)) in
      rw d (rw u)

  largest_is : greatest (serves O N L W X) 64 ≡ largest_pass O N (room_of L W X) 64
  largest_is = greatest_same (serves O N L W X) (λ k. passes (at_fill O k) N (room_of L W X)) 64 serves_is

  passed : (o : Options) (R : ListLengths) → passes o N R ≡ true → late (drawing o N) R ≡ None
  unfolding passes
  passed o R f = none_of (late (drawing o N) R) (and_true _ (all_free o N) f).0
    where
      none_of : (l : Option Refusal) → is_none l ≡ true → l ≡ None
      none_of None g = refl
      none_of (Some r) g = cc

  here : (L' : Lists) (W' : Work) (X' : Crossings) (a : Result Largest Refusal) (b : Largest) (j : ℕ) → b.sixty_fourths ≡ suc j → j < 64 → passes (at_fill O b.sixty_fourths) N (room_of L W X) ≡ true
      → b.plot ≡ plot_of (drawing (at_fill O b.sixty_fourths) N)
      → L' ≡ lists_after None (lists_of (drawing (at_fill O b.sixty_fourths) N)) L
      → a ≡ Ok b → W' ≡ zeroed_work W → X' ≡ zeroed_crossings X
      → fill_call a L' W' X'
      ≡ fill_call (with_fill b.sixty_fourths (layout_of (at_fill O b.sixty_fourths) N L W X).answer)
      (layout_of (at_fill O b.sixty_fourths) N L W X).lists
      (layout_of (at_fill O b.sixty_fourths) N L W X).work
      (layout_of (at_fill O b.sixty_fourths) N L W X).crossings
  unfolding call_late answer_for
  here L' W' X' a b j s h f p l ae v y =
      let d : layout_of (at_fill O b.sixty_fourths) N L W X ≡ call_late None (drawing (at_fill O b.sixty_fourths) N) L W X =
      ap (λ (k : ℕ). layout_of (at_fill O k) N L W X) s ∙ drawn_at j h
      ∙ ap (λ (k : ℕ). call_late (late (drawing (at_fill O k) N) (room_of L W X)) (drawing (at_fill O k) N) L W X) (sym s)
      ∙ ap (λ (r : Option Refusal). call_late r (drawing (at_fill O b.sixty_fourths) N) L W X) (passed (at_fill O b.sixty_fourths) (room_of L W X) f)
      in
      rw d (four (ae ∙ ap (λ (q : Plot). Ok (record { sixty_fourths = b.sixty_fourths; plot = q })) p) l v y)

  pub ended : (L' : Lists) (W' U : Work) (X' Y : Crossings) (r : Option Largest) (a : Result Largest Refusal)
      → AfterFills O N (room_of L W X) 64 L r L' → a ≡ ok_or r NoFill
      → W' ≡ zeroed_work U → Alike U W → X' ≡ zeroed_crossings Y → Level Y X
      → fill_call a L' W' X' ≡ largest_fill_of O N L W X
  unfolding largest_fill_of fill_early fill_late
  ended L' W' U X' Y None a F ae w A x B =
      let v : W' ≡ zeroed_work W = w ∙ cleared_alike U W A in
      let y : X' ≡ zeroed_crossings X = x ∙ cleared_level Y X B in
      let g = largest_is ∙ F.0 in
      rw (← e) (rw g (let l = F.1 in cc (v, y, ae)))
  ended L' W' U X' Y (Some b) a F ae w A x B =
      let v : W' ≡ zeroed_work W = w ∙ cleared_alike U W A in
      let y : X' ≡ zeroed_crossings X = x ∙ cleared_level Y X B in
      let g = largest_is ∙ F.0 in
      let h = greatest_has (λ k. passes (at_fill O k) N (room_of L W X)) 64 b.sixty_fourths F.0 in
      rw (← e) (rw g (here L' W' X' a b h.0 h.1 h.2 h.3 F.1 F.2 ae v y))

-- ---- what a call that draws has found
pub with_ok : (k : ℕ) (r : Result Plot Refusal) (a : Largest) → with_fill k r ≡ Ok a → (k ≡ a.sixty_fourths) × (r ≡ Ok a.plot)
with_ok k (Ok p) a e = (cc, cc)
with_ok k (Err r) a e = cc

module _ (O : Options) (N : Network) (L : Lists) (W : Work) (X : Crossings) (a : Largest) where
  -- its lists are those of the layout call at that fill, and every search found a free place there
  abbrev DrawnAt : Lists → Type 0
  DrawnAt D =
      ((layout_of (at_fill O a.sixty_fourths) N L W X).answer ≡ Ok a.plot)
      × (D ≡ (layout_of (at_fill O a.sixty_fourths) N L W X).lists)
      × (all_free (at_fill O a.sixty_fourths) N ≡ true)

  filled_late : (g : Option ℕ) → greatest (serves O N L W X) 64 ≡ g → (fill_late g O N L W X).answer ≡ Ok a → DrawnAt (fill_late g O N L W X).lists
  unfolding fill_late serves
  filled_late None e h = cc
  filled_late (Some k) e h =
      let w = with_ok k (layout_of (at_fill O k) N L W X).answer a h in
      let p = greatest_has (serves O N L W X) 64 k e in (
        ap (λ (j : ℕ). (layout_of (at_fill O j) N L W X).answer) (sym w.0) ∙ w.1,
        ap (λ (j : ℕ). (layout_of (at_fill O j) N L W X).lists) w.0,
        ap (λ (j : ℕ). all_free (at_fill O j) N) (sym w.0) ∙ (and_true (is_ok (layout_of (at_fill O k) N L W X).answer) (all_free (at_fill O k) N) p.3).1,
      )

  filled_early : (r : Option Refusal) → (fill_early r O N L W X).answer ≡ Ok a → DrawnAt (fill_early r O N L W X).lists
  unfolding fill_early
  filled_early None h = filled_late (greatest (serves O N L W X) 64) refl h
  filled_early (Some r) h = cc

  pub filled : (largest_fill_of O N L W X).answer ≡ Ok a → DrawnAt (largest_fill_of O N L W X).lists
  unfolding largest_fill_of
  filled h = filled_early (early (at_fill O 64) N (room_of L W X)) h

-- ---- laws of the greatest
pub greatest_most : (p : ℕ → Bool) (n k : ℕ) → greatest p n ≡ Some k → (j : ℕ) → k < j → j ≤ n → p j ≡ false
unfolding greatest
greatest_most p zero k e j h l = cc
greatest_most p (suc n) k e j h l = go (p (suc n)) refl (λ g q. greatest_most p n k g j h q) e
  where
    go : (b : Bool) → p (suc n) ≡ b → (greatest p n ≡ Some k → j ≤ n → p j ≡ false) → pick b (Some (suc n)) (greatest p n) ≡ Some k → p j ≡ false
    go true f r g = let s : suc n ≡ k = cc in absurd (omega (arith, s, h, l))
    go false f r g = ⊎_elim (λ (q : j ≡ suc n). ap p q ∙ f) (λ (q : j < suc n). r g (omega (arith, q))) (eq-or-lt_of_le l)

pub greatest_none : (p : ℕ → Bool) (n : ℕ) → greatest p n ≡ None → (j : ℕ) → 0 < j → j ≤ n → p j ≡ false
unfolding greatest
greatest_none p zero e j h l = absurd (omega arith)
greatest_none p (suc n) e j h l = go (p (suc n)) refl (λ g q. greatest_none p n g j h q) e
  where
    go : (b : Bool) → p (suc n) ≡ b → (greatest p n ≡ None → j ≤ n → p j ≡ false) → pick b (Some (suc n)) (greatest p n) ≡ None → p j ≡ false
    go true f r g = cc
    go false f r g = ⊎_elim (λ (q : j ≡ suc n). ap p q ∙ f) (λ (q : j < suc n). r g (omega (arith, q))) (eq-or-lt_of_le l)

pub greatest_holds : GreatestHolds
greatest_holds p n =
    record {
      some = λ k e. let h = greatest_has p n k e in record { above = omega (arith, h.1); most = omega (arith, h.1, h.2); has = h.3; none_larger = greatest_most p n k e };
      none = greatest_none p n;
    }

-- where a fill serves, layout answers a drawing
pub serve_of : (k : ℕ) (r : Result Plot Refusal) (f : Bool) → (is_ok r && f) ≡ true → with_fill k r ≡ Err NoFill → ⊥
serve_of k (Ok p) f e h = cc
serve_of k (Err r) f e h = cc
