-- One fill, and the fills from the largest on.
-- Assumes nothing.
use mathlib.Core.Path.{◌≡◌, refl, sym, ap, subst, ◌∙◌}
use mathlib.Core.Bool.{Bool, true, false, not, ◌&&◌}
use mathlib.Core.List.{List}
use mathlib.Core.Logic.{◌≢◌}
use Prim.Native.Nat.{ℕ, zero, suc, ◌-◌, ◌≤◌}
use native.Mathlib.Omega.{arith}
use Rattle.network.specs.Options.{search_of}
use lib.Ieee.{Float}
use Rattle.std.specs.Prelude.{Option, Some, None, Result, is_none}
use Rattle.std.specs.Result.{result_ok}
use Rattle.numbers.specs.Order.{pick}
use Rattle.network.specs.declared.options.Options.{Options}
use Rattle.network.specs.declared.refusals.Refusal.{Refusal}
use Rattle.network.specs.Refusal.{unless}
use Rattle.stations.specs.Scale as Scale
use Rattle.stations.specs.declared.measures.Typical.{Typical}
use Rattle.drawing.specs.declared.answer.Plot.{Plot}
use Rattle.drawing.specs.declared.lengths.ListLengths.{ListLengths}
use Rattle.drawing.specs.Network.{Network, Lists, Work}
use Rattle.drawing.specs.Drawing.{drawing, all_free}
use Rattle.drawing.specs.Answer.{late, plot_of, answer_for, lists_of, lists_after}
use Rattle.runs.specs.Lists.{after}
use Rattle.chart.specs.Stages.LaidOut.{Prepared, PreparedIn, PreparedKept}
use Rattle.chart.proofs.Laying.{prepared_counted}
use Rattle.fill.specs.declared.answer.Largest.{Largest}
use Rattle.fill.specs.Fill.{at_fill, greatest}
use Rattle.fill.specs.Stages.Tried.{passes, AfterFill, largest_pass, AfterFills}

-- ---- what is the same at every fill
pub prepared_kept : (o : Options) (N : Network) (k : ℕ) (t : Typical) (W V : Work) → PreparedKept N k W V → PreparedIn o N k t V → PreparedIn o N k t W
prepared_kept o N k t W V K P =
    subst (λ (b : List ℕ). Prepared o N k t W.stations b W.ends W.blocks) (sym K.3)
    (subst (λ (b : List Float). Prepared o N k t W.stations V.buses W.ends b) (sym K.4)
    (prepared_counted o N k t V.stations W.stations V.buses V.ends W.ends V.blocks K.0 K.1 K.2 P))

pub prepared_at : (O : Options) (N : Network) (k : ℕ) (t : Typical) (f : ℕ) (W : Work) → PreparedIn O N k t W → PreparedIn (at_fill O f) N k t W
unfolding at_fill Scale.scales Scale.scales_of Scale.scale_at Scale.tier
prepared_at O N k t f W P =
    let I = P.interiors in
    record {
      interiors = record {
        counts = I.counts;
        columns = I.columns;
        from_rows = I.from_rows;
        to_rows = I.to_rows;
        sizes = I.sizes;
        scales = I.scales;
        spacing = I.spacing;
        side = I.side;
      };
      spans = P.spans;
    }

-- ---- one fill
none_crowded : (b a : Bool) → not a ≡ true → (b && a) ≡ false
none_crowded true true e = sym e
none_crowded true false e = refl
none_crowded false a e = refl

pub crowded : (o : Options) (N : Network) (R : ListLengths) (a : Bool) → a ≡ all_free o N → not a ≡ true → passes o N R ≡ false
unfolding passes
crowded o N R a e h = none_crowded (is_none (late (drawing o N) R)) (all_free o N) (ap not (sym e) ∙ h)

free_of : (a : Bool) → not a ≡ false → a ≡ true
free_of true e = refl
free_of false e = sym e

tried_by : (o : Options) (N : Network) (R : ListLengths) (L L' : Lists) (l : Option Refusal) → late (drawing o N) R ≡ l → all_free o N ≡ true
    → (a : Result Plot Refusal) → a ≡ unless l (plot_of (drawing o N)) → L' ≡ lists_after l (lists_of (drawing o N)) L
    → (r : Option Plot) → r ≡ result_ok a → AfterFill o N R L r L'
unfolding passes lists_after after
tried_by o N R L L' None e f a ea el None h = cc
tried_by o N R L L' None e f a ea el (Some p) h = (cc, cc, el)
tried_by o N R L L' (Some x) e f a ea el None h = (cc, el)
tried_by o N R L L' (Some x) e f a ea el (Some p) h = cc

pub tried : (o : Options) (N : Network) (R : ListLengths) (L L' : Lists) (b : Bool) → b ≡ all_free o N → not b ≡ false
    → (a : Result Plot Refusal) → a ≡ answer_for (late (drawing o N) R) (drawing o N)
    → L' ≡ lists_after (late (drawing o N) R) (lists_of (drawing o N)) L
    → (r : Option Plot) → r ≡ result_ok a → AfterFill o N R L r L'
unfolding answer_for
tried o N R L L' b e h a ea el r er = tried_by o N R L L' (late (drawing o N) R) refl (sym e ∙ free_of b h) a ea el r er

-- ---- the fills from the largest on
pub prepared_from : (O : Options) (N : Network) (k : ℕ) (t : Typical) (f : ℕ) (W : Work) → PreparedIn (at_fill O f) N k t W → PreparedIn O N k t W
unfolding at_fill Scale.scales Scale.scales_of Scale.scale_at Scale.tier
prepared_from O N k t f W P =
    let I = P.interiors in
    record {
      interiors = record {
        counts = I.counts;
        columns = I.columns;
        from_rows = I.from_rows;
        to_rows = I.to_rows;
        sizes = I.sizes;
        scales = I.scales;
        spacing = I.spacing;
        side = I.side;
      };
      spans = P.spans;
    }

pub search_at : (O : Options) (f : ℕ) (o : Options) → o ≡ at_fill O f → search_of O.search ≤ 20 → search_of o.search ≤ 20
unfolding at_fill
search_at O f o e h = subst (λ (x : Options). search_of x.search ≤ 20) (sym e) h

pub search_from : (O : Options) (f : ℕ) (o : Options) → o ≡ at_fill O f → search_of o.search ≤ 20 → search_of O.search ≤ 20
unfolding at_fill
search_from O f o e h = subst (λ (x : Options). search_of x.search ≤ 20) e h

module _ (O : Options) (N : Network) (f : ℕ) (o : Options) (e : o ≡ at_fill O f) where
  pub prepared_next : (k : ℕ) (t : Typical) (W V : Work) → PreparedKept N k W V → PreparedIn O N k t V → PreparedIn o N k t W
  prepared_next k t W V K P = subst (λ (x : Options). PreparedIn x N k t W) (sym e) (prepared_at O N k t f W (prepared_kept O N k t W V K P))

  pub prepared_back : (k : ℕ) (t : Typical) (W : Work) → PreparedIn o N k t W → PreparedIn O N k t W
  prepared_back k t W P = prepared_from O N k t f W (subst (λ (x : Options). PreparedIn x N k t W) e P)

module _ (O : Options) (N : Network) (R : ListLengths) (L : Lists) where
  pub found_none : (n : ℕ) → n ≡ 0 → AfterFills O N R n L None L
  unfolding greatest
  found_none n e = (ap (largest_pass O N R) e, refl)

  module _ (o : Options) where
    pub found_here : (n : ℕ) → n ≢ 0 → o ≡ at_fill O n → (L' : Lists) (p : Plot) → AfterFill o N R L (Some p) L'
        → AfterFills O N R n L (Some (record { sixty_fourths = n; plot = p })) L'
    unfolding greatest
    found_here zero h e L' p T = absurd (h refl)
    found_here (suc k) h e L' p T =
        let T' = subst (λ (x : Options). AfterFill x N R L (Some p) L') e T in
        (ap (λ (b : Bool). pick b (Some (suc k)) (largest_pass O N R k)) T'.0, T'.1, T'.2)

    pub found_later : (n : ℕ) → n ≢ 0 → o ≡ at_fill O n → (L₁ L' : Lists) (r : Option Largest) → AfterFill o N R L None L₁
        → AfterFills O N R (n - 1) L₁ r L' → AfterFills O N R n L r L'
    unfolding greatest
    found_later zero h e L₁ L' r T F = absurd (h refl)
    found_later (suc k) h e L₁ L' r T F = go r (subst (λ (j : ℕ). AfterFills O N R j L₁ r L') (omega arith) F)
      where
        missed : greatest (λ k. passes (at_fill O k) N R) (suc k) ≡ largest_pass O N R k
        missed = ap (λ (b : Bool). pick b (Some (suc k)) (largest_pass O N R k)) (subst (λ (x : Options). AfterFill x N R L None L₁) e T).0

        go : (r : Option Largest) → AfterFills O N R k L₁ r L' → AfterFills O N R (suc k) L r L'
        go None F = (missed ∙ F.0, F.1 ∙ T.1)
        go (Some a) F = (missed ∙ F.0, F.1, F.2 ∙ ap (lists_after None (lists_of (drawing (at_fill O a.sixty_fourths) N))) T.1)
