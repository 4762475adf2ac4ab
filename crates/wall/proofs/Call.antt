-- What a call that answers 'drawn' has passed, and the lists after it. Assumes nothing.
use mathlib.Core.Path.{◌≡◌, sym, ap, subst, ◌∙◌}
use mathlib.Core.Bool.{Bool, true, false, not, ◌&&◌}
use lib.Dec.{T}
use lib.ListN.{length}
use lib.Ieee.Fits.{and_l, and_r}
use Rattle.numbers.specs.Small.{is_finite}
use Rattle.network.specs.declared.options.Options.{Options}
use Rattle.network.specs.Options.{in_range}
use Rattle.network.specs.Words.{station_count}
use Rattle.std.specs.Prelude.{Option, Some, None, Ok}
use Rattle.std.specs.Option.{option_or}
use Rattle.network.specs.declared.refusals.Refusal.{Refusal}
use Rattle.network.specs.declared.refusals.Refusal.TheVariants as Refusals
use Rattle.network.specs.Refusal.{refuse, shape_refusal, too_far}
use Rattle.runs.specs.Finite.{all_of, finite_point, finite_box, finite_bar}
use Rattle.drawing.specs.declared.answer.Plot.{Plot}
use Rattle.drawing.specs.Network.{Network, Lists, Work, Crossings}
use Rattle.drawing.specs.Drawing.{drawing}
use Rattle.drawing.specs.Answer.{room_of, early, all_finite, short_results, short_work, mesh_length, lists_of, lists_after, plot_of, call_early, call_late, layout_of}
use Rattle.drawing.proofs.Finite.{drawn_finite}
use Rattle.layout.proofs.Drawn.{passed}

-- the tests of a chain of refusals that refuses nothing
early_passes : (s : Option Refusal) (a : Bool) (r : Option Refusal) → None ≡ option_or s (refuse (not a) (Some Refusals.OptionRange) r) → T a
early_passes (Some s) a r h = cc
early_passes None true r h = tt
early_passes None false r h = cc

module _ (o : Options) (N : Network) (L : Lists) (W : Work) (X : Crossings) (p : Plot) (drawn : (layout_of o N L W X).answer ≡ Ok p) where
  pub plot_is : p ≡ plot_of (drawing o N)
  plot_is = (passed o N L W X p drawn).plot

  pub in_range_lem : T (in_range o)
  unfolding early
  in_range_lem =
      let n = length N.station in
      let m = length N.from in
      early_passes (shape_refusal N.station N.kv N.from N.to) (in_range o)
      (refuse (too_far n N.xy) (Some Refusals.TooFar)
      (refuse (short_results n m (station_count N.station) (room_of L W X)) (Some Refusals.ListTooShort)
      (refuse (short_work n m (mesh_length N) (room_of L W X)) (Some Refusals.ListTooShort) None)))
      (passed o N L W X p drawn).early

  all_finite_lem : T (all_finite (drawing o N))
  all_finite_lem = let h = passed o N L W X p drawn in subst T (sym (drawn_finite o N (room_of L W X) h.early h.late)) tt

  pub boxes_finite : T (all_of finite_box (drawing o N).boxes)
  unfolding all_finite
  boxes_finite =
      let d = drawing o N in
      let q₃ = all_of finite_box d.boxes in
      let q₄ = all_of finite_bar d.bars && (all_of is_finite d.crossings && all_of (all_of finite_point) d.runs) in
      and_l q₃ q₄ (and_r (is_finite d.unit) (q₃ && q₄) (and_r (all_of finite_point d.seeds) (is_finite d.unit && (q₃ && q₄)) all_finite_lem))

  pub runs_finite : T (all_of (all_of finite_point) (drawing o N).runs)
  unfolding all_finite
  runs_finite =
      let d = drawing o N in
      let q₃ = all_of finite_box d.boxes in
      let q₄ = all_of finite_bar d.bars in
      let q₅ = all_of is_finite d.crossings in
      let q₆ = all_of (all_of finite_point) d.runs in
      let h₃ = and_r (is_finite d.unit) (q₃ && (q₄ && (q₅ && q₆))) (and_r (all_of finite_point d.seeds) (is_finite d.unit && (q₃ && (q₄ && (q₅ && q₆)))) all_finite_lem) in
      and_r q₅ q₆ (and_r q₄ (q₅ && q₆) (and_r q₃ (q₄ && (q₅ && q₆)) h₃))

  pub lists_are : (layout_of o N L W X).lists ≡ lists_after None (lists_of (drawing o N)) L
  unfolding layout_of call_early call_late
  lists_are =
      ap (λ (r : Option Refusal). (call_early r o N L W X).lists) (sym (passed o N L W X p drawn).early)
      ∙ ap (λ (r : Option Refusal). lists_after r (lists_of (drawing o N)) L) (sym (passed o N L W X p drawn).late)
