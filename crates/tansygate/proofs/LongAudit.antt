-- The lists that are lent for an audit are long enough: it is never refused for lists that are too short. Assumes nothing.
use mathlib.Core.Path.{◌≡◌, refl, sym, ◌∙◌}
use mathlib.Core.Logic.{◌≢◌}
use mathlib.Core.Bool.{Bool, true, false}
use Prim.Native.Nat.{ℕ, ◌*◌, ◌≤◌, min}
use native.Mathlib.Omega.{arith}
use lib.ListN.{length, length-replicate}
use Rattle.std.proofs.lemmas.Bool.{le-ltb}
use Rattle.std.specs.Prelude.{Option, Some, None, Err}
use Rattle.std.specs.Option.{option_or}
use Rattle.network.specs.declared.refusals.Refusal.{Refusal}
use Rattle.network.specs.declared.refusals.Refusal.TheVariants as Refusals
use Rattle.network.specs.Words.{station_count}
use Rattle.network.specs.Refusal.{refuse, too_many, kv_unlike, to_unlike, number_too_high, stray_voltage, shape_refusal}
use Rattle.network.proofs.refusals.Shapes.{Shape, shape_fits}
use Rattle.network.proofs.refusals.Unless.{refused}
use Rattle.boxes.specs.Length.{index_length}
use Rattle.audit.specs.Drawn.{Drawn, Lists, Work, room_of}
use Rattle.audit.specs.Answer.{too_short, early, late_by, late, figures_of, call_late, call_early, audit_of}
use Rattle.tansygate.specs.Audited.{lent_figures, lent_store, called}
use Rattle.tansygate.proofs.Long.{nor, shape_other}

early_other : (s : Option Refusal) (a b : Bool) → s ≢ Some Refusals.ListTooShort → (None ≡ s → b ≡ false)
    → option_or s (refuse a (Some Refusals.TooFar) (refuse b (Some Refusals.ListTooShort) None)) ≢ Some Refusals.ListTooShort
early_other (Some r) a b o h e = o e
early_other None true b o h e = cc
early_other None false true o h e = let k = h refl in cc
early_other None false false o h e = cc

late_other : (a b : Bool) → refuse a (Some Refusals.NoFit) (refuse b (Some Refusals.IllSized) None) ≢ Some Refusals.ListTooShort
late_other true b h = cc
late_other false true h = cc
late_other false false h = cc

long : (n k p : ℕ) (L : Lists) (W : Work) → k ≤ length L.displacement → k ≤ length L.spacing → p ≤ length L.relative
    → 2 * n ≤ length W.stations → n ≤ length W.spare → n ≤ length W.keys → 2 * n ≤ length W.points → 2 * n ≤ length W.path → 5 * n ≤ length W.index
    → too_short n k p (room_of L W) ≡ false
unfolding too_short index_length
long n k p L W a b c d e f g h i =
    nor _ _ (le-ltb _ _ a) (nor _ _ (le-ltb _ _ b) (nor _ _ (le-ltb _ _ c) (nor _ _ (le-ltb _ _ d) (nor _ _ (le-ltb _ _ e) (nor _ _ (le-ltb _ _ f)
    (nor _ _ (le-ltb _ _ g) (nor _ _ (le-ltb _ _ h) (le-ltb _ _ i))))))))

module _ (D : Drawn) where
  abbrev n : ℕ
  n = min (length D.station) 4096

  abbrev k : ℕ
  k = min (station_count D.station) 4096

  abbrev figures : Lists
  figures = lent_figures k (length D.branches)

  abbrev store : Work
  store = lent_store n

  all_long : Shape D.station D.kv D.from D.to → too_short (length D.station) (station_count D.station) (length D.branches) (room_of figures store) ≡ false
  all_long S =
      let few = S.few in
      let below = S.below in
      long (length D.station) (station_count D.station) (length D.branches) figures store
      (simp (length-replicate) (omega arith))
      (simp (length-replicate) (omega arith))
      (simp (length-replicate) (omega arith))
      (simp (length-replicate) (omega arith))
      (simp (length-replicate) (omega arith))
      (simp (length-replicate) (omega arith))
      (simp (length-replicate) (omega arith))
      (simp (length-replicate) (omega arith))
      (simp (length-replicate) (omega arith))

  not_early : early D (room_of figures store) ≢ Some Refusals.ListTooShort
  unfolding early shape_refusal
  not_early =
      early_other _ _ _ (shape_other (too_many D.station D.from) (kv_unlike D.station D.kv) (to_unlike D.from D.to) (number_too_high D.station) (stray_voltage D.kv))
      (λ h. all_long (shape_fits D.station D.kv D.from D.to h))

  not_late : late D ≢ Some Refusals.ListTooShort
  unfolding late late_by
  not_late = late_other _ _

  answered : (x : Option Refusal) → x ≢ Some Refusals.ListTooShort → (e : Refusal)
      → (call_early x D figures store).answer ≡ Err e → e ≢ Refusals.ListTooShort
  unfolding call_early call_late
  answered None o e a f = not_late (sym (refused (late D) e (figures_of D) (sym a)) ∙ cc)
  answered (Some x) o e a f = o cc

  pub long_enough : (e : Refusal) → (called D).answer ≡ Err e → e ≢ Refusals.ListTooShort
  unfolding audit_of
  long_enough e a = answered (early D (room_of figures store)) not_early e a
