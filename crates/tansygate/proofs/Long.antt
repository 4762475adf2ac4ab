-- The lists that are lent for a drawing are long enough: it is never refused for lists that are too short. Assumes nothing.
use mathlib.Core.Path.{◌≡◌, refl, sym, ◌∙◌}
use mathlib.Core.Logic.{◌≢◌}
use mathlib.Core.Bool.{Bool, true, false, ◌||◌}
use Prim.Native.Nat.{ℕ, ◌+◌, ◌*◌, ◌≤◌, min}
use native.Mathlib.Omega.{arith}
use lib.ListN.{length, length-replicate}
use Rattle.std.proofs.lemmas.Bool.{le-ltb}
use Rattle.std.specs.Prelude.{Option, Some, None, Err}
use Rattle.std.specs.Option.{option_or}
use Rattle.network.specs.declared.options.Options.{Options}
use Rattle.network.specs.declared.refusals.Refusal.{Refusal}
use Rattle.network.specs.declared.refusals.Refusal.TheVariants as Refusals
use Rattle.network.specs.Words.{station_count}
use Rattle.network.specs.Refusal.{refuse, too_many, kv_unlike, to_unlike, number_too_high, stray_voltage, shape_refusal}
use Rattle.network.proofs.refusals.Shapes.{Shape, shape_fits}
use Rattle.network.proofs.refusals.Unless.{refused}
use Rattle.boxes.specs.Length.{index_length}
use Rattle.routing.specs.Routes.{route_refusal}
use Rattle.drawing.specs.declared.lengths.ListLengths.{ListLengths}
use Rattle.drawing.specs.Network.{Network}
use Rattle.drawing.specs.Drawing.{Drawing, drawing}
use Rattle.drawing.specs.Answer.{room_of, mesh_length, sorting, short_results, short_work, early, routed_by, late_by, late, answer_for, plot_of, call_late, call_early, layout_of}
use Rattle.tansygate.specs.declared.drawings.AskedRoom.{AskedRoom}
use Rattle.tansygate.specs.Lists.{lent_lists}
use Rattle.tansygate.specs.Work.{lent_work, lent_crossings, sorts}
use Rattle.tansygate.specs.Drawn.{called, most}

-- ---- chains of tests
pub nor : (a b : Bool) → a ≡ false → b ≡ false → (a || b) ≡ false
nor true b e f = cc
nor false b e f = f

-- the early refusals but that of short lists
early_other : (s : Option Refusal) (a b c d : Bool) → s ≢ Some Refusals.ListTooShort → (None ≡ s → (c ≡ false) × (d ≡ false))
    → option_or s (refuse a (Some Refusals.OptionRange) (refuse b (Some Refusals.TooFar) (refuse c (Some Refusals.ListTooShort) (refuse d (Some Refusals.ListTooShort) None)))) ≢ Some Refusals.ListTooShort
early_other (Some r) a b c d o h e = o e
early_other None true b c d o h e = cc
early_other None false true c d o h e = cc
early_other None false false true d o h e = let k = h refl in cc
early_other None false false false true o h e = let k = h refl in cc
early_other None false false false false o h e = cc

pub shape_other : (a b c d e : Bool)
    → refuse a (Some Refusals.TooMany) (refuse b (Some Refusals.KvLength) (refuse c (Some Refusals.ToLength) (refuse d (Some Refusals.StationNumber) (refuse e (Some Refusals.Voltage) None)))) ≢ Some Refusals.ListTooShort
shape_other true b c d e h = cc
shape_other false true c d e h = cc
shape_other false false true d e h = cc
shape_other false false false true e h = cc
shape_other false false false false true h = cc
shape_other false false false false false h = cc

late_other : (a b c d : Bool)
    → option_or (refuse a (Some Refusals.IllSized) (refuse b (Some Refusals.Mesh) (refuse c (Some Refusals.Crossings) None))) (refuse d (Some Refusals.Pieces) None) ≢ Some Refusals.ListTooShort
late_other true b c d h = cc
late_other false true c d h = cc
late_other false false true d h = cc
late_other false false false true h = cc
late_other false false false false h = cc

-- ---- lengths
module _ (n m k : ℕ) (R : ListLengths) where
  long_results : 2 * n ≤ R.positions → 4 * n ≤ R.bars → 4 * k ≤ R.boxes → k ≤ R.scales → m ≤ R.roles → short_results n m k R ≡ false
  unfolding short_results
  long_results a b c d e = nor _ _ (le-ltb _ _ a) (nor _ _ (le-ltb _ _ b) (nor _ _ (le-ltb _ _ c) (nor _ _ (le-ltb _ _ d) (le-ltb _ _ e))))

module _ (n m mesh : ℕ) (R : ListLengths) where
  long_work : 2 * n ≤ R.stations → 3 * n ≤ R.buses → 4 * m + 4 * mesh + 4 ≤ R.ends → sorting n m mesh ≤ R.sorted → sorting n m mesh ≤ R.spare → sorting n m mesh ≤ R.keys
      → 2 * n + 4 * m ≤ R.places → 3 * n ≤ R.blocks → 4 * n ≤ R.frames → 2 * n + 3 * mesh + 16 ≤ R.path → 5 * n ≤ R.sorted → short_work n m mesh R ≡ false
  unfolding short_work index_length
  long_work a b c d e f g h i j l =
      nor _ _ (le-ltb _ _ a) (nor _ _ (le-ltb _ _ b) (nor _ _ (le-ltb _ _ c) (nor _ _ (le-ltb _ _ d) (nor _ _ (le-ltb _ _ e) (nor _ _ (le-ltb _ _ f)
      (nor _ _ (le-ltb _ _ g) (nor _ _ (le-ltb _ _ h) (nor _ _ (le-ltb _ _ i) (nor _ _ (le-ltb _ _ j) (le-ltb _ _ l))))))))))

-- ---- the call
module _ (O : Options) (N : Network) (r : AskedRoom) where
  abbrev n : ℕ
  n = min (length N.station) 4096

  abbrev m : ℕ
  m = min (length N.from) 8192

  abbrev k : ℕ
  k = min (station_count N.station) 4096

  abbrev p : ℕ
  p = min r.pieces most

  abbrev c : ℕ
  c = min r.crossings most

  abbrev s : ℕ
  s = sorts n m (mesh_length N) c

  abbrev lent : ListLengths
  lent = room_of (lent_lists n m k p) (lent_work n m (mesh_length N) s) (lent_crossings c)

  results_long : Shape N.station N.kv N.from N.to → short_results (length N.station) (length N.from) (station_count N.station) lent ≡ false
  results_long S =
      let few = S.few in
      let many = S.many in
      let below = S.below in
      long_results (length N.station) (length N.from) (station_count N.station) lent
      (simp (length-replicate) (omega arith))
      (simp (length-replicate) (omega arith))
      (simp (length-replicate) (omega arith))
      (simp (length-replicate) (omega arith))
      (simp (length-replicate) (omega arith))

  work_long : Shape N.station N.kv N.from N.to → short_work (length N.station) (length N.from) (mesh_length N) lent ≡ false
  work_long S =
      let few = S.few in
      let many = S.many in
      long_work (length N.station) (length N.from) (mesh_length N) lent
      (simp (length-replicate) (omega arith))
      (simp (length-replicate) (omega arith))
      (simp (length-replicate) (omega arith))
      (simp (length-replicate) (omega arith))
      (simp (length-replicate) (omega arith))
      (simp (length-replicate) (omega arith))
      (simp (length-replicate) (omega arith))
      (simp (length-replicate) (omega arith))
      (simp (length-replicate) (omega arith))
      (simp (length-replicate) (omega arith))
      (simp (length-replicate) (omega arith))

  not_early : early O N lent ≢ Some Refusals.ListTooShort
  unfolding early shape_refusal
  not_early =
      early_other _ _ _ _ _ (shape_other (too_many N.station N.from) (kv_unlike N.station N.kv) (to_unlike N.from N.to) (number_too_high N.station) (stray_voltage N.kv))
      (λ h. let S = shape_fits N.station N.kv N.from N.to h in (results_long S, work_long S))

  not_late : (d : Drawing) → late d lent ≢ Some Refusals.ListTooShort
  unfolding late late_by routed_by route_refusal
  not_late d = late_other _ _ _ _

  answered : (x : Option Refusal) → x ≢ Some Refusals.ListTooShort → (e : Refusal)
      → (call_early x O N (lent_lists n m k p) (lent_work n m (mesh_length N) s) (lent_crossings c)).answer ≡ Err e → e ≢ Refusals.ListTooShort
  unfolding call_early call_late answer_for
  answered None o e a f = not_late (drawing O N) (sym (refused (late (drawing O N) lent) e (plot_of (drawing O N)) (sym a)) ∙ cc)
  answered (Some x) o e a f = o cc

  pub long_enough : (e : Refusal) → (called O N r).answer ≡ Err e → e ≢ Refusals.ListTooShort
  unfolding layout_of
  long_enough e a = answered (early O N lent) not_early e a
