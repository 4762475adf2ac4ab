-- The number of a call is the chain of the table of refusals, which the definitions of its stages give part by part. Assumes nothing.
use Prim.Native.Nat.{ℕ}
use mathlib.Core.Path.{◌≡◌, refl, ap, ◌∙◌}
use mathlib.Core.Bool.{Bool, true, false, not, ◌||◌}
use lib.Dec.{ltb}
use lib.ListN.{length}
use Rattle.network.specs.declared.options.Options.{Options}
use Rattle.network.specs.Options.{in_range}
use Rattle.network.specs.Words.{station_count, occupied}
use Rattle.std.specs.Prelude.{Option, Some, None}
use Rattle.std.specs.Option.{option_or}
use Rattle.network.specs.declared.refusals.Refusal.{Refusal}
use Rattle.network.specs.declared.refusals.Refusal.TheVariants as Refusals
use Rattle.network.proofs.refusals.Numbers.{number_or, number_later, number_unless}
use Rattle.network.specs.Refusal.{refuse, number_of, too_many, kv_unlike, to_unlike, number_too_high, stray_voltage, too_far, shape_refusal}
use Rattle.placement.specs.Sized.{ill_sized}
use Rattle.routing.specs.Routes.{route_refusal}
use Rattle.drawing.specs.Network.{Network, Lists, Work, Crossings}
use Rattle.drawing.specs.Drawing.{drawing}
use Rattle.drawing.specs.Answer.{room_of, mesh_length, short_results, short_work, crossing_room, piece_room, early, routed_by, late_by, late, answer_for, Call, call_late, call_early, layout_of}
use Rattle.drawing.specs.Number.{layout_number, Answered}

-- parts of the chain, one after the other
first_rows : (a b c d e : Bool) (later : ℕ)
    → number_or (refuse a (Some Refusals.TooMany) (refuse b (Some Refusals.KvLength) (refuse c (Some Refusals.ToLength) (refuse d (Some Refusals.StationNumber) (refuse e (Some Refusals.Voltage) None))))) later
    ≡ refuse a 1 (refuse b 2 (refuse c 3 (refuse d 4 (refuse e 15 later))))
first_rows true b c d e later = refl
first_rows false true c d e later = refl
first_rows false false true d e later = refl
first_rows false false false true e later = refl
first_rows false false false false true later = refl
first_rows false false false false false later = refl

next_rows : (a b c d : Bool) (later : ℕ)
    → number_or (refuse a (Some Refusals.OptionRange) (refuse b (Some Refusals.TooFar) (refuse c (Some Refusals.ListTooShort) (refuse d (Some Refusals.ListTooShort) None)))) later
    ≡ refuse a 5 (refuse b 6 (refuse (c || d) 7 later))
next_rows true b c d later = refl
next_rows false true c d later = refl
next_rows false false true d later = refl
next_rows false false false true later = refl
next_rows false false false false later = refl

last_rows : (a b c d : Bool)
    → number_or (option_or (refuse a (Some Refusals.IllSized) (refuse b (Some Refusals.Mesh) (refuse c (Some Refusals.Crossings) None))) (refuse d (Some Refusals.Pieces) None)) 0
    ≡ refuse a 8 (refuse b 9 (refuse c 10 (refuse d 11 0)))
last_rows true b c d = refl
last_rows false true c d = refl
last_rows false false true d = refl
last_rows false false false true = refl
last_rows false false false false = refl

module _ (O : Options) (N : Network) (L : Lists) (W : Work) (X : Crossings) where
  number_by : (r : Option Refusal) → number_of (call_early r O N L W X).answer ≡ number_or r (number_or (late (drawing O N) (room_of L W X)) 0)
  unfolding call_early call_late answer_for number_of
  number_by None = number_unless (late (drawing O N) (room_of L W X)) _
  number_by (Some r) = refl

  pub layout_number_lem : number_of (layout_of O N L W X).answer ≡ layout_number O N (room_of L W X)
  unfolding layout_of layout_number early late late_by routed_by route_refusal shape_refusal
  layout_number_lem =
      let R = room_of L W X in
      let n = length N.station in
      let m = length N.from in
      let d = drawing O N in
      let short = short_results n m (station_count N.station) R in
      let shortWorks = short_work n m (mesh_length N) R in
      let ill = ill_sized d.boxes (occupied d.counts) in
      let crowded = ltb (crossing_room R) (length d.crossings) in
      let full = ltb (piece_room R.pieces R.branches) (length d.pieces) in
      let ends : ℕ = number_or (late d R) 0 in
      let shape = shape_refusal N.station N.kv N.from N.to in
      let options : Option Refusal = refuse (not (in_range O)) (Some Refusals.OptionRange) (refuse (too_far n N.xy) (Some Refusals.TooFar) (refuse short (Some Refusals.ListTooShort) (refuse shortWorks (Some Refusals.ListTooShort) None))) in
      number_by (early O N R)
      ∙ number_later shape options ends
      ∙ first_rows (too_many N.station N.from) (kv_unlike N.station N.kv) (to_unlike N.from N.to) (number_too_high N.station) (stray_voltage N.kv) (number_or options ends)
      ∙ rw (next_rows (not (in_range O)) (too_far n N.xy) short shortWorks ends, last_rows ill (not d.mesh_fits) crowded full)

  pub answered : (C : Call) → C ≡ layout_of O N L W X → Answered O N L W X C
  answered C e = record { number = ap (λ (D : Call). number_of D.answer) e ∙ layout_number_lem; is = e }
