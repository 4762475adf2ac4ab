-- The number of an audit is the chain of the table of refusals, which the definitions of its stages give part by part. Assumes nothing.
use Prim.Native.Nat.{ℕ}
use mathlib.Core.Path.{◌≡◌, refl, ap, ◌∙◌}
use mathlib.Core.Bool.{Bool, true, false, not}
use lib.ListN.{length}
use Rattle.network.specs.Words.{station_count}
use Rattle.std.specs.Prelude.{Option, Some, None}
use Rattle.std.specs.Option.{option_or}
use Rattle.network.specs.declared.refusals.Refusal.{Refusal}
use Rattle.network.specs.declared.refusals.Refusal.TheVariants as Refusals
use Rattle.network.proofs.refusals.Numbers.{number_or, number_unless}
use Rattle.network.specs.Refusal.{refuse, number_of, too_many, kv_unlike, to_unlike, number_too_high, stray_voltage, shape_refusal, too_far}
use Rattle.audit.specs.Fit.{fits}
use Rattle.audit.specs.Scale.{ill_drawn}
use Rattle.audit.specs.Drawn.{Drawn, Lists, Work, room_of}
use Rattle.audit.specs.Answer.{too_short, early, boxes_of, stations_of, late_by, late, audit_number, figures_of, Call, call_late, call_early, audit_of, Answered}

first_rows : (a b c d e f g : Bool) (later : ℕ)
    → number_or (option_or (refuse a (Some Refusals.TooMany) (refuse b (Some Refusals.KvLength) (refuse c (Some Refusals.ToLength) (refuse d (Some Refusals.StationNumber) (refuse e (Some Refusals.Voltage) None)))))
    (refuse f (Some Refusals.TooFar) (refuse g (Some Refusals.ListTooShort) None))) later
    ≡ refuse a 1 (refuse b 2 (refuse c 3 (refuse d 4 (refuse e 15 (refuse f 6 (refuse g 7 later))))))
first_rows true b c d e f g later = refl
first_rows false true c d e f g later = refl
first_rows false false true d e f g later = refl
first_rows false false false true e f g later = refl
first_rows false false false false true f g later = refl
first_rows false false false false false true g later = refl
first_rows false false false false false false true later = refl
first_rows false false false false false false false later = refl

last_rows : (a b : Bool) → number_or (refuse a (Some Refusals.NoFit) (refuse b (Some Refusals.IllSized) None)) 0 ≡ refuse a 13 (refuse b 8 0)
last_rows true b = refl
last_rows false true = refl
last_rows false false = refl

module _ (D : Drawn) (L : Lists) (W : Work) where
  number_by : (r : Option Refusal) → number_of (call_early r D L W).answer ≡ number_or r (number_or (late D) 0)
  unfolding call_early call_late number_of
  number_by None = number_unless (late D) (figures_of D)
  number_by (Some r) = refl

  audit_number_lem : number_of (audit_of D L W).answer ≡ audit_number D (room_of L W)
  unfolding audit_of audit_number early late late_by shape_refusal
  audit_number_lem =
      number_by (early D (room_of L W))
      ∙ first_rows (too_many D.station D.from) (kv_unlike D.station D.kv) (to_unlike D.from D.to) (number_too_high D.station) (stray_voltage D.kv)
      (too_far (length D.station) D.xy) (too_short (length D.station) (station_count D.station) (length D.branches) (room_of L W)) (number_or (late D) 0)
      ∙ rw (last_rows (not (fits D.station D.from D.to D.boxes D.roles D.pieces D.branches)) (ill_drawn (boxes_of D) (stations_of D) D.pieces))

  pub answered : (C : Call) → C ≡ audit_of D L W → Answered D L W C
  answered C e = record { number = ap (λ (B : Call). number_of B.answer) e ∙ audit_number_lem; is = e }
