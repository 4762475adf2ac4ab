-- What a call of the largest fill gives, in the words of the rule. Assumes nothing.
use mathlib.Core.Path.{◌≡◌, refl, sym, ap, ◌∙◌}
use mathlib.Core.Bool.{Bool, true, false, not, ◌&&◌}
use Prim.Native.Nat.{ℕ, zero, suc, ◌≤◌, ◌<◌}
use native.Mathlib.Omega.{arith}
use lib.ListN.{length}
use Rattle.std.specs.Prelude.{Option, Some, None, Ok, Err, is_ok}
use Rattle.std.specs.Option.{option_or}
use Rattle.numbers.specs.Order.{pick}
use Rattle.network.specs.declared.options.Options.{Options}
use Rattle.network.specs.declared.refusals.Refusal.{Refusal}
use Rattle.network.specs.declared.refusals.Refusal.TheVariants as Refusals
use Rattle.network.specs.declared.refusals.Refusal.TheVariants.{NoFill}
use Rattle.network.specs.Options.{in_range}
use Rattle.network.specs.Words.{station_count}
use Rattle.network.specs.Refusal.{refuse, too_many, kv_unlike, to_unlike, number_too_high, stray_voltage, too_far, shape_refusal}
use Rattle.drawing.specs.declared.lengths.ListLengths.{ListLengths}
use Rattle.drawing.specs.Network.{Network, Lists, Work, Crossings}
use Rattle.drawing.specs.Drawing.{all_free}
use Rattle.drawing.specs.Answer.{room_of, early, mesh_length, short_results, short_work, layout_of}
use Rattle.fill.specs.declared.answer.Largest.{Largest}
use Rattle.fill.specs.Fill.{at_fill, serves, greatest, FillCall, fill_call, with_fill, fill_late, fill_early, largest_fill_of}
use Rattle.fill.specs.Laws.{IsLargest, LargestFill, LargestFillHolds}
use Rattle.fill.proofs.Calls.{early_same, greatest_has, greatest_most, greatest_none, with_ok, and_true, refused, serve_of}

-- ---- 18 is no refusal of an input
shape_other : (a b c d e : Bool) → refuse a (Some Refusals.TooMany) (refuse b (Some Refusals.KvLength) (refuse c (Some Refusals.ToLength) (refuse d (Some Refusals.StationNumber) (refuse e (Some Refusals.Voltage) None)))) ≡ Some NoFill → ⊥
shape_other true b c d e h = cc
shape_other false true c d e h = cc
shape_other false false true d e h = cc
shape_other false false false true e h = cc
shape_other false false false false true h = cc
shape_other false false false false false h = cc

early_other : (s : Option Refusal) → (s ≡ Some NoFill → ⊥) → (a b c d : Bool)
    → option_or s (refuse a (Some Refusals.OptionRange) (refuse b (Some Refusals.TooFar) (refuse c (Some Refusals.ListTooShort) (refuse d (Some Refusals.ListTooShort) None)))) ≡ Some NoFill → ⊥
early_other (Some r) f a b c d h = f h
early_other None f true b c d h = cc
early_other None f false true c d h = cc
early_other None f false false true d h = cc
early_other None f false false false true h = cc
early_other None f false false false false h = cc

no_eighteen : (o : Options) (N : Network) (R : ListLengths) → early o N R ≡ Some NoFill → ⊥
unfolding early shape_refusal
no_eighteen o N R =
    early_other (shape_refusal N.station N.kv N.from N.to)
    (shape_other (too_many N.station N.from) (kv_unlike N.station N.kv) (to_unlike N.from N.to) (number_too_high N.station) (stray_voltage N.kv))
    (not (in_range o)) (too_far (length N.station) N.xy) (short_results (length N.station) (length N.from) (station_count N.station) R)
    (short_work (length N.station) (length N.from) (mesh_length N) R)

greatest_absent : (p : ℕ → Bool) (n : ℕ) → ((j : ℕ) → 0 < j → j ≤ n → p j ≡ false) → greatest p n ≡ None
unfolding greatest
greatest_absent p zero f = refl
greatest_absent p (suc n) f =
    ap (λ (b : Bool). pick b (Some (suc n)) (greatest p n)) (f (suc n) (omega arith) (omega arith))
    ∙ greatest_absent p n (λ j h l. f j h (omega arith))

module _ (O : Options) (N : Network) (L : Lists) (W : Work) (X : Crossings) where
  abbrev passed : Type 0
  passed = early (at_fill O 64) N (room_of L W X) ≡ None

  -- past the input, the call is decided by the greatest fill that serves
  late_is : passed → largest_fill_of O N L W X ≡ fill_late (greatest (serves O N L W X) 64) O N L W X
  unfolding largest_fill_of fill_early
  late_is e = rw e

  none_of : (g : Option ℕ) → greatest (serves O N L W X) 64 ≡ g → (fill_late g O N L W X).answer ≡ Err NoFill → (layouts : (k : ℕ) → greatest (serves O N L W X) 64 ≡ Some k → (fill_late (Some k) O N L W X).answer ≡ Err NoFill → ⊥)
      → (j : ℕ) → 0 < j → j ≤ 64 → serves O N L W X j ≡ false
  none_of None e h f = greatest_none (serves O N L W X) 64 e
  none_of (Some k) e h f = absurd (f k e h)

  -- where a fill serves, layout answers a drawing there
  drawn_there : (k : ℕ) → greatest (serves O N L W X) 64 ≡ Some k → (fill_late (Some k) O N L W X).answer ≡ Err NoFill → ⊥
  unfolding fill_late serves
  drawn_there k e h = serve_of k (layout_of (at_fill O k) N L W X).answer (all_free (at_fill O k) N) (greatest_has (serves O N L W X) 64 k e).3 h

  drawn_late : (a : Largest) (g : Option ℕ) → greatest (serves O N L W X) 64 ≡ g → (fill_late g O N L W X).answer ≡ Ok a → IsLargest O N L W X (fill_late g O N L W X) a
  unfolding fill_late serves
  drawn_late a None e h = cc
  drawn_late a (Some k) e h =
      let w = with_ok k (layout_of (at_fill O k) N L W X).answer a h in
      let p = greatest_has (serves O N L W X) 64 k e in
      record {
        above = omega (arith, w.0, p.1);
        most = omega (arith, w.0, p.1, p.2);
        answer = ap (λ (j : ℕ). (layout_of (at_fill O j) N L W X).answer) (sym w.0) ∙ w.1;
        lists = ap (λ (j : ℕ). (layout_of (at_fill O j) N L W X).lists) w.0;
        work = ap (λ (j : ℕ). (layout_of (at_fill O j) N L W X).work) w.0;
        crossings = ap (λ (j : ℕ). (layout_of (at_fill O j) N L W X).crossings) w.0;
        free = ap (λ (j : ℕ). all_free (at_fill O j) N) (sym w.0) ∙ (and_true (is_ok (layout_of (at_fill O k) N L W X).answer) (all_free (at_fill O k) N) p.3).1;
        none_larger = λ j l m. greatest_most (serves O N L W X) 64 k e j (omega (arith, w.0, l)) m;
      }

  drawn_early : (a : Largest) (r : Option Refusal) → (fill_early r O N L W X).answer ≡ Ok a → IsLargest O N L W X (fill_early r O N L W X) a
  unfolding fill_early
  drawn_early a None h = drawn_late a (greatest (serves O N L W X) 64) refl h
  drawn_early a (Some r) h = cc

  drawn_is : (a : Largest) → (largest_fill_of O N L W X).answer ≡ Ok a → IsLargest O N L W X (largest_fill_of O N L W X) a
  unfolding largest_fill_of
  drawn_is a h = drawn_early a (early (at_fill O 64) N (room_of L W X)) h

  eighteen_is : passed → ((j : ℕ) → 0 < j → j ≤ 64 → serves O N L W X j ≡ false) → (largest_fill_of O N L W X).answer ≡ Err NoFill
  unfolding fill_late
  eighteen_is e f =
      ap (λ (z : FillCall). z.answer) (late_is e)
      ∙ ap (λ (g : Option ℕ). (fill_late g O N L W X).answer) (greatest_absent (serves O N L W X) 64 f)

pub largest_fill_holds : LargestFillHolds
largest_fill_holds O N L W X =
    record {
      alike = early_same O N L W X;
      refused = λ r e. sym (refused O N L W X r (sym e));
      drawn = drawn_is O N L W X;
      none = λ e h.
          none_of O N L W X (greatest (serves O N L W X) 64) refl (sym (ap (λ (z : FillCall). z.answer) (late_is O N L W X e)) ∙ h)
          (drawn_there O N L W X);
      eighteen = eighteen_is O N L W X;
      other = λ r e n. no_eighteen (at_fill O 64) N (room_of L W X) (e ∙ ap Some n);
    }
