-- What refusals 1 to 4 promise where none applies, and tests that code asks the other way round.
-- Assumes nothing.
use mathlib.Core.Path.{◌≡◌, refl, sym}
use mathlib.Core.Bool.{Bool, true, false, not, ◌||◌, true≢false}
use mathlib.Core.List.{List}
use Prim.Native.Nat.{ℕ, ◌≤◌}
use native.Mathlib.Omega.{arith}
use lib.IntN.{ℤ}
use lib.ListN.{length}
use borrow.Author.Tests.{ltb-false, eqb-true}
use Rattle.network.specs.Words.{station_count}
use Rattle.std.specs.Prelude.{Some, None}
use Rattle.network.specs.declared.refusals.Refusal.TheVariants.{TooMany, KvLength, ToLength, StationNumber, Voltage}
use Rattle.network.specs.Refusal.{refuse, stray_voltage, shape_refusal}

pub test_on : (b : Bool) → not b ≡ false → b ≡ true
test_on true h = refl
test_on false h = sym h

pub test_off : (b : Bool) → not b ≡ true → b ≡ false
test_off true h = sym h
test_off false h = refl

pub neither : (a b : Bool) → (a || b) ≡ false → (a ≡ false) × (b ≡ false)
neither true b h = absurd (true≢false h)
neither false b h = (refl, h)

-- ---- refusals 1 to 4 and 15

pub record Shape (sub kv : List ℕ) (from to : List ℤ) : Type 0 where
  pub few : length sub ≤ 4096
  pub many : length from ≤ 8192
  pub voltages : length kv ≡ length sub
  pub ends : length to ≡ length from
  pub below : station_count sub ≤ length sub

none_of : (a b c d e : Bool) → None ≡ refuse a (Some TooMany) (refuse b (Some KvLength) (refuse c (Some ToLength) (refuse d (Some StationNumber) (refuse e (Some Voltage) None)))) → (a ≡ false) × (b ≡ false) × (c ≡ false) × (d ≡ false) × (e ≡ false)
none_of true b c d e h = cc
none_of false true c d e h = cc
none_of false false true d e h = cc
none_of false false false true e h = cc
none_of false false false false true h = cc
none_of false false false false false h = (refl, refl, refl, refl, refl)

pub shape_fits : (sub kv : List ℕ) (from to : List ℤ) → None ≡ shape_refusal sub kv from to → Shape sub kv from to
unfolding shape_refusal
shape_fits sub kv from to h =
    let z = none_of _ _ _ _ (stray_voltage kv) h in
    let m = neither _ _ z.0 in
    record {
      few = ltb-false _ _ m.0;
      many = ltb-false _ _ m.1;
      voltages = eqb-true _ _ (test_on _ z.1);
      ends = eqb-true _ _ (test_on _ z.2);
      below = ltb-false _ _ z.3;
    }
