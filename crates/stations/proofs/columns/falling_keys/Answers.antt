-- Answers for `stations::columns::falling_keys`.
use Prim.Native.Nat.{ℕ}
use mathlib.Core.Path.{◌≡◌, refl, ap, subst}
use native.Mathlib.Omega.{arith}
use lib.ListN.{length, take, length-set}
use Rattle.numbers.specs.Table.{table}
use Rattle.stations.specs.Column.{voltage, falling}
use Rattle.stations.proofs.ranking.Fronts.{front_zero, front_next}
use Rattle.stations.proofs.columns.falling_keys.Goals as goal

pub loop-i-init : goal.loop-i-init
loop-i-init c = (omega arith, refl, front_zero _)

pub loop-i-preserved : goal.loop-i-preserved
unfolding falling
loop-i-preserved c =
    (omega arith, simp length-set c.loop-i.invariant.1, front_next _ _ _ _ (omega arith) (ap falling c.key_of_bits.ensures) c.loop-i.invariant.2)
