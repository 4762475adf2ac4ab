-- Answers for `stations::columns::put_columns`.
use Prim.Native.Nat.{ℕ}
use mathlib.Core.Path.{◌≡◌, refl, sym, subst, ◌∙◌}
use native.Mathlib.Omega.{arith}
use lib.ListN.{length, length-set}
use lib.Seq.{take-length}
use Rattle.numbers.specs.Order.{key_at}
use Rattle.numbers.specs.Table.{table, strided}
use Rattle.stations.proofs.ranking.Fronts.{side_zero, side_next, front_table}
use Rattle.stations.proofs.columns.put_columns.Goals as goal

pub loop-i-init : goal.loop-i-init
loop-i-init c = (omega arith, refl, side_zero _ _ _ _)

pub loop-i-preserved : goal.loop-i-preserved
loop-i-preserved c =
    (omega arith, simp length-set c.loop-i.invariant.1, side_next _ _ _ _ _ _ _ (omega arith) (omega arith) (omega arith) refl c.loop-i.invariant.2)

pub returns : goal.returns
returns c =
    let e : c.loop-i.i ≡ length c.args.places.now = omega arith in
    subst (λ (j : ℕ). strided 3 0 0 j c.loop-i.buses ≡ table (key_at c.args.places.now) j) e c.loop-i.invariant.2
    ∙ sym (front_table (length c.args.places.now) c.args.places.now (omega arith))
    ∙ take-length c.args.places.now
