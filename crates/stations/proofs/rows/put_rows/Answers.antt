-- Answers for `stations::rows::put_rows`.
use Prim.Native.Nat.{ℕ}
use mathlib.Core.Path.{refl, ap, ◌∙◌}
use native.Mathlib.Omega.{arith}
use lib.ListN.{length, get_or, length-set}
use Rattle.stations.specs.Stages.Entry.{to_entry}
use Rattle.stations.proofs.ranking.Fronts.{side_zero, two_next}
use Rattle.stations.proofs.rows.put_rows.Goals as goal

pub loop-e-init : goal.loop-e-init
loop-e-init c = (omega arith, refl, refl, side_zero _ _ _ _, side_zero _ _ _ _)

pub loop-e-preserved : goal.loop-e-preserved
loop-e-preserved c =
    let t = two_next _ _ _ _ _ _ (omega arith) c.at.ensures (c.at-in-loop-e.ensures ∙ ap (λ (j : ℕ). get_or c.args.rows.now j 0) c.to_entry.ensures) c.loop-e.invariant.3 c.loop-e.invariant.4 in
    (omega arith, c.loop-e.invariant.1, simp length-set c.loop-e.invariant.2, t.0, t.1)
