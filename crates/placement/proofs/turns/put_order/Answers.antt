-- Answers for `turns::turns::put_order`.
use Prim.Native.Nat.{ℕ}
use mathlib.Core.Path.{◌≡◌, refl, subst, ◌∙◌}
use native.Mathlib.Omega.{arith}
use lib.ListN.{length, length-set, take}
use lib.Seq.{take-length}
use Rattle.network.specs.Views.{order_in}
use Rattle.placement.proofs.turns.Queue.{put_none, put_more, put_kept}
use Rattle.placement.proofs.turns.put_order.Goals as goal

pub loop-p-init : goal.loop-p-init
loop-p-init c = (omega arith, refl, put_none c.args.stations.now c.args.sorted.now, λ k. refl)

pub loop-p-preserved : goal.loop-p-preserved
loop-p-preserved c = (
  omega arith,
  simp length-set (omega arith),
  put_more _ _ _ c.loop-p.invariant.2 (omega arith) (omega arith),
  λ k. put_kept k _ _ _ ∙ c.loop-p.invariant.3 k,
)
