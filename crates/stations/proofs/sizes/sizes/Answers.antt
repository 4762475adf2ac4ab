-- Answers for `stations::sizes::sizes`.
use mathlib.Core.Path.{◌≡◌, refl}
use Prim.Native.Nat.{◌+◌, ◌*◌, ◌≤◌, ◌<◌}
use native.Mathlib.Omega.{arith}
use lib.ListN.{length, length-set}
use lib.Seq.{lt-length-set}
use Rattle.stations.proofs.sizes.Blocks.{sizes_start, sizes_step, sizes_end}
use Rattle.stations.proofs.sizes.sizes.Goals as goal

pub loop-s-init : goal.loop-s-init
loop-s-init c = (omega arith, refl, sizes_start _ _ _ _)

pub loop-s-preserved : goal.loop-s-preserved
loop-s-preserved c =
    let h : c.loop-s.s < c.args.stations.now.k = omega arith in
    let l : 3 * c.args.stations.now.k ≤ length c.loop-s.blocks = omega arith in
    (omega arith, simp length-set c.loop-s.invariant.1, sizes_step c.args.block_options c.args.stations.now.k c.args.stations.now.counts.now c.loop-s.s c.loop-s.blocks _ _ h l c.loop-s.invariant.2 c.width.ensures c.height.ensures)

pub returns : goal.returns
returns c =
    let e : c.loop-s.s ≡ c.args.stations.now.k = omega arith in
    cc (e, c.loop-s.invariant.2, sizes_end c.args.block_options c.args.stations.now.k c.args.stations.now.counts.now)
