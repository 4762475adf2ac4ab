-- Answers for `stations::sizes::sides`.
use mathlib.Core.Path.{◌≡◌, refl, ap, ◌∙◌}
use Prim.Native.Nat.{◌<◌}
use native.Mathlib.Omega.{arith}
use lib.ListN.{length, length-set}
use Rattle.stations.specs.Size.{sides}
use Rattle.network.proofs.Occupied.{passed_no, passed_all, has_buses, has_none}
use Rattle.stations.proofs.sizes.Occupied.{sides_none, sides_more}
use Rattle.stations.proofs.sizes.sides.Goals as goal
use Rattle.stations.proofs.sizes.sides.Goals.{then-is_occupied, else-is_occupied}

pub loop-s-init : goal.loop-s-init
loop-s-init c = (omega arith, refl, omega arith, sides_none _ _ _)

pub loop-s-preserved : goal.loop-s-preserved
loop-s-preserved c =
    elim c.if-is_occupied.branch [
      | then-is_occupied w ↦ rw w.frames-is (rw w.r-is (let v = c.loop-s.invariant in
          let h : c.loop-s.s < c.args.measured.now.k = omega arith in
          let l : c.loop-s.r < length c.loop-s.frames = omega arith in
          let g = (has_buses _ _ c.is_occupied.ensures w.if-is_occupied.true) in
          (omega arith, simp length-set v.1, omega arith, sides_more _ _ _ h g _ _ _ _ l w.max.ensures v.3)))
      | else-is_occupied w ↦ rw w.frames-is (rw w.r-is (let v = c.loop-s.invariant in
          let h : c.loop-s.s < c.args.measured.now.k = omega arith in
          (omega arith, v.1, omega arith, v.3 ∙ ap (sides _) (passed_no _ _ _ h (has_none _ _ c.is_occupied.ensures w.if-is_occupied.false)))))
    ]

pub returns-clause-sides_written : goal.returns-clause-sides_written
returns-clause-sides_written c = let v = c.loop-s.invariant in let e : c.loop-s.s ≡ c.args.measured.now.k = omega arith in cc (e, v.3, passed_all c.args.measured.now.k c.args.measured.now.counts.now)
