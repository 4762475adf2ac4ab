-- Answers for `stations::units::coordinates`.
use mathlib.Core.Path.{◌≡◌, refl, sym, ap, ◌∙◌}
use Prim.Native.Nat.{◌+◌, ◌*◌, ◌<◌}
use native.Mathlib.Omega.{arith}
use lib.ListN.{length, get_or, length-set}
use lib.Ieee.{nan}
use lib.Seq.{lt-length-set}
use Rattle.numbers.proofs.order.Tables.{how_many_zero}
use Rattle.stations.specs.Unit.{coordinates}
use Rattle.network.proofs.Occupied.{count_yes, count_no, passed_no, passed_all, count_all, has_buses, has_none}
use Rattle.stations.proofs.units.Points.{coordinates_none, coordinates_more}
use Rattle.stations.proofs.units.coordinates.Goals as goal
use Rattle.stations.proofs.units.coordinates.Goals.{then-is_occupied, else-is_occupied}

pub loop-s-init : goal.loop-s-init
loop-s-init c = (omega arith, refl, omega arith, sym (how_many_zero _), coordinates_none _ _ _)

pub loop-s-preserved : goal.loop-s-preserved
loop-s-preserved c =
    elim c.if-is_occupied.branch [
      | then-is_occupied w ↦ rw w.path-is (rw w.r-is (let v = c.loop-s.invariant in
          let h : c.loop-s.s < c.args.stations.now.k = omega arith in
          let l : 2 * c.loop-s.r + 1 < length c.loop-s.path = omega arith in
          let g = (has_buses _ _ c.is_occupied.ensures w.if-is_occupied.true) in
          (omega arith, simp length-set v.1, omega arith, count_yes _ _ _ h g _ v.3, coordinates_more _ _ _ h g _ _ _ l v.4)))
      | else-is_occupied w ↦ rw w.path-is (rw w.r-is (let v = c.loop-s.invariant in
          let h : c.loop-s.s < c.args.stations.now.k = omega arith in
          (omega arith, v.1, omega arith, count_no _ _ _ h _ (has_none _ _ c.is_occupied.ensures w.if-is_occupied.false) v.3, v.4 ∙ ap (coordinates _) (passed_no _ _ _ h (has_none _ _ c.is_occupied.ensures w.if-is_occupied.false)))))
    ]

pub returns-clause-coordinates_written : goal.returns-clause-coordinates_written
returns-clause-coordinates_written c = let v = c.loop-s.invariant in let e : c.loop-s.s ≡ c.args.stations.now.k = omega arith in cc (e, v.4, passed_all c.args.stations.now.k c.args.stations.now.counts.now)

pub returns-clause-occupied_count : goal.returns-clause-occupied_count
returns-clause-occupied_count c = let v = c.loop-s.invariant in let e : c.loop-s.s ≡ c.args.stations.now.k = omega arith in cc (e, v.3, count_all c.args.stations.now.k c.args.stations.now.counts.now)
