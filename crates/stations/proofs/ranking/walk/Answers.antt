-- Answers for `stations::ranking::walk`.
use Rattle.std.proofs.Common.{◌≡◌, ◌<◌, get_or, take, length, sym, arith}
use Rattle.std.proofs.lemmas.Grind.{common_steps}
use lib.Seq.{get_or-take, length-take-le}
use Rattle.stations.proofs.ranking.Walking.{walk_start, walk_fits, walk_in, walk_past, walk_counts, walk_places}
use Rattle.stations.proofs.ranking.walk.Goals as goal
use Rattle.stations.proofs.ranking.walk.Goals.{then-s-station_total, else-s-station_total}

pub loop-n-init : goal.loop-n-init
loop-n-init c = walk_start _ _ _ _ _ _ (omega arith) (omega arith) (omega arith) c.requires.counters_zero

pub overflow_add-stations : goal.overflow_add-stations
overflow_add-stations c =
    let h : c.loop-n.n-index < c.args.total = omega (arith, length-take-le c.args.total c.args.sorted.now (omega arith)) in
    let e : get_or (take c.args.total c.args.sorted.now) c.loop-n.n-index 0 ≡ get_or c.args.sorted.now c.loop-n.n-index 0 = get_or-take _ _ _ _ h in
    let x : get_or (take c.args.total c.args.sorted.now) c.loop-n.n-index 0 < c.args.total = rw e (c.requires.sorted_below c.loop-n.n-index h) in
    omega (arith, walk_fits _ _ _ _ _ _ (omega arith) (omega arith) (omega arith) _ _ _ c.loop-n.invariant h _ e x c.if-s-station_total.true)

pub loop-n-preserved : goal.loop-n-preserved
loop-n-preserved c =
    let h : c.loop-n.n-index < c.args.total = omega (arith, length-take-le c.args.total c.args.sorted.now (omega arith)) in
    let e : get_or (take c.args.total c.args.sorted.now) c.loop-n.n-index 0 ≡ get_or c.args.sorted.now c.loop-n.n-index 0 = get_or-take _ _ _ _ h in
    let x : get_or (take c.args.total c.args.sorted.now) c.loop-n.n-index 0 < c.args.total = rw e (c.requires.sorted_below c.loop-n.n-index h) in
    elim c.if-s-station_total.branch [
      | then-s-station_total w ↦ rw w.stations-is (rw w.places-is (walk_in _ _ _ _ _ _ (omega arith) (omega arith) (omega arith) _ _ _ c.loop-n.invariant h _ e x w.if-s-station_total.true))
      | else-s-station_total w ↦ rw w.stations-is (rw w.places-is (walk_past _ _ _ _ _ _ (omega arith) (omega arith) (omega arith) _ _ _ c.loop-n.invariant h _ e x w.if-s-station_total.false))
    ]

pub returns-clause-places_written : goal.returns-clause-places_written
returns-clause-places_written c = walk_places _ _ _ _ _ _ (omega arith) (omega arith) (omega arith) _ _ _ c.loop-n.invariant (omega (arith, length-take-le c.args.total c.args.sorted.now (omega arith)))

pub returns-clause-counters_written : goal.returns-clause-counters_written
returns-clause-counters_written c = walk_counts _ _ _ _ _ _ (omega arith) (omega arith) (omega arith) _ _ _ c.loop-n.invariant (omega (arith, length-take-le c.args.total c.args.sorted.now (omega arith)))
