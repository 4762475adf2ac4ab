-- Answers for `fill::tries::try_fills`.
use mathlib.Core.Path.{sym, subst}
use native.Mathlib.Omega.{arith}
use Rattle.drawing.specs.Network.{network_of}
use Rattle.lent.specs.Held.{held_work}
use Rattle.finish.specs.Stages.Draft.{ResultRoom}
use Rattle.fill.proofs.Fills.{search_at, prepared_next, prepared_back, found_none, found_here, found_later}
use Rattle.fill.proofs.tries.+try_fills.Goals as goal

pub returns-then-sixty_fourths-eq0-clause-found : goal.returns-then-sixty_fourths-eq0-clause-found
returns-then-sixty_fourths-eq0-clause-found t c = found_none _ _ _ _ _ c.if-sixty_fourths-eq0.true

pub try_fill-tried-requires-clause-short_search : goal.try_fill-tried-requires-clause-short_search
try_fill-tried-requires-clause-short_search t c = search_at c.args.options _ _ c.at_fill.ensures c.requires.short_search

pub try_fill-tried-requires-clause-prepared : goal.try_fill-tried-requires-clause-prepared
try_fill-tried-requires-clause-prepared t c =
    prepared_next _ _ _ _ c.at_fill.ensures _ _ (held_work c.seed_again.new.work) (held_work c.args.work.now) c.seed_again.ensures.kept c.requires.prepared

pub returns-in-Some-clause-found : goal.returns-in-Some-clause-found
returns-in-Some-clause-found t c = found_here _ _ _ _ _ _ c.if-sixty_fourths-eq0.false c.at_fill.ensures _ _ c.in-Some.ensures.tried

pub try_fills-requires : goal.try_fills-requires
try_fills-requires t c =
    let q = c.requires in
    let l = c.try_fill-tried.ensures.long.0 in
    let x = c.try_fill-tried.ensures.long.1 in
    let k = c.seed_again.ensures.long in
    let same = c.in_default.ensures.tried.1 in (
      omega (arith, c.decreases, c.if-sixty_fourths-eq0.false),
      (
        q.counted,
        (
          q.few_stations,
          (
            q.few_buses,
            (
              q.each_voltage,
              (
                q.short_search,
                (
                  (
                    omega (arith, q.station_room.0, l.0, k.0),
                    omega (arith, q.station_room.1, l.1, k.1),
                    omega (arith, q.station_room.2, l.2, k.2),
                    omega (arith, q.station_room.3, l.6, k.6),
                    omega (arith, q.station_room.4, l.7, k.7),
                    omega (arith, q.station_room.5, l.8, k.8),
                    omega (arith, q.station_room.6, l.9, k.9),
                  ),
                  (
                    (
                      omega (arith, q.sort_room.0, l.3, k.3),
                      omega (arith, q.sort_room.1, l.4, k.4),
                      omega (arith, q.sort_room.2, l.5, k.5),
                    ),
                    (
                      (
                        omega (arith, q.crossing_room.0, x.0),
                        omega (arith, q.crossing_room.1, x.1),
                        omega (arith, q.crossing_room.2, x.2),
                        omega (arith, q.crossing_room.3, l.3, k.3),
                        omega (arith, q.crossing_room.4, l.4, k.4),
                        omega (arith, q.crossing_room.5, l.5, k.5),
                      ),
                      (
                        (
                          omega (arith, q.mesh_room.0, l.2, k.2),
                          omega (arith, q.mesh_room.1, l.3, k.3),
                          omega (arith, q.mesh_room.2, l.4, k.4),
                          omega (arith, q.mesh_room.3, l.5, k.5),
                          omega (arith, q.mesh_room.4, l.9, k.9),
                        ),
                        (
                          subst (ResultRoom (network_of c.args.net.now.lists) c.args.stations c.args.room) (sym same) q.result_room,
                          prepared_back _ _ _ _ c.at_fill.ensures _ _ (held_work c.try_fill-tried.new.work) c.try_fill-tried.ensures.prepared,
                        ),
                      ),
                    ),
                  ),
                ),
              ),
            ),
          ),
        ),
      ),
    )

pub returns-clause-found : goal.returns-clause-found
returns-clause-found t c =
    found_later _ _ _ _ _ _ c.if-sixty_fourths-eq0.false c.at_fill.ensures _ _ _ c.in_default.ensures.tried c.try_fills.ensures.found
