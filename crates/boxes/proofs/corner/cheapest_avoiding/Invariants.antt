-- What the loop of `boxes::corner::cheapest_avoiding` keeps.
use mathlib.Core.Path.{◌≡◌}
use lib.ListN.{drop}
use Rattle.std.specs.Prelude.{None}
use Rattle.boxes.specs.Corner.{avoiding, cheapest}
use Rattle.boxes.proofs.corner.cheapest_avoiding.Given as goal

abbrev pub invariant-loop-c : goal.invariant-loop-c
invariant-loop-c l = cheapest l.p l.q None (avoiding l.p l.q l.obstacle l.corners) ≡ cheapest l.p l.q l.best (avoiding l.p l.q l.obstacle (drop l.c-index l.corners))
