-- What the loop of `boxes::corner::cheapest` keeps.
use mathlib.Core.Path.{◌≡◌}
use lib.ListN.{drop}
use Rattle.std.specs.Prelude.{None}
use Rattle.boxes.specs.Corner.{cheapest}
use Rattle.boxes.proofs.corner.cheapest.Given as goal

abbrev pub invariant-loop-c : goal.invariant-loop-c
invariant-loop-c l = cheapest l.p l.q None l.corners ≡ cheapest l.p l.q l.best (drop l.c-index l.corners)
