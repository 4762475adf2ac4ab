-- What the loops of `placement::free_places::first_free` keep.
use mathlib.Core.Path.{◌≡◌}
use lib.ListN.{length}
use Rattle.placement.specs.Stages.Among.{half_sides_of, kept_boxes}
use Rattle.placement.proofs.free_places.Searching.{First}
use Rattle.placement.proofs.free_places.Columns.{Columns}
use Rattle.placement.proofs.free_places.first_free.Given as goal

abbrev pub invariant-loop-j : goal.invariant-loop-j
invariant-loop-j l = (length l.firsts ≡ 41) × (length l.ends ≡ 41) × Columns l.earlier.unit l.seed (half_sides_of l.outline) l.widening l.earlier.most l.earlier.keys.now l.firsts l.ends × First l.seed (half_sides_of l.outline) (kept_boxes l.earlier.boxes.now l.earlier.sorted.now) l.widening l.tried.pairs.now l.tried.search l.j
