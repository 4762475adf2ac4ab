-- Answers for `boxes::box_cells::build::clear_chains`.
use native.Mathlib.Omega.{arith}
use lib.ListN.{length-take, length-drop}
use Rattle.boxes.proofs.box_cells.Entering.{emptied}
use Rattle.boxes.proofs.box_cells.build.clear_chains.Goals as goal

pub returns : goal.returns
returns c =
    let e = emptied _ _ _ _ _ (omega (arith, c.requires.has_room)) (c.fill.ensures.after (λ y h. cc)) (simp (length-take, length-drop) (omega (arith, c.requires.has_room))) in
    record { empty = e.0; same_grid = e.1 }
