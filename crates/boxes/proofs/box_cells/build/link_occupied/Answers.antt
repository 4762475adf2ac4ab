-- Answers for `boxes::box_cells::build::link_occupied`.
use Rattle.network.proofs.Occupied.{has_buses, has_none}
use Rattle.boxes.specs.Stages.Cells.{chain_of}
use mathlib.Core.Path.{sym, ap, ◌∙◌, subst}
use native.Mathlib.Omega.{arith}
use Rattle.boxes.specs.Stages.Enter.{SameGrid}
use Rattle.boxes.proofs.box_cells.Chaining.{Put, put_yes, put_no, put_end}
use Rattle.boxes.proofs.box_cells.Entering.{same_linked}
use Rattle.boxes.proofs.box_cells.build.link_occupied.Goals as goal
use Rattle.boxes.proofs.box_cells.build.link_occupied.Goals.{then-is_occupied, else-is_occupied}

pub loop-s-preserved : goal.loop-s-preserved
loop-s-preserved c =
    elim c.if-is_occupied.branch [
      | then-is_occupied w ↦ rw w.index-is (let i = c.loop-s.invariant in
          let e = w.link.ensures in
          let t = c.loop-s-test.true in (
            omega arith,
            omega (arith, w.link.auto.index, i.1),
            subst (Put _ _ _ _ _) (sym e) (put_yes _ _ _ _ _ _ _ t c.requires.cells_in_bounds (omega (arith, i.1, c.requires.has_room)) c.requires.some_columns c.requires.some_rows (has_buses _ _ c.is_occupied.ensures w.if-is_occupied.true) (w.chain_of.ensures.is_chain ∙ ap (chain_of _) w.box_in-b.ensures) i.2),
            subst (SameGrid _) (sym e) (same_linked _ _ _ _ _ t (omega (arith, w.chain_of.ensures.in_bounds, c.requires.cells_in_bounds)) (omega (arith, i.1, c.requires.has_room)) i.3),
          ))
      | else-is_occupied w ↦ rw w.index-is (let i = c.loop-s.invariant in
          (omega (arith, c.loop-s-test.true), i.1, put_no _ _ _ _ _ _ (has_none _ _ c.is_occupied.ensures w.if-is_occupied.false) i.2, i.3))
    ]

pub returns-clause-chained : goal.returns-clause-chained
returns-clause-chained c = let i = c.loop-s.invariant in put_end _ _ _ _ _ _ (omega (arith, i.0, c.loop-s-test.false)) i.2
