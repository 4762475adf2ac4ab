-- Answers for `boxes::first_hit::search::look_chain`.
use mathlib.Core.Path.{refl, sym, ap, ◌∙◌}
use native.Mathlib.Omega.{arith}
use Rattle.plane.specs.Stages.Window.{is_apart}
use Rattle.boxes.specs.Stages.Cells.{chain_at}
use Rattle.boxes.proofs.first_hit.Turns.{chain_start, chain_apart, chain_near, chain_end}
use Rattle.boxes.proofs.first_hit.search.look_chain.Goals as goal

pub loop-h-init : goal.loop-h-init
unfolding chain_at
loop-h-init c = (omega arith, chain_start _ _ _ _ _ _ _ _ _ _ _ c.at-h.ensures)

pub loop-h-preserved-then-is_apart : goal.loop-h-preserved-then-is_apart
loop-h-preserved-then-is_apart c = (
  omega arith,
  chain_apart _ _ _ _ _ _ _ _ _ _ _ _ _ (omega arith) refl c.behind-h.ensures c.loop-h.invariant.1
      (ap (is_apart _) (sym c.box_in.ensures) ∙ sym c.is_apart.ensures ∙ c.if-is_apart.true),
)

pub loop-h-preserved : goal.loop-h-preserved
loop-h-preserved c = (
  omega arith,
  chain_near _ _ _ _ _ _ _ _ _ _ _ _ _ (omega arith) refl c.behind-h-else-is_apart.ensures c.loop-h.invariant.1
      (ap (is_apart _) (sym c.box_in.ensures) ∙ sym c.is_apart.ensures ∙ c.if-is_apart.false)
      _ c.entry_at.ensures _ c.closer-n.ensures,
)

pub returns : goal.returns
returns c = chain_end _ _ _ _ _ _ _ _ _ _ _ (omega arith) c.loop-h.invariant.1
