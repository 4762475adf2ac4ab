-- Answers for `boxes::first_hit::search::closer`.
use mathlib.Core.Path.{sym, ◌∙◌}
use Rattle.boxes.specs.Stages.Looks.{near, closer}
use Rattle.boxes.proofs.first_hit.search.closer.Goals as goal

pub returns-in_default : goal.returns-in_default
unfolding closer
returns-in_default c = simp c.in_default.is

pub returns-then-comes_first : goal.returns-then-comes_first
unfolding closer near
returns-then-comes_first c = simp (c.in-Some.is, sym c.comes_first.ensures ∙ c.if-comes_first.true)

pub returns-else-comes_first : goal.returns-else-comes_first
unfolding closer near
returns-else-comes_first c = simp (c.in-Some.is, sym c.comes_first.ensures ∙ c.if-comes_first.false)
