-- Answers for `boxes::first_box::sooner`.
use mathlib.Core.Path.{sym, ◌∙◌}
use Rattle.boxes.specs.First.{sooner}
use Rattle.boxes.proofs.first_box.sooner.Goals as goal

pub returns-in_default : goal.returns-in_default
unfolding sooner
returns-in_default c = simp c.in_default.is

pub returns-then-not-comes_first : goal.returns-then-not-comes_first
unfolding sooner
returns-then-not-comes_first c = simp (c.in-Some.is, c.in-Some-best.is, sym c.comes_first.ensures ∙ c.if-not-comes_first.true)

pub returns-else-not-comes_first : goal.returns-else-not-comes_first
unfolding sooner
returns-else-not-comes_first c = simp (c.in-Some.is, c.in-Some-best.is, sym c.comes_first.ensures ∙ c.if-not-comes_first.false)

pub returns-in_default-best : goal.returns-in_default-best
unfolding sooner
returns-in_default-best c = simp (c.in-Some.is, c.in_default-best.is)
