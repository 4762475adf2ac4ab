-- Answers for `stations::rows::to_entry`.
use mathlib.Core.Path.{sym, ap, ◌∙◌}
use Rattle.network.specs.declared.words.Kind.{Kind}
use Rattle.stations.specs.Stages.Entry.{to_entry}
use Rattle.stations.proofs.rows.to_entry.Goals as goal

pub returns-in-Undrawn : goal.returns-in-Undrawn
unfolding to_entry
returns-in-Undrawn c = ap (λ (K : Kind). to_entry K c.args.branch) (sym c.in-Undrawn.is ∙ c.kind_of.ensures.is_kind)

pub returns-in-Open : goal.returns-in-Open
unfolding to_entry
returns-in-Open c = ap (λ (K : Kind). to_entry K c.args.branch) (sym c.in-Open.is ∙ c.kind_of.ensures.is_kind)

pub returns-in-Internal : goal.returns-in-Internal
unfolding to_entry
returns-in-Internal c = ap (λ (K : Kind). to_entry K c.args.branch) (sym c.in-Internal.is ∙ c.kind_of.ensures.is_kind)

pub returns-in-Line : goal.returns-in-Line
unfolding to_entry
returns-in-Line c = ap (λ (K : Kind). to_entry K c.args.branch) (sym c.in-Line.is ∙ c.kind_of.ensures.is_kind)
