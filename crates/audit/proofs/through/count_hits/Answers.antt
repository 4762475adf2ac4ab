-- Answers for `through::through::count_hits`.
use Rattle.std.proofs.Common.{length, rules, ◌∙◌, arith, ℕ, Bool}
use borrow.Author.Tests.{tests}
use Rattle.std.proofs.lemmas.Iterator.{YieldsList-from_range}
use Rattle.std.proofs.lemmas.Iterator.Consumers.{YieldsList-from_filter, count_from_yields_List}
use Rattle.std.proofs.lemmas.List.Sums.{length-filter}
use Rattle.std.specs.List.{range_with_len}
use Rattle.network.specs.Words.{occupied}
use Rattle.network.specs.Views.{counts_in, boxes_in}
use Rattle.audit.specs.Through.{runs_through, through}
use Rattle.audit.proofs.through.Counting.{how_many_ranged}
use Rattle.audit.proofs.through.count_hits.Goals as goal

pub returns : goal.returns
unfolding through
returns c =
    let i = c.args.index.now in
    let d = c.args.drawing.now in
    let n = length d.branches.now in
    let p : ℕ → Bool = runs_through (boxes_in i.placed.k i.placed.frames.now) (occupied (counts_in i.placed.k i.placed.stations.now)) d.sub.now d.from.now d.to.now d.roles.now d.pieces.now d.branches.now in
    count_from_yields_List c.filter.result c.count.result c.count.ensures.ran
    (YieldsList-from_filter _ p (YieldsList-from_range 0 n n c.filter.ensures.source (omega arith)) c.filter.ensures.closure (λ x b q k. search (rules, tests)))
    ∙ length-filter p (range_with_len 0 n) ∙ how_many_ranged p n
