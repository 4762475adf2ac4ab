-- Answers for `network::refusals::too_far`.
use Rattle.std.proofs.Common.{ℕ, ◌+◌, ◌*◌, get_or, ◌∙◌, refl, arith, rules}
use Rattle.std.specs.Float.{nan}
use Rattle.std.proofs.lemmas.Iterator.{YieldsList-from_range}
use Rattle.std.proofs.lemmas.Iterator.Search.{any_from_yields_List}
use Rattle.network.specs.Refusal.{far_out, too_far}
use Rattle.network.proofs.refusals.Refusals.{any_below}
use Rattle.network.proofs.refusals.too_far.Goals as goal

pub returns : goal.returns
unfolding too_far
returns c =
    let n = c.args.buses in
    let xy = c.args.xy.now in
    let far = λ (i : ℕ). far_out (get_or xy (2 * i) nan) (get_or xy (2 * i + 1) nan) in
    any_from_yields_List far _ _ _ c.any.ensures.ran (YieldsList-from_range 0 n n refl (omega arith)) (λ x b q k. search rules) ∙ any_below far n
