-- Answers for `runs::requests::requests_from`.
use Rattle.std.proofs.Common.{rules, tests, ℕ, ◌+◌}
use Rattle.network.specs.Words.{kind_of}
use Rattle.runs.specs.Stages.Requests.{nothing_at, request_of, lists}
use Rattle.runs.proofs.requests.Made.{all_made}
use Rattle.runs.proofs.requests.requests_from.Goals as goal

pub returns-clause-filled : goal.returns-clause-filled
returns-clause-filled c = λ i h. all_made _ (λ (j : ℕ). request_of (lists c.args.network.now.sub.now c.args.laid.now.measures c.args.laid.now.buses.now c.args.laid.now.ends.now c.args.laid.now.blocks.now c.args.laid.now.places.now c.args.frames.now) (c.args.start + j) (kind_of c.args.network.now.sub.now c.args.network.now.from.now c.args.network.now.to.now c.args.network.now.service.now (c.args.start + j))) _ _ 16 c.from_fn.ensures.items.each (λ j y q k. search (rules, tests)) i (nothing_at 0) h
