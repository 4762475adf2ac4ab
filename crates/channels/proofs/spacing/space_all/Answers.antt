-- Answers for `channels::spacing::space_all`.
use mathlib.Core.Path.{◌≡◌, ap, ◌∙◌}
use mathlib.Core.List.{List}
use Prim.Native.Nat.{ℕ}
use native.Mathlib.Omega.{arith}
use lib.ListN.{length, replicate}
use lib.Ieee.{Float}
use Rattle.numbers.specs.Order.{up_from}
use Rattle.channels.proofs.spacing.Ways.{steps}
use Rattle.channels.proofs.spacing.space_all.Goals as goal

pub returns-clause-wish_after : goal.returns-clause-wish_after
returns-clause-wish_after c = let w : List Float = c.args.wish.now in let e : length c.args.order.now ≡ length w = c.requires.order_length in let f : length c.args.spare.now ≡ length w = c.requires.spare_length in let numbered : c.number.new.list ≡ up_from 0 (length w) = cc c.number.ensures in let r = steps c.args.channel w _ _ _ _ _ (λ i. c.slice_known-1.given i) c.wish_keys.ensures numbered c.sort_by_key.ensures.order_after c.gather.ensures c.place.ensures in r.1

pub returns-clause-order_after : goal.returns-clause-order_after
returns-clause-order_after c = let w : List Float = c.args.wish.now in let e : length c.args.order.now ≡ length w = c.requires.order_length in let f : length c.args.spare.now ≡ length w = c.requires.spare_length in let numbered : c.number.new.list ≡ up_from 0 (length w) = cc c.number.ensures in let r = steps c.args.channel w _ _ _ _ _ (λ i. c.slice_known-1.given i) c.wish_keys.ensures numbered c.sort_by_key.ensures.order_after c.gather.ensures c.place.ensures in r.0
