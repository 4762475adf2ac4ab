-- Answers for `routing::rounds::space::space_one`.
use mathlib.Core.Path.{◌≡◌, ap, ◌∙◌}
use mathlib.Core.List.{List, ◌++◌}
use Prim.Native.Nat.{◌-◌}
use lib.Ieee.{Float}
use lib.ListN.{length, take, drop}
use native.Mathlib.Omega.{arith}
use lib.Seq.{length-take-le}
use Rattle.numbers.specs.Table.{table}
use Rattle.routing.proofs.rounds.Making.{made_one}
use Rattle.routing.proofs.rounds.space.space_one.Goals as goal

pub returns : goal.returns
returns c =
    let h = c.requires.channel_in_bounds in let s = c.start_of-start.ensures in let e = c.start_of.ensures in let r = c.args.input.now.ready.rising c.args.channel h in let w = c.args.input.now.ready.within c.args.channel h in
    let z : length (take (c.start_of.result - c.start_of-start.result) c.args.ways.now) ≡ (c.start_of.result - c.start_of-start.result) = length-take-le (c.start_of.result - c.start_of-start.result) c.args.ways.now (omega (arith, s, e, r, w, c.requires.ways_fit)) in
    made_one _ _ _ _ _ _ _ _ _ _ _ _ _ s e c.read_channel-value.ensures
    (ap (λ (l : List Float). l ++ drop (c.start_of.result - c.start_of-start.result) c.args.ways.now) (c.take_wishes.ensures ∙ ap (table _) z))
    c.space_sorted.ensures.wish_after c.space_sorted.ensures.order_after c.put_places.ensures
