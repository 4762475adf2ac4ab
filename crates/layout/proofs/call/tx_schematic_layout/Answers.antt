-- Answers for `layout::call::tx_schematic_layout`.
use mathlib.Core.Path.{ap, subst, ◌∙◌}
use lib.ListN.{length}
use Rattle.std.proofs.lemmas.Result.{err_from_is_err_and}
use Rattle.drawing.specs.declared.lengths.ListLengths.{ListLengths}
use Rattle.drawing.specs.Network.{network_of}
use Rattle.drawing.specs.Answer.{early}
use Rattle.finish.specs.Stages.Draft.{DrewIn}
use Rattle.lent.specs.Held.{held_lists, held_work, held_crossings}
use Rattle.layout.proofs.Calls.{call_early_lem, call_late_lem}
use Rattle.layout.proofs.call.tx_schematic_layout.Goals as goal

pub returns-in_err-check_input-clause-is : goal.returns-in_err-check_input-clause-is
returns-in_err-check_input-clause-is c =
    let p = err_from_is_err_and c.from_residual.result c.from_residual.ensures.1 in
    rw (p.1, p.2) (call_early_lem _ _ _ _ _ _
    (c.in_err-check_input.ensures ∙ ap (early c.args.options (network_of c.args.net.now)) c.room_of-room.ensures))

pub returns-clause-is : goal.returns-clause-is
returns-clause-is c =
    let drawn = c.lay_out_and_route-outcome.ensures.long in
    let kept = c.write_drawing-answer.ensures.kept in
    let room = c.room_of-room.ensures in
    call_late_lem c.args.options (network_of c.args.net.now) (held_lists c.args.lists.now) _ (held_work c.args.work.now) _ _
    (held_crossings c.args.crossings.now) _ _ _ (c.in_ok-check_input.ensures ∙ ap (early c.args.options (network_of c.args.net.now)) room)
    (subst
    (λ (R : ListLengths). DrewIn c.args.options (network_of c.args.net.now) R (held_lists c.args.lists.now) c.write_drawing-answer.result (held_lists c.write_drawing-answer.new.lists))
    room c.write_drawing-answer.ensures.drew)
    c.zero_work.ensures.is
    (record {
      stations = ap length kept.0 ∙ drawn.0.0;
      buses = ap length kept.1 ∙ drawn.0.1;
      ends = ap length kept.2 ∙ drawn.0.2;
      sorted = ap length kept.3 ∙ drawn.0.3;
      spare = ap length kept.4 ∙ drawn.0.4;
      keys = ap length kept.5 ∙ drawn.0.5;
      places = ap length kept.6 ∙ drawn.0.6;
      blocks = ap length kept.7 ∙ drawn.0.7;
      frames = ap length kept.8 ∙ drawn.0.8;
      path = c.write_drawing-answer.ensures.long ∙ drawn.0.9;
    })
    c.zero_crossings.ensures.is
    (record { numbers = drawn.1.0; places = drawn.1.1; ways = drawn.1.2 })
