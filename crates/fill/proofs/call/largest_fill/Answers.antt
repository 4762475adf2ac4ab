-- Answers for `fill::call::largest_fill`.
use mathlib.Core.Path.{refl, ap, subst, ◌∙◌}
use native.Mathlib.Omega.{arith}
use Rattle.std.proofs.lemmas.Result.{err_from_is_err_and}
use Rattle.network.specs.declared.options.Options.{Options}
use Rattle.drawing.specs.declared.lengths.ListLengths.{ListLengths}
use Rattle.drawing.specs.Network.{network_of}
use Rattle.drawing.specs.Answer.{early}
use Rattle.lent.specs.Held.{held_lists, held_work, held_crossings}
use Rattle.fill.specs.Fill.{at_fill}
use Rattle.fill.specs.Stages.Tried.{AfterFills}
use Rattle.drawing.proofs.Fitting.{fits_of, room_parts}
use Rattle.fill.proofs.Fills.{search_from}
use Rattle.fill.proofs.Calls.{refused, ended}
use Rattle.fill.proofs.call.largest_fill.Goals as goal

pub returns-in_err-check_input-clause-is : goal.returns-in_err-check_input-clause-is
returns-in_err-check_input-clause-is c =
    let p = err_from_is_err_and c.from_residual.result c.from_residual.ensures.1 in
    rw (p.1, p.2)
    (refused _ _ _ _ _ _
    (c.in_err-check_input.ensures
    ∙ ap (λ (o : Options). early o (network_of c.args.net.now) c.room_of-room.result) c.at_fill.ensures
    ∙ ap (early (at_fill c.args.options 64) (network_of c.args.net.now)) c.room_of-room.ensures))

pub try_fills-answer-requires-clause-short_search : goal.try_fills-answer-requires-clause-short_search
try_fills-answer-requires-clause-short_search c =
    search_from _ _ _ c.at_fill.ensures (fits_of _ _ _ c.in_ok-check_input.ensures).search

pub try_fills-answer-requires-clause-crossing_room : goal.try_fills-answer-requires-clause-crossing_room
try_fills-answer-requires-clause-crossing_room c =
    let p = room_parts c.room_of-room.result _ refl in
    let e = c.room_of-room.ensures in
    let l = c.prepare-typical.ensures.long in (
      omega (arith, p.0, ap (λ (R : ListLengths). R.numbers) e),
      omega (arith, p.1, ap (λ (R : ListLengths). R.crossings) e),
      omega (arith, p.2, ap (λ (R : ListLengths). R.ways) e),
      omega (arith, p.3, ap (λ (R : ListLengths). R.sorted) e, l.3),
      omega (arith, p.4, ap (λ (R : ListLengths). R.spare) e, l.4),
      omega (arith, p.5, ap (λ (R : ListLengths). R.keys) e, l.5),
    )

pub returns-clause-is : goal.returns-clause-is
returns-clause-is c =
    let room = c.room_of-room.ensures in
    let prepared = c.prepare-typical.ensures.long in
    let tried = c.try_fills-answer.ensures.long in
    ended c.args.options (network_of c.args.net.now) (held_lists c.args.lists.now) (held_work c.args.work.now) (held_crossings c.args.crossings.now)
    (c.in_ok-check_input.ensures
    ∙ ap (λ (o : Options). early o (network_of c.args.net.now) c.room_of-room.result) c.at_fill.ensures
    ∙ ap (early (at_fill c.args.options 64) (network_of c.args.net.now)) room)
    _ _ _ _ _ c.try_fills-answer.result _
    (subst
    (λ (R : ListLengths). AfterFills c.args.options (network_of c.args.net.now) R 64 (held_lists c.args.lists.now) c.try_fills-answer.result (held_lists c.try_fills-answer.new.lists))
    room c.try_fills-answer.ensures.found)
    c.ok_or.ensures.value c.zero_work.ensures.is
    (record {
      stations = tried.0.0 ∙ prepared.0;
      buses = tried.0.1 ∙ prepared.1;
      ends = tried.0.2 ∙ prepared.2;
      sorted = tried.0.3 ∙ prepared.3;
      spare = tried.0.4 ∙ prepared.4;
      keys = tried.0.5 ∙ prepared.5;
      places = tried.0.6 ∙ prepared.6;
      blocks = tried.0.7 ∙ prepared.7;
      frames = tried.0.8 ∙ prepared.8;
      path = tried.0.9 ∙ prepared.9;
    })
    c.zero_crossings.ensures.is
    (record { numbers = tried.1.0; places = tried.1.1; ways = tried.1.2 })
