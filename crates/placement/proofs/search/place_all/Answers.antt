-- Answers for `placement::search::place_all`.
use Prim.Native.Nat.{◌≤◌, ◌<◌, ◌+◌, ◌*◌}
use mathlib.Core.Path.{refl, sym, ap, ◌∙◌}
use mathlib.Core.Bool.{Bool, true, ◌&&◌, true≢false}
use native.Mathlib.Omega.{arith}
use lib.ListN.{length, get_or}
use Rattle.numbers.proofs.order.Strides.{get_d_strided, length_strided}
use Rattle.network.specs.Views.{order_in}
use Rattle.placement.proofs.Placing.{placed_none, placed_more, placed_end, holds_of, fresh_of, turn_below, free_end, gives_up, not_true}
use Rattle.placement.proofs.search.place_all.Goals as goal

pub loop-p-init : goal.loop-p-init
loop-p-init c = (omega arith, refl, refl, refl, refl, placed_none _ _ _ _ _ _ _ _ _)

pub place_station-standing-requires-clause-blocks_room : goal.place_station-standing-requires-clause-blocks_room
place_station-standing-requires-clause-blocks_room c =
    let h : get_or c.args.measured.now.counts.now (2 * c.loop-p.p + 1) 0 < c.args.measured.now.k = turn_below _ _ _ _ c.requires.turns (omega arith) in
    let g : c.loop-p.p < length (order_in c.args.occupied c.args.measured.now.counts.now) = rw (length_strided 2 1 0 c.args.occupied c.args.measured.now.counts.now) (omega arith) in
    let q : c.loop-p.p ≤ length (order_in c.args.occupied c.args.measured.now.counts.now) = omega arith in
    omega (arith, h)

pub place_station-standing-requires-clause-places_room : goal.place_station-standing-requires-clause-places_room
place_station-standing-requires-clause-places_room c =
    let h : get_or c.args.measured.now.counts.now (2 * c.loop-p.p + 1) 0 < c.args.measured.now.k = turn_below _ _ _ _ c.requires.turns (omega arith) in
    let g : c.loop-p.p < length (order_in c.args.occupied c.args.measured.now.counts.now) = rw (length_strided 2 1 0 c.args.occupied c.args.measured.now.counts.now) (omega arith) in
    let q : c.loop-p.p ≤ length (order_in c.args.occupied c.args.measured.now.counts.now) = omega arith in
    omega (arith, h, c.requires.places_room, c.loop-p.invariant.1)

pub place_station-standing-requires-clause-boxes_room : goal.place_station-standing-requires-clause-boxes_room
place_station-standing-requires-clause-boxes_room c =
    let h : get_or c.args.measured.now.counts.now (2 * c.loop-p.p + 1) 0 < c.args.measured.now.k = turn_below _ _ _ _ c.requires.turns (omega arith) in
    let g : c.loop-p.p < length (order_in c.args.occupied c.args.measured.now.counts.now) = rw (length_strided 2 1 0 c.args.occupied c.args.measured.now.counts.now) (omega arith) in
    let q : c.loop-p.p ≤ length (order_in c.args.occupied c.args.measured.now.counts.now) = omega arith in
    omega (arith, h, c.requires.boxes_room, c.loop-p.invariant.2)

pub place_station-standing-requires-clause-keys_room : goal.place_station-standing-requires-clause-keys_room
place_station-standing-requires-clause-keys_room c =
    omega (arith, c.requires.keys_room, c.loop-p.invariant.3)

pub place_station-standing-requires-clause-sorted_room : goal.place_station-standing-requires-clause-sorted_room
place_station-standing-requires-clause-sorted_room c =
    omega (arith, c.requires.sorted_room, c.loop-p.invariant.4)

pub place_station-standing-requires-clause-boxes_kept : goal.place_station-standing-requires-clause-boxes_kept
place_station-standing-requires-clause-boxes_kept c =
    let g : c.loop-p.p < length (order_in c.args.occupied c.args.measured.now.counts.now) = rw (length_strided 2 1 0 c.args.occupied c.args.measured.now.counts.now) (omega arith) in
    let q : c.loop-p.p ≤ length (order_in c.args.occupied c.args.measured.now.counts.now) = omega arith in
    holds_of _ _ _ _ _ _ _ _ _ _ _ _ _ c.requires.turns c.loop-p.invariant.5 q (omega (arith, c.requires.boxes_room, c.loop-p.invariant.2))

pub place_station-standing-requires-clause-not_passed : goal.place_station-standing-requires-clause-not_passed
place_station-standing-requires-clause-not_passed c =
    let g : c.loop-p.p < length (order_in c.args.occupied c.args.measured.now.counts.now) = rw (length_strided 2 1 0 c.args.occupied c.args.measured.now.counts.now) (omega arith) in
    let q : c.loop-p.p ≤ length (order_in c.args.occupied c.args.measured.now.counts.now) = omega arith in
    fresh_of _ _ _ _ _ _ _ _ _ _ _ _ _ c.requires.turns c.loop-p.invariant.5 q g _ (sym (get_d_strided 2 1 0 c.args.occupied c.loop-p.p c.args.measured.now.counts.now 0 (omega arith)))

pub loop-p-preserved : goal.loop-p-preserved
loop-p-preserved c =
    let h : c.loop-p.p < length (order_in c.args.occupied c.args.measured.now.counts.now) = rw (length_strided 2 1 0 c.args.occupied c.args.measured.now.counts.now) (omega (arith, c.loop-p-test.true)) in (
      omega (arith, c.loop-p-test.true),
      omega (arith, c.place_station-standing.auto, c.loop-p.invariant.1),
      omega (arith, c.place_station-standing.auto, c.loop-p.invariant.2),
      omega (arith, c.place_station-standing.auto, c.loop-p.invariant.3),
      omega (arith, c.place_station-standing.auto, c.loop-p.invariant.4),
      placed_more c.args.measures c.args.measured.now.k c.args.measured.now.blocks.now _ _ _ c.requires.turns c.loop-p.p _ h (sym (get_d_strided 2 1 0 c.args.occupied c.loop-p.p c.args.measured.now.counts.now 0 (omega (arith, c.loop-p-test.true))))
          _ _ _ _ _ _ _ _ _ _ _ (omega (arith, c.requires.places_room, c.loop-p.invariant.1)) (omega (arith, c.requires.boxes_room, c.loop-p.invariant.2)) c.place_station-standing.ensures.placed c.loop-p.invariant.5 _ c.place_station-standing.ensures.free,
    )

pub returns-then-not-standing : goal.returns-then-not-standing
returns-then-not-standing c =
    let h : c.loop-p.p < length (order_in c.args.occupied c.args.measured.now.counts.now) = rw (length_strided 2 1 0 c.args.occupied c.args.measured.now.counts.now) (omega (arith, c.loop-p-test.true)) in
    record {
      free =
          gives_up c.args.measures c.args.measured.now.k c.args.measured.now.blocks.now _ _ _ c.requires.turns c.loop-p.p _ h (sym (get_d_strided 2 1 0 c.args.occupied c.loop-p.p c.args.measured.now.counts.now 0 (omega (arith, c.loop-p-test.true))))
          _ _ _ _ _ _ _ _ _ _ _ (omega (arith, c.requires.places_room, c.loop-p.invariant.1)) (omega (arith, c.requires.boxes_room, c.loop-p.invariant.2)) c.place_station-standing.ensures.placed c.loop-p.invariant.5 _ c.place_station-standing.ensures.free
          (not_true _ c.if-not-standing.true);
      placed = λ g. absurd (true≢false (ap (λ (b : Bool). b && true) (sym c.if-only_free.true) ∙ g));
    }

pub returns-clause-free : goal.returns-clause-free
returns-clause-free c = free_end _ _ _ _ _ _ _ _ _ _ _ _ _ _ (omega arith) c.loop-p.invariant.5

pub returns-clause-placed : goal.returns-clause-placed
returns-clause-placed c given = placed_end _ _ _ _ _ _ _ _ _ _ _ _ _ _ (omega arith) c.loop-p.invariant.5
