-- Answers for `placement::free_places::first_free`.
use mathlib.Core.Path.{refl, ◌∙◌}
use native.Mathlib.Omega.{arith}
use lib.ListN.{length-set}
use Rattle.plane.proofs.box_order.Keeping.{rising_keys}
use Rattle.placement.specs.Stages.Among.{half_sides_of}
use Rattle.placement.proofs.free_places.Searching.{part_inside, part_free, first_start, first_skip, first_hit, first_miss, first_end}
use Rattle.placement.proofs.free_places.Columns.{column_within, columns_none, column_known, column_more}
use Rattle.placement.proofs.free_places.first_free.Goals as goal
use Rattle.placement.proofs.free_places.first_free.Goals.{then-is_inside+else-is_free, else-is_inside}

pub loop-j-init : goal.loop-j-init
loop-j-init c = (refl, refl, columns_none _ _ _ _ _ _, first_start _ _ _ _ _ _)

pub column-i-requires : goal.column-i-requires
column-i-requires c = column_within _ _ _ c.args.tried.now.near c.is_inside.ensures c.if-is_inside.true

pub tested_part-t-requires-clause-rising : goal.tested_part-t-requires-clause-rising
tested_part-t-requires-clause-rising c = rising_keys _ _ _ _ c.args.earlier.now.holds.kept.ordered

pub tested_part-t-requires-clause-known_holds : goal.tested_part-t-requires-clause-known_holds
tested_part-t-requires-clause-known_holds c = let l = c.loop-j in column_known c.args.earlier.now.unit c.args.seed (half_sides_of c.args.outline) c.args.widening c.args.earlier.now.most c.args.earlier.now.keys.now l.firsts l.ends l.invariant.2 c.pair_at-o.result (column_within _ _ _ c.args.tried.now.near c.is_inside.ensures c.if-is_inside.true) _ c.column-i.ensures.is_column _ c.place-c.ensures _ c.buffered-p.ensures

pub is_free-requires-clause-part_inside : goal.is_free-requires-clause-part_inside
is_free-requires-clause-part_inside c =
    (part_inside c.args.earlier.now.unit c.buffered-p.result _ _ _ _ c.args.earlier.now.holds _ c.tested_part-t.ensures).0

pub is_free-requires-clause-boxes_inside : goal.is_free-requires-clause-boxes_inside
is_free-requires-clause-boxes_inside c =
    (part_inside c.args.earlier.now.unit c.buffered-p.result _ _ _ _ c.args.earlier.now.holds _ c.tested_part-t.ensures).1

pub returns-then-is_free : goal.returns-then-is_free
returns-then-is_free c = first_hit _ _ _ _ _ _ _ _ _ c.loop-j-test.true c.pair_at-o.ensures c.is_inside.ensures c.if-is_inside.true _ _ _ c.place-c.ensures c.buffered-p.ensures (c.is_free.ensures ∙ part_free c.args.earlier.now.unit c.buffered-p.result _ _ _ _ c.args.earlier.now.holds _ c.tested_part-t.ensures) c.loop-j.invariant.3 c.if-is_free.true

pub loop-j-preserved : goal.loop-j-preserved
loop-j-preserved c =
    let l = c.loop-j in
    elim c.if-is_inside.branch [
      | then-is_inside+else-is_free w ↦ rw w.firsts-is (rw w.ends-is (
        simp length-set l.invariant.0,
        simp length-set l.invariant.1,
        column_more c.args.earlier.now.unit c.args.seed (half_sides_of c.args.outline) c.args.widening c.args.earlier.now.most c.args.earlier.now.keys.now l.firsts l.ends l.invariant.2 c.pair_at-o.result (column_within _ _ _ c.args.tried.now.near c.is_inside.ensures w.if-is_inside.true) _ w.column-i.ensures.is_column _ w.place-c.ensures _ w.buffered-p.ensures _ w.tested_part-t.ensures (omega (arith, w.column-i.ensures.upper_bound, l.invariant.0)) (omega (arith, w.column-i.ensures.upper_bound, l.invariant.1)),
        first_miss _ _ _ _ _ _ _ _ _ c.loop-j-test.true c.pair_at-o.ensures c.is_inside.ensures w.if-is_inside.true _ _ _ w.place-c.ensures w.buffered-p.ensures (w.is_free.ensures ∙ part_free c.args.earlier.now.unit w.buffered-p.result _ _ _ _ c.args.earlier.now.holds _ w.tested_part-t.ensures) l.invariant.3 w.if-is_free.false,
      ))
      | else-is_inside w ↦ rw w.firsts-is (rw w.ends-is (l.invariant.0, l.invariant.1, l.invariant.2, first_skip _ _ _ _ _ _ _ _ _ c.loop-j-test.true c.pair_at-o.ensures c.is_inside.ensures w.if-is_inside.false l.invariant.3))
    ]

pub returns : goal.returns
returns c = first_end _ _ _ _ _ _ _ c.loop-j-test.false c.loop-j.invariant.3
