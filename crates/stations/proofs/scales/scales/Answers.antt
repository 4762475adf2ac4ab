-- Answers for `stations::scales::scales`.
use mathlib.Core.Path.{◌≡◌, refl, sym, ◌∙◌}
use Prim.Native.Nat.{◌*◌, ◌≤◌, ◌<◌}
use native.Mathlib.Omega.{arith}
use lib.ListN.{length, length-set}
use Rattle.numbers.specs.Ops.{◌⊗◌}
use Rattle.numbers.proofs.order.Tables.{how_many_zero}
use Rattle.plane.specs.Near.{neighbours}
use Rattle.stations.proofs.sizes.Blocks.{sizes_beside}
use Rattle.network.proofs.Occupied.{count_yes, count_no, has_buses, has_none}
use Rattle.stations.proofs.scales.Scaled.{passed_below, counts_front, count_at, scales_start, scale_yes, scale_no, scales_step, scales_end}
use Rattle.stations.proofs.scales.scales.Goals as goal
use Rattle.stations.proofs.scales.scales.Goals.{then-is_occupied, else-is_occupied}

pub loop-s-init : goal.loop-s-init
loop-s-init c = (omega arith, refl, omega arith, sym (how_many_zero _), scales_start _ _ _ _ _ _ _, refl, omega (arith, c.requires.spare_room, c.neighbour_counts.auto.counts), counts_front (neighbours c.args.points.now.xy.now c.args.points.now.n (c.args.options.tier_radius ⊗ c.args.spacing)) c.args.points.now.n _ _ c.neighbour_counts.ensures)

pub bounds-spare-j : goal.bounds-spare-j
bounds-spare-j c = let h : c.loop-s.s < c.args.stations.now.k = c.loop-s-test.true in omega (arith, passed_below c.args.stations.now.k c.args.stations.now.counts.now c.loop-s.s c.loop-s.j c.args.points.now.n h (has_buses _ _ c.is_occupied.ensures c.if-is_occupied.true) c.loop-s.invariant.3 c.requires.points_occupied, c.loop-s.invariant.6)

pub loop-s-preserved : goal.loop-s-preserved
loop-s-preserved c =
    elim c.if-is_occupied.branch [
      | then-is_occupied w ↦ rw w.blocks-is (rw w.j-is (let v = c.loop-s.invariant in
          let h : c.loop-s.s < c.args.stations.now.k = c.loop-s-test.true in
          let l : 3 * c.args.stations.now.k ≤ length c.loop-s.blocks = omega (arith, v.1, c.requires.blocks_room) in
          let g = (has_buses _ _ c.is_occupied.ensures w.if-is_occupied.true) in
          let e = count_at (neighbours c.args.points.now.xy.now c.args.points.now.n (c.args.options.tier_radius ⊗ c.args.spacing)) c.args.points.now.n _ c.loop-s.j v.7 (passed_below c.args.stations.now.k c.args.stations.now.counts.now c.loop-s.s c.loop-s.j c.args.points.now.n h (has_buses _ _ c.is_occupied.ensures w.if-is_occupied.true) c.loop-s.invariant.3 c.requires.points_occupied) in (
            omega arith,
            simp length-set v.1,
            omega arith,
            count_yes _ _ _ h g _ v.3,
            scales_step _ _ _ _ _ _ _ h _ _ l v.4 (scale_yes _ _ _ _ _ _ _ h _ _ _ g v.3 e w.tier.ensures),
            sizes_beside _ _ _ _ ∙ v.5,
            v.6,
            v.7,
          )))
      | else-is_occupied w ↦ rw w.blocks-is (rw w.j-is (let v = c.loop-s.invariant in
          let h : c.loop-s.s < c.args.stations.now.k = c.loop-s-test.true in
          let l : 3 * c.args.stations.now.k ≤ length c.loop-s.blocks = omega (arith, v.1, c.requires.blocks_room) in
          let g = (has_none _ _ c.is_occupied.ensures w.if-is_occupied.false) in (
            omega arith,
            simp length-set v.1,
            omega arith,
            count_no _ _ _ h _ g v.3,
            scales_step _ _ _ _ _ _ _ h _ _ l v.4 (scale_no _ _ _ _ _ _ _ h g),
            sizes_beside _ _ _ _ ∙ v.5,
            v.6,
            v.7,
          )))
    ]

pub returns-clause-scales_written : goal.returns-clause-scales_written
returns-clause-scales_written c = let v = c.loop-s.invariant in let e : c.loop-s.s ≡ c.args.stations.now.k = omega arith in cc (e, v.4, scales_end c.args.options c.args.points.now.xy.now c.args.points.now.n c.args.spacing c.args.stations.now.k c.args.stations.now.counts.now)
