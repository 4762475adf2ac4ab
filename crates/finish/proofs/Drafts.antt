-- What is judged of a charted drawing, and what is written of it.
-- Assumes nothing.
use Prim.Native.Nat.{ℕ, ◌*◌, ◌≤◌}
use mathlib.Core.Path.{◌≡◌, refl, sym, ap, ◌∙◌, subst}
use mathlib.Core.Bool.{Bool, true, false, cond}
use mathlib.Core.List.{List, map}
use lib.Dec.{ltb}
use lib.ListN.{length}
use lib.Ieee.{Float, nan}
use Rattle.std.specs.Prelude.{Option, Some, None, Ok, Err}
use Rattle.std.proofs.lemmas.Result.{err_from_is_err_and}
use Rattle.numbers.specs.Over.{over}
use Rattle.numbers.proofs.order.Tables.{table_ext}
use Rattle.plane.specs.declared.geometry.Box.{Box}
use Rattle.network.specs.declared.options.BlockOptions.{BlockOptions}
use Rattle.network.specs.declared.options.Options.{Options}
use Rattle.network.specs.declared.refusals.Refusal.{Refusal}
use Rattle.network.proofs.refusals.Unless as Unless
use Rattle.network.proofs.refusals.Unless.{accepted}
use Rattle.network.specs.Words.{kinds, kind_of, occupied}
use Rattle.network.specs.Views.{counts_in, boxes_in}
use Rattle.stations.specs.Stages.Views.{scales_in}
use Rattle.stations.specs.Bar.{position}
use Rattle.runs.specs.Run.{Piece, all_pieces, role}
use Rattle.runs.proofs.Paths.{run_unled}
use Rattle.runs.specs.Lists.{flat, point_numbers, box_numbers, bar_numbers, piece_numbers, after}
use Rattle.runs.specs.Stages.Views.{RunLists, held, lead, lead_by}
use Rattle.results.specs.Stages.Pieces.{branch_of}
use Rattle.results.specs.Stages.Runs.{runs_in}
use Rattle.results.specs.Stages.Bars.{bars_in}
use Rattle.results.specs.Bounds.{bounds_of}
use Rattle.routing.specs.Clearance.{clearance_of}
use Rattle.stations.specs.declared.measures.Measures.{Measures}
use Rattle.drawing.specs.declared.answer.Plot.{Plot}
use Rattle.drawing.specs.declared.lengths.ListLengths.{ListLengths}
use Rattle.drawing.specs.Network.{Network, Lists}
use Rattle.drawing.proofs.Lent.{lists}
use Rattle.drawing.specs.Drawing.{measures_of, drawing}
use Rattle.drawing.specs.Answer.{late_by, late, crossing_room, lists_of, lists_after, answer_for}
use Rattle.chart.specs.Stages.Charted.{routed_late, Charted}
use Rattle.finish.specs.Stages.Draft.{Drew}
use Rattle.drawing.proofs.Lates.{room_of_lem}

lists_eq : {a a' b b' c c' d d' : List Float} {e e' : List ℕ} {f f' : List Float} {g g' : List ℕ}
    → a ≡ a' → b ≡ b' → c ≡ c' → d ≡ d' → e ≡ e' → f ≡ f' → g ≡ g' → lists a b c d e f g ≡ lists a' b' c' d' e' f' g'
lists_eq p q r s t u w = rw (p, q, r, s, t, u, w)

abbrev measure : Float → BlockOptions → Measures
measure u g = record { unit = u; block_options = g }

module _ (o : Options) (N : Network) (R : ListLengths) where
  -- Where a refusal decides the answer, no list is written.
  unwritten : (r : Refusal) (L : Lists) → Some r ≡ late (drawing o N) R → Drew o N (late (drawing o N) R) L (Err r) L
  unfolding answer_for lists_after after
  unwritten r L e = record { answer_is = rw (sym e); lists_are = rw (sym e) }

  pub refused : (r : Refusal) (L : Lists) → Err r ≡ answer_for (late (drawing o N) R) (drawing o N) → Drew o N (late (drawing o N) R) L (Err r) L
  unfolding answer_for
  refused r L e = unwritten r L (Unless.refused _ r _ e)

module _ (o : Options) (N : Network) (k : ℕ) (R : ListLengths) (stations buses ends : List ℕ) (blocks places frames path ways : List Float) where
  -- Where the chart is refused, so is the drawing.
  pub refused_before : (r : Refusal) (L : Lists) → Charted o N k (crossing_room R) (Err r) stations buses ends blocks places frames path ways → Drew o N (late (drawing o N) R) L (Err r) L
  unfolding late late_by routed_late
  refused_before r L C = let e = Unless.refused _ r _ C.course_is in unwritten o N R r L (rw (sym e))

  module _ (M : Measures) (block_options : M.block_options ≡ o.block_options) (C : Charted o N k (crossing_room R) (Ok M.unit) stations buses ends blocks places frames path ways) where
    passed : (None ≡ routed_late o N (crossing_room R)) × (M.unit ≡ (drawing o N).unit)
    passed = accepted _ M.unit _ C.course_is

    measured : M ≡ measures_of o (drawing o N).unit
    measured = ap (measure M.unit) block_options ∙ ap (measures_of o) passed.1

    bars_are : bars_in N.station M buses blocks frames ≡ (drawing o N).bars
    bars_are = ap (λ (m : Measures). bars_in N.station m buses blocks frames) measured ∙ C.bars

    -- 11 by the number of pieces
    late_is : (pieces : ℕ) → pieces ≡ length (drawing o N).pieces → late_by None pieces R.pieces R.branches ≡ late (drawing o N) R
    unfolding late routed_late
    late_is pieces e = let z = passed.0 in cc

    -- Where lines aren't led, no clearance is read.
    led_is : (b : Bool) → runs_in (held N.station M buses ends blocks places frames (lead_by (cond b (Some (clearance_of M.unit)) None) k stations ways)) N.from N.to N.service
        ≡ runs_in (held N.station M buses ends blocks places frames (lead b (clearance_of M.unit) k stations ways)) N.from N.to N.service
    unfolding runs_in
    led_is true = refl
    led_is false = table_ext _ _ (length N.from) (λ e h. run_unled N.station M buses ends blocks places frames k stations ways nan (clearance_of M.unit) e (kind_of N.station N.from N.to N.service e))

    module _ (clearance : Option Float) (ge : clearance ≡ cond (ltb 0 o.route_iterations) (Some (clearance_of M.unit)) None) where
      abbrev held_by : RunLists
      held_by = held N.station M buses ends blocks places frames (lead_by clearance k stations ways)

      runs_are : runs_in held_by N.from N.to N.service ≡ (drawing o N).runs
      runs_are =
          ap (λ (g : Option Float). runs_in (held N.station M buses ends blocks places frames (lead_by g k stations ways)) N.from N.to N.service) ge
          ∙ led_is (ltb 0 o.route_iterations)
          ∙ (let e = passed.1 in let m = measured in cc)
          ∙ C.runs (sym passed.0)

      all_pieces_lem : all_pieces (kinds N.station N.from N.to N.service) (runs_in held_by N.from N.to N.service) ≡ (drawing o N).pieces
      unfolding drawing
      all_pieces_lem = ap (all_pieces (kinds N.station N.from N.to N.service)) runs_are

      bounds_are : bounds_of (boxes_in k frames) (occupied (counts_in k stations)) ≡ (drawing o N).bounds
      unfolding drawing
      bounds_are = cc (C.boxes, C.counts)

      roles_are : map role (kinds N.station N.from N.to N.service) ≡ (drawing o N).roles
      unfolding drawing
      roles_are = refl

      module _ (bounds : Box) (pieces : ℕ)
          (p : pieces ≡ length (all_pieces (kinds N.station N.from N.to N.service) (runs_in held_by N.from N.to N.service)))
          (d : bounds ≡ bounds_of (boxes_in k frames) (occupied (counts_in k stations))) where
        counted : pieces ≡ length (drawing o N).pieces
        counted = p ∙ ap length all_pieces_lem

        pub judged_full : (r : Refusal) → Some r ≡ late_by None pieces R.pieces R.branches → Err r ≡ answer_for (late (drawing o N) R) (drawing o N)
        unfolding answer_for
        judged_full r e = rw (← (e ∙ late_is pieces counted))

        pub judged : None ≡ late_by None pieces R.pieces R.branches → Ok (record { unit = M.unit; bounds = bounds; pieces = pieces }) ≡ answer_for (late (drawing o N) R) (drawing o N)
        unfolding answer_for
        judged e = rw (← (e ∙ late_is pieces counted)) (let u = passed.1 in let b = d ∙ bounds_are in cc (counted))

      module _ (plot : Plot) (J : Ok plot ≡ answer_for (late (drawing o N) R) (drawing o N)) where
        none_late : None ≡ late (drawing o N) R
        unfolding answer_for
        none_late = (accepted _ plot _ J).0

        -- The pieces of a drawing that nothing refuses have room.
        pub room_if : (4 * length (all_pieces (kinds N.station N.from N.to N.service) (runs_in held_by N.from N.to N.service)) ≤ R.pieces)
            × (length (all_pieces (kinds N.station N.from N.to N.service) (runs_in held_by N.from N.to N.service)) ≤ R.branches)
        unfolding late
        room_if =
            subst (λ (ps : List Piece). (4 * length ps ≤ R.pieces) × (length ps ≤ R.branches)) (sym all_pieces_lem) (room_of_lem _ _ _ _ (sym none_late))

        pub drew : (L : Lists) (p b x s : List Float) (r : List ℕ) (n : List Float) (e : List ℕ)
            → p ≡ over (flat (λ t. point_numbers (position t)) (bars_in N.station M buses blocks frames)) L.positions
            → b ≡ over (flat bar_numbers (bars_in N.station M buses blocks frames)) L.bars
            → x ≡ over (flat box_numbers (boxes_in k frames)) L.boxes
            → s ≡ over (scales_in k blocks) L.scales
            → r ≡ over (map role (kinds N.station N.from N.to N.service)) L.roles
            → n ≡ over (flat piece_numbers (all_pieces (kinds N.station N.from N.to N.service) (runs_in held_by N.from N.to N.service))) L.pieces
            → e ≡ over (map branch_of (all_pieces (kinds N.station N.from N.to N.service) (runs_in held_by N.from N.to N.service))) L.branches
            → Drew o N (late (drawing o N) R) L (Ok plot) (lists p b x s r n e)
        unfolding lists_after lists_of after
        drew L p b x s r n e pe be xe se re ne ee =
            record {
              answer_is = J;
              lists_are =
                  rw (← none_late)
                  (lists_eq
                  (pe ∙ cc (bars_are))
                  (be ∙ cc (bars_are))
                  (xe ∙ cc (C.boxes))
                  (se ∙ cc (C.scales))
                  (re ∙ cc (roles_are))
                  (ne ∙ cc (all_pieces_lem))
                  (ee ∙ cc (all_pieces_lem)));
            }

-- what `write` needs where it is refused
pub ruleset write_laws = (accepted, err_from_is_err_and, refused)
