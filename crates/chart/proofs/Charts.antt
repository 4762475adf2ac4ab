-- A drawing charted in the work lists: laid out, and its lines routed.
-- Assumes nothing.
use Prim.Native.Nat.{ℕ, ◌+◌, ◌*◌, ◌≤◌, ◌<◌, min}
use mathlib.Core.Path.{◌≡◌, refl, sym, ap, ◌∙◌}
use mathlib.Core.Bool.{Bool, true, false}
use mathlib.Core.List.{List, []}
use native.Mathlib.Omega.{arith}
use lib.Dec.{ltb}
use lib.ListN.{length, get_or}
use lib.Ieee.{Float}
use Rattle.std.specs.Prelude.{Option, Some, None, Err}
use Rattle.numbers.specs.Table.{table}
use Rattle.numbers.proofs.order.Tables.{length_table, get_d_table}
use Rattle.plane.specs.declared.geometry.Point.{Point}
use Rattle.network.specs.declared.options.Options.{Options}
use Rattle.network.specs.declared.refusals.Refusal.{Refusal}
use Rattle.network.specs.declared.refusals.Refusal.TheVariants as Refusals
use Rattle.network.specs.Refusal.{unless}
use Rattle.network.specs.Words.{station_of, kinds, occupied}
use Rattle.network.specs.Views.{counts_in, from_rows_in, to_rows_in, points_in, boxes_in}
use Rattle.placement.specs.Sized.{ill_sized}
use Rattle.runs.specs.Run as Run
use Rattle.runs.specs.Run.{RunScene}
use Rattle.runs.specs.Stages.Views.{held, lead}
use Rattle.results.specs.Stages.Runs.{runs_in}
use Rattle.routing.specs.Route as Route
use Rattle.routing.specs.Stages.Views.{TracedLists, grid, lines_in}
use Rattle.routing.specs.Clearance.{clearance_of}
use Rattle.routing.proofs.exits.Keeping.{exited_rows}
use Rattle.routing.specs.Routes.{mesh_fits, crossings_of, route_refusal}
use Rattle.routing.specs.Stages.Routed.{routed_in, Routes}
use Rattle.drawing.specs.Network.{Network}
use Rattle.drawing.specs.Drawing as Drawing
use Rattle.drawing.specs.Drawing.{measures_of, planned, drawing, straight_scene, led_scene, routed_scene, routed_of, scene_of}
use Rattle.drawing.specs.Answer.{routed_by}
use Rattle.chart.specs.Stages.LaidOut.{LaidOut}
use Rattle.chart.specs.Stages.Charted.{routed_late, Charted}
use Rattle.chart.proofs.Scenes.{bars_held, scene_by, lines_held, runs_held}

led_cong : (S S' : RunScene) (l : Bool) (a a' : List ℕ) (b b' : Float) (w w' : List (List Point))
    → S ≡ S' → a ≡ a' → b ≡ b' → w ≡ w' → led_scene S l a b w ≡ led_scene S' l a' b' w'
led_cong S S' l a a' b b' w w' p q r s = cc

some_none : {r : Refusal} → Some r ≡ None → ⊥
some_none e = cc

module _ (o : Options) (N : Network) (k : ℕ) (unit : Float) (stations buses ends : List ℕ) (blocks places frames : List Float)
    (below : (i : ℕ) → i < length N.station → station_of N.station i < k)
    (G : LaidOut o N k unit stations buses ends blocks places frames) where
  abbrev its : ℕ
  its = o.route_iterations

  abbrev grid_by : List ℕ → TracedLists
  grid_by es = grid N.station N.from N.to N.service (measures_of o unit) es blocks places frames

  -- the scene of the lists with these rows is the plan's
  scene_is : (es : List ℕ)
      → from_rows_in (length N.from) es ≡ from_rows_in (length N.from) ends
      → to_rows_in (length N.from) es ≡ to_rows_in (length N.from) ends
      → scene_by N.station (measures_of o unit) buses blocks frames k below es places N.from N.to N.service ≡ (planned o N).scene
  scene_is es f t =
      (let b = bars_held N.station (measures_of o unit) buses blocks frames k below in cc (f, t, b)) ∙ G.holds.scene

  occ_is : occupied (counts_in k stations) ≡ occupied (planned o N).counts
  occ_is = ap occupied (G.counts ∙ G.holds.counts)

  lines_are : lines_in (grid_by ends) ≡ table (Drawing.line_of (planned o N).scene) (length (kinds N.station N.from N.to N.service))
  lines_are =
      lines_held N.station (measures_of o unit) buses blocks frames k below ends places N.from N.to N.service
      ∙ ap (λ (S : RunScene). table (Drawing.line_of S) (length (kinds N.station N.from N.to N.service))) (scene_is ends refl refl)

  -- what lines are routed through
  routed_is : routed_in (grid_by ends) k stations N.corners N.twins its ≡ routed_of o N (planned o N)
  unfolding routed_in routed_of routed_scene straight_scene
  routed_is =
      let s = scene_is ends refl refl in
      let p : points_in k places ≡ (planned o N).scene.places = ap (λ (S : RunScene). S.places) s in
      let b : boxes_in k frames ≡ (planned o N).scene.boxes = ap (λ (S : RunScene). S.boxes) s in
      let ks : kinds N.station N.from N.to N.service ≡ (planned o N).scene.kinds = ap (λ (S : RunScene). S.kinds) s in
      let l : lines_in (grid_by ends) ≡ table (Drawing.line_of (planned o N).scene) (length (planned o N).scene.kinds) =
      lines_are ∙ ap (λ (z : List _). table (Drawing.line_of (planned o N).scene) (length z)) ks
      in
      cc (occ_is, p, b, G.holds.scales, G.holds.unit_is, l)

  ways_long : length (routed_of o N (planned o N)).lines ≡ length N.from
  unfolding routed_in lines_in
  ways_long = ap (λ (S : Route.MeshScene). length S.lines) (sym routed_is) ∙ length_table _ (length N.from)

  -- the waypoints of a branch
  way_is : (e : ℕ) → e < length N.from
      → Route.waypoints (routed_in (grid_by ends) k stations N.corners N.twins its) (Route.routing (routed_in (grid_by ends) k stations N.corners N.twins its)) (crossings_of (routed_in (grid_by ends) k stations N.corners N.twins its) its) e
      ≡ get_or (Drawing.waypoints_of (routed_of o N (planned o N)) (crossings_of (routed_of o N (planned o N)) its)) e []
  unfolding Drawing.waypoints_of
  way_is e h =
      ap (λ (S : Route.MeshScene). Route.waypoints S (Route.routing S) (crossings_of S its) e) routed_is
      ∙ sym (get_d_table (Route.waypoints (routed_of o N (planned o N)) (Route.routing (routed_of o N (planned o N))) (crossings_of (routed_of o N (planned o N)) its)) (length (routed_of o N (planned o N)).lines) e [] (rw ways_long h))

  module _ (room : ℕ) (l : Option Refusal) (stations' ends' : List ℕ) (path ways : List Float)
      (R : Routes (grid_by ends) k stations N.corners N.twins its room l stations' ends' ways) where
    late_is : l ≡ route_refusal (drawing o N).mesh_fits (length (drawing o N).crossings) room
    unfolding drawing
    late_is = R.late_is ∙ cc (routed_is, occ_is)

    counts_are : counts_in k stations' ≡ (planned o N).counts
    counts_are = R.counts ∙ G.counts ∙ G.holds.counts

    runs_are : l ≡ None
        → runs_in (held N.station (measures_of o unit) buses ends' blocks places frames (lead (ltb 0 its) (clearance_of unit) k stations' ways)) N.from N.to N.service
        ≡ (drawing o N).runs
    unfolding drawing scene_of
    runs_are z =
        runs_held N.station (measures_of o unit) buses blocks frames k below ends' places N.from N.to N.service (ltb 0 its) (clearance_of unit) stations' ways
        (occupied (counts_in k stations'))
        (Drawing.waypoints_of (routed_of o N (planned o N)) (crossings_of (routed_of o N (planned o N)) its))
        refl
        (exited_rows N.station N.from N.to N.service (measures_of o unit) blocks places frames ends ends' R.from_rows R.to_rows G.exits)
        (λ e h. R.along z e h ∙ way_is e h)
        ∙ ap Run.runs
        (led_cong _ _ (ltb 0 its) _ _ _ _ _ _ (scene_is ends' R.from_rows R.to_rows) (ap occupied counts_are) (ap clearance_of G.holds.unit_is) refl)

    -- The lists hold the drawing with its routes.
    pub charted : (ill : Bool) → ill ≡ ill_sized (boxes_in k frames) (occupied (counts_in k stations)) → ill ≡ false
        → 2 * k + 3 * min (length N.corners) 24576 + 16 ≤ length path
        → Charted o N k room (unless l unit) stations' buses ends' blocks places frames path ways
    unfolding drawing routed_late routed_by
    charted ill i e p =
        let ie : ill_sized (planned o N).boxes (occupied (planned o N).counts) ≡ false = cc (i, G.holds.boxes, occ_is) in
        let routed : l ≡ routed_late o N room = late_is ∙ rw ie in
        record {
          course_is = cc (routed, G.holds.unit_is);
          counts = counts_are;
          scales = G.holds.scales;
          boxes = G.holds.boxes;
          bars = (let b = G.holds.unit_is in cc (b)) ∙ G.holds.bars;
          runs = λ z. (let b = G.holds.unit_is in cc (b)) ∙ runs_are (routed ∙ z);
          fits = λ z e h. (omega (arith, (R.short (routed ∙ z) e h).0, p), (R.short (routed ∙ z) e h).1);
        }

  -- Where the sizes are ill nothing is routed.
  pub charted_ill : (ill : Bool) (room : ℕ) (path ways : List Float) → ill ≡ ill_sized (boxes_in k frames) (occupied (counts_in k stations)) → ill ≡ true
      → Charted o N k room (Err Refusals.IllSized) stations buses ends blocks places frames path ways
  unfolding drawing routed_late routed_by
  charted_ill ill room path ways i e =
      let ie : ill_sized (planned o N).boxes (occupied (planned o N).counts) ≡ true = cc (i, G.holds.boxes, occ_is) in
      let routed : Some Refusals.IllSized ≡ routed_late o N room = rw ie in
      record {
        course_is = rw ie;
        counts = G.counts ∙ G.holds.counts;
        scales = G.holds.scales;
        boxes = G.holds.boxes;
        bars = (let b = G.holds.unit_is in cc (b)) ∙ G.holds.bars;
        runs = λ z. absurd (some_none (routed ∙ z));
        fits = λ z. absurd (some_none (routed ∙ z));
      }
