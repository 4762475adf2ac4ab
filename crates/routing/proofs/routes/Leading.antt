-- What the steps of routing give together: refusals 9 and 10, each branch's waypoints in a list, and none without a mesh. Assumes nothing.
use mathlib.Core.Path.{◌≡◌, refl, sym, ap, ◌∙◌, subst}
use mathlib.Core.Bool.{Bool, true, false, not}
use mathlib.Core.List.{List, ◌∷◌, map}
use Prim.Native.Nat.{ℕ, zero, suc, ◌+◌, ◌*◌, ◌≤◌, ◌<◌, min}
use native.Mathlib.Omega.{arith}
use native.Mathlib.Nat.{mul-le-mul, min-eq_left}
use lib.Dec.{ltb}
use lib.IntN.{ℤ}
use lib.ListN.{length, get_or, get_or-map}
use lib.Ieee.{Float, nan}
use borrow.Author.Tests.{ltb-false, le-ltb}
use Rattle.numbers.specs.Order.{up_from}
use Rattle.numbers.specs.Table.{table, table_from, strided}
use Rattle.numbers.proofs.order.Tables.{get_d_table, length_table, table_ext}
use Rattle.numbers.proofs.order.Strides.{get_d_strided}
use Rattle.plane.specs.declared.geometry.Point.{Point}
use Rattle.plane.specs.Plane.{point, point_at}
use Rattle.network.specs.Mesh.{mesh_ok}
use Rattle.network.proofs.mesh.Meshes.{mesh_sound}
use Rattle.std.specs.Prelude.{Some, None, Result, Ok, Err}
use Rattle.std.specs.Result.{is_err}
use Rattle.network.specs.declared.refusals.Refusal.{Refusal}
use Rattle.network.specs.declared.refusals.Refusal.TheVariants as Refusals
use Rattle.network.specs.Refusal.{refuse}
use Rattle.network.specs.Views.{from_rows_in, to_rows_in, points_in}
use Rattle.boxes.specs.Stages.Paths.{path_in}
use Rattle.stations.specs.declared.measures.Measures.{Measures}
use Rattle.runs.specs.Stages.Views.{first_waypoint, waypoint_count}
use Rattle.routing.specs.Route.{MeshScene, KeptCrossings, no_kept_crossings, kept_crossings_at, point_of, routing, rounds_to, waypoints}
use Rattle.routing.specs.Stages.Views.{TracedLists, grid, line_in, lines_in, scene_in}
use Rattle.routing.specs.Stages.Store.{SameRows}
use Rattle.routing.specs.Stages.Traced.{crossings_in, Traced, Pathless, lined}
use Rattle.routing.specs.declared.tracing.lines.TraceCounts.{TraceCounts}
use Rattle.routing.proofs.tracing.Rows.{path_row}
use Rattle.routing.proofs.tracing.Known.{routing_few}
use Rattle.routing.specs.Stages.RoundLists.{station_in, Entered}
use Rattle.routing.specs.Stages.Exits.{Exited}
use Rattle.routing.proofs.exits.Keeping.{line_same, exited_rows}
use Rattle.routing.specs.Routes.{crossings_of, route_refusal}
use Rattle.routing.specs.Stages.Led.{Led}
use Rattle.routing.proofs.routes.Few.{length_rounds, routing_short}

-- ---- refusals

room_full : (full : Bool) (room x : ℕ) → full ≡ ltb room x → full ≡ true → Some Refusals.Crossings ≡ route_refusal true x room
unfolding route_refusal
room_full full room x h e = ap (λ (b : Bool). refuse b (Some Refusals.Crossings) None) (sym e ∙ h)

room_left : (room x : ℕ) → x ≤ room → None ≡ route_refusal true x room
unfolding route_refusal
room_left room x h = ap (λ (b : Bool). refuse b (Some Refusals.Crossings) None) (sym (le-ltb room x h))

crossings_many : (S : MeshScene) (n : ℕ) → length (crossings_of S n) ≡ length (routing S).crossings
unfolding crossings_of
crossings_many S n = length_rounds S (routing S) n

module _ (S : MeshScene) (m : ℕ) (corners before behind : List ℕ) (iterations room : ℕ) (ways : List Float) (rows : SameRows m before behind) where
  -- r, where it refuses
  led_late : (fits : Bool) (r : Refusal) → Some r ≡ route_refusal fits (length (crossings_of S iterations)) room → Led S m corners before fits iterations room (Some r) behind ways
  led_late fits r e =
      record {
        late_is = e;
        from_rows = rows.from;
        to_rows = rows.to;
        along = λ z i l. cc;
        short = λ z i l. cc;
      }

  pub led_nine : (fits : Bool) → fits ≡ false → Led S m corners before fits iterations room (Some Refusals.Mesh) behind ways
  unfolding route_refusal
  led_nine fits e = led_late fits Refusals.Mesh (ap (λ (b : Bool). refuse (not b) (Some Refusals.Mesh) (refuse (ltb room (length (crossings_of S iterations))) (Some Refusals.Crossings) None)) (sym e))

  pub led_ten : (fits full : Bool) (x : ℕ) → fits ≡ true → x ≡ length (routing S).crossings → full ≡ ltb room x → full ≡ true → Led S m corners before fits iterations room (Some Refusals.Crossings) behind ways
  led_ten fits full x e c h z =
      led_late fits Refusals.Crossings
      (room_full full room (length (crossings_of S iterations)) (h ∙ ap (ltb room) (c ∙ sym (crossings_many S iterations))) z
      ∙ ap (λ (b : Bool). route_refusal b (length (crossings_of S iterations)) room) (sym e))

pub same_rows : (m : ℕ) (l : List ℕ) → SameRows m l l
same_rows m l = record { from = refl; to = refl }

-- ---- rows, firsts and counts read from four numbers for each branch

read_path : (f : KeptCrossings → ℕ) (o m : ℕ) (ends : List ℕ) (ps : List KeptCrossings) (e : ℕ) → e < m → f no_kept_crossings ≡ 0 → strided 4 o 0 m ends ≡ map f ps → get_or ends (4 * e + o) 0 ≡ f (get_or ps e no_kept_crossings)
read_path f o m ends ps e h z q =
    sym (get_d_strided 4 o 0 m e ends 0 h) ∙ ap (λ (l : List ℕ). get_or l e 0) q ∙ ap (get_or (map f ps) e) (sym z) ∙ get_or-map f ps e no_kept_crossings

-- waypoints by the points of all crossings
point_read : (f : ℕ → Point) (l : List Float) (x : ℕ) → points_in x l ≡ table f x → (j : ℕ) → j < x → point_at l j ≡ f j
unfolding points_in
point_read f l x e j g = sym (get_d_table (point_at l) x j (point nan nan) g) ∙ ap (λ (t : List Point). get_or t j (point nan nan)) e ∙ get_d_table f x j (point nan nan) g

along_from : (f : ℕ → Point) (l : List Float) (i n x : ℕ) → i + n ≤ x → points_in x l ≡ table f x → path_in i n l ≡ map f (up_from i n)
unfolding path_in table_from up_from
along_from f l i zero x h e = refl
along_from f l i (suc n) x h e =
    let p : point_at l i ≡ f i = point_read f l x e i (omega arith) in
    ap (λ (q : Point). q ∷ table_from (point_at l) (suc i) n) p ∙ ap (λ (t : List Point). f i ∷ t) (along_from f l (suc i) n x (omega arith) e)

-- ---- without a mesh there is nothing to cross

nothing_along : (f : ℕ → Point) (i n j o : ℕ) (l : List Float) → n ≤ 0 → o ≤ 0 → path_in j o l ≡ map f (up_from i n)
unfolding path_in table_from up_from
nothing_along f i zero j zero l h g = refl
nothing_along f i zero j (suc o) l h g = absurd (omega arith)
nothing_along f i (suc n) j o l h g = absurd (omega arith)

read_zero : (o m : ℕ) (ends : List ℕ) (e : ℕ) → e < m → strided 4 o 0 m ends ≡ table (λ i. 0) m → get_or ends (4 * e + o) 0 ≡ 0
read_zero o m ends e h q = sym (get_d_strided 4 o 0 m e ends 0 h) ∙ ap (λ (l : List ℕ). get_or l e 0) q ∙ get_d_table (λ i. 0) m e 0 h

module _ (S : MeshScene) (m : ℕ) (corners before behind : List ℕ) (iterations room : ℕ) (ways : List Float) (meshless : length S.corners ≡ 0) (number : length S.lines ≡ m) (p : Pathless m before behind) where
  none_many : length (crossings_of S iterations) ≤ 0
  none_many =
      let f = routing_short S in
      let z : length S.lines * length S.corners ≡ length S.lines * 0 = ap (λ (t : ℕ). length S.lines * t) meshless in
      omega (arith, crossings_many S iterations, f.many)

  none_along : (e : ℕ) → e < m → path_in (first_waypoint behind e) (waypoint_count behind e) ways ≡ waypoints S (routing S) (crossings_of S iterations) e
  unfolding waypoints
  none_along e h =
      let f = routing_short S in
      nothing_along (point_of S (routing S) (crossings_of S iterations)) (kept_crossings_at S (routing S) e).first (kept_crossings_at S (routing S) e).count (first_waypoint behind e) (waypoint_count behind e) ways
      (omega (arith, f.each e (omega arith)))
      (omega (arith, read_zero 3 m behind e h p.counts))

  pub led_none : Led S m corners before true iterations room None behind ways
  led_none =
      record {
        late_is = room_left room (length (crossings_of S iterations)) (omega (arith, none_many));
        from_rows = p.rows.from;
        to_rows = p.rows.to;
        along = λ z e h. none_along e h;
        short = λ z e h. (omega (arith, read_zero 3 m behind e h p.counts), omega (arith, read_zero 3 m behind e h p.counts, read_zero 2 m behind e h p.firsts));
      }

-- ---- the lines of a scene, by rows alone

module _ (sub : List ℕ) (from to : List ℤ) (service : List ℕ) (measures : Measures) (blocks places frames : List Float) (before behind : List ℕ) where
  abbrev with : List ℕ → TracedLists
  with ends = grid sub from to service measures ends blocks places frames

  module _ (rows : SameRows (length from) before behind) where
    lines_same : lines_in (with behind) ≡ lines_in (with before)
    unfolding lines_in
    lines_same = table_ext (line_in (with behind)) (line_in (with before)) (length from) (line_same sub from to service measures blocks places frames before behind rows.from rows.to)

    scene_same : (k c : ℕ) (stations : List ℕ) (centres : List Float) (corners twins : List ℕ) → scene_in (with behind) k c stations centres corners twins ≡ scene_in (with before) k c stations centres corners twins
    unfolding scene_in
    scene_same k c stations centres corners twins = rw lines_same

scene_lines : (G : TracedLists) (k c : ℕ) (stations : List ℕ) (centres : List Float) (corners twins : List ℕ) → length (scene_in G k c stations centres corners twins).lines ≡ length G.from
unfolding scene_in lines_in
scene_lines G k c stations centres corners twins = length_table (line_in G) (length G.from)

scene_corners : (G : TracedLists) (k c : ℕ) (stations : List ℕ) (centres : List Float) (corners twins : List ℕ) → (scene_in G k c stations centres corners twins).corners ≡ corners
unfolding scene_in
scene_corners G k c stations centres corners twins = refl

-- ---- traced, and then spaced

none_stored : (r : Result TraceCounts ℕ) → ((t : TraceCounts) → r ≡ Ok t → ⊥) → is_err r ≡ true
none_stored (Ok t) h = absurd (h t refl)
none_stored (Err x) h = refl

pub mesh_room : (corners twins : List ℕ) (n : ℕ) → mesh_ok corners twins n ≡ true → (length corners ≤ 24576) × (min (length corners) 24576 ≡ length corners)
mesh_room corners twins n ok = let h = (mesh_sound corners twins n ok).most in (h, min-eq_left h)

module _ (sub : List ℕ) (from to : List ℤ) (service : List ℕ) (measures : Measures) (blocks places frames : List Float) (k c : ℕ) (stations : List ℕ) (centres : List Float) (corners twins : List ℕ)
    (room : ℕ) (before ends numbers : List ℕ) (along : List Float) (r : Result TraceCounts ℕ)
    (ok : mesh_ok corners twins c ≡ true)
    (traced : Traced (λ k G. scene_in (lined sub from to service G) k c stations centres corners twins) (length from) corners room before r ends numbers along) where
  abbrev grid_of : List ℕ → TracedLists
  grid_of l = grid sub from to service measures l blocks places frames

  abbrev scene_of : List ℕ → MeshScene
  scene_of l = scene_in (grid_of l) k c stations centres corners twins

  pub led_full : (iterations : ℕ) (ways : List Float) → ((t : TraceCounts) → r ≡ Ok t → ⊥) → Led (scene_of before) (length from) corners before (mesh_ok corners twins c) iterations room (Some Refusals.Crossings) ends ways
  led_full iterations ways h =
      led_ten (scene_of before) (length from) corners before ends iterations room ways traced.rows (mesh_ok corners twins c) (is_err r) (crossings_in r) ok (traced.crossings k (grid_of before)) traced.full (none_stored r h)

  module _ (t : TraceCounts) (left : r ≡ Ok t) (boxes : 4 * k ≤ length frames) (occupied : (v : ℕ) → v < c → station_in stations v < k) where
    counted : t.crossings ≡ crossings_in r
    unfolding crossings_in
    counted = sym (ap crossings_in left)

    made : t.crossings ≡ length (routing (scene_of ends)).crossings
    made = counted ∙ traced.crossings k (grid_of ends)

    pub entered : Exited (grid_of before) → Entered (grid_of ends) k c stations centres corners twins numbers along t.channels t.crossings
    entered E =
        record {
          mesh = ok;
          exits = exited_rows sub from to service measures blocks places frames before ends traced.rows.from traced.rows.to E;
          boxes = boxes;
          occupied = occupied;
          channels_are = traced.channels t left k (grid_of ends);
          crossings_are = made;
          stored = traced.stored t left k (grid_of ends);
        }

    channels_few : t.channels ≤ length corners
    unfolding scene_in
    channels_few = omega (arith, traced.channels t left k (grid_of ends), routing_few (scene_of ends) c ok)

    crossings_fit : t.crossings ≤ room
    crossings_fit = ltb-false room t.crossings (ap (ltb room) counted ∙ sym traced.full ∙ ap is_err left)

    crossings_few : length from ≤ 8192 → t.crossings ≤ 8192 * 24576
    crossings_few h =
        let f = (routing_short (scene_of ends)).many in
        let a : length (scene_of ends).lines ≤ 8192 = omega (arith, scene_lines (grid_of ends) k c stations centres corners twins) in
        let b : length (scene_of ends).corners ≤ 24576 = omega (arith, ap length (scene_corners (grid_of ends) k c stations centres corners twins), (mesh_room corners twins c ok).0) in
        let p : length (scene_of ends).lines * length (scene_of ends).corners ≤ 8192 * 24576 = mul-le-mul a b in
        omega (arith, made)

    pub room_enough : length from ≤ 8192 → (t.channels ≤ length corners) × (length corners ≤ 24576) × (t.crossings ≤ room) × (t.crossings ≤ 8192 * 24576)
    room_enough h = (channels_few, (mesh_room corners twins c ok).0, crossings_fit, crossings_few h)

    module _ (h : length from ≤ 8192) (iterations : ℕ) (behind : List ℕ) (ways : List Float)
        (points : points_in t.crossings ways ≡ table (point_of (scene_of ends) (routing (scene_of ends)) (rounds_to (scene_of ends) (routing (scene_of ends)) iterations)) t.crossings)
        (kept : (from_rows_in (length from) behind ≡ from_rows_in (length from) ends) × (to_rows_in (length from) behind ≡ to_rows_in (length from) ends) × (strided 4 2 0 (length from) behind ≡ strided 4 2 0 (length from) ends) × (strided 4 3 0 (length from) behind ≡ strided 4 3 0 (length from) ends)) where
      abbrev S : MeshScene
      S = scene_of ends

      number : length S.lines ≡ length from
      number = scene_lines (grid_of ends) k c stations centres corners twins

      first_is : (e : ℕ) → e < length from → first_waypoint behind e ≡ (kept_crossings_at S (routing S) e).first
      first_is e l = read_path (λ (p : KeptCrossings). p.first) 2 (length from) behind (routing S).kept_crossings e l refl (kept.2 ∙ (traced.stored t left k (grid_of ends)).firsts)

      count_is : (e : ℕ) → e < length from → waypoint_count behind e ≡ (kept_crossings_at S (routing S) e).count
      count_is e l = read_path (λ (p : KeptCrossings). p.count) 3 (length from) behind (routing S).kept_crossings e l refl (kept.3 ∙ (traced.stored t left k (grid_of ends)).counts)

      inside : (e : ℕ) → e < length from → first_waypoint behind e + waypoint_count behind e ≤ t.crossings
      inside e l = omega (arith, first_is e l, count_is e l, (path_row S e (omega (arith, number))).within, made)

      along_is : (e : ℕ) → e < length from → path_in (first_waypoint behind e) (waypoint_count behind e) ways ≡ waypoints S (routing S) (crossings_of S iterations) e
      unfolding waypoints crossings_of
      along_is e l =
          let f : ℕ → Point = point_of S (routing S) (rounds_to S (routing S) iterations) in
          along_from f ways (first_waypoint behind e) (waypoint_count behind e) t.crossings (inside e l) points
          ∙ ap (λ (i : ℕ). map f (up_from i (waypoint_count behind e))) (first_is e l)
          ∙ ap (λ (n : ℕ). map f (up_from (kept_crossings_at S (routing S) e).first n)) (count_is e l)

      count_short : (e : ℕ) → e < length from → waypoint_count behind e ≤ length corners
      count_short e l = omega (arith, count_is e l, (routing_short S).each e (omega (arith, number)), ap length (scene_corners (grid_of ends) k c stations centres corners twins))

      led_own : Led S (length from) corners before true iterations room None behind ways
      led_own =
          record {
            late_is = room_left room (length (crossings_of S iterations)) (omega (arith, crossings_many S iterations, made, crossings_fit));
            from_rows = kept.0 ∙ traced.rows.from;
            to_rows = kept.1 ∙ traced.rows.to;
            along = λ z e l. along_is e l;
            short = λ z e l. (omega (arith, count_short e l, (mesh_room corners twins c ok).0), omega (arith, inside e l, crossings_few h));
          }

      pub led_all : Led (scene_of before) (length from) corners before (mesh_ok corners twins c) iterations room None behind ways
      led_all =
          subst (λ (s : MeshScene). Led s (length from) corners before (mesh_ok corners twins c) iterations room None behind ways)
          (scene_same sub from to service measures blocks places frames before ends traced.rows k c stations centres corners twins)
          (subst (λ (b : Bool). Led S (length from) corners before b iterations room None behind ways) (sym ok) led_own)
