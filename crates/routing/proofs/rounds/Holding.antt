-- Lists that hold a routing, once its crossings are grouped, say of it what the rounds read. Assumes nothing.
use mathlib.Core.Path.{◌≡◌, refl, sym, ap, ◌∙◌, subst}
use mathlib.Core.Bool.{true, false}
use mathlib.Core.List.{List, map}
use Rattle.std.specs.Prelude.{Option, Some, None}
use Prim.Native.Nat.{ℕ, suc, ◌+◌, ◌-◌, ◌*◌, ◌≤◌, ◌<◌}
use native.Mathlib.Omega.{arith}
use lib.Dec.{eqb}
use lib.IntN.{ℤ}
use lib.ListN.{length, get_or, take, get_or-map}
use lib.Seq.{get_or-take}
use lib.Ieee.{Float, nan}
use Rattle.numbers.specs.Table.{table, strided}
use Rattle.numbers.proofs.order.Tables.{get_d_table, length_table, which_ext}
use Rattle.numbers.proofs.order.Strides.{get_d_strided, get_d_first}
use Rattle.plane.specs.Plane.{point_at, box_at, box_in, no_box}
use Rattle.network.specs.Mesh.{next, end_at, low_at, high_at, mesh_ok}
use Rattle.network.proofs.mesh.Meshes.{mesh_sound, next_in}
use Rattle.network.proofs.Views.{get_d_boxes}
use Rattle.stations.specs.declared.measures.Measures.{Measures}
use Rattle.routing.specs.Route as Route
use Rattle.routing.specs.Route.{MeshScene, Routing, Keyed, Crossing, KeptCrossings, no_crossing, no_kept_crossings, routing, make_channel, crossing_at, channel_at, kept_crossings_at, centre_at, station_at, members}
use Rattle.runs.specs.Stages.Views.{first_exit, second_exit}
use Rattle.routing.specs.Stages.Views.{TracedLists, grid, line_in, lines_in, scene_in, HalfEdged, Stored}
use Rattle.routing.specs.Clearance.{clearance_of}
use Rattle.routing.specs.Stages.RoundLists.{RoundLists, held, half_edge_in, low_in, high_in, station_in, channel_between, Cornered, Ranged}
use Rattle.routing.specs.Stages.Exits.{exits_of, exits_in, Exited}
use Rattle.channels.specs.Stages.Grouped.{start_in, member_in, Grouped}
use Rattle.routing.proofs.rounds.Routed.{Traced, routed}
use Rattle.routing.proofs.rounds.Meaning.{Means}

-- one column of a list of c numbers each, by another list
column : {A : Type 0} (f : A → ℕ) (d : A) (c o k : ℕ) (l : List ℕ) (bs : List A) → strided c o 0 k l ≡ map f bs → (i : ℕ) → i < k → get_or l (c * i + o) 0 ≡ get_or (map f bs) i 0
column f d c o k l bs e i h = sym (get_d_strided c o 0 k i l 0 h) ∙ ap (λ (t : List ℕ). get_or t i 0) e

module _ (sub : List ℕ) (from to : List ℤ) (service : List ℕ) (measures : Measures) (ends : List ℕ) (blocks places frames : List Float) (k c : ℕ) (stations : List ℕ) (centres : List Float)
    (corners twins numbers : List ℕ) (along : List Float) (ends' numbers' : List ℕ) (centres' : List Float) where
  abbrev pub G : TracedLists
  G = grid sub from to service measures ends blocks places frames

  abbrev pub S : MeshScene
  S = scene_in G k c stations centres corners twins

  abbrev pub R : Routing
  R = routing S

  abbrev pub H : RoundLists
  H = held (length from) (length sub) ends' places centres' corners numbers'

  module _ (mesh : mesh_ok corners twins c ≡ true) (exited : Exited G) (boxes : 4 * k ≤ length frames) (occupied : (v : ℕ) → v < c → station_in stations v < k) (stored : Stored (length from) corners R ends numbers along)
      (grouped : Grouped (length from) (length R.channels) (length R.crossings) ends numbers ends' numbers') where
    -- ---- branches and paths
    lines_long : length S.lines ≡ length from
    unfolding scene_in lines_in
    lines_long = length_table (line_in G) (length from)

    line_at : (b : ℕ) → b < length from → get_or S.lines b None ≡ line_in G b
    unfolding scene_in lines_in
    line_at b h = get_d_table (line_in G) (length from) b None h

    all : Traced S (length S.lines) R
    all = routed S

    within : (x : ℕ) → x < length R.crossings → (crossing_at S R x).branch < length from
    within x h = let z = (all.old x h).branch in omega (arith, lines_long)

    first_at : (b : ℕ) → b < length from → get_or ends' (4 * b + 2) 0 ≡ (kept_crossings_at S R b).first
    first_at b h = column (λ (p : KeptCrossings). p.first) no_kept_crossings 4 2 (length from) ends' R.kept_crossings (grouped.rows 2 (omega arith) (length from) ∙ stored.firsts) b h ∙ get_or-map (λ (p : KeptCrossings). p.first) R.kept_crossings b no_kept_crossings

    count_at : (b : ℕ) → b < length from → get_or ends' (4 * b + 3) 0 ≡ (kept_crossings_at S R b).count
    count_at b h = column (λ (p : KeptCrossings). p.count) no_kept_crossings 4 3 (length from) ends' R.kept_crossings (grouped.counts ∙ stored.counts) b h ∙ get_or-map (λ (p : KeptCrossings). p.count) R.kept_crossings b no_kept_crossings

    -- ---- exits
    first_of : (l : Option Route.RoutedLine) → (exits_of l).first ≡ Route.exit_of S R false l
    unfolding exits_of Route.exit_of
    first_of None = refl
    first_of (Some l) = refl

    second_of : (l : Option Route.RoutedLine) → (exits_of l).second ≡ Route.exit_of S R true l
    unfolding exits_of Route.exit_of
    second_of None = refl
    second_of (Some l) = refl

    first_is : (b : ℕ) → b < length from → first_exit (length sub) places b ≡ Route.exit_of S R false (get_or S.lines b None)
    unfolding exits_in
    first_is b h = exited.first b h ∙ first_of (line_in G b) ∙ ap (Route.exit_of S R false) (sym (line_at b h))

    second_is : (b : ℕ) → b < length from → second_exit (length sub) places b ≡ Route.exit_of S R true (get_or S.lines b None)
    unfolding exits_in
    second_is b h = exited.second b h ∙ second_of (line_in G b) ∙ ap (Route.exit_of S R true) (sym (line_at b h))

    -- ---- crossings
    channel_is : (x : ℕ) → x < length R.crossings → get_or numbers' (3 * x) 0 ≡ (crossing_at S R x).channel
    channel_is x h =
        sym (get_d_first 3 0 (length R.crossings) x numbers' 0 h)
        ∙ ap (λ (t : List ℕ). get_or t x 0) (grouped.sides 0 (omega arith) (length R.crossings) ∙ stored.channels)
        ∙ get_or-map (λ (q : Crossing). q.channel) R.crossings x no_crossing

    branch_is : (x : ℕ) → x < length R.crossings → get_or numbers' (3 * x + 1) 0 ≡ (crossing_at S R x).branch
    branch_is x h =
        column (λ (q : Crossing). q.branch) no_crossing 3 1 (length R.crossings) numbers' R.crossings (grouped.sides 1 (omega arith) (length R.crossings) ∙ stored.branches) x h
        ∙ get_or-map (λ (q : Crossing). q.branch) R.crossings x no_crossing

    stretch_is : (d : ℕ) → d < length R.channels
        → table (λ i. member_in numbers' (start_in (length from) ends' d + i)) (start_in (length from) ends' (d + 1) - start_in (length from) ends' d) ≡ members S R d
    unfolding members
    stretch_is d h =
        grouped.members d h
        ∙ which_ext (λ x. eqb (get_or (strided 3 0 0 (length R.crossings) numbers) x 0) d) (λ x. eqb (crossing_at S R x).channel d) (length R.crossings)
        (λ x g. ap (λ (t : ℕ). eqb t d) (ap (λ (t : List ℕ). get_or t x 0) stored.channels ∙ get_or-map (λ (q : Crossing). q.channel) R.crossings x no_crossing))

    -- ---- channels
    module _ (d : ℕ) (g : d < length R.channels) where
      abbrev h : ℕ
      h = half_edge_in (length from) ends' d

      h_is : h ≡ get_or ends (4 * (length from + d) + 2) 0
      unfolding half_edge_in
      h_is =
          let n = suc (length from + d) in
          sym (get_d_strided 4 2 0 n (length from + d) ends' 0 (omega arith))
          ∙ ap (λ (t : List ℕ). get_or t (length from + d) 0) (grouped.rows 2 (omega arith) n)
          ∙ get_d_strided 4 2 0 n (length from + d) ends 0 (omega arith)

      edged : HalfEdged corners (channel_at S R d) h
      edged = subst (HalfEdged corners (channel_at S R d)) (sym h_is) (stored.half_edges d g)

      low_below : low_at corners h < c
      unfolding low_at
      low_below = omega (arith, (mesh_sound corners twins c mesh).below h edged.inside)

      high_below : high_at corners h < c
      unfolding high_at end_at
      high_below =
          let sound = mesh_sound corners twins c mesh in
          omega (arith, sound.below h edged.inside, sound.below (next h) (next_in corners twins c sound h edged.inside))

      -- in any list that begins with the mesh's points
      module _ (l : List Float) (same : take (2 * c) l ≡ take (2 * c) centres) where
        centre_at_lem : (v : ℕ) → v < c → point_at l v ≡ centre_at S v
        unfolding scene_in
        centre_at_lem v g =
            let a : get_or (take (2 * c) l) (2 * v) nan ≡ get_or l (2 * v) nan = get_or-take (2 * c) l (2 * v) nan (omega arith) in
            let b : get_or (take (2 * c) l) (2 * v + 1) nan ≡ get_or l (2 * v + 1) nan = get_or-take (2 * c) l (2 * v + 1) nan (omega arith) in
            rw (← a, ← b, same)

        low_is : low_in corners l h ≡ centre_at S (channel_at S R d).low
        unfolding low_in
        low_is = centre_at_lem (low_at corners h) low_below ∙ ap (centre_at S) edged.low

        high_is : high_in corners l h ≡ centre_at S (channel_at S R d).high
        unfolding high_in
        high_is = centre_at_lem (high_at corners h) high_below ∙ ap (centre_at S) edged.high

      -- ---- a vertex's station, its box and scale
      station_is : (v : ℕ) → v < c → station_in stations v ≡ station_at S v
      unfolding station_in scene_in
      station_is v l = sym (get_d_strided 2 1 0 c v stations 0 l)

      box_is : (s : ℕ) → s < k → box_at frames s ≡ box_in S.boxes s
      unfolding scene_in
      box_is s l = sym (get_d_boxes k s frames no_box l)

      scale_is : (s : ℕ) → s < k → get_or blocks (3 * s + 2) nan ≡ get_or S.scales s nan
      unfolding scene_in
      scale_is s l = sym (get_d_strided 3 2 nan k s blocks nan l)

      vertex_is : (v w : ℕ) → v < c → v ≡ w → (box_at frames (station_in stations v) ≡ box_in S.boxes (station_at S w)) × (get_or blocks (3 * station_in stations v + 2) nan ≡ get_or S.scales (station_at S w) nan)
      vertex_is v w l e =
          let s : station_in stations v ≡ station_at S w = station_is v l ∙ ap (station_at S) e in
          let b = occupied v l in
          (box_is (station_in stations v) b ∙ ap (box_in S.boxes) s, scale_is (station_in stations v) b ∙ ap (λ (t : ℕ). get_or S.scales t nan) s)

      range_by : (a b : ℕ) → a ≡ (channel_at S R d).low → b ≡ (channel_at S R d).high → (make_channel S a b).channel ≡ (channel_at S R d).channel
      range_by a b p q = rw (p, q) (ap (λ (t : Keyed). t.channel) (sym (all.made.each d g)))

      clearance_is : clearance_of measures.unit ≡ S.clearance
      unfolding scene_in
      clearance_is = refl

      range_is : channel_between measures.unit blocks frames stations centres corners h ≡ (channel_at S R d).channel
      unfolding channel_between make_channel
      range_is =
          let l = vertex_is (low_at corners h) (low_at corners h) low_below refl in
          let u = vertex_is (high_at corners h) (high_at corners h) high_below refl in
          let p : low_in corners centres h ≡ centre_at S (low_at corners h) = low_is centres refl ∙ ap (centre_at S) (sym edged.low) in
          let q : high_in corners centres h ≡ centre_at S (high_at corners h) = high_is centres refl ∙ ap (centre_at S) (sym edged.high) in
          rw (p, q, l.0, u.0, l.1, u.1, clearance_is) (range_by (low_at corners h) (high_at corners h) edged.low edged.high)

      pub cornered : Cornered frames stations corners c h
      cornered =
          record {
            low = low_below;
            high = high_below;
            boxed =
                record {
                  low = let z = occupied (low_at corners h) low_below in omega arith;
                  high = let z = occupied (high_at corners h) high_below in omega arith;
                };
          }

    -- ---- together
    module _ (ranged : Ranged measures.unit blocks frames stations corners (length from) ends' c (length R.channels) centres centres') where
      pub means : Means S R c H
      means =
          record {
            channel = channel_is;
            branch = branch_is;
            known = λ x h. all.numbered x (omega arith);
            on_line = λ x h. rw (first_at (crossing_at S R x).branch (within x h)) (all.old x h).on_line;
            count = λ x h. count_at (crossing_at S R x).branch (within x h);
            inside =
                λ x h. rw (first_at (crossing_at S R x).branch (within x h)) (all.inside (crossing_at S R x).branch (let z = within x h in omega (arith, lines_long)));
            leaves = λ x h. first_is (crossing_at S R x).branch (within x h);
            enters = λ x h. second_is (crossing_at S R x).branch (within x h);
            low = λ d g. low_is d g centres' ranged.kept;
            high = λ d g. high_is d g centres' ranged.kept;
            range = λ d g. ranged.ranges d g ∙ range_is d g;
            consecutive = stretch_is;
          }
