-- Every line traced: how many crossings there are, the lines of a scene by their ways, and the routing in the lists. Assumes nothing.
use mathlib.Core.Path.{◌≡◌, refl, sym, ap, ◌∙◌, subst}
use mathlib.Core.List.{List, [], ◌∷◌, ◌++◌, map}
use Rattle.std.specs.Prelude.{Option, None}
use Prim.Native.Nat.{ℕ, zero, suc, ◌+◌, ◌*◌, ◌≤◌, ◌<◌, zero-le}
use native.Mathlib.Omega.{arith}
use native.Mathlib.Nat.{add-zero}
use native.Mathlib.Numerals.{add-one}
use lib.IntN.{ℤ}
use lib.ListN.{length, get_or, take, length-append}
use lib.Ieee.{Float}
use borrow.Author.Tests.{lt-ltb, le-ltb}
use Rattle.numbers.specs.Table.{table, strided}
use Rattle.numbers.proofs.order.Tables.{length_table, get_d_table, table_suc, table_zero}
use Rattle.numbers.proofs.order.Strides.{strided_zero, strided_suc, strided_ext}
use Rattle.plane.specs.Plane.{point_at}
use Rattle.channels.specs.Round.{round_of}
use Rattle.channels.specs.Trace.{traced}
use Rattle.channels.proofs.half_edges.Rounds.{round_first}
use Rattle.network.specs.declared.words.Kind.{Kind}
use Rattle.network.specs.declared.words.Kind.TheVariants.{Undrawn, Open, Internal, Line}
use Rattle.network.specs.Words.{kind_of}
use Rattle.network.specs.Views.{order_in}
use Rattle.routing.specs.Route as Route
use Rattle.routing.specs.declared.crossings.line_vertices.LineVertices.{LineVertices}
use Rattle.routing.specs.Route.{MeshScene, Routing, Crossing, centre_at, cross, cross_all, add_walk, add_branch, traced_to, routing}
use Rattle.routing.specs.Stages.Views.{TracedLists, scene_in, lines_in, line_in, line_for, line_between, Stored}
use Rattle.routing.specs.Stages.Store.{stock, meshed, walk_of, crossings_to, add_by_vertices, vertices_for, line_vertices, SameRows, Fits, Filled, HoldVertices}
use Rattle.routing.specs.Stages.Traced.{crossings_in, Settled, lined, Traced, Pathless}
use Rattle.routing.specs.declared.tracing.lines.TraceCounts.{TraceCounts}
use Rattle.std.specs.Prelude.{Result, Ok, Err}
use Rattle.routing.proofs.crossings.Written.{put_pair, pair_other, pair_rows, pair_first, pair_second, length_pair, rows_then, rows_same}
use Rattle.routing.proofs.tracing.Filling.{front_read, front_rows}

-- ---- how many crossings

pub cross_long : (S : MeshScene) (va vb e k : ℕ) (hs : List ℕ) (r : Routing) → length (cross_all S va vb e k hs r).crossings ≡ length r.crossings + length hs
unfolding cross_all cross
cross_long S va vb e k [] r = sym (add-zero (length r.crossings))
cross_long S va vb e k (h ∷ hs) r =
    cross_long S va vb e (suc k) hs (cross S va vb e k h r)
    ∙ ap (λ (n : ℕ). n + length hs) (length-append r.crossings (_ ∷ [])) ∙ omega arith

added_long : (S : MeshScene) (e a b : ℕ) (r : Routing) → length (add_by_vertices S e a b r).crossings ≡ length r.crossings + length (walk_of S.corners S.twins (centre_at S) a b).half_edges
unfolding add_by_vertices add_branch add_walk walk_of
added_long S e zero b r = sym (add-zero (length r.crossings))
added_long S e (suc a) b r = cross_long S a b e 0 (traced S.corners S.twins (centre_at S) a b).half_edges r

module _ (corners twins : List ℕ) (points : List Float) (m : ℕ) (ways : List ℕ) (S : MeshScene) (f : Fits corners twins points m ways S) where
  pub crossings_traced : (e : ℕ) → e ≤ m → length (traced_to (meshed corners twins points S) e).crossings ≡ crossings_to corners twins points ways e
  unfolding traced_to crossings_to
  crossings_traced zero h = refl
  crossings_traced (suc e) h =
      let s = meshed corners twins points S in
      let a = get_or ways (4 * e + 2) 0 in
      let b = get_or ways (4 * e + 3) 0 in
      ap (λ (r : Routing). length r.crossings) (f.each e (omega arith) (traced_to s e)) ∙ added_long s e a b (traced_to s e)
      ∙ ap (λ (n : ℕ). n + length (walk_of corners twins (point_at points) a b).half_edges) (crossings_traced e (omega arith))

-- ---- the lines of a scene

add_kind : (G : TracedLists) (S : MeshScene) (e ra rb : ℕ) (r : Routing) (x : Kind) → add_branch S e (line_for G ra rb x) r ≡ add_by_vertices S e (vertices_for G.sub S.occupied x).start (vertices_for G.sub S.occupied x).end r
unfolding line_for line_between vertices_for add_by_vertices add_branch
add_kind G S e ra rb r Undrawn = refl
add_kind G S e ra rb r (Open a b) = refl
add_kind G S e ra rb r (Internal a b) = refl
add_kind G S e ra rb r (Line a b) = refl

add_line : (H : TracedLists) (S : MeshScene) (e : ℕ) (r : Routing)
    → add_branch S e (line_in H e) r ≡ add_by_vertices S e (line_vertices H.sub H.from H.to H.service S.occupied e).start (line_vertices H.sub H.from H.to H.service S.occupied e).end r
unfolding line_in line_vertices
add_line H S e r = add_kind H S e (get_or H.ends (4 * e) 0) (get_or H.ends (4 * e + 1) 0) r (kind_of H.sub H.from H.to H.service e)

module _ (sub : List ℕ) (from to : List ℤ) (service : List ℕ) (c : ℕ) (stations : List ℕ) (path : List Float) (corners twins : List ℕ) where
  abbrev pub scene_of : ℕ → TracedLists → MeshScene
  scene_of k G = scene_in (lined sub from to service G) k c stations path corners twins

  abbrev points : List Float
  points = take (2 * c) path

  module _ (before ways : List ℕ) (w : HoldVertices (line_vertices sub from to service (order_in c stations)) (length from) (length from) before ways) (k : ℕ) (G : TracedLists) where
    abbrev network : TracedLists
    network = lined sub from to service G

    abbrev vertices_at : List ℕ → ℕ → LineVertices
    vertices_at occupied e = line_vertices sub from to service occupied e

    scene_line : (e : ℕ) → e < length from → get_or (scene_of k G).lines e None ≡ line_in network e
    unfolding scene_in lines_in
    scene_line e h = get_d_table (line_in network) (length from) e None h

    scene_occupied : (scene_of k G).occupied ≡ order_in c stations
    unfolding scene_in
    scene_occupied = refl

    line_added : (e : ℕ) → e < length from → (r : Routing)
        → add_branch (scene_of k G) e (get_or (scene_of k G).lines e None) r ≡ add_by_vertices (scene_of k G) e (get_or ways (4 * e + 2) 0) (get_or ways (4 * e + 3) 0) r
    line_added e h r =
        ap (λ (l : Option Route.RoutedLine). add_branch (scene_of k G) e l r) (scene_line e h) ∙ add_line network (scene_of k G) e r
        ∙ ap (λ (o : List ℕ). add_by_vertices (scene_of k G) e (vertices_at o e).start (vertices_at o e).end r) scene_occupied
        ∙ ap (λ (n : ℕ). add_by_vertices (scene_of k G) e n (vertices_at (order_in c stations) e).end r) (sym (w.starts e h))
        ∙ ap (λ (n : ℕ). add_by_vertices (scene_of k G) e (get_or ways (4 * e + 2) 0) n r) (sym (w.ends e h))

    pub scene_fits : Fits corners twins points (length from) ways (scene_of k G)
    unfolding scene_in
    scene_fits = record { each = line_added }

    pub scene_routing : routing (scene_of k G) ≡ traced_to (scene_of k G) (length from)
    unfolding routing scene_in lines_in
    scene_routing = ap (traced_to (scene_of k G)) (length_table (line_in (lined sub from to service G)) (length from))

  -- ways written, and then marks cleared, which are no branch's numbers
  pub vertices_kept : (before now ways : List ℕ) → HoldVertices (line_vertices sub from to service (order_in c stations)) (length from) (length from) before now → take (4 * length from) ways ≡ take (4 * length from) now
      → HoldVertices (line_vertices sub from to service (order_in c stations)) (length from) (length from) before ways
  vertices_kept before now ways w q =
      record {
        rows = rows_then (length from) before now ways w.rows (front_rows (length from) ways now q);
        starts = λ j h. front_read (length from) ways now q (4 * j + 2) (omega arith) ∙ w.starts j h;
        ends = λ j h. front_read (length from) ways now q (4 * j + 3) (omega arith) ∙ w.ends j h;
      }

  pub trace_made : (room : ℕ) (before ways : List ℕ) (r : Result TraceCounts ℕ) (ends numbers : List ℕ) (places : List Float)
      → HoldVertices (line_vertices sub from to service (order_in c stations)) (length from) (length from) before ways → Settled (length from) corners twins (take (2 * c) path) room ways r ends numbers places
      → Traced scene_of (length from) corners room before r ends numbers places
  unfolding scene_in
  trace_made room before ways r ends numbers places w s =
      record {
        crossings = λ k G. s.crossings ∙ sym (crossings_traced corners twins points (length from) ways (scene_of k G) (scene_fits before ways w k G) (length from) (omega arith)) ∙ ap (λ (z : Routing). length z.crossings) (sym (scene_routing before ways w k G));
        full = s.full;
        rows = rows_then (length from) before ways ends w.rows s.rows;
        stored = λ c h k G. subst (λ (z : Routing). Stored (length from) corners z ends numbers places) (sym (scene_routing before ways w k G)) (holds c h k G);
        channels = λ c h k G. ((s.filled c h).held (scene_of k G) (scene_fits before ways w k G)).known ∙ ap (λ (z : Routing). length z.channels) (sym (scene_routing before ways w k G));
      }
    where
      holds : (c : TraceCounts) (h : r ≡ Ok c) (k : ℕ) (G : TracedLists) → Stored (length from) corners (traced_to (scene_of k G) (length from)) ends numbers places
      holds t h k G =
          let f = s.filled t h in
          let g = scene_fits before ways w k G in
          let v = f.held (scene_of k G) g in
          record {
            channels = subst (λ (n : ℕ). strided 3 0 0 n numbers ≡ map (λ (x : Crossing). x.channel) (traced_to (scene_of k G) (length from)).crossings) v.made v.channels;
            branches = subst (λ (n : ℕ). strided 3 1 0 n numbers ≡ map (λ (x : Crossing). x.branch) (traced_to (scene_of k G) (length from)).crossings) v.made v.branches;
            placed = subst (λ (n : ℕ). take n places ≡ map (λ (x : Crossing). x.fraction) (traced_to (scene_of k G) (length from)).crossings) v.made v.placed;
            firsts = f.firsts (scene_of k G) g;
            counts = f.counts (scene_of k G) g;
            half_edges = v.marked.half_edges;
          }

-- ---- counted, and then stored or not

module _ (m : ℕ) (corners twins : List ℕ) (points : List Float) (room : ℕ) (ways : List ℕ) (x : ℕ) (q : x ≡ crossings_to corners twins points ways m) where
  pub settle_full : (numbers : List ℕ) (places : List Float) → room < x → Settled m corners twins points room ways (Err x) ways numbers places
  unfolding crossings_in
  settle_full numbers places h = record { crossings = q; full = sym (lt-ltb room x h); rows = rows_same m ways; filled = λ c e. absurd (two (Err x) c refl e) }
    where
      two : (a : Result TraceCounts ℕ) (c : TraceCounts) → a ≡ Err x → a ≡ Ok c → ⊥
      two a c e f = cc

  pub settle_stored : (k : TraceCounts) (ends numbers : List ℕ) (places : List Float) → x ≤ room → Filled m corners twins points ways m (stock k.channels k.crossings ends numbers places)
      → Settled m corners twins points room ways (Ok k) ends numbers places
  unfolding crossings_in
  settle_stored k ends numbers places h f =
      record {
        crossings = f.made;
        full = sym (le-ltb room k.crossings (omega (arith, f.made)));
        rows = f.rows;
        filled = λ c e. let z : k ≡ c = cc in subst (λ (t : TraceCounts). Filled m corners twins points ways m (stock t.channels t.crossings ends numbers places)) z f;
      }

-- ---- no paths

module _ (m : ℕ) (before : List ℕ) where
  pub record Emptied (e : ℕ) (now : List ℕ) : Type 0 where
    pub upto : e ≤ m
    pub long : length now ≡ length before
    pub rows : SameRows m before now
    pub firsts : strided 4 2 0 e now ≡ table (λ i. 0) e
    pub counts : strided 4 3 0 e now ≡ table (λ i. 0) e

  pub empty_start : Emptied 0 before
  empty_start = record { upto = zero-le; long = refl; rows = rows_same m before; firsts = strided_zero 4 2 0 before ∙ sym (none_of 0); counts = strided_zero 4 3 0 before ∙ sym (none_of 0) }
    where
      none_of : (d : ℕ) → table (λ (i : ℕ). d) 0 ≡ []
      none_of d = table_zero (λ (i : ℕ). d)

  pub empty_more : (e : ℕ) (now : List ℕ) → e < m → 4 * m ≤ length now → Emptied e now → Emptied (e + 1) (put_pair now e 0 0)
  empty_more e now h l v =
      record {
        upto = omega arith;
        long = length_pair now e 0 0 ∙ v.long;
        rows = rows_then m before now (put_pair now e 0 0) v.rows (pair_rows now e 0 0 m);
        firsts = column 2 (omega arith) (pair_first now e 0 0 (omega arith)) v.firsts;
        counts = column 3 (omega arith) (pair_second now e 0 0 (omega arith)) v.counts;
      }
    where
      column : (o : ℕ) → o < 4 → get_or (put_pair now e 0 0) (4 * e + o) 0 ≡ 0 → strided 4 o 0 e now ≡ table (λ i. 0) e → strided 4 o 0 (e + 1) (put_pair now e 0 0) ≡ table (λ i. 0) (e + 1)
      column o k p q =
          rw (add-one e)
          (strided_suc 4 o 0 e (put_pair now e 0 0)
          ∙ ap (λ (z : ℕ). strided 4 o 0 e (put_pair now e 0 0) ++ (z ∷ [])) p
          ∙ ap (λ (z : List ℕ). z ++ (0 ∷ [])) (strided_ext 4 o 0 e (put_pair now e 0 0) now (λ j g. pair_other now e 0 0 j o k (λ z. omega arith)) ∙ q)
          ∙ sym (table_suc (λ (i : ℕ). 0) e))

  pub empty_end : (e : ℕ) (now : List ℕ) → e ≡ m → Emptied e now → Pathless m before now
  empty_end e now q v =
      record {
        rows = v.rows;
        firsts = subst (λ (n : ℕ). strided 4 2 0 n now ≡ table (λ i. 0) n) q v.firsts;
        counts = subst (λ (n : ℕ). strided 4 3 0 n now ≡ table (λ i. 0) n) q v.counts;
      }

-- what `go_round` leaves begins with the half-edges by vertex
pub round_kept : (corners l r : List ℕ) → l ≡ round_of corners ++ r → take (length corners) l ≡ round_of corners
round_kept corners l r e = ap (take (length corners)) e ∙ round_first corners r
