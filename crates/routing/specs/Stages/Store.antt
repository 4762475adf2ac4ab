-- How tracing fills the lent lists, crossing by crossing and branch by branch. Definitions only.
use Rattle.std.specs.Prelude.{ℕ, zero, suc, ◌+◌, ◌*◌, ◌≤◌, ◌<◌, ◌≡◌, true, List, [], ◌∷◌, map, eqb, ltb, ℤ, length}
use Rattle.std.specs.Prelude.{get_or, take, set, Float}
use Rattle.std.specs.Prelude.{None}
use Rattle.numbers.specs.Order.{pick, keep}
use Rattle.numbers.specs.Table.{strided}
use Rattle.plane.specs.declared.geometry.Point.{Point}
use Rattle.plane.specs.Plane.{point_at}
use Rattle.plane.specs.Cross.{param, fraction_or}
use Rattle.network.specs.Mesh.{at, end_at, low_at, high_at, mesh_ok}
use Rattle.channels.specs.Round.{around}
use Rattle.channels.specs.Trace.{Walk, traced}
use Rattle.network.specs.declared.words.Kind.{Kind}
use Rattle.network.specs.declared.words.Kind.TheVariants.{Undrawn, Open, Internal, Line}
use Rattle.network.specs.Words.{station_of, kind_of}
use Rattle.network.specs.Views.{from_rows_in, to_rows_in}
use Rattle.routing.specs.Route.{MeshScene, Routing, Keyed, Crossing, KeptCrossings, half, no_channel, number_of}
use Rattle.routing.specs.Route.{vertex_of}
use Rattle.routing.specs.Route.{centre_at, add_walk, add_branch, traced_to}
use Rattle.routing.specs.Stages.Views.{HalfEdged}
use Rattle.routing.specs.declared.crossings.line_vertices.LineVertices.{LineVertices}

-- ---- channels

-- the half-edges that run from vertex v to vertex w, by number
unfoldable pub half_edges_from : List ℕ → ℕ → ℕ → List ℕ
unfolding keep around
half_edges_from corners v w = keep (λ h. eqb (end_at corners h) w) (around corners v)

-- each of these half-edges marked: the second of its four numbers behind m branches is v
unfoldable pub stamp : ℕ → ℕ → List ℕ → List ℕ → List ℕ
stamp m v [] l = l
stamp m v (h ∷ hs) l = stamp m v hs (set l (4 * (m + h) + 1) v)

-- Half-edge h makes channel k: it is noted for the channel, and every half-edge between its two vertices, either way,
-- is marked with k + 1.
unfoldable pub with_marks : List ℕ → ℕ → ℕ → ℕ → List ℕ → List ℕ
with_marks corners m h k l =
    let v = at corners h in
    let w = end_at corners h in
    stamp m (suc k) (half_edges_from corners w v)
    (stamp m (suc k) (half_edges_from corners v w) (set l (4 * (m + k) + 2) h))

-- the channel of a half-edge with this mark, where k is the next new one; and the list with it
unfoldable pub number_for : ℕ → ℕ → ℕ
number_for k zero = k
number_for k (suc c) = c

unfoldable pub marks_for : List ℕ → ℕ → ℕ → ℕ → ℕ → List ℕ → List ℕ
marks_for corners m h k zero l = with_marks corners m h k l
marks_for corners m h k (suc c) l = l

-- how many channels there are when channel c has been crossed, k before
unfoldable pub count_with : ℕ → ℕ → ℕ
count_with k c = pick (eqb c k) (k + 1) k

-- The list holds these channels: each has a half-edge of the mesh and a number of its own, and each half-edge's mark
-- is 0 or one more than its channel's number.
unfoldable pub mark_of : ℕ → ℕ → ℕ
mark_of k c = pick (ltb c k) (suc c) 0

pub record Marked (m : ℕ) (corners : List ℕ) (ks : List Keyed) (ends : List ℕ) : Type 0 where
  pub half_edges : (c : ℕ) → c < length ks
      → HalfEdged corners (get_or ks c no_channel) (get_or ends (4 * (m + c) + 2) 0)
  pub own : (c : ℕ) → c < length ks → number_of (get_or ks c no_channel).low (get_or ks c no_channel).high ks ≡ c
  pub marks : (h : ℕ) → h < length corners
      → get_or ends (4 * (m + h) + 1) 0 ≡ mark_of (length ks) (number_of (low_at corners h) (high_at corners h) ks)

-- ---- crossings

-- where the line from vertex va to vertex vb crosses half-edge h, from its lower vertex to its higher
unfoldable pub fraction_on : List ℕ → List Float → ℕ → ℕ → ℕ → Float
fraction_on corners points va vb h =
    fraction_or
    (param
    (point_at points va)
    (point_at points vb)
    (point_at points (low_at corners h))
    (point_at points (high_at corners h)))
    half

-- how many channels and crossings there are, and the lists that hold them
pub record Stock : Type 0 where
  pub channels : ℕ
  pub crossings : ℕ
  pub ends : List ℕ
  pub numbers : List ℕ
  pub places : List Float

abbrev pub stock : ℕ → ℕ → List ℕ → List ℕ → List Float → Stock
stock c x a b p = record { channels = c; crossings = x; ends = a; numbers = b; places = p }

-- these are a routing's channels and crossings
pub record Stocked (m : ℕ) (corners : List ℕ) (r : Routing) (s : Stock) : Type 0 where
  pub known : s.channels ≡ length r.channels
  pub made : s.crossings ≡ length r.crossings
  pub marked : Marked m corners r.channels s.ends
  pub channels : strided 3 0 0 s.crossings s.numbers ≡ map (λ (x : Crossing). x.channel) r.crossings
  pub branches : strided 3 1 0 s.crossings s.numbers ≡ map (λ (x : Crossing). x.branch) r.crossings
  pub placed : take s.crossings s.places ≡ map (λ (x : Crossing). x.fraction) r.crossings

-- a scene with this mesh and these places of its vertices
abbrev pub meshed : List ℕ → List ℕ → List Float → MeshScene → MeshScene
meshed corners twins points S =
    record {
      occupied = S.occupied;
      centres = points;
      boxes = S.boxes;
      scales = S.scales;
      clearance = S.clearance;
      corners = corners;
      twins = twins;
      lines = S.lines;
    }

-- From one stock to another in which every routing held before has become f of it, whatever the scene is besides its
-- mesh. The branches' numbers are as before.
pub record Grown (m : ℕ) (corners : List ℕ) (points : List Float)
    (f : MeshScene → Routing → Routing) (before behind : Stock) : Type 0 where
  pub beside : take (4 * m) behind.ends ≡ take (4 * m) before.ends
  pub grown : (S : MeshScene) (r : Routing) → Stocked m corners r before
      → Stocked m corners (f (meshed corners S.twins points S) r) behind

-- ---- branches

-- The vertices of a branch, by its kind and the occupied stations: of a line one more than its first vertex, and its
-- second; 0 and 0 of any other.
abbrev pub vertex_pair : ℕ → ℕ → LineVertices
vertex_pair a b = record { start = a; end = b }

unfoldable pub vertices_for : List ℕ → List ℕ → Kind → LineVertices
vertices_for sub occupied Undrawn = vertex_pair 0 0
vertices_for sub occupied (Open a b) = vertex_pair 0 0
vertices_for sub occupied (Internal a b) = vertex_pair 0 0
vertices_for sub occupied (Line a b) =
    vertex_pair (suc (vertex_of (station_of sub a) occupied)) (vertex_of (station_of sub b) occupied)

unfoldable pub line_vertices : List ℕ → List ℤ → List ℤ → List ℕ → List ℕ → ℕ → LineVertices
line_vertices sub from to service occupied e = vertices_for sub occupied (kind_of sub from to service e)

-- its walk
unfoldable pub walk_of : List ℕ → List ℕ → (ℕ → Point) → ℕ → ℕ → Walk
walk_of corners twins centre zero b = record { half_edges = []; kept = true }
walk_of corners twins centre (suc a) b = traced corners twins centre a b

-- the walk of branch e, whose vertices are the last two of four numbers
abbrev pub walk_at : List ℕ → List ℕ → List Float → List ℕ → ℕ → Walk
walk_at corners twins points ways e =
    walk_of corners twins (point_at points) (get_or ways (4 * e + 2) 0) (get_or ways (4 * e + 3) 0)

-- how many crossings the first e branches have
unfoldable pub crossings_to : List ℕ → List ℕ → List Float → List ℕ → ℕ → ℕ
crossings_to corners twins points ways zero = 0
crossings_to corners twins points ways (suc e) =
    crossings_to corners twins points ways e + length (walk_at corners twins points ways e).half_edges

-- branch e added by its vertices
unfoldable pub add_by_vertices : MeshScene → ℕ → ℕ → ℕ → Routing → Routing
add_by_vertices S e zero b r = add_branch S e None r
add_by_vertices S e (suc a) b r = add_walk S a b e (traced S.corners S.twins (centre_at S) a b) r

-- the first of a branch's crossings by its vertices, and how many of them its path keeps
unfoldable pub first_for : ℕ → ℕ → ℕ
first_for zero x = 0
first_for (suc a) x = x

unfoldable pub count_for : Walk → ℕ
count_for w = pick w.kept (length w.half_edges) 0

-- a list that never falls
pub record Rising (l : List ℕ) : Type 0 where
  pub each : (i j : ℕ) → i ≤ j → j < length l → get_or l i 0 ≤ get_or l j 0

-- the rows of m branches are as before
pub record SameRows (m : ℕ) (before behind : List ℕ) : Type 0 where
  pub from : from_rows_in m behind ≡ from_rows_in m before
  pub to : to_rows_in m behind ≡ to_rows_in m before

-- the ways of the first n branches are written, and the rows of m are as before
pub record HoldVertices (vertex_pair : ℕ → LineVertices) (m n : ℕ) (before behind : List ℕ) : Type 0 where
  pub rows : SameRows m before behind
  pub starts : (j : ℕ) → j < n → get_or behind (4 * j + 2) 0 ≡ (vertex_pair j).start
  pub ends : (j : ℕ) → j < n → get_or behind (4 * j + 3) 0 ≡ (vertex_pair j).end

-- ---- all branches

-- the mesh passes its test for some number of vertices
abbrev pub MeshPasses : List ℕ → List ℕ → Type 0
MeshPasses corners twins = (n : ℕ) × (mesh_ok corners twins n ≡ true)

-- the lines of a scene are those of these ways, the last two of four numbers for each of m branches
pub record Fits (corners twins : List ℕ) (points : List Float) (m : ℕ) (ways : List ℕ) (S : MeshScene) : Type 0 where
  pub each : (e : ℕ) → e < m → (r : Routing)
      → add_branch (meshed corners twins points S) e (get_or S.lines e None) r
      ≡ add_by_vertices (meshed corners twins points S) e (get_or ways (4 * e + 2) 0) (get_or ways (4 * e + 3) 0) r

-- Branch e stored, of vertices a and b: its path stands in its last two numbers, every routing held before has become
-- that with the branch, and the crossings are as many more as its walk has.
pub record Branched (m : ℕ) (corners twins : List ℕ)
    (points : List Float) (e a b : ℕ) (before behind : Stock) : Type 0 where
  pub path : take (4 * m) behind.ends
      ≡ set (set (take (4 * m) before.ends) (4 * e + 2) (first_for a before.crossings)) (4 * e + 3)
      (count_for (walk_of corners twins (point_at points) a b))
  pub made : behind.crossings ≡ before.crossings + length (walk_of corners twins (point_at points) a b).half_edges
  pub few : behind.channels ≤ behind.crossings
  pub grown : (S : MeshScene) (r : Routing) → Stocked m corners r before
      → Stocked m corners (add_by_vertices (meshed corners twins points S) e a b r) behind

-- The first e of m branches are stored as every scene with these lines is traced, and the rows are as before.
pub record Filled (m : ℕ) (corners twins : List ℕ)
    (points : List Float) (ways : List ℕ) (e : ℕ) (s : Stock) : Type 0 where
  pub rows : SameRows m ways s.ends
  pub made : s.crossings ≡ crossings_to corners twins points ways e
  pub held : (S : MeshScene) → Fits corners twins points m ways S
      → Stocked m corners (traced_to (meshed corners twins points S) e) s
  pub firsts : (S : MeshScene) → Fits corners twins points m ways S
      → strided 4 2 0 e s.ends ≡ map (λ (p : KeptCrossings). p.first)
      (traced_to (meshed corners twins points S) e).kept_crossings
  pub counts : (S : MeshScene) → Fits corners twins points m ways S
      → strided 4 3 0 e s.ends ≡ map (λ (p : KeptCrossings). p.count)
      (traced_to (meshed corners twins points S) e).kept_crossings

-- no half-edge is marked
pub record Unmarked (m : ℕ) (corners ends : List ℕ) : Type 0 where
  pub each : (h : ℕ) → h < length corners → get_or ends (4 * (m + h) + 1) 0 ≡ 0
