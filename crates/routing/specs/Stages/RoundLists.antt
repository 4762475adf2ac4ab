-- What the rounds of spacing read from the lent lists, and what they make of it (docs/RULES.md, 'Wishes', 'Spacing on
-- a channel', 'Rounds and waypoints'). Definitions only.
use Rattle.std.specs.Prelude.{ℕ, zero, suc, ◌+◌, ◌-◌, ◌*◌, ◌≤◌, ◌<◌, ◌≡◌, true, cond, List, map, leb, ltb, length}
use Rattle.std.specs.Prelude.{get_or, take, set, Float}
use Rattle.std.specs.Float.{nan}
use Rattle.numbers.specs.Ops.{◌⊕◌, ◌⊖◌, ◌⊗◌}
use Rattle.numbers.specs.Table.{table}
use Rattle.plane.specs.declared.geometry.Point.{Point}
use Rattle.plane.specs.Plane.{point, point_at, box_at}
use Rattle.plane.specs.Cross.{param, fraction_or}
use Rattle.channels.specs.declared.channel.Channel.{Channel}
use Rattle.channels.specs.Channel.{channel_of}
use Rattle.channels.specs.Space.{wish_order, in_order, spaced, put_all}
use Rattle.network.specs.Mesh.{low_at, high_at, mesh_ok}
use Rattle.runs.specs.Stages.Views.{first_exit, second_exit}
use Rattle.routing.specs.Route.{routing}
use Rattle.routing.specs.Stages.Views.{TracedLists, scene_in, Stored}
use Rattle.routing.specs.Clearance.{clearance_of}
use Rattle.routing.specs.Stages.Exits.{Exited}
use Rattle.channels.specs.Stages.Grouped.{member_in, start_in}

-- ---- channels: four numbers each, behind those of the m branches

-- a half-edge of channel c
unfoldable pub half_edge_in : ℕ → List ℕ → ℕ → ℕ
half_edge_in m ends c = get_or ends (4 * (m + c) + 2) 0

-- the places of a half-edge's lower and higher vertex
unfoldable pub low_in : List ℕ → List Float → ℕ → Point
low_in corners centres h = point_at centres (low_at corners h)

unfoldable pub high_in : List ℕ → List Float → ℕ → Point
high_in corners centres h = point_at centres (high_at corners h)

-- the point t of the way from u to w
unfoldable pub between : Point → Point → Float → Point
between u w t = point (u.x ⊕ t ⊗ (w.x ⊖ u.x)) (u.y ⊕ t ⊗ (w.y ⊖ u.y))

-- the station of vertex v: a list of two numbers for each station has the occupied ones second
unfoldable pub station_in : List ℕ → ℕ → ℕ
station_in stations v = get_or stations (2 * v + 1) 0

-- the part where lines may cross the channel of half-edge h
unfoldable pub channel_between : Float → List Float → List Float → List ℕ → List Float → List ℕ → ℕ → Channel
channel_between unit blocks frames stations centres corners h =
    let s = station_in stations (low_at corners h) in
    let t = station_in stations (high_at corners h) in
    channel_of
    (low_in corners centres h)
    (high_in corners centres h)
    (box_at frames s)
    (box_at frames t)
    (get_or blocks (3 * s + 2) nan)
    (get_or blocks (3 * t + 2) nan)
    (clearance_of unit)

-- that of channel d where a list holds them, three numbers each, behind c points
unfoldable pub read_channel : ℕ → List Float → ℕ → Channel
read_channel c list d =
    record {
      lo = get_or list (2 * c + 3 * d) nan;
      hi = get_or list (2 * c + 3 * d + 1) nan;
      least_step = get_or list (2 * c + 3 * d + 2) nan;
    }

-- it is set there
abbrev pub put_channel : List Float → ℕ → ℕ → Channel → List Float
put_channel list c d r =
    set (set (set list (2 * c + 3 * d) r.lo) (2 * c + 3 * d + 1) r.hi) (2 * c + 3 * d + 2) r.least_step

-- the boxes of the two stations stand in their list
pub record Boxed (frames : List Float) (stations corners : List ℕ) (h : ℕ) : Type 0 where
  pub low : 4 * station_in stations (low_at corners h) + 4 ≤ length frames
  pub high : 4 * station_in stations (high_at corners h) + 4 ≤ length frames

-- so do they for a half-edge whose vertices are among the first c
pub record Cornered (frames : List Float) (stations corners : List ℕ) (c h : ℕ) : Type 0 where
  pub low : low_at corners h < c
  pub high : high_at corners h < c
  pub boxed : Boxed frames stations corners h

-- The list `behind` holds so many channels; the c points before them are as they were.
pub record Ranged (unit : Float) (blocks frames : List Float) (stations corners : List ℕ)
    (m : ℕ) (ends : List ℕ) (c channels : ℕ) (before behind : List Float) : Type 0 where
  pub kept : take (2 * c) behind ≡ take (2 * c) before
  pub ranges : (d : ℕ) → d < channels
      → read_channel c behind d ≡ channel_between unit blocks frames stations before corners (half_edge_in m ends d)

-- ---- crossings: three numbers each, its channel, its branch, and one of the crossings grouped by channel

-- where crossing x is, at these fractions
unfoldable pub point_in : ℕ → List ℕ → List Float → List ℕ → List ℕ → List Float → ℕ → Point
point_in m ends centres corners numbers ps x =
    let h = half_edge_in m ends (get_or numbers (3 * x) 0) in
    between (low_in corners centres h) (high_in corners centres h) (get_or ps x nan)

-- What stands still while crossings are spaced: the number of branches, and that of the points before the exits in
-- their list; the list of ends and routes, that of exits, that of the mesh's points, the mesh's vertices, and the
-- crossings' numbers.
pub record RoundLists : Type 0 where
  pub m : ℕ
  pub base : ℕ
  pub ends : List ℕ
  pub places : List Float
  pub centres : List Float
  pub corners : List ℕ
  pub numbers : List ℕ

abbrev pub held : ℕ → ℕ → List ℕ → List Float → List Float → List ℕ → List ℕ → RoundLists
held a b c d e f g = record { m = a; base = b; ends = c; places = d; centres = e; corners = f; numbers = g }

module _ (H : RoundLists) where
  abbrev pub edge_held : ℕ → ℕ
  edge_held c = half_edge_in H.m H.ends c

  abbrev pub start_held : ℕ → ℕ
  start_held c = start_in H.m H.ends c

  abbrev pub point_held : List Float → ℕ → Point
  point_held ps x = point_in H.m H.ends H.centres H.corners H.numbers ps x

  -- the points before and after crossing x of branch e, whose path's crossings are those from `first` on and before
  -- `past`
  unfoldable pub before_in : List Float → ℕ → ℕ → ℕ → Point
  before_in ps e first x = cond (leb x first) (first_exit H.base H.places e) (point_held ps (x - 1))

  unfoldable pub behind_in : List Float → ℕ → ℕ → ℕ → Point
  behind_in ps e past x = cond (leb past (x + 1)) (second_exit H.base H.places e) (point_held ps (x + 1))

  -- crossing x's wish
  unfoldable pub wish_in : List Float → ℕ → Float
  wish_in ps x =
      let e = get_or H.numbers (3 * x + 1) 0 in
      let first = get_or H.ends (4 * e + 2) 0 in
      let past = first + get_or H.ends (4 * e + 3) 0 in
      let h = edge_held (get_or H.numbers (3 * x) 0) in
      let t = get_or ps x nan in
      let u = low_in H.corners H.centres h in
      let w = high_in H.corners H.centres h in
      cond (ltb x past) (fraction_or (param (before_in ps e first x) (behind_in ps e past x) u w) t) t

-- each channel's crossings stand one after another in the first `most`
pub record Ready (H : RoundLists) (channels most : ℕ) : Type 0 where
  pub rising : (c : ℕ) → c < channels → start_held H c ≤ start_held H (c + 1)
  pub within : (c : ℕ) → c < channels → start_held H (c + 1) ≤ most

-- n crossings, `at` 0, 1, .., spaced by their wishes
unfoldable pub space_by : Channel → (ℕ → ℕ) → ℕ → (ℕ → Float) → List Float → List Float
space_by value at n wish ps =
    let ws = table (λ i. wish (at i)) n in
    let o = wish_order ws in
    put_all (map at o) (spaced value (in_order ws o)) ps

-- `occupied` points stand before the channels
module _ (occupied : ℕ) (H : RoundLists) where
  -- channel c's crossings spaced
  unfoldable pub space_in : ℕ → List Float → List Float
  space_in c ps =
      space_by
      (read_channel occupied H.centres c)
      (λ i. member_in H.numbers (start_held H c + i))
      (start_held H (c + 1) - start_held H c)
      (wish_in H ps)
      ps

  -- the first c channels spaced, one after another
  unfoldable pub spaced_in : ℕ → List Float → List Float
  spaced_in zero ps = ps
  spaced_in (suc c) ps = space_in c (spaced_in c ps)

  -- n rounds over so many channels
  unfoldable pub rounds_in : ℕ → ℕ → List Float → List Float
  rounds_in channels zero ps = ps
  rounds_in channels (suc n) ps = spaced_in channels (rounds_in channels n ps)

-- What the rounds begin with: a mesh that passes over c occupied stations of k, their boxes, every line's exits, and
-- the routing through them in the lists, with so many channels and crossings.
pub record Entered (G : TracedLists) (k c : ℕ) (stations : List ℕ) (centres : List Float)
    (corners twins numbers : List ℕ) (along : List Float) (channels crossings : ℕ) : Type 0 where
  pub mesh : mesh_ok corners twins c ≡ true
  pub exits : Exited G
  pub boxes : 4 * k ≤ length G.frames
  pub occupied : (v : ℕ) → v < c → station_in stations v < k
  pub channels_are : channels ≡ length (routing (scene_in G k c stations centres corners twins)).channels
  pub crossings_are : crossings ≡ length (routing (scene_in G k c stations centres corners twins)).crossings
  pub stored : Stored (length G.from) corners
      (routing (scene_in G k c stations centres corners twins)) G.ends numbers along
