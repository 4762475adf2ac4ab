-- `route_lines`: the channels that lines cross, the crossings, the rounds of spacing, and a line's waypoints
-- (docs/RULES.md, 'Channels', 'Crossings', 'Wishes', 'Spacing on a channel', 'Rounds and waypoints'). Definitions only.
use Rattle.std.specs.Prelude.{ℕ, zero, suc, ◌+◌, ◌-◌, Bool, true, false, cond, ◌&&◌, List, [], ◌∷◌, ◌++◌, map, ltb, eqb}
use Rattle.std.specs.Prelude.{length, get_or, Float}
use Rattle.std.specs.Prelude.{Option, Some, None}
use Rattle.std.specs.Float.{nan, binary64}
use Rattle.std.specs.Float.Ieee.{of_bits}
use Rattle.numbers.specs.Ops.{◌⊕◌, ◌⊖◌, ◌⊗◌}
use Rattle.numbers.specs.Order.{up_from, keep}
use Rattle.plane.specs.declared.geometry.Point.{Point}
use Rattle.plane.specs.declared.geometry.Box.{Box}
use Rattle.plane.specs.Plane.{point, point_at, box_in}
use Rattle.plane.specs.Cross.{param, fraction_or}
use Rattle.channels.specs.declared.channel.Channel.{Channel}
use Rattle.channels.specs.Channel.{channel_of}
use Rattle.channels.specs.Space.{wish_order, in_order, spaced, put_all}
use Rattle.network.specs.Mesh.{low_at, high_at}
use Rattle.channels.specs.Trace.{Walk, traced}

-- 1/2, the fraction of a crossing where the line is parallel to its channel
abbrev pub half : Float
half = of_bits binary64 0x3FE0_0000_0000_0000

-- A line to route: its two stations, and its exits from their boxes.
pub record RoutedLine : Type 0 where
  pub sa : ℕ
  pub sb : ℕ
  pub exit0 : Point
  pub exit1 : Point

-- What lines are routed through: vertex v of the mesh is the occupied station number v, whose place has the numbers
-- 2 v and 2 v + 1 of `centres`. A branch is a line or none.
pub record MeshScene : Type 0 where
  pub occupied : List ℕ
  pub centres : List Float
  pub boxes : List Box
  pub scales : List Float
  pub clearance : Float
  pub corners : List ℕ
  pub twins : List ℕ
  pub lines : List (Option RoutedLine)

-- the number of a station among the occupied ones (`vertex_of`)
unfoldable pub vertex_of : ℕ → List ℕ → ℕ
vertex_of s [] = 0
vertex_of s (x ∷ xs) = cond (eqb x s) 0 (suc (vertex_of s xs))

-- A channel, keyed by its two vertices, the lower first: two half-edges that aren't twins may share one.
pub record Keyed : Type 0 where
  pub low : ℕ
  pub high : ℕ
  pub channel : Channel

abbrev pub no_channel : Keyed
no_channel = record { low = 0; high = 0; channel = record { lo = nan; hi = nan; least_step = nan } }

-- A crossing: its channel, its branch, its number on that line, and its fraction on the channel, from 0 at the lower
-- vertex to 1.
pub record Crossing : Type 0 where
  pub channel : ℕ
  pub branch : ℕ
  pub on_line : ℕ
  pub fraction : Float

abbrev pub no_crossing : Crossing
no_crossing = record { channel = 0; branch = 0; on_line = 0; fraction = nan }

-- The kept crossings of a branch: their numbers are first, first + 1, .., count of them. A cleared walk has none.
pub record KeptCrossings : Type 0 where
  pub first : ℕ
  pub count : ℕ

abbrev pub no_kept_crossings : KeptCrossings
no_kept_crossings = record { first = 0; count = 0 }

-- Channels in the order of their first crossing, crossings in the order of their making, those kept of each branch.
pub record Routing : Type 0 where
  pub channels : List Keyed
  pub crossings : List Crossing
  pub kept_crossings : List KeptCrossings

abbrev pub no_routing : Routing
no_routing = record { channels = []; crossings = []; kept_crossings = [] }

-- the number of the channel between a and b, or that of the next new channel
unfoldable pub number_of : ℕ → ℕ → List Keyed → ℕ
number_of a b [] = 0
number_of a b (k ∷ ks) = cond (eqb k.low a && eqb k.high b) 0 (suc (number_of a b ks))

module _ (S : MeshScene) where
  abbrev pub station_at : ℕ → ℕ
  station_at v = get_or S.occupied v 0

  abbrev pub centre_at : ℕ → Point
  centre_at v = point_at S.centres v

  -- the channel between vertices a and b
  unfoldable pub make_channel : ℕ → ℕ → Keyed
  make_channel a b =
      record {
        low = a;
        high = b;
        channel =
            channel_of
            (centre_at a)
            (centre_at b)
            (box_in S.boxes (station_at a))
            (box_in S.boxes (station_at b))
            (get_or S.scales (station_at a) nan)
            (get_or S.scales (station_at b) nan)
            S.clearance;
      }

  -- the channels with one between a and b, made where there is none yet
  unfoldable pub with_channel : ℕ → ℕ → List Keyed → List Keyed
  with_channel a b ks = cond (ltb (number_of a b ks) (length ks)) ks (ks ++ (make_channel a b ∷ []))

  -- the crossing of branch e, from vertex va to vertex vb, with half-edge h, as its number k
  unfoldable pub crossing_of : ℕ → ℕ → ℕ → ℕ → ℕ → List Keyed → Crossing
  crossing_of va vb e k h ks =
      let a = low_at S.corners h in
      let b = high_at S.corners h in
      record {
        channel = number_of a b ks;
        branch = e;
        on_line = k;
        fraction = fraction_or (param (centre_at va) (centre_at vb) (centre_at a) (centre_at b)) half;
      }

  -- one crossing more
  unfoldable pub cross : ℕ → ℕ → ℕ → ℕ → ℕ → Routing → Routing
  cross va vb e k h r =
      record {
        channels = with_channel (low_at S.corners h) (high_at S.corners h) r.channels;
        crossings = r.crossings ++ (crossing_of va vb e k h r.channels ∷ []);
        kept_crossings = r.kept_crossings;
      }

  -- it crosses these half-edges, the first as its number k
  unfoldable pub cross_all : ℕ → ℕ → ℕ → ℕ → List ℕ → Routing → Routing
  cross_all va vb e k [] r = r
  cross_all va vb e k (h ∷ hs) r = cross_all va vb e (suc k) hs (cross va vb e k h r)

  -- the crossings of a walk, and its path
  unfoldable pub add_walk : ℕ → ℕ → ℕ → Walk → Routing → Routing
  add_walk va vb e w r =
      let made = cross_all va vb e 0 w.half_edges r in
      record {
        channels = made.channels;
        crossings = made.crossings;
        kept_crossings = r.kept_crossings
            ++ (record { first = length r.crossings; count = cond w.kept (length w.half_edges) 0 } ∷ []);
      }

  -- branch e added: the walk of a line, no path for any other
  unfoldable pub add_branch : ℕ → Option RoutedLine → Routing → Routing
  add_branch e None r = record {
    channels = r.channels;
    crossings = r.crossings;
    kept_crossings = r.kept_crossings
        ++ (no_kept_crossings ∷ []);
  }
  add_branch e (Some l) r =
      let va = vertex_of l.sa S.occupied in
      let vb = vertex_of l.sb S.occupied in
      add_walk va vb e (traced S.corners S.twins centre_at va vb) r

  -- the first e branches traced
  unfoldable pub traced_to : ℕ → Routing
  traced_to zero = no_routing
  traced_to (suc e) = add_branch e (get_or S.lines e None) (traced_to e)

  -- all branches traced; refusal 10 compares the number of crossings with the lent crossing list
  unfoldable pub routing : Routing
  routing = traced_to (length S.lines)

  -- what is known of the lines
  module _ (r : Routing) where
    abbrev pub crossing_at : ℕ → Crossing
    crossing_at x = get_or r.crossings x no_crossing

    abbrev pub channel_at : ℕ → Keyed
    channel_at c = get_or r.channels c no_channel

    abbrev pub kept_crossings_at : ℕ → KeptCrossings
    kept_crossings_at e = get_or r.kept_crossings e no_kept_crossings

    -- the point t of the way along channel c
    unfoldable pub point_on : ℕ → Float → Point
    point_on c t =
        let u = centre_at (channel_at c).low in
        let w = centre_at (channel_at c).high in
        point (u.x ⊕ t ⊗ (w.x ⊖ u.x)) (u.y ⊕ t ⊗ (w.y ⊖ u.y))

    -- where crossing x is, at these fractions of the crossings
    unfoldable pub point_of : List Float → ℕ → Point
    point_of ps x = point_on (crossing_at x).channel (get_or ps x nan)

    -- the numbers of channel c's crossings, rising
    unfoldable pub members : ℕ → List ℕ
    members c = keep (λ x. eqb (crossing_at x).channel c) (up_from 0 (length r.crossings))

    -- an exit of a line: the first or the second
    unfoldable pub exit_of : Bool → Option RoutedLine → Point
    exit_of second None = point nan nan
    exit_of false (Some l) = l.exit0
    exit_of true (Some l) = l.exit1

    -- Crossing x's wish: where the line through the points before and after it on its path crosses the channel; its
    -- fraction where the two are parallel. A cleared walk's crossing wishes for its fraction.
    unfoldable pub wish : List Float → ℕ → Float
    wish ps x =
        let c = crossing_at x in
        let l = get_or S.lines c.branch None in
        let n = (kept_crossings_at c.branch).count in
        let before = cond (eqb c.on_line 0) (exit_of false l) (point_of ps (x - 1)) in
        let behind = cond (eqb (suc c.on_line) n) (exit_of true l) (point_of ps (suc x)) in
        let k = channel_at c.channel in
        cond
        (ltb c.on_line n)
        (fraction_or (param before behind (centre_at k.low) (centre_at k.high)) (get_or ps x nan))
        (get_or ps x nan)

    -- channel c's crossings spaced: all its wishes are taken before any fraction changes
    unfoldable pub space_one : ℕ → List Float → List Float
    space_one c ps =
        let ms = members c in
        let ws = map (wish ps) ms in
        let o = wish_order ws in
        put_all (map (λ j. get_or ms j 0) o) (spaced (channel_at c).channel (in_order ws o)) ps

    -- the first c channels spaced, one after another
    unfoldable pub spaced_to : ℕ → List Float → List Float
    spaced_to zero ps = ps
    spaced_to (suc c) ps = space_one c (spaced_to c ps)

    -- the fractions after n rounds
    unfoldable pub rounds_to : ℕ → List Float
    rounds_to zero = map (λ (x : Crossing). x.fraction) r.crossings
    rounds_to (suc n) = spaced_to (length r.channels) (rounds_to n)

    -- the waypoints of branch e at these fractions
    unfoldable pub waypoints : List Float → ℕ → List Point
    waypoints ps e = map (point_of ps) (up_from (kept_crossings_at e).first (kept_crossings_at e).count)
