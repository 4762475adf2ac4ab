-- One claim about a whole drawing: what holds of the lists that layout left, and of every audit of them
-- (docs/RULES.md, 'One claim about a whole drawing').
-- Definitions only.
use Rattle.std.specs.Prelude.{ℕ, ◌+◌, ◌-◌, ◌*◌, ◌^◌, ◌≤◌, ◌<◌, ◌≡◌, ◌⊎◌, ◌≢◌, Bool, true, false, cond, ◌&&◌, ◌||◌, List}
use Rattle.std.specs.Prelude.{[], ◌∷◌, ◌++◌, map, T, eqb, leb, ltb, ℤ, pos, negsuc, length, get_or, take, Float, Ok}
use Rattle.std.specs.Prelude.{Option, Some, None}
use Rattle.std.specs.Float.{binary64, nan}
use Rattle.std.specs.Float.Ieee.{eq, lt, le, to_bits}
use Rattle.numbers.specs.Small.{max_of}
use Rattle.numbers.specs.Ops.{num, f½, f1, f2, ◌⊕◌, ◌⊖◌, ◌⊗◌, ◌⊘◌}
use Rattle.numbers.specs.TotalOrder as Total
use Rattle.numbers.specs.Order.{pick}
use Rattle.numbers.specs.Table.{table, how_many, joined}
use Rattle.plane.specs.declared.geometry.Point.{Point}
use Rattle.plane.specs.declared.geometry.Box.{Box}
use Rattle.plane.specs.Plane.{point, point_at, box_at}
use Rattle.network.specs.Mesh.{low_at, high_at}
use Rattle.channels.specs.Trace.{Walk, traced}
use Rattle.network.specs.declared.options.Options.{Options}
use Rattle.network.specs.Options.{search_of}
use Rattle.network.specs.declared.words.Kind.{Kind}
use Rattle.network.specs.declared.words.Kind.TheVariants.{Undrawn, Open, Internal, Line}
use Rattle.network.specs.Words.{station_of, station_count, buses_in, bus_counts, occupied, kind_of, kinds}
use Rattle.network.specs.Seed.{sum_to, mean, seeds, place_at}
use Rattle.stations.specs.Row.{rows_in, row}
use Rattle.stations.specs.Size.{Size, sizes}
use Rattle.stations.specs.Unit.{coordinates, spacing, typical, unit_for}
use Rattle.stations.specs.Scale.{scales}
use Rattle.offsets.specs.declared.offset.Offset.{Offset}
use Rattle.offsets.specs.Complete.{Complete}
use Rattle.offsets.specs.Offset.{offsets}
use Rattle.placement.specs.Search.{HalfSides, box_on, buffered, free, tries, FirstOf}
use Rattle.placement.specs.Turns.{placement_order}
use Rattle.boxes.specs.Detour.{detour}
use Rattle.runs.specs.Run.{Piece}
use Rattle.routing.specs.Route as Route
use Rattle.routing.specs.Clearance.{clearance_of}
use Rattle.routing.specs.Routes.{crossings_of}
use Rattle.audit.specs.Relative.{piece_start, piece_end}
use Rattle.drawing.specs.declared.answer.Plot.{Plot}
use Rattle.drawing.specs.Network.{Network, Lists}
use Rattle.audit.specs.declared.findings.answer.Figures.{Figures}
use Rattle.audit.specs.Drawn as Audit
use Rattle.audit.specs.Answer.{audit_of}

-- ---- kinds of branches (docs/RULES.md, 'Branches and stations')

-- Branch e leads from bus a to bus b: both are known, from 0 to n − 1, and they differ.
abbrev pub Joins : Network → ℕ → ℕ → ℕ → Type 0
Joins N e a b =
    (get_or N.from e (negsuc 0) ≡ pos a) × (a < length N.station) × (get_or N.to e (negsuc 0) ≡ pos b)
    × (b < length N.station) × (a ≢ b)

-- Its service flag is 0; it is live where that isn't so, an absent flag included.
abbrev pub FlagIs0 : Network → ℕ → Type 0
FlagIs0 N e = (e < length N.service) × (get_or N.service e 0 ≡ 0)

abbrev pub IsLive : Network → ℕ → Type 0
IsLive N e = e < length N.service → get_or N.service e 0 ≢ 0

-- what branch e is: open, internal or a line, from bus to bus, or undrawn
abbrev pub kind : Network → ℕ → Kind
kind N e = kind_of N.station N.from N.to N.service e

abbrev pub all_kinds : Network → List Kind
all_kinds N = kinds N.station N.from N.to N.service

-- Roles: 0 line, 1 internal, 2 open or undrawn.
unfoldable pub role_of : Kind → ℕ
role_of Undrawn = 2
role_of (Open a b) = 2
role_of (Internal a b) = 1
role_of (Line a b) = 0

pub record Kinds (N : Network) (L : Lists) : Type 0 where
  -- Between two known, different buses a branch whose flag is 0 is open;
  pub opened : (e a b : ℕ) → Joins N e a b → FlagIs0 N e → kind N e ≡ Open a b
  -- a live one is internal if one station has both,
  pub internal : (e a b : ℕ) → Joins N e a b → IsLive N e → station_of N.station a ≡ station_of N.station b
      → kind N e ≡ Internal a b
  -- else a line.
  pub line : (e a b : ℕ) → Joins N e a b → IsLive N e → station_of N.station a ≢ station_of N.station b
      → kind N e ≡ Line a b
  -- Any other branch is undrawn.
  pub other : (e : ℕ) → ((a b : ℕ) → Joins N e a b → ⊥) → kind N e ≡ Undrawn
  -- The list of roles says so.
  pub roles : (e : ℕ) → e < length N.from → get_or L.roles e 3 ≡ role_of (kind N e)

-- ---- rows (docs/RULES.md, 'Rows')

-- the seed of station s, and the pattern of its y
abbrev pub seed : Network → ℕ → Point
seed N s = place_at (seeds N.station N.xy) s

abbrev pub seed_bits : Network → ℕ → ℕ
seed_bits N s = to_bits binary64 (seed N s).y

-- Branch e is a live one inside station s.
abbrev pub Inside : Network → ℕ → ℕ → Type 0
Inside N s e = (a : ℕ) × (b : ℕ) × (kind N e ≡ Internal a b) × (station_of N.station a ≡ s)

-- Branch e is a live line with one end in station s and the other in station t.
abbrev pub LineEnd : Network → ℕ → ℕ → ℕ → Type 0
LineEnd N s t e =
    (a : ℕ) × (b : ℕ) × (kind N e ≡ Line a b)
    × (((station_of N.station a ≡ s) × (station_of N.station b ≡ t))
    ⊎ ((station_of N.station b ≡ s) × (station_of N.station a ≡ t)))

-- These have a row in station s, and no other branch has.
abbrev pub HasRow : Network → ℕ → ℕ → Type 0
HasRow N s e = (e < length N.from) × (Inside N s e ⊎ ((t : ℕ) × LineEnd N s t e))

-- Branch d stands before branch e in station s: live branches inside it first, by branch number; then live line ends,
-- by the other station's seed y in totalOrder, then branch number.
abbrev pub StandsBefore : Network → ℕ → ℕ → ℕ → Type 0
StandsBefore N s d e =
    (Inside N s d × Inside N s e × (d < e))
    ⊎ ((Inside N s d × ((u : ℕ) × LineEnd N s u e))
    ⊎ ((t : ℕ) × (u : ℕ) × LineEnd N s t d × LineEnd N s u e
    × (T (Total.before (seed_bits N t) (seed_bits N u)) ⊎ ((seed_bits N t ≡ seed_bits N u) × (d < e)))))

-- how many rows station s has, and the number of branch e's row there
abbrev pub row_count : Network → ℕ → ℕ
row_count N s = rows_in N.station (all_kinds N) s

abbrev pub row_number : Network → ℕ → ℕ → ℕ
row_number N s e = row N.station (seeds N.station N.xy) (all_kinds N) s e

pub record Rows (N : Network) (s : ℕ) : Type 0 where
  -- In each station rows count up from 0 without a gap, one for each branch that has one there.
  pub below : (e : ℕ) → HasRow N s e → row_number N s e < row_count N s
  pub differ : (d e : ℕ) → HasRow N s d → HasRow N s e → row_number N s d ≡ row_number N s e → d ≡ e
  pub fill : (r : ℕ) → r < row_count N s → (e : ℕ) × HasRow N s e × (row_number N s e ≡ r)
  -- The lower of two rows is that of the branch which stands before the other.
  pub order : (d e : ℕ) → HasRow N s d → HasRow N s e
      → (row_number N s d < row_number N s e → StandsBefore N s d e)
      × (StandsBefore N s d e → row_number N s d < row_number N s e)

-- ---- seeds, unit and scales (docs/RULES.md, 'Seeds', 'Spacing and unit' and 'Scales')

abbrev pub all_seeds : Network → List Point
all_seeds N = seeds N.station N.xy

abbrev pub all_sizes : Options → Network → List Size
all_sizes o N = sizes o.block_options N.station (all_kinds N) (bus_counts N.station)

abbrev pub spacing_of : Network → Float
spacing_of N = spacing (all_seeds N) (bus_counts N.station)

pub record Units (o : Options) (N : Network) (L : Lists) (p : Plot) : Type 0 where
  -- A station's seed is the mean of its bus points, summed in bus order (docs/RULES.md, 'Seeds').
  pub seeds : (s : ℕ) → s < station_count N.station
      → seed N s ≡ mean (buses_in N.station s) (sum_to N.station N.xy s (length N.station))
  -- The unit is fill × spacing / typical (docs/RULES.md, 'Spacing and unit').
  pub unit : p.unit ≡ unit_for o.fill (spacing_of N) (typical (all_sizes o N) (bus_counts N.station))
  -- Each station's scale is that of its tier (docs/RULES.md, 'Scales').
  pub scale : (s : ℕ) → s < station_count N.station
      → get_or L.scales s nan ≡ get_or (scales o (all_seeds N) (bus_counts N.station) (spacing_of N)) s f1

-- ---- boxes (docs/RULES.md, 'Order of placement' and 'Free places')

-- A bus carries the number s.
abbrev pub Occupied : Network → ℕ → Type 0
Occupied N s = (i : ℕ) × (i < length N.station) × (station_of N.station i ≡ s)

-- `kv` holds bit patterns of 64 bits.
abbrev pub Patterns : Network → Type 0
Patterns N = (i : ℕ) → get_or N.kv i 0 < 2 ^ 64

-- v is the top `kv` of station s: that of one of its buses, and before none of theirs in totalOrder.
abbrev pub Top : Network → ℕ → ℕ → Type 0
Top N s v =
    (i : ℕ) × (i < length N.station) × (station_of N.station i ≡ s) × (get_or N.kv i 0 ≡ v)
    × ((j : ℕ) → j < length N.station → station_of N.station j ≡ s → Total.before v (get_or N.kv j 0) ≡ false)

-- Station s of top `kv` v is placed before station t of top `kv` w: by top `kv` falling, bus count falling, number.
abbrev pub PlacedBefore : Network → ℕ → ℕ → ℕ → ℕ → Type 0
PlacedBefore N s v t w =
    T (Total.before w v)
    ⊎ ((v ≡ w) × ((buses_in N.station t < buses_in N.station s)
    ⊎ ((buses_in N.station s ≡ buses_in N.station t) × (s < t))))

-- the occupied stations in the order of their placement, and the i-th
abbrev pub order : Network → List ℕ
order N = placement_order N.station N.kv (bus_counts N.station)

abbrev pub turn : Network → ℕ → ℕ
turn N i = get_or (order N) i 0

pub record Turns (N : Network) : Type 0 where
  -- Every occupied station has its turn, no other station has one, and none has two.
  pub every : (s : ℕ) → Occupied N s → (i : ℕ) × (i < length (order N)) × (turn N i ≡ s)
  pub only : (i : ℕ) → i < length (order N) → Occupied N (turn N i)
  pub once : (i j : ℕ) → i < length (order N) → j < length (order N) → turn N i ≡ turn N j → i ≡ j
  -- It has a top `kv`,
  pub top : Patterns N → (s : ℕ) → Occupied N s → (v : ℕ) × Top N s v
  -- and the earlier of two turns is that of the station which is placed before the other.
  pub by : Patterns N → (i j : ℕ) → i < length (order N) → j < length (order N) → (v w : ℕ) → Top N (turn N i) v
      → Top N (turn N j) w
      → (i < j → PlacedBefore N (turn N i) v (turn N j) w) × (PlacedBefore N (turn N i) v (turn N j) w → i < j)

-- the offsets of a drawing's search
abbrev pub searched : Options → List Offset
searched o = offsets (search_of o.search)

-- what station s's interior is drawn in: half its sides, bar gap × (buses − 1) + 2 × padding and max(rows, shortest
-- bar) + 2 × padding blocks, its block, unit × scale, and its buffer
unfoldable pub half_sides_in : Options → Network → Plot → Lists → ℕ → HalfSides
half_sides_in o N p L s =
    let f = p.unit ⊗ get_or L.scales s nan in
    let w = o.block_options.bar_gap ⊗ num (buses_in N.station s - 1) ⊕ f2 ⊗ o.block_options.pad in
    let h = max_of (num (row_count N s)) o.block_options.min_bar ⊕ f2 ⊗ o.block_options.pad in
    record { half = record { w = w ⊗ f ⊘ f2; h = h ⊗ f ⊘ f2 }; f = f; buffer = o.block_options.buffer }

-- the boxes of the stations placed before the i-th
abbrev pub earlier : Network → Lists → ℕ → List Box
earlier N L i = map (box_at L.boxes) (take i (order N))

-- At c the i-th station's box with its buffer strictly overlaps no earlier box.
abbrev pub is_free : Options → Network → Lists → Plot → ℕ → Point → Bool
is_free o N L p i c = free (buffered c (half_sides_in o N p L (get_or (order N) i 0))) (earlier N L i)

pub record Boxes (o : Options) (N : Network) (L : Lists) (p : Plot) : Type 0 where
  -- the stations' places
  pub places : ℕ → Point
  -- The four numbers of an occupied station's box are those of its box centred at its place.
  pub stands : (s : ℕ) → Occupied N s → box_at L.boxes s ≡ box_on (places s) (half_sides_in o N p L s).half
  -- Stations are placed one after another, in this order.
  pub turns : Turns N
  -- Offsets are those within the search, each once, in their order.
  pub offsets : Complete (search_of o.search) (searched o)
  -- The i-th station's place is the first free one of the search, or its seed if none is free.
  pub first : (i : ℕ) → i < length (order N)
      → FirstOf (is_free o N L p i) (tries (seed N (turn N i)) (half_sides_in o N p L (turn N i)).half (searched o))
      (seed N (turn N i)) (places (turn N i))

-- ---- bars (docs/RULES.md, 'Columns' and 'Bars and row ends')

-- A bus's column is how many buses of its station stand before it: their `kv` is above its own in totalOrder, or the
-- same and their number lower.
abbrev pub column_of : Network → ℕ → ℕ
column_of N i =
    how_many
    (λ j.
    eqb (station_of N.station j) (station_of N.station i)
    && (Total.before (get_or N.kv i 0) (get_or N.kv j 0) || (eqb (get_or N.kv j 0) (get_or N.kv i 0) && ltb j i)))
    (length N.station)

-- Bus i has row r: a live branch of it has that row in its station.
abbrev pub RowAt : Network → ℕ → ℕ → Type 0
RowAt N i r =
    (e : ℕ) × (e < length N.from) × (a : ℕ) × (b : ℕ) × ((kind N e ≡ Internal a b) ⊎ (kind N e ≡ Line a b))
    × ((a ≡ i) ⊎ (b ≡ i))
    × (r ≡ row_number N (station_of N.station i) e)

-- the block of station s: f = unit × scale
abbrev pub block_in : Plot → Lists → ℕ → Float
block_in p L s = p.unit ⊗ get_or L.scales s nan

-- A bar's x is left + (padding + bar gap × column) × f.
abbrev pub bar_x_in : Options → Network → Plot → Lists → ℕ → Float
bar_x_in o N p L i =
    let s = station_of N.station i in
    (box_at L.boxes s).left ⊕ (o.block_options.pad ⊕ o.block_options.bar_gap ⊗ num (column_of N i)) ⊗ block_in p L s

-- A row's y is top + (padding + row + 0.5) × f.
abbrev pub row_y_in : Options → Plot → Lists → ℕ → ℕ → Float
row_y_in o p L s r = (box_at L.boxes s).top ⊕ (o.block_options.pad ⊕ num r ⊕ f½) ⊗ block_in p L s

-- the four numbers of a bar at x from y0 to y1: if shorter than shortest bar × f it gets that length about its middle
unfoldable pub bar_from : Options → Float → Float → Float → Float → List Float
bar_from o f x y0 y1 =
    let m = (y0 ⊕ y1) ⊘ f2 in
    let least = o.block_options.min_bar ⊗ f in
    pick (lt (y1 ⊖ y0) least) (x ∷ (m ⊖ least ⊘ f2) ∷ x ∷ (m ⊕ least ⊘ f2) ∷ []) (x ∷ y0 ∷ x ∷ y1 ∷ [])

-- those of bus i in the list of bars, and its two in the list of positions
abbrev pub bar_in : Lists → ℕ → List Float
bar_in L i = get_or L.bars (4 * i) nan ∷ get_or L.bars (4 * i + 1) nan ∷ get_or L.bars (4 * i + 2) nan
    ∷ get_or L.bars (4 * i + 3) nan ∷ []

abbrev pub position_in : Lists → ℕ → Point
position_in L i = point_at L.positions i

pub record Bars (o : Options) (N : Network) (L : Lists) (p : Plot) : Type 0 where
  -- A bar without rows runs from top + padding × f to top + (padding + shortest bar) × f.
  pub bare : Patterns N → (i : ℕ) → i < length N.station → ((r : ℕ) → RowAt N i r → ⊥)
      → bar_in L i
      ≡ bar_from o (block_in p L (station_of N.station i)) (bar_x_in o N p L i)
      ((box_at L.boxes (station_of N.station i)).top ⊕ o.block_options.pad ⊗ block_in p L (station_of N.station i))
      ((box_at L.boxes (station_of N.station i)).top
      ⊕ (o.block_options.pad ⊕ o.block_options.min_bar) ⊗ block_in p L (station_of N.station i))
  -- Another runs from its first row's y − 0.5 × f to its last row's y + 0.5 × f.
  pub spanned : Patterns N → (i a b : ℕ) → i < length N.station → RowAt N i a → RowAt N i b
      → ((r : ℕ) → RowAt N i r → (a ≤ r) × (r ≤ b))
      → bar_in L i
      ≡ bar_from o (block_in p L (station_of N.station i)) (bar_x_in o N p L i)
      (row_y_in o p L (station_of N.station i) a ⊖ f½ ⊗ block_in p L (station_of N.station i))
      (row_y_in o p L (station_of N.station i) b ⊕ f½ ⊗ block_in p L (station_of N.station i))
  -- `positions` holds its x and middle.
  pub positions : (i : ℕ) → i < length N.station
      → position_in L i ≡ point (get_or L.bars (4 * i) nan)
      ((get_or L.bars (4 * i + 1) nan ⊕ get_or L.bars (4 * i + 3) nan) ⊘ f2)

-- ---- routes (docs/RULES.md, 'Exits' to 'Detour')

-- A row end of bus i has its bar's x and its row's y.
unfoldable pub row_end_in : Options → Network → Plot → Lists → ℕ → ℕ → Point
row_end_in o N p L i r = point (get_or L.bars (4 * i) nan) (row_y_in o p L (station_of N.station i) r)

-- that of branch e
abbrev pub end_in : Options → Network → Plot → Lists → ℕ → ℕ → Point
end_in o N p L e i = row_end_in o N p L i (row_number N (station_of N.station i) e)

-- The exit of station s towards station t, at the height y: on the box's right side if t's place isn't left of its own,
-- else on its left side.
abbrev pub exit_in : Lists → (ℕ → Point) → ℕ → ℕ → Float → Point
exit_in L places s t y = point (pick (le (places s).x (places t).x) (box_at L.boxes s).right (box_at L.boxes s).left) y

-- the exit of a branch's end at bus i towards the station of bus j
abbrev pub exit_at : Options → Network → Plot → Lists → (ℕ → Point) → ℕ → ℕ → ℕ → Point
exit_at o N p L places e i j = exit_in L places (station_of N.station i) (station_of N.station j) (end_in o N p L e i).y

-- what is routed of branch e: a line's stations and exits
unfoldable pub line_of : Options → Network → Plot → Lists → (ℕ → Point) → ℕ → Kind → Option Route.RoutedLine
line_of o N p L places e Undrawn = None
line_of o N p L places e (Open a b) = None
line_of o N p L places e (Internal a b) = None
line_of o N p L places e (Line a b) =
    Some
    (record {
      sa = station_of N.station a;
      sb = station_of N.station b;
      exit0 = exit_at o N p L places e a b;
      exit1 = exit_at o N p L places e b a;
    })

-- the boxes of all stations, and the occupied ones' numbers
abbrev pub box_list : Network → Lists → List Box
box_list N L = table (box_at L.boxes) (station_count N.station)

abbrev pub stations : Network → List ℕ
stations N = occupied (bus_counts N.station)

-- The mesh is looked at with three occupied stations or more and at least one iteration.
abbrev pub if_used : Options → Network → List ℕ → List ℕ
if_used o N l = pick (leb 3 (length (stations N)) && ltb 0 o.route_iterations) l []

-- what `route_lines` is handed: vertex v of the mesh is the occupied station number v
unfoldable pub routed_in : Options → Network → Plot → Lists → (ℕ → Point) → Route.MeshScene
routed_in o N p L places =
    record {
      occupied = stations N;
      centres = coordinates (table places (station_count N.station)) (stations N);
      boxes = box_list N L;
      scales = table (λ s. get_or L.scales s nan) (station_count N.station);
      clearance = clearance_of p.unit;
      corners = if_used o N N.corners;
      twins = if_used o N N.twins;
      lines = table (λ e. line_of o N p L places e (kind N e)) (length N.from);
    }

-- A line from station s to station t crosses the mesh edges that `route_lines` walks over (crate `channels`, specs
-- Trace).
abbrev pub walk_of : Route.MeshScene → ℕ → ℕ → Walk
walk_of R s t =
    traced R.corners R.twins (λ v. point_at R.centres v) (Route.vertex_of s R.occupied) (Route.vertex_of t R.occupied)

-- the point t of the way from the place of half-edge h's lower vertex to that of its higher vertex
abbrev pub point_on : Route.MeshScene → ℕ → Float → Point
point_on R h t =
    let u = point_at R.centres (low_at R.corners h) in
    let w = point_at R.centres (high_at R.corners h) in
    point (u.x ⊕ t ⊗ (w.x ⊖ u.x)) (u.y ⊕ t ⊗ (w.y ⊖ u.y))

-- The crossings of branch e, a line from station s to station t: a point on each mesh edge that its walk crosses, in
-- the walk's order, at the place where the iterations of spacing leave that crossing (crate `routing`, specs Routes;
-- crossings are numbered by branch and then in the walk's order). A cleared walk has none.
unfoldable pub crossing_points : Route.MeshScene → ℕ → ℕ → ℕ → ℕ → List Point
crossing_points R iterations e s t =
    let w = walk_of R s t in
    let before = length (Route.traced_to R e).crossings in
    table (λ k. point_on R (get_or w.half_edges k 0) (get_or (crossings_of R iterations) (before + k) nan))
    (cond w.kept (length w.half_edges) 0)

-- A path from station s to station t with the points that `detour` inserts (crate `boxes`, specs Detour), where there
-- are iterations.
abbrev pub detoured : Options → Network → Plot → Lists → ℕ → ℕ → List Point → List Point
detoured o N p L s t path =
    cond
    (ltb 0 o.route_iterations)
    (detour (box_list N L) (stations N) (clearance_of p.unit) s t path)
    path

-- ---- runs (docs/RULES.md, 'Runs, pieces, roles and bounds')

-- piece j: its branch, where it starts and where it ends; the first n pieces of the two lists
abbrev pub piece_in : Lists → ℕ → Piece
piece_in L j = record { branch = get_or L.branches j 0; start = piece_start L.pieces j; end = piece_end L.pieces j }

unfoldable pub pieces_in : Lists → ℕ → List Piece
pieces_in L n = table (piece_in L) n

-- Two points are equal as numbers.
unfoldable pub coincide : Point → Point → Bool
coincide p q = eq p.x q.x && eq p.y q.y

-- the pieces of branch e that join these points in their order: none between two points that coincide
unfoldable pub joining : ℕ → List Point → List Piece
joining e [] = []
joining e (p ∷ []) = []
joining e (p ∷ (q ∷ ps)) =
    let rest = joining e (q ∷ ps) in
    pick (coincide p q) rest (record { branch = e; start = p; end = q } ∷ rest)

-- Pieces lead unbroken from a to b: the first starts at a, each next where the one before ended, and the last ends at
-- b.
unfoldable pub Leads : Point → List Piece → Point → Type 0
Leads a [] b = T (coincide a b)
Leads a (p ∷ ps) b = T (coincide a p.start) × Leads p.end ps b

-- the last of p and the points after it
unfoldable pub last_of : Point → List Point → Point
last_of p [] = p
last_of p (q ∷ qs) = last_of q qs

unfoldable pub Unbroken : List Piece → List Point → Type 0
Unbroken run [] = run ≡ []
Unbroken run (p ∷ ps) = Leads p run (last_of p ps)

-- all of these points coincide with p
unfoldable pub AllAt : Point → List Point → Type 0
AllAt p [] = Unit {0}
AllAt p (q ∷ qs) = T (coincide p q) × AllAt p qs

unfoldable pub OnePoint : List Point → Type 0
OnePoint [] = Unit {0}
OnePoint (p ∷ ps) = AllAt p ps

-- The points of branch e's run: an open branch runs between the buses' `positions`, an internal one between its row
-- ends; an undrawn one has no point.
-- A line runs from its from bus's row end by that station's exit, its crossings and the other station's exit, with the
-- detour's points, to its to bus's row end.
unfoldable pub points_by : Options → Network → Plot → Lists → (ℕ → Point) → ℕ → Kind → List Point
points_by o N p L places e Undrawn = []
points_by o N p L places e (Open a b) = position_in L a ∷ position_in L b ∷ []
points_by o N p L places e (Internal a b) = end_in o N p L e a ∷ end_in o N p L e b ∷ []
points_by o N p L places e (Line a b) =
    let s = station_of N.station a in
    let t = station_of N.station b in
    let crossings = crossing_points (routed_in o N p L places) o.route_iterations e s t in
    let path = exit_at o N p L places e a b ∷ (crossings ++ (exit_at o N p L places e b a ∷ [])) in
    end_in o N p L e a ∷ (detoured o N p L s t path ++ (end_in o N p L e b ∷ []))

abbrev pub points_of : Options → Network → Plot → Lists → (ℕ → Point) → ℕ → List Point
points_of o N p L places e = points_by o N p L places e (kind N e)

-- its pieces, where it is a line or where it is none
abbrev pub branch_pieces : Options → Network → Plot → Lists → (ℕ → Point) → ℕ → List Piece
branch_pieces o N p L places e = joining e (points_of o N p L places e)

abbrev pub line_pieces : Options → Network → Plot → Lists → (ℕ → Point) → ℕ → List Piece
line_pieces o N p L places e = pick (eqb (role_of (kind N e)) 0) (branch_pieces o N p L places e) []

abbrev pub other_pieces : Options → Network → Plot → Lists → (ℕ → Point) → ℕ → List Piece
other_pieces o N p L places e = pick (eqb (role_of (kind N e)) 0) [] (branch_pieces o N p L places e)

pub record Runs (o : Options) (N : Network) (L : Lists) (p : Plot) (places : ℕ → Point) : Type 0 where
  -- The piece list is one run for each open or internal branch by branch number, then one for each line by branch
  -- number, and nothing else.
  pub listed : pieces_in L p.pieces ≡ joined (other_pieces o N p L places) (length N.from)
      ++ joined (line_pieces o N p L places) (length N.from)
  -- The pieces of a run lead from its first point to its last, each from where the one before ended.
  pub unbroken : (e : ℕ) → e < length N.from → Unbroken (branch_pieces o N p L places e) (points_of o N p L places e)
  -- It is absent only if all its points coincide.
  pub absent : (e : ℕ) → e < length N.from → branch_pieces o N p L places e ≡ [] → OnePoint (points_of o N p L places e)
  -- Vertex v of the mesh is at the place of the occupied station number v.
  pub corners : (v : ℕ) → v < length (stations N)
      → point_at (routed_in o N p L places).centres v ≡ places (get_or (stations N) v 0)
  -- Every piece is one of a branch between two known, different buses: no other branch has a piece.
  pub named : (j : ℕ) → j < p.pieces → ((piece_in L j).branch < length N.from) × (a : ℕ) × (b : ℕ)
      × Joins N (piece_in L j).branch a b

-- ---- the audit

-- a drawing as it is handed to an audit, with its network: the parts of the lists that layout filled, so many pieces
unfoldable pub audit_parts : List ℕ → List ℕ → List ℤ → List ℤ → List Float → List Float → List ℕ → List Float → List ℕ
    → ℕ → Audit.Drawn
audit_parts sub kv from to xy boxes roles pieces branches count =
    Audit.drawn sub kv from to xy (take (4 * station_count sub) boxes) (take (length from) roles)
    (take (4 * count) pieces) (take count branches)

unfoldable pub audited : Network → Lists → ℕ → Audit.Drawn
audited N L count =
    audit_parts N.station N.kv N.from N.to N.xy L.boxes L.roles L.pieces L.branches count

-- ---- the claim

pub record Wall (o : Options) (N : Network) (L : Lists) (p : Plot) : Type 0 where
  pub kinds : Kinds N L
  pub rows : (s : ℕ) → Rows N s
  pub units : Units o N L p
  pub boxes : Boxes o N L p
  pub bars : Bars o N L p
  pub runs : Runs o N L p boxes.places
  -- If every station found a free place, every audit that accepts the drawing, whatever lists are lent to it, counts 0
  -- overlaps.
  pub audit : ((i : ℕ) → i < length (order N) → is_free o N L p i (boxes.places (get_or (order N) i 0)) ≡ true)
      → (A : Audit.Lists) (W : Audit.Work) (f : Figures) → (audit_of (audited N L p.pieces) A W).answer ≡ Ok f
      → f.overlaps ≡ 0
