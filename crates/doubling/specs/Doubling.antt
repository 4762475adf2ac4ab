-- Doubling (docs/RULES.md, 'Doubling'): what it asks of a network and its options, and what it says of two calls of
-- layout, one of them with every coordinate scaled by 2 ^ k (k = 1: doubled). Definitions only.
use Rattle.std.specs.Prelude.{◌≡◌, ◌⊎◌, true, false, ◌&&◌, List, map, ℕ, ◌+◌, ◌*◌, ◌≤◌, ◌<◌, T, length, get_or, take}
use Rattle.std.specs.Prelude.{drop, Float, Ok}
use Rattle.std.specs.Float.{nan, binary64}
use Rattle.std.specs.Float.Ieee.{fits, lt, le, eq, of_bits}
use Rattle.numbers.specs.Small.{abs_of, is_finite}
use Rattle.numbers.specs.Ops.{f0}
use Rattle.numbers.specs.Double.{scaled}
use Rattle.plane.specs.declared.geometry.Box.{Box}
use Rattle.network.specs.declared.options.BlockOptions.{BlockOptions}
use Rattle.network.specs.declared.options.Options.{Options}
use Rattle.network.specs.Words.{station_count, bus_counts, is_occupied}
use Rattle.network.specs.Seed.{seeds, place_at}
use Rattle.network.specs.Refusal.{above, number_of}
use Rattle.drawing.specs.declared.answer.Plot.{Plot}
use Rattle.drawing.specs.Network.{Network, Lists}
use Rattle.drawing.specs.Answer.{Call}

-- ---- what is asked

-- 2 ^ -500 and 1/64
abbrev pub least : Float
least = of_bits binary64 0x20B0_0000_0000_0000

abbrev pub sixty_fourth : Float
sixty_fourth = of_bits binary64 0x3F90_0000_0000_0000

-- Bus i has a map point: two finite coordinates. Without it the bus counts as (0, 0), whatever its coordinates are.
abbrev pub HasPoint : List Float → ℕ → Type 0
HasPoint xy i = (is_finite (get_or xy (2 * i) nan) ≡ true) × (is_finite (get_or xy (2 * i + 1) nan) ≡ true)

-- a coordinate that is 0 or at least 2 ^ -500 in size, and times 2 ^ k within 10 ^ 12
pub record Allowed (k : ℕ) (x : Float) : Type 0 where
  pub large : eq x f0 ≡ false → lt (abs_of x) least ≡ false
  pub near : above (scaled k x) ≡ false

-- each of the four block options
pub record EachBlockOption (P : Float → Type 0) (G : BlockOptions) : Type 0 where
  pub bar_gap : P G.bar_gap
  pub pad : P G.pad
  pub min_bar : P G.min_bar
  pub buffer : P G.buffer

-- the numbers of the options and of the map are numbers of the format, as in every call
pub record InFormat (O : Options) (N : Network) : Type 0 where
  pub fill : T (fits binary64 O.fill)
  pub radius : T (fits binary64 O.tier_radius)
  pub scale_1 : T (fits binary64 O.tier_scale_1)
  pub scale_2 : T (fits binary64 O.tier_scale_2)
  pub block_options : EachBlockOption (λ x. T (fits binary64 x)) O.block_options
  pub map : (i : ℕ) → T (fits binary64 (get_or N.xy i nan))

-- Nothing is asked of the other options, of the number of buses and branches, of voltages, of the mesh or of the lent
-- lists: what is refused is refused in both calls.
pub record Asked (k : ℕ) (O : Options) (N : Network) : Type 0 where
  pub held : InFormat O N
  pub iterations : O.route_iterations ≡ 0
  pub fill : le sixty_fourth O.fill ≡ true
  pub radius : (eq O.tier_radius f0 ≡ true) ⊎ (le sixty_fourth O.tier_radius ≡ true)
  pub points : (i : ℕ) → i < length N.station → HasPoint N.xy i
      → Allowed k (get_or N.xy (2 * i) nan) × Allowed k (get_or N.xy (2 * i + 1) nan)
  -- two occupied stations, s and t, on different seeds
  pub s : ℕ
  pub t : ℕ
  pub first : is_occupied (bus_counts N.station) s ≡ true
  pub second : is_occupied (bus_counts N.station) t ≡ true
  pub different :
      (eq (place_at (seeds N.station N.xy) t).x (place_at (seeds N.station N.xy) s).x ≡ false)
      ⊎ (eq (place_at (seeds N.station N.xy) t).y (place_at (seeds N.station N.xy) s).y ≡ false)

-- The second map is the first times 2 ^ k, for the first n buses: a bus with a map point has that point scaled, one
-- without has none.
pub record ScaledBus (k : ℕ) (xy xy' : List Float) (i : ℕ) : Type 0 where
  pub first : HasPoint xy i → get_or xy' (2 * i) nan ≡ scaled k (get_or xy (2 * i) nan)
  pub second : HasPoint xy i → get_or xy' (2 * i + 1) nan ≡ scaled k (get_or xy (2 * i + 1) nan)
  pub absent : is_finite (get_or xy (2 * i) nan) && is_finite (get_or xy (2 * i + 1) nan) ≡ false
      → is_finite (get_or xy' (2 * i) nan) && is_finite (get_or xy' (2 * i + 1) nan) ≡ false

abbrev pub ScaledMap : ℕ → ℕ → List Float → List Float → Type 0
ScaledMap k n xy xy' = (i : ℕ) → i < n → ScaledBus k xy xy' i

-- a network with other coordinates
abbrev pub with_map : Network → List Float → Network
with_map N xy' =
    record {
      station = N.station;
      kv = N.kv;
      from = N.from;
      to = N.to;
      service = N.service;
      xy = xy';
      corners = N.corners;
      twins = N.twins;
    }

-- ---- what is said

pub record ScaledBox (k : ℕ) (b b' : Box) : Type 0 where
  pub left : b'.left ≡ scaled k b.left
  pub top : b'.top ≡ scaled k b.top
  pub right : b'.right ≡ scaled k b.right
  pub bottom : b'.bottom ≡ scaled k b.bottom

-- A result list after each of two calls, of which the drawing fills the first n places: these numbers are scaled, and
-- what stands past them is what stood there before the call.
pub record ScaledList (k n : ℕ) (before l before' l' : List Float) : Type 0 where
  pub filled : n ≤ length l
  pub filled' : n ≤ length l'
  pub numbers : take n l' ≡ map (scaled k) (take n l)
  pub kept : drop n l ≡ drop n before
  pub kept' : drop n l' ≡ drop n before'

-- the same of a list whose numbers are equal
pub record SameList {A : Type 0} (n : ℕ) (before l before' l' : List A) : Type 0 where
  pub filled : n ≤ length l
  pub filled' : n ≤ length l'
  pub numbers : take n l' ≡ take n l
  pub kept : drop n l ≡ drop n before
  pub kept' : drop n l' ≡ drop n before'

-- Two drawings, p and p': of a call c that was lent the result lists L, and of a call c' that was lent L'.
pub record ScaledDrawing (k : ℕ) (N : Network) (L L' : Lists) (c c' : Call) (p p' : Plot) : Type 0 where
  pub unit : p'.unit ≡ scaled k p.unit
  pub bounds : ScaledBox k p.bounds p'.bounds
  pub piece_count : p'.pieces ≡ p.pieces
  pub positions : ScaledList k (2 * length N.station) L.positions c.lists.positions L'.positions c'.lists.positions
  pub bars : ScaledList k (4 * length N.station) L.bars c.lists.bars L'.bars c'.lists.bars
  pub boxes : ScaledList k (4 * station_count N.station) L.boxes c.lists.boxes L'.boxes c'.lists.boxes
  pub scales : SameList (station_count N.station) L.scales c.lists.scales L'.scales c'.lists.scales
  pub roles : SameList (length N.from) L.roles c.lists.roles L'.roles c'.lists.roles
  pub pieces : ScaledList k (4 * p.pieces) L.pieces c.lists.pieces L'.pieces c'.lists.pieces
  pub branches : SameList p.pieces L.branches c.lists.branches L'.branches c'.lists.branches

-- The same number answers both calls, and where it is 0 both are drawn, the second one scaled.
pub record ScaledCalls (k : ℕ) (N : Network) (L L' : Lists) (c c' : Call) : Type 0 where
  pub number : number_of c'.answer ≡ number_of c.answer
  pub drawn : (p : Plot) → c.answer ≡ Ok p → (p' : Plot) × (c'.answer ≡ Ok p') × ScaledDrawing k N L L' c c' p p'
