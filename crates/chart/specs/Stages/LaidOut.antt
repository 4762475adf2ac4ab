-- What the lent work lists hold of a drawing once its boxes stand. Definitions only.
use Rattle.std.specs.Prelude.{ℕ, ◌≡◌, List, map, length, Float}
use Rattle.network.specs.declared.options.Options.{Options}
use Rattle.network.specs.Words.{bus_counts, kinds}
use Rattle.network.specs.Views.{counts_in, from_rows_in, to_rows_in, points_in, boxes_in}
use Rattle.stations.specs.Stages.Views.{scales_in}
use Rattle.network.specs.Seed as Seed
use Rattle.stations.specs.Bar as Bars
use Rattle.stations.specs.Stages.Span.{spans_in}
use Rattle.stations.specs.declared.measures.Typical.{Typical}
use Rattle.placement.specs.Search.{HalfSides}
use Rattle.placement.specs.Stages.Plan.{Interiors}
use Rattle.placement.specs.Stages.Views.{half_sides_listed}
use Rattle.results.specs.Stages.Bars.{bars_in}
use Rattle.routing.specs.Stages.Views.{grid}
use Rattle.routing.specs.Stages.Exits.{Exited}
use Rattle.drawing.specs.Network.{Network, Work}
use Rattle.drawing.specs.Drawing.{measures_of, planned, straight_scene}

-- What is the same at every fill, in the lists: the stations' bus counts, the buses' columns and spans, the branches'
-- rows, the sizes and scales; and what the unit follows from.
pub record Prepared (o : Options) (N : Network) (k : ℕ) (typical : Typical)
    (stations buses ends : List ℕ) (blocks : List Float) : Type 0 where
  pub interiors : Interiors o N.station N.kv N.from N.to N.service N.xy k typical stations buses ends blocks
  pub spans :
      spans_in (length N.station) buses
      ≡ Bars.spans N.station (kinds N.station N.from N.to N.service) (from_rows_in (length N.from) ends)
      (to_rows_in (length N.from) ends)

abbrev pub PreparedIn : Options → Network → ℕ → Typical → Work → Type 0
PreparedIn o N k typical W = Prepared o N k typical W.stations W.buses W.ends W.blocks

-- The stations stand on their seeds.
abbrev pub SeededIn : Network → ℕ → Work → Type 0
SeededIn N k W = points_in k W.places ≡ Seed.seeds N.station N.xy

-- Every part of the plan is what results are written from: the unit, sizes and boxes, and the scene that runs are drawn
-- from.
pub record Holds (o : Options) (N : Network) (k : ℕ) (unit : Float)
    (buses ends : List ℕ) (blocks places frames : List Float) : Type 0 where
  pub counts : bus_counts N.station ≡ (planned o N).counts
  pub unit_is : unit ≡ (planned o N).unit
  pub scales : scales_in k blocks ≡ (planned o N).scales
  pub boxes : boxes_in k frames ≡ (planned o N).boxes
  pub bars : bars_in N.station (measures_of o unit) buses blocks frames ≡ (planned o N).bars
  pub scene :
      straight_scene
      N.station
      (kinds N.station N.from N.to N.service)
      (from_rows_in (length N.from) ends)
      (to_rows_in (length N.from) ends)
      o.block_options
      (map (λ (r : HalfSides). r.f) (half_sides_listed (measures_of o unit) k blocks))
      (boxes_in k frames)
      (points_in k places)
      (bars_in N.station (measures_of o unit) buses blocks frames)
      ≡ (planned o N).scene

-- The same with the stations' bus counts and every line's exits.
pub record LaidOut (o : Options) (N : Network) (k : ℕ) (unit : Float)
    (stations buses ends : List ℕ) (blocks places frames : List Float) : Type 0 where
  pub holds : Holds o N k unit buses ends blocks places frames
  pub counts : counts_in k stations ≡ bus_counts N.station
  pub exits : Exited (grid N.station N.from N.to N.service (measures_of o unit) ends blocks places frames)

-- The same of the work lists.
abbrev pub LaidIn : Options → Network → ℕ → Float → Work → Type 0
LaidIn o N k unit W = LaidOut o N k unit W.stations W.buses W.ends W.blocks W.places W.frames

-- What is the same at every fill is as it was: the stations' bus counts, the branches' rows, the buses' columns and
-- spans, the sizes and scales.
abbrev pub PreparedKept : Network → ℕ → Work → Work → Type 0
PreparedKept N k W V =
    (counts_in k W.stations ≡ counts_in k V.stations)
    × (from_rows_in (length N.from) W.ends ≡ from_rows_in (length N.from) V.ends)
    × (to_rows_in (length N.from) W.ends ≡ to_rows_in (length N.from) V.ends)
    × (W.buses ≡ V.buses)
    × (W.blocks ≡ V.blocks)
