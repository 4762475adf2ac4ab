-- A drawing laid out in the work lists, from what its stages leave.
-- Assumes nothing.
use Prim.Native.Nat.{ℕ, ◌≤◌, ◌<◌}
use native.Mathlib.Omega.{arith}
use mathlib.Core.Path.{◌≡◌, sym, ap, ◌∙◌, subst}
use mathlib.Core.List.{List, map}
use lib.ListN.{length}
use lib.Ieee.{Float}
use mir.ValLaws.{to_z-of_z}
use Rattle.numbers.proofs.order.Tables.{table_ext}
use Rattle.plane.specs.declared.geometry.Point.{Point}
use Rattle.plane.specs.Plane.{point_at}
use Rattle.network.specs.declared.options.Options.{Options}
use Rattle.network.specs.Options.{search_of}
use Rattle.network.specs.Words.{station_of, station_count, kinds}
use Rattle.network.proofs.Stations.{station_below}
use Rattle.network.specs.Seed as Seed
use Rattle.network.specs.Views.{counts_in, columns_in, from_rows_in, to_rows_in, points_in, boxes_in}
use Rattle.placement.specs.Search.{HalfSides}
use Rattle.placement.specs.Stages.Views.{half_sides_listed}
use Rattle.placement.specs.Stages.Plan.{Interiors, Settled}
use Rattle.stations.specs.Unit.{unit_for}
use Rattle.stations.specs.declared.measures.Typical.{Typical}
use Rattle.stations.specs.Bar as Bars
use Rattle.stations.specs.Stages.Span.{spans_in}
use Rattle.results.specs.Stages.Bars.{bars_in}
use Rattle.routing.specs.Stages.Views.{grid}
use Rattle.routing.specs.Stages.Exits.{Exited}
use Rattle.drawing.specs.Network.{Network}
use Rattle.drawing.specs.Drawing.{measures_of, planned, straight_scene}
use Rattle.chart.specs.Stages.LaidOut.{Holds, LaidOut, Prepared}
use Rattle.chart.proofs.Scenes.{settled_held}

-- a bus's station is below their number
pub below_of : (sub : List ℕ) (k : ℕ) → k ≡ station_count sub → (i : ℕ) → i < length sub → station_of sub i < k
below_of sub k e = subst (λ (z : ℕ). (i : ℕ) → i < length sub → station_of sub i < z) (sym e) (station_below sub)

-- the places of more stations than there are may change
points_same : (k n : ℕ) (l l' : List Float) → k ≤ n → ((s : ℕ) → s < n → point_at l' s ≡ point_at l s) → points_in k l' ≡ points_in k l
unfolding points_in
points_same k n l l' few same = table_ext (point_at l') (point_at l) k (λ s h. same s (omega arith))

holds_placed : (o : Options) (N : Network) (k : ℕ) (unit : Float) (buses ends : List ℕ) (blocks places places₂ frames : List Float)
    → k ≤ length N.station → ((s : ℕ) → s < length N.station → point_at places₂ s ≡ point_at places s)
    → Holds o N k unit buses ends blocks places frames → Holds o N k unit buses ends blocks places₂ frames
holds_placed o N k unit buses ends blocks places places₂ frames few same H =
    record {
      counts = H.counts;
      unit_is = H.unit_is;
      scales = H.scales;
      boxes = H.boxes;
      bars = H.bars;
      scene =
          ap
          (λ (ps : List Point).
          straight_scene N.station (kinds N.station N.from N.to N.service) (from_rows_in (length N.from) ends) (to_rows_in (length N.from) ends) o.block_options
          (map (λ (r : HalfSides). r.f) (half_sides_listed (measures_of o unit) k blocks)) (boxes_in k frames) ps (bars_in N.station (measures_of o unit) buses blocks frames))
          (points_same k (length N.station) places places₂ few same)
          ∙ H.scene;
    }

-- a bus's station is below the number of buses
pub station_few : (sub : List ℕ) (k i : ℕ) → k ≡ station_count sub → k ≤ length sub → i < length sub → station_of sub i < length sub
station_few sub k i e few h = let z = below_of sub k e i h in omega arith

-- an option's spans, by the rows that the lists hold
pub prepared_joined : (o : Options) (N : Network) (k : ℕ) (typical : Typical) (stations buses₁ buses ends : List ℕ) (blocks : List Float)
    → Interiors o N.station N.kv N.from N.to N.service N.xy k typical stations buses₁ ends blocks
    → columns_in (length N.station) buses ≡ columns_in (length N.station) buses₁
    → spans_in (length N.station) buses
    ≡ Bars.spans N.station (kinds N.station N.from N.to N.service) (from_rows_in (length N.from) ends) (to_rows_in (length N.from) ends)
    → Prepared o N k typical stations buses ends blocks
prepared_joined o N k typical stations buses₁ buses ends blocks I c p =
    record {
      interiors = record {
        counts = I.counts;
        columns = c ∙ I.columns;
        from_rows = I.from_rows;
        to_rows = I.to_rows;
        sizes = I.sizes;
        scales = I.scales;
        spacing = I.spacing;
        side = I.side;
      };
      spans = p;
    }

-- only the bus counts of the lists change
pub prepared_counted : (o : Options) (N : Network) (k : ℕ) (typical : Typical) (stations stations₂ buses ends ends₂ : List ℕ) (blocks : List Float)
    → counts_in k stations₂ ≡ counts_in k stations
    → from_rows_in (length N.from) ends₂ ≡ from_rows_in (length N.from) ends
    → to_rows_in (length N.from) ends₂ ≡ to_rows_in (length N.from) ends
    → Prepared o N k typical stations buses ends blocks → Prepared o N k typical stations₂ buses ends₂ blocks
prepared_counted o N k typical stations stations₂ buses ends ends₂ blocks c f t P =
    let I = P.interiors in
    record {
      interiors = record {
        counts = c ∙ I.counts;
        columns = I.columns;
        from_rows = f ∙ I.from_rows;
        to_rows = t ∙ I.to_rows;
        sizes = I.sizes;
        scales = I.scales;
        spacing = I.spacing;
        side = I.side;
      };
      spans = P.spans ∙ cc (f, t);
    }

pub laid_joined : (o : Options) (N : Network) (k : ℕ) (typical : Typical) (unit : Float) (search : ℕ) (stations₁ stations buses ends : List ℕ) (places₁ blocks places places₂ frames : List Float)
    → k ≡ station_count N.station
    → k ≤ length N.station
    → Prepared o N k typical stations₁ buses ends blocks
    → points_in k places₁ ≡ Seed.seeds N.station N.xy
    → unit ≡ unit_for o.fill typical.spacing typical.side
    → search ≡ search_of o.search
    → Settled N.station N.kv k (measures_of o unit) search blocks (points_in k places₁) stations places frames
    → ((s : ℕ) → s < length N.station → point_at places₂ s ≡ point_at places s)
    → Exited (grid N.station N.from N.to N.service (measures_of o unit) ends blocks places₂ frames)
    → LaidOut o N k unit stations buses ends blocks places₂ frames
unfolding planned
laid_joined o N k typical unit search stations₁ stations buses ends places₁ blocks places places₂ frames e few P sd u s T same E =
    let below : (i : ℕ) → i < length N.station → station_of N.station i < k =
    subst (λ (z : ℕ). (i : ℕ) → i < length N.station → station_of N.station i < z) (sym e) (station_below N.station) in
    let H : Holds o N k unit buses ends blocks places frames =
    settled_held o N k typical unit search stations₁ stations buses ends places₁ blocks places frames below P sd u s T in
    record {
      holds = holds_placed o N k unit buses ends blocks places places₂ frames few same H;
      exits = E;
      counts = T.counts;
    }

-- an option's search as the code reads it
pub ruleset search_laws = to_z-of_z
