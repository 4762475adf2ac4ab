-- A drawing charted in the work lists. Definitions only.
use Rattle.std.specs.Prelude.{ℕ, ◌<◌, ◌≡◌, List, ltb, length, Float, Option, None, Result}
use Rattle.network.specs.declared.options.Options.{Options}
use Rattle.network.specs.declared.refusals.Refusal.{Refusal}
use Rattle.network.specs.Refusal.{unless}
use Rattle.network.specs.Words.{occupied}
use Rattle.network.specs.Views.{counts_in, boxes_in}
use Rattle.stations.specs.Stages.Views.{scales_in}
use Rattle.placement.specs.Sized.{ill_sized}
use Rattle.boxes.specs.Stages.Cells.{Indexed}
use Rattle.runs.specs.Stages.Views.{held, lead, Fits}
use Rattle.results.specs.Stages.Runs.{runs_in}
use Rattle.results.specs.Stages.Bars.{bars_in}
use Rattle.routing.specs.Clearance.{clearance_of}
use Rattle.drawing.specs.Network.{Network, Work, Crossings}
use Rattle.drawing.specs.Drawing.{measures_of, drawing}
use Rattle.drawing.specs.Answer.{routed_by}

-- The late refusal of a drawing up to its routes: 8, 9 or 10, where the crossing list holds so many.
unfoldable pub routed_late : Options → Network → ℕ → Option Refusal
routed_late o N room =
    routed_by
    (ill_sized (drawing o N).boxes (occupied (drawing o N).counts))
    (drawing o N).mesh_fits
    (length (drawing o N).crossings)
    room

-- The course is the drawing's unit, or what refuses it; the lists hold the drawing, with its routes where nothing
-- refuses it so far.
pub record Charted (o : Options) (N : Network) (k room : ℕ) (outcome : Result Float Refusal)
    (stations buses ends : List ℕ) (blocks places frames path ways : List Float) : Type 0 where
  pub course_is : outcome ≡ unless (routed_late o N room) (drawing o N).unit
  pub counts : counts_in k stations ≡ (drawing o N).counts
  pub scales : scales_in k blocks ≡ (drawing o N).scales
  pub boxes : boxes_in k frames ≡ (drawing o N).boxes
  pub bars : bars_in N.station (measures_of o (drawing o N).unit) buses blocks frames ≡ (drawing o N).bars
  pub runs : routed_late o N room ≡ None
      → runs_in
      (held N.station (measures_of o (drawing o N).unit) buses ends blocks places frames
      (lead (ltb 0 o.route_iterations) (clearance_of (drawing o N).unit) k stations ways))
      N.from
      N.to
      N.service
      ≡ (drawing o N).runs
  pub fits : routed_late o N room ≡ None → (e : ℕ) → e < length N.from → Fits ends path e

-- The same of the work and crossing lists.
abbrev pub ChartedIn : Options → Network → ℕ → ℕ → Result Float Refusal → Work → Crossings → Type 0
ChartedIn o N k room outcome W X =
    Charted o N k room outcome W.stations W.buses W.ends W.blocks W.places W.frames W.path X.ways

-- The boxes of the occupied stations, of k, are entered by cell.
abbrev pub IndexedIn : ℕ → Work → Type 0
IndexedIn k W = Indexed (boxes_in k W.frames) (occupied (counts_in k W.stations)) W.sorted
