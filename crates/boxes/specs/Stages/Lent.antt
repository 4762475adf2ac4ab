-- What the structs that lend stations and their boxes hold. Definitions only.
use Rattle.std.specs.Prelude.{ℕ, ◌≡◌, true, List}
use Rattle.plane.specs.declared.geometry.Box.{Box}
use Rattle.plane.specs.Plane.{box_in}
use Rattle.plane.specs.Stages.Window.{finite_box}
use Rattle.numbers.specs.Lists.{All}
use Rattle.network.specs.declared.lists.Placed.{Placed}
use Rattle.network.specs.Words.{occupied}
use Rattle.network.specs.Views.{counts_in, boxes_in}

-- the boxes of all stations
abbrev pub boxes_of : Placed → List Box
boxes_of P = boxes_in P.k P.frames.now

-- the stations that have buses, in order
abbrev pub occupied_of : Placed → List ℕ
occupied_of P = occupied (counts_in P.k P.stations.now)

-- all sides of the occupied stations' boxes are finite
abbrev pub FiniteBoxes : Placed → Type 0
FiniteBoxes P = All (λ s. finite_box (box_in (boxes_of P) s) ≡ true) (occupied_of P)
