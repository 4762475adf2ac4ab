-- The result lists after a call that draws: each begins with the drawing's numbers, and behind them it is as it was lent. Assumes nothing.
use mathlib.Core.Path.{◌≡◌, refl}
use mathlib.Core.List.{List, ◌++◌, map}
use lib.ListN.{length, drop}
use Rattle.stations.specs.declared.bars.Bar.{Bar}
use Rattle.stations.specs.Bar.{position}
use Rattle.runs.specs.Run.{Piece}
use Rattle.runs.specs.Lists.{flat, point_numbers, box_numbers, bar_numbers, piece_numbers, after}
use Rattle.std.specs.Prelude.{None}
use Rattle.numbers.specs.Over.{over}
use Rattle.drawing.specs.Network.{Lists}
use Rattle.drawing.specs.Drawing.{Drawing}
use Rattle.drawing.specs.Answer.{lists_of, lists_after}

-- `new` at the front of a list that was `old`
abbrev pub Leads : {A : Type 0} → List A → List A → List A → Type 0
Leads new old l = l ≡ new ++ drop (length new) old

-- the lists l of a drawing d, lent as L: two numbers of each bus's position, four of each bar, four of each box, the scales, the roles, four numbers of each piece and its branch
pub record Written (d : Drawing) (L l : Lists) : Type 0 where
  pub positions : Leads (flat (λ (b : Bar). point_numbers (position b)) d.bars) L.positions l.positions
  pub bars : Leads (flat bar_numbers d.bars) L.bars l.bars
  pub boxes : Leads (flat box_numbers d.boxes) L.boxes l.boxes
  pub scales : Leads d.scales L.scales l.scales
  pub roles : Leads d.roles L.roles l.roles
  pub pieces : Leads (flat piece_numbers d.pieces) L.pieces l.pieces
  pub branches : Leads (map (λ (p : Piece). p.branch) d.pieces) L.branches l.branches

pub lists_written : (d : Drawing) (L : Lists) → Written d L (lists_after None (lists_of d) L)
unfolding lists_after lists_of after over
lists_written d L = record { positions = refl; bars = refl; boxes = refl; scales = refl; roles = refl; pieces = refl; branches = refl }
