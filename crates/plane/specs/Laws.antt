-- What the clip test and the tested part of cells must be. The functions of `plane::laws` promise it. Definitions only.
use Rattle.std.specs.Prelude.{◌≡◌, ℕ, cond, Float, Option, Some, None, is_some}
use Rattle.plane.specs.declared.geometry.Point.{Point}
use Rattle.plane.specs.declared.geometry.Box.{Box}
use Rattle.plane.specs.Clip.{hits}
use Rattle.plane.specs.Entry.{enters, entry_of}
use Rattle.plane.specs.Stages.Cells.{in_tested_part, near}

-- a box is entered just where the clip test hits it
abbrev pub EntersWhatItHits : Type 0
EntersWhatItHits = (p q : Point) (b : Box) → hits p q b ≡ is_some (enters p q b)

-- at the largest of 0 and, in each direction that the piece moves in, (edge first met − start) / (end − start)
abbrev pub EntersAtEntry : Type 0
EntersAtEntry = (p q : Point) (b : Box) → enters p q b ≡ cond (hits p q b) (Some (entry_of p q b)) None

-- the tested part over signed cells is the one over the cells as they are stored
abbrev pub TestedPartAsStored : Type 0
TestedPartAsStored = (unit : Float) (most : ℕ) (p q : Box) → in_tested_part unit most p q ≡ near unit most p q
