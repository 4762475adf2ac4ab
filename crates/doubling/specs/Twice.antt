-- One doubling: two lists of coordinates, the second one's doubled, and two drawings, the second one's lengths doubled.
-- Definitions only.
use Rattle.std.specs.Prelude.{◌≡◌, true, false, ◌&&◌, List, map, ℕ, ◌+◌, ◌*◌, length, get_or, Float}
use Rattle.std.specs.Float.{nan}
use Rattle.numbers.specs.Small.{is_finite}
use Rattle.numbers.specs.Double.{twice}
use Rattle.plane.specs.declared.geometry.Box.{Box}
use Rattle.drawing.specs.declared.lengths.ListLengths.{ListLengths}
use Rattle.drawing.specs.Drawing.{Drawing}
use Rattle.drawing.specs.Answer.{late, lists_of}

-- the coordinates of bus i
pub record DoubledBus (xy xy' : List Float) (i : ℕ) : Type 0 where
  pub first : is_finite (get_or xy (2 * i) nan) ≡ true → is_finite (get_or xy (2 * i + 1) nan) ≡ true
      → get_or xy' (2 * i) nan ≡ twice (get_or xy (2 * i) nan)
  pub second : is_finite (get_or xy (2 * i) nan) ≡ true → is_finite (get_or xy (2 * i + 1) nan) ≡ true
      → get_or xy' (2 * i + 1) nan ≡ twice (get_or xy (2 * i + 1) nan)
  pub absent : is_finite (get_or xy (2 * i) nan) && is_finite (get_or xy (2 * i + 1) nan) ≡ false
      → is_finite (get_or xy' (2 * i) nan) && is_finite (get_or xy' (2 * i + 1) nan) ≡ false

abbrev pub DoubledMap : List Float → List Float → Type 0
DoubledMap xy xy' = (i : ℕ) → DoubledBus xy xy' i

pub record TwiceBox (b b' : Box) : Type 0 where
  pub left : b'.left ≡ twice b.left
  pub top : b'.top ≡ twice b.top
  pub right : b'.right ≡ twice b.right
  pub bottom : b'.bottom ≡ twice b.bottom

-- what is the same in two drawings, and what is doubled
pub record Twice (d d' : Drawing) : Type 0 where
  pub late_same : (R : ListLengths) → late d' R ≡ late d R
  pub unit : d'.unit ≡ twice d.unit
  pub bounds : TwiceBox d.bounds d'.bounds
  pub piece_count : length d'.pieces ≡ length d.pieces
  pub positions : (lists_of d').positions ≡ map twice (lists_of d).positions
  pub bars : (lists_of d').bars ≡ map twice (lists_of d).bars
  pub boxes : (lists_of d').boxes ≡ map twice (lists_of d).boxes
  pub scales : (lists_of d').scales ≡ (lists_of d).scales
  pub roles : (lists_of d').roles ≡ (lists_of d).roles
  pub pieces : (lists_of d').pieces ≡ map twice (lists_of d).pieces
  pub branches : (lists_of d').branches ≡ (lists_of d).branches
