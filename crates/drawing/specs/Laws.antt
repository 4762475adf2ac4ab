-- What every drawing must be. The functions of `drawing::laws` promise it. Definitions only.
use Rattle.std.specs.Prelude.{◌≡◌, ℕ, ◌+◌, ◌*◌, ◌^◌, ◌≤◌, ◌<◌, true, false, [], None, length, get_or}
use Rattle.std.specs.Float.{nan}
use Rattle.numbers.specs.Size.{Within, AtMost}
use Rattle.plane.specs.Plane.{box_in}
use Rattle.network.specs.declared.options.Options.{Options}
use Rattle.network.specs.Options.{in_range}
use Rattle.network.specs.Refusal.{too_far}
use Rattle.network.specs.Seed.{place_at}
use Rattle.stations.specs.Unit.{spacing}
use Rattle.stations.specs.Bar.{bar_at, position}
use Rattle.boxes.specs.Laws.{PointAtMost, BoxAtMost}
use Rattle.drawing.specs.declared.lengths.ListLengths.{ListLengths}
use Rattle.drawing.specs.Network.{Network}
use Rattle.drawing.specs.Drawing.{Drawing, drawing}
use Rattle.drawing.specs.Answer.{early, all_finite}

-- Where neither the input is refused nor the mesh, all numbers of the drawing are finite.
abbrev pub NoLostNumbers : Type 0
NoLostNumbers =
    (O : Options) (N : Network) (R : ListLengths) → None ≡ early O N R → (drawing O N).mesh_fits ≡ true
    → all_finite (drawing O N) ≡ true

-- every seed of a drawing is finite and within 10 ^ 12 either way
abbrev pub SeedsWithin : Drawing → Type 0
SeedsWithin d = (s : ℕ) → s < length d.seeds → Within (1 * 10 ^ 12) 1 (place_at d.seeds s).x × Within (1 * 10 ^ 12) 1 (place_at d.seeds s).y

-- The same of each drawing with such seeds, whatever they come from.
abbrev pub FiniteBySeeds : Type 0
FiniteBySeeds = (O : Options) (N : Network) → in_range O ≡ true → length N.station ≤ 4096 → length N.from ≤ 8192 → SeedsWithin (drawing O N) → (drawing O N).mesh_fits ≡ true → all_finite (drawing O N) ≡ true

-- Refusal 6 keeps each seed so near.
abbrev pub SeedsAreNear : Type 0
SeedsAreNear =
    (O : Options) (N : Network) → length N.station ≤ 4096 → too_far (length N.station) N.xy ≡ false → SeedsWithin (drawing O N)

-- How large each number of a drawing is at most (docs/RULES.md, 'No lost numbers').
pub record Sized (d : Drawing) : Type 0 where
  pub seeds : SeedsWithin d
  pub between_seeds : AtMost (1074 + 42) (spacing d.seeds d.counts)
  pub unit : AtMost (1074 + 46) d.unit
  pub places : (s : ℕ) → PointAtMost (1074 + 69) (place_at d.places s)
  pub boxes : (s : ℕ) → BoxAtMost (1074 + 70) (box_in d.boxes s)
  pub bar_x : (i : ℕ) → AtMost (1074 + 73) (bar_at d.bars i).x
  pub bar_ends : (i : ℕ) → AtMost (1074 + 73) (bar_at d.bars i).y0 × AtMost (1074 + 73) (bar_at d.bars i).y1
  pub positions : (i : ℕ) → PointAtMost (1074 + 73) (position (bar_at d.bars i))
  pub crossings : (x : ℕ) → x < length d.crossings → AtMost (1074 + 32) (get_or d.crossings x nan)
  pub points : (e i : ℕ) → i < length (get_or d.runs e []) → PointAtMost (1074 + 110) (place_at (get_or d.runs e []) i)

-- So large are those of every drawing whose input and mesh aren't refused.
abbrev pub NumbersAreSized : Type 0
NumbersAreSized =
    (O : Options) (N : Network) (R : ListLengths) → None ≡ early O N R → (drawing O N).mesh_fits ≡ true
    → Sized (drawing O N)
