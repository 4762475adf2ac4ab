-- A drawing with work lists that the call holds itself. Definitions only.
use Rattle.std.specs.Prelude.{ℕ, ◌≡◌, List, replicate, Float, Result}
use Rattle.numbers.specs.Ops.{f0}
use Rattle.network.specs.declared.options.Options.{Options}
use Rattle.network.specs.declared.refusals.Refusal.{Refusal}
use Rattle.drawing.specs.declared.answer.Plot.{Plot}
use Rattle.drawing.specs.Network.{Network, Lists, Work, Crossings, crossings}
use Rattle.drawing.specs.Answer.{Call, layout_of}

abbrev pub zero_numbers : ℕ → List ℕ
zero_numbers n = replicate n 0

abbrev pub zeros : ℕ → List Float
zeros n = replicate n f0

-- the work lists, the first with room for so many numbers, the others long enough for 64 buses and 64 branches, or
-- fewer and a mesh
abbrev pub work_lists : ℕ → Work
work_lists stations =
    record {
      stations = zero_numbers stations;
      buses = zero_numbers 192;
      ends = zero_numbers 320;
      sorted = zero_numbers 320;
      spare = zero_numbers 192;
      keys = zero_numbers 192;
      places = zeros 384;
      blocks = zeros 192;
      frames = zeros 256;
      path = zeros 232;
    }

-- a crossing list for so many crossings
abbrev pub crossing_lists : ℕ → Crossings
crossing_lists room = crossings (zero_numbers 384) (zeros room) (zeros 256)

unfoldable pub held_call : Options → Network → Lists → ℕ → ℕ → Call
held_call o N L stations room = layout_of o N L (work_lists stations) (crossing_lists room)

-- what it answers, and the result lists after it
pub record SmallCall (o : Options) (N : Network) (L : Lists) (stations room : ℕ) (a : Result Plot Refusal)
    (L' : Lists) : Type 0 where
  pub answer_is : a ≡ (held_call o N L stations room).answer
  pub lists_are : L' ≡ (held_call o N L stations room).lists
