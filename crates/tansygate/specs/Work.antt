-- The work lists of a drawing on the heap. Definitions only.
use Rattle.std.specs.Prelude.{ℕ, ◌+◌, ◌*◌, max}
use Rattle.drawing.specs.Network.{Work, Crossings, crossings}
use Rattle.tansygate.specs.declared.work.Store.{Store}
use Rattle.tansygate.specs.Lists.{zero_numbers, zeros}

-- what the heap holds
abbrev pub work_in : Store → Work
work_in s =
    record {
      stations = s.stations.items;
      buses = s.buses.items;
      ends = s.ends.items;
      sorted = s.sorted.items;
      spare = s.spare.items;
      keys = s.keys.items;
      places = s.places.items;
      blocks = s.blocks.items;
      frames = s.frames.items;
      path = s.path.items;
    }

abbrev pub crossings_in : Store → Crossings
crossings_in s = crossings s.numbers.items s.along.items s.ways.items

-- The work lists for n buses, m branches, a mesh of so many corners, and sorts of s numbers. `sorted` also holds the
-- grid of boxes.
abbrev pub lent_work : ℕ → ℕ → ℕ → ℕ → Work
lent_work n m mesh s =
    record {
      stations = zero_numbers (2 * n);
      buses = zero_numbers (3 * n);
      ends = zero_numbers (4 * m + 4 * mesh + 4);
      sorted = zero_numbers (max s (5 * n));
      spare = zero_numbers s;
      keys = zero_numbers s;
      places = zeros (2 * n + 4 * m);
      blocks = zeros (3 * n);
      frames = zeros (4 * n);
      path = zeros (2 * n + 3 * mesh + 16);
    }

-- those for so many crossings
abbrev pub lent_crossings : ℕ → Crossings
lent_crossings c = crossings (zero_numbers (3 * c)) (zeros c) (zeros (2 * c))

-- how long `spare` and `keys` are, which sort and have a number a crossing
abbrev pub sorts : ℕ → ℕ → ℕ → ℕ → ℕ
sorts n m mesh c = max (n + 2 * m + mesh) c
