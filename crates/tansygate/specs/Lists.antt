-- The result lists of a drawing on the heap. Definitions only.
use Rattle.std.specs.Prelude.{ℕ, ◌*◌, List, replicate, take, Float}
use Rattle.numbers.specs.Ops.{f0}
use Rattle.drawing.specs.Network.{Lists}
use Rattle.tansygate.specs.declared.lists.Lists as Heap

abbrev pub zero_numbers : ℕ → List ℕ
zero_numbers n = replicate n 0

abbrev pub zeros : ℕ → List Float
zeros n = replicate n f0

-- the seven lists in their order
abbrev pub lists_of_seven : List Float → List Float → List Float → List Float → List ℕ → List Float → List ℕ → Lists
lists_of_seven positions bars boxes scales roles pieces branches =
    record {
      positions = positions;
      bars = bars;
      boxes = boxes;
      scales = scales;
      roles = roles;
      pieces = pieces;
      branches = branches;
    }

-- what the heap holds
abbrev pub lists_in : Heap.Lists → Lists
lists_in l =
    record {
      positions = l.positions.items;
      bars = l.bars.items;
      boxes = l.boxes.items;
      scales = l.scales.items;
      roles = l.roles.items;
      pieces = l.pieces.items;
      branches = l.branches.items;
    }

-- the result lists that are lent for n buses, m branches, k stations and p pieces
abbrev pub lent_lists : ℕ → ℕ → ℕ → ℕ → Lists
lent_lists n m k p =
    record {
      positions = zeros (2 * n);
      bars = zeros (4 * n);
      boxes = zeros (4 * k);
      scales = zeros k;
      roles = zero_numbers m;
      pieces = zeros (4 * p);
      branches = zero_numbers p;
    }

-- the lists with so many pieces
abbrev pub cut_to : ℕ → Lists → Lists
cut_to p L = record L { pieces = take (4 * p) L.pieces; branches = take p L.branches }
