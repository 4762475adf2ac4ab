-- The result lists and the work lists of fixed length by position, for laws over plain variables. Assumes nothing.
use Prim.Native.Nat.{ℕ}
use mathlib.Core.List.{List}
use lib.Ieee.{Float}
use Rattle.drawing.specs.Network.{Lists, Work}

abbrev pub lists : List Float → List Float → List Float → List Float → List ℕ → List Float → List ℕ → Lists
lists a b c d e f g = record { positions = a; bars = b; boxes = c; scales = d; roles = e; pieces = f; branches = g }

abbrev pub work : List ℕ → List ℕ → List ℕ → List ℕ → List ℕ → List ℕ → List Float → List Float → List Float → List Float → Work
work a b c d e f g h i j =
    record {
      stations = a;
      buses = b;
      ends = c;
      sorted = d;
      spare = e;
      keys = f;
      places = g;
      blocks = h;
      frames = i;
      path = j;
    }
