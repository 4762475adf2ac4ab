-- The audit's result lists and work lists by position, for laws over plain variables. Assumes nothing.
use Prim.Native.Nat.{ℕ}
use mathlib.Core.List.{List}
use lib.Ieee.{Float}
use Rattle.audit.specs.Drawn.{Lists, Work}

abbrev pub lists : List Float → List Float → List Float → Lists
lists a b c = record { displacement = a; spacing = b; relative = c }

abbrev pub work : List ℕ → List ℕ → List ℕ → List ℕ → List Float → List Float → Work
work a b c d e f = record { stations = a; index = b; spare = c; keys = d; points = e; path = f }
