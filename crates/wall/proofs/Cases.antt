-- The table of worked cases computes: what the definitions give is what it says. Assumes nothing.
use mathlib.Core.Path.{◌≡◌, refl}
use Rattle.wall.specs.Cases.{table, given, said}

pub marked : given table ≡ said table
unfolding table
marked = refl
