-- A list written over the front of another: elements past its length keep their old content. Definitions only.
use Rattle.std.specs.Prelude.{List, ◌++◌, length, drop}

unfoldable pub over : {A : Type 0} → List A → List A → List A
over new old = new ++ drop (length new) old
