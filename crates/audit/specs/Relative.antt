-- The audit's relative lengths: one for each unbroken stretch of pieces of one line-role branch, in list order
-- (docs/RULES.md, 'Relative lengths'). Definitions only.
use Rattle.std.specs.Prelude.{ℕ, suc, ◌+◌, ◌*◌, true, false, List, [], ◌∷◌, ◌++◌, eqb, get_or, Float}
use Rattle.std.specs.Float.{nan}
use Rattle.std.specs.Float.Ieee.{lt}
use Rattle.numbers.specs.Ops.{f0, f1, ◌⊕◌, ◌⊘◌}
use Rattle.numbers.specs.Order.{pick}
use Rattle.plane.specs.declared.geometry.Point.{Point}
use Rattle.plane.specs.Plane.{point}
use Rattle.plane.specs.Near.{distance}
use Rattle.audit.specs.declared.stretches.Stretch.{Stretch}
use Rattle.audit.specs.Fit.{is_line}

-- where piece j starts and ends: four numbers each
unfoldable pub piece_start : List Float → ℕ → Point
piece_start pieces j = point (get_or pieces (4 * j) nan) (get_or pieces (4 * j + 1) nan)

unfoldable pub piece_end : List Float → ℕ → Point
piece_end pieces j = point (get_or pieces (4 * j + 2) nan) (get_or pieces (4 * j + 3) nan)

-- one piece more: a stretch reaches its end, and is longer by its length
unfoldable pub longer : List Float → Stretch → ℕ → Stretch
longer pieces t j =
    record {
      branch = t.branch;
      start = t.start;
      end = piece_end pieces j;
      drawn = t.drawn ⊕ distance (piece_start pieces j) (piece_end pieces j);
    }

-- the stretch of branch e that piece j begins
unfoldable pub begun : List Float → ℕ → ℕ → Stretch
begun pieces e j =
    longer pieces
    (record { branch = e; start = piece_start pieces j; end = piece_start pieces j; drawn = f0 })
    j

-- its length by the distance of its ends, 1 where they are one point
unfoldable pub ratio : Stretch → Float
ratio t = let straight = distance t.start t.end in pick (lt f0 straight) (t.drawn ⊘ straight) f1

-- the number of a stretch that ends: none if its branch is no line
unfoldable pub ended : List ℕ → Stretch → List Float
ended roles t = pick (is_line roles t.branch) (ratio t ∷ []) []

-- those of the stretch that piece j comes after and of all that follow, where j, j + 1, .. are pieces of these branches
unfoldable pub relative_on : List ℕ → List Float → Stretch → ℕ → List ℕ → List Float
relative_on roles pieces t j [] = ended roles t
relative_on roles pieces t j (f ∷ fs) = elim (eqb f t.branch) [
  | true ↦ relative_on roles pieces (longer pieces t j) (suc j) fs
  | false ↦ ended roles t ++ relative_on roles pieces (begun pieces f j) (suc j) fs
]

unfoldable pub relatives : List ℕ → List Float → List ℕ → List Float
relatives roles pieces [] = []
relatives roles pieces (e ∷ es) = relative_on roles pieces (begun pieces e 0) 1 es
