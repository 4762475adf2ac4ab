-- Maximum, minimum, size, finiteness, and a number held between two others (docs/RULES.md, 'Maximum, minimum and
-- clamp'). Definitions only.
use Rattle.std.specs.Prelude.{Bool, true, false, cond, Float}
use Rattle.std.specs.Float.{nan, inf, fin}
use Rattle.std.specs.Float.Ieee.{lt}

-- a maximum takes its second operand only where that is greater
unfoldable pub max_of : Float → Float → Float
max_of a b = cond (lt a b) b a

-- a minimum takes its second operand only where that is less
unfoldable pub min_of : Float → Float → Float
min_of a b = cond (lt b a) b a

-- the size of a number: its sign cleared
unfoldable pub abs_of : Float → Float
abs_of nan = nan
abs_of (inf s) = inf false
abs_of (fin s m e) = fin false m e

-- finite: no NaN and no infinity
unfoldable pub is_finite : Float → Bool
is_finite nan = false
is_finite (inf s) = false
is_finite (fin s m e) = true

-- x held to lo..hi: lo where x is below it, hi where x is above it
unfoldable pub clamp_of : Float → Float → Float → Float
clamp_of x lo hi = cond (lt x lo) lo (cond (lt hi x) hi x)
