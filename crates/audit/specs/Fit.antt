-- Refusal 13: whether the audited drawing fits its network (docs/RULES.md, 'Fit'). Definitions only.
use Rattle.std.specs.Prelude.{ℕ, ◌*◌, Bool, not, ◌&&◌, ◌||◌, List, eqb, ltb, ℤ, negsuc, length, get_or, Float, Option}
use Rattle.std.specs.Prelude.{is_some}
use Rattle.std.specs.Float.{nan, binary64}
use Rattle.std.specs.Float.Ieee.{lt, le, of_bits}
use Rattle.numbers.specs.Small.{abs_of}
use Rattle.numbers.specs.Order.{all_to}
use Rattle.plane.specs.declared.geometry.Box.{Box}
use Rattle.plane.specs.Plane.{box_at}
use Rattle.network.specs.Words.{station_count, known}

-- every piece names a branch, of m
unfoldable pub all_named : ℕ → List ℕ → Bool
all_named m branches = all_to (λ j. ltb (get_or branches j 0) m) (length branches)

-- a line-role branch: role 0
unfoldable pub is_line : List ℕ → ℕ → Bool
is_line roles e = eqb (get_or roles e 1) 0

-- the end of branch e in a list of ends, unknown past the list's
unfoldable pub end_at : ℕ → List ℤ → ℕ → Option ℕ
end_at n ends e = known n (get_or ends e (negsuc 0))

-- no line-role branch has an unknown end
unfoldable pub joins : ℕ → List ℤ → List ℤ → List ℕ → ℕ → Bool
joins n from to roles e = not (is_line roles e) || (is_some (end_at n from e) && is_some (end_at n to e))

unfoldable pub all_join : ℕ → List ℤ → List ℤ → List ℕ → Bool
all_join n from to roles = all_to (joins n from to roles) (length from)

-- a box or piece number is at most 2^100 in size
unfoldable pub moderate : Float → Bool
moderate x = le (abs_of x) (of_bits binary64 0x4630_0000_0000_0000)

unfoldable pub all_moderate : List Float → Bool
all_moderate l = all_to (λ i. moderate (get_or l i nan)) (length l)

-- a box's left isn't above its right nor its top above its bottom; all of k
unfoldable pub ordered : Box → Bool
ordered b = not (lt b.right b.left) && not (lt b.bottom b.top)

unfoldable pub all_ordered : ℕ → List Float → Bool
all_ordered k boxes = all_to (λ s. ordered (box_at boxes s)) k

-- 13 is given where this fails
unfoldable pub fits : List ℕ → List ℤ → List ℤ → List Float → List ℕ → List Float → List ℕ → Bool
fits sub from to boxes roles pieces branches =
    eqb (length boxes) (4 * station_count sub)
    && (eqb (length roles) (length from)
    && (eqb (length pieces) (4 * length branches)
    && (all_named (length from) branches
    && (all_join (length sub) from to roles
    && (all_moderate boxes
    && (all_moderate pieces
    && all_ordered (station_count sub) boxes))))))
