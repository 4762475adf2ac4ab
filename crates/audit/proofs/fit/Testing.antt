-- Numbers of at most 2^100 are finite. Assumes nothing.
use mathlib.Core.Path.{◌≡◌, refl}
use mathlib.Core.Bool.{true}
use mathlib.Core.List.{List}
use Prim.Native.Nat.{ℕ, ◌<◌}
use lib.ListN.{length, get_or}
use lib.Ieee.{Float, nan, inf, fin, le, of_bits}
use Rattle.numbers.specs.Small.{abs_of, is_finite}
use Rattle.audit.specs.Fit.{moderate, all_moderate}
use Rattle.audit.proofs.fit.AllTo.{all_to_at}

moderate_finite : (x : Float) → moderate x ≡ true → is_finite x ≡ true
unfolding moderate abs_of is_finite le of_bits
moderate_finite nan e = e
moderate_finite (inf s) e = e
moderate_finite (fin s m d) e = refl

pub all_finite : (l : List Float) → all_moderate l ≡ true → (i : ℕ) → i < length l → is_finite (get_or l i nan) ≡ true
unfolding all_moderate
all_finite l e i h = moderate_finite (get_or l i nan) (all_to_at (λ j. moderate (get_or l j nan)) (length l) i e h)
