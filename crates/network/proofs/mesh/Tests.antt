-- What follows from a test of two parts. Assumes nothing.
use mathlib.Core.Path.{◌≡◌}
use mathlib.Core.Bool.{Bool, true, false, ◌||◌, true≢false}
pub use Rattle.numbers.proofs.order.AllTo.{both}

pub other : (a b : Bool) → (a || b) ≡ true → a ≡ false → b ≡ true
other true b h e = absurd (true≢false e)
other false b h e = h
