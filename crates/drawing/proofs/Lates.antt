-- Refusal 11: what its parts give.
-- Assumes nothing.
use mathlib.Core.Path.{◌≡◌, refl}
use mathlib.Core.Bool.{Bool, true, false}
use Prim.Native.Nat.{ℕ, ◌*◌, ◌/◌, ◌≤◌, min}
use native.Mathlib.Omega.{arith}
use lib.Dec.{ltb}
use borrow.Author.Tests.{ltb-false}
use Rattle.std.specs.Prelude.{Option, Some, None}
use Rattle.std.specs.Option.{option_or}
use Rattle.network.specs.declared.refusals.Refusal.{Refusal}
use Rattle.network.specs.declared.refusals.Refusal.TheVariants as Refusals
use Rattle.network.specs.Refusal.{refuse}
use Rattle.drawing.specs.Answer.{piece_room, late_by}

enough : (r : Option Refusal) (b : Bool) → option_or r (refuse b (Some Refusals.Pieces) None) ≡ None → b ≡ false
enough (Some r) b h = cc
enough None true h = cc
enough None false h = refl

-- Where nothing is refused both lent piece lists hold the pieces.
pub room_of_lem : (earlier : Option Refusal) (pieces numbers names : ℕ)
    → late_by earlier pieces numbers names ≡ None → (4 * pieces ≤ numbers) × (pieces ≤ names)
unfolding late_by piece_room
room_of_lem earlier pieces numbers names h =
    let k : pieces ≤ min (numbers / 4) names = ltb-false _ _ (enough earlier (ltb (min (numbers / 4) names) pieces) h) in
    (omega arith, omega arith)
