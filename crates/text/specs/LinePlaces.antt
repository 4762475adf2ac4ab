-- What the answer of the code that reads a text says of it. Definitions only.
use Rattle.std.specs.Prelude.{ℕ, cond, length, Option, Some, None}
use Rattle.text.specs.declared.listing.input.InputCounts.{InputCounts}
use Rattle.text.specs.Input.{Input}

-- the answer of `parse`: how many buses and branches there are, or none where the text is malformed
unfoldable pub answer : Input → Option InputCounts
answer p = cond p.well_formed (Some (record { buses = length p.buses.sub; branches = length p.branches.live })) None

-- its number: 0, or refusal 14
unfoldable pub number_of : Option InputCounts → ℕ
number_of (Some counts) = 0
number_of None = 14
