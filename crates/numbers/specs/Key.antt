-- A bit pattern's place in IEEE 754's totalOrder (specs/TotalOrder.antt; docs/RULES.md, 'Total order'). Definitions
-- only.
use Rattle.std.specs.Prelude.{ℕ, ◌+◌, ◌-◌, ◌^◌, cond, nat_le}

-- the negative patterns turned round, below the others
unfoldable pub key_of : ℕ → ℕ
key_of b = cond (nat_le (2 ^ 63) b) (2 ^ 64 - 1 - b) (b + 2 ^ 63)
