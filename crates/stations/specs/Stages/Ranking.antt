-- How many stand before each in its station, by a key and then number: what columns and rows have in common.
-- Definitions only.
use Rattle.std.specs.Prelude.{ℕ, false, eqb, ltb}
use Rattle.numbers.specs.Order.{pick, before}
use Rattle.numbers.specs.Table.{how_many}

-- how many of 0, .., c - 1 are in station s, `of` giving the station of each
unfoldable pub in_station : (ℕ → ℕ) → ℕ → ℕ → ℕ
in_station of c s = how_many (λ j. eqb (of j) s) c

-- how many of 0, .., c - 1 stand before x in x's station; 0 where that isn't below k
unfoldable pub rank_in : (ℕ → ℕ) → (ℕ → ℕ) → ℕ → ℕ → ℕ → ℕ
rank_in of key k c x = pick (ltb (of x) k) (how_many (λ j. pick (eqb (of j) (of x)) (before key ltb j x) false) c) 0
