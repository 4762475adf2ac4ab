-- Crossings grouped by channel, in the lent lists: four numbers for each channel behind those of the m branches, three
-- for each crossing. Definitions only.
use Rattle.std.specs.Prelude.{ℕ, ◌+◌, ◌-◌, ◌*◌, ◌≤◌, ◌<◌, ◌≡◌, List, eqb, length, get_or}
use Rattle.numbers.specs.Table.{table, which, strided}
use Rattle.channels.specs.Round.{first_at}

-- where channel c's crossings begin among those grouped by channel
unfoldable pub start_in : ℕ → List ℕ → ℕ → ℕ
start_in m ends c = get_or ends (4 * (m + c) + 3) 0

-- the j-th of the crossings grouped by channel
unfoldable pub member_in : List ℕ → ℕ → ℕ
member_in numbers j = get_or numbers (3 * j + 2) 0

-- The first n crossings grouped by channel: where each channel's begin, and that they are its crossings by number; all
-- else is as it was.
pub record Grouped (m channels n : ℕ) (ends numbers ends' numbers' : List ℕ) : Type 0 where
  pub rising : (c : ℕ) → c < channels → start_in m ends' c ≤ start_in m ends' (c + 1)
  pub within : (c : ℕ) → c < channels → start_in m ends' (c + 1) ≤ n
  pub members : (c : ℕ) → c < channels
      → table (λ i. member_in numbers' (start_in m ends' c + i)) (start_in m ends' (c + 1) - start_in m ends' c)
      ≡ which (λ x. eqb (get_or (strided 3 0 0 n numbers) x 0) c) n
  pub sides : (o : ℕ) → o < 2 → (k : ℕ) → strided 3 o 0 k numbers' ≡ strided 3 o 0 k numbers
  pub rows : (o : ℕ) → o < 3 → (k : ℕ) → strided 4 o 0 k ends' ≡ strided 4 o 0 k ends
  pub counts : strided 4 3 0 m ends' ≡ strided 4 3 0 m ends

-- The code's steps to that: the third of each crossing's numbers is one of an order, the others are as they were.
pub record Copied (order before behind : List ℕ) : Type 0 where
  pub third : strided 3 2 0 (length order) behind ≡ order
  pub sides : (o : ℕ) → o < 2 → (k : ℕ) → strided 3 o 0 k behind ≡ strided 3 o 0 k before

-- The first k starts of channels stand behind the m branches, and all else is as it was.
pub record Started (m k : ℕ) (keys before behind : List ℕ) : Type 0 where
  pub starts : (c : ℕ) → c < k → start_in m behind c ≡ first_at keys c
  pub rows : (o : ℕ) → o < 3 → (j : ℕ) → strided 4 o 0 j behind ≡ strided 4 o 0 j before
  pub counts : strided 4 3 0 m behind ≡ strided 4 3 0 m before
