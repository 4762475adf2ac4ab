-- What the offsets of a search are, without a word on how they are found: each pair within it once, no other, by
-- a² + b², a, b. Definitions only.
use Rattle.std.specs.Prelude.{ℕ, ◌+◌, ◌*◌, ◌≤◌, ◌<◌, ◌≡◌, ◌⊎◌, List, nat_abs, ◌<ℤ◌, length, get_or}
use Rattle.offsets.specs.declared.offset.Offset.{Offset}

-- both numbers of an offset are from −search to search
abbrev pub Within : ℕ → Offset → Type 0
Within search o = (nat_abs o.a ≤ search) × (nat_abs o.b ≤ search)

-- a² + b²
abbrev pub distance : Offset → ℕ
distance o = nat_abs o.a * nat_abs o.a + nat_abs o.b * nat_abs o.b

-- o runs before q: by a² + b², a, b
abbrev pub Precedes : Offset → Offset → Type 0
Precedes o q = (distance o < distance q) ⊎ ((distance o ≡ distance q) × ((o.a <ℤ q.a) ⊎ ((o.a ≡ q.a) × (o.b <ℤ q.b))))

-- A list of offsets has each within the search, once, and runs in this order.
pub record Complete (search : ℕ) (l : List Offset) : Type 0 where
  -- no other stands there
  pub within : (j : ℕ) (d : Offset) → j < length l → Within search (get_or l j d)
  -- each stands there
  pub all : (o d : Offset) → Within search o → (j : ℕ) × (j < length l) × (get_or l j d ≡ o)
  -- in this order
  pub rise : (i j : ℕ) (d : Offset) → i < j → j < length l → Precedes (get_or l i d) (get_or l j d)
  -- and none twice
  pub once : (i j : ℕ) (d : Offset) → i < length l → j < length l → get_or l i d ≡ get_or l j d → i ≡ j
