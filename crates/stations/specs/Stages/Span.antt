-- The rows of buses as the lent list of buses holds them. Definitions only.
use Rattle.std.specs.Prelude.{ℕ, zero, suc, ◌+◌, ◌-◌, ◌*◌, ◌^◌, ◌<◌, min, max, ◌≡◌, List, get_or, set}
use Rattle.numbers.specs.Table.{table}
use Rattle.network.specs.declared.lists.Network.{Network}
use Rattle.network.specs.Views.{from_rows_in, to_rows_in}
use Rattle.network.specs.Lent.{branch_total, kinds_in}
use Rattle.stations.specs.Bar as Bar
use Rattle.stations.specs.Bar.{Span, span_of}

-- the rows of bus i, of the first n buses
abbrev pub span_at : List ℕ → ℕ → Span
span_at l i = span_of (get_or l (3 * i + 1) 0) (get_or l (3 * i + 2) 0)

unfoldable pub spans_in : ℕ → List ℕ → List Span
spans_in n l = table (span_at l) n

-- the first row of a bus with the row r, where `past` is one more than its last row, 0 where it has none
unfoldable pub first_with : ℕ → ℕ → ℕ → ℕ
first_with first zero r = r
first_with first (suc last) r = min first r

-- the list of buses with the row r for bus i
abbrev pub with_row : List ℕ → ℕ → ℕ → List ℕ
with_row l i r =
    set (set l (3 * i + 1) (first_with (get_or l (3 * i + 1) 0) (get_or l (3 * i + 2) 0) r)) (3 * i + 2)
    (max (get_or l (3 * i + 2) 0) (r + 1))

-- one more than a row of the first m branches' ends is a number of 32 bits
abbrev pub RowsFit : ℕ → List ℕ → Type 0
RowsFit m ends = (e : ℕ) → e < m → (get_or ends (4 * e) 0 < 2 ^ 32 - 1) × (get_or ends (4 * e + 1) 0 < 2 ^ 32 - 1)

-- the rows of all buses, by those of the branches' ends
abbrev pub spans_of : Network → List ℕ → List Span
spans_of net ends =
    Bar.spans net.sub.now (kinds_in net) (from_rows_in (branch_total net) ends) (to_rows_in (branch_total net) ends)

-- every bus's rows are changed by f, and no column is
pub record Included (f : ℕ → Span → Span) (old new : List ℕ) : Type 0 where
  pub spans : (i : ℕ) → span_at new i ≡ f i (span_at old i)
  pub columns : (i : ℕ) → get_or new (3 * i) 0 ≡ get_or old (3 * i) 0
