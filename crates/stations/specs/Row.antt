-- Rows: live branches inside the station first, by branch number. Then live line ends, by the other station's seed y,
-- then branch number. A row's number is how many stand before it in this order in its station (docs/RULES.md, 'Rows').
-- Definitions only.
use Rattle.std.specs.Prelude.{ℕ, suc, Bool, false, ◌||◌, List, eqb, ltb, length}
use Rattle.numbers.specs.Ops.{order_key}
use Rattle.numbers.specs.Order.{pick, before}
use Rattle.numbers.specs.Table.{table, how_many}
use Rattle.plane.specs.declared.geometry.Point.{Point}
use Rattle.network.specs.declared.words.Kind.{Kind}
use Rattle.network.specs.declared.words.Kind.TheVariants.{Undrawn, Open, Internal, Line}
use Rattle.network.specs.Words.{kind_at, station_of}
use Rattle.network.specs.Seed.{place_at}

-- whether a branch has a row in station s: one from a bus to itself, an open one and one with an unknown end have none
unfoldable pub has_row : List ℕ → ℕ → Kind → Bool
has_row sub s Undrawn = false
has_row sub s (Open a b) = false
has_row sub s (Internal a b) = eqb (station_of sub a) s
has_row sub s (Line a b) = eqb (station_of sub a) s || eqb (station_of sub b) s

-- What rows are ordered by in station s before their branch number: 0 inside, and for a line end more than 0, rising
-- with the other station's seed y.
unfoldable pub row_key : List ℕ → List Point → ℕ → Kind → ℕ
row_key sub seeds s Undrawn = 0
row_key sub seeds s (Open a b) = 0
row_key sub seeds s (Internal a b) = 0
row_key sub seeds s (Line a b) =
    suc (order_key (place_at seeds (station_of sub (pick (eqb (station_of sub a) s) b a))).y)

-- how many rows station s has
unfoldable pub rows_in : List ℕ → List Kind → ℕ → ℕ
rows_in sub ks s = how_many (λ e. has_row sub s (kind_at ks e)) (length ks)

-- the number of branch e's row in station s
unfoldable pub row : List ℕ → List Point → List Kind → ℕ → ℕ → ℕ
row sub seeds ks s e =
    how_many
    (λ i. pick (has_row sub s (kind_at ks i)) (before (λ j. row_key sub seeds s (kind_at ks j)) ltb i e) false)
    (length ks)

-- the rows of a branch's from end and of its to end, 0 where it has none
unfoldable pub from_row : List ℕ → List Point → List Kind → ℕ → Kind → ℕ
from_row sub seeds ks e Undrawn = 0
from_row sub seeds ks e (Open a b) = 0
from_row sub seeds ks e (Internal a b) = row sub seeds ks (station_of sub a) e
from_row sub seeds ks e (Line a b) = row sub seeds ks (station_of sub a) e

unfoldable pub to_row : List ℕ → List Point → List Kind → ℕ → Kind → ℕ
to_row sub seeds ks e Undrawn = 0
to_row sub seeds ks e (Open a b) = 0
to_row sub seeds ks e (Internal a b) = row sub seeds ks (station_of sub b) e
to_row sub seeds ks e (Line a b) = row sub seeds ks (station_of sub b) e

unfoldable pub from_rows : List ℕ → List Point → List Kind → List ℕ
from_rows sub seeds ks = table (λ e. from_row sub seeds ks e (kind_at ks e)) (length ks)

unfoldable pub to_rows : List ℕ → List Point → List Kind → List ℕ
to_rows sub seeds ks = table (λ e. to_row sub seeds ks e (kind_at ks e)) (length ks)
