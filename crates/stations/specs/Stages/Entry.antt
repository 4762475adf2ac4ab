-- Branch ends as numbered entries, 2 e for branch e's from end and 2 e + 1 for its to end, with the station and the key
-- of each, for the rows of `Row`. Definitions only.
use Rattle.std.specs.Prelude.{ℕ, suc, ◌+◌, ◌*◌, ◌/◌, ◌%◌, Bool, List, eqb}
use Rattle.numbers.specs.Ops.{order_key}
use Rattle.numbers.specs.Order.{pick}
use Rattle.plane.specs.declared.geometry.Point.{Point}
use Rattle.network.specs.declared.words.Kind.{Kind}
use Rattle.network.specs.declared.words.Kind.TheVariants.{Undrawn, Open, Internal, Line}
use Rattle.network.specs.Words.{kind_at, station_of}
use Rattle.network.specs.Seed.{place_at}

-- a number past every station's
abbrev pub none : ℕ
none = 0xFFFF_FFFF

-- the station in which an end, the from end or the to end, has a row, or none: an internal branch's one row is its from
-- end's
unfoldable pub end_station : List ℕ → Bool → Kind → ℕ
end_station sub isFrom Undrawn = none
end_station sub isFrom (Open a b) = none
end_station sub isFrom (Internal a b) = pick isFrom (station_of sub a) none
end_station sub isFrom (Line a b) = station_of sub (pick isFrom a b)

-- what it is ordered by there
unfoldable pub end_key : List ℕ → List Point → Bool → Kind → ℕ
end_key sub seeds isFrom Undrawn = 0
end_key sub seeds isFrom (Open a b) = 0
end_key sub seeds isFrom (Internal a b) = 0
end_key sub seeds isFrom (Line a b) = suc (order_key (place_at seeds (station_of sub (pick isFrom b a))).y)

-- the entry that holds the row of branch e's to end
unfoldable pub to_entry : Kind → ℕ → ℕ
to_entry Undrawn e = 2 * e + 1
to_entry (Open a b) e = 2 * e + 1
to_entry (Internal a b) e = 2 * e
to_entry (Line a b) e = 2 * e + 1

-- entry x is a from end
abbrev pub from_end : ℕ → Bool
from_end x = eqb (x % 2) 0

unfoldable pub entry_station : List ℕ → List Kind → ℕ → ℕ
entry_station sub ks x = end_station sub (from_end x) (kind_at ks (x / 2))

unfoldable pub entry_key : List ℕ → List Point → List Kind → ℕ → ℕ
entry_key sub seeds ks x = end_key sub seeds (from_end x) (kind_at ks (x / 2))
