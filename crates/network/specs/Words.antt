-- The words for the parts of a network: known and unknown buses, live and open branches, internal branches and lines,
-- occupied stations (docs/RULES.md, 'Words' and 'Branches and stations'). Definitions only.
use Rattle.std.specs.Prelude.{ℕ, zero, suc, max, ◌<◌, ◌≡◌, ◌≢◌, Bool, true, false, not, eqb, ltb, ℤ, pos, negsuc}
use Rattle.std.specs.Prelude.{List, length, get_or, Option, Some, None}
use Rattle.numbers.specs.Order.{pick}
use Rattle.numbers.specs.Table.{table, how_many, which}
use Rattle.network.specs.declared.words.Kind.{Kind}
use Rattle.network.specs.declared.words.Kind.TheVariants.{Undrawn, Open, Internal, Line}

-- the station of bus i, by the list of station numbers
abbrev pub station_of : List ℕ → ℕ → ℕ
station_of sub i = get_or sub i 0

-- one more than the highest of the first i numbers of a list, 0 of none
unfoldable pub past_to : List ℕ → ℕ → ℕ
past_to l zero = 0
past_to l (suc i) = max (past_to l i) (suc (get_or l i 0))

-- k, the highest station number + 1, 0 without buses
unfoldable pub station_count : List ℕ → ℕ
station_count sub = past_to sub (length sub)

-- how many buses carry the number s; and that of every station
unfoldable pub buses_in : List ℕ → ℕ → ℕ
buses_in sub s = how_many (λ i. eqb (station_of sub i) s) (length sub)

unfoldable pub bus_counts : List ℕ → List ℕ
bus_counts sub = table (buses_in sub) (station_count sub)

-- A station is occupied if a bus carries its number: `counts` are those above.
abbrev pub is_occupied : List ℕ → ℕ → Bool
is_occupied counts s = ltb 0 (get_or counts s 0)

unfoldable pub occupied : List ℕ → List ℕ
occupied counts = which (is_occupied counts) (length counts)

-- A bus number below 0 or at or past n is unknown, any other known.
unfoldable pub known : ℕ → ℤ → Option ℕ
known n (pos i) = pick (ltb i n) (Some i) None
known n (negsuc i) = None

-- A branch is open if its service flag is 0, else live; an absent service flag means live.
unfoldable pub live : List ℕ → ℕ → Bool
live service e = not (eqb (get_or service e 1) 0)

-- Between known buses: by whether they are one, the branch is live, and one station has both.
unfoldable pub kind_by : Bool → Bool → Bool → ℕ → ℕ → Kind
kind_by true isLive oneStation a b = Undrawn
kind_by false false oneStation a b = Open a b
kind_by false true true a b = Internal a b
kind_by false true false a b = Line a b

unfoldable pub kind_for : List ℕ → Bool → Option ℕ → Option ℕ → Kind
kind_for sub isLive None t = Undrawn
kind_for sub isLive (Some a) None = Undrawn
kind_for sub isLive (Some a) (Some b) = kind_by (eqb a b) isLive (eqb (station_of sub a) (station_of sub b)) a b

-- what branch e is
unfoldable pub kind_of : List ℕ → List ℤ → List ℤ → List ℕ → ℕ → Kind
kind_of sub from to service e =
    kind_for sub (live service e) (known (length sub) (get_or from e (negsuc 0)))
    (known (length sub) (get_or to e (negsuc 0)))

-- a kind's buses are known; an internal branch has both in one station, a line in two
unfoldable pub Safe : List ℕ → Kind → Type 0
Safe sub Undrawn = Unit {0}
Safe sub (Open a b) = (a < length sub) × (b < length sub)
Safe sub (Internal a b) = (a < length sub) × (b < length sub) × (station_of sub a ≡ station_of sub b)
Safe sub (Line a b) = (a < length sub) × (b < length sub) × (station_of sub a ≢ station_of sub b)

unfoldable pub kinds : List ℕ → List ℤ → List ℤ → List ℕ → List Kind
kinds sub from to service = table (kind_of sub from to service) (length from)

abbrev pub kind_at : List Kind → ℕ → Kind
kind_at ks e = get_or ks e Undrawn
