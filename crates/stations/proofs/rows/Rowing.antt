-- Rows: what the ranking of the entries gives is each branch's rows, and how many rows each station has.
-- Assumes nothing.
use mathlib.Core.Path.{◌≡◌, refl, sym, ap, ◌∙◌, subst}
use mathlib.Core.Bool.{true, false}
use mathlib.Core.List.{List}
use Prim.Native.Nat.{ℕ, ◌+◌, ◌*◌, ◌/◌, ◌≤◌, ◌<◌}
use native.Mathlib.Omega.{arith}
use lib.Dec.{eqb, ltb}
use lib.IntN.{ℤ}
use lib.Ieee.{Float}
use lib.ListN.{length, take, get_or}
use Rattle.numbers.specs.Order.{pick, key_at, before}
use Rattle.numbers.specs.Table.{table, how_many}
use Rattle.numbers.proofs.order.Tables.{table_ext, get_d_table, length_table}
use Rattle.plane.specs.declared.geometry.Point.{Point}
use Rattle.network.specs.declared.words.Kind.{Kind}
use Rattle.network.specs.declared.words.Kind.TheVariants.{Undrawn, Open, Internal, Line}
use Rattle.network.specs.Words.{kind_at, kind_of, kinds, station_of, station_count, Safe}
use Rattle.network.specs.Views.{points_in}
use Rattle.network.proofs.Stations.{station_below}
use Rattle.network.proofs.Branches.{kind_safe}
use Rattle.stations.specs.Row.{rows_in, row, from_row, to_row, from_rows, to_rows}
use Rattle.stations.specs.Stages.Entry.{none, end_station, end_key, to_entry, from_end, entry_station, entry_key}
use Rattle.stations.specs.Stages.Ranking.{in_station, rank_in}
use Rattle.stations.proofs.ranking.Fronts.{front_at}
use Rattle.stations.proofs.ranking.Placing.{place_none, place_some, station_ext, place_ext}
use Rattle.stations.proofs.rows.Entries.{of_at, rows_counted, row_counted}

module _ (sub : List ℕ) (ks : List Kind) (safe : (e : ℕ) → e < length ks → Safe sub (kind_at ks e)) (seeds : List Point) (k : ℕ) (kn : k ≤ none) (kc : k ≡ station_count sub) where
  abbrev of : ℕ → ℕ
  of = entry_station sub ks

  abbrev place : ℕ → ℕ
  place = rank_in (entry_station sub ks) (entry_key sub seeds ks) k (2 * length ks)

  below : (a : ℕ) → a < length sub → station_of sub a < k
  below a h = rw kc (station_below sub a h)

  place_row : (x s : ℕ) → x < 2 * length ks → of x ≡ s → s < k → place x ≡ row sub seeds ks s (x / 2)
  place_row x s h e l =
      place_some of (entry_key sub seeds ks) k (2 * length ks) x (subst (λ (t : ℕ). t < k) (sym e) l)
      ∙ ap (λ (t : ℕ). how_many (λ j. pick (eqb (of j) t) (before (entry_key sub seeds ks) ltb j x) false) (2 * length ks)) e
      ∙ row_counted sub ks safe s (omega arith) seeds x h e

  no_row : (x : ℕ) → of x ≡ none → place x ≡ 0
  no_row x e = place_none of (entry_key sub seeds ks) k (2 * length ks) x (subst (λ (t : ℕ). k ≤ t) (sym e) kn)

  module _ (e : ℕ) (em : e < length ks) where
    from_at : (K : Kind) → kind_at ks e ≡ K → of (2 * e) ≡ end_station sub true K
    from_at K q = of_at sub ks safe true e ∙ ap (end_station sub true) q

    to_at : (K : Kind) → kind_at ks e ≡ K → of (2 * e + 1) ≡ end_station sub false K
    to_at K q = of_at sub ks safe false e ∙ ap (end_station sub false) q

    row_from : (s : ℕ) → of (2 * e) ≡ s → s < k → place (2 * e) ≡ row sub seeds ks s e
    row_from s q l = let d : 2 * e / 2 ≡ e = omega arith in place_row (2 * e) s (omega arith) q l ∙ ap (row sub seeds ks s) d

    row_to : (s : ℕ) → of (2 * e + 1) ≡ s → s < k → place (2 * e + 1) ≡ row sub seeds ks s e
    row_to s q l = let d : (2 * e + 1) / 2 ≡ e = omega arith in place_row (2 * e + 1) s (omega arith) q l ∙ ap (row sub seeds ks s) d

    pub from_place : (K : Kind) → kind_at ks e ≡ K → Safe sub K → place (2 * e) ≡ from_row sub seeds ks e K
    unfolding Safe end_station from_row
    from_place Undrawn q h = no_row (2 * e) (from_at Undrawn q)
    from_place (Open a b) q h = no_row (2 * e) (from_at (Open a b) q)
    from_place (Internal a b) q h = row_from (station_of sub a) (from_at (Internal a b) q) (below a h.0)
    from_place (Line a b) q h = row_from (station_of sub a) (from_at (Line a b) q) (below a h.0)

    pub to_place : (K : Kind) → kind_at ks e ≡ K → Safe sub K → place (to_entry K e) ≡ to_row sub seeds ks e K
    unfolding Safe end_station to_entry to_row
    to_place Undrawn q h = no_row (2 * e + 1) (to_at Undrawn q)
    to_place (Open a b) q h = no_row (2 * e + 1) (to_at (Open a b) q)
    to_place (Internal a b) q h =
        row_from (station_of sub a) (from_at (Internal a b) q) (below a h.0) ∙ ap (λ (s : ℕ). row sub seeds ks s e) h.2
    to_place (Line a b) q h = row_to (station_of sub b) (to_at (Line a b) q) (below b h.1)

    pub to_entry_below : (K : Kind) → to_entry K e < 2 * length ks
    unfolding to_entry
    to_entry_below Undrawn = omega arith
    to_entry_below (Open a b) = omega arith
    to_entry_below (Internal a b) = omega arith
    to_entry_below (Line a b) = omega arith

  -- by lists that hold the entries' stations, keys and places
  module _ (own keys places : List ℕ) (f : take (2 * length ks) own ≡ table (entry_station sub ks) (2 * length ks))
      (g : take (2 * length ks) keys ≡ table (entry_key sub seeds ks) (2 * length ks))
      (h : take (2 * length ks) places ≡ table (rank_in (key_at own) (key_at keys) k (2 * length ks)) (2 * length ks)) where
    place_at : (x : ℕ) → x < 2 * length ks → get_or places x 0 ≡ place x
    place_at x l =
        front_at (rank_in (key_at own) (key_at keys) k (2 * length ks)) (2 * length ks) places h x l
        ∙ place_ext (key_at own) of (2 * length ks) (front_at of (2 * length ks) own f) (key_at keys) (entry_key sub seeds ks)
        (front_at (entry_key sub seeds ks) (2 * length ks) keys g) k x l

    pub from_rows_law : table (λ e. get_or places (2 * e) 0) (length ks) ≡ from_rows sub seeds ks
    unfolding from_rows
    from_rows_law = table_ext (λ e. get_or places (2 * e) 0) (λ e. from_row sub seeds ks e (kind_at ks e)) (length ks)
        (λ e l. place_at (2 * e) (omega arith) ∙ from_place e l (kind_at ks e) refl (safe e l))

    pub to_rows_law : table (λ e. get_or places (to_entry (kind_at ks e) e) 0) (length ks) ≡ to_rows sub seeds ks
    unfolding to_rows
    to_rows_law = table_ext (λ e. get_or places (to_entry (kind_at ks e) e) 0) (λ e. to_row sub seeds ks e (kind_at ks e)) (length ks)
        (λ e l. place_at (to_entry (kind_at ks e) e) (to_entry_below e l (kind_at ks e)) ∙ to_place e l (kind_at ks e) refl (safe e l))

    pub rows_in_law : table (in_station (key_at own) (2 * length ks)) k ≡ table (rows_in sub ks) k
    rows_in_law = table_ext (in_station (key_at own) (2 * length ks)) (rows_in sub ks) k
        (λ s l. station_ext (key_at own) of (2 * length ks) (front_at of (2 * length ks) own f) s ∙ rows_counted sub ks safe s (omega arith))

-- ---- a branch's kind in the list of kinds
module _ (sub : List ℕ) (from to : List ℤ) (service : List ℕ) where
  pub kind_at_lem : (e : ℕ) → e < length from → kind_at (kinds sub from to service) e ≡ kind_of sub from to service e
  unfolding kinds
  kind_at_lem e h = get_d_table (kind_of sub from to service) (length from) e Undrawn h

  pub length_kinds : length (kinds sub from to service) ≡ length from
  unfolding kinds
  length_kinds = length_table (kind_of sub from to service) (length from)

  pub kinds_safe : (e : ℕ) → e < length (kinds sub from to service) → Safe sub (kind_at (kinds sub from to service) e)
  kinds_safe e h = let l : e < length from = rw length_kinds at h in subst (Safe sub) (sym (kind_at_lem e l)) (kind_safe sub from to service e)

  pub key_of_entry : (seeds : List Point) (x v : ℕ) → x < 2 * length from → v ≡ end_key sub seeds (from_end x) (kind_of sub from to service (x / 2))
      → v ≡ entry_key sub seeds (kinds sub from to service) x
  unfolding entry_key
  key_of_entry seeds x v h e = e ∙ ap (end_key sub seeds (from_end x)) (sym (kind_at_lem (x / 2) (omega arith)))

  pub station_of_entry : (x v : ℕ) → x < 2 * length from → v ≡ end_station sub (from_end x) (kind_of sub from to service (x / 2))
      → v ≡ entry_station sub (kinds sub from to service) x
  unfolding entry_station
  station_of_entry x v h e = e ∙ ap (end_station sub (from_end x)) (sym (kind_at_lem (x / 2) (omega arith)))

-- ---- the three steps of `rows` together
module _ (sub : List ℕ) (from to : List ℤ) (service : List ℕ) (places : List Float) (k : ℕ) (kc : k ≡ station_count sub) (kb : k ≤ 4096) (keys own ranked : List ℕ) where
  abbrev ks : List Kind
  ks = kinds sub from to service

  abbrev n : ℕ
  n = length from

  module _ (f : take (2 * n) keys ≡ table (entry_key sub (points_in (station_count sub) places) ks) (2 * n)) (g : take (2 * n) own ≡ table (entry_station sub ks) (2 * n))
      (h : take (2 * n) ranked ≡ table (rank_in (key_at own) (key_at keys) k (2 * n)) (2 * n)) where
    ln : n ≡ length ks
    ln = sym (length_kinds sub from to service)

    safe : (e : ℕ) → e < length ks → Safe sub (kind_at ks e)
    safe = kinds_safe sub from to service

    own_all : take (2 * length ks) own ≡ table (entry_station sub ks) (2 * length ks)
    own_all = subst (λ (m : ℕ). take (2 * m) own ≡ table (entry_station sub ks) (2 * m)) ln g

    keys_all : take (2 * length ks) keys ≡ table (entry_key sub (points_in k places) ks) (2 * length ks)
    keys_all =
        subst (λ (m : ℕ). take (2 * m) keys ≡ table (entry_key sub (points_in k places) ks) (2 * m)) ln
        (subst (λ (j : ℕ). take (2 * n) keys ≡ table (entry_key sub (points_in j places) ks) (2 * n)) (sym kc) f)

    ranked_all : take (2 * length ks) ranked ≡ table (rank_in (key_at own) (key_at keys) k (2 * length ks)) (2 * length ks)
    ranked_all = subst (λ (m : ℕ). take (2 * m) ranked ≡ table (rank_in (key_at own) (key_at keys) k (2 * m)) (2 * m)) ln h

    pub from_rows_end : table (λ e. get_or ranked (2 * e) 0) n ≡ from_rows sub (points_in k places) ks
    from_rows_end =
        ap (table (λ e. get_or ranked (2 * e) 0)) ln ∙ from_rows_law sub ks safe (points_in k places) k (omega arith) kc own keys ranked own_all keys_all ranked_all

    pub to_rows_end : table (λ e. get_or ranked (to_entry (kind_of sub from to service e) e) 0) n ≡ to_rows sub (points_in k places) ks
    to_rows_end =
        table_ext (λ e. get_or ranked (to_entry (kind_of sub from to service e) e) 0) (λ e. get_or ranked (to_entry (kind_at ks e) e) 0) n
        (λ e l. ap (λ (K : Kind). get_or ranked (to_entry K e) 0) (sym (kind_at_lem sub from to service e l)))
        ∙ ap (table (λ e. get_or ranked (to_entry (kind_at ks e) e) 0)) ln
        ∙ to_rows_law sub ks safe (points_in k places) k (omega arith) kc own keys ranked own_all keys_all ranked_all

    pub rows_in_end : table (in_station (key_at own) (2 * n)) k ≡ table (rows_in sub ks) k
    rows_in_end =
        ap (λ (m : ℕ). table (in_station (key_at own) (2 * m)) k) ln
        ∙ rows_in_law sub ks safe (points_in k places) k (omega arith) kc own keys ranked own_all keys_all ranked_all
