-- The order of placement: the occupied stations listed, keys lowered to the top voltage's, two sorts, and each station at most once. Assumes nothing.
use mathlib.Core.Path.{◌≡◌, refl, sym, ap, ◌∙◌, subst}
use mathlib.Core.Logic.{⊎_elim}
use mathlib.Core.Bool.{Bool, true, false}
use mathlib.Core.List.{List, [], ◌∷◌, ◌++◌}
use Prim.Native.Nat.{ℕ, suc, ◌+◌, ◌-◌, ◌*◌, ◌≤◌, ◌<◌, ◌^◌, max}
use native.Mathlib.Omega.{arith}
use native.Mathlib.Nat.{not-suc-le-zero, max-eq_left, max-eq_right}
use native.Mathlib.Numerals.{add-one}
use lib.Dec.{eqb, ltb}
use lib.ListN.{length, get_or, set, take, drop}
use lib.Seq.{take-suc, take-suc-set, get_or-set_same, get_or-set_other}
use borrow.Author.Count.{below_more}
use borrow.Author.Tests.{eqb-true, eqb-false}
use Rattle.numbers.specs.Order.{pick, sort_by, up_from, count, key_at, before}
use Rattle.numbers.specs.Table.{how_many, which}
use Rattle.numbers.proofs.order.Merging.{length_sort}
use Rattle.numbers.proofs.order.Laws.{All, all_at, all_map, all_sort, Chain, chain_place, chain_sort, chain_up, chain_keep}
use Rattle.numbers.proofs.order.Tables.{length_table, how_many_zero, how_many_yes, how_many_no, how_many_le, which_zero, which_yes, which_no, length_which, all_which}
use Rattle.numbers.proofs.order.Strides.{length_strided, strided_zero, strided_push, strided_other}
use Rattle.network.specs.Words.{station_count, bus_counts, is_occupied, occupied}
use Rattle.network.specs.Views.{counts_in, order_in}
use Rattle.network.proofs.Stations.{station_below}
use Rattle.stations.specs.Column.{voltage, falling}
use Rattle.network.proofs.Occupied.{is_occupied_lem, not_occupied, count_at}
use Rattle.placement.specs.Turns.{top_to, placement_order}
use Rattle.placement.specs.Stages.Listed.{Listed, Turns}
use Rattle.numbers.proofs.order.Sorting.{sort_agree, sort_front}

-- ---- the occupied stations, one station after the other
pub listed_none : (counts ks o : List ℕ) → Listed counts 0 ks o 0
listed_none counts ks o =
    record { count = sym (how_many_zero (is_occupied counts)); listed = sym (which_zero (is_occupied counts)); keyed = λ i h. absurd (not-suc-le-zero h) }

module _ (counts : List ℕ) (s : ℕ) (ks o : List ℕ) (c v : ℕ) (L : Listed counts s ks o c) (e : v ≡ falling (get_or counts s 0)) (h : s < length ks) where
  keyed_more : (i : ℕ) → i < s + 1 → key_at (set ks s v) i ≡ falling (get_or counts i 0)
  keyed_more = below_more (λ i. key_at (set ks s v) i ≡ falling (get_or counts i 0)) s
      (λ i l. get_or-set_other ks s i v 0 (λ q. omega arith) ∙ L.keyed i l)
      (get_or-set_same ks s v 0 h ∙ e)

  pub listed_no : is_occupied counts s ≡ false → Listed counts (s + 1) (set ks s v) o c
  listed_no f = record {
    count = L.count ∙ sym (ap (how_many (is_occupied counts)) (add-one s) ∙ how_many_no (is_occupied counts) s f);
    listed = L.listed ∙ sym (ap (which (is_occupied counts)) (add-one s) ∙ which_no (is_occupied counts) s f);
    keyed = keyed_more;
  }

  pub listed_yes : is_occupied counts s ≡ true → c < length o → Listed counts (s + 1) (set ks s v) (set o c s) (c + 1)
  listed_yes f m = record {
    count = add-one c ∙ ap suc L.count ∙ sym (ap (how_many (is_occupied counts)) (add-one s) ∙ how_many_yes (is_occupied counts) s f);
    listed = ap (λ (j : ℕ). take j (set o c s)) (add-one c) ∙ take-suc-set o c s m ∙ ap (λ (t : List ℕ). t ++ (s ∷ [])) L.listed
        ∙ sym (ap (which (is_occupied counts)) (add-one s) ∙ which_yes (is_occupied counts) s f);
    keyed = keyed_more;
  }

-- the same by the number that stands in a list of two for each station
module _ (k : ℕ) (st : List ℕ) (s : ℕ) (ks o : List ℕ) (c v : ℕ) (L : Listed (counts_in k st) s ks o c) (l : s < k) (e : v ≡ falling (get_or st (2 * s) 0)) (h : s < length ks) where
  key : v ≡ falling (get_or (counts_in k st) s 0)
  key = e ∙ ap falling (sym (count_at k s st l))

  pub counted_yes : c < length o → 0 < get_or st (2 * s) 0 → Listed (counts_in k st) (s + 1) (set ks s v) (set o c s) (c + 1)
  counted_yes m p = listed_yes (counts_in k st) s ks o c v L key h (is_occupied_lem k s st l p) m

  pub counted_no : get_or st (2 * s) 0 ≤ 0 → Listed (counts_in k st) (s + 1) (set ks s v) o c
  counted_no p = listed_no (counts_in k st) s ks o c v L key h (not_occupied k s st l p)

-- ---- the order beside the counts
pub put_none : (st o : List ℕ) → order_in 0 st ≡ take 0 o
put_none st o = strided_zero 2 1 0 st

pub put_more : (st o : List ℕ) (p : ℕ) → order_in p st ≡ take p o → 2 * p + 1 < length st → p < length o → order_in (p + 1) (set st (2 * p + 1) (get_or o p 0)) ≡ take (p + 1) o
put_more st o p e h l =
    rw (add-one p) (strided_push 2 1 0 p st (get_or o p 0) (omega arith) h ∙ ap (λ (t : List ℕ). t ++ (get_or o p 0 ∷ [])) e ∙ sym (take-suc o p 0 l))

pub put_kept : (k : ℕ) (st : List ℕ) (p v : ℕ) → counts_in k (set st (2 * p + 1) v) ≡ counts_in k st
put_kept k st p v = strided_other 2 0 0 1 k p st v (omega arith) (omega arith) (λ e. omega arith)

-- ---- the top voltage's keys
falling_least : (a b : ℕ) → falling a ≤ falling b → falling (max a b) ≡ falling a
unfolding falling
falling_least a b h = ⊎_elim
    (λ (l : b ≤ a). ap (λ (n : ℕ). 2 ^ 64 - 1 - n) (max-eq_left l))
    (λ (l : a < b). ap (λ (n : ℕ). 2 ^ 64 - 1 - n) (max-eq_right (omega arith)) ∙ omega arith)
    (Rattle.numbers.proofs.order.Merging.le_or_lt b a)

falling_new : (a b : ℕ) → falling b < falling a → falling (max a b) ≡ falling b
unfolding falling
falling_new a b h = ap (λ (n : ℕ). 2 ^ 64 - 1 - n) (max-eq_right (omega arith))

-- the first k keys are those of the top voltage among the first i buses
abbrev pub Lowered : List ℕ → List ℕ → ℕ → List ℕ → ℕ → Type 0
Lowered sub kv k ks i = (s : ℕ) → s < k → get_or ks s 0 ≡ falling (top_to sub kv s i)

pub lowered_none : (sub kv : List ℕ) (k : ℕ) (ks : List ℕ) → ((s : ℕ) → s < k → get_or ks s 0 ≡ falling 0) → Lowered sub kv k ks 0
unfolding top_to
lowered_none sub kv k ks h = h

module _ (sub kv : List ℕ) (k : ℕ) (ks : List ℕ) (i v : ℕ) (L : Lowered sub kv k ks i) (e : v ≡ falling (voltage kv i)) (h : get_or sub i 0 < k) where
  abbrev own : ℕ
  own = get_or sub i 0

  top_own : top_to sub kv own (i + 1) ≡ max (top_to sub kv own i) (voltage kv i)
  unfolding top_to
  top_own = rw (add-one i) (ap (λ (b : Bool). pick b (max (top_to sub kv own i) (voltage kv i)) (top_to sub kv own i)) (borrow.Author.Tests.eq-eqb own own refl))

  top_other : (s : ℕ) → (own ≡ s → ⊥) → top_to sub kv s (i + 1) ≡ top_to sub kv s i
  unfolding top_to
  top_other s n = rw (add-one i) (ap (λ (b : Bool). pick b (max (top_to sub kv s i) (voltage kv i)) (top_to sub kv s i)) (borrow.Author.Tests.ne_eqb own s n))

  pub lowered_yes : v < get_or ks own 0 → k ≤ length ks → Lowered sub kv k (set ks own v) (i + 1)
  lowered_yes l m s q = go (eqb own s) refl
    where
      go : (b : Bool) → eqb own s ≡ b → get_or (set ks own v) s 0 ≡ falling (top_to sub kv s (i + 1))
      go true z =
          let w : own ≡ s = eqb-true own s z in
          let x : falling (voltage kv i) < falling (top_to sub kv own i) = omega (arith, L own h) in
          subst (λ (t : ℕ). get_or (set ks own v) t 0 ≡ falling (top_to sub kv t (i + 1))) w
          (get_or-set_same ks own v 0 (omega arith) ∙ e ∙ sym (ap falling top_own ∙ falling_new (top_to sub kv own i) (voltage kv i) x))
      go false z =
          let n : own ≡ s → ⊥ = eqb-false own s z in
          get_or-set_other ks own s v 0 (λ w. n (sym w)) ∙ L s q ∙ ap falling (sym (top_other s n))

  pub lowered_no : get_or ks own 0 ≤ v → Lowered sub kv k ks (i + 1)
  lowered_no l s q = go (eqb own s) refl
    where
      go : (b : Bool) → eqb own s ≡ b → get_or ks s 0 ≡ falling (top_to sub kv s (i + 1))
      go true z =
          let w : own ≡ s = eqb-true own s z in
          let x : falling (top_to sub kv own i) ≤ falling (voltage kv i) = omega (arith, L own h) in
          subst (λ (t : ℕ). get_or ks t 0 ≡ falling (top_to sub kv t (i + 1))) w
          (L own h ∙ sym (ap falling top_own ∙ falling_least (top_to sub kv own i) (voltage kv i) x))
      go false z = L s q ∙ ap falling (sym (top_other s (eqb-false own s z)))

-- ---- two sorts
module _ (sub kv counts : List ℕ) where
  abbrev count_key : ℕ → ℕ
  count_key s = falling (get_or counts s 0)

  abbrev top_key : ℕ → ℕ
  top_key s = falling (top_to sub kv s (length sub))

  all_occupied : All (λ s. s < length counts) (occupied counts)
  unfolding occupied
  all_occupied = all_which (is_occupied counts) (λ s. s < length counts) (length counts) (λ i h e. h)

  pub order_below : All (λ s. s < length counts) (placement_order sub kv counts)
  unfolding placement_order
  order_below =
      all_sort top_key (λ s. s < length counts) (sort_by count_key (occupied counts)) (all_sort count_key (λ s. s < length counts) (occupied counts) all_occupied)

  pub order_made : (ks ks' o p q : List ℕ) (r : ℕ) → Listed counts (length counts) ks o r
      → p ≡ take 0 o ++ (sort_by (key_at ks) (take (r - 0) (drop 0 o)) ++ drop r o)
      → Lowered sub kv (length counts) ks' (length sub)
      → q ≡ take 0 p ++ (sort_by (key_at ks') (take (r - 0) (drop 0 p)) ++ drop r p)
      → take r q ≡ placement_order sub kv counts
  unfolding placement_order occupied
  order_made ks ks' o p q r L P T Q =
      let n : length (take r o) ≡ r = ap length L.listed ∙ length_which (is_occupied counts) (length counts) ∙ sym L.count in
      let a : take r p ≡ sort_by (key_at ks) (take r o) = sort_front (key_at ks) o p r n P in
      let b : take r p ≡ sort_by count_key (occupied counts) =
      a ∙ ap (sort_by (key_at ks)) L.listed
      ∙ sort_agree (key_at ks) count_key (occupied counts) (all_map (λ s. s < length counts) (λ s. key_at ks s ≡ count_key s) L.keyed (occupied counts) all_occupied) in
      let m : length (take r p) ≡ r = ap length a ∙ length_sort (key_at ks) (take r o) ∙ n in
      sort_front (key_at ks') p q r m Q ∙ ap (sort_by (key_at ks')) b
      ∙ sort_agree (key_at ks') top_key (sort_by count_key (occupied counts))
      (all_map (λ s. s < length counts) (λ s. key_at ks' s ≡ top_key s) T (sort_by count_key (occupied counts))
      (all_sort count_key (λ s. s < length counts) (occupied counts) all_occupied))

  -- ---- each station at most once
  pub order_chain : Chain (before top_key (before count_key ltb)) (placement_order sub kv counts)
  unfolding placement_order occupied
  order_chain =
      chain_sort top_key (before count_key ltb) (sort_by count_key (occupied counts))
      (chain_sort count_key ltb (occupied counts) (chain_keep ltb (is_occupied counts) (up_from 0 (length counts)) (chain_up 0 (length counts))))

  pub order_turns : Turns (length counts) (placement_order sub kv counts)
  order_turns = record {
    below = λ i h. all_at (λ s. s < length counts) (placement_order sub kv counts) i h order_below;
    once = λ i j h k e.
        let R = before top_key (before count_key ltb) in
        let l = placement_order sub kv counts in
        sym (chain_place R l i h order_chain) ∙ ap (λ (v : ℕ). count (λ x. R x v) l) e ∙ chain_place R l j k order_chain;
  }

-- ---- a bus's station is below the station count
pub count_of_stations : (sub st : List ℕ) (k : ℕ) → counts_in k st ≡ bus_counts sub → k ≡ station_count sub
unfolding bus_counts
count_of_stations sub st k e = sym (length_strided 2 0 0 k st) ∙ ap length e ∙ length_table _ (station_count sub)

pub bus_below : (sub st : List ℕ) (k : ℕ) → counts_in k st ≡ bus_counts sub → (i : ℕ) → i < length sub → get_or sub i 0 < k
bus_below sub st k e i h = subst (λ (n : ℕ). get_or sub i 0 < n) (sym (count_of_stations sub st k e)) (station_below sub i h)

pub listed_le : (counts : List ℕ) (k : ℕ) (ks o : List ℕ) (c : ℕ) → Listed counts k ks o c → c ≤ k
listed_le counts k ks o c L = subst (λ (n : ℕ). n ≤ k) (sym L.count) (how_many_le (is_occupied counts) k)

-- ---- what stands beside the counts when all is done
module _ (sub kv : List ℕ) (k : ℕ) (st st' ks ks' o p q : List ℕ) (r : ℕ) (C : counts_in k st ≡ bus_counts sub) (L : Listed (counts_in k st) k ks o r)
    (P : p ≡ take 0 o ++ (sort_by (key_at ks) (take (r - 0) (drop 0 o)) ++ drop r o)) (T : Lowered sub kv k ks' (length sub))
    (Q : q ≡ take 0 p ++ (sort_by (key_at ks') (take (r - 0) (drop 0 p)) ++ drop r p)) (R : order_in r st' ≡ take r q)
    (K : (k : ℕ) → counts_in k st' ≡ counts_in k st) where
  abbrev counts : List ℕ
  counts = bus_counts sub

  size : length counts ≡ k
  size = ap length (sym C) ∙ length_strided 2 0 0 k st

  listed : Listed counts (length counts) ks o r
  listed = subst (λ (l : List ℕ). Listed l (length counts) ks o r) C (subst (λ (n : ℕ). Listed (counts_in k st) n ks o r) (sym size) L)

  order : order_in r st' ≡ placement_order sub kv counts
  order = R ∙ order_made sub kv counts ks ks' o p q r listed P (subst (λ (n : ℕ). Lowered sub kv n ks' (length sub)) (sym size) T) Q

  how_many_lem : r ≡ length (occupied counts)
  unfolding occupied
  how_many_lem = listed.count ∙ sym (length_which (is_occupied counts) (length counts))

  pub order_found : ((r ≡ length (occupied counts)) × (r ≤ k)) × ((order_in r st' ≡ placement_order sub kv counts) × (Turns k (order_in r st') × (counts_in k st' ≡ counts)))
  order_found = (
    (how_many_lem, listed_le (counts_in k st) k ks o r L),
    (order, (subst (Turns k) (sym order) (subst (λ (n : ℕ). Turns n (placement_order sub kv counts)) size (order_turns sub kv counts)), K k ∙ C)),
  )
