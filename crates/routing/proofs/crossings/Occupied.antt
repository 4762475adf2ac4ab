-- The vertices: occupied stations in order as they are written, and a station found among them by halving. Assumes nothing.
use mathlib.Core.Path.{◌≡◌, refl, sym, ap, ◌∙◌, subst}
use mathlib.Core.Logic.{⊎_elim}
use mathlib.Core.Bool.{Bool, true, cond}
use mathlib.Core.List.{List, [], ◌∷◌, ◌++◌}
use Prim.Native.Nat.{ℕ, zero, suc, ◌+◌, ◌*◌, ◌≤◌, ◌<◌, zero-le}
use native.Mathlib.Omega.{arith}
use native.Mathlib.Nat.{add-zero, le_of_suc-le-suc}
use native.Mathlib.Numerals.{add-one}
use lib.Dec.{ltb}
use lib.ListN.{length, get_or, set}
use borrow.Author.Tests.{eq-eqb, ne_eqb, ltb-true}
use Rattle.numbers.specs.Order.{up_from}
use Rattle.numbers.specs.Table.{which}
use Rattle.numbers.proofs.order.Laws.{Chain, all_at, chain_keep, chain_up}
use Rattle.numbers.proofs.order.Merging.{le_or_lt}
use Rattle.numbers.proofs.order.Tables.{how_many_zero, which_zero}
use Rattle.numbers.proofs.order.Strides.{length_strided, get_d_strided, strided_ext, strided_zero, strided_push, read_other}
use Rattle.network.specs.Words.{is_occupied, occupied}
use Rattle.network.specs.Views.{counts_in, order_in}
use Rattle.network.proofs.Occupied.{passed, passed_count, passed_all, count_all, passed_no, passed_yes, count_no, count_yes}
use Rattle.routing.specs.Route.{vertex_of}
use Rattle.routing.specs.Stages.Store.{Rising}

-- ---- where a station stands

pub place_is : (s : ℕ) (l : List ℕ) (i : ℕ) → i < length l → ((j : ℕ) → j < i → get_or l j 0 ≡ s → ⊥) → get_or l i 0 ≡ s → vertex_of s l ≡ i
unfolding vertex_of
place_is s [] i h f e = absurd (omega arith)
place_is s (x ∷ xs) zero h f e = ap (λ (b : Bool). cond b 0 (suc (vertex_of s xs))) (eq-eqb x s e)
place_is s (x ∷ xs) (suc i) h f e =
    ap (λ (b : Bool). cond b 0 (suc (vertex_of s xs))) (ne_eqb x s (f 0 (omega arith)))
    ∙ ap suc (place_is s xs i (omega arith) (λ j g. f (suc j) (omega arith)) e)

pub place_none : (s : ℕ) (l : List ℕ) → ((j : ℕ) → j < length l → get_or l j 0 ≡ s → ⊥) → vertex_of s l ≡ length l
unfolding vertex_of
place_none s [] f = refl
place_none s (x ∷ xs) f =
    ap (λ (b : Bool). cond b 0 (suc (vertex_of s xs))) (ne_eqb x s (f 0 (omega arith))) ∙ ap suc (place_none s xs (λ j g. f (suc j) (omega arith)))

-- ---- occupied stations rise

chain_rises : (l : List ℕ) → Chain ltb l → (i j : ℕ) → i ≤ j → j < length l → get_or l i 0 ≤ get_or l j 0
chain_rises [] c i j h k = absurd (omega arith)
chain_rises (x ∷ xs) c zero zero h k = omega arith
chain_rises (x ∷ xs) c zero (suc j) h k =
    let z = all_at (λ y. (ltb x y ≡ true) × (ltb y x ≡ _)) xs j (le_of_suc-le-suc k) c.1 in
    let q : x < get_or xs j 0 = ltb-true x (get_or xs j 0) z.0 in
    omega arith
chain_rises (x ∷ xs) c (suc i) zero h k = absurd (omega arith)
chain_rises (x ∷ xs) c (suc i) (suc j) h k = chain_rises xs c.2 i j (le_of_suc-le-suc h) (le_of_suc-le-suc k)

pub occupied_rises : (counts : List ℕ) → Rising (occupied counts)
unfolding occupied
occupied_rises counts =
    record { each = chain_rises (which (is_occupied counts) (length counts)) (chain_keep ltb (is_occupied counts) (up_from 0 (length counts)) (chain_up 0 (length counts))) }

-- ---- the search by halving

module _ (c : ℕ) (stations : List ℕ) (s : ℕ) where
  abbrev station_at : ℕ → ℕ
  station_at j = get_or stations (2 * j + 1) 0

  -- lower stations stand before lo, others from hi on
  unfoldable pub Halving : ℕ → ℕ → Type 0
  Halving lo hi = (hi ≤ c) × ((j : ℕ) → j < lo → station_at j < s) × ((j : ℕ) → hi ≤ j → j < c → s ≤ station_at j)

  pub halve_start : Halving 0 c
  unfolding Halving
  halve_start = (omega arith, λ j h. absurd (omega arith), λ j h l. absurd (omega arith))

  module _ (r : Rising (order_in c stations)) where
    rises : (i j : ℕ) → i ≤ j → j < c → station_at i ≤ station_at j
    rises i j h l =
        let z = r.each i j h (subst (λ (n : ℕ). j < n) (sym (length_strided 2 1 0 c stations)) l) in
        omega (arith, z, get_d_strided 2 1 0 c i stations 0 (omega arith), get_d_strided 2 1 0 c j stations 0 l)

    module _ (lo hi mid : ℕ) (g : lo ≤ mid) (h : mid < hi) (v : Halving lo hi) where
      pub halve_right : station_at mid < s → Halving (mid + 1) hi
      unfolding Halving
      halve_right z = (v.0, λ j l. omega (arith, rises j mid (omega arith) (omega (arith, v.0))), v.2)

      pub halve_left : s ≤ station_at mid → Halving lo mid
      unfolding Halving
      halve_left z = (omega (arith, v.0), v.1, λ j l k. omega (arith, rises mid j l k))

    module _ (lo hi : ℕ) (e : hi ≤ lo) (v : Halving lo hi) where
      read : (j : ℕ) → j < c → get_or (order_in c stations) j 0 ≡ station_at j
      read j l = get_d_strided 2 1 0 c j stations 0 l

      pub halve_found : lo < c → station_at lo ≡ s → lo ≡ vertex_of s (order_in c stations)
      unfolding Halving
      halve_found l z =
          sym (place_is s (order_in c stations) lo (subst (λ (n : ℕ). lo < n) (sym (length_strided 2 1 0 c stations)) l)
          (λ j k w. omega (arith, v.1 j k, read j (omega arith))) (read lo l ∙ z))

      none : ((j : ℕ) → j < c → station_at j ≡ s → ⊥) → c ≡ vertex_of s (order_in c stations)
      none f =
          sym (place_none s (order_in c stations) (λ j k w. let l : j < c = subst (λ (n : ℕ). j < n) (length_strided 2 1 0 c stations) k in f j l (sym (read j l) ∙ w))
          ∙ length_strided 2 1 0 c stations)

      pub halve_past : c ≤ lo → c ≡ vertex_of s (order_in c stations)
      unfolding Halving
      halve_past l = none (λ j k w. omega (arith, v.1 j (omega arith)))

      pub halve_missed : lo < c → (station_at lo ≡ s → ⊥) → c ≡ vertex_of s (order_in c stations)
      unfolding Halving
      halve_missed l n =
          none
          (λ j k w.
          ⊎_elim
          (λ (t : lo ≤ j). n (omega (arith, rises lo j t k, v.2 lo (omega arith) l)))
          (λ (t : j < lo). omega (arith, v.1 j t))
          (le_or_lt lo j))

pub ruleset halving = (halve_start, halve_right, halve_left, halve_found, halve_past, halve_missed)

-- ---- the occupied stations written

module _ (k : ℕ) (first : List ℕ) where
  -- those of the first s stations, r of them, are written
  pub record Written (s : ℕ) (now : List ℕ) (r : ℕ) : Type 0 where
    pub few : r ≤ s
    pub counts : (j : ℕ) → get_or now (2 * j) 0 ≡ get_or first (2 * j) 0
    pub order : order_in r now ≡ passed k first s
    pub many : r ≡ passed_count k first s

  unfoldable pub Noted : ℕ → List ℕ → ℕ → Type 0
  Noted s now r = Written s now r

  pub note_start : Noted 0 first 0
  unfolding Noted
  note_start =
      record {
        few = zero-le;
        counts = λ j. refl;
        order = strided_zero 2 1 0 first ∙ sym (which_zero (is_occupied (counts_in k first)));
        many = sym (how_many_zero (is_occupied (counts_in k first)));
      }

  module _ (s : ℕ) (now : List ℕ) (r : ℕ) (h : s < k) (v : Noted s now r) where
    pub note_yes : 2 * k ≤ length now → 0 < get_or now (2 * s) 0 → Noted (s + 1) (set now (2 * r + 1) s) (r + 1)
    unfolding Noted
    note_yes l g =
        let q : 0 < get_or first (2 * s) 0 = omega (arith, v.counts s) in
        let i : 2 * r + 1 < length now = omega (arith, v.few) in
        record {
          few = omega (arith, v.few);
          counts = λ j. beside j ∙ v.counts j;
          order =
              ap (λ (n : ℕ). order_in n (set now (2 * r + 1) s)) (add-one r)
              ∙ strided_push 2 1 0 r now s (omega arith) i ∙ ap (λ (t : List ℕ). t ++ (s ∷ [])) v.order ∙ sym (passed_yes k first s h q);
          many = count_yes k first s h q r v.many;
        }
      where
        beside : (j : ℕ) → get_or (set now (2 * r + 1) s) (2 * j) 0 ≡ get_or now (2 * j) 0
        beside j =
            subst (λ (n : ℕ). get_or (set now (2 * r + 1) s) n 0 ≡ get_or now n 0) (add-zero (2 * j))
            (read_other 2 r j 0 1 now s 0 (omega arith) (omega arith) (λ e z. omega arith))

    pub note_no : get_or now (2 * s) 0 ≤ 0 → Noted (s + 1) now r
    unfolding Noted
    note_no g =
        let q : get_or first (2 * s) 0 ≤ 0 = omega (arith, v.counts s) in
        record {
          few = omega (arith, v.few);
          counts = v.counts;
          order = v.order ∙ passed_no k first s h q;
          many = count_no k first s h r q v.many;
        }

  module _ (now : List ℕ) (r : ℕ) (v : Noted k now r) where
    pub note_counts : counts_in k now ≡ counts_in k first
    unfolding Noted
    note_counts = strided_ext 2 0 0 k now first (λ j l. subst (λ (n : ℕ). get_or now n 0 ≡ get_or first n 0) (sym (add-zero (2 * j))) (v.counts j))

    pub note_order : order_in (length (occupied (counts_in k first))) now ≡ occupied (counts_in k first)
    unfolding Noted
    note_order = ap (λ (n : ℕ). order_in n now) (sym (count_all k first) ∙ sym v.many) ∙ v.order ∙ passed_all k first

pub ruleset noted = (note_start, note_yes, note_no, note_counts, note_order)
