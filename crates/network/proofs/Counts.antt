-- Bus counts that grow by one bus at a time, on the list that holds them at its even places.
-- Assumes nothing.
use Prim.Native.Nat.{ℕ, suc, ◌+◌, ◌*◌, ◌<◌, ◌≤◌}
use mathlib.Core.Path.{◌≡◌, sym, ap, ◌∙◌}
use mathlib.Core.Bool.{true}
use mathlib.Core.List.{List, [], ◌∷◌, ◌++◌}
use native.Mathlib.Numerals.{add-one}
use native.Mathlib.Omega.{arith}
use borrow.Author.Tests.{eq-eqb, ne_eqb}
use lib.Dec.{eqb}
use lib.ListN.{length, get_or, set}
use Rattle.numbers.specs.Table.{table, how_many}
use Rattle.numbers.proofs.order.Tables.{get_d_table, table_zero, table_suc, table_ext, how_many_zero, how_many_yes, how_many_no, how_many_le}
use Rattle.numbers.proofs.order.Strides.{table_set, strided_zero, get_d_first, first_push, first_set}
use Rattle.network.specs.Words.{station_of, station_count, buses_in, bus_counts}
use Rattle.network.specs.Views.{counts_in}

-- ---- the first s of them set to 0
pub cleared_none : (l : List ℕ) → counts_in 0 l ≡ table (λ s. 0) 0
cleared_none l = strided_zero 2 0 0 l ∙ sym (table_zero (λ (s : ℕ). 0))

pub cleared_more : (s : ℕ) (l : List ℕ) → 2 * s < length l → counts_in s l ≡ table (λ s. 0) s → counts_in (s + 1) (set l (2 * s) 0) ≡ table (λ s. 0) (s + 1)
cleared_more s l h e =
    let z : 0 < 2 = omega arith in
    rw add-one (first_push 2 0 s l 0 z h ∙ ap (λ (m : List ℕ). m ++ (0 ∷ [])) e ∙ sym (table_suc (λ (s : ℕ). 0) s))

-- ---- the counts of the first i buses
module _ (sub : List ℕ) where
  -- how many of the first i buses carry the number s
  abbrev pub count_to : ℕ → ℕ → ℕ
  count_to i s = how_many (λ j. eqb (station_of sub j) s) i

  pub record Counted (k i : ℕ) (l : List ℕ) : Type 0 where
    pub counts : counts_in k l ≡ table (count_to i) k

  counted_at : (k i s : ℕ) (l : List ℕ) → s < k → Counted k i l → get_or l (2 * s) 0 ≡ count_to i s
  counted_at k i s l h c = sym (get_d_first 2 0 k s l 0 h) ∙ ap (λ (m : List ℕ). get_or m s 0) c.counts ∙ get_d_table (count_to i) k s 0 h

  pub counted_few : (k i s : ℕ) (l : List ℕ) → s < k → Counted k i l → get_or l (2 * s) 0 ≤ i
  counted_few k i s l h c = omega (arith, counted_at k i s l h c, how_many_le (λ j. eqb (station_of sub j) s) i)

  pub counted_none : (k : ℕ) (l : List ℕ) → counts_in k l ≡ table (λ s. 0) k → Counted k 0 l
  counted_none k l e = record { counts = e ∙ table_ext (λ s. 0) (count_to 0) k (λ s h. sym (how_many_zero (λ j. eqb (station_of sub j) s))) }

  pub counted_more : (k i s : ℕ) (l : List ℕ) → 2 * k ≤ length l → s ≡ station_of sub i → s < k → Counted k i l → Counted k (i + 1) (set l (2 * s) (get_or l (2 * s) 0 + 1))
  counted_more k i s l r e h c =
      let z : 0 < 2 = omega arith in
      let q : 2 * s < length l = omega arith in
      let v : get_or l (2 * s) 0 + 1 ≡ suc (count_to i s) = add-one (get_or l (2 * s) 0) ∙ ap suc (counted_at k i s l h c) in
      let own : eqb (station_of sub i) s ≡ true = eq-eqb (station_of sub i) s (sym e) in
      record {
        counts = first_set 2 0 k s l (get_or l (2 * s) 0 + 1) z h q
            ∙ ap (λ (m : List ℕ). set m s (get_or l (2 * s) 0 + 1)) c.counts
            ∙ sym (table_set (count_to i) (count_to (i + 1)) k s (get_or l (2 * s) 0 + 1) h
            (ap (λ (n : ℕ). count_to n s) (add-one i) ∙ how_many_yes (λ j. eqb (station_of sub j) s) i own ∙ sym v)
            (λ j g n. ap (λ (m : ℕ). count_to m j) (add-one i) ∙ how_many_no (λ t. eqb (station_of sub t) j) i (ne_eqb (station_of sub i) j (λ p. n (sym p ∙ sym e)))));
      }

  pub counted_all : (k : ℕ) (l : List ℕ) → k ≡ station_count sub → Counted k (length sub) l → counts_in k l ≡ bus_counts sub
  unfolding bus_counts buses_in
  counted_all k l e c = c.counts ∙ ap (table (count_to (length sub))) e

pub ruleset counting = (counted_none, counted_few, counted_more, counted_all)
