-- The half-edges in the order of their first vertices: those of one vertex stand together, by number, and those of lower vertices before it. Assumes nothing.
use mathlib.Core.Path.{◌≡◌, sym, ap, ◌∙◌}
use mathlib.Core.Logic.{◌⊎◌, ⊎_elim}
use mathlib.Core.Bool.{Bool, true, false}
use mathlib.Core.List.{List, [], ◌∷◌, ◌++◌}
use Prim.Native.Nat.{ℕ, zero, suc, ◌+◌, ◌-◌, ◌≤◌, ◌<◌, zero-le}
use native.Mathlib.Omega.{arith}
use native.Mathlib.Nat.{add-zero, add-suc, suc-add, zero-add}
use lib.Dec.{ltb, eqb}
use lib.ListN.{length, get_or, take, drop, drop_of_length-le}
use lib.Seq.{drop-cons, get_or-take, take_at}
use borrow.Author.Tests.{lt-ltb, le-ltb, ne_eqb, ltb-true, ltb-false}
use Rattle.std.specs.List.Sorted.{IsPartitionedBy, IsPartitionPoint}
use Rattle.std.proofs.lemmas.List.Sorted.{IsPartitionedBy-ltb, IsNonDecreasingBy-from_default}
use Rattle.numbers.specs.Order.{key_at, sort_by, up_from, count, keep}
use Rattle.numbers.proofs.order.Merging.{le_or_lt, length_sort}
use Rattle.numbers.proofs.order.Laws.{Rising, all_map, all_at, count_yes, count_no, count_nil, count_none, count_sort, rising_sort, sorted, stable, keep_no, length_up, below_sort}
use Rattle.numbers.proofs.order.Tables.{how_many_le}
use Rattle.network.specs.Mesh.{at}
use Rattle.channels.specs.Round.{round_of, first_at, around}

-- ---- a list of rising keys: those below v stand before the others

module _ (key : ℕ → ℕ) (v : ℕ) where
  abbrev low : ℕ → Bool
  low h = ltb (key h) v

  -- where the first isn't below v, none is
  none_low : (x : ℕ) (xs : List ℕ) → v ≤ key x → Rising key (x ∷ xs) → count low (x ∷ xs) ≡ 0
  none_low x xs h r =
      count_no low x xs (le-ltb (key x) v h) ∙ count_none low xs (all_map (λ y. key x ≤ key y) (λ y. low y ≡ false) (λ y l. le-ltb (key y) v (omega arith)) xs r.0)

  pub lows_before : (l : List ℕ) → Rising key l → (j : ℕ) → j < count low l → key (get_or l j 0) < v
  lows_before [] r j h = absurd (omega (arith, count_nil low))
  lows_before (x ∷ xs) r j h = ⊎_elim (λ (g : v ≤ key x). absurd (omega (arith, none_low x xs g r))) (λ (g : key x < v). go j g (lows_before xs r.1) h) (le_or_lt v (key x))
    where
      go : (j : ℕ) → key x < v → ((j : ℕ) → j < count low xs → key (get_or xs j 0) < v) → j < count low (x ∷ xs) → key (get_or (x ∷ xs) j 0) < v
      go zero g ih h = g
      go (suc j) g ih h = ih j (omega (arith, count_yes low x xs (lt-ltb (key x) v g)))

  pub others_behind : (l : List ℕ) → Rising key l → (j : ℕ) → j < length l → count low l ≤ j → v ≤ key (get_or l j 0)
  others_behind [] r j l h = absurd (omega arith)
  others_behind (x ∷ xs) r j l h = ⊎_elim (λ (g : v ≤ key x). past j g l) (λ (g : key x < v). go j g (others_behind xs r.1) l h) (le_or_lt v (key x))
    where
      past : (j : ℕ) → v ≤ key x → j < suc (length xs) → v ≤ key (get_or (x ∷ xs) j 0)
      past zero g l = g
      past (suc j) g l = let z : key x ≤ key (get_or xs j 0) = all_at (λ y. key x ≤ key y) xs j (omega arith) r.0 in omega arith

      go : (j : ℕ) → key x < v → ((j : ℕ) → j < length xs → count low xs ≤ j → v ≤ key (get_or xs j 0)) → j < suc (length xs) → count low (x ∷ xs) ≤ j
          → v ≤ key (get_or (x ∷ xs) j 0)
      go zero g ih l h = absurd (omega (arith, count_yes low x xs (lt-ltb (key x) v g)))
      go (suc j) g ih l h = ih j (omega arith) (omega (arith, count_yes low x xs (lt-ltb (key x) v g)))

-- what none of k numbers from a on passes, is kept without them
keep_past : (p : ℕ → Bool) (l : List ℕ) (k a : ℕ) → a + k ≤ length l → ((j : ℕ) → a ≤ j → j < a + k → p (get_or l j 0) ≡ false) → keep p (drop a l) ≡ keep p (drop (a + k) l)
keep_past p l zero a h f = ap (λ (n : ℕ). keep p (drop n l)) (sym (add-zero a))
keep_past p l (suc k) a h f =
    ap (keep p) (drop-cons l a 0 (omega arith))
    ∙ keep_no p (get_or l a 0) (drop (suc a) l) (f a (omega arith) (omega arith))
    ∙ keep_past p l k (suc a) (omega arith) (λ j g e. f j (omega arith) (omega arith))
    ∙ ap (λ (n : ℕ). keep p (drop n l)) (suc-add a k ∙ sym (add-suc a k))

-- ---- the half-edges of a mesh

-- by what the code made: keys ks, the numbers o, and those sorted
pub round_made : (corners ks o l : List ℕ) (n : ℕ) → ks ≡ corners → o ≡ up_from 0 n → n ≡ length corners → l ≡ sort_by (key_at ks) o → l ≡ round_of corners
unfolding round_of
round_made corners ks o l n p q r s = s ∙ ap (λ (k : List ℕ). sort_by (key_at k) o) p ∙ ap (sort_by (key_at corners)) (q ∙ ap (up_from 0) r)

module _ (corners : List ℕ) where
  pub length_round : length (round_of corners) ≡ length corners
  unfolding round_of
  length_round = length_sort (at corners) (up_from 0 (length corners)) ∙ length_up 0 (length corners)

  -- what `go_round` leaves begins with it
  pub round_first : (l : List ℕ) → take (length corners) (round_of corners ++ l) ≡ round_of corners
  round_first l = take_at (round_of corners) l (length corners) length_round

  pub round_below : (p : ℕ) → p < length corners → get_or (round_of corners) p 0 < length corners
  unfolding round_of
  round_below p h = below_sort (at corners) (length corners) p h

  -- the vertex that the half-edge at place p starts at
  abbrev pub vertex_at : ℕ → ℕ
  vertex_at p = at corners (get_or (round_of corners) p 0)

  pub round_rises : (i j : ℕ) → i ≤ j → j < length corners → vertex_at i ≤ vertex_at j
  unfolding round_of
  round_rises i j h l = sorted (at corners) (up_from 0 (length corners)) i j h (rw (length_up 0 (length corners)) l)

  module _ (v : ℕ) where
    first_count : first_at corners v ≡ count (low (at corners) v) (round_of corners)
    unfolding first_at round_of
    first_count = sym (count_sort (at corners) (low (at corners) v) (up_from 0 (length corners)))

    rises : Rising (at corners) (round_of corners)
    unfolding round_of
    rises = rising_sort (at corners) (up_from 0 (length corners))

    -- before v's half-edges stand those of lower vertices, and from there on no others of those
    pub before_first : (j : ℕ) → j < first_at corners v → vertex_at j < v
    before_first j h = lows_before (at corners) v (round_of corners) rises j (omega (arith, first_count))

    pub from_first : (j : ℕ) → j < length corners → first_at corners v ≤ j → v ≤ vertex_at j
    from_first j l h = others_behind (at corners) v (round_of corners) rises j (omega (arith, length_round)) (omega (arith, first_count))

    first_within : first_at corners v ≤ length corners
    unfolding first_at
    first_within = how_many_le (low (at corners) v) (length corners)

    -- it is the only place of that kind
    pub first_is : (p : ℕ) → p ≤ length corners → ((j : ℕ) → j < p → vertex_at j < v) → ((j : ℕ) → p ≤ j → j < length corners → v ≤ vertex_at j) → p ≡ first_at corners v
    first_is p l f g =
        ⊎_elim
        (λ (h : p ≤ first). ⊎_elim (λ (k : first ≤ p). omega arith) (λ (k : p < first). absurd (omega (arith, before_first p k, g p (omega arith) (omega (arith, first_within))))) (le_or_lt first p))
        (λ (h : first < p). absurd (omega (arith, f first h, from_first first (omega arith) (omega arith))))
        (le_or_lt p first)
      where
        first : ℕ
        first = first_at corners v

    -- whether h starts at v
    abbrev pub own : ℕ → Bool
    own h = eqb (at corners h) v

    around_kept : around corners v ≡ keep own (round_of corners)
    unfolding around round_of
    around_kept = sym (stable (at corners) v (up_from 0 (length corners)))

    -- v's half-edges, by number, are its own from there on
    pub around_first : around corners v ≡ keep own (drop (first_at corners v) (round_of corners))
    around_first =
        around_kept
        ∙ keep_past own (round_of corners) (first_at corners v) 0 (omega (arith, first_within, length_round)) (λ j g l. ne_eqb (vertex_at j) v (λ e. omega (arith, before_first j (omega arith))))
        ∙ ap (λ (n : ℕ). keep own (drop n (round_of corners))) (zero-add (first_at corners v))

    -- there are none past the end
    pub round_out : (p : ℕ) → length corners ≤ p → keep own (drop p (round_of corners)) ≡ []
    unfolding keep
    round_out p l = let short : length (round_of corners) ≤ p = omega (arith, length_round) in ap (keep own) (drop_of_length-le (round_of corners) short)

    -- nor from where another's stands
    pub around_over : (p : ℕ) → p < length corners → first_at corners v ≤ p → (vertex_at p ≡ v → ⊥) → keep own (drop p (round_of corners)) ≡ []
    around_over p l h n =
        keep_past own (round_of corners) (length corners - p) p (omega (arith, length_round)) (λ j g k. ne_eqb (vertex_at j) v (λ e. n (omega (arith, from_first p l h, round_rises p j g (omega arith)))))
        ∙ round_out (p + (length corners - p)) (omega arith)

  -- where a list begins with this order, it is read there
  pub round_read : (l : List ℕ) → take (length corners) l ≡ round_of corners → (p : ℕ) → p < length corners → get_or l p 0 ≡ get_or (round_of corners) p 0
  round_read l e p h = sym (get_or-take (length corners) l p 0 h) ∙ ap (λ (k : List ℕ). get_or k p 0) e

  -- ---- the search: those that start below v stand first
  pub round_parted : (v : ℕ) → IsPartitionedBy (λ h. ltb (at corners h) v) (round_of corners)
  round_parted v =
      IsPartitionedBy-ltb (at corners) (round_of corners) v
      (IsNonDecreasingBy-from_default (at corners) (round_of corners) 0 (λ i j h l. round_rises i j h (rw length_round at l)))

  pub first_found : (v p : ℕ) → p ≤ length (round_of corners)
      → IsPartitionPoint (λ h. ltb (at corners h) v ≡ true) (λ h. ltb (at corners h) v ≡ false) (round_of corners) p → p ≡ first_at corners v
  first_found v p h w =
      first_is v p (rw length_round at h) (λ j l. ltb-true _ _ (w.0 j 0 zero-le l)) (λ j g l. ltb-false _ _ (w.1 j 0 g (omega (arith, length_round))))
