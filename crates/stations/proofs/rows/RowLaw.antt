-- In each station the row numbers of its live internal branches and live line ends are pairwise different and fill 0, .., r - 1.
-- Assumes nothing.
use Prim.Native.Nat.{ℕ, zero, suc, ◌<◌, zero-le, suc-le-suc}
use mathlib.Core.Path.{◌≡◌, refl, sym, ap, subst, ◌∙◌}
use mathlib.Core.Bool.{Bool, true, false}
use mathlib.Core.List.{List, [], ◌∷◌}
use native.Mathlib.Nat.{not-suc-le-zero, le_of_suc-le-suc, zero-add}
use lib.Dec.{ltb}
use lib.ListN.{length, get_or}
use Rattle.numbers.specs.Order.{pick, sort_by, up_from, count, keep, before}
use Rattle.numbers.proofs.order.Laws.{all_at, all_sort, chain_up, chain_keep, keep_yes, keep_no, length_keep, count_keep, place_law_keep, found, get_d_up, length_up}
use Rattle.numbers.proofs.order.Merging.{length_sort}
use Rattle.numbers.proofs.order.Tables.{all_which}
use Rattle.plane.specs.declared.geometry.Point.{Point}
use Rattle.network.specs.declared.words.Kind.{Kind}
use Rattle.network.specs.Words.{kind_at}
use Rattle.stations.specs.Row.{has_row, row_key, rows_in, row}

-- v stands somewhere in l
abbrev pub Stands : ℕ → List ℕ → Type 0
Stands v l = (j : ℕ) × (j < length l) × (get_or l j 0 ≡ v)

pub kept_at : (p : ℕ → Bool) (l : List ℕ) (i : ℕ) → i < length l → p (get_or l i 0) ≡ true → Stands (get_or l i 0) (keep p l)
kept_at p [] i h e = absurd (not-suc-le-zero h)
kept_at p (x ∷ xs) zero h e = subst (Stands x) (sym (keep_yes p x xs e)) (0, suc-le-suc zero-le, refl)
kept_at p (x ∷ xs) (suc i) h e = go (p x) refl (kept_at p xs i (le_of_suc-le-suc h) e)
  where
    go : (b : Bool) → p x ≡ b → Stands (get_or xs i 0) (keep p xs) → Stands (get_or xs i 0) (keep p (x ∷ xs))
    go true q r = subst (Stands (get_or xs i 0)) (sym (keep_yes p x xs q)) (suc r.0, suc-le-suc r.1, r.2)
    go false q r = subst (Stands (get_or xs i 0)) (sym (keep_no p x xs q)) r

-- of the numbers below n that pass p, in the order of their keys and then by number: how many stand before i, and how many there are
module _ (key : ℕ → ℕ) (p : ℕ → Bool) (n : ℕ) where
  abbrev pub place : ℕ → ℕ
  place i = count (λ j. pick (p j) (before key ltb j i) false) (up_from 0 n)

  abbrev pub total : ℕ
  total = count p (up_from 0 n)

  abbrev kept : List ℕ
  kept = keep p (up_from 0 n)

  pub has_place : (i : ℕ) → i < n → p i ≡ true → (place i < total) × (get_or (sort_by key kept) (place i) 0 ≡ i)
  has_place i h e =
      let u : get_or (up_from 0 n) i 0 ≡ i = get_d_up 0 n i h ∙ zero-add i in
      let l : i < length (up_from 0 n) = rw (length_up 0 n) h in
      let k = kept_at p (up_from 0 n) i l (ap p u ∙ e) in
      let v : get_or kept k.0 0 ≡ i = k.2 ∙ u in
      let f = found key ltb kept (chain_keep ltb p (up_from 0 n) (chain_up 0 n)) k.0 k.1 in
      let c : count (λ j. before key ltb j (get_or kept k.0 0)) kept ≡ place i =
      ap (λ (w : ℕ). count (λ j. before key ltb j w) kept) v ∙ count_keep p (λ j. before key ltb j i) (up_from 0 n) in (
        subst (λ (w : ℕ). place i < w) (length_keep p (up_from 0 n)) (subst (λ (w : ℕ). w < length kept) c f.0),
        ap (λ (w : ℕ). get_or (sort_by key kept) w 0) (sym c) ∙ f.1 ∙ v,
      )

  pub place_below : (i : ℕ) → i < n → p i ≡ true → place i < total
  place_below i h e = (has_place i h e).0

  pub place_differs : (i j : ℕ) → i < n → p i ≡ true → j < n → p j ≡ true → place i ≡ place j → i ≡ j
  place_differs i j h e k f q = sym (has_place i h e).1 ∙ ap (λ (w : ℕ). get_or (sort_by key kept) w 0) q ∙ (has_place j k f).1

  pub place_taken : (r : ℕ) → r < total → (i : ℕ) × (i < n) × (p i ≡ true) × (place i ≡ r)
  place_taken r h =
      let k : r < length (sort_by key kept) = rw (length_sort key kept, length_keep p (up_from 0 n)) h in (
        get_or (sort_by key kept) r 0,
        all_at (λ x. x < n) (sort_by key kept) r k (all_sort key (λ x. x < n) kept (all_which p (λ x. x < n) n (λ i l e. l))),
        all_at (λ x. p x ≡ true) (sort_by key kept) r k (all_sort key (λ x. p x ≡ true) kept (all_which p (λ x. p x ≡ true) n (λ i l e. e))),
        place_law_keep key p n r h,
      )

-- the rows of station s
module _ (sub : List ℕ) (seeds : List Point) (ks : List Kind) (s : ℕ) where
  -- branch e has a row there
  abbrev pub Has : ℕ → Type 0
  Has e = (e < length ks) × (has_row sub s (kind_at ks e) ≡ true)

  abbrev here : ℕ → Bool
  here e = has_row sub s (kind_at ks e)

  abbrev key : ℕ → ℕ
  key e = row_key sub seeds s (kind_at ks e)

  pub rows_below : (e : ℕ) → Has e → row sub seeds ks s e < rows_in sub ks s
  unfolding row rows_in
  rows_below e h = place_below key here (length ks) e h.0 h.1

  pub rows_differ : (d e : ℕ) → Has d → Has e → row sub seeds ks s d ≡ row sub seeds ks s e → d ≡ e
  unfolding row
  rows_differ d e h k q = place_differs key here (length ks) d e h.0 h.1 k.0 k.1 q

  pub rows_fill : (r : ℕ) → r < rows_in sub ks s → (e : ℕ) × (Has e) × (row sub seeds ks s e ≡ r)
  unfolding row rows_in
  rows_fill r h = let t = place_taken key here (length ks) r h in (t.0, (t.1, t.2), t.3)
