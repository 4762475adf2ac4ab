-- Rows are counted by entries: each branch with a row in a station has exactly one entry there, and entries stand there as their branches do.
-- Assumes nothing.
use mathlib.Core.Path.{◌≡◌, refl, sym, ap, ◌∙◌}
use mathlib.Core.Logic.{◌⊎◌, inl, inr, ⊎_elim}
use mathlib.Core.Bool.{Bool, true, false, ◌||◌}
use mathlib.Core.List.{List}
use Prim.Native.Nat.{ℕ, zero, suc, ◌+◌, ◌*◌, ◌/◌, ◌%◌, ◌≤◌, ◌<◌}
use native.Mathlib.Omega.{arith}
use lib.Dec.{eqb, ltb}
use lib.ListN.{length}
use borrow.Author.Tests.{lt-ltb, le-ltb, eq-eqb, ne_eqb, eqb-true, eqb-false, ltb-true, ltb-false}
use Rattle.numbers.specs.Ops.{order_key}
use Rattle.numbers.specs.Order.{pick, before}
use Rattle.numbers.specs.Table.{how_many}
use Rattle.numbers.proofs.order.Tables.{how_many_zero, how_many_suc}
use Rattle.plane.specs.declared.geometry.Point.{Point}
use Rattle.network.specs.declared.words.Kind.{Kind}
use Rattle.network.specs.declared.words.Kind.TheVariants.{Undrawn, Open, Internal, Line}
use Rattle.network.specs.Words.{kind_at, station_of, Safe}
use Rattle.network.specs.Seed.{place_at}
use Rattle.stations.specs.Row.{has_row, row_key, rows_in, row}
use Rattle.stations.specs.Stages.Entry.{none, end_station, end_key, from_end, entry_station, entry_key}
use Rattle.stations.specs.Stages.Ranking.{in_station}
use Rattle.stations.proofs.ranking.Placing.{before_ext}

-- ---- counting by pairs
-- one of the two numbers of a pair counts if i does, the other doesn't
abbrev Halves : Bool → Bool → Bool → Type 0
Halves p q r = ((p ≡ r) × (q ≡ false)) ⊎ ((p ≡ false) × (q ≡ r))

half : (p q r : Bool) (n : ℕ) → Halves p q r → pick q (suc (pick p (suc n) n)) (pick p (suc n) n) ≡ pick r (suc n) n
half p q r n (inl h) = ap (λ (b : Bool). pick b (suc (pick p (suc n) n)) (pick p (suc n) n)) h.1 ∙ ap (λ (b : Bool). pick b (suc n) n) h.0
half p q r n (inr h) = ap (λ (b : Bool). pick q (suc (pick b (suc n) n)) (pick b (suc n) n)) h.0 ∙ ap (λ (b : Bool). pick b (suc n) n) h.1

how_many_pairs : (p r : ℕ → Bool) (m : ℕ) → ((i : ℕ) → i < m → Halves (p (2 * i)) (p (2 * i + 1)) (r i)) → how_many p (2 * m) ≡ how_many r m
how_many_pairs p r zero h = how_many_zero p ∙ sym (how_many_zero r)
how_many_pairs p r (suc m) h =
    let n : ℕ = how_many p (2 * m) in
    let e : 2 * suc m ≡ suc (suc (2 * m)) = omega arith in
    let o : 2 * m + 1 ≡ suc (2 * m) = omega arith in
    ap (how_many p) e ∙ how_many_suc p (suc (2 * m)) ∙ ap (λ (k : ℕ). pick (p (suc (2 * m))) (suc k) k) (how_many_suc p (2 * m))
    ∙ ap (λ (j : ℕ). pick (p j) (suc (pick (p (2 * m)) (suc n) n)) (pick (p (2 * m)) (suc n) n)) (sym o)
    ∙ half (p (2 * m)) (p (2 * m + 1)) (r m) n (h m (omega arith))
    ∙ ap (λ (k : ℕ). pick (r m) (suc k) k) (how_many_pairs p r m (λ i l. h i (omega arith)))
    ∙ sym (how_many_suc r m)

-- ---- the two entries of a branch
abbrev pub entry : Bool → ℕ → ℕ
entry true i = 2 * i
entry false i = 2 * i + 1

side_at : (b : Bool) (i : ℕ) → (from_end (entry b i) ≡ b) × (entry b i / 2 ≡ i)
side_at true i = let e : 2 * i % 2 ≡ 0 = omega arith in (eq-eqb (2 * i % 2) 0 e, omega arith)
side_at false i = (ne_eqb ((2 * i + 1) % 2) 0 (λ q. omega arith), omega arith)

of_entry : (x : ℕ) → entry (from_end x) (x / 2) ≡ x
of_entry x = go (from_end x) refl
  where
    go : (b : Bool) → from_end x ≡ b → entry b (x / 2) ≡ x
    go true q = let e : x % 2 ≡ 0 = eqb-true (x % 2) 0 q in omega arith
    go false q = let e : x % 2 ≡ 0 → ⊥ = eqb-false (x % 2) 0 q in omega arith

or_first : (a b : Bool) → a ≡ true → a || b ≡ true
or_first true b e = refl
or_first false b e = cc

or_second : (a b : Bool) → a ≡ false → a || b ≡ b
or_second true b e = cc
or_second false b e = refl

-- ---- a branch's ends in station s, which isn't none
module _ (sub : List ℕ) (s : ℕ) (sn : s < none) where
  never : eqb none s ≡ false
  never = ne_eqb none s (λ q. omega arith)

  ends_in : (k : Kind) → Safe sub k → Halves (eqb (end_station sub true k) s) (eqb (end_station sub false k) s) (has_row sub s k)
  unfolding Safe end_station has_row
  ends_in Undrawn h = inl (never, never)
  ends_in (Open a b) h = inl (never, never)
  ends_in (Internal a b) h = inl (refl, never)
  ends_in (Line a b) h = go (eqb (station_of sub a) s) refl
    where
      go : (t : Bool) → eqb (station_of sub a) s ≡ t → Halves (eqb (station_of sub a) s) (eqb (station_of sub b) s) (eqb (station_of sub a) s || eqb (station_of sub b) s)
      go true q =
          let e : station_of sub a ≡ s = eqb-true (station_of sub a) s q in
          inl (q ∙ sym (or_first (eqb (station_of sub a) s) (eqb (station_of sub b) s) q), ne_eqb (station_of sub b) s (λ r. h.2 (e ∙ sym r)))
      go false q = inr (q, sym (or_second (eqb (station_of sub a) s) (eqb (station_of sub b) s) q))

  end_key_lem : (seeds : List Point) (b : Bool) (k : Kind) → Safe sub k → end_station sub b k ≡ s → end_key sub seeds b k ≡ row_key sub seeds s k
  unfolding Safe end_station end_key row_key
  end_key_lem seeds b Undrawn h e = refl
  end_key_lem seeds b (Open a c) h e = refl
  end_key_lem seeds b (Internal a c) h e = refl
  end_key_lem seeds true (Line a c) h e =
      ap (λ (t : Bool). suc (order_key (place_at seeds (station_of sub (pick t c a))).y)) (sym (eq-eqb (station_of sub a) s e))
  end_key_lem seeds false (Line a c) h e =
      ap (λ (t : Bool). suc (order_key (place_at seeds (station_of sub (pick t c a))).y)) (sym (ne_eqb (station_of sub a) s (λ r. h.2 (r ∙ sym e))))

-- ---- all entries of station s
module _ (sub : List ℕ) (ks : List Kind) (safe : (e : ℕ) → e < length ks → Safe sub (kind_at ks e)) where
  abbrev m : ℕ
  m = length ks

  abbrev of : ℕ → ℕ
  of = entry_station sub ks

  pub of_at : (b : Bool) (i : ℕ) → of (entry b i) ≡ end_station sub b (kind_at ks i)
  unfolding entry_station
  of_at b i = let h = side_at b i in ap (λ (t : Bool). end_station sub t (kind_at ks (entry b i / 2))) h.0 ∙ ap (λ (j : ℕ). end_station sub b (kind_at ks j)) h.1

  module _ (s : ℕ) (sn : s < none) where
    pair : (i : ℕ) → i < m → Halves (eqb (of (2 * i)) s) (eqb (of (2 * i + 1)) s) (has_row sub s (kind_at ks i))
    pair i h = rw (of_at true i, of_at false i) (ends_in sub s sn (kind_at ks i) (safe i h))

    pub rows_counted : in_station of (2 * m) s ≡ rows_in sub ks s
    unfolding in_station rows_in
    rows_counted = how_many_pairs (λ j. eqb (of j) s) (λ i. has_row sub s (kind_at ks i)) m pair

    -- a branch has one entry there at most
    not_both : (i : ℕ) → i < m → of (2 * i) ≡ s → of (2 * i + 1) ≡ s → ⊥
    not_both i h e f = ⊎_elim (λ p. eqb-false (of (2 * i + 1)) s p.1 f) (λ p. eqb-false (of (2 * i)) s p.0 e) (pair i h)

    one_side : (i : ℕ) → i < m → (a b : Bool) → of (entry a i) ≡ s → of (entry b i) ≡ s → a ≡ b
    one_side i h true true e f = refl
    one_side i h false false e f = refl
    one_side i h true false e f = absurd (not_both i h e f)
    one_side i h false true e f = absurd (not_both i h f e)

    one_entry : (j x : ℕ) → j < 2 * m → of j ≡ s → of x ≡ s → j / 2 ≡ x / 2 → j ≡ x
    one_entry j x h e f q =
        let i : ℕ = x / 2 in
        let a : entry (from_end j) i ≡ j = ap (entry (from_end j)) (sym q) ∙ of_entry j in
        let r : from_end j ≡ from_end x = one_side i (omega arith) (from_end j) (from_end x) (ap of a ∙ e) (ap of (of_entry x) ∙ f) in
        sym a ∙ ap (λ (b : Bool). entry b i) r ∙ of_entry x

    -- so entries there stand by number as their branches do
    by_number : (j x : ℕ) → j < 2 * m → of j ≡ s → of x ≡ s → ltb j x ≡ ltb (j / 2) (x / 2)
    by_number j x h e f = go (ltb (j / 2) (x / 2)) refl (eqb (j / 2) (x / 2)) refl
      where
        go : (a : Bool) → ltb (j / 2) (x / 2) ≡ a → (b : Bool) → eqb (j / 2) (x / 2) ≡ b → ltb j x ≡ a
        go true p b q = let l : j / 2 < x / 2 = ltb-true (j / 2) (x / 2) p in lt-ltb j x (omega arith)
        go false p true q = let r : j ≡ x = one_entry j x h e f (eqb-true (j / 2) (x / 2) q) in le-ltb j x (omega arith)
        go false p false q =
            let l : x / 2 ≤ j / 2 = ltb-false (j / 2) (x / 2) p in
            let n : j / 2 ≡ x / 2 → ⊥ = eqb-false (j / 2) (x / 2) q in
            le-ltb j x (omega arith)

    module _ (seeds : List Point) where
      abbrev key : ℕ → ℕ
      key = entry_key sub seeds ks

      abbrev row_at : ℕ → ℕ
      row_at i = row_key sub seeds s (kind_at ks i)

      key_at : (x : ℕ) → x < 2 * m → of x ≡ s → key x ≡ row_at (x / 2)
      unfolding entry_key entry_station
      key_at x h e = end_key_lem sub s sn seeds (from_end x) (kind_at ks (x / 2)) (safe (x / 2) (omega arith)) e

      as_branches : (j x : ℕ) → j < 2 * m → x < 2 * m → of j ≡ s → of x ≡ s → before key ltb j x ≡ before row_at ltb (j / 2) (x / 2)
      as_branches j x h k e f = before_ext key row_at ltb ltb j x (j / 2) (x / 2) (key_at j h e) (key_at x k f) (by_number j x h e f)

      module _ (x : ℕ) (xm : x < 2 * m) (xs : of x ≡ s) where
        -- an entry counts before x as its branch does
        counts : (b : Bool) (i : ℕ) → i < m → (r : Bool) → eqb (of (entry b i)) s ≡ r
            → pick (eqb (of (entry b i)) s) (before key ltb (entry b i) x) false ≡ pick r (before row_at ltb i (x / 2)) false
        counts b i h r e = ap (λ (t : Bool). pick t (before key ltb (entry b i) x) false) e ∙ go r e
          where
            below : (b : Bool) → entry b i < 2 * m
            below true = omega arith
            below false = omega arith

            go : (r : Bool) → eqb (of (entry b i)) s ≡ r → pick r (before key ltb (entry b i) x) false ≡ pick r (before row_at ltb i (x / 2)) false
            go true q =
                as_branches (entry b i) x (below b) xm (eqb-true (of (entry b i)) s q) xs ∙ ap (λ (j : ℕ). before row_at ltb j (x / 2)) (side_at b i).1
            go false q = refl

        pub row_counted : how_many (λ j. pick (eqb (of j) s) (before key ltb j x) false) (2 * m) ≡ row sub seeds ks s (x / 2)
        unfolding row
        row_counted =
            how_many_pairs (λ j. pick (eqb (of j) s) (before key ltb j x) false) (λ i. pick (has_row sub s (kind_at ks i)) (before row_at ltb i (x / 2)) false) m
            (λ i h. ⊎_elim
            (λ p. inl (counts true i h (has_row sub s (kind_at ks i)) p.0, counts false i h false p.1))
            (λ p. inr (counts true i h false p.0, counts false i h (has_row sub s (kind_at ks i)) p.1))
            (pair i h))
