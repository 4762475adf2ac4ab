-- The walk of `ranking`: counters hold how many of each station were passed, and each number passed has its place.
-- Assumes nothing.
use mathlib.Core.Path.{◌≡◌, refl, sym, ap, ◌∙◌, subst}
use mathlib.Core.Bool.{Bool, true, false}
use mathlib.Core.List.{List, [], ◌∷◌, ◌++◌}
use Prim.Native.Nat.{ℕ, suc, ◌+◌, ◌*◌, ◌-◌, ◌≤◌, ◌<◌}
use native.Mathlib.Omega.{arith}
use native.Mathlib.Numerals.{add-one}
use lib.Dec.{eqb, ltb}
use lib.ListN.{length, take, get_or, set, length-set}
use lib.Seq.{take-suc, take-take, get_or-take, length-take-le, get_or-set_same, get_or-set_other}
use borrow.Author.Count.{below_more}
use borrow.Author.Tests.{ne_eqb, eqb-true, eqb-false}
use Rattle.numbers.specs.Order.{pick, key_at, sort_by, up_from, count, before, rank}
use Rattle.numbers.specs.Table.{table, strided}
use Rattle.numbers.proofs.order.Laws.{count_nil, count_sort, rank_found, below_sort}
use Rattle.numbers.proofs.order.Tables.{table_ext}
use Rattle.numbers.proofs.order.Strides.{is_table, read_other, strided_other}
use Rattle.network.specs.Views.{counts_in}
use Rattle.stations.specs.Stages.Ranking.{in_station, rank_in}
use Rattle.stations.proofs.ranking.Prefix.{prefix_law}
use Rattle.stations.proofs.ranking.Placing.{place_none, place_some}

-- ---- a count over one number more
count_snoc : (t : ℕ → Bool) (l : List ℕ) (x : ℕ) → count t (l ++ (x ∷ [])) ≡ pick (t x) (suc (count t l)) (count t l)
unfolding count
count_snoc t [] x = refl
count_snoc t (y ∷ ys) x = ap (λ (n : ℕ). pick (t y) (suc n) n) (count_snoc t ys x) ∙ go (t x) (t y)
  where
    go : (a b : Bool) → pick b (suc (pick a (suc (count t ys)) (count t ys))) (pick a (suc (count t ys)) (count t ys))
        ≡ pick a (suc (pick b (suc (count t ys)) (count t ys))) (pick b (suc (count t ys)) (count t ys))
    go true true = refl
    go true false = refl
    go false true = refl
    go false false = refl

count_next : (t : ℕ → Bool) (o : List ℕ) (p : ℕ) → p < length o → count t (take (p + 1) o) ≡ pick (t (get_or o p 0)) (suc (count t (take p o))) (count t (take p o))
count_next t o p h = rw (add-one p, take-suc o p 0 h) (count_snoc t (take p o) (get_or o p 0))

count_le : (t : ℕ → Bool) (l : List ℕ) → count t l ≤ length l
unfolding count
count_le t [] = omega arith
count_le t (x ∷ xs) = go (t x) (count_le t xs)
  where
    go : (b : Bool) → count t xs ≤ length xs → pick b (suc (count t xs)) (count t xs) ≤ suc (length xs)
    go true h = omega arith
    go false h = omega arith

pub record Walked (of : List ℕ) (c k : ℕ) (o S₀ P₀ S P : List ℕ) (p : ℕ) : Type 0 where
  pub most : p ≤ c
  pub size_s : length S ≡ length S₀
  pub size_p : length P ≡ length P₀
  pub counted : (s : ℕ) → s < k → get_or S (2 * s + 1) 0 ≡ count (λ j. eqb (get_or of j 0) s) (take p o)
  pub beside : counts_in k S ≡ counts_in k S₀
  pub placed : (key : ℕ → ℕ) → take c o ≡ sort_by key (up_from 0 c) → (q : ℕ) → q < p → get_or P (get_or o q 0) 0 ≡ rank_in (key_at of) key k c (get_or o q 0)

-- the number at x may be written again by what belongs there
again : (f : ℕ → ℕ) (P : List ℕ) (x y : ℕ) → x < length P → get_or P y 0 ≡ f y → get_or (set P x (f x)) y 0 ≡ f y
again f P x y h e = go (eqb y x) refl
  where
    go : (b : Bool) → eqb y x ≡ b → get_or (set P x (f x)) y 0 ≡ f y
    go true q = let r : y ≡ x = eqb-true y x q in rw r (get_or-set_same P x (f x) 0 h)
    go false q = get_or-set_other P x y (f x) 0 (eqb-false y x q) ∙ e

module _ (of : List ℕ) (c k : ℕ) (o S₀ P₀ : List ℕ) (ol : c ≤ length o) (pl : c ≤ length P₀) (sl : 2 * k ≤ length S₀) where
  pub walk_start : ((s : ℕ) → s < k → get_or S₀ (2 * s + 1) 0 ≡ 0) → Walked of c k o S₀ P₀ S₀ P₀ 0
  walk_start z = record {
    most = omega arith;
    size_s = refl;
    size_p = refl;
    counted = λ s h. z s h ∙ sym (count_nil (λ j. eqb (get_or of j 0) s));
    beside = refl;
    placed = λ key e q h. absurd (omega arith);
  }

  module _ (S P : List ℕ) (p : ℕ) (w : Walked of c k o S₀ P₀ S P p) (pc : p < c) (x : ℕ) (e : x ≡ get_or o p 0) (xc : x < c) where
    -- what belongs at x
    placed_next : (v : ℕ) → ((key : ℕ → ℕ) → take c o ≡ sort_by key (up_from 0 c) → v ≡ rank_in (key_at of) key k c x)
        → (key : ℕ → ℕ) → take c o ≡ sort_by key (up_from 0 c) → (q : ℕ) → q < p + 1 → get_or (set P x v) (get_or o q 0) 0 ≡ rank_in (key_at of) key k c (get_or o q 0)
    placed_next v f key g =
        let F : ℕ → ℕ = rank_in (key_at of) key k c in
        let xl : x < length P = omega (arith, w.size_p) in
        let r : v ≡ F x = f key g in
        subst (λ (u : ℕ). (q : ℕ) → q < p + 1 → get_or (set P x u) (get_or o q 0) 0 ≡ F (get_or o q 0)) (sym r)
        (below_more (λ q. get_or (set P x (F x)) (get_or o q 0) 0 ≡ F (get_or o q 0)) p (λ q h. again F P x (get_or o q 0) xl (w.placed key g q h))
        (subst (λ (y : ℕ). get_or (set P x (F x)) y 0 ≡ F y) e (get_or-set_same P x (F x) 0 xl)))

    -- a number of no station
    pub walk_past : k ≤ get_or of x 0 → Walked of c k o S₀ P₀ S (set P x 0) (p + 1)
    walk_past h = record {
      most = omega arith;
      size_s = w.size_s;
      size_p = length-set P x 0 ∙ w.size_p;
      counted = λ s l.
          let t : ℕ → Bool = λ j. eqb (get_or of j 0) s in
          let n : t (get_or o p 0) ≡ false = subst (λ (y : ℕ). t y ≡ false) e (ne_eqb (get_or of x 0) s (λ r. omega arith)) in
          w.counted s l ∙ sym (count_next t o p (omega arith) ∙ ap (λ (b : Bool). pick b (suc (count t (take p o))) (count t (take p o))) n);
      beside = w.beside;
      placed = placed_next 0 (λ key g. sym (place_none (key_at of) key k c x h));
    }

    module _ (h : get_or of x 0 < k) where
      abbrev s : ℕ
      s = get_or of x 0

      room : 2 * s + 1 < length S
      room = omega (arith, w.size_s)

      pub walk_fits : get_or S (2 * s + 1) 0 < c
      walk_fits = omega (arith, w.counted s h, count_le (λ j. eqb (get_or of j 0) s) (take p o), length-take-le p o (omega arith))

      value : (key : ℕ → ℕ) → take c o ≡ sort_by key (up_from 0 c) → get_or S (2 * s + 1) 0 ≡ rank_in (key_at of) key k c x
      value key g =
          let t : ℕ → Bool = λ j. eqb (get_or of j 0) s in
          let u : take p o ≡ take p (sort_by key (up_from 0 c)) = sym (take-take p c o (omega arith)) ∙ ap (take p) g in
          let v : get_or (sort_by key (up_from 0 c)) p 0 ≡ x = ap (λ (l : List ℕ). get_or l p 0) (sym g) ∙ get_or-take c o p 0 pc ∙ sym e in
          w.counted s h ∙ ap (count t) u ∙ prefix_law key t c p pc
          ∙ ap (λ (y : ℕ). count (λ j. pick (t j) (before key ltb j y) false) (up_from 0 c)) v
          ∙ sym (place_some (key_at of) key k c x h)

      counted_next : (r : ℕ) → r < k → get_or (set S (2 * s + 1) (get_or S (2 * s + 1) 0 + 1)) (2 * r + 1) 0 ≡ count (λ j. eqb (get_or of j 0) r) (take (p + 1) o)
      counted_next r l = go (eqb s r) refl
        where
          t : ℕ → Bool
          t = λ j. eqb (get_or of j 0) r

          next : (b : Bool) → eqb s r ≡ b → count t (take (p + 1) o) ≡ pick b (suc (count t (take p o))) (count t (take p o))
          next b q =
              count_next t o p (omega arith)
              ∙ ap (λ (b : Bool). pick b (suc (count t (take p o))) (count t (take p o))) (subst (λ (y : ℕ). t y ≡ b) e q)

          go : (b : Bool) → eqb s r ≡ b → get_or (set S (2 * s + 1) (get_or S (2 * s + 1) 0 + 1)) (2 * r + 1) 0 ≡ count t (take (p + 1) o)
          go true q =
              let z : s ≡ r = eqb-true s r q in
              subst (λ (i : ℕ). get_or (set S (2 * s + 1) (get_or S (2 * s + 1) 0 + 1)) (2 * i + 1) 0 ≡ suc (get_or S (2 * i + 1) 0)) z
              (get_or-set_same S (2 * s + 1) (get_or S (2 * s + 1) 0 + 1) 0 room ∙ add-one (get_or S (2 * s + 1) 0))
              ∙ ap suc (w.counted r l) ∙ sym (next true q)
          go false q =
              read_other 2 s r 1 1 S (get_or S (2 * s + 1) 0 + 1) 0 (omega arith) (omega arith) (λ z _. eqb-false s r q (sym z))
              ∙ w.counted r l ∙ sym (next false q)

      pub walk_in : Walked of c k o S₀ P₀ (set S (2 * s + 1) (get_or S (2 * s + 1) 0 + 1)) (set P x (get_or S (2 * s + 1) 0)) (p + 1)
      walk_in = record {
        most = omega arith;
        size_s = length-set S (2 * s + 1) (get_or S (2 * s + 1) 0 + 1) ∙ w.size_s;
        size_p = length-set P x (get_or S (2 * s + 1) 0) ∙ w.size_p;
        counted = counted_next;
        beside = strided_other 2 0 0 1 k s S (get_or S (2 * s + 1) 0 + 1) (omega arith) (omega arith) (λ z. omega arith) ∙ w.beside;
        placed = placed_next (get_or S (2 * s + 1) 0) value;
      }

  module _ (S P : List ℕ) (p : ℕ) (u : Walked of c k o S₀ P₀ S P p) (cp : c ≤ p) where
    w : Walked of c k o S₀ P₀ S P c
    w = let e : p ≡ c = omega (arith, u.most) in subst (Walked of c k o S₀ P₀ S P) e u

    pub walk_counts : strided 2 1 0 k S ≡ table (λ s. count (λ j. eqb (get_or of j 0) s) (take c o)) k
    unfolding strided
    walk_counts = table_ext (λ s. get_or S (2 * s + 1) 0) (λ s. count (λ j. eqb (get_or of j 0) s) (take c o)) k w.counted

    pub walk_places : (key : ℕ → ℕ) → take c o ≡ sort_by key (up_from 0 c) → take c P ≡ table (rank_in (key_at of) key k c) c
    walk_places key g =
        let F : ℕ → ℕ = rank_in (key_at of) key k c in
        is_table F c (take c P) 0 (length-take-le c P (omega (arith, w.size_p)))
        (λ x h.
        let r = rank_found key c x h in
        let q : ℕ = rank key c x in
        let y : get_or o q 0 ≡ x = sym (get_or-take c o q 0 r.0) ∙ ap (λ (l : List ℕ). get_or l q 0) g ∙ r.1 in
        get_or-take c P x 0 h ∙ subst (λ (i : ℕ). get_or P i 0 ≡ F i) y (w.placed key g q r.0))

-- ---- counters set to 0
pub record Cleared (k : ℕ) (S₀ S : List ℕ) (i : ℕ) : Type 0 where
  pub most : i ≤ k
  pub size : length S ≡ length S₀
  pub clear : (s : ℕ) → s < i → get_or S (2 * s + 1) 0 ≡ 0
  pub beside : counts_in k S ≡ counts_in k S₀

module _ (k : ℕ) (S₀ : List ℕ) (sl : 2 * k ≤ length S₀) where
  pub clear_start : Cleared k S₀ S₀ 0
  clear_start = record { most = omega arith; size = refl; clear = λ s h. absurd (omega arith); beside = refl }

  pub clear_step : (S : List ℕ) (i : ℕ) → i < k → Cleared k S₀ S i → Cleared k S₀ (set S (2 * i + 1) 0) (i + 1)
  clear_step S i h w = record {
    most = omega arith;
    size = length-set S (2 * i + 1) 0 ∙ w.size;
    clear = below_more (λ s. get_or (set S (2 * i + 1) 0) (2 * s + 1) 0 ≡ 0) i
        (λ s l. read_other 2 i s 1 1 S 0 0 (omega arith) (omega arith) (λ z _. omega arith) ∙ w.clear s l)
        (get_or-set_same S (2 * i + 1) 0 0 (omega (arith, w.size)));
    beside = strided_other 2 0 0 1 k i S 0 (omega arith) (omega arith) (λ z. omega arith) ∙ w.beside;
  }

-- ---- 0, .., c - 1 put at the front of l, and that part sorted
pub sorted_below : (key : ℕ → ℕ) (c : ℕ) (l : List ℕ) → take c l ≡ sort_by key (up_from 0 c) → (p : ℕ) → p < c → get_or l p 0 < c
sorted_below key c l e p h = subst (λ (x : ℕ). x < c) (ap (λ (l : List ℕ). get_or l p 0) (sym e) ∙ get_or-take c l p 0 h) (below_sort key c p h)

pub counted_sorted : (of key : ℕ → ℕ) (c k : ℕ) (l : List ℕ) → take c l ≡ sort_by key (up_from 0 c)
    → table (λ s. count (λ j. eqb (of j) s) (take c l)) k ≡ table (in_station of c) k
unfolding in_station
counted_sorted of key c k l e =
    table_ext (λ s. count (λ j. eqb (of j) s) (take c l)) (in_station of c) k
    (λ s h. ap (count (λ j. eqb (of j) s)) e ∙ count_sort key (λ j. eqb (of j) s) (up_from 0 c))
