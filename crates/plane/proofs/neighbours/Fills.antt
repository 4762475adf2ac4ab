-- A loop that fills a list with a table, one store a turn: from the front, and in the order of given numbers. Assumes nothing.
use mathlib.Core.Path.{◌≡◌, sym, ap, ◌∙◌, subst}
use mathlib.Core.List.{List, ◌++◌}
use Prim.Native.Nat.{ℕ, suc, ◌+◌, ◌≤◌, ◌<◌}
use native.Mathlib.Omega.{arith}
use native.Mathlib.Decide.{ℕ_discrete}
use native.Mathlib.Numerals.{add-one}
use lib.ListN.{length, get_or, set, take, drop, length-set, take-append-drop}
use lib.Seq.{drop-cons, set_at, append_snoc, length-take-le, get_or-take, get_or-set_same, get_or-set_other, drop-set-lt, ext_get_or}
use borrow.Author.Count.{below_more}
use Rattle.numbers.specs.Table.{table}
use Rattle.numbers.proofs.order.Tables.{length_table, get_d_table, table_zero, table_suc}

module _ {A : Type 0} (f : ℕ → A) (d : List A) where
  pub fill_none : d ≡ table f 0 ++ drop 0 d
  fill_none = rw table_zero

  pub fill_more : (i : ℕ) → i < length d → set (table f i ++ drop i d) i (f i) ≡ table f (i + 1) ++ drop (i + 1) d
  fill_more i h =
      rw (add-one, drop-cons d i (f i), table_suc)
      (set_at (table f i) (get_or d i (f i)) (drop (suc i) d) (f i) i (length_table f i) ∙ sym (append_snoc (table f i) (f i) (drop (suc i) d)))

-- A loop that fills a list in the order of the numbers o: the first c of them are done, and nothing from n on is changed.
pub record Filled {A : Type 0} (f : ℕ → A) (o : List ℕ) (n : ℕ) (d₀ d : List A) (c : ℕ) : Type 0 where
  pub size : length d ≡ length d₀
  pub done : (e : A) (q : ℕ) → q < c → get_or d (get_or o q 0) e ≡ f (get_or o q 0)
  pub rest : drop n d ≡ drop n d₀

module _ {A : Type 0} (f : ℕ → A) (o : List ℕ) (n : ℕ) (d₀ : List A) where
  pub filled_more : (d : List A) (c : ℕ) (v : A) → Filled f o n d₀ d c → get_or o c 0 < n → n ≤ length d₀ → v ≡ f (get_or o c 0) → Filled f o n d₀ (set d (get_or o c 0) v) (c + 1)
  filled_more d c v k h m e = record {
    size = length-set d (get_or o c 0) v ∙ k.size;
    done = λ a. below_more (λ q. get_or (set d (get_or o c 0) v) (get_or o q 0) a ≡ f (get_or o q 0)) c (λ q l. at a q (k.done a q l) (ℕ_discrete (get_or o q 0) (get_or o c 0))) (own a);
    rest = drop-set-lt n d (get_or o c 0) v h ∙ k.rest;
  }
    where
      own : (a : A) → get_or (set d (get_or o c 0) v) (get_or o c 0) a ≡ f (get_or o c 0)
      own a = get_or-set_same d (get_or o c 0) v a (omega (arith, k.size, h, m)) ∙ e

      at : (a : A) (q : ℕ) → get_or d (get_or o q 0) a ≡ f (get_or o q 0) → Dec (get_or o q 0 ≡ get_or o c 0) → get_or (set d (get_or o c 0) v) (get_or o q 0) a ≡ f (get_or o q 0)
      at a q g (yes s) = subst (λ (j : ℕ). get_or (set d (get_or o c 0) v) j a ≡ f j) (sym s) (own a)
      at a q g (no s) = get_or-set_other d (get_or o c 0) (get_or o q 0) v a s ∙ g

  pub filled_end : (d : List A) → Filled f o n d₀ d n → n ≤ length d₀ → ((j : ℕ) → j < n → (q : ℕ) × (q < n) × (get_or o q 0 ≡ j)) → d ≡ table f n ++ drop n d₀
  filled_end d k m p =
      sym (take-append-drop n d)
      ∙ ap (λ (l : List A). l ++ drop n d) front ∙ ap (λ (l : List A). table f n ++ l) k.rest
    where
      long : n ≤ length d
      long = omega (arith, k.size, m)

      whole : length (take n d) ≡ n
      whole = length-take-le n d long

      front : take n d ≡ table f n
      front = ext_get_or (f 0) (take n d) (table f n) (whole ∙ sym (length_table f n)) (λ i h. at i (subst (λ (t : ℕ). i < t) whole h))
        where
          at : (i : ℕ) → i < n → get_or (take n d) i (f 0) ≡ get_or (table f n) i (f 0)
          at i h =
              let q = p i h in
              get_or-take n d i (f 0) h ∙ ap (λ (t : ℕ). get_or d t (f 0)) (sym q.2) ∙ k.done (f 0) q.0 q.1 ∙ ap f q.2 ∙ sym (get_d_table f n i (f 0) h)

-- a list filled from its front
pub ruleset fill_laws = (fill_none, fill_more)
