-- Lists that are written from the front, some numbers a turn, over any type of elements. Assumes nothing.
use mathlib.Core.Path.{◌≡◌, refl, sym, ap, ◌∙◌, subst}
use mathlib.Core.List.{List, [], ◌∷◌, ◌++◌, append-nil, append_assoc, map, map-append}
use Prim.Native.Nat.{ℕ, suc, ◌+◌, ◌≤◌, ◌<◌}
use native.Mathlib.Omega.{arith}
use native.Mathlib.Numerals.{add-one}
use lib.ListN.{length, set, drop, take, length-append}
use lib.Seq.{sets, sets-eq, length-sets, take_at, drop-append-add, drop-drop}
use Rattle.numbers.specs.Table.{table}
use Rattle.numbers.proofs.order.Tables.{table_zero, table_suc}
use Rattle.runs.specs.Lists.{flat}
use Rattle.numbers.specs.Over.{over}

module _ {A : Type 0} where
  -- the first n elements of l are new, the others those of old
  pub record Written (new : List A) (n : ℕ) (old l : List A) : Type 0 where
    pub size : length new ≡ n
    pub room : length l ≡ length old
    pub is : l ≡ new ++ drop n old

  pub written_none : (new old : List A) → new ≡ [] → Written new 0 old old
  written_none new old e = rw e (record { size = refl; room = refl; is = refl })

  past : (new old : List A) (n c : ℕ) → length new ≡ n → drop (n + c) (new ++ drop n old) ≡ drop (n + c) old
  past new old n c e = subst (λ (k : ℕ). drop (k + c) (new ++ drop n old) ≡ drop (n + c) old) e (drop-append-add new (drop n old) c ∙ drop-drop c n old)

  pub written_more : (new all old l m vs : List A) (n k : ℕ) → n + length vs ≤ length old → m ≡ sets l n vs → all ≡ new ++ vs → k ≡ n + length vs
      → Written new n old l → Written all k old m
  written_more new all old l m vs n k h e f g w =
      let r : length l ≡ length old = w.room in
      let q : n + length vs ≤ length l = omega arith in
      let t : take n l ≡ new = ap (take n) w.is ∙ take_at new (drop n old) n w.size in
      let d : drop (n + length vs) l ≡ drop (n + length vs) old = ap (drop (n + length vs)) w.is ∙ past new old n (length vs) w.size in
      rw (f, g)
      (record {
        size = length-append new vs ∙ ap (λ (x : ℕ). x + length vs) w.size;
        room = ap length e ∙ length-sets l n vs ∙ w.room;
        is = e ∙ sets-eq vs l n q ∙ ap (λ (x : List A). x ++ vs ++ drop (n + length vs) l) t ∙ ap (λ (x : List A). new ++ vs ++ x) d;
      })

  -- one element more
  pub written_one : (new all old l : List A) (v : A) (n : ℕ) → n < length old → all ≡ new ++ (v ∷ []) → Written new n old l → Written all (n + 1) old (set l n v)
  written_one new all old l v n h e w = written_more new all old l (set l n v) (v ∷ []) n (n + 1) (omega arith) refl e refl w

  pub written_all : (new old l : List A) (n : ℕ) → Written new n old l → l ≡ over new old
  unfolding over
  written_all new old l n w = w.is ∙ ap (λ (k : ℕ). new ++ drop k old) (sym w.size)

  -- ---- a list that is equal to what is written
  pub all_written : (n : ℕ) (new all old l : List A) → new ≡ all → Written new n old l → l ≡ over all old
  all_written n new all old l f w = rw (← f) (written_all new old l n w)

-- ---- the numbers of a table's elements
module _ {A B : Type 0} (f : A → List B) (g : ℕ → A) where
  flat_append : (l m : List A) → flat f (l ++ m) ≡ flat f l ++ flat f m
  unfolding flat
  flat_append [] m = refl
  flat_append (x ∷ l) m = ap (λ (t : List B). f x ++ t) (flat_append l m) ∙ sym (append_assoc (f x) (flat f l) (flat f m))

  flat_one : (x : A) → flat f (x ∷ []) ≡ f x
  unfolding flat
  flat_one x = append-nil (f x)

  pub flat_none : flat f (table g 0) ≡ []
  unfolding flat
  flat_none = ap (flat f) (table_zero g)

  pub flat_more : (i : ℕ) (vs : List B) → vs ≡ f (g i) → flat f (table g (i + 1)) ≡ flat f (table g i) ++ vs
  flat_more i vs e = rw (add-one i, e) (ap (flat f) (table_suc g i) ∙ flat_append (table g i) (g i ∷ []) ∙ ap (λ (t : List B). flat f (table g i) ++ t) (flat_one (g i)))

module _ {A : Type 0} (g : ℕ → A) where
  pub table_more : (i : ℕ) (v : A) → v ≡ g i → table g (i + 1) ≡ table g i ++ (v ∷ [])
  table_more i v e = rw (add-one i, e) (table_suc g i)

  pub map_none : {B : Type 0} (f : A → B) → map f (table g 0) ≡ []
  map_none f = ap (map f) (table_zero g)

  pub map_more : {B : Type 0} (f : A → B) (i : ℕ) (v : B) → v ≡ f (g i) → map f (table g (i + 1)) ≡ map f (table g i) ++ (v ∷ [])
  map_more {B} f i v e = ap (map f) (table_more i (g i) refl) ∙ map-append f (table g i) (g i ∷ []) ∙ ap (λ (t : B). map f (table g i) ++ (t ∷ [])) (sym e)

-- ---- stores side by side
module _ {A : Type 0} (l : List A) (n : ℕ) where
  pub two_stores : (a b : A) → set (set l n a) (n + 1) b ≡ sets l n (a ∷ b ∷ [])
  two_stores a b = rw (add-one n) refl

  pub four_stores : (a b c d : A) → set (set (set (set l n a) (n + 1) b) (n + 2) c) (n + 3) d ≡ sets l n (a ∷ b ∷ c ∷ d ∷ [])
  four_stores a b c d =
      let e : n + 2 ≡ suc (suc n) = omega arith in
      let f : n + 3 ≡ suc (suc (suc n)) = omega arith in
      rw (add-one n, e, f) refl
