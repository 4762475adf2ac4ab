-- The list as a whole: none entered, chains emptied, and all boxes entered. Assumes nothing.
use mathlib.Core.Path.{◌≡◌, refl, sym, ap, ◌∙◌, subst}
use mathlib.Core.Bool.{true}
use mathlib.Core.List.{List, [], ◌∷◌, ◌++◌}
use Prim.Native.Nat.{ℕ, ◌+◌, ◌*◌, ◌^◌, ◌≤◌, ◌<◌}
use native.Mathlib.Nat.{mul-le-mul, mul-le-mul_left, mul-le-mul_right}
use native.Mathlib.Omega.{arith}
use lib.ListN.{length, get_or, set, take, length-set, replicate, length-replicate, get_or-replicate, get_or-append}
use lib.Seq.{get_or-set_same, get_or-set_other, get_or-append-add, get_or-take, length-take-le}
use Rattle.numbers.specs.Small.{is_finite}
use Rattle.numbers.specs.Ops.{◌⊖◌, ◌⊘◌, num}
use Rattle.plane.specs.declared.geometry.Box.{Box}
use Rattle.numbers.proofs.order.Laws.{All}
use Rattle.plane.specs.Plane.{box_in}
use Rattle.plane.specs.Stages.Window.{finite_box}
use Rattle.numbers.proofs.float.Ordered.{lift}
use Rattle.boxes.specs.declared.grid.Grid.{Grid}
use Rattle.boxes.specs.Stages.Cells.{grid_in, chain_of, chain_at, next_at, linked, On, Sized, Chained, Indexed}
use Rattle.boxes.specs.Stages.Cells.On.{here, behind}
use Rattle.boxes.specs.Stages.Enter.{Empty, SameGrid}
use Rattle.boxes.proofs.box_cells.Occupied.{all_in}
use Rattle.boxes.proofs.box_cells.Chaining.{first_other}

-- ---- a list that enters none
none_entered : (boxes : List Box) (stations l : List ℕ) → get_or l 0 0 ≡ 0 → Indexed boxes stations l
none_entered boxes stations l h = record { entered = λ g. absurd (no_more g) }
  where
    no_more : 0 < get_or l 0 0 → ⊥
    no_more g = omega arith

pub none_set : (boxes : List Box) (stations l : List ℕ) → 0 < length l → Indexed boxes stations (set l 0 0)
none_set boxes stations l h = none_entered boxes stations (set l 0 0) (get_or-set_same l 0 0 0 h)

pub none_empty : (boxes : List Box) (stations l : List ℕ) → length l ≡ 0 → Indexed boxes stations l
none_empty boxes stations [] h = none_entered boxes stations [] refl
none_empty boxes stations (x ∷ l) h = none_entered boxes stations (x ∷ l) (omega (arith, h))

-- ---- the chains emptied, and the grid's places kept
module _ (l ys rest : List ℕ) (m n : ℕ) (room : 7 + n ≤ length l) (zeros : ys ≡ replicate m 0) (many : m ≡ n) where
  filled : ys ≡ replicate n 0
  filled = zeros ∙ ap (λ (x : ℕ). replicate x 0) many

  front : length (take 7 l) ≡ 7
  front = length-take-le 7 l (omega arith)

  pub emptied : Empty n (take 7 l ++ (ys ++ rest)) × SameGrid l (take 7 l ++ (ys ++ rest))
  unfolding chain_at
  emptied = (
    record {
      none = λ c h.
          ap (λ (x : ℕ). get_or (take 7 l ++ (ys ++ rest)) (x + c) 0) (sym front) ∙ get_or-append-add (take 7 l) (ys ++ rest) c 0
          ∙ ap (λ (x : List ℕ). get_or (x ++ rest) c 0) filled ∙ get_or-append (replicate n 0) rest 0 c (simp length-replicate h) ∙ get_or-replicate n c 0 0 h;
    },
    record { same = λ i h. get_or-append (take 7 l) (ys ++ rest) 0 i (omega (arith, front, h)) ∙ get_or-take 7 l i 0 h },
  )

pub same_linked : (k c s : ℕ) (l m : List ℕ) → s < k → 7 + c < 4 * k → 5 * k ≤ length m → SameGrid l m → SameGrid l (linked k c s m)
same_linked k c s l m h g n e = record { same = λ i j. first_other k c s m h g n i j ∙ e.same i j }

pub same_grid : (boxes : List Box) (l m : List ℕ) → ((i : ℕ) → 1 ≤ i → i < 7 → get_or m i 0 ≡ get_or l i 0) → grid_in boxes m ≡ grid_in boxes l
unfolding grid_in
same_grid boxes l m h = whole (h 1 (omega arith) (omega arith)) (h 2 (omega arith) (omega arith)) (h 3 (omega arith) (omega arith)) (h 4 (omega arith) (omega arith)) (h 5 (omega arith) (omega arith)) (h 6 (omega arith) (omega arith))
  where
    of : ℕ → ℕ → ℕ → ℕ → ℕ → ℕ → Grid
    of a b c d e f =
        record {
          left = (box_in boxes a).left;
          top = (box_in boxes c).top;
          width = ((box_in boxes b).left ⊖ (box_in boxes a).left) ⊘ num e;
          height = ((box_in boxes d).top ⊖ (box_in boxes c).top) ⊘ num f;
          columns = e;
          rows = f;
        }

    whole : {a a' b b' c c' d d' e e' f f' : ℕ} → a ≡ a' → b ≡ b' → c ≡ c' → d ≡ d' → e ≡ e' → f ≡ f' → of a b c d e f ≡ of a' b' c' d' e' f'
    whole h i j k l m = cc

-- ---- the chains of two lists that have the same from place 7 on
module _ (g : Grid) (boxes : List Box) (stations : List ℕ) (k : ℕ) (l m : List ℕ) (room : 7 ≤ 4 * k) (same : (i : ℕ) → 7 ≤ i → get_or m i 0 ≡ get_or l i 0) where
  head_same : (c : ℕ) → chain_at m c ≡ chain_at l c
  unfolding chain_at
  head_same c = same (7 + c) (omega arith)

  next_same : (s : ℕ) → next_at k m s ≡ next_at k l s
  unfolding next_at
  next_same s = same (4 * k + s) (omega arith)

  on_same : (s h : ℕ) → On k l s h → On k m s h
  on_same s h here = here
  on_same s h (behind r o) = behind r (subst (On k m s) (sym (next_same r)) (on_same s (next_at k l r) o))

  pub chained_same : Chained g boxes stations k l → Chained g boxes stations k m
  chained_same c = record {
    heads = λ d h s e. c.heads d h s (sym (head_same d) ∙ e);
    nexts = λ s i r e. c.nexts s i r (sym (next_same s) ∙ e);
    each = λ s i. subst (On k m s) (sym (head_same (chain_of g (box_in boxes s)))) (on_same s (chain_at l (chain_of g (box_in boxes s))) (c.each s i));
  }

-- ---- numbers of columns and rows
counts_set : (l : List ℕ) (m n : ℕ) → 6 < length l → (get_or (set (set l 5 m) 6 n) 5 0 ≡ m) × (get_or (set (set l 5 m) 6 n) 6 0 ≡ n)
counts_set l m n h =
    (get_or-set_other (set l 5 m) 6 5 n 0 (λ e. apart e) ∙ get_or-set_same l 5 m 0 (omega arith), get_or-set_same (set l 5 m) 6 n 0 (simp length-set h))
  where
    apart : ◌≡◌ {A = ℕ} 5 6 → ⊥
    apart e = omega arith

pub counts_put : (l : List ℕ) (a b c d m n : ℕ) → 7 ≤ length l
    → (get_or (set (set (set (set (set (set l 1 a) 2 b) 3 c) 4 d) 5 m) 6 n) 5 0 ≡ m) × (get_or (set (set (set (set (set (set l 1 a) 2 b) 3 c) 4 d) 5 m) 6 n) 6 0 ≡ n)
counts_put l a b c d m n h = counts_set (set (set (set (set l 1 a) 2 b) 3 c) 4 d) m n (simp length-set (omega arith))

pub few_columns : (columns rows n : ℕ) → 1 ≤ rows → columns * rows ≤ n → columns ≤ n
few_columns columns rows n h k = let p : columns * 1 ≤ columns * rows = mul-le-mul_left columns h in omega arith

pub few_rows : (columns rows n : ℕ) → 1 ≤ columns → columns * rows ≤ n → rows ≤ n
few_rows columns rows n h k = let p : 1 * rows ≤ columns * rows = mul-le-mul_right rows h in omega arith

pub few_product : (a b n : ℕ) → a < n → b < n → n ≤ 16384 → (1 + a) * (1 + b) ≤ 2 ^ 28
few_product a b n h k m = let p : (1 + a) * (1 + b) ≤ 16384 * 16384 = mul-le-mul {n₁ = 1 + a} {m₁ = 1 + b} {n₂ = 16384} {m₂ = 16384} (omega arith) (omega arith) in omega arith

pub grid_counts : (boxes : List Box) (l : List ℕ) (g : Grid) → g ≡ grid_in boxes l → (g.columns ≡ get_or l 5 0) × (g.rows ≡ get_or l 6 0)
unfolding grid_in
grid_counts boxes l g h = (ap (λ (x : Grid). x.columns) h, ap (λ (x : Grid). x.rows) h)

pub same_room : (a b m n k : ℕ) → a ≡ m → b ≡ n → 8 + m * n ≤ k → 8 + a * b ≤ k
same_room a b m n k e f h = subst (λ (x : ℕ). 8 + x * b ≤ k) (sym e) (subst (λ (x : ℕ). 8 + m * x ≤ k) (sym f) h)

-- ---- all boxes entered: the grid written (l), the chains emptied (m), the stations entered (o)
module _ (boxes : List Box) (stations : List ℕ) (k : ℕ) (g : Grid) (l m o : List ℕ) (many : length boxes ≡ k) (here : g ≡ grid_in boxes l) (emptied : SameGrid l m) (entered : SameGrid m o) where
  grid_last : grid_in boxes (set o 0 1) ≡ g
  grid_last = same_grid boxes l (set o 0 1) (λ i h n. get_or-set_other o 0 i 1 0 (λ e. apart i h e) ∙ entered.same i n ∙ emptied.same i n) ∙ sym here
    where
      apart : (i : ℕ) → 1 ≤ i → i ≡ 0 → ⊥
      apart i h e = omega arith

  pub indexed_all : 1 ≤ g.columns → 1 ≤ g.rows → 8 + g.columns * g.rows ≤ 4 * k → is_finite g.left ≡ true → is_finite g.top ≡ true
      → All (λ s. finite_box (box_in boxes s) ≡ true) stations → Chained g boxes stations k o → Indexed boxes stations (set o 0 1)
  indexed_all c r n f t a h = record {
    entered = λ v. record {
      sized = subst (λ (x : Grid). Sized x (4 * length boxes)) (sym grid_last) (record { columns = c; rows = r; cells = omega arith; left = lift (is_finite g.left) f; top = lift (is_finite g.top) t });
      finite = all_in (λ s. finite_box (box_in boxes s) ≡ true) stations a;
      chained = subst (λ (x : Grid). Chained x boxes stations (length boxes) (set o 0 1)) (sym grid_last) (subst (λ (x : ℕ). Chained g boxes stations x (set o 0 1)) (sym many) (chained_same g boxes stations k o (set o 0 1) (omega arith) (λ i x. get_or-set_other o 0 i 1 0 (λ e. apart i x e)) h));
    };
  }
    where
      apart : (i : ℕ) → 7 ≤ i → i ≡ 0 → ⊥
      apart i h e = omega arith
