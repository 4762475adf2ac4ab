-- A look at a window's chains passes their stations one by one: what each of them keeps the look keeps, and what one station brings is there after it. Assumes nothing.
use mathlib.Core.Path.{◌≡◌, refl, subst}
use mathlib.Core.List.{List}
use mathlib.Core.Bool.{Bool, true, false}
use Prim.Native.Nat.{ℕ, zero, suc, ◌+◌, ◌-◌, ◌*◌, ◌≤◌, ◌<◌, min}
use native.Mathlib.Omega.{arith}
use lib.Dec.{ltb}
use borrow.Author.Tests.{ltb-true, ltb-false}
use Rattle.plane.specs.declared.geometry.Point.{Point}
use Rattle.plane.specs.declared.geometry.Box.{Box}
use Rattle.boxes.specs.declared.grid.Grid.{Grid}
use Rattle.boxes.specs.Stages.Cells.{column_of, row_of, chain_at, next_at, On, here, behind, InWindow, wide, cell}
use Rattle.boxes.specs.declared.first_hit.search.Near.{Near}
use Rattle.boxes.specs.Stages.Looks.{passed, chain_to, after_chain, after_chains, after_rows, after_window}

-- S are the stations that chains hold
module _ (boxes : List Box) (p q : Point) (a b k : ℕ) (l : List ℕ) (w : Box) (S : ℕ → Type 0)
    (nexts : (s : ℕ) → S s → (r : ℕ) → min (next_at k l s) s ≡ suc r → S r) where
  -- a fact that holds after one more station where it held before
  abbrev pub Keeps : (Near → Type 0) → Type 0
  Keeps P = (s : ℕ) → S s → (n : Near) → P n → P (passed boxes p q a b k l w s n)

  -- the chain that begins with h begins with one of the stations
  abbrev Begins : ℕ → Type 0
  Begins h = (s : ℕ) → h ≡ suc s → S s

  -- those of the rows from r on, m of them, from column i to column j, do
  abbrev pub Block : Grid → ℕ → ℕ → ℕ → ℕ → Type 0
  Block g i j r m = (x y : ℕ) → r ≤ x → x < r + m → i ≤ y → y ≤ j → Begins (chain_at l (1 + x * g.columns + y))

  row_of_lem : (g : Grid) (i j r m : ℕ) → Block g i j r (suc m) → (c : ℕ) → 1 + r * g.columns + i ≤ c → c < 1 + r * g.columns + i + (suc j - i) → Begins (chain_at l c)
  row_of_lem g i j r m h c lo hi =
      let y : ℕ = c - (1 + r * g.columns) in
      let e : 1 + r * g.columns + y ≡ c = omega arith in
      subst (λ (x : ℕ). Begins (chain_at l x)) e (h r y (omega arith) (omega arith) (omega arith) (omega arith))

  -- ---- what is kept
  module _ (P : Near → Type 0) (keep : Keeps P) where
    to_keeps : (f h : ℕ) → Begins h → (n : Near) → P n → P (chain_to boxes p q a b k l w f h n)
    unfolding chain_to
    to_keeps zero h i n x = x
    to_keeps (suc f) zero i n x = x
    to_keeps (suc f) (suc s) i n x = to_keeps f (min (next_at k l s) s) (nexts s (i s refl)) (passed boxes p q a b k l w s n) (keep s (i s refl) n x)

    chain_keeps : (c : ℕ) → Begins (chain_at l c) → (n : Near) → P n → P (after_chain boxes p q a b k l w c n)
    unfolding after_chain
    chain_keeps c i n x = to_keeps (chain_at l c) (chain_at l c) i n x

    chains_keep : (c m : ℕ) → ((i : ℕ) → c ≤ i → i < c + m → Begins (chain_at l i)) → (n : Near) → P n → P (after_chains boxes p q a b k l w c m n)
    unfolding after_chains
    chains_keep c zero h n x = x
    chains_keep c (suc m) h n x =
        chains_keep (suc c) m (λ i lo hi. h i (omega arith) (omega arith)) (after_chain boxes p q a b k l w c n) (chain_keeps c (h c (omega arith) (omega arith)) n x)

    rows_keep : (g : Grid) (i j r m : ℕ) → Block g i j r m → (n : Near) → P n → P (after_rows boxes p q a b k l w g i j r m n)
    unfolding after_rows
    rows_keep g i j r zero h n x = x
    rows_keep g i j r (suc m) h n x =
        rows_keep g i j (suc r) m (λ x y lo hi le ge. h x y (omega arith) (omega arith) le ge)
        (after_chains boxes p q a b k l w (1 + r * g.columns + i) (suc j - i) n)
        (chains_keep (1 + r * g.columns + i) (suc j - i) (row_of_lem g i j r m h) n x)

  -- ---- what station t brings
  module _ (P Q : Near → Type 0) (keep : Keeps P) (hold : Keeps Q) (t : ℕ) (bring : (n : Near) → P n → Q (passed boxes p q a b k l w t n))
      (falls : (s : ℕ) → S s → next_at k l s ≤ s) where
    not_empty : (h : ℕ) → On k l t h → 0 < h
    not_empty h here = omega arith
    not_empty h (behind r o) = omega arith

    to_brings : (f h : ℕ) → h ≤ f → Begins h → On k l t h → (n : Near) → P n → Q (chain_to boxes p q a b k l w f h n)
    unfolding chain_to
    to_brings zero h fuel i o n x = absurd (let z : 0 < h = not_empty h o in omega arith)
    to_brings (suc f) h fuel i here n x = to_keeps Q hold f (min (next_at k l t) t) (nexts t (i t refl)) (passed boxes p q a b k l w t n) (bring n x)
    to_brings (suc f) h fuel i (behind r o) n x =
        let d : next_at k l r ≤ r = falls r (i r refl) in
        let e : next_at k l r ≡ min (next_at k l r) r = omega arith in
        to_brings f (min (next_at k l r) r) (omega arith) (nexts r (i r refl)) (subst (On k l t) e o) (passed boxes p q a b k l w r n) (keep r (i r refl) n x)

    chain_brings : (c : ℕ) → Begins (chain_at l c) → On k l t (chain_at l c) → (n : Near) → P n → Q (after_chain boxes p q a b k l w c n)
    unfolding after_chain
    chain_brings c i o n x = to_brings (chain_at l c) (chain_at l c) (omega arith) i o n x

    chains_bring : (c m : ℕ) → ((i : ℕ) → c ≤ i → i < c + m → Begins (chain_at l i)) → (i : ℕ) → c ≤ i → i < c + m → On k l t (chain_at l i) → (n : Near) → P n → Q (after_chains boxes p q a b k l w c m n)
    unfolding after_chains
    chains_bring c zero h i lo hi o n x = absurd (omega arith)
    chains_bring c (suc m) h i lo hi o n x =
        go (ltb c i) refl
        (λ z. chains_bring (suc c) m rest i z (omega arith) o (after_chain boxes p q a b k l w c n) (chain_keeps P keep c (h c (omega arith) (omega arith)) n x))
      where
        rest : (i : ℕ) → suc c ≤ i → i < suc c + m → Begins (chain_at l i)
        rest i lo hi = h i (omega arith) (omega arith)

        go : (y : Bool) → ltb c i ≡ y → (c < i → Q (after_chains boxes p q a b k l w (suc c) m (after_chain boxes p q a b k l w c n)))
            → Q (after_chains boxes p q a b k l w (suc c) m (after_chain boxes p q a b k l w c n))
        go true e on = on (ltb-true c i e)
        go false e on =
            let z : i ≤ c = ltb-false c i e in
            let same : i ≡ c = omega arith in
            chains_keep Q hold (suc c) m rest (after_chain boxes p q a b k l w c n)
            (chain_brings c (h c (omega arith) (omega arith)) (subst (λ (y : ℕ). On k l t (chain_at l y)) same o) n x)

    rows_bring : (g : Grid) (i j r m : ℕ) → Block g i j r m → (x y : ℕ) → r ≤ x → x < r + m → i ≤ y → y ≤ j → On k l t (chain_at l (1 + x * g.columns + y)) → (n : Near) → P n → Q (after_rows boxes p q a b k l w g i j r m n)
    unfolding after_rows
    rows_bring g i j r zero h x y lo hi left right o n z = absurd (omega arith)
    rows_bring g i j r (suc m) h x y lo hi left right o n z =
        go (ltb r x) refl
        (λ d. rows_bring g i j (suc r) m rest x y d (omega arith) left right o next (chains_keep P keep (1 + r * g.columns + i) (suc j - i) (row_of_lem g i j r m h) n z))
      where
        next : Near
        next = after_chains boxes p q a b k l w (1 + r * g.columns + i) (suc j - i) n

        rest : Block g i j (suc r) m
        rest x y lo hi left right = h x y (omega arith) (omega arith) left right

        go : (v : Bool) → ltb r x ≡ v → (r < x → Q (after_rows boxes p q a b k l w g i j (suc r) m next)) → Q (after_rows boxes p q a b k l w g i j (suc r) m next)
        go true e on = on (ltb-true r x e)
        go false e on =
            let d : x ≤ r = ltb-false r x e in
            let same : x ≡ r = omega arith in
            rows_keep Q hold g i j (suc r) m rest next
            (chains_bring (1 + r * g.columns + i) (suc j - i) (row_of_lem g i j r m h) (1 + r * g.columns + y) (omega arith) (omega arith)
            (subst (λ (v : ℕ). On k l t (chain_at l (1 + v * g.columns + y))) same o) n z)

  -- ---- the window's chains, of a grid g
  module _ (g : Grid) (heads : (c : ℕ) → InWindow g w c → Begins (chain_at l c)) where
    in_window : (x y : ℕ) → row_of g w.top - 1 ≤ x → x ≤ row_of g w.bottom → column_of g w.left - 1 ≤ y → y ≤ column_of g w.right → Begins (chain_at l (1 + x * g.columns + y))
    in_window x y top bottom left right = heads (1 + x * g.columns + y) (cell x y top bottom left right)

    pub window_keeps : (P : Near → Type 0) → Keeps P → (n : Near) → P n → P (after_window boxes p q a b k l w g n)
    unfolding after_window
    window_keeps P keep n x =
        rows_keep P keep g _ _ _ _ (λ x y lo hi left right. in_window x y (omega arith) (omega arith) (omega arith) (omega arith))
        (after_chain boxes p q a b k l w 0 n) (chain_keeps P keep 0 (heads 0 wide) n x)

    pub window_brings : (P Q : Near → Type 0) → Keeps P → Keeps Q → (t : ℕ) → ((n : Near) → P n → Q (passed boxes p q a b k l w t n)) → ((s : ℕ) → S s → next_at k l s ≤ s)
        → (c : ℕ) → InWindow g w c → On k l t (chain_at l c) → (n : Near) → P n → Q (after_window boxes p q a b k l w g n)
    unfolding after_window
    window_brings P Q keep hold t bring falls c wide o n x =
        rows_keep Q hold g _ _ _ _ (λ x y lo hi left right. in_window x y (omega arith) (omega arith) (omega arith) (omega arith))
        (after_chain boxes p q a b k l w 0 n) (chain_brings P Q keep hold t bring falls 0 (heads 0 wide) o n x)
    window_brings P Q keep hold t bring falls c (cell x y top bottom left right) o n z =
        rows_bring P Q keep hold t bring falls g _ _ _ _ (λ x y lo hi left right. in_window x y (omega arith) (omega arith) (omega arith) (omega arith))
        x y (omega arith) (omega arith) (omega arith) (omega arith) o (after_chain boxes p q a b k l w 0 n) (chain_keeps P keep 0 (heads 0 wide) n z)
