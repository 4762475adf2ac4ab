-- One turn of each loop over a window's chains: what is left to look at from there gives what all give. Assumes nothing.
use mathlib.Core.Path.{◌≡◌, refl, sym, ap, ◌∙◌}
use mathlib.Core.List.{List}
use mathlib.Core.Bool.{Bool, true, false, cond}
use Prim.Native.Nat.{ℕ, zero, suc, ◌+◌, ◌-◌, ◌*◌, ◌≤◌, ◌<◌, min}
use native.Mathlib.Nat.{mul-le-mul_right}
use native.Mathlib.Omega.{arith}
use Rattle.plane.specs.declared.geometry.Point.{Point}
use Rattle.plane.specs.declared.geometry.Box.{Box}
use Rattle.std.specs.Prelude.{Float, Option}
use Rattle.plane.specs.Plane.{box_in}
use Rattle.plane.specs.Stages.Window.{is_apart}
use Rattle.boxes.specs.First.{entry_at}
use Rattle.boxes.specs.declared.grid.Grid.{Grid}
use Rattle.boxes.specs.Stages.Cells.{column_of, row_of, chain_at, next_at}
use Rattle.boxes.specs.declared.first_hit.search.Near.{Near}
use Rattle.boxes.specs.Stages.Looks.{closer, passed, chain_to, after_chain, after_chains, after_rows, after_window}

module _ (boxes : List Box) (p q : Point) (a b k : ℕ) (l : List ℕ) (w : Box) where
  -- ---- a chain
  -- the result doesn't depend on how many stations may follow at most
  enough : (e f h : ℕ) → h ≤ e → h ≤ f → (n : Near) → chain_to boxes p q a b k l w e h n ≡ chain_to boxes p q a b k l w f h n
  unfolding chain_to
  enough zero zero h u v n = refl
  enough zero (suc f) zero u v n = refl
  enough zero (suc f) (suc s) u v n = absurd (omega arith)
  enough (suc e) zero zero u v n = refl
  enough (suc e) zero (suc s) u v n = absurd (omega arith)
  enough (suc e) (suc f) zero u v n = refl
  enough (suc e) (suc f) (suc s) u v n = enough e f (min (next_at k l s) s) (omega arith) (omega arith) (passed boxes p q a b k l w s n)

  pub chain_start : (c h : ℕ) (n : Near) → h ≡ chain_at l c → chain_to boxes p q a b k l w h h n ≡ after_chain boxes p q a b k l w c n
  unfolding after_chain
  chain_start c h n e = ap (λ (x : ℕ). chain_to boxes p q a b k l w x x n) e

  turn : (s next : ℕ) (n m : Near) → next ≡ min (next_at k l s) s → m ≡ passed boxes p q a b k l w s n
      → chain_to boxes p q a b k l w next next m ≡ chain_to boxes p q a b k l w (suc s) (suc s) n
  unfolding chain_to
  turn s next n m e f =
      ap (λ (x : ℕ). chain_to boxes p q a b k l w x x m) e
      ∙ ap (chain_to boxes p q a b k l w (min (next_at k l s) s) (min (next_at k l s) s)) f
      ∙ enough (min (next_at k l s) s) s (min (next_at k l s) s) (omega arith) (omega arith) (passed boxes p q a b k l w s n)

  module _ (h s next : ℕ) (n : Near) (all : Near) (here : 0 < h) (this : s ≡ h - 1) (on : next ≡ min (next_at k l s) s)
      (inv : chain_to boxes p q a b k l w h h n ≡ all) where
    one_more : h ≡ suc s
    one_more = omega arith

    pub chain_apart : is_apart w (box_in boxes s) ≡ true → chain_to boxes p q a b k l w next next n ≡ all
    unfolding passed
    chain_apart far =
        turn s next n n on (sym (ap (λ (x : Bool). cond x n (closer s (entry_at boxes p q a b s) n)) far))
        ∙ sym (ap (λ (x : ℕ). chain_to boxes p q a b k l w x x n) one_more) ∙ inv

    pub chain_near : is_apart w (box_in boxes s) ≡ false → (y : Option Float) → y ≡ entry_at boxes p q a b s → (m : Near) → m ≡ closer s y n → chain_to boxes p q a b k l w next next m ≡ all
    unfolding passed
    chain_near close y o m e =
        turn s next n m on (e ∙ ap (λ (x : Option Float). closer s x n) o ∙ sym (ap (λ (x : Bool). cond x n (closer s (entry_at boxes p q a b s) n)) close))
        ∙ sym (ap (λ (x : ℕ). chain_to boxes p q a b k l w x x n) one_more) ∙ inv

  pub chain_end : (h : ℕ) (n all : Near) → h ≤ 0 → chain_to boxes p q a b k l w h h n ≡ all → n ≡ all
  unfolding chain_to
  chain_end h n all e inv = let z : h ≡ 0 = omega arith in sym (ap (λ (x : ℕ). chain_to boxes p q a b k l w x x n) z) ∙ inv

  -- ---- chains
  pub chains_turn : (c end : ℕ) (n m all : Near) → c < end → m ≡ after_chain boxes p q a b k l w c n → after_chains boxes p q a b k l w c (end - c) n ≡ all
      → after_chains boxes p q a b k l w (c + 1) (end - (c + 1)) m ≡ all
  unfolding after_chains
  chains_turn c end n m all h e inv =
      let z : end - c ≡ suc (end - suc c) = omega arith in
      let y : c + 1 ≡ suc c = omega arith in
      ap (λ (x : ℕ). after_chains boxes p q a b k l w x (end - x) m) y
      ∙ ap (after_chains boxes p q a b k l w (suc c) (end - suc c)) e
      ∙ sym (ap (λ (x : ℕ). after_chains boxes p q a b k l w c x n) z) ∙ inv

  pub chains_end : (c end : ℕ) (n all : Near) → end ≤ c → after_chains boxes p q a b k l w c (end - c) n ≡ all → n ≡ all
  unfolding after_chains
  chains_end c end n all h inv = let z : end - c ≡ 0 = omega arith in sym (ap (λ (x : ℕ). after_chains boxes p q a b k l w c x n) z) ∙ inv

  -- ---- rows
  pub rows_turn : (g : Grid) (i j r end : ℕ) (n m all : Near) → r < end
      → m ≡ after_chains boxes p q a b k l w (1 + r * g.columns + i) (1 + r * g.columns + j + 1 - (1 + r * g.columns + i)) n
      → after_rows boxes p q a b k l w g i j r (end - r) n ≡ all → after_rows boxes p q a b k l w g i j (r + 1) (end - (r + 1)) m ≡ all
  unfolding after_rows
  rows_turn g i j r end n m all h e inv =
      let z : end - r ≡ suc (end - suc r) = omega arith in
      let y : r + 1 ≡ suc r = omega arith in
      let x : 1 + r * g.columns + j + 1 - (1 + r * g.columns + i) ≡ suc j - i = omega arith in
      ap (λ (v : ℕ). after_rows boxes p q a b k l w g i j v (end - v) m) y
      ∙ ap (after_rows boxes p q a b k l w g i j (suc r) (end - suc r)) (e ∙ ap (λ (v : ℕ). after_chains boxes p q a b k l w (1 + r * g.columns + i) v n) x)
      ∙ sym (ap (λ (v : ℕ). after_rows boxes p q a b k l w g i j r v n) z) ∙ inv

  pub rows_end : (g : Grid) (i j r end : ℕ) (n all : Near) → end ≤ r → after_rows boxes p q a b k l w g i j r (end - r) n ≡ all → n ≡ all
  unfolding after_rows
  rows_end g i j r end n all h inv = let z : end - r ≡ 0 = omega arith in sym (ap (λ (x : ℕ). after_rows boxes p q a b k l w g i j r x n) z) ∙ inv

  -- ---- a window
  pub window_whole : (g : Grid) (i j r bottom : ℕ) (n first : Near) → i ≡ column_of g w.left - 1 → j ≡ column_of g w.right → r ≡ row_of g w.top - 1
      → bottom ≡ row_of g w.bottom → n ≡ after_chain boxes p q a b k l w 0 first → after_rows boxes p q a b k l w g i j r (bottom + 1 - r) n ≡ after_window boxes p q a b k l w g first
  unfolding after_window
  window_whole g i j r bottom n first ei ej er eb en =
      let z : bottom + 1 ≡ suc (row_of g w.bottom) = omega arith in
      cc

-- as many cells as there may be
pub cells_fit : (r end columns : ℕ) → r < end → end ≤ 16384 → columns ≤ 16384 → r * columns ≤ 268435456
cells_fit r end columns h k l =
    let x : r * columns ≤ 16384 * columns = mul-le-mul_right columns (omega arith) in
    omega arith
