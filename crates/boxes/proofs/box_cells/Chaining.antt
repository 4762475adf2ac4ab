-- Stations put into chains one after the other: what was put in stays, as a chain names only stations below the next. Assumes nothing.
use mathlib.Core.Path.{◌≡◌, refl, sym, ap, ◌∙◌, subst}
use mathlib.Core.Logic.{◌⊎◌, inl, inr}
use mathlib.Core.Bool.{Bool, true, false}
use mathlib.Core.List.{List}
use Prim.Native.Nat.{ℕ, suc, ◌+◌, ◌*◌, ◌≤◌, ◌<◌}
use native.Mathlib.Numerals.{add-one}
use native.Mathlib.Omega.{arith}
use lib.Dec.{eqb}
use lib.ListN.{length, get_or, set, length-set}
use lib.Seq.{get_or-set_same, get_or-set_other}
use borrow.Author.Tests.{eqb-true, eqb-false}
use Rattle.plane.specs.declared.geometry.Box.{Box}
use Rattle.network.specs.Words.{occupied}
use Rattle.network.specs.Views.{counts_in}
use Rattle.plane.specs.Plane.{box_in}
use Rattle.numbers.proofs.order.Merging.{le_or_lt}
use Rattle.boxes.specs.declared.grid.Grid.{Grid}
use Rattle.boxes.specs.Stages.Cells.{chain_of, chain_at, next_at, linked, On, Chained}
use Rattle.boxes.specs.Stages.Cells.On.{here, behind}
use Rattle.boxes.proofs.grid.CellCode.{chain_few}
use Rattle.boxes.specs.Stages.Enter.{Empty}
use Rattle.boxes.proofs.box_cells.Occupied.{in_occupied, of_occupied}

-- ---- one station linked
pub linked_is : (k c s : ℕ) (l : List ℕ) → set (set l (4 * k + s) (get_or l (7 + c) 0)) (7 + c) (s + 1) ≡ linked k c s l
unfolding linked chain_at
linked_is k c s l = ap (set (set l (4 * k + s) (get_or l (7 + c) 0)) (7 + c)) (add-one s)

module _ (k c s : ℕ) (l : List ℕ) (few : s < k) (low : 7 + c < 4 * k) (long : 5 * k ≤ length l) where
  pub head_here : chain_at (linked k c s l) c ≡ suc s
  unfolding chain_at linked
  head_here =
      let n : 7 + c < length (set l (4 * k + s) (chain_at l c)) = simp length-set (omega arith) in
      get_or-set_same (set l (4 * k + s) (chain_at l c)) (7 + c) (suc s) 0 n

  pub head_other : (d : ℕ) → 7 + d < 4 * k → (d ≡ c → ⊥) → chain_at (linked k c s l) d ≡ chain_at l d
  unfolding chain_at linked
  head_other d h n =
      get_or-set_other (set l (4 * k + s) (chain_at l c)) (7 + c) (7 + d) (suc s) 0 (λ e. n (omega arith))
      ∙ get_or-set_other l (4 * k + s) (7 + d) (chain_at l c) 0 (λ e. apart d h e)
    where
      apart : (d : ℕ) → 7 + d < 4 * k → 7 + d ≡ 4 * k + s → ⊥
      apart d h e = omega arith

  pub next_here : next_at k (linked k c s l) s ≡ chain_at l c
  unfolding next_at linked
  next_here =
      get_or-set_other (set l (4 * k + s) (chain_at l c)) (7 + c) (4 * k + s) (suc s) 0 (λ e. apart e)
      ∙ get_or-set_same l (4 * k + s) (chain_at l c) 0 (omega arith)
    where
      apart : 4 * k + s ≡ 7 + c → ⊥
      apart e = omega arith

  pub next_other : (r : ℕ) → r < s → next_at k (linked k c s l) r ≡ next_at k l r
  unfolding next_at linked
  next_other r h =
      get_or-set_other (set l (4 * k + s) (chain_at l c)) (7 + c) (4 * k + r) (suc s) 0 (λ e. apart e)
      ∙ get_or-set_other l (4 * k + s) (4 * k + r) (chain_at l c) 0 (λ e. below e)
    where
      apart : 4 * k + r ≡ 7 + c → ⊥
      apart e = omega arith

      below : 4 * k + r ≡ 4 * k + s → ⊥
      below e = omega arith

  pub first_other : (i : ℕ) → i < 7 → get_or (linked k c s l) i 0 ≡ get_or l i 0
  unfolding linked
  first_other i h =
      get_or-set_other (set l (4 * k + s) (chain_at l c)) (7 + c) i (suc s) 0 (λ e. apart e)
      ∙ get_or-set_other l (4 * k + s) i (chain_at l c) 0 (λ e. below e)
    where
      apart : i ≡ 7 + c → ⊥
      apart e = omega arith

      below : i ≡ 4 * k + s → ⊥
      below e = omega arith

-- ---- the stations below s entered
module _ (g : Grid) (boxes : List Box) (k : ℕ) (st : List ℕ) where
  pub record Put (s : ℕ) (l : List ℕ) : Type 0 where
    pub heads : (c : ℕ) → c ≤ g.columns * g.rows → (r : ℕ) → chain_at l c ≡ suc r → (r < s) × (0 < get_or st (2 * r) 0)
    pub nexts : (r : ℕ) → r < s → 0 < get_or st (2 * r) 0 → (q : ℕ) → next_at k l r ≡ suc q → (q < r) × (0 < get_or st (2 * q) 0)
    pub each : (r : ℕ) → r < s → 0 < get_or st (2 * r) 0 → On k l r (chain_at l (chain_of g (box_in boxes r)))

  pub put_start : (l : List ℕ) → Empty (1 + g.columns * g.rows) l → Put 0 l
  put_start l e = record {
    heads = λ c h r i. absurd (some (chain_at l c) r (e.none c (omega arith)) i);
    nexts = λ r h. absurd (below r h);
    each = λ r h. absurd (below r h);
  }
    where
      some : (a r : ℕ) → a ≡ 0 → a ≡ suc r → ⊥
      some a r h i = omega arith

      below : (r : ℕ) → r < 0 → ⊥
      below r h = omega arith

  -- a chain of stations below s is the same in a list that has the same behind each of them
  carried : (s : ℕ) (l m : List ℕ) → Put s l → ((r : ℕ) → r < s → next_at k m r ≡ next_at k l r)
      → (r h : ℕ) → On k l r h → ((q : ℕ) → h ≡ suc q → (q < s) × (0 < get_or st (2 * q) 0)) → On k m r h
  carried s l m p same r h here b = here
  carried s l m p same r h (behind q o) b =
      let n = b q refl in
      behind q
      (subst (On k m r) (sym (same q n.0))
      (carried s l m p same r (next_at k l q) o (λ v e. let w = p.nexts q n.0 n.1 v e in (less v q s w.0 n.0, w.1))))
    where
      less : (a b c : ℕ) → a < b → b < c → a < c
      less a b c h k = omega arith

  module _ (s c : ℕ) (l : List ℕ) (few : s < k) (room : 8 + g.columns * g.rows ≤ 4 * k) (long : 5 * k ≤ length l) (columns : 1 ≤ g.columns) (rows : 1 ≤ g.rows) where
    pub put_yes : 0 < get_or st (2 * s) 0 → c ≡ chain_of g (box_in boxes s) → Put s l → Put (s + 1) (linked k c s l)
    put_yes t e p = record { heads = first; nexts = second; each = third }
      where
        here-few : c ≤ g.columns * g.rows
        here-few = subst (λ (d : ℕ). d ≤ g.columns * g.rows) (sym e) (chain_few g (box_in boxes s) columns rows)

        low : 7 + c < 4 * k
        low = let h = here-few in omega arith

        low-other : (d : ℕ) → d ≤ g.columns * g.rows → 7 + d < 4 * k
        low-other d h = omega arith

        more : (r : ℕ) → (r < s) × (0 < get_or st (2 * r) 0) → (r < s + 1) × (0 < get_or st (2 * r) 0)
        more r h = (omega (arith, h.0), h.1)

        own : (r : ℕ) → suc s ≡ suc r → (r < s + 1) × (0 < get_or st (2 * r) 0)
        own r h = let n : s ≡ r = omega arith in subst (λ (v : ℕ). (v < s + 1) × (0 < get_or st (2 * v) 0)) n (omega arith, t)

        first : (d : ℕ) → d ≤ g.columns * g.rows → (r : ℕ) → chain_at (linked k c s l) d ≡ suc r → (r < s + 1) × (0 < get_or st (2 * r) 0)
        first d h r i = go (eqb d c) refl
          where
            go : (b : Bool) → eqb d c ≡ b → (r < s + 1) × (0 < get_or st (2 * r) 0)
            go true b = own r (sym (head_here k c s l few low long) ∙ ap (chain_at (linked k c s l)) (sym (eqb-true d c b)) ∙ i)
            go false b = more r (p.heads d h r (sym (head_other k c s l few low long d (low-other d h) (eqb-false d c b)) ∙ i))

        second : (r : ℕ) → r < s + 1 → 0 < get_or st (2 * r) 0 → (q : ℕ) → next_at k (linked k c s l) r ≡ suc q → (q < r) × (0 < get_or st (2 * q) 0)
        second r h u q i = go (le_or_lt s r)
          where
            go : (s ≤ r) ⊎ (r < s) → (q < r) × (0 < get_or st (2 * q) 0)
            go (inl n) =
                let m : s ≡ r = omega arith in
                let j : chain_at l c ≡ suc q = sym (next_here k c s l few low long) ∙ ap (next_at k (linked k c s l)) m ∙ i in
                let w = p.heads c here-few q j in
                (omega (arith, w.0, n), w.1)
            go (inr n) = p.nexts r n u q (sym (next_other k c s l few low long r n) ∙ i)

        stays : (r d : ℕ) → d ≤ g.columns * g.rows → On k l r (chain_at l d) → On k (linked k c s l) r (chain_at l d)
        stays r d h o = carried s l (linked k c s l) p (next_other k c s l few low long) r (chain_at l d) o (p.heads d h)

        on-other : (r d : ℕ) → d ≤ g.columns * g.rows → On k l r (chain_at l d) → On k (linked k c s l) r (chain_at (linked k c s l) d)
        on-other r d h o = go (eqb d c) refl
          where
            go : (b : Bool) → eqb d c ≡ b → On k (linked k c s l) r (chain_at (linked k c s l) d)
            go true b =
                subst (On k (linked k c s l) r) (sym (ap (chain_at (linked k c s l)) (eqb-true d c b) ∙ head_here k c s l few low long))
                (behind s (subst (On k (linked k c s l) r) (ap (chain_at l) (eqb-true d c b) ∙ sym (next_here k c s l few low long)) (stays r d h o)))
            go false b = subst (On k (linked k c s l) r) (sym (head_other k c s l few low long d (low-other d h) (eqb-false d c b))) (stays r d h o)

        third : (r : ℕ) → r < s + 1 → 0 < get_or st (2 * r) 0 → On k (linked k c s l) r (chain_at (linked k c s l) (chain_of g (box_in boxes r)))
        third r h u = go (le_or_lt s r)
          where
            go : (s ≤ r) ⊎ (r < s) → On k (linked k c s l) r (chain_at (linked k c s l) (chain_of g (box_in boxes r)))
            go (inl n) =
                let m : s ≡ r = omega arith in
                subst (λ (v : ℕ). On k (linked k c s l) v (chain_at (linked k c s l) (chain_of g (box_in boxes v)))) m
                (subst (On k (linked k c s l) s) (sym (head_here k c s l few low long) ∙ ap (chain_at (linked k c s l)) e) here)
            go (inr n) = on-other r (chain_of g (box_in boxes r)) (chain_few g (box_in boxes r) columns rows) (p.each r n u)

  pub put_no : (s : ℕ) (l : List ℕ) → get_or st (2 * s) 0 ≤ 0 → Put s l → Put (s + 1) l
  put_no s l t p = record {
    heads = λ c h r i. let w = p.heads c h r i in (omega (arith, w.0), w.1);
    nexts = λ r h u. p.nexts r (below r h u) u;
    each = λ r h u. p.each r (below r h u) u;
  }
    where
      below : (r : ℕ) → r < s + 1 → 0 < get_or st (2 * r) 0 → r < s
      below r h u = go (le_or_lt s r)
        where
          not_own : s ≡ r → ⊥
          not_own e = let w : 0 < get_or st (2 * s) 0 = subst (λ (v : ℕ). 0 < get_or st (2 * v) 0) (sym e) u in omega arith

          go : (s ≤ r) ⊎ (r < s) → r < s
          go (inl n) = absurd (not_own (omega arith))
          go (inr n) = n

  pub put_end : (s : ℕ) (l : List ℕ) → s ≡ k → Put s l → Chained g boxes (occupied (counts_in k st)) k l
  put_end s l e p = record {
    heads = λ c h r i. let w = p.heads c h r i in in_occupied k st r (omega (arith, w.0)) w.1;
    nexts = λ r i q j. let u = of_occupied k st r i in let w = p.nexts r (omega (arith, u.0)) u.1 q j in (w.0, in_occupied k st q (omega (arith, w.0, u.0)) w.1);
    each = λ r i. let u = of_occupied k st r i in p.each r (omega (arith, u.0)) u.1;
  }
