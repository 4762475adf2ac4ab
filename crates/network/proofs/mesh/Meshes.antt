-- What the mesh test promises: half-edges go round in threes, every place that a walk goes to is one of the mesh, every vertex one of the occupied stations, and behind a twin stands a third vertex. Assumes nothing.
use mathlib.Core.Path.{◌≡◌, refl, sym, ap, ◌∙◌}
use mathlib.Core.Logic.{◌⊎◌, inl, inr, ⊎_elim}
use mathlib.Core.Bool.{true, not, cond, ◌&&◌}
use mathlib.Core.List.{List}
use Prim.Native.Nat.{ℕ, zero, suc, ◌+◌, ◌-◌, ◌%◌, ◌≤◌, ◌<◌, zero-le, suc-le-suc}
use native.Mathlib.Nat.{mod-lt}
use native.Mathlib.Omega.{arith}
use lib.Dec.{leb, ltb, eqb}
use lib.ListN.{length}
use borrow.Author.Tests.{ltb-true, leb-true, eqb-true, eqb-false, not-true, eq-eqb, ne_eqb}
use Rattle.network.specs.Mesh.{next, end_at, no_twin, at, corner_ok, reversed, pairs, twin_ok, half_edge_ok, half_edges_ok, mesh_ok}
use Rattle.numbers.proofs.order.AllTo.{all_to_at}
use Rattle.network.proofs.mesh.Tests.{both, other}

-- ---- the half-edge after h

pub wraps : (h k : ℕ) → h % 3 ≡ 2 → k ≡ h - 2 → next h ≡ k
unfolding next
wraps h k e s = ap (λ t. cond t (h - 2) (h + 1)) (eq-eqb (h % 3) 2 e) ∙ sym s

pub steps : (h k : ℕ) → h % 3 < 2 → k ≡ h + 1 → next h ≡ k
unfolding next
steps h k e s = let ne : h % 3 ≡ 2 → ⊥ = (λ q. omega arith) in ap (λ t. cond t (h - 2) (h + 1)) (ne_eqb (h % 3) 2 ne) ∙ sym s

-- h is the first, second or third of its triangle
thirds : (h : ℕ) → (h % 3 ≡ 0) ⊎ ((h % 3 ≡ 1) ⊎ (h % 3 ≡ 2))
thirds h = go (h % 3) (mod-lt h (suc-le-suc zero-le))
  where
    go : (r : ℕ) → r < 3 → (r ≡ 0) ⊎ ((r ≡ 1) ⊎ (r ≡ 2))
    go zero l = inl refl
    go (suc zero) l = inr (inl refl)
    go (suc (suc zero)) l = inr (inr refl)
    go (suc (suc (suc r))) l = absurd (omega arith)

pub next_below : (n h : ℕ) → n % 3 ≡ 0 → h < n → next h < n
next_below n h e l =
    ⊎_elim
    (λ (r : h % 3 ≡ 0). omega (arith, steps h (h + 1) (omega arith) refl))
    (⊎_elim (λ (r : h % 3 ≡ 1). omega (arith, steps h (h + 1) (omega arith) refl)) (λ (r : h % 3 ≡ 2). omega (arith, wraps h (h - 2) r refl)))
    (thirds h)

pub next_thrice : (h : ℕ) → next (next (next h)) ≡ h
next_thrice h =
    ⊎_elim
    (λ (r : h % 3 ≡ 0). round (h + 1) (h + 2) (steps _ _ (omega arith) (omega arith)) (steps _ _ (omega arith) (omega arith)) (wraps _ _ (omega arith) (omega arith)))
    (⊎_elim
    (λ (r : h % 3 ≡ 1). round (h + 1) (h - 1) (steps _ _ (omega arith) (omega arith)) (wraps _ _ (omega arith) (omega arith)) (steps _ _ (omega arith) (omega arith)))
    (λ (r : h % 3 ≡ 2). round (h - 2) (h - 1) (wraps _ _ (omega arith) (omega arith)) (steps _ _ (omega arith) (omega arith)) (steps _ _ (omega arith) (omega arith))))
    (thirds h)
  where
    round : (b c : ℕ) → next h ≡ b → next b ≡ c → next c ≡ h → next (next (next h)) ≡ h
    round b c p q r = cc

-- ---- a mesh that passes

-- g is the twin of h: it points back, and its ends are reversed
pub record Twin (corners twins : List ℕ) (h g : ℕ) : Type 0 where
  pub inside : g < length corners
  pub back : at twins g ≡ h
  pub start : at corners g ≡ end_at corners h
  pub end : end_at corners g ≡ at corners h

-- what docs/RULES.md, 'Mesh' says of a mesh
pub record Sound (corners twins : List ℕ) (n : ℕ) : Type 0 where
  pub same : length twins ≡ length corners
  pub triangles : length corners % 3 ≡ 0
  pub most : length corners ≤ 24576
  pub below : (h : ℕ) → h < length corners → at corners h < n
  pub differ : (h : ℕ) → h < length corners → at corners h ≡ end_at corners h → ⊥
  pub twin : (h : ℕ) → h < length corners → (at twins h ≡ no_twin → ⊥) → Twin corners twins h (at twins h)

pub mesh_sound : (corners twins : List ℕ) (n : ℕ) → mesh_ok corners twins n ≡ true → Sound corners twins n
unfolding mesh_ok half_edges_ok corner_ok twin_ok pairs reversed
mesh_sound corners twins n t =
    record {
      same = eqb-true _ _ t1.0;
      triangles = eqb-true _ _ t2.0;
      most = leb-true _ _ t3.0;
      below = λ h l. ltb-true _ _ (vertex h l).0;
      differ = λ h l. eqb-false _ _ (not-true _ (vertex h l).1);
      twin = twin;
    }
  where
    t1 : (eqb (length twins) (length corners) ≡ true) × ((eqb (length corners % 3) 0 && (leb (length corners) 24576 && half_edges_ok corners twins n)) ≡ true)
    t1 = both _ _ t

    t2 : (eqb (length corners % 3) 0 ≡ true) × ((leb (length corners) 24576 && half_edges_ok corners twins n) ≡ true)
    t2 = both _ _ t1.1

    t3 : (leb (length corners) 24576 ≡ true) × (half_edges_ok corners twins n ≡ true)
    t3 = both _ _ t2.1

    edge : (h : ℕ) → h < length corners → (corner_ok corners n h ≡ true) × (twin_ok corners twins h ≡ true)
    edge h l = both _ _ (all_to_at (half_edge_ok corners twins n) (length corners) h l t3.1)

    vertex : (h : ℕ) → h < length corners → (ltb (at corners h) n ≡ true) × (not (eqb (at corners h) (end_at corners h)) ≡ true)
    vertex h l = both _ _ (edge h l).0

    twin : (h : ℕ) → h < length corners → (at twins h ≡ no_twin → ⊥) → Twin corners twins h (at twins h)
    twin h l e =
        let g = at twins h in
        let w = both (ltb g (length corners)) (eqb (at twins g) h && reversed corners h g) (other (eqb g no_twin) _ (edge h l).1 (ne_eqb _ _ e)) in
        let x = both (eqb (at twins g) h) (reversed corners h g) w.1 in
        let y = both (eqb (at corners g) (end_at corners h)) (eqb (end_at corners g) (at corners h)) x.1 in
        record { inside = ltb-true _ _ w.0; back = eqb-true _ _ x.0; start = eqb-true _ _ y.0; end = eqb-true _ _ y.1 }

module _ (corners twins : List ℕ) (n : ℕ) (sound : Sound corners twins n) where
  pub next_in : (h : ℕ) → h < length corners → next h < length corners
  next_in h l = next_below (length corners) h sound.triangles l

  -- Behind half-edge h, whose twin is g, the vertex that is neither of h's ends stands at next (next g).
  pub third_start : (h : ℕ) → h < length corners → (at twins h ≡ no_twin → ⊥) → at corners (next (next (at twins h))) ≡ at corners h → ⊥
  unfolding end_at
  third_start h l e q = let w = sound.twin h l e in sound.differ (next (at twins h)) (next_in _ w.inside) (w.end ∙ sym q)

  pub third_end : (h : ℕ) → h < length corners → (at twins h ≡ no_twin → ⊥) → at corners (next (next (at twins h))) ≡ end_at corners h → ⊥
  unfolding end_at
  third_end h l e q =
      let w = sound.twin h l e in
      sound.differ (next (next (at twins h))) (next_in _ (next_in _ w.inside)) (q ∙ sym w.start ∙ ap (at corners) (sym (next_thrice (at twins h))))
