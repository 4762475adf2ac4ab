-- A branch's crossings stand in a row: the crossing before number x on its path is x - 1, the one after it x + 1. Assumes nothing.
use mathlib.Core.Path.{◌≡◌, refl, sym, ap, ◌∙◌, subst}
use mathlib.Core.Logic.{⊎_elim}
use mathlib.Core.Bool.{Bool, true, false, cond}
use mathlib.Core.List.{List, [], ◌∷◌, ◌++◌, append_assoc, append-nil}
use Rattle.std.specs.Prelude.{Option, Some, None}
use Prim.Native.Nat.{ℕ, zero, suc, ◌+◌, ◌-◌, ◌≤◌, ◌<◌, zero-le}
use native.Mathlib.Omega.{arith}
use native.Mathlib.Nat.{add-zero, zero-add}
use lib.ListN.{length, get_or, length-append, get_or-append}
use lib.Seq.{get_or-append-add, get_or-append_seam}
use Rattle.numbers.proofs.order.Merging.{le_or_lt}
use Rattle.channels.specs.Trace.{Walk, traced}
use Rattle.routing.specs.Route.{MeshScene, Routing, Crossing, KeptCrossings, RoutedLine, no_crossing, no_kept_crossings, vertex_of, centre_at, crossing_of, cross, cross_all, add_walk, add_branch, traced_to, routing}

-- crossings of branch e from its number k on
abbrev Row : ℕ → ℕ → List Crossing → Type 0
Row e k xs = (i : ℕ) → i < length xs → ((get_or xs i no_crossing).branch ≡ e) × ((get_or xs i no_crossing).on_line ≡ k + i)

row_more : (e k : ℕ) (x : Crossing) (xs : List Crossing) → x.branch ≡ e → x.on_line ≡ k → Row e (suc k) xs → Row e k (x ∷ xs)
row_more e k x xs p q r zero h = (p, q ∙ sym (add-zero k))
row_more e k x xs p q r (suc i) h = let w = r i (omega arith) in (w.0, omega (arith, w.1))

-- Branch e's path in a list of crossings: its number k is crossing first + k.
pub record Rowed (e : ℕ) (p : KeptCrossings) (xs : List Crossing) : Type 0 where
  pub within : p.first + p.count ≤ length xs
  pub branches : (k : ℕ) → k < p.count → (get_or xs (p.first + k) no_crossing).branch ≡ e
  pub steps : (k : ℕ) → k < p.count → (get_or xs (p.first + k) no_crossing).on_line ≡ k

-- Crossing x, of a cleared walk too, is that many behind its branch's first.
pub record Stepped (e : ℕ) (ps : List KeptCrossings) (x : ℕ) (c : Crossing) : Type 0 where
  pub inside : c.branch < e
  pub on_line : (get_or ps c.branch no_kept_crossings).first + c.on_line ≡ x

-- after e branches: as many paths, each in a row, and every crossing by its branch's first
record Rows (e : ℕ) (xs : List Crossing) (ps : List KeptCrossings) : Type 0 where
  number : length ps ≡ e
  each : (i : ℕ) → i < e → Rowed i (get_or ps i no_kept_crossings) xs
  steps : (x : ℕ) → x < length xs → Stepped e ps x (get_or xs x no_crossing)

-- one branch more, with the crossings that it makes
module _ (e : ℕ) (xs made : List Crossing) (ps : List KeptCrossings) (p : KeptCrossings) (r : Rows e xs ps) (row : Row e 0 made) (first : 0 < length made → p.first ≡ length xs) (start : p.first ≤ length xs) (count : p.count ≤ length made) where
  abbrev all : List Crossing
  all = xs ++ made

  abbrev kept_crossings : List KeptCrossings
  kept_crossings = ps ++ (p ∷ [])

  long : length all ≡ length xs + length made
  long = length-append xs made

  old_path : (i : ℕ) → i < e → get_or kept_crossings i no_kept_crossings ≡ get_or ps i no_kept_crossings
  old_path i h = get_or-append ps (p ∷ []) no_kept_crossings i (omega (arith, r.number))

  new_path : get_or kept_crossings e no_kept_crossings ≡ p
  new_path = ap (λ (n : ℕ). get_or kept_crossings n no_kept_crossings) (sym r.number) ∙ get_or-append_seam ps p [] no_kept_crossings

  old : (x : ℕ) → x < length xs → get_or all x no_crossing ≡ get_or xs x no_crossing
  old x h = get_or-append xs made no_crossing x h

  new : (i : ℕ) → get_or all (length xs + i) no_crossing ≡ get_or made i no_crossing
  new i = get_or-append-add xs made i no_crossing

  rowed_old : (i : ℕ) → i < e → Rowed i (get_or kept_crossings i no_kept_crossings) all
  rowed_old i h =
      let w = r.each i h in
      let q = get_or ps i no_kept_crossings in
      subst (λ (z : KeptCrossings). Rowed i z all) (sym (old_path i h))
      (record {
        within = omega (arith, w.within, long);
        branches = λ k l. ap (λ (z : Crossing). z.branch) (old (q.first + k) (omega (arith, w.within))) ∙ w.branches k l;
        steps = λ k l. ap (λ (z : Crossing). z.on_line) (old (q.first + k) (omega (arith, w.within))) ∙ w.steps k l;
      })

  rowed_new : Rowed e (get_or kept_crossings e no_kept_crossings) all
  rowed_new =
      subst (λ (z : KeptCrossings). Rowed e z all) (sym new_path)
      (record {
        within = ⊎_elim (λ (z : length made ≤ 0). omega (arith, long)) (λ (z : 0 < length made). omega (arith, long, first z)) (le_or_lt (length made) 0);
        branches = λ k l. at k l ∙ (row k (omega arith)).0;
        steps = λ k l. on_line k l ∙ (row k (omega arith)).1 ∙ zero-add k;
      })
    where
      place : (k : ℕ) → k < p.count → p.first + k ≡ length xs + k
      place k l = ap (λ (n : ℕ). n + k) (first (omega arith))

      at : (k : ℕ) → k < p.count → (get_or all (p.first + k) no_crossing).branch ≡ (get_or made k no_crossing).branch
      at k l = ap (λ (n : ℕ). (get_or all n no_crossing).branch) (place k l) ∙ ap (λ (z : Crossing). z.branch) (new k)

      on_line : (k : ℕ) → k < p.count → (get_or all (p.first + k) no_crossing).on_line ≡ (get_or made k no_crossing).on_line
      on_line k l = ap (λ (n : ℕ). (get_or all n no_crossing).on_line) (place k l) ∙ ap (λ (z : Crossing). z.on_line) (new k)

  stepped_old : (x : ℕ) → x < length xs → Stepped (suc e) kept_crossings x (get_or all x no_crossing)
  stepped_old x h =
      let w = r.steps x h in
      subst (Stepped (suc e) kept_crossings x) (sym (old x h))
      (record { inside = omega (arith, w.inside); on_line = ap (λ (z : KeptCrossings). z.first + (get_or xs x no_crossing).on_line) (old_path (get_or xs x no_crossing).branch w.inside) ∙ w.on_line })

  stepped_new : (i : ℕ) → i < length made → Stepped (suc e) kept_crossings (length xs + i) (get_or all (length xs + i) no_crossing)
  stepped_new i h =
      let w = row i h in
      let b : (get_or made i no_crossing).branch ≡ e = w.0 in
      let f : (get_or kept_crossings (get_or made i no_crossing).branch no_kept_crossings).first ≡ length xs = ap (λ (n : ℕ). (get_or kept_crossings n no_kept_crossings).first) b ∙ ap (λ (z : KeptCrossings). z.first) new_path ∙ first (omega arith) in
      subst (Stepped (suc e) kept_crossings (length xs + i)) (sym (new i)) (record { inside = omega (arith, b); on_line = omega (arith, f, w.1) })

  rows_more : Rows (suc e) all kept_crossings
  rows_more =
      record {
        number = length-append ps (p ∷ []) ∙ omega (arith, r.number);
        each = λ i h. ⊎_elim (λ (z : e ≤ i). let q : e ≡ i = omega arith in subst (λ (n : ℕ). Rowed n (get_or kept_crossings n no_kept_crossings) all) q rowed_new) (λ (z : i < e). rowed_old i z) (le_or_lt e i);
        steps = λ x h.
            ⊎_elim
            (λ (z : length xs ≤ x).
            let q : length xs + (x - length xs) ≡ x = omega arith in
            subst (λ (n : ℕ). Stepped (suc e) kept_crossings n (get_or all n no_crossing)) q (stepped_new (x - length xs) (omega (arith, long))))
            (λ (z : x < length xs). stepped_old x z)
            (le_or_lt (length xs) x);
      }

kept_few : (t : Bool) (n : ℕ) → cond t n 0 ≤ n
kept_few true n = omega arith
kept_few false n = zero-le

module _ (S : MeshScene) where
  -- what cross_all appends
  record Made (va vb e k : ℕ) (hs : List ℕ) (r : Routing) : Type 0 where
    made : List Crossing
    list : (cross_all S va vb e k hs r).crossings ≡ r.crossings ++ made
    many : length made ≡ length hs
    row : Row e k made

  makes : (va vb e k : ℕ) (hs : List ℕ) (r : Routing) → Made va vb e k hs r
  unfolding cross_all cross crossing_of
  makes va vb e k [] r = record { made = []; list = sym (append-nil r.crossings); many = refl; row = λ i h. absurd (omega arith) }
  makes va vb e k (h ∷ hs) r =
      let m = makes va vb e (suc k) hs (cross S va vb e k h r) in
      let x = crossing_of S va vb e k h r.channels in
      record {
        made = x ∷ m.made;
        list = m.list ∙ append_assoc r.crossings (x ∷ []) m.made;
        many = ap suc m.many;
        row = row_more e k x m.made refl refl m.row;
      }

  rows_walk : (va vb e : ℕ) (w : Walk) (r : Routing) → Rows e r.crossings r.kept_crossings → Rows (suc e) (add_walk S va vb e w r).crossings (add_walk S va vb e w r).kept_crossings
  unfolding add_walk
  rows_walk va vb e w r q =
      let m = makes va vb e 0 w.half_edges r in
      let p : KeptCrossings = record { first = length r.crossings; count = cond w.kept (length w.half_edges) 0 } in
      subst (λ (z : List Crossing). Rows (suc e) z (r.kept_crossings ++ (p ∷ []))) (sym m.list)
      (rows_more e r.crossings m.made r.kept_crossings p q m.row (λ h. refl) (omega arith) (omega (arith, kept_few w.kept (length w.half_edges), m.many)))

  rows_branch : (e : ℕ) (l : Option RoutedLine) (r : Routing) → Rows e r.crossings r.kept_crossings → Rows (suc e) (add_branch S e l r).crossings (add_branch S e l r).kept_crossings
  unfolding add_branch
  rows_branch e None r q =
      subst (λ (z : List Crossing). Rows (suc e) z (r.kept_crossings ++ (no_kept_crossings ∷ []))) (append-nil r.crossings)
      (rows_more e r.crossings [] r.kept_crossings no_kept_crossings q (λ i h. absurd (omega arith)) (λ h. absurd (omega arith)) zero-le zero-le)
  rows_branch e (Some l) r q =
      let va = vertex_of l.sa S.occupied in
      let vb = vertex_of l.sb S.occupied in
      rows_walk va vb e (traced S.corners S.twins (centre_at S) va vb) r q

  rows : (e : ℕ) → Rows e (traced_to S e).crossings (traced_to S e).kept_crossings
  unfolding traced_to
  rows zero = record { number = refl; each = λ i h. absurd (omega arith); steps = λ x h. absurd (omega arith) }
  rows (suc e) = rows_branch e (get_or S.lines e None) (traced_to S e) (rows e)

  pub path_row : (e : ℕ) → e < length S.lines → Rowed e (get_or (routing S).kept_crossings e no_kept_crossings) (routing S).crossings
  unfolding routing
  path_row e h = (rows (length S.lines)).each e h
