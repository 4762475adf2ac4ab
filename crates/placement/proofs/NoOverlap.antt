-- Where every station found a free place, no two occupied stations' boxes overlap in the audit's sense. Assumes nothing.
use mathlib.Core.Path.{◌≡◌, refl, sym, ap, subst, ◌∙◌}
use mathlib.Core.Logic.{⊎_elim, ◌≢◌}
use mathlib.Core.Bool.{Bool, true, false, true≢false}
use mathlib.Core.List.{List}
use Prim.Native.Nat.{ℕ, ◌≤◌, ◌<◌}
use native.Mathlib.Nat.{zero-add}
use native.Mathlib.Omega.{arith}
use lib.Dec.{T, eqb, ltb}
use lib.ListN.{length, get_or, get_or-eq_default}
use lib.Ieee.{binary64}
use lib.Ieee.Fits.{add-fits, sub-fits}
use borrow.Author.Tests.{eq-eqb, eqb-true}
use Rattle.numbers.specs.Small.{is_finite}
use Rattle.numbers.specs.Ops.{◌⊗◌}
use Rattle.numbers.specs.Order.{pick, sort_by, up_from, count}
use Rattle.numbers.proofs.order.Merging.{le_or_lt}
use Rattle.numbers.proofs.order.Laws.{count_at, count_sort, count_keep, occurs, length_up, get_d_up}
use Rattle.numbers.proofs.order.Tables.{get_d_table}
use Rattle.plane.specs.declared.geometry.Point.{Point}
use Rattle.plane.specs.declared.geometry.Box.{Box}
use Rattle.plane.specs.Plane.{shrunk, no_box, box_in}
use Rattle.plane.specs.Overlap.{overlap}
use Rattle.network.specs.Words.{is_occupied, occupied}
use Rattle.network.specs.Seed.{place_at}
use Rattle.stations.specs.Column.{falling}
use Rattle.stations.specs.Size.{Size}
use Rattle.offsets.specs.declared.offset.Offset.{Offset}
use Rattle.placement.specs.Place.{box_of, places, found_free, boxes}
use Rattle.placement.specs.Search.{HalfSides, half_sides_at, box_on, buffered}
use Rattle.placement.specs.Turns.{top_to, placement_order}
use Rattle.placement.specs.Stages.Listed.{Turns}
use Rattle.placement.proofs.turns.Queue.{order_turns}
use Rattle.placement.proofs.Clear.{Outward, Whole, over_own, over_other}
use Rattle.placement.proofs.PlaceLaw.{clear_of}

-- ---- every occupied station has its turn
abbrev pub Stands : ℕ → List ℕ → Type 0
Stands s l = (i : ℕ) × (i < length l) × (get_or l i 0 ≡ s)

stands : (s : ℕ) (l : List ℕ) → 0 < count (λ x. eqb s x) l → Stands s l
stands s l h = let q = occurs (λ x. eqb s x) l h in (q.0, q.1, sym (eqb-true s (get_or l q.0 0) q.2))

below_count : (counts : List ℕ) (s : ℕ) → is_occupied counts s ≡ true → s < length counts
below_count counts s o = ⊎_elim
    (λ (h : length counts ≤ s). absurd (true≢false (sym o ∙ ap (ltb 0) (get_or-eq_default counts 0 {n = s} h))))
    (λ (h : s < length counts). h)
    (le_or_lt (length counts) s)

pub order_covers : (sub kv counts : List ℕ) (s : ℕ) → is_occupied counts s ≡ true → Stands s (placement_order sub kv counts)
unfolding placement_order occupied
order_covers sub kv counts s o =
    let n = length counts in
    let p : ℕ → Bool = is_occupied counts in
    let h : s < n = below_count counts s o in
    let u : get_or (up_from 0 n) s 0 ≡ s = get_d_up 0 n s h ∙ zero-add s in
    let t : pick (p (get_or (up_from 0 n) s 0)) (eqb s (get_or (up_from 0 n) s 0)) false ≡ true =
    ap (λ (x : ℕ). pick (p x) (eqb s x) false) u ∙ ap (λ (b : Bool). pick b (eqb s s) false) o ∙ eq-eqb s s refl in
    let c : 0 < count (λ j. pick (p j) (eqb s j) false) (up_from 0 n) = count_at (λ j. pick (p j) (eqb s j) false) (up_from 0 n) s (rw (length_up 0 n) h) t in
    let k : 0 < count (λ x. eqb s x) (occupied counts) = rw (count_keep p (λ x. eqb s x) (up_from 0 n)) c in
    let f : ℕ → ℕ = λ x. falling (get_or counts x 0) in
    let g : ℕ → ℕ = λ x. falling (top_to sub kv x (length sub)) in
    stands s (sort_by g (sort_by f (occupied counts))) (rw (count_sort g (λ x. eqb s x) (sort_by f (occupied counts)), count_sort f (λ x. eqb s x) (occupied counts)) k)

-- ---- four finite sides
abbrev pub Finite : Box → Type 0
Finite b = T (is_finite b.left) × T (is_finite b.top) × T (is_finite b.right) × T (is_finite b.bottom)

whole : (c : Point) (z : Size) → Finite (box_on c z) → Whole (box_on c z)
unfolding box_on
whole c z f = record {
  left = (sub-fits binary64 c.x z.w, f.0);
  top = (sub-fits binary64 c.y z.h, f.1);
  right = (add-fits binary64 c.x z.w, f.2);
  bottom = (add-fits binary64 c.y z.h, f.3);
}

none : (b : Bool) → (T b → ⊥) → b ≡ false
none true f = absurd (f tt)
none false f = refl

refuted : (a b : Bool) → (T a → T b) → b ≡ false → a ≡ false
refuted a b f e = none a (λ (t : T a). subst T e (f t))

-- ---- the law
module _ (sub kv counts : List ℕ) (fs : List HalfSides) (os : List Offset) (seeds : List Point) (L : length counts ≡ length seeds) where
  abbrev order : List ℕ
  order = placement_order sub kv counts

  abbrev end : List Point
  end = places fs os seeds order

  turns : Turns (length seeds) order
  turns = subst (λ (n : ℕ). Turns n order) L (order_turns sub kv counts)

  -- the box list holds an occupied station's box
  pub box_at_lem : (s : ℕ) → is_occupied counts s ≡ true → box_in (boxes fs counts end) s ≡ box_of fs end s
  unfolding boxes
  box_at_lem s o =
      get_d_table (λ s. pick (is_occupied counts s) (box_of fs end s) no_box) (length counts) s no_box (below_count counts s o)
      ∙ ap (λ (b : Bool). pick b (box_of fs end s) no_box) o

  -- Every station found a free place, buffers are not negative and boxes finite: no two boxes overlap, one of them shrunk.
  module _ (found : (i : ℕ) → i < length (placement_order sub kv counts) → found_free fs os seeds (placement_order sub kv counts) i ≡ true)
      (plus : (s : ℕ) → is_occupied counts s ≡ true → Outward ((half_sides_at fs s).f ⊗ (half_sides_at fs s).buffer))
      (finite : (s : ℕ) → is_occupied counts s ≡ true → Finite (box_of fs (places fs os seeds (placement_order sub kv counts)) s)) where
    full : (s : ℕ) → is_occupied counts s ≡ true → Whole (box_of fs end s)
    unfolding box_of
    full s o = whole (place_at end s) (half_sides_at fs s).half (finite s o)

    later : (s t : ℕ) → is_occupied counts s ≡ true → is_occupied counts t ≡ true → (i j : ℕ) → i < j → j < length order → get_or order i 0 ≡ s → get_or order j 0 ≡ t
        → overlap (buffered (place_at end t) (half_sides_at fs t)) (box_of fs end s) ≡ false
    later s t o p i j h k e f =
        subst (λ (x : ℕ). overlap (buffered (place_at end t) (half_sides_at fs t)) (box_of fs end x) ≡ false) e
        (subst (λ (x : ℕ). overlap (buffered (place_at end x) (half_sides_at fs x)) (box_of fs end (get_or order i 0)) ≡ false) f
        (clear_of fs os seeds order turns i j h k (found j k)))

    apart : (s t : ℕ) → s ≢ t → is_occupied counts s ≡ true → is_occupied counts t ≡ true → overlap (shrunk (box_of fs end t)) (box_of fs end s) ≡ false
    unfolding box_of
    apart s t n o p = go (order_covers sub kv counts s o) (order_covers sub kv counts t p)
      where
        both : (i j : ℕ) → i ≤ j → j ≤ i → i ≡ j
        both i j l m = omega arith

        go : Stands s order → Stands t order → overlap (shrunk (box_of fs end t)) (box_of fs end s) ≡ false
        go (i, h, e) (j, k, f) = ⊎_elim
            (λ (l : i ≤ j). ⊎_elim
            (λ (m : j ≤ i). absurd (n (sym e ∙ ap (λ (x : ℕ). get_or order x 0) (both i j l m) ∙ f)))
            (λ (m : i < j).
            refuted (overlap (shrunk (box_of fs end t)) (box_of fs end s)) (overlap (buffered (place_at end t) (half_sides_at fs t)) (box_of fs end s))
            (over_own (place_at end t) (half_sides_at fs t) (plus t p) (full t p) (box_of fs end s) (full s o)) (later s t o p i j m k e f))
            (le_or_lt j i))
            (λ (l : j < i).
            refuted (overlap (shrunk (box_of fs end t)) (box_of fs end s)) (overlap (buffered (place_at end s) (half_sides_at fs s)) (box_of fs end t))
            (over_other (place_at end s) (half_sides_at fs s) (plus s o) (full s o) (box_of fs end t) (full t p)) (later t s p o j i l h f e))
            (le_or_lt i j)

    pub no_overlap : (s t : ℕ) → s ≢ t → is_occupied counts s ≡ true → is_occupied counts t ≡ true
        → overlap (shrunk (box_in (boxes fs counts end) t)) (box_in (boxes fs counts end) s) ≡ false
    no_overlap s t n o p =
        ap (λ (b : Box). overlap (shrunk b) (box_in (boxes fs counts end) s)) (box_at_lem t p)
        ∙ ap (overlap (shrunk (box_of fs end t))) (box_at_lem s o) ∙ apart s t n o p
