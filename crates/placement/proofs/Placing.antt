-- Stations placed one after the other, and their boxes by number. Assumes nothing.
use mathlib.Core.Path.{◌≡◌, refl, sym, ap, ◌∙◌, subst}
use mathlib.Core.Logic.{◌≢◌, ⊎_elim}
use mathlib.Core.Bool.{Bool, true, false, not, ◌&&◌}
use mathlib.Core.List.{List, [], ◌∷◌, ◌++◌, map}
use Prim.Native.Nat.{ℕ, zero, suc, ◌+◌, ◌*◌, ◌≤◌, ◌<◌, zero-le, suc-le-suc}
use native.Mathlib.Nat.{not-suc-le-zero, le_of_suc-le-suc, eq-or-lt_of_le}
use native.Mathlib.Omega.{arith}
use native.Mathlib.Numerals.{add-one}
use lib.Dec.{leb, eqb}
use borrow.Author.Tests.{lt-leb, leb-false, eqb-false, ne_eqb}
use lib.ListN.{length, get_or, set, take}
use lib.Seq.{take-suc, get_or-take, length-take-le, get_or-set_same, get_or-set_other}
use lib.Ieee.{Float, nan}
use Rattle.numbers.specs.Ops.{f0, f1}
use Rattle.numbers.specs.Order.{pick, count}
use Rattle.numbers.specs.Table.{table}
use Rattle.numbers.proofs.order.Laws.{All, all_map, count_none}
use Rattle.numbers.proofs.order.Tables.{length_table, get_d_table, table_zero, table_suc}
use Rattle.numbers.proofs.order.Strides.{get_d_strided, length_strided}
use Rattle.plane.specs.declared.geometry.Point.{Point}
use Rattle.plane.specs.declared.geometry.Box.{Box}
use Rattle.plane.specs.Plane.{origin, point_at, box_at, no_box}
use Rattle.plane.specs.Overlap.{overlap}
use Rattle.plane.specs.Stages.Cells.{by_cell}
use Rattle.plane.specs.Stages.Kept.{Kept}
use Rattle.plane.proofs.cells.CellOrder.{count_put}
use Rattle.plane.proofs.box_order.Keeping.{kept_none, kept_ext, count_zero, count_end, count_cons}
use Rattle.network.specs.Words.{is_occupied}
use Rattle.network.specs.Seed.{place_at}
use Rattle.network.specs.Views.{counts_in, order_in, points_in, boxes_in}
use Rattle.network.proofs.Views.{length_points, get_d_points, points_set, box_same, box_other, boxes_zero, boxes_push}
use Rattle.stations.specs.declared.measures.Measures.{Measures}
use Rattle.stations.specs.Size.{Size, size_at}
use Rattle.stations.specs.Stages.Views.{size_in, sizes_in, scales_in}
use Rattle.network.proofs.Occupied.{is_occupied_lem, not_occupied}
use Rattle.offsets.specs.declared.offset.Offset.{Offset}
use Rattle.std.specs.Prelude.{is_some}
use Rattle.placement.specs.Place.{box_of, next_place, places_to, places, finds_free, find_free_to, all_find_free, boxes}
use Rattle.placement.specs.Search.{HalfSides, half_sides_for, half_sides, half_sides_at, box_on, free, place_for, found_place}
use Rattle.placement.specs.Stages.Views.{half_sides_in, half_sides_listed, put_box, PlacedAs}
use Rattle.placement.specs.Stages.Among.{kept_boxes, Holds}
use Rattle.placement.specs.Stages.Listed.{Turns}
use Rattle.numbers.proofs.order.Sorting.{map_agree}
use Rattle.placement.proofs.free_places.Searching.{free_count, place_same, found_same}

pub all_of_lem : (P : ℕ → Type 0) (l : List ℕ) → ((i : ℕ) → i < length l → P (get_or l i 0)) → All P l
all_of_lem P [] h = tt
all_of_lem P (x ∷ xs) h = (h zero (suc-le-suc zero-le), all_of_lem P xs (λ i l. h (suc i) (suc-le-suc l)))

-- ---- what station s's interior is drawn in
module _ (M : Measures) (k : ℕ) (blocks : List Float) where
  pub half_sides_at_lem : (s : ℕ) → s < k → half_sides_at (half_sides_listed M k blocks) s ≡ half_sides_in M blocks s
  unfolding half_sides sizes_in
  half_sides_at_lem s h =
      let zs : List Size = sizes_in k blocks in
      let l : s < length zs = rw (length_table (size_in blocks) k) h in
      get_d_table (λ i. half_sides_for M (get_or (scales_in k blocks) i f1) (size_at zs i)) (length zs) s (record { half = record { w = f0; h = f0 }; f = f0; buffer = f0 }) l
      ∙ ap (λ (x : Float). half_sides_for M x (size_at zs s)) (get_d_strided 3 2 nan k s blocks f1 h)
      ∙ ap (half_sides_for M (get_or blocks (3 * s + 2) nan)) (get_d_table (size_in blocks) k s (record { w = f0; h = f0 }) h)

-- ---- the first p stations of the order are placed, and their boxes are kept
pub record Placed (unit : Float) (fs : List HalfSides) (os : List Offset) (seeds : List Point) (order : List ℕ) (k p most : ℕ) (all_free : Bool) (ps bs : List Float) (keys sorted : List ℕ) : Type 0 where
  pub points : points_in k ps ≡ places_to fs os seeds order p
  pub boxes : All (λ t. box_at bs t ≡ box_of fs (places_to fs os seeds order p) t) (take p order)
  pub kept : Kept unit bs most (take p keys) (take p sorted)
  pub same : (t : ℕ → Bool) → count t (take p sorted) ≡ count t (take p order)
  pub free : all_free ≡ find_free_to fs os seeds order p

pub placed_none : (unit : Float) (fs : List HalfSides) (os : List Offset) (order : List ℕ) (k : ℕ) (ps bs : List Float) (keys sorted : List ℕ)
    → Placed unit fs os (points_in k ps) order k 0 0 true ps bs keys sorted
unfolding places_to find_free_to
placed_none unit fs os order k ps bs keys sorted = record { points = refl; boxes = tt; kept = kept_none unit bs; same = λ t. refl; free = refl }

all_two : (P Q R : ℕ → Type 0) → ((x : ℕ) → P x → Q x → R x) → (l : List ℕ) → All P l → All Q l → All R l
all_two P Q R f [] a b = tt
all_two P Q R f (x ∷ l) a b = (f x a.0 b.0, all_two P Q R f l a.1 b.1)

all_end : (P : ℕ → Type 0) (l : List ℕ) (x : ℕ) → All P l → P x → All P (l ++ (x ∷ []))
all_end P [] x a h = (h, tt)
all_end P (y ∷ l) x a h = (a.0, all_end P l x a.1 h)

-- a box stored of a station that isn't kept changes nothing of those that are
pub kept_on : (unit : Float) (bs bs' : List Float) (most : ℕ) (keys sorted : List ℕ) (s : ℕ) (b : Box) → bs' ≡ put_box bs s b → All (λ y. s ≡ y → ⊥) sorted
    → Kept unit bs most keys sorted → Kept unit bs' most keys sorted
kept_on unit bs bs' most keys sorted s b e f K =
    kept_ext unit bs bs' most keys sorted
    (all_map (λ y. s ≡ y → ⊥) (λ y. box_at bs y ≡ box_at bs' y) (λ y n. sym (ap (λ (x : List Float). box_at x y) e ∙ box_other bs s y b (λ z. n (sym z)))) sorted f) K

module _ (unit : Float) (fs : List HalfSides) (os : List Offset) (seeds : List Point) (order : List ℕ) (k p most : ℕ) (all_free : Bool) (ps bs : List Float) (keys sorted : List ℕ)
    (T : Turns k order) (D : Placed unit fs os seeds order k p most all_free ps bs keys sorted) (h : p ≤ length order) where
  -- what is so of every station placed is so of every station kept
  kept_all : (t : ℕ → Bool) → ((i : ℕ) → i < p → t (get_or order i 0) ≡ false) → All (λ y. t y ≡ false) (take p sorted)
  kept_all t f =
      count_zero t (take p sorted)
      (D.same t ∙ count_none t (take p order) (all_of_lem (λ y. t y ≡ false) (take p order) (λ i q.
      let j : i < p = subst (λ (n : ℕ). i < n) (length-take-le p order h) q in
      ap t (get_or-take p order i 0 j) ∙ f i j)))

  pub holds_of : 4 * k ≤ length bs → Holds unit bs most (take p keys) (take p sorted)
  holds_of l = record {
    kept = D.kept;
    inside =
        all_map (λ y. leb k y ≡ false) (λ y. 4 * y + 3 < length bs) (λ y e. let g : y < k = leb-false k y e in omega arith) (take p sorted)
        (kept_all (λ y. leb k y) (λ i q. lt-leb k (get_or order i 0) (T.below i (omega arith))));
  }

  pub fresh_of : p < length order → (s : ℕ) → s ≡ get_or order p 0 → All (λ y. s ≡ y → ⊥) (take p sorted)
  fresh_of g s e =
      all_map (λ y. eqb s y ≡ false) (λ y. s ≡ y → ⊥) (λ y f. eqb-false s y f) (take p sorted)
      (kept_all (λ y. eqb s y) (λ i q. ne_eqb s (get_or order i 0) (λ z. let w : i ≡ p = T.once i p (omega arith) g (sym z ∙ e) in omega arith)))

  -- the boxes kept are free of what those of the stations placed are
  free_same : (q : Box) → free q (kept_boxes bs (take p sorted)) ≡ free q (map (box_of fs (places_to fs os seeds order p)) (take p order))
  free_same q =
      free_count (box_at bs) q (take p sorted)
      ∙ ap (λ (c : ℕ). eqb c 0) (D.same (λ y. overlap q (box_at bs y)))
      ∙ sym (free_count (box_at bs) q (take p order))
      ∙ ap (free q) (map_agree (box_at bs) (box_of fs (places_to fs os seeds order p)) (take p order) D.boxes)

pub not_true : (b : Bool) → not b ≡ true → b ≡ false
not_true true e = sym e
not_true false e = refl

and_false : (a b : Bool) → b ≡ false → (a && b) ≡ false
and_false true b e = e
and_false false b e = refl

-- Where one of the order finds no free place, not all do.
none_after : (fs : List HalfSides) (os : List Offset) (seeds : List Point) (order : List ℕ) (p : ℕ) → finds_free fs os seeds order p ≡ false
    → (n : ℕ) → p < n → find_free_to fs os seeds order n ≡ false
unfolding find_free_to
none_after fs os seeds order p e zero h = absurd (not-suc-le-zero h)
none_after fs os seeds order p e (suc n) h = ⊎_elim
    (λ (q : p ≡ n). and_false (find_free_to fs os seeds order n) (finds_free fs os seeds order n) (subst (λ (i : ℕ). finds_free fs os seeds order i ≡ false) q e))
    (λ (q : p < n). ap (λ (b : Bool). b && finds_free fs os seeds order n) (none_after fs os seeds order p e n q))
    (eq-or-lt_of_le (le_of_suc-le-suc h))

module _ (M : Measures) (k : ℕ) (blocks : List Float) (os : List Offset) (seeds : List Point) (order : List ℕ) (T : Turns k order) (p s : ℕ) (h : p < length order) (e : s ≡ get_or order p 0)
    (most wider : ℕ) (all_free : Bool) (ps bs ps' bs' : List Float) (keys sorted keys' sorted' : List ℕ) (l : 2 * k ≤ length ps) (m : 4 * k ≤ length bs)
    (S : PlacedAs M blocks os s p wider ps bs sorted ps' bs' keys' sorted')
    (D : Placed M.unit (half_sides_listed M k blocks) os seeds order k p most all_free ps bs keys sorted) (free : Bool)
    (F : free ≡ is_some (found_place (point_at ps s) (half_sides_in M blocks s) (kept_boxes bs (take p sorted)) os)) where
  abbrev fs : List HalfSides
  fs = half_sides_listed M k blocks

  abbrev before : List Point
  before = places_to fs os seeds order p

  abbrev after : List Point
  after = set before s S.at

  below : s < k
  below = subst (λ (n : ℕ). n < k) (sym e) (T.below p h)

  seed_is : point_at ps s ≡ place_at before s
  seed_is = sym (get_d_points k s ps origin below) ∙ ap (λ (q : List Point). get_or q s origin) D.points

  chosen_is : S.at ≡ next_place fs os before (take p order) s
  unfolding next_place
  chosen_is =
      S.chosen ∙ ap (λ (c : Point). place_for c (half_sides_in M blocks s) (kept_boxes bs (take p sorted)) os) seed_is
      ∙ ap (λ (r : HalfSides). place_for (place_at before s) r (kept_boxes bs (take p sorted)) os) (sym (half_sides_at_lem M k blocks s below))
      ∙ place_same (place_at before s) (half_sides_at fs s) (kept_boxes bs (take p sorted)) (map (box_of fs before) (take p order))
      (free_same M.unit fs os seeds order k p most all_free ps bs keys sorted T D (omega arith)) os

  -- whether it finds a free place
  free_is : free ≡ finds_free fs os seeds order p
  unfolding finds_free
  free_is =
      F ∙ ap (λ (c : Point). is_some (found_place c (half_sides_in M blocks s) (kept_boxes bs (take p sorted)) os)) seed_is
      ∙ ap (λ (r : HalfSides). is_some (found_place (place_at before s) r (kept_boxes bs (take p sorted)) os)) (sym (half_sides_at_lem M k blocks s below))
      ∙ ap is_some
      (found_same (place_at before s) (half_sides_at fs s) (kept_boxes bs (take p sorted)) (map (box_of fs before) (take p order))
      (free_same M.unit fs os seeds order k p most all_free ps bs keys sorted T D (omega arith)) os)
      ∙ ap (λ (t : ℕ). is_some (found_place (place_at before t) (half_sides_at fs t) (map (box_of fs before) (take p order)) os)) e

  -- Where it finds none, not all do.
  pub gives_up : free ≡ false → false ≡ all_find_free fs os seeds order
  gives_up f = sym (none_after fs os seeds order p (sym free_is ∙ f) (length order) h)

  to_next : after ≡ places_to fs os seeds order (suc p)
  unfolding places_to
  to_next = ap (set before s) chosen_is ∙ ap (λ (t : ℕ). set before t (next_place fs os before (take p order) t)) e

  points_next : points_in k ps' ≡ places_to fs os seeds order (suc p)
  points_next =
      ap (points_in k) S.placed ∙ points_set k s ps S.at.x S.at.y below (omega (arith, below))
      ∙ ap (λ (q : List Point). set q s S.at) D.points ∙ to_next

  apart : (i : ℕ) → i < p → get_or order i 0 ≢ s
  apart i q z = let w : i ≡ p = T.once i p (omega arith) h (z ∙ e) in omega arith

  -- the boxes of the stations before s are as they were
  others : All (λ t. t ≢ s) (take p order)
  others = all_of_lem (λ t. t ≢ s) (take p order) (λ i q z.
      let j : i < p = subst (λ (n : ℕ). i < n) (length-take-le p order (omega arith)) q in
      apart i j (sym (get_or-take p order i 0 j) ∙ z))

  kept_box : (t : ℕ) → box_at bs t ≡ box_of fs before t → t ≢ s → box_at bs' t ≡ box_of fs after t
  unfolding box_of
  kept_box t b n =
      ap (λ (x : List Float). box_at x t) S.boxed ∙ box_other bs s t (box_on S.at (half_sides_in M blocks s).half) n ∙ b
      ∙ ap (λ (c : Point). box_on c (half_sides_at fs t).half) (sym (get_or-set_other before s t S.at origin n))

  own_box : box_at bs' s ≡ box_of fs after s
  unfolding box_of
  own_box =
      let n : s < length before = subst (λ (q : List Point). s < length q) D.points (rw (length_points k ps) below) in
      ap (λ (x : List Float). box_at x s) S.boxed ∙ box_same bs s (box_on S.at (half_sides_in M blocks s).half) (omega (arith, below))
      ∙ ap (λ (r : HalfSides). box_on S.at r.half) (sym (half_sides_at_lem M k blocks s below))
      ∙ ap (λ (c : Point). box_on c (half_sides_at fs s).half) (sym (get_or-set_same before s S.at origin n))

  order_next : take (suc p) order ≡ take p order ++ (s ∷ [])
  order_next = take-suc order p 0 h ∙ ap (λ (t : ℕ). take p order ++ (t ∷ [])) (sym e)

  boxes_next : All (λ t. box_at bs' t ≡ box_of fs (places_to fs os seeds order (suc p)) t) (take (suc p) order)
  boxes_next =
      subst (λ (q : List Point). All (λ t. box_at bs' t ≡ box_of fs q t) (take (suc p) order)) to_next
      (subst (All (λ t. box_at bs' t ≡ box_of fs after t)) (sym order_next)
      (all_end (λ t. box_at bs' t ≡ box_of fs after t) (take p order) s
      (all_two (λ t. box_at bs t ≡ box_of fs before t) (λ t. t ≢ s) (λ t. box_at bs' t ≡ box_of fs after t) kept_box (take p order) D.boxes others)
      own_box))

  same_next : (t : ℕ → Bool) → count t (take (suc p) sorted') ≡ count t (take (suc p) order)
  same_next t =
      ap (count t) S.listed ∙ count_put (by_cell M.unit (box_at bs')) t s (take p sorted)
      ∙ count_cons t s (take p sorted) (take p order) (D.same t)
      ∙ sym (count_end t s (take p order)) ∙ ap (count t) (sym order_next)

  free_next : (all_free && free) ≡ find_free_to fs os seeds order (suc p)
  unfolding find_free_to
  free_next = ap (λ (b : Bool). b && free) D.free ∙ ap (λ (b : Bool). find_free_to fs os seeds order p && b) free_is

  pub placed_more : Placed M.unit fs os seeds order k (p + 1) wider (all_free && free) ps' bs' keys' sorted'
  placed_more = rw (add-one p) (record { points = points_next; boxes = boxes_next; kept = S.kept; same = same_next; free = free_next })

module _ (unit : Float) (fs : List HalfSides) (os : List Offset) (seeds : List Point) (r : ℕ) (st : List ℕ) (k p most : ℕ) (all_free : Bool) (ps bs : List Float) (keys sorted : List ℕ) (e : p ≡ r)
    (D : Placed unit fs os seeds (order_in r st) k p most all_free ps bs keys sorted) where
  pub placed_end : points_in k ps ≡ places fs os seeds (order_in r st)
  unfolding places
  placed_end = D.points ∙ ap (places_to fs os seeds (order_in r st)) (e ∙ sym (length_strided 2 1 0 r st))

  pub free_end : all_free ≡ all_find_free fs os seeds (order_in r st)
  free_end = D.free ∙ ap (find_free_to fs os seeds (order_in r st)) (e ∙ sym (length_strided 2 1 0 r st))

-- ---- the box list
module _ (M : Measures) (k : ℕ) (st : List ℕ) (blocks ps : List Float) where
  abbrev all_half_sides : List HalfSides
  all_half_sides = half_sides_listed M k blocks

  abbrev pub box_for : ℕ → Box
  box_for s = pick (is_occupied (counts_in k st) s) (box_of (half_sides_listed M k blocks) (points_in k ps) s) no_box

  pub boxes_none : (bs : List Float) → boxes_in 0 bs ≡ table box_for 0
  boxes_none bs = boxes_zero bs ∙ sym (table_zero box_for)

  put_more : (s : ℕ) (bs : List Float) (b : Box) → 4 * s + 3 < length bs → b ≡ box_for s → boxes_in s bs ≡ table box_for s → boxes_in (s + 1) (put_box bs s b) ≡ table box_for (s + 1)
  put_more s bs b h e i =
      rw (add-one s)
      (boxes_push s bs b h ∙ ap (λ (q : List Box). q ++ (b ∷ [])) i ∙ ap (λ (x : Box). table box_for s ++ (x ∷ [])) e ∙ sym (table_suc box_for s))

  pub boxes_yes : (s : ℕ) (bs : List Float) (b : Box) → s < k → 4 * s + 3 < length bs → 0 < get_or st (2 * s) 0 → b ≡ box_on (point_at ps s) (half_sides_in M blocks s).half
      → boxes_in s bs ≡ table box_for s → boxes_in (s + 1) (put_box bs s b) ≡ table box_for (s + 1)
  unfolding box_of
  boxes_yes s bs b h l p e i =
      put_more s bs b l
      (e ∙ ap (λ (r : HalfSides). box_on (point_at ps s) r.half) (sym (half_sides_at_lem M k blocks s h))
      ∙ ap (λ (c : Point). box_on c (half_sides_at all_half_sides s).half) (sym (get_d_points k s ps origin h))
      ∙ ap (λ (x : Bool). pick x (box_of all_half_sides (points_in k ps) s) no_box) (sym (is_occupied_lem k s st h p))) i

  pub boxes_no : (s : ℕ) (bs : List Float) → s < k → 4 * s + 3 < length bs → get_or st (2 * s) 0 ≤ 0 → boxes_in s bs ≡ table box_for s → boxes_in (s + 1) (put_box bs s no_box) ≡ table box_for (s + 1)
  boxes_no s bs h l p i =
      put_more s bs no_box l (ap (λ (x : Bool). pick x (box_of all_half_sides (points_in k ps) s) no_box) (sym (not_occupied k s st h p))) i

  pub boxes_end : (s : ℕ) (bs : List Float) → s ≡ k → boxes_in s bs ≡ table box_for s → boxes_in k bs ≡ boxes all_half_sides (counts_in k st) (points_in k ps)
  unfolding boxes
  boxes_end s bs e i = ap (λ (n : ℕ). boxes_in n bs) (sym e) ∙ i ∙ ap (table box_for) (e ∙ sym (length_strided 2 0 0 k st))

-- a station of the order, as it stands beside the counts
pub turn_below : (k r p : ℕ) (st : List ℕ) → Turns k (order_in r st) → p < r → get_or st (2 * p + 1) 0 < k
turn_below k r p st T h =
    subst (λ (n : ℕ). n < k) (get_d_strided 2 1 0 r p st 0 h) (T.below p (rw (length_strided 2 1 0 r st) h))
