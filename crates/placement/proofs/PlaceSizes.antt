-- Half sides, places and boxes have bounds: a place is its seed, or lies at most 80 half sides from it. Assumes nothing.
use mathlib.Core.Path.{sym, subst}
use Prim.Native.Nat.{ℕ, zero, suc, ◌+◌, ◌≤◌, ◌<◌}
use native.Mathlib.Nat.{le_trans}
use native.Mathlib.Omega.{arith}
use mathlib.Core.Bool.{Bool, true, false}
use mathlib.Core.List.{List, [], ◌∷◌, map}
use lib.Dec.{lit≤}
use lib.IntN.{ℤ, pos, nat_abs}
use lib.ListN.{length, get_or, set, take}
use lib.Ieee.{Float}
use Rattle.numbers.specs.Ops.{int, f0, f1, f2, f4, ◌⊗◌, ◌⊘◌}
use Rattle.numbers.specs.Size.{AtMost}
use Rattle.numbers.proofs.float.SizeLaws.{most_weaken, add_under, sub_under, mul_most, div_most, max_most, int_most, f0_most, f1_most, f2_most, f2_least, f4_most}
use Rattle.numbers.specs.Order.{pick}
use Rattle.plane.specs.declared.geometry.Point.{Point}
use Rattle.plane.specs.declared.geometry.Box.{Box}
use Rattle.plane.specs.Plane.{origin, no_box, box_in}
use Rattle.plane.proofs.geometry.PointSizes.{Near, Edges}
use Rattle.network.specs.Words.{is_occupied}
use Rattle.network.specs.Seed.{place_at}
use Rattle.stations.specs.declared.measures.Measures.{Measures}
use Rattle.stations.specs.Size.{Size, size_at, larger}
use Rattle.stations.proofs.sizes.SideSizes.{Sides, table_at}
use Rattle.offsets.specs.declared.offset.Offset.{Offset}
use Rattle.offsets.specs.Offset.{offsets}
use Rattle.placement.specs.Stages.Listed.{Turns}
use Rattle.std.specs.Prelude.{Some, unwrap_or}
use Rattle.placement.specs.Place.{box_of, next_place, places_to, places, boxes}
use Rattle.placement.specs.Search.{HalfSides, half_sides_for, half_sides, half_sides_at, box_on, buffered, free, place, first_free, place_for}
use Rattle.placement.proofs.PlaceLaw.{waits}
use Rattle.offsets.specs.Complete.{Within}
use Rattle.offsets.proofs.OffsetLaw.{offsets_within}

-- ---- half sides: a unit, a scale of at most 1, sides in blocks
module _ (u b g : ℕ) (l : u + b ≤ g + 1075) (L : u ≤ 2097) (G : g + 1 ≤ 2097) where
  pub half_sides_most : (M : Measures) (scale : Float) (z : Size) → AtMost u M.unit → AtMost 1074 scale → Sides b z → Sides g (half_sides_for M scale z).half × AtMost u (half_sides_for M scale z).f
  unfolding half_sides_for
  half_sides_most M scale z h s Z = (record { w = half z.w Z.w; h = half z.h Z.h }, block)
    where
      block : AtMost u (M.unit ⊗ scale)
      block = mul_most u 1074 u M.unit scale (omega arith) L h s

      half : (x : Float) → AtMost b x → AtMost g (x ⊗ (M.unit ⊗ scale) ⊘ f2)
      half x k = div_most (g + 1) (1074 + 1) g (x ⊗ (M.unit ⊗ scale)) f2 (omega arith) (omega arith) (mul_most b u (g + 1) x (M.unit ⊗ scale) (omega arith) G k block) f2_least

  pub each_half_sides_most : (M : Measures) (scales : List Float) (zs : List Size) → AtMost u M.unit → ((s : ℕ) → AtMost 1074 (get_or scales s f1)) → ((s : ℕ) → Sides b (size_at zs s))
      → (s : ℕ) → Sides g (half_sides_at (half_sides M scales zs) s).half × AtMost u (half_sides_at (half_sides M scales zs) s).f
  unfolding half_sides
  each_half_sides_most M scales zs h S Z s =
      table_at (λ (r : HalfSides). Sides g r.half × AtMost u r.f) (λ i. half_sides_for M (get_or scales i f1) (size_at zs i)) (length zs) s (record { half = record { w = f0; h = f0 }; f = f0; buffer = f0 })
      (λ i k. half_sides_most M (get_or scales i f1) (size_at zs i) h (S i) (Z i)) (record { w = f0_most g; h = f0_most g }, f0_most u)

-- ---- places: seeds of at most m, half sides of at most g
module _ (m g : ℕ) (M : m + 8 ≤ 2097) (G : g + 8 ≤ 2097) (H : m ≤ g) (seed : Point) (z : Size) (S : Near m seed) (Z : Sides g z) where
  step_most : (c : ℤ) (w : Float) → nat_abs c ≤ 20 → AtMost (1074 + 2) w → AtMost (g + 7) (int c ⊗ larger z ⊗ w)
  step_most c w l k =
      mul_most (g + 5) (1074 + 2) (g + 7) (int c ⊗ larger z) w (omega arith) (omega arith)
      (mul_most (1074 + 5) g (g + 5) (int c) (larger z) (omega arith) (omega arith) (int_most c 5 (1074 + 5) (le_trans l (lit≤ tt)) (lit≤ tt) (lit≤ tt)) (max_most g z.w z.h Z.w Z.h)) k

  place_near : (w : Float) (o : Offset) → AtMost (1074 + 2) w → Within 20 o → Near (g + 8) (place seed z w o)
  unfolding place
  place_near w o k O = record {
    x = add_under m (g + 7) (g + 8) seed.x (int o.a ⊗ larger z ⊗ w) (omega arith) (omega arith) G S.x (step_most o.a w O.0 k);
    y = add_under m (g + 7) (g + 8) seed.y (int o.b ⊗ larger z ⊗ w) (omega arith) (omega arith) G S.y (step_most o.b w O.1 k);
  }

-- every offset of a list is within 20
abbrev pub Offsets : List Offset → Type 0
Offsets [] = Unit {0}
Offsets (o ∷ os) = Within 20 o × Offsets os

module _ (m g : ℕ) (M : m + 8 ≤ 2097) (G : g + 8 ≤ 2097) (H : m ≤ g) (seed : Point) (r : HalfSides) (earlier : List Box) (S : Near m seed) (Z : Sides g r.half) where
  first_near : (w : Float) (os : List Offset) (p : Point) → AtMost (1074 + 2) w → Offsets os → Near (g + 8) p → Near (g + 8) (unwrap_or (first_free seed r earlier w os) p)
  unfolding first_free
  first_near w [] p k O P = P
  first_near w (o ∷ os) p k O P = go (free (buffered (place seed r.half w o) r) earlier) (first_near w os p k O.1 P)
    where
      go : (b : Bool) → Near (g + 8) (unwrap_or (first_free seed r earlier w os) p) → Near (g + 8) (unwrap_or (pick b (Some (place seed r.half w o)) (first_free seed r earlier w os)) p)
      go true h = place_near m g M G H seed r.half S Z w o k O.0
      go false h = h

  pub place_for_near : (os : List Offset) → Offsets os → Near (g + 8) (place_for seed r earlier os)
  unfolding place_for
  place_for_near os O =
      first_near f1 os (unwrap_or (first_free seed r earlier f2 os) (unwrap_or (first_free seed r earlier f4 os) seed)) (most_weaken 1074 (1074 + 2) f1 (lit≤ tt) f1_most) O
      (first_near f2 os (unwrap_or (first_free seed r earlier f4 os) seed) (most_weaken (1074 + 1) (1074 + 2) f2 (lit≤ tt) f2_most) O
      (first_near f4 os seed f4_most O (record { x = most_weaken m (g + 8) seed.x (omega arith) S.x; y = most_weaken m (g + 8) seed.y (omega arith) S.y })))

-- ---- the list of places: each station is placed once, from its seed
set_at_any : {A : Type 0} (P : A → Type 0) (l : List A) (i j : ℕ) (x d : A) → P x → P (get_or l j d) → P (get_or (set l i x) j d)
set_at_any P [] i j x d p h = h
set_at_any P (y ∷ ys) zero zero x d p h = p
set_at_any P (y ∷ ys) zero (suc j) x d p h = h
set_at_any P (y ∷ ys) (suc i) zero x d p h = h
set_at_any P (y ∷ ys) (suc i) (suc j) x d p h = set_at_any P ys i j x d p h

module _ (m g : ℕ) (M : m + 8 ≤ 2097) (G : g + 8 ≤ 2097) (H : m ≤ g) (fs : List HalfSides) (os : List Offset) (seeds : List Point) (order : List ℕ) (T : Turns (length seeds) order)
    (S : (s : ℕ) → Near m (place_at seeds s)) (F : (s : ℕ) → Sides g (half_sides_at fs s).half) (O : Offsets os) where
  to_near : (i : ℕ) → i ≤ length order → (s : ℕ) → Near (g + 8) (place_at (places_to fs os seeds order i) s)
  unfolding places_to next_place
  to_near zero l s = record { x = most_weaken m (g + 8) (place_at seeds s).x (omega arith) (S s).x; y = most_weaken m (g + 8) (place_at seeds s).y (omega arith) (S s).y }
  to_near (suc i) l s =
      let t = get_or order i 0 in
      let places = places_to fs os seeds order i in
      let seed : Near m (place_at places t) = subst (Near m) (sym (waits fs os seeds order T i i (omega arith) l)) (S t) in
      set_at_any (Near (g + 8)) places t s (place_for (place_at places t) (half_sides_at fs t) (map (box_of fs places) (take i order)) os) origin
      (place_for_near m g M G H (place_at places t) (half_sides_at fs t) (map (box_of fs places) (take i order)) seed (F t) os O) (to_near i (omega arith) s)

  pub places_near : (s : ℕ) → Near (g + 8) (place_at (places fs os seeds order) s)
  unfolding places
  places_near s = to_near (length order) (omega arith) s

-- ---- offsets of the search
offsets_each : (l : List Offset) (d : Offset) → ((j : ℕ) → j < length l → Within 20 (get_or l j d)) → Offsets l
offsets_each [] d h = tt
offsets_each (o ∷ os) d h = (h 0 (omega arith), offsets_each os d (λ j k. h (suc j) (omega arith)))

pub offsets_near : (search : ℕ) → search ≤ 20 → Offsets (offsets search)
offsets_near search l =
    offsets_each (offsets search) (record { a = pos 0; b = pos 0 })
    (λ j k. let w = offsets_within search l j (record { a = pos 0; b = pos 0 }) k in (le_trans w.0 l, le_trans w.1 l))

pub box_most : (k g : ℕ) (c : Point) (z : Size) → k + 1 ≤ 2097 → g ≤ k → Near k c → Sides g z → Edges (k + 1) (box_on c z)
unfolding box_on
box_most k g c z K G C Z = (
  sub_under k g (k + 1) c.x z.w (omega arith) (omega arith) K C.x Z.w,
  sub_under k g (k + 1) c.y z.h (omega arith) (omega arith) K C.y Z.h,
  add_under k g (k + 1) c.x z.w (omega arith) (omega arith) K C.x Z.w,
  add_under k g (k + 1) c.y z.h (omega arith) (omega arith) K C.y Z.h,
)

pub boxes_most : (k g : ℕ) (fs : List HalfSides) (counts : List ℕ) (ps : List Point) → k + 1 ≤ 2097 → g ≤ k → ((s : ℕ) → Near k (place_at ps s)) → ((s : ℕ) → Sides g (half_sides_at fs s).half)
    → (s : ℕ) → Edges (k + 1) (box_in (boxes fs counts ps) s)
unfolding boxes box_of
boxes_most k g fs counts ps K G P F s =
    table_at (Edges (k + 1)) (λ i. pick (is_occupied counts i) (box_of fs ps i) no_box) (length counts) s no_box
    (λ i l. go (is_occupied counts i) (box_of fs ps i) (box_most k g (place_at ps i) (half_sides_at fs i).half K G (P i) (F i))) none
  where
    none : Edges (k + 1) no_box
    none = (f0_most (k + 1), f0_most (k + 1), f0_most (k + 1), f0_most (k + 1))

    go : (b : Bool) (x : Box) → Edges (k + 1) x → Edges (k + 1) (pick b x no_box)
    go true x h = h
    go false x h = none
