-- Each station's place is the first free one of the search, or its seed where none is free. Assumes nothing.
--     first_free_of     the search takes the first free place of the widenings 1, 2, 4, each with all offsets in their order, else the seed
--     place_of          every station's place in a finished drawing is what this search gives, by the boxes of the stations before it
--     found_or_seed     so it is free there, or it is the seed
--     free_if_found     a place that the search finds is free
--     all_found         so where every search finds one, every box is free at its place
--     clear_of          where it is free, the box with its buffer overlaps no box of a station before it
use mathlib.Core.Path.{◌≡◌, refl, sym, ap, subst, ◌∙◌}
use mathlib.Core.Logic.{◌⊎◌, inl, inr, ⊎_elim}
use mathlib.Core.Bool.{Bool, true, false, not, ◌&&◌}
use mathlib.Core.List.{List, [], ◌∷◌, ◌++◌, map}
use Prim.Native.Nat.{ℕ, zero, suc, ◌≤◌, ◌<◌, zero-le, suc-le-suc}
use native.Mathlib.Nat.{not-suc-le-zero, le_of_suc-le-suc, eq-or-lt_of_le, le_of_lt}
use native.Mathlib.Omega.{arith}
use lib.ListN.{length, get_or, take, length-set, length-map, get_or-map}
use lib.Seq.{get_or-set_same, get_or-set_other, get_or-take, length-take-le}
use lib.Ieee.{Float}
use Rattle.numbers.specs.Ops.{f1, f2, f4}
use Rattle.numbers.specs.Order.{pick}
use Rattle.plane.specs.declared.geometry.Point.{Point}
use Rattle.plane.specs.declared.geometry.Box.{Box}
use Rattle.plane.specs.Plane.{origin}
use Rattle.plane.specs.Overlap.{overlap}
use Rattle.network.specs.Seed.{place_at}
use Rattle.offsets.specs.declared.offset.Offset.{Offset}
use Rattle.std.specs.Prelude.{Option, Some, None, is_some, unwrap_or}
use Rattle.std.specs.Option.{option_or}
use Rattle.placement.specs.Place.{box_of, next_place, places_to, places, found_free, finds_free, find_free_to}
use Rattle.placement.specs.Search.{HalfSides, free, buffered, place, tries, FirstOf, first_free, found_place, place_for, box_on, half_sides_at}
use Rattle.placement.specs.Stages.Listed.{Turns}
use Rattle.numbers.proofs.order.Sorting.{map_agree}
use Rattle.placement.proofs.Placing.{all_of_lem}
use Rattle.placement.proofs.free_places.Searching.{place_found}

-- ---- the search
module _ (p : Point → Bool) (d : Point) where
  first : List Point → Point
  first [] = d
  first (x ∷ xs) = pick (p x) x (first xs)

  later : (P : ℕ → Type 0) → P zero → ((j : ℕ) → P (suc j)) → (j : ℕ) → P j
  later P z s zero = z
  later P z s (suc j) = s j

  first_law : (l : List Point) → FirstOf p l d (first l)
  unfolding first
  first_law [] = inr (refl, λ j h. absurd (not-suc-le-zero h))
  first_law (x ∷ xs) = go (p x) refl (first_law xs)
    where
      go : (b : Bool) → p x ≡ b → FirstOf p xs d (first xs) → FirstOf p (x ∷ xs) d (pick b x (first xs))
      go true e h = inl (zero, suc-le-suc zero-le, refl, e, λ j k. absurd (not-suc-le-zero k))
      go false e (inl h) =
          inl (
            suc h.0,
            suc-le-suc h.1,
            h.2,
            h.3,
            later (λ j. j < suc h.0 → p (get_or (x ∷ xs) j d) ≡ false) (λ k. e) (λ j k. h.4 j (le_of_suc-le-suc k)),
          )
      go false e (inr h) = inr (h.0, later (λ j. j < suc (length xs) → p (get_or (x ∷ xs) j d) ≡ false) (λ k. e) (λ j k. h.1 j (le_of_suc-le-suc k)))

module _ (seed : Point) (r : HalfSides) (earlier : List Box) where
  abbrev is_free : Point → Bool
  is_free c = free (buffered c r) earlier

  through : (w : Float) (os : List Offset) (l : List Point)
      → first is_free seed (map (place seed r.half w) os ++ l) ≡ unwrap_or (first_free seed r earlier w os) (first is_free seed l)
  unfolding first first_free
  through w [] l = refl
  through w (o ∷ os) l = go (is_free (place seed r.half w o)) (through w os l)
    where
      go : (b : Bool) → first is_free seed (map (place seed r.half w) os ++ l) ≡ unwrap_or (first_free seed r earlier w os) (first is_free seed l)
          → pick b (place seed r.half w o) (first is_free seed (map (place seed r.half w) os ++ l))
          ≡ unwrap_or (pick b (Some (place seed r.half w o)) (first_free seed r earlier w os)) (first is_free seed l)
      go true h = refl
      go false h = h

  alone : (w : Float) (os : List Offset) → first is_free seed (map (place seed r.half w) os) ≡ unwrap_or (first_free seed r earlier w os) seed
  unfolding first first_free
  alone w [] = refl
  alone w (o ∷ os) = go (is_free (place seed r.half w o)) (alone w os)
    where
      go : (b : Bool) → first is_free seed (map (place seed r.half w) os) ≡ unwrap_or (first_free seed r earlier w os) seed
          → pick b (place seed r.half w o) (first is_free seed (map (place seed r.half w) os))
          ≡ unwrap_or (pick b (Some (place seed r.half w o)) (first_free seed r earlier w os)) seed
      go true h = refl
      go false h = h

  search_is : (os : List Offset) → first is_free seed (tries seed r.half os) ≡ place_for seed r earlier os
  unfolding place_for
  search_is os =
      through f1 os (map (place seed r.half f2) os ++ map (place seed r.half f4) os)
      ∙ ap (unwrap_or (first_free seed r earlier f1 os)) (through f2 os (map (place seed r.half f4) os) ∙ ap (unwrap_or (first_free seed r earlier f2 os)) (alone f4 os))

  pub first_free_of : (os : List Offset) → FirstOf (λ c. free (buffered c r) earlier) (tries seed r.half os) seed (place_for seed r earlier os)
  first_free_of os = subst (FirstOf is_free (tries seed r.half os) seed) (search_is os) (first_law is_free seed (tries seed r.half os))

  pub free_or_seed : (os : List Offset) → (free (buffered (place_for seed r earlier os) r) earlier ≡ true) ⊎ (place_for seed r earlier os ≡ seed)
  free_or_seed os = ⊎_elim (λ h. inl h.3) (λ h. inr h.0) (first_free_of os)

  -- what the search finds is free
  first_sound : (w : Float) (os : List Offset) (c : Point) → first_free seed r earlier w os ≡ Some c → is_free c ≡ true
  unfolding first_free
  first_sound w [] c e = cc
  first_sound w (o ∷ os) c e = go (is_free (place seed r.half w o)) refl (first_sound w os c) e
    where
      go : (b : Bool) → is_free (place seed r.half w o) ≡ b → (first_free seed r earlier w os ≡ Some c → is_free c ≡ true)
          → pick b (Some (place seed r.half w o)) (first_free seed r earlier w os) ≡ Some c → is_free c ≡ true
      go true f l g = let s : place seed r.half w o ≡ c = cc in ap is_free (sym s) ∙ f
      go false f l g = l g

  found_sound : (os : List Offset) (c : Point) → found_place seed r earlier os ≡ Some c → is_free c ≡ true
  unfolding found_place
  found_sound os c e = go (first_free seed r earlier f1 os) (first_free seed r earlier f2 os) (first_sound f1 os) (first_sound f2 os) e
    where
      go : (a b : Option Point) → ((x : Point) → a ≡ Some x → is_free x ≡ true) → ((x : Point) → b ≡ Some x → is_free x ≡ true)
          → option_or a (option_or b (first_free seed r earlier f4 os)) ≡ Some c → is_free c ≡ true
      go (Some x) b f g h = f c h
      go None (Some x) f g h = g c h
      go None None f g h = first_sound f4 os c h

  pub free_if_found : (os : List Offset) → is_some (found_place seed r earlier os) ≡ true → is_free (place_for seed r earlier os) ≡ true
  free_if_found os h = go (found_place seed r earlier os) refl h
    where
      go : (o : Option Point) → found_place seed r earlier os ≡ o → is_some o ≡ true → is_free (place_for seed r earlier os) ≡ true
      go None e h = cc
      go (Some c) e h =
          ap is_free (sym (place_found seed r earlier os) ∙ ap (λ (x : Option Point). unwrap_or x seed) e) ∙ found_sound os c e

-- ---- the finished drawing
module _ (fs : List HalfSides) (os : List Offset) (seeds : List Point) (order : List ℕ) (T : Turns (length seeds) order) where
  abbrev at : ℕ → List Point
  at i = places_to fs os seeds order i

  abbrev end : List Point
  end = places fs os seeds order

  abbrev station : ℕ → ℕ
  station i = get_or order i 0

  length_at : (i : ℕ) → length (at i) ≡ length seeds
  unfolding places_to
  length_at zero = refl
  length_at (suc i) = length-set (at i) (station i) _ ∙ length_at i

  -- until its turn a station stands on its seed
  pub waits : (j i : ℕ) → j ≤ i → i < length order → place_at (at j) (station i) ≡ place_at seeds (station i)
  unfolding places_to
  waits zero i h l = refl
  waits (suc j) i h l =
      get_or-set_other (at j) (station j) (station i) _ origin (λ (e : station i ≡ station j). let z : i ≡ j = T.once i j l (omega arith) e in omega arith)
      ∙ waits j i (omega arith) l

  -- and then keeps its place
  keeps : (j i : ℕ) → i < j → j ≤ length order → place_at (at j) (station i) ≡ place_at (at (suc i)) (station i)
  unfolding places_to
  keeps zero i h l = absurd (not-suc-le-zero h)
  keeps (suc j) i h l = ⊎_elim
      (λ (e : i ≡ j). subst (λ (k : ℕ). place_at (at (suc j)) (station i) ≡ place_at (at (suc k)) (station i)) (sym e) refl)
      (λ (k : i < j).
      get_or-set_other (at j) (station j) (station i) _ origin (λ (e : station i ≡ station j). let z : i ≡ j = T.once i j (omega arith) l e in omega arith)
      ∙ keeps j i k (le_of_lt l))
      (eq-or-lt_of_le (le_of_suc-le-suc h))

  -- the boxes of those placed before are those of the finished drawing
  settled : (i : ℕ) → i ≤ length order → map (box_of fs (at i)) (take i order) ≡ map (box_of fs end) (take i order)
  unfolding box_of places
  settled i l = map_agree (box_of fs (at i)) (box_of fs end) (take i order) (all_of_lem (λ t. box_of fs (at i) t ≡ box_of fs end t) (take i order) (λ j q.
      let k : j < i = subst (λ (n : ℕ). j < n) (length-take-le i order l) q in
      let e : get_or (take i order) j 0 ≡ station j = get_or-take i order j 0 k in
      subst (λ (t : ℕ). box_of fs (at i) t ≡ box_of fs end t) (sym e)
      (ap (λ (c : Point). box_on c (half_sides_at fs (station j)).half) (keeps i j k l ∙ sym (keeps (length order) j (omega arith) (omega arith))))))

  pub place_of : (i : ℕ) → i < length order
      → place_at end (station i) ≡ place_for (place_at seeds (station i)) (half_sides_at fs (station i)) (map (box_of fs end) (take i order)) os
  unfolding places_to next_place places
  place_of i h =
      let s = station i in
      keeps (length order) i h (omega arith)
      ∙ get_or-set_same (at i) s (next_place fs os (at i) (take i order) s) origin (subst (λ (n : ℕ). s < n) (sym (length_at i)) (T.below i h))
      ∙ ap (λ (c : Point). place_for c (half_sides_at fs s) (map (box_of fs (at i)) (take i order)) os) (waits i i (omega arith) h)
      ∙ ap (λ (q : List Box). place_for (place_at seeds s) (half_sides_at fs s) q os) (settled i (omega arith))

  found_is : (i : ℕ) → i < length order
      → found_free fs os seeds order i ≡ free (buffered (place_at end (station i)) (half_sides_at fs (station i))) (map (box_of fs end) (take i order))
  unfolding found_free
  found_is i h = ap (free (buffered (place_at end (station i)) (half_sides_at fs (station i)))) (settled i (omega arith))

  -- where its search finds a free place, its box is free there
  pub found_of : (i : ℕ) → i < length order → finds_free fs os seeds order i ≡ true → found_free fs os seeds order i ≡ true
  unfolding finds_free found_free places_to next_place places
  found_of i h f =
      let s = station i in
      let q = map (box_of fs (at i)) (take i order) in
      ap (λ (c : Point). free (buffered c (half_sides_at fs s)) q)
      (keeps (length order) i h (omega arith)
      ∙ get_or-set_same (at i) s (next_place fs os (at i) (take i order) s) origin (subst (λ (n : ℕ). s < n) (sym (length_at i)) (T.below i h)))
      ∙ free_if_found (place_at (at i) s) (half_sides_at fs s) q os f

  -- where every search does, every box is
  pub all_found : (n : ℕ) → n ≤ length order → find_free_to fs os seeds order n ≡ true → (i : ℕ) → i < n → found_free fs os seeds order i ≡ true
  unfolding find_free_to
  all_found zero l f i h = absurd (not-suc-le-zero h)
  all_found (suc n) l f i h = ⊎_elim
      (λ (e : i ≡ n). found_of i (omega arith) (subst (λ (j : ℕ). finds_free fs os seeds order j ≡ true) (sym e) (both f).1))
      (λ (k : i < n). all_found n (omega arith) (both f).0 i k)
      (eq-or-lt_of_le (le_of_suc-le-suc h))
    where
      split : (a b : Bool) → (a && b) ≡ true → (a ≡ true) × (b ≡ true)
      split true b e = (refl, e)
      split false b e = cc

      both : (find_free_to fs os seeds order (suc n)) ≡ true → (find_free_to fs os seeds order n ≡ true) × (finds_free fs os seeds order n ≡ true)
      both e = split (find_free_to fs os seeds order n) (finds_free fs os seeds order n) e

  pub found_or_seed : (i : ℕ) → i < length order → (found_free fs os seeds order i ≡ true) ⊎ (place_at end (station i) ≡ place_at seeds (station i))
  found_or_seed i h =
      let s = station i in
      let q = map (box_of fs end) (take i order) in
      ⊎_elim
      (λ (e : free (buffered (place_for (place_at seeds s) (half_sides_at fs s) q os) (half_sides_at fs s)) q ≡ true).
      inl (found_is i h ∙ ap (λ (c : Point). free (buffered c (half_sides_at fs s)) q) (place_of i h) ∙ e))
      (λ (e : place_for (place_at seeds s) (half_sides_at fs s) q os ≡ place_at seeds s). inr (place_of i h ∙ e))
      (free_or_seed (place_at seeds s) (half_sides_at fs s) q os)

  free_at : (p : Box) (qs : List Box) (d : Box) (i : ℕ) → i < length qs → free p qs ≡ true → overlap p (get_or qs i d) ≡ false
  unfolding free
  free_at p [] d i h t = absurd (not-suc-le-zero h)
  free_at p (q ∷ qs) d zero h t = go (overlap p q) t
    where
      go : (b : Bool) → not b && free p qs ≡ true → b ≡ false
      go true e = sym e
      go false e = refl
  free_at p (q ∷ qs) d (suc i) h t = free_at p qs d i (le_of_suc-le-suc h) (go (not (overlap p q)) t)
    where
      go : (b : Bool) → b && free p qs ≡ true → free p qs ≡ true
      go true e = e
      go false e = absurd (mathlib.Core.Bool.true≢false (sym e))

  pub clear_of : (i j : ℕ) → i < j → j < length order → found_free fs os seeds order j ≡ true
      → overlap (buffered (place_at end (station j)) (half_sides_at fs (station j))) (box_of fs end (station i)) ≡ false
  clear_of i j h l t =
      let p = buffered (place_at end (station j)) (half_sides_at fs (station j)) in
      let qs = map (box_of fs end) (take j order) in
      let n : i < length qs = subst (λ (m : ℕ). i < m) (sym (length-map (take j order) (box_of fs end) ∙ length-take-le j order (omega arith))) h in
      let e : get_or qs i (box_of fs end 0) ≡ box_of fs end (station i) = get_or-map (box_of fs end) (take j order) i 0 ∙ ap (box_of fs end) (get_or-take j order i 0 h) in
      ap (overlap p) (sym e) ∙ free_at p qs (box_of fs end 0) i n (sym (found_is j l) ∙ t)
