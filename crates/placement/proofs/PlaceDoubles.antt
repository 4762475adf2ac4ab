-- All stations' places and boxes in two drawings, the second one's seeds and half sides doubled: every place and every box is the doubled one. Assumes nothing.
use mathlib.Core.Path.{◌≡◌, sym, ◌∙◌, subst}
use mathlib.Core.Bool.{Bool, true, false, cond}
use mathlib.Core.List.{List, [], ◌∷◌, map}
use Prim.Native.Nat.{ℕ, zero, suc, ◌+◌, ◌-◌, ◌*◌, ◌/◌, ◌%◌, ◌≤◌, ◌<◌}
use native.Mathlib.Nat.{le_refl, le_of_lt, lt_of_not-le, mod-lt}
use native.Mathlib.Omega.{arith}
use native.Mathlib.Decide.{dec_le, ℕ_discrete}
use lib.IntN.{pos, negsuc, nat_abs}
use lib.Dec.{lit<}
use lib.ListN.{length, get_or, take, set, length-set, get_or-eq_default}
use lib.Seq.{get_or-set_same, get_or-set_other}
use lib.Ieee.{minus}
use borrow.Author.Tests.{le-leb, lt-leb}
use Rattle.numbers.specs.Double.{Limit}
use Rattle.numbers.proofs.float.DoublePairs.{widen_doubles, zero_doubles}
use Rattle.numbers.specs.Order.{pick, sort_by}
use Rattle.numbers.specs.Table.{table}
use Rattle.numbers.proofs.order.Tables.{get_d_table, length_table}
use Rattle.plane.specs.declared.geometry.Point.{Point}
use Rattle.plane.specs.declared.geometry.Box.{Box}
use Rattle.plane.specs.Plane.{origin, box_in, no_box}
use Rattle.network.specs.Words.{is_occupied}
use Rattle.network.specs.Seed.{place_at}
use Rattle.stations.specs.Doubles.{DoublesPoint, Paired}
use Rattle.offsets.specs.declared.offset.Offset.{Offset}
use Rattle.offsets.specs.Offset.{offset_of, offset_grid, offsets}
use Rattle.placement.specs.Place.{box_of, next_place, places_to, places, boxes}
use Rattle.placement.specs.Search.{HalfSides, half_sides_at, place_for, box_on}
use Rattle.placement.specs.Stages.Listed.{Turns}
use Rattle.placement.specs.Doubles.{DoublesBox, DoublesHalfSides, Small, SearchLimits}
use Rattle.placement.proofs.free_places.SearchDoubles.{box_doubles, search_doubles}

-- ---- offsets are at most 20 either way
minus_small : (a : ℕ) → a ≤ 40 → nat_abs (minus a 20) ≤ 20
minus_small a h = go (dec_le 20 a)
  where
    low : (a : ℕ) → a ≤ 40 → a - 20 ≤ 20
    low a h = omega arith

    high : (a : ℕ) → a < 20 → suc (20 - suc a) ≤ 20
    high a h = omega arith

    go : Dec (20 ≤ a) → nat_abs (minus a 20) ≤ 20
    go (yes l) = subst (λ (b : Bool). nat_abs (cond b (pos (a - 20)) (negsuc (20 - suc a))) ≤ 20) (sym (le-leb 20 a l)) (low a h)
    go (no f) = subst (λ (b : Bool). nat_abs (cond b (pos (a - 20)) (negsuc (20 - suc a))) ≤ 20) (sym (lt-leb 20 a (lt_of_not-le f))) (high a (lt_of_not-le f))

under : (a b : ℕ) → a < suc b → a ≤ b
under a b h = omega arith

small_map : (l : List ℕ) → Small (map offset_of l)
unfolding offset_of
small_map [] = tt
small_map (c ∷ cs) = (minus_small (c / 41 % 41) (under (c / 41 % 41) 40 (mod-lt (c / 41) (lit< tt))), minus_small (c % 41) (under (c % 41) 40 (mod-lt c (lit< tt))), small_map cs)

pub offsets_small : (search : ℕ) → Small (offsets search)
unfolding offsets
offsets_small search = small_map (sort_by (λ c. c) (offset_grid search))

-- ---- the places, one by one
wide : (t a : ℕ) → t ≤ t + a
wide t a = omega arith

point_wide : {lo t : ℕ} {p p' : Point} (a : ℕ) → DoublesPoint lo t p p' → DoublesPoint lo (t + a) p p'
point_wide {lo} {t} a h = record { x = widen_doubles lo (t + a) (le_refl lo) (wide t a) h.x; y = widen_doubles lo (t + a) (le_refl lo) (wide t a) h.y }

-- one place of a list put anew
other_doubles : {lo top : ℕ} (ps ps' : List Point) (s : ℕ) (c c' : Point) (z : ℕ) → (z ≡ s → ⊥) → DoublesPoint lo top (place_at ps z) (place_at ps' z) → DoublesPoint lo top (place_at (set ps s c) z) (place_at (set ps' s c') z)
other_doubles {lo} {top} ps ps' s c c' z f h =
    subst (λ (p : Point). DoublesPoint lo top p (place_at (set ps' s c') z)) (sym (get_or-set_other ps s z c origin f))
    (subst (λ (p : Point). DoublesPoint lo top (place_at ps z) p) (sym (get_or-set_other ps' s z c' origin f)) h)

same_doubles : {lo top : ℕ} (ps ps' : List Point) (s : ℕ) (c c' : Point) → s < length ps → s < length ps' → DoublesPoint lo top c c' → DoublesPoint lo top (place_at (set ps s c) s) (place_at (set ps' s c') s)
same_doubles {lo} {top} ps ps' s c c' b b' h =
    subst (λ (p : Point). DoublesPoint lo top p (place_at (set ps' s c') s)) (sym (get_or-set_same ps s c origin b))
    (subst (λ (p : Point). DoublesPoint lo top c p) (sym (get_or-set_same ps' s c' origin b')) h)

put_doubles : {lo top : ℕ} (ps ps' : List Point) (s : ℕ) (c c' : Point) → s < length ps → s < length ps' → DoublesPoint lo top c c' → (z : ℕ) → ((z ≡ s → ⊥) → DoublesPoint lo top (place_at ps z) (place_at ps' z))
    → DoublesPoint lo top (place_at (set ps s c) z) (place_at (set ps' s c') z)
put_doubles {lo} {top} ps ps' s c c' b b' h z k = go (ℕ_discrete z s)
  where
    go : Dec (z ≡ s) → DoublesPoint lo top (place_at (set ps s c) z) (place_at (set ps' s c') z)
    go (yes e) = subst (λ (n : ℕ). DoublesPoint lo top (place_at (set ps s c) n) (place_at (set ps' s c') n)) (sym e) (same_doubles ps ps' s c c' b b' h)
    go (no f) = other_doubles ps ps' s c c' z f (k f)

no_box_lem : (lo top : ℕ) → DoublesBox lo top no_box no_box
no_box_lem lo top = record { left = zero_doubles lo top; top_side = zero_doubles lo top; right = zero_doubles lo top; bottom = zero_doubles lo top }

module _ {lo t u : ℕ} (fs fs' : List HalfSides) (os : List Offset) (seeds seeds' : List Point) (order : List ℕ)
    (F : (s : ℕ) → DoublesHalfSides lo u (half_sides_at fs s) (half_sides_at fs' s)) (S : (s : ℕ) → DoublesPoint lo t (place_at seeds s) (place_at seeds' s))
    (k : ℕ) (n : length seeds ≡ k) (n' : length seeds' ≡ k) (turns : Turns k order) (small : Small os) (R : SearchLimits lo t u) where
  boxes_paired : (ps ps' : List Point) → ((s : ℕ) → DoublesPoint lo (t + 80 * u) (place_at ps s) (place_at ps' s)) → (done : List ℕ) → Paired (DoublesBox lo (t + 80 * u + u)) (map (box_of fs ps) done) (map (box_of fs' ps') done)
  unfolding box_of
  boxes_paired ps ps' h [] = tt
  boxes_paired ps ps' h (s ∷ ss) = (box_doubles (place_at ps s) (place_at ps' s) (half_sides_at fs s).half (half_sides_at fs' s).half (h s) (F s).half R.box, boxes_paired ps ps' h ss)

  -- after j turns: all places double, and those not yet chosen are still the seeds
  record Turn (j : ℕ) : Type 0 where
    pub all : (s : ℕ) → DoublesPoint lo (t + 80 * u) (place_at (places_to fs os seeds order j) s) (place_at (places_to fs' os seeds' order j) s)
    pub rest : (s : ℕ) → ((m : ℕ) → m < j → get_or order m 0 ≡ s → ⊥) → DoublesPoint lo t (place_at (places_to fs os seeds order j) s) (place_at (places_to fs' os seeds' order j) s)
    pub length_is : length (places_to fs os seeds order j) ≡ k
    pub length_is' : length (places_to fs' os seeds' order j) ≡ k

  turn_none : Turn zero
  unfolding places_to
  turn_none = record { all = λ s. point_wide (80 * u) (S s); rest = λ s h. S s; length_is = n; length_is' = n' }

  turn_more : (j : ℕ) → j < length order → Turn j → Turn (suc j)
  unfolding places_to next_place
  turn_more j h T =
      let ps = places_to fs os seeds order j in
      let ps' = places_to fs' os seeds' order j in
      let s = get_or order j 0 in
      let e = map (box_of fs ps) (take j order) in
      let e' = map (box_of fs' ps') (take j order) in
      let c = place_for (place_at ps s) (half_sides_at fs s) e os in
      let c' = place_for (place_at ps' s) (half_sides_at fs' s) e' os in
      let fresh : (m : ℕ) → m < j → get_or order m 0 ≡ get_or order j 0 → ⊥ = (λ m l q. apart m j l (turns.once m j (through m j (length order) l h) h q)) in
      let new : DoublesPoint lo (t + 80 * u) c c' = search_doubles lo (t + 80 * u + u) (place_at ps s) (place_at ps' s) (half_sides_at fs s) (half_sides_at fs' s) e e' (T.rest s fresh) (F s) (boxes_paired ps ps' T.all (take j order)) R os small in
      let b : s < length ps = subst (λ (z : ℕ). s < z) (sym T.length_is) (turns.below j h) in
      let b' : s < length ps' = subst (λ (z : ℕ). s < z) (sym T.length_is') (turns.below j h) in
      record {
        all = λ z. put_doubles ps ps' s c c' b b' new z (λ f. T.all z);
        rest = λ z f. other_doubles ps ps' s c c' z (λ q. f j (last j) (sym q)) (T.rest z (λ m l. f m (before m j l)));
        length_is = length-set ps s c ∙ T.length_is;
        length_is' = length-set ps' s c' ∙ T.length_is';
      }
    where
      apart : (m j : ℕ) → m < j → m ≡ j → ⊥
      apart m j l e = omega arith

      through : (m j n : ℕ) → m < j → j < n → m < n
      through m j n a b = omega arith

      last : (j : ℕ) → j < suc j
      last j = omega arith

      before : (m j : ℕ) → m < j → m < suc j
      before m j l = omega arith

  turn_all : (j : ℕ) → j ≤ length order → Turn j
  turn_all zero h = turn_none
  turn_all (suc j) h = turn_more j h (turn_all j (le_of_lt h))

  pub places_doubles : (s : ℕ) → DoublesPoint lo (t + 80 * u) (place_at (places fs os seeds order) s) (place_at (places fs' os seeds' order) s)
  unfolding places
  places_doubles s = (turn_all (length order) (le_refl (length order))).all s

-- ---- the list of boxes
pick_box : {lo top : ℕ} (b : Bool) (p p' : Box) → DoublesBox lo top p p' → DoublesBox lo top (pick b p no_box) (pick b p' no_box)
pick_box true p p' h = h
pick_box {lo} {top} false p p' h = no_box_lem lo top

pub boxes_doubles : {lo t u : ℕ} (fs fs' : List HalfSides) (counts : List ℕ) (ps ps' : List Point) → ((s : ℕ) → DoublesHalfSides lo u (half_sides_at fs s) (half_sides_at fs' s)) → ((s : ℕ) → DoublesPoint lo t (place_at ps s) (place_at ps' s)) → Limit (t + u)
    → (s : ℕ) → DoublesBox lo (t + u) (box_in (boxes fs counts ps) s) (box_in (boxes fs' counts ps') s)
unfolding boxes box_of
boxes_doubles {lo} {t} {u} fs fs' counts ps ps' F S l s = go (dec_le (length counts) s)
  where
    at : (r : List HalfSides) (q : List Point) → ℕ → Box
    at r q s = pick (is_occupied counts s) (box_on (place_at q s) (half_sides_at r s).half) no_box

    go : Dec (length counts ≤ s) → DoublesBox lo (t + u) (get_or (table (at fs ps) (length counts)) s no_box) (get_or (table (at fs' ps') (length counts)) s no_box)
    go (yes h) =
        subst (λ (b : Box). DoublesBox lo (t + u) b (get_or (table (at fs' ps') (length counts)) s no_box)) (sym (past (at fs ps) h))
        (subst (λ (b : Box). DoublesBox lo (t + u) no_box b) (sym (past (at fs' ps') h)) (no_box_lem lo (t + u)))
      where
        past : (f : ℕ → Box) → length counts ≤ s → get_or (table f (length counts)) s no_box ≡ no_box
        past f h = get_or-eq_default (table f (length counts)) no_box (subst (λ (z : ℕ). z ≤ s) (sym (length_table f (length counts))) h)
    go (no f) =
        let h : s < length counts = lt_of_not-le f in
        subst (λ (b : Box). DoublesBox lo (t + u) b (get_or (table (at fs' ps') (length counts)) s no_box)) (sym (get_d_table (at fs ps) (length counts) s no_box h))
        (subst (λ (b : Box). DoublesBox lo (t + u) (at fs ps s) b) (sym (get_d_table (at fs' ps') (length counts) s no_box h))
        (pick_box (is_occupied counts s) (box_on (place_at ps s) (half_sides_at fs s).half) (box_on (place_at ps' s) (half_sides_at fs' s).half) (box_doubles (place_at ps s) (place_at ps' s) (half_sides_at fs s).half (half_sides_at fs' s).half (S s) (F s).half l)))
