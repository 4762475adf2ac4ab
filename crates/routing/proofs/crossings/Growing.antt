-- One crossing more in the lists, and a walk's crossings one after another. Assumes nothing.
use mathlib.Core.Path.{◌≡◌, refl, sym, ap, ◌∙◌, subst}
use mathlib.Core.Bool.{Bool}
use mathlib.Core.List.{List, [], ◌∷◌, ◌++◌, map, map-append}
use Prim.Native.Nat.{ℕ, zero, suc, ◌+◌, ◌*◌, ◌≤◌, ◌<◌}
use native.Mathlib.Omega.{arith}
use native.Mathlib.Nat.{add-zero, zero-add, add-suc, suc-add}
use native.Mathlib.Numerals.{add-one}
use lib.ListN.{length, get_or, set, take, length-set, length-append}
use lib.Seq.{take-suc, take-suc-set, take_all}
use lib.Ieee.{Float}
use borrow.Author.Tests.{eq-eqb, ne_eqb}
use Rattle.numbers.specs.Order.{pick}
use Rattle.numbers.specs.Table.{strided}
use Rattle.numbers.proofs.order.Strides.{strided_push, strided_other, first_push, first_other}
use Rattle.network.specs.Mesh.{low_at, high_at}
use Rattle.routing.specs.Route.{MeshScene, Routing, Keyed, Crossing, number_of, make_channel, with_channel, crossing_of, cross, cross_all}
use Rattle.routing.specs.Stages.Store.{number_for, marks_for, with_marks, count_with, fraction_on, Marked, Stock, stock, Stocked, meshed, Grown}
use Rattle.routing.proofs.crossings.Numbers.{with_old, with_new}
use Rattle.routing.proofs.crossings.Marks.{mark_none, mark_some, marked_more, with_beside}

-- ---- a channel for a half-edge

count_same : (k c : ℕ) → c ≡ k → count_with k c ≡ suc k
unfolding count_with
count_same k c e = ap (λ (t : Bool). pick t (k + 1) k) (eq-eqb c k e) ∙ add-one k

count_less : (k c : ℕ) → c < k → count_with k c ≡ k
unfolding count_with
count_less k c h = let n : c ≡ k → ⊥ = (λ e. omega arith) in ap (λ (t : Bool). pick t (k + 1) k) (ne_eqb c k n)

-- The number that the mark gives is the channel's, and the list with it holds the channels with it.
record Channelled (m : ℕ) (corners : List ℕ) (S : MeshScene) (ks : List Keyed) (ends : List ℕ) (h y : ℕ) : Type 0 where
  number : number_for (length ks) y ≡ number_of (low_at corners h) (high_at corners h) ks
  many : count_with (length ks) (number_for (length ks) y) ≡ length (with_channel S (low_at corners h) (high_at corners h) ks)
  marked : Marked m corners (with_channel S (low_at corners h) (high_at corners h) ks) (marks_for corners m h (length ks) y ends)

channelled : (m : ℕ) (corners : List ℕ) (S : MeshScene) (ks : List Keyed) (ends : List ℕ) (h y : ℕ) → y ≡ get_or ends (4 * (m + h) + 1) 0 → h < length corners → 4 * (m + length corners) + 4 ≤ length ends
    → Marked m corners ks ends → Channelled m corners S ks ends h y
unfolding number_for marks_for
channelled m corners S ks ends h zero e l room v =
    let a = low_at corners h in
    let b = high_at corners h in
    let none : number_of a b ks ≡ length ks = mark_none m corners ks ends v h l (sym e) in
    let w : with_channel S a b ks ≡ ks ++ (make_channel S a b ∷ []) = with_new S a b ks none in
    record {
      number = sym none;
      many = count_same (length ks) (length ks) refl ∙ sym (ap length w ∙ length-append ks (make_channel S a b ∷ []) ∙ add-one (length ks));
      marked = subst (λ (l : List Keyed). Marked m corners l (with_marks corners m h (length ks) ends)) (sym w) (marked_more m corners S ks ends h v l room none);
    }
channelled m corners S ks ends h (suc c) e l room v =
    let a = low_at corners h in
    let b = high_at corners h in
    let some = mark_some m corners ks ends v h l c (sym e) in
    let w : with_channel S a b ks ≡ ks = with_old S a b ks (omega (arith, some.0, some.1)) in
    record {
      number = sym some.0;
      many = count_less (length ks) c some.1 ∙ sym (ap length w);
      marked = subst (λ (l : List Keyed). Marked m corners l ends) (sym w) v;
    }

marks_beside : (corners : List ℕ) (m h k y : ℕ) (ends : List ℕ) → take (4 * m) (marks_for corners m h k y ends) ≡ take (4 * m) ends
unfolding marks_for
marks_beside corners m h k zero ends = with_beside m corners h k ends
marks_beside corners m h k (suc c) ends = refl

-- ---- a crossing

module _ (numbers : List ℕ) (x c e : ℕ) (l : 3 * x + 1 < length numbers) where
  abbrev stored : List ℕ
  stored = set (set numbers (3 * x) c) (3 * x + 1) e

  stored_channels : strided 3 0 0 (x + 1) stored ≡ strided 3 0 0 x numbers ++ (c ∷ [])
  stored_channels =
      strided_other 3 0 0 1 (x + 1) x (set numbers (3 * x) c) e (omega arith) (omega arith) (λ z. omega arith)
      ∙ ap (λ (n : ℕ). strided 3 0 0 n (set numbers (3 * x) c)) (add-one x) ∙ first_push 3 0 x numbers c (omega arith) (omega arith)

  stored_branches : strided 3 1 0 (x + 1) stored ≡ strided 3 1 0 x numbers ++ (e ∷ [])
  stored_branches =
      ap (λ (n : ℕ). strided 3 1 0 n stored) (add-one x) ∙ strided_push 3 1 0 x (set numbers (3 * x) c) e (omega arith) (omega (arith, length-set numbers (3 * x) c))
      ∙ ap (λ (t : List ℕ). t ++ (e ∷ [])) (first_other 3 0 1 x x numbers c (omega arith) (λ z. omega arith))

-- a list with one element more is that of the crossings with one more
mapped : {A : Type 0} (f : Crossing → A) (xs : List Crossing) (y : Crossing) (l k : List A) (a : A) → l ≡ k ++ (a ∷ []) → k ≡ map f xs → a ≡ f y → l ≡ map f (xs ++ (y ∷ []))
mapped f xs y l k a p q r = let s : map f (xs ++ (y ∷ [])) ≡ map f xs ++ (f y ∷ []) = map-append f xs (y ∷ []) in cc

module _ (m : ℕ) (S : MeshScene) (r : Routing) (s : Stock) (v : Stocked m S.corners r s) (va vb e j h : ℕ) where
  abbrev corners : List ℕ
  corners = S.corners

  abbrev y : ℕ
  y = get_or s.ends (4 * (m + h) + 1) 0

  pub held_cross : (c k : ℕ) (t : Float) (ends numbers : List ℕ) (places : List Float) → h < length S.corners → 4 * (m + length S.corners) + 4 ≤ length s.ends
      → 3 * s.crossings + 1 < length s.numbers → s.crossings < length s.places → t ≡ fraction_on S.corners S.centres va vb h → c ≡ number_for s.channels y
      → ends ≡ marks_for S.corners m h s.channels y s.ends → numbers ≡ set (set s.numbers (3 * s.crossings) c) (3 * s.crossings + 1) e
      → places ≡ set s.places s.crossings t → k ≡ count_with s.channels c → Stocked m S.corners (cross S va vb e j h r) (stock k (s.crossings + 1) ends numbers places)
  unfolding cross crossing_of fraction_on
  held_cross c k t ends numbers places l room space wide qt qc qe qn qp qk =
      let x = s.crossings in
      let ks = r.channels in
      let new = crossing_of S va vb e j h ks in
      let g = channelled m corners S ks s.ends h y refl l room v.marked in
      let n : s.channels ≡ length ks = v.known in
      let number : c ≡ new.channel = qc ∙ ap (λ (z : ℕ). number_for z y) n ∙ g.number in
      record {
        known = qk ∙ ap (count_with s.channels) qc ∙ ap (λ (z : ℕ). count_with z (number_for z y)) n ∙ g.many;
        made = ap (λ (z : ℕ). z + 1) v.made ∙ sym (length-append r.crossings (new ∷ []));
        marked = subst (Marked m corners (with_channel S (low_at corners h) (high_at corners h) ks)) (sym (qe ∙ ap (λ (z : ℕ). marks_for corners m h z y s.ends) n)) g.marked;
        channels = mapped (λ (z : Crossing). z.channel) r.crossings new _ _ c (ap (strided 3 0 0 (x + 1)) qn ∙ stored_channels s.numbers x c e space) v.channels number;
        branches = mapped (λ (z : Crossing). z.branch) r.crossings new _ _ e (ap (strided 3 1 0 (x + 1)) qn ∙ stored_branches s.numbers x c e space) v.branches refl;
        placed =
            mapped (λ (z : Crossing). z.fraction) r.crossings new _ _ t
            (ap (take (x + 1)) qp ∙ ap (λ (z : ℕ). take z (set s.places x t)) (add-one x) ∙ take-suc-set s.places x t wide)
            v.placed qt;
      }

module _ (m : ℕ) (corners : List ℕ) (points : List Float) (va vb e h : ℕ) where
  pub grown_cross : (x k c k' : ℕ) (t : Float) (ends numbers ends' numbers' : List ℕ) (places places' : List Float) → h < length corners → 4 * (m + length corners) + 4 ≤ length ends
      → 3 * x + 1 < length numbers → x < length places → t ≡ fraction_on corners points va vb h → c ≡ number_for k (get_or ends (4 * (m + h) + 1) 0)
      → ends' ≡ marks_for corners m h k (get_or ends (4 * (m + h) + 1) 0) ends → numbers' ≡ set (set numbers (3 * x) c) (3 * x + 1) e → places' ≡ set places x t → k' ≡ count_with k c
      → (j : ℕ) → Grown m corners points (λ S s. cross S va vb e j h s) (stock k x ends numbers places) (stock k' (x + 1) ends' numbers' places')
  grown_cross x k c k' t ends numbers ends' numbers' places places' l room space wide qt qc qe qn qp qk j =
      record {
        beside = ap (take (4 * m)) qe ∙ marks_beside corners m h k (get_or ends (4 * (m + h) + 1) 0) ends;
        grown = λ S r v. held_cross m (meshed corners S.twins points S) r (stock k x ends numbers places) v va vb e j h c k' t ends' numbers' places' l room space wide qt qc qe qn qp qk;
      }

-- ---- one after another

cross_more : (S : MeshScene) (va vb e k h : ℕ) (hs : List ℕ) (r : Routing) → cross_all S va vb e k (hs ++ (h ∷ [])) r ≡ cross S va vb e (k + length hs) h (cross_all S va vb e k hs r)
unfolding cross_all
cross_more S va vb e k h [] r = ap (λ (n : ℕ). cross S va vb e n h r) (sym (add-zero k))
cross_more S va vb e k h (g ∷ hs) r =
    cross_more S va vb e (suc k) h hs (cross S va vb e k g r)
    ∙ ap (λ (n : ℕ). cross S va vb e n h (cross_all S va vb e (suc k) hs (cross S va vb e k g r))) (suc-add k (length hs) ∙ sym (add-suc k (length hs)))

module _ (m : ℕ) (corners : List ℕ) (points : List Float) (va vb e : ℕ) (walked : List ℕ) where
  -- the crossings with the first i half-edges of a walk
  abbrev pub up_to : ℕ → MeshScene → Routing → Routing
  up_to i S r = cross_all S va vb e 0 (take i walked) r

  pub grown_start : (s : Stock) → Grown m corners points (up_to 0) s s
  unfolding cross_all
  grown_start s = record { beside = refl; grown = λ S r v. v }

  pub grown_more : (i h : ℕ) (a b c : Stock) → i < length walked → h ≡ get_or walked i 0 → Grown m corners points (up_to i) a b
      → ((j : ℕ) → Grown m corners points (λ S s. cross S va vb e j h s) b c) → Grown m corners points (up_to (i + 1)) a c
  grown_more i h a b c l q p f =
      record {
        beside = (f 0).beside ∙ p.beside;
        grown = λ S r v. subst (λ (z : Routing). Stocked m corners z c) (sym (same S r)) ((f (length (take i walked))).grown S (up_to i (scene S) r) (p.grown S r v));
      }
    where
      scene : MeshScene → MeshScene
      scene S = meshed corners S.twins points S

      same : (S : MeshScene) (r : Routing) → up_to (i + 1) (scene S) r ≡ cross (scene S) va vb e (length (take i walked)) h (up_to i (scene S) r)
      same S r =
          ap (λ (n : ℕ). up_to n (scene S) r) (add-one i) ∙ ap (λ (hs : List ℕ). cross_all (scene S) va vb e 0 hs r) (take-suc walked i 0 l)
          ∙ ap (λ (z : ℕ). cross_all (scene S) va vb e 0 (take i walked ++ (z ∷ [])) r) (sym q) ∙ cross_more (scene S) va vb e 0 h (take i walked) r
          ∙ ap (λ (n : ℕ). cross (scene S) va vb e n h (up_to i (scene S) r)) (zero-add (length (take i walked)))

  -- k channels then, as the loop of `store_walked` has it: x crossings before
  unfoldable pub WalkWritten : ℕ → Stock → ℕ → ℕ → List ℕ → List ℕ → List Float → Type 0
  WalkWritten i a x k ends numbers places = Grown m corners points (up_to i) a (stock k (x + i) ends numbers places)

  pub walked_start : (k x : ℕ) (ends numbers : List ℕ) (places : List Float) → WalkWritten 0 (stock k x ends numbers places) x k ends numbers places
  unfolding WalkWritten
  walked_start k x ends numbers places =
      subst (λ (n : ℕ). Grown m corners points (up_to 0) (stock k x ends numbers places) (stock k n ends numbers places)) (sym (add-zero x)) (grown_start (stock k x ends numbers places))

  pub walked_more : (i x k k' : ℕ) (a : Stock) (ends numbers ends' numbers' : List ℕ) (places places' : List Float) → i < length walked → WalkWritten i a x k ends numbers places
      → ((j : ℕ) → Grown m corners points (λ S s. cross S va vb e j (get_or walked i 0) s) (stock k (x + i) ends numbers places) (stock k' (x + i + 1) ends' numbers' places'))
      → WalkWritten (i + 1) a x k' ends' numbers' places'
  unfolding WalkWritten
  walked_more i x k k' a ends numbers ends' numbers' places places' l p f =
      let z : x + i + 1 ≡ x + (i + 1) = omega arith in
      subst (λ (n : ℕ). Grown m corners points (up_to (i + 1)) a (stock k' n ends' numbers' places')) z
      (grown_more i (get_or walked i 0) a (stock k (x + i) ends numbers places) (stock k' (x + i + 1) ends' numbers' places') l refl p f)

  pub walked_end : (i x k : ℕ) (a : Stock) (ends numbers : List ℕ) (places : List Float) → i ≡ length walked → WalkWritten i a x k ends numbers places
      → Grown m corners points (λ S r. cross_all S va vb e 0 walked r) a (stock k (x + length walked) ends numbers places)
  unfolding WalkWritten
  walked_end i x k a ends numbers places q p =
      subst (λ (t : List ℕ). Grown m corners points (λ S r. cross_all S va vb e 0 t r) a (stock k (x + length walked) ends numbers places)) (take_all (length walked) walked (omega arith))
      (subst (λ (j : ℕ). Grown m corners points (up_to j) a (stock k (x + j) ends numbers places)) q p)

pub ruleset walk_written = (walked_start, walked_more)
