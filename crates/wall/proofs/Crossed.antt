-- A line's crossings lie on the mesh edges that its walk crosses, in the walk's order. Assumes nothing.
--     way_is     the waypoints of a line: one on each edge that its walk crosses, or none where its walk is cleared
use Prim.Native.Nat.{ℕ, zero, suc, ◌+◌, ◌≤◌, ◌<◌}
use mathlib.Core.Path.{◌≡◌, refl, sym, ap, subst, ◌∙◌}
use mathlib.Core.Logic.{◌⊎◌, ⊎_elim}
use mathlib.Core.Bool.{Bool, true, false, cond, ◌&&◌}
use mathlib.Core.List.{List, [], ◌∷◌, ◌++◌, map}
use Rattle.std.specs.Prelude.{Option, Some, None}
use native.Mathlib.Nat.{not-suc-le-zero, le_of_suc-le-suc, eq-or-lt_of_le, add-zero, add-suc}
use native.Mathlib.Omega.{arith}
use borrow.Author.Tests.{ltb-true, ltb-false, eqb-true}
use lib.Dec.{ltb, eqb}
use lib.ListN.{length, get_or, length-append, get_or-append}
use lib.Seq.{get_or-append-add}
use lib.Ieee.{Float, nan}
use Rattle.numbers.specs.Ops.{◌⊕◌, ◌⊖◌, ◌⊗◌}
use Rattle.numbers.specs.Order.{up_from}
use Rattle.numbers.specs.Table.{table, table_from}
use Rattle.numbers.proofs.order.Tables.{table_ext}
use Rattle.plane.specs.declared.geometry.Point.{Point}
use Rattle.plane.specs.Plane.{point}
use Rattle.network.specs.Mesh.{low_at, high_at}
use Rattle.channels.specs.Trace.{Walk, traced}
use Rattle.routing.specs.Route as Route
use Rattle.routing.specs.Route.{MeshScene, RoutedLine, Keyed, no_channel, Crossing, no_crossing, KeptCrossings, no_kept_crossings, Routing, number_of}

-- ---- an element at the end
last_at : {A : Type 0} (l : List A) (x d : A) → get_or (l ++ (x ∷ [])) (length l) d ≡ x
last_at l x d = ap (λ (n : ℕ). get_or (l ++ (x ∷ [])) n d) (sym (add-zero (length l))) ∙ get_or-append-add l (x ∷ []) 0 d

longer : {A : Type 0} (l : List A) (x : A) → length (l ++ (x ∷ [])) ≡ suc (length l)
longer l x = let e : length (l ++ (x ∷ [])) ≡ length l + 1 = length-append l (x ∷ []) in omega arith

map_up : {A : Type 0} (f : ℕ → A) (a i n : ℕ) → map f (up_from (a + i) n) ≡ table_from (λ k. f (a + k)) i n
unfolding up_from table_from
map_up f a i zero = refl
map_up {A} f a i (suc n) =
    ap (λ (l : List A). f (a + i) ∷ l) (ap (λ (j : ℕ). map f (up_from j n)) (sym (add-suc a i)) ∙ map_up f a (suc i) n)

module _ (S : MeshScene) where
  -- ---- the channel of a key
  found_channel : (a b : ℕ) (ks : List Keyed) → number_of a b ks < length ks
      → ((get_or ks (number_of a b ks) no_channel).low ≡ a) × ((get_or ks (number_of a b ks) no_channel).high ≡ b)
  unfolding number_of
  found_channel a b [] h = absurd (not-suc-le-zero h)
  found_channel a b (k ∷ ks) h = go (eqb k.low a) refl (eqb k.high b) refl h (found_channel a b ks)
    where
      go : (u : Bool) → eqb k.low a ≡ u → (v : Bool) → eqb k.high b ≡ v → cond (u && v) 0 (suc (number_of a b ks)) < suc (length ks)
          → (number_of a b ks < length ks → ((get_or ks (number_of a b ks) no_channel).low ≡ a) × ((get_or ks (number_of a b ks) no_channel).high ≡ b))
          → ((get_or (k ∷ ks) (cond (u && v) 0 (suc (number_of a b ks))) no_channel).low ≡ a) × ((get_or (k ∷ ks) (cond (u && v) 0 (suc (number_of a b ks))) no_channel).high ≡ b)
      go true e true f l rest = (eqb-true k.low a e, eqb-true k.high b f)
      go true e false f l rest = rest (le_of_suc-le-suc l)
      go false e v f l rest = rest (le_of_suc-le-suc l)

  number_most : (a b : ℕ) (ks : List Keyed) → number_of a b ks ≤ length ks
  unfolding number_of
  number_most a b [] = omega arith
  number_most a b (k ∷ ks) = go (eqb k.low a && eqb k.high b) (number_most a b ks)
    where
      go : (u : Bool) → number_of a b ks ≤ length ks → cond u 0 (suc (number_of a b ks)) ≤ suc (length ks)
      go true h = omega arith
      go false h = omega arith

  -- channel c of these lies between the corners a and b
  abbrev Between : List Keyed → ℕ → ℕ → ℕ → Type 0
  Between ks c a b = (c < length ks) × ((get_or ks c no_channel).low ≡ a) × ((get_or ks c no_channel).high ≡ b)

  made_between : (a b : ℕ) (ks : List Keyed) → Between (Route.with_channel S a b ks) (number_of a b ks) a b
  unfolding Route.with_channel Route.make_channel
  made_between a b ks = go (ltb (number_of a b ks) (length ks)) refl
    where
      new : Keyed
      new = Route.make_channel S a b

      go : (u : Bool) → ltb (number_of a b ks) (length ks) ≡ u → Between (cond u ks (ks ++ (new ∷ []))) (number_of a b ks) a b
      go true e = let h : number_of a b ks < length ks = ltb-true (number_of a b ks) (length ks) e in (h, (found_channel a b ks h).0, (found_channel a b ks h).1)
      go false e =
          let n : number_of a b ks ≡ length ks = omega (arith, ltb-false (number_of a b ks) (length ks) e, number_most a b ks) in
          let x : get_or (ks ++ (new ∷ [])) (number_of a b ks) no_channel ≡ new = ap (λ (i : ℕ). get_or (ks ++ (new ∷ [])) i no_channel) n ∙ last_at ks new no_channel in
          (omega (arith, n, longer ks new), ap (λ (k : Keyed). k.low) x, ap (λ (k : Keyed). k.high) x)

  kept_between : (a b c d e : ℕ) (ks : List Keyed) → Between ks c d e → Between (Route.with_channel S a b ks) c d e
  unfolding Route.with_channel
  kept_between a b c d e ks h = go (ltb (number_of a b ks) (length ks))
    where
      go : (u : Bool) → Between (cond u ks (ks ++ (Route.make_channel S a b ∷ []))) c d e
      go true = h
      go false =
          let x : get_or (ks ++ (Route.make_channel S a b ∷ [])) c no_channel ≡ get_or ks c no_channel = get_or-append ks (Route.make_channel S a b ∷ []) no_channel c h.0 in
          (omega (arith, h.0, longer ks (Route.make_channel S a b)), ap (λ (k : Keyed). k.low) x ∙ h.1, ap (λ (k : Keyed). k.high) x ∙ h.2)

  -- ---- crossings
  -- crossing x of a routing lies on half-edge h
  abbrev On : Routing → ℕ → ℕ → Type 0
  On r x h =
      (x < length r.crossings) × Between r.channels (get_or r.crossings x no_crossing).channel (low_at S.corners h) (high_at S.corners h)

  module _ (va vb e : ℕ) where
    on_new : (k h : ℕ) (r : Routing) → On (Route.cross S va vb e k h r) (length r.crossings) h
    unfolding Route.cross Route.crossing_of
    on_new k h r =
        let c = Route.crossing_of S va vb e k h r.channels in (
          omega (arith, longer r.crossings c),
          subst (λ (x : Crossing). Between (Route.with_channel S (low_at S.corners h) (high_at S.corners h) r.channels) x.channel (low_at S.corners h) (high_at S.corners h))
              (sym (last_at r.crossings c no_crossing)) (made_between (low_at S.corners h) (high_at S.corners h) r.channels),
        )

    on_kept : (k g : ℕ) (r : Routing) (x h : ℕ) → On r x h → On (Route.cross S va vb e k g r) x h
    unfolding Route.cross
    on_kept k g r x h o =
        let c = Route.crossing_of S va vb e k g r.channels in (
          omega (arith, o.0, longer r.crossings c),
          subst (λ (z : Crossing). Between (Route.with_channel S (low_at S.corners g) (high_at S.corners g) r.channels) z.channel (low_at S.corners h) (high_at S.corners h))
              (sym (get_or-append r.crossings (c ∷ []) no_crossing x o.0)) (kept_between (low_at S.corners g) (high_at S.corners g) _ _ _ r.channels o.1),
        )

    all_kept : (k : ℕ) (hs : List ℕ) (r : Routing) (x h : ℕ) → On r x h → On (Route.cross_all S va vb e k hs r) x h
    unfolding Route.cross_all
    all_kept k [] r x h o = o
    all_kept k (g ∷ hs) r x h o = all_kept (suc k) hs (Route.cross S va vb e k g r) x h (on_kept k g r x h o)

    cross_longer : (k h : ℕ) (r : Routing) → length (Route.cross S va vb e k h r).crossings ≡ suc (length r.crossings)
    unfolding Route.cross
    cross_longer k h r = longer r.crossings (Route.crossing_of S va vb e k h r.channels)

    all_new : (k : ℕ) (hs : List ℕ) (r : Routing) (j : ℕ) → j < length hs → On (Route.cross_all S va vb e k hs r) (length r.crossings + j) (get_or hs j 0)
    unfolding Route.cross_all
    all_new k [] r j l = absurd (not-suc-le-zero l)
    all_new k (h ∷ hs) r zero l =
        let z : length r.crossings ≡ length r.crossings + 0 = omega arith in
        subst (λ (x : ℕ). On (Route.cross_all S va vb e (suc k) hs (Route.cross S va vb e k h r)) x h) z (all_kept (suc k) hs (Route.cross S va vb e k h r) (length r.crossings) h (on_new k h r))
    all_new k (h ∷ hs) r (suc j) l =
        let z : length (Route.cross S va vb e k h r).crossings + j ≡ length r.crossings + suc j = omega (arith, cross_longer k h r) in
        subst (λ (x : ℕ). On (Route.cross_all S va vb e (suc k) hs (Route.cross S va vb e k h r)) x (get_or hs j 0)) z (all_new (suc k) hs (Route.cross S va vb e k h r) j (le_of_suc-le-suc l))

  -- ---- branches
  abbrev corner : ℕ → ℕ
  corner s = Route.vertex_of s S.occupied

  abbrev pub walked : RoutedLine → Walk
  walked l = traced S.corners S.twins (Route.centre_at S) (corner l.sa) (corner l.sb)

  branch_kept : (e : ℕ) (l : Option RoutedLine) (r : Routing) (x h : ℕ) → On r x h → On (Route.add_branch S e l r) x h
  unfolding Route.add_branch Route.add_walk
  branch_kept e None r x h o = o
  branch_kept e (Some l) r x h o = all_kept (corner l.sa) (corner l.sb) e 0 (walked l).half_edges r x h o

  traced_kept : (n e : ℕ) (x h : ℕ) → e ≤ n → On (Route.traced_to S e) x h → On (Route.traced_to S n) x h
  unfolding Route.traced_to
  traced_kept zero zero x h l o = o
  traced_kept zero (suc e) x h l o = absurd (not-suc-le-zero l)
  traced_kept (suc n) e x h l o = ⊎_elim
      (λ (q : e ≡ suc n). subst (λ (i : ℕ). On (Route.traced_to S i) x h) q o)
      (λ (q : e < suc n). branch_kept n (get_or S.lines n None) (Route.traced_to S n) x h (traced_kept n e x h (le_of_suc-le-suc q) o))
      (eq-or-lt_of_le l)

  -- the path of branch e
  path_of : ℕ → Option RoutedLine → KeptCrossings
  path_of e None = no_kept_crossings
  path_of e (Some l) = record { first = length (Route.traced_to S e).crossings; count = cond (walked l).kept (length (walked l).half_edges) 0 }

  added_path : (e : ℕ) (l : Option RoutedLine) → (Route.add_branch S e l (Route.traced_to S e)).kept_crossings ≡ (Route.traced_to S e).kept_crossings ++ (path_of e l ∷ [])
  unfolding Route.add_branch Route.add_walk path_of
  added_path e None = refl
  added_path e (Some l) = refl

  paths_long : (n : ℕ) → length (Route.traced_to S n).kept_crossings ≡ n
  unfolding Route.traced_to
  paths_long zero = refl
  paths_long (suc n) =
      ap (λ (l : List KeptCrossings). length l) (added_path n (get_or S.lines n None)) ∙ longer (Route.traced_to S n).kept_crossings (path_of n (get_or S.lines n None)) ∙ ap suc (paths_long n)

  path_is : (n e : ℕ) → e < n → get_or (Route.traced_to S n).kept_crossings e no_kept_crossings ≡ path_of e (get_or S.lines e None)
  unfolding Route.traced_to
  path_is zero e h = absurd (not-suc-le-zero h)
  path_is (suc n) e h =
      let P = (Route.traced_to S n).kept_crossings in
      let q = path_of n (get_or S.lines n None) in
      ap (λ (l : List KeptCrossings). get_or l e no_kept_crossings) (added_path n (get_or S.lines n None))
      ∙ ⊎_elim
      (λ (z : e ≡ n). subst (λ (i : ℕ). get_or (P ++ (q ∷ [])) i no_kept_crossings ≡ path_of i (get_or S.lines i None)) (sym z) (ap (λ (i : ℕ). get_or (P ++ (q ∷ [])) i no_kept_crossings) (sym (paths_long n)) ∙ last_at P q no_kept_crossings))
      (λ (z : e < n). get_or-append P (q ∷ []) no_kept_crossings e (subst (λ (i : ℕ). e < i) (sym (paths_long n)) z) ∙ path_is n e z)
      (eq-or-lt_of_le (le_of_suc-le-suc h))

  -- ---- the waypoints of a line
  -- the point t of the way along half-edge h, from its lower to its higher corner's place
  abbrev pub along : ℕ → Float → Point
  along h t =
      let u = Route.centre_at S (low_at S.corners h) in
      let w = Route.centre_at S (high_at S.corners h) in
      point (u.x ⊕ t ⊗ (w.x ⊖ u.x)) (u.y ⊕ t ⊗ (w.y ⊖ u.y))

  on_point : (ts : List Float) (x h : ℕ) → On (Route.routing S) x h → Route.point_of S (Route.routing S) ts x ≡ along h (get_or ts x nan)
  unfolding Route.point_of Route.point_on
  on_point ts x h o =
      let t = get_or ts x nan in
      let mid : ℕ → ℕ → Point = λ a b.
      let u = Route.centre_at S a in
      let w = Route.centre_at S b in
      point (u.x ⊕ t ⊗ (w.x ⊖ u.x)) (u.y ⊕ t ⊗ (w.y ⊖ u.y)) in
      ap (λ (a : ℕ). mid a (Route.channel_at S (Route.routing S) (Route.crossing_at S (Route.routing S) x).channel).high) o.1.1
      ∙ ap (mid (low_at S.corners h)) o.1.2

  module _ (e : ℕ) (l : RoutedLine) (h : e < length S.lines) (L : get_or S.lines e None ≡ Some l) (ts : List Float) where
    abbrev first : ℕ
    first = length (Route.traced_to S e).crossings

    on_branch : (k : ℕ) → k < length (walked l).half_edges → On (Route.traced_to S (suc e)) (first + k) (get_or (walked l).half_edges k 0)
    unfolding Route.traced_to Route.add_branch Route.add_walk
    on_branch k q =
        subst (λ (m : Option RoutedLine). On (Route.add_branch S e m (Route.traced_to S e)) (first + k) (get_or (walked l).half_edges k 0)) (sym L)
        (all_new (corner l.sa) (corner l.sb) e 0 (walked l).half_edges (Route.traced_to S e) k q)

    on_walk : (k : ℕ) → k < length (walked l).half_edges → On (Route.routing S) (first + k) (get_or (walked l).half_edges k 0)
    unfolding Route.routing
    on_walk k q = traced_kept (length S.lines) (suc e) (first + k) (get_or (walked l).half_edges k 0) h (on_branch k q)

    the_path : Route.kept_crossings_at S (Route.routing S) e ≡ record { first = first; count = cond (walked l).kept (length (walked l).half_edges) 0 }
    unfolding Route.routing path_of
    the_path = path_is (length S.lines) e h ∙ ap (path_of e) L

    pub way_is : Route.waypoints S (Route.routing S) ts e
        ≡ table (λ k. along (get_or (walked l).half_edges k 0) (get_or ts (first + k) nan)) (cond (walked l).kept (length (walked l).half_edges) 0)
    unfolding Route.waypoints
    way_is =
        ap (λ (p : KeptCrossings). map (Route.point_of S (Route.routing S) ts) (up_from p.first p.count)) the_path
        ∙ ap (λ (a : ℕ). map (Route.point_of S (Route.routing S) ts) (up_from a n)) (sym (add-zero first))
        ∙ map_up (Route.point_of S (Route.routing S) ts) first 0 n
        ∙ table_ext (λ k. Route.point_of S (Route.routing S) ts (first + k)) (λ k. along (get_or (walked l).half_edges k 0) (get_or ts (first + k) nan)) n
        (λ k q. on_point ts (first + k) (get_or (walked l).half_edges k 0) (on_walk k (below (walked l).kept k q)))
      where
        n : ℕ
        n = cond (walked l).kept (length (walked l).half_edges) 0

        below : (b : Bool) (k : ℕ) → k < cond b (length (walked l).half_edges) 0 → k < length (walked l).half_edges
        below true k q = q
        below false k q = absurd (not-suc-le-zero q)
