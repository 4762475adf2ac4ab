-- One branch more in the lists, by its vertices; and all branches one after another. Assumes nothing.
use mathlib.Core.Path.{◌≡◌, refl, sym, ap, ◌∙◌, subst}
use mathlib.Core.Bool.{Bool, true}
use mathlib.Core.List.{List}
use Prim.Native.Nat.{ℕ, zero, suc, ◌+◌, ◌*◌, ◌-◌, ◌≤◌, ◌<◌, zero-le}
use native.Mathlib.Omega.{arith}
use native.Mathlib.Numerals.{add-one}
use lib.ListN.{length, get_or, set, take, drop, length-append}
use lib.Seq.{take_at, take-set-lt, get_or-take, length-take-le}
use lib.Ieee.{Float}
use Rattle.numbers.specs.Order.{pick}
use Rattle.plane.specs.Plane.{point_at}
use Rattle.network.specs.Mesh.{mesh_ok}
use Rattle.network.proofs.mesh.Meshes.{mesh_sound}
use Rattle.channels.specs.Trace.{Walk, traced, WalkWritten}
use Rattle.channels.proofs.walk.Walks.{traced_short, walked_in}
use Rattle.routing.specs.Route.{Routing, Keyed, cross_all, add_walk, add_branch}
use Rattle.routing.specs.Stages.Store.{Marked, stock, Stocked, meshed, Grown, walk_of, walk_at, crossings_to, add_by_vertices, first_for, count_for, Branched}
use Rattle.routing.proofs.crossings.Written.{put_pair, pair_other}

-- ---- walks

pub walk_none : (corners twins : List ℕ) (points : List Float) (a b : ℕ) → a ≡ 0 → length (walk_of corners twins (point_at points) a b).half_edges ≡ 0
unfolding walk_of
walk_none corners twins points zero b e = refl
walk_none corners twins points (suc a) b e = absurd (omega arith)

module _ (corners twins : List ℕ) (points : List Float) (a b va : ℕ) (n : a ≡ 0 → ⊥) (q : va ≡ a - 1) where
  walk_some : walk_of corners twins (point_at points) a b ≡ traced corners twins (point_at points) va b
  unfolding walk_of
  walk_some = go a n q
    where
      go : (a : ℕ) → (a ≡ 0 → ⊥) → va ≡ a - 1 → walk_of corners twins (point_at points) a b ≡ traced corners twins (point_at points) va b
      go zero n q = absurd (n refl)
      go (suc c) n q = let z : va ≡ c = omega arith in ap (λ (x : ℕ). traced corners twins (point_at points) x b) (sym z)

  pub walk_counted : (before behind : List ℕ) (count : ℕ) (kept : Bool) → WalkWritten (traced corners twins (point_at points) va b) before behind count kept
      → count ≡ length (walk_of corners twins (point_at points) a b).half_edges
  walk_counted before behind count kept t = t.counted ∙ ap (λ (w : Walk). length w.half_edges) (sym walk_some)

pub walk_short : (corners twins : List ℕ) (points : List Float) (a b : ℕ) → length (walk_of corners twins (point_at points) a b).half_edges ≤ length corners
unfolding walk_of
walk_short corners twins points zero b = zero-le
walk_short corners twins points (suc a) b = traced_short corners twins (point_at points) a b

-- ---- crossings counted

module _ (corners twins : List ℕ) (points : List Float) (ways : List ℕ) where
  pub crossings_none : 0 ≡ crossings_to corners twins points ways 0
  unfolding crossings_to
  crossings_none = refl

  pub crossings_more : (e x n : ℕ) → x ≡ crossings_to corners twins points ways e → n ≡ length (walk_at corners twins points ways e).half_edges → x + n ≡ crossings_to corners twins points ways (e + 1)
  unfolding crossings_to
  crossings_more e x n p q = rw (add-one e) (cc)

  -- there are no fewer later on
  pub crossings_rise : (d e : ℕ) → crossings_to corners twins points ways e ≤ crossings_to corners twins points ways (e + d)
  crossings_rise zero e = let z : e + 0 ≡ e = omega arith in rw z (omega arith)
  crossings_rise (suc d) e =
      let z : e + suc d ≡ e + d + 1 = omega arith in
      let q = crossings_more (e + d) _ _ refl refl in
      rw z (omega (arith, q, crossings_rise d e))

  pub crossings_within : (e m : ℕ) → e < m → crossings_to corners twins points ways e + length (walk_at corners twins points ways e).half_edges ≤ crossings_to corners twins points ways m
  crossings_within e m h =
      let z : e + 1 + (m - (e + 1)) ≡ m = omega arith in
      let q = crossings_more e _ _ refl refl in
      let r = crossings_rise (m - (e + 1)) (e + 1) in
      subst (λ (k : ℕ). crossings_to corners twins points ways e + length (walk_at corners twins points ways e).half_edges ≤ crossings_to corners twins points ways k) z (omega (arith, q, r))

  pub crossings_few : (e : ℕ) → length corners ≤ 24576 → crossings_to corners twins points ways e ≤ 24576 * e
  unfolding crossings_to
  crossings_few zero h = zero-le
  crossings_few (suc e) h =
      omega (arith, crossings_few e h, walk_short corners twins points (get_or ways (4 * e + 2) 0) (get_or ways (4 * e + 3) 0))

-- ---- what a path's store keeps

module _ (m : ℕ) (corners : List ℕ) (e : ℕ) (inside : e < m) where
  marked_path : (ks : List Keyed) (ends : List ℕ) (f c : ℕ) → Marked m corners ks ends → Marked m corners ks (put_pair ends e f c)
  marked_path ks ends f c v =
      record {
        half_edges = λ i l. rw (pair_other ends e f c (m + i) 2 (omega arith) (λ z. omega arith)) (v.half_edges i l);
        own = v.own;
        marks = λ h l. pair_other ends e f c (m + h) 1 (omega arith) (λ z. omega arith) ∙ v.marks h l;
      }

  held_path : (r : Routing) (k x : ℕ) (ends numbers : List ℕ) (places : List Float) (f c : ℕ) → Stocked m corners r (stock k x ends numbers places)
      → Stocked m corners r (stock k x (put_pair ends e f c) numbers places)
  held_path r k x ends numbers places f c v =
      record {
        known = v.known;
        made = v.made;
        marked = marked_path r.channels ends f c v.marked;
        channels = v.channels;
        branches = v.branches;
        placed = v.placed;
      }

  front_path : (ends : List ℕ) (f c : ℕ) → take (4 * m) (put_pair ends e f c) ≡ put_pair (take (4 * m) ends) e f c
  front_path ends f c =
      take-set-lt (4 * m) (set ends (4 * e + 2) f) (4 * e + 3) c (omega arith) ∙ ap (λ (l : List ℕ). set l (4 * e + 3) c) (take-set-lt (4 * m) ends (4 * e + 2) f (omega arith))

-- ---- a branch that is no line

module _ (m : ℕ) (corners twins : List ℕ) (points : List Float) (e b k x : ℕ) (ends numbers : List ℕ) (places : List Float) where
  pub branch_none : (a : ℕ) (ends' : List ℕ) → e < m → k ≤ x → a ≡ 0 → ends' ≡ put_pair ends e 0 0
      → Branched m corners twins points e a b (stock k x ends numbers places) (stock k x ends' numbers places)
  unfolding walk_of first_for count_for add_by_vertices add_branch
  branch_none zero ends' h l z q =
      record {
        path = ap (take (4 * m)) q ∙ front_path m corners e h ends 0 0;
        made = omega arith;
        few = l;
        grown = λ S r v.
            let w = held_path m corners e h r k x ends numbers places 0 0 v in
            rw q (record { known = w.known; made = w.made; marked = w.marked; channels = w.channels; branches = w.branches; placed = w.placed });
      }
  branch_none (suc a) ends' h l z q = absurd (omega arith)

  -- ---- a line

  pub branch_line : (a va n k' c : ℕ) (kept : Bool) (walked walked' ends' ends'' numbers' : List ℕ) (places' : List Float) → e < m → (a ≡ 0 → ⊥) → va ≡ a - 1
      → WalkWritten (traced corners twins (point_at points) va b) walked walked' n kept
      → Grown m corners points (λ S s. cross_all S va b e 0 (take n walked') s) (stock k x ends numbers places) (stock k' (x + n) ends' numbers' places')
      → k' ≤ x + n → c ≡ pick kept n 0 → ends'' ≡ put_pair ends' e x c
      → Branched m corners twins points e a b (stock k x ends numbers places) (stock k' (x + n) ends'' numbers' places')
  unfolding walk_of first_for count_for add_by_vertices add_walk
  branch_line zero va n k' c kept walked walked' ends' ends'' numbers' places' h g q t p l w z = absurd (g refl)
  branch_line (suc a) va n k' c kept walked walked' ends' ends'' numbers' places' h g q t p l w z =
      let y : va ≡ a = omega arith in
      let path = traced corners twins (point_at points) a b in
      let same : traced corners twins (point_at points) va b ≡ path = ap (λ (i : ℕ). traced corners twins (point_at points) i b) y in
      let many : n ≡ length path.half_edges = t.counted ∙ ap (λ (o : Walk). length o.half_edges) same in
      let keeps : kept ≡ path.kept = t.flag ∙ ap (λ (o : Walk). o.kept) same in
      let half_edges : take n walked' ≡ path.half_edges =
      ap (take n) t.written ∙ take_at (traced corners twins (point_at points) va b).half_edges (drop n walked) n (sym t.counted) ∙ ap (λ (o : Walk). o.half_edges) same in
      let count : c ≡ pick path.kept (length path.half_edges) 0 = w ∙ ap (λ (o : Bool). pick o n 0) keeps ∙ ap (λ (o : ℕ). pick path.kept o 0) many in
      record {
        path =
            ap (take (4 * m)) z ∙ front_path m corners e h ends' x c ∙ ap (λ (o : List ℕ). put_pair o e x c) p.beside
            ∙ ap (put_pair (take (4 * m) ends) e x) count;
        made = ap (λ (o : ℕ). x + o) many;
        few = l;
        grown = λ S r v.
            let s = meshed corners twins points S in
            let o = held_path m corners e h _ k' (x + n) ends' numbers' places' x c (p.grown s r v) in
            let u : cross_all s va b e 0 (take n walked') r ≡ cross_all s a b e 0 path.half_edges r = ap (λ (i : ℕ). cross_all s i b e 0 (take n walked') r) y ∙ ap (λ (i : List ℕ). cross_all s a b e 0 i r) half_edges in
            let j : Stocked m corners (cross_all s a b e 0 path.half_edges r) (stock k' (x + n) ends'' numbers' places') =
            subst (λ (i : Routing). Stocked m corners i (stock k' (x + n) ends'' numbers' places')) u (rw z o) in
            record { known = j.known; made = j.made; marked = j.marked; channels = j.channels; branches = j.branches; placed = j.placed };
      }

  -- by what the code read of the vertices
  pub branch_stored : (a va vb n k' c : ℕ) (kept : Bool) (walked walked' ends' ends'' numbers' : List ℕ) (places' : List Float) → e < m → (a ≡ 0 → ⊥) → va ≡ a - 1 → vb ≡ b
      → WalkWritten (traced corners twins (point_at points) va vb) walked walked' n kept
      → Grown m corners points (λ S s. cross_all S va vb e 0 (take n walked') s) (stock k x ends numbers places) (stock k' (x + n) ends' numbers' places')
      → k' ≤ x + n → c ≡ pick kept n 0 → ends'' ≡ put_pair ends' e x c
      → Branched m corners twins points e a b (stock k x ends numbers places) (stock k' (x + n) ends'' numbers' places')
  branch_stored a va vb n k' c kept walked walked' ends' ends'' numbers' places' h g q y t p l w z =
      branch_line a va n k' c kept walked walked' ends' ends'' numbers' places' h g q
      (subst (λ (i : ℕ). WalkWritten (traced corners twins (point_at points) va i) walked walked' n kept) y t)
      (subst (λ (i : ℕ). Grown m corners points (λ S s. cross_all S va i e 0 (take n walked') s) (stock k x ends numbers places) (stock k' (x + n) ends' numbers' places')) y p)
      l w z

pub counted_by_vertices : (corners twins : List ℕ) (points : List Float) (ends : List ℕ) (e a va vb n : ℕ) (kept : Bool) (walked walked' : List ℕ) → a ≡ get_or ends (4 * e + 2) 0 → (a ≡ 0 → ⊥) → va ≡ a - 1
    → vb ≡ get_or ends (4 * e + 3) 0 → WalkWritten (traced corners twins (point_at points) va vb) walked walked' n kept → n ≡ length (walk_at corners twins points ends e).half_edges
counted_by_vertices corners twins points ends e a va vb n kept walked walked' p g q r t =
    walk_counted corners twins points (get_or ends (4 * e + 2) 0) vb va (λ z. g (p ∙ z)) (q ∙ ap (λ (i : ℕ). i - 1) p) walked walked' n kept t
    ∙ ap (λ (i : ℕ). length (walk_of corners twins (point_at points) (get_or ends (4 * e + 2) 0) i).half_edges) r

pub mesh_most : (corners twins : List ℕ) → (n : ℕ) × (mesh_ok corners twins n ≡ true) → length corners ≤ 24576
mesh_most corners twins h = (mesh_sound corners twins h.0 h.1).most

-- the list has room for what is written
pub walked_long : (corners twins : List ℕ) (points : List Float) (va vb n : ℕ) (kept : Bool) (walked walked' : List ℕ) → WalkWritten (traced corners twins (point_at points) va vb) walked walked' n kept → n ≤ length walked'
walked_long corners twins points va vb n kept walked walked' t = omega (arith, t.counted, simp length-append at (ap length t.written))

pub walked_inside : (corners twins : List ℕ) (points : List Float) (va vb n : ℕ) (kept : Bool) (walked walked' : List ℕ) → (k : ℕ) × (mesh_ok corners twins k ≡ true)
    → WalkWritten (traced corners twins (point_at points) va vb) walked walked' n kept → (i : ℕ) → i < length (take n walked') → get_or (take n walked') i 0 < length corners
walked_inside corners twins points va vb n kept walked walked' h t i l =
    let z = length-take-le n walked' (walked_long corners twins points va vb n kept walked walked' t) in
    let m : i < n = omega (arith, z) in
    omega (arith, get_or-take n walked' i 0 m, walked_in corners twins (point_at points) va vb walked walked' n kept t h.0 (mesh_sound corners twins h.0 h.1) i m)

-- one branch more counted, by what the code read of its vertices
pub crossings_step : (corners twins : List ℕ) (points : List Float) (ways : List ℕ) (e x a b n : ℕ) → x ≡ crossings_to corners twins points ways e → a ≡ get_or ways (4 * e + 2) 0 → b ≡ get_or ways (4 * e + 3) 0
    → n ≡ length (walk_of corners twins (point_at points) a b).half_edges → x + n ≡ crossings_to corners twins points ways (e + 1)
crossings_step corners twins points ways e x a b n p q r s =
    crossings_more corners twins points ways e x n p
    (s ∙ ap (λ (i : ℕ). length (walk_of corners twins (point_at points) i b).half_edges) q ∙ ap (λ (i : ℕ). length (walk_of corners twins (point_at points) (get_or ways (4 * e + 2) 0) i).half_edges) r)

pub ruleset crossing_laws = (crossings_none, crossings_step)
