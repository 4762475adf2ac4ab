-- All branches stored one after another, as the loop of `store_all` takes them; and the marks cleared before. Assumes nothing.
use mathlib.Core.Path.{◌≡◌, refl, sym, ap, ◌∙◌, subst}
use mathlib.Core.Bool.{Bool, true, false, cond}
use mathlib.Core.List.{List, [], ◌∷◌, ◌++◌, map, map-append}
use Prim.Native.Nat.{ℕ, zero, suc, ◌+◌, ◌*◌, ◌≤◌, ◌<◌, zero-le}
use native.Mathlib.Omega.{arith}
use native.Mathlib.Numerals.{add-one}
use lib.ListN.{length, get_or, set, take, length-set}
use lib.Seq.{get_or-take, length-take-le, take-take, take_all}
use lib.Ieee.{Float}
use Rattle.numbers.specs.Order.{pick}
use Rattle.numbers.specs.Table.{strided}
use Rattle.numbers.proofs.order.Strides.{strided_ext, strided_zero, strided_suc}
use Rattle.plane.specs.Plane.{point_at}
use Rattle.channels.specs.Trace.{Walk, traced}
use Rattle.routing.specs.Route.{MeshScene, Routing, KeptCrossings, no_routing, no_kept_crossings, number_of, centre_at, add_walk, add_branch, traced_to}
use Rattle.routing.specs.Stages.Store.{mark_of, Stock, stock, Stocked, meshed, walk_of, walk_at, crossings_to, add_by_vertices, first_for, count_for, SameRows, Fits, Branched, Filled, Unmarked}
use Rattle.routing.proofs.crossings.Written.{put_pair, pair_other, pair_rows, pair_first, pair_second, rows_then, rows_same}
use Rattle.routing.proofs.tracing.Branching.{crossings_none, crossings_more, crossings_within}

-- ---- the front of the list, where the branches' numbers stand

module _ (m : ℕ) (a b : List ℕ) (q : take (4 * m) a ≡ take (4 * m) b) where
  pub front_read : (i : ℕ) → i < 4 * m → get_or a i 0 ≡ get_or b i 0
  front_read i h = sym (get_or-take (4 * m) a i 0 h) ∙ ap (λ (l : List ℕ). get_or l i 0) q ∙ get_or-take (4 * m) b i 0 h

  pub front_rows : SameRows m b a
  front_rows =
      record {
        from = strided_ext 4 0 0 m a b (λ i h. front_read (4 * i + 0) (omega arith));
        to = strided_ext 4 1 0 m a b (λ i h. front_read (4 * i + 1) (omega arith));
      }

-- ---- the path that a branch adds

pick_cond : (t : Bool) (a b : ℕ) → pick t a b ≡ cond t a b
pick_cond true a b = refl
pick_cond false a b = refl

module _ (S : MeshScene) (e b : ℕ) (r : Routing) where
  added_first : (a : ℕ) → map (λ (p : KeptCrossings). p.first) (add_by_vertices S e a b r).kept_crossings ≡ map (λ (p : KeptCrossings). p.first) r.kept_crossings ++ (first_for a (length r.crossings) ∷ [])
  unfolding add_by_vertices add_branch add_walk first_for
  added_first zero = map-append (λ (p : KeptCrossings). p.first) r.kept_crossings (no_kept_crossings ∷ [])
  added_first (suc a) = map-append (λ (p : KeptCrossings). p.first) r.kept_crossings _

  added_count : (a : ℕ) → map (λ (p : KeptCrossings). p.count) (add_by_vertices S e a b r).kept_crossings ≡ map (λ (p : KeptCrossings). p.count) r.kept_crossings ++ (count_for (walk_of S.corners S.twins (centre_at S) a b) ∷ [])
  unfolding add_by_vertices add_branch add_walk count_for walk_of
  added_count zero = map-append (λ (p : KeptCrossings). p.count) r.kept_crossings (no_kept_crossings ∷ [])
  added_count (suc a) =
      let w = traced S.corners S.twins (centre_at S) a b in
      map-append (λ (p : KeptCrossings). p.count) r.kept_crossings _ ∙ ap (λ (n : ℕ). map (λ (p : KeptCrossings). p.count) r.kept_crossings ++ (n ∷ [])) (sym (pick_cond w.kept (length w.half_edges) 0))

-- ---- the loop

module _ (m : ℕ) (corners twins : List ℕ) (points : List Float) (ways : List ℕ) where
  -- the first e branches are stored, the ways of the others stand
  pub record Filling (e : ℕ) (s : Stock) : Type 0 where
    pub filled : Filled m corners twins points ways e s
    pub upto : e ≤ m
    pub few : s.channels ≤ s.crossings
    pub starts : (j : ℕ) → e ≤ j → j < m → get_or s.ends (4 * j + 2) 0 ≡ get_or ways (4 * j + 2) 0
    pub ends : (j : ℕ) → e ≤ j → j < m → get_or s.ends (4 * j + 3) 0 ≡ get_or ways (4 * j + 3) 0

  held_none : (numbers : List ℕ) (places : List Float) → Unmarked m corners ways → Stocked m corners no_routing (stock 0 0 ways numbers places)
  unfolding mark_of number_of
  held_none numbers places u =
      record {
        known = refl;
        made = refl;
        marked = record { half_edges = λ c l. absurd (omega arith); own = λ c l. absurd (omega arith); marks = λ h l. u.each h l };
        channels = strided_zero 3 0 0 numbers;
        branches = strided_zero 3 1 0 numbers;
        placed = refl;
      }

  pub fill_start : (numbers : List ℕ) (places : List Float) → Unmarked m corners ways → Filling 0 (stock 0 0 ways numbers places)
  unfolding traced_to
  fill_start numbers places u =
      record {
        filled =
            record {
              rows = rows_same m ways;
              made = crossings_none corners twins points ways;
              held = λ S f. held_none numbers places u;
              firsts = λ S f. strided_zero 4 2 0 ways;
              counts = λ S f. strided_zero 4 3 0 ways;
            };
        upto = zero-le;
        few = zero-le;
        starts = λ j h l. refl;
        ends = λ j h l. refl;
      }

  module _ (e : ℕ) (s t : Stock) (h : e < m) (long : 4 * m ≤ length s.ends) (v : Filling e s) where
    abbrev a : ℕ
    a = get_or ways (4 * e + 2) 0

    abbrev b : ℕ
    b = get_or ways (4 * e + 3) 0

    abbrev walk : Walk
    walk = walk_of corners twins (point_at points) a b

    module _ (p : Branched m corners twins points e a b s t) where
      abbrev front : List ℕ
      front = take (4 * m) s.ends

      size : length front ≡ 4 * m
      size = length-take-le (4 * m) s.ends long

      abbrev f : ℕ
      f = first_for a s.crossings

      abbrev c : ℕ
      c = count_for walk

      read : (i : ℕ) → i < 4 * m → get_or t.ends i 0 ≡ get_or (put_pair front e f c) i 0
      read i l = sym (get_or-take (4 * m) t.ends i 0 l) ∙ ap (λ (z : List ℕ). get_or z i 0) p.path

      beside : (j o : ℕ) → o < 4 → j < m → (j ≡ e → ⊥) → get_or t.ends (4 * j + o) 0 ≡ get_or s.ends (4 * j + o) 0
      beside j o k l n = read (4 * j + o) (omega arith) ∙ pair_other front e f c j o k n ∙ get_or-take (4 * m) s.ends (4 * j + o) 0 (omega arith)

      rows : SameRows m ways t.ends
      rows =
          rows_then m ways s.ends t.ends v.filled.rows
          (rows_then m s.ends front t.ends (front_rows m front s.ends (twice s.ends)) (rows_then m front (put_pair front e f c) t.ends (pair_rows front e f c m) (front_rows m t.ends (put_pair front e f c) (p.path ∙ sym whole))))
        where
          twice : (l : List ℕ) → take (4 * m) (take (4 * m) l) ≡ take (4 * m) l
          twice l = take-take (4 * m) (4 * m) l (omega arith)

          whole : take (4 * m) (put_pair front e f c) ≡ put_pair front e f c
          whole = take_all (4 * m) (put_pair front e f c) (omega (arith, size, length-set (set front (4 * e + 2) f) (4 * e + 3) c, length-set front (4 * e + 2) f))

      new_first : get_or t.ends (4 * e + 2) 0 ≡ f
      new_first = read (4 * e + 2) (omega arith) ∙ pair_first front e f c (omega (arith, size))

      new_count : get_or t.ends (4 * e + 3) 0 ≡ c
      new_count = read (4 * e + 3) (omega arith) ∙ pair_second front e f c (omega (arith, size))

      -- the column at o of the paths with one more
      column : (o n : ℕ) → o < 4 → get_or t.ends (4 * e + o) 0 ≡ n → strided 4 o 0 (suc e) t.ends ≡ strided 4 o 0 e s.ends ++ (n ∷ [])
      column o n k q =
          strided_suc 4 o 0 e t.ends ∙ ap (λ (z : ℕ). strided 4 o 0 e t.ends ++ (z ∷ [])) q
          ∙ ap (λ (z : List ℕ). z ++ (n ∷ [])) (strided_ext 4 o 0 e t.ends s.ends (λ j l. beside j o k (omega arith) (λ z. omega arith)))

      module _ (S : MeshScene) (g : Fits corners twins points m ways S) where
        abbrev scene : MeshScene
        scene = meshed corners twins points S

        abbrev old : Routing
        old = traced_to scene e

        step : traced_to scene (suc e) ≡ add_by_vertices scene e a b old
        unfolding traced_to
        step = g.each e h old

        held : Stocked m corners (traced_to scene (suc e)) t
        held = subst (λ (z : Routing). Stocked m corners z t) (sym step) (p.grown S old (v.filled.held S g))

        firsts : strided 4 2 0 (suc e) t.ends ≡ map (λ (z : KeptCrossings). z.first) (traced_to scene (suc e)).kept_crossings
        firsts =
            column 2 f (omega arith) new_first ∙ ap (λ (z : List ℕ). z ++ (f ∷ [])) (v.filled.firsts S g)
            ∙ ap (λ (z : ℕ). map (λ (z : KeptCrossings). z.first) old.kept_crossings ++ (first_for a z ∷ [])) (v.filled.held S g).made
            ∙ sym (added_first scene e b old a) ∙ ap (λ (z : Routing). map (λ (z : KeptCrossings). z.first) z.kept_crossings) (sym step)

        counts : strided 4 3 0 (suc e) t.ends ≡ map (λ (z : KeptCrossings). z.count) (traced_to scene (suc e)).kept_crossings
        counts =
            column 3 c (omega arith) new_count ∙ ap (λ (z : List ℕ). z ++ (c ∷ [])) (v.filled.counts S g)
            ∙ sym (added_count scene e b old a) ∙ ap (λ (z : Routing). map (λ (z : KeptCrossings). z.count) z.kept_crossings) (sym step)

      more : Filling (suc e) t
      more =
          record {
            filled =
                record {
                  rows = rows;
                  made = p.made ∙ crossings_more corners twins points ways e s.crossings (length walk.half_edges) v.filled.made refl ∙ ap (crossings_to corners twins points ways) (add-one e);
                  held = held;
                  firsts = firsts;
                  counts = counts;
                };
            upto = omega arith;
            few = p.few;
            starts = λ j k l. beside j 2 (omega arith) l (λ z. omega arith) ∙ v.starts j (omega arith) l;
            ends = λ j k l. beside j 3 (omega arith) l (λ z. omega arith) ∙ v.ends j (omega arith) l;
          }

    pub fill_more : Branched m corners twins points e (get_or s.ends (4 * e + 2) 0) (get_or s.ends (4 * e + 3) 0) s t → Filling (e + 1) t
    fill_more p =
        subst (λ (n : ℕ). Filling n t) (sym (add-one e))
        (more (subst (λ (z : ℕ). Branched m corners twins points e a z s t) (v.ends e (omega arith) h) (subst (λ (z : ℕ). Branched m corners twins points e z (get_or s.ends (4 * e + 3) 0) s t) (v.starts e (omega arith) h) p)))

  -- there is room for branch e's crossings where there is for all
  pub fill_room : (e : ℕ) (s : Stock) → e < m → Filling e s → s.crossings + length (walk_at corners twins points s.ends e).half_edges ≤ crossings_to corners twins points ways m
  fill_room e s h v =
      let a : get_or s.ends (4 * e + 2) 0 ≡ get_or ways (4 * e + 2) 0 = v.starts e (omega arith) h in
      let b : get_or s.ends (4 * e + 3) 0 ≡ get_or ways (4 * e + 3) 0 = v.ends e (omega arith) h in
      let w : length (walk_at corners twins points s.ends e).half_edges ≡ length (walk_at corners twins points ways e).half_edges =
      ap (λ (z : ℕ). length (walk_of corners twins (point_at points) z (get_or s.ends (4 * e + 3) 0)).half_edges) a
      ∙ ap (λ (z : ℕ). length (walk_of corners twins (point_at points) (get_or ways (4 * e + 2) 0) z).half_edges) b in
      omega (arith, w, v.filled.made, crossings_within corners twins points ways e m h)

  pub fill_end : (e : ℕ) (s : Stock) → e ≡ m → Filling e s → Filled m corners twins points ways m s
  fill_end e s q v = subst (λ (n : ℕ). Filled m corners twins points ways n s) q v.filled

-- ---- marks cleared

module _ (m : ℕ) (before : List ℕ) where
  -- the first n half-edges are not marked
  pub record Cleared (n : ℕ) (now : List ℕ) : Type 0 where
    pub long : length now ≡ length before
    pub front : take (4 * m) now ≡ take (4 * m) before
    pub each : (h : ℕ) → h < n → get_or now (4 * (m + h) + 1) 0 ≡ 0
