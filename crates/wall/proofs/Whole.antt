-- One claim about a whole drawing: whatever the lists held before, the lists that a call which draws leaves are those that arise by the rules, and an audit that accepts them counts no overlap
-- where every station found a free place. Assumes nothing.
use Prim.Native.Nat.{ℕ, zero, suc, ◌^◌, ◌≤◌, ◌<◌}
use mathlib.Core.Path.{◌≡◌, refl, sym, ap, subst, ◌∙◌}
use mathlib.Core.Logic.{◌⊎◌, inl, inr, ⊎_elim, ◌≢◌}
use mathlib.Core.Bool.{Bool, true, false, ◌&&◌}
use mathlib.Core.List.{List, [], ◌∷◌, ◌++◌, map}
use native.Mathlib.Omega.{arith}
use lib.Dec.{T, leb, ltb, eqb, leb→le}
use lib.IntN.{ℤ, pos, negsuc}
use borrow.Author.Tests.{ltb-true, eqb-false}
use lib.ListN.{length, get_or, take}
use lib.Seq.{get_or-take, length-take-le}
use lib.Ieee.{Float, binary64, fits, lt, le, of_bits}
use lib.Ieee.Fits.{and_l, and_r, add-fits, div-fits}
use lib.Ieee.Bits.{of_bits-fits}
use Rattle.numbers.specs.Small.{is_finite}
use Rattle.numbers.specs.Ops.{f0, f1}
use Rattle.numbers.specs.Order.{pick}
use Rattle.numbers.specs.Table.{table, joined}
use Rattle.numbers.proofs.order.Tables.{length_table, get_d_table, joined_ext}
use Rattle.plane.specs.declared.geometry.Point.{Point}
use Rattle.plane.specs.declared.geometry.Box.{Box}
use Rattle.plane.specs.Plane.{box_at, shrunk, box_in, no_box}
use Rattle.plane.specs.Overlap.{overlap}
use Rattle.network.specs.declared.options.BlockOptions.{BlockOptions}
use Rattle.network.specs.declared.options.Options.{Options}
use Rattle.network.specs.Options.{in_range, between, search_fits, block_option_fits, block_options_fit, search_of}
use Rattle.std.specs.Prelude.{Some, None}
use Rattle.network.specs.declared.words.Kind.{Kind}
use Rattle.network.specs.declared.words.Kind.TheVariants.{Undrawn, Open, Internal, Line}
use Rattle.network.specs.Words.{station_of, station_count, bus_counts, buses_in, is_occupied, known, live, kind_by, kind_for, kind_of, kind_at, Safe}
use Rattle.network.specs.Seed as Seed
use Rattle.stations.specs.Scale as Scale
use Rattle.stations.specs.Unit.{unit_for}
use Rattle.network.specs.Seed.{place_at}
use Rattle.network.proofs.Branches.{kind_safe}
use Rattle.network.proofs.KindLaw.{kind_open, kind_internal, kind_line, kind_other}
use Rattle.network.proofs.refusals.Shapes.{Shape, shape_fits}
use Rattle.stations.specs.Row.{has_row}
use Rattle.stations.proofs.rows.RowLaw.{rows_below, rows_differ, rows_fill}
use Rattle.stations.proofs.rows.RowOrder as Kept
use Rattle.placement.specs.Place.{box_of, found_free}
use Rattle.placement.specs.Search.{HalfSides, half_sides_at, box_on, free, buffered}
use Rattle.placement.specs.Stages.Listed.{Turns}
use Rattle.placement.proofs.turns.Queue.{order_turns}
use Rattle.numbers.proofs.order.Sorting.{map_agree}
use Rattle.placement.proofs.Placing.{all_of_lem}
use Rattle.placement.proofs.PlaceLaw.{place_of, all_found}
use Rattle.offsets.specs.Complete.{Complete}
use Rattle.offsets.proofs.OffsetLaw.{offsets_complete}
use Rattle.placement.proofs.turns.OrderLaw.{bus_occupied, occupied_bus, tops, order_law}
use Rattle.placement.proofs.NoOverlap.{order_covers, Finite, box_at_lem, no_overlap}
use Rattle.placement.proofs.Clear.{Outward}
use Rattle.stations.specs.Bar.{position, bar_at}
use Rattle.runs.specs.Run.{Piece, pieces, is_line, all_pieces, role}
use Rattle.runs.specs.Finite.{all_of, finite_point, finite_box}
use Rattle.drawing.specs.declared.answer.Plot.{Plot}
use Rattle.std.specs.Prelude.{Ok}
use Rattle.network.proofs.refusals.Unless.{neither}
use Rattle.drawing.specs.Network.{Network, Lists, Work, Crossings}
use Rattle.drawing.specs.Drawing.{drawing, planned, all_free}
use Rattle.drawing.specs.Answer.{layout_of, early}
use Rattle.layout.proofs.Drawn.{passed}
use Rattle.audit.specs.declared.findings.answer.Figures.{Figures}
use Rattle.audit.specs.Drawn as Audit
use Rattle.audit.specs.Answer.{audit_of, boxes_of}
use Rattle.audit.proofs.findings.Accepted.{accepted_apart}
use Rattle.wall.specs.Wall.{Joins, kind, all_kinds, role_of, Kinds, HasRow, row_number, Rows, seed, Units, order, searched, half_sides_in, earlier, is_free, Boxes, position_in, row_end_in, piece_in, pieces_in, coincide, joining, points_by, points_of, branch_pieces, line_pieces, other_pieces, Runs, audit_parts, audited, Wall}
use Rattle.wall.proofs.Joins.{AllGood, joins, unbroken, absent}
use Rattle.wall.proofs.Every.{Every, every_at, every_table, every_append, every_joined, every_within, pick_every}
use Rattle.wall.proofs.NoMinus.{NoMinus, block, buffer_out, unit_nm, scale_nm, option_range, finite_add}
use Rattle.wall.proofs.Detours.{FitsPoint}
use Rattle.wall.proofs.Opened.{counts, seeds, sizes, median_spacing, unit, fs, os, end, row_end_point, drawn_points, Ended, kinds_length, kind_at_lem, run_points, points_fit, pieces_is, boxes_is}
use Rattle.wall.proofs.Call.{in_range_lem, boxes_finite, runs_finite}
use Rattle.wall.proofs.Parts.{counts_length, seeds_length, unit_of, held_scale, held_pieces, held_position, held_box, held_boxes, held_half_sides, held_end, held_role}
use Rattle.wall.proofs.Boxed.{below_count, order_occupied, first_moved, found_is}
use Rattle.wall.proofs.Barred.{bars_of}
use Rattle.wall.proofs.Routed.{corners_are, line_points}

-- ---- finite points of the format

every_good : (l : List Point) → T (all_of finite_point l) → Every FitsPoint l → AllGood l
unfolding all_of finite_point Every
every_good [] t h = tt
every_good (p ∷ ps) t h =
    let a = is_finite p.x in
    let b = is_finite p.y in
    let u = and_l (a && b) (all_of finite_point ps) t in
    (((h.0.0, and_l a b u), (h.0.1, and_r a b u)), every_good ps (and_r (a && b) (all_of finite_point ps) t) h.1)

all_get : {A : Type 0} (test : A → Bool) (l : List A) (d : A) (i : ℕ) → T (test d) → T (all_of test l) → T (test (get_or l i d))
unfolding all_of
all_get test [] d i k t = k
all_get test (x ∷ xs) d zero k t = and_l (test x) (all_of test xs) t
all_get test (x ∷ xs) d (suc i) k t = all_get test xs d i k (and_r (test x) (all_of test xs) t)

-- ---- the options' parts

record Ranges (o : Options) : Type 0 where
  fill : T (lt f0 o.fill)
  first : NoMinus o.tier_scale_1
  second : NoMinus o.tier_scale_2
  search : T (search_fits o.search)
  buffer : NoMinus o.block_options.buffer × T (is_finite o.block_options.buffer)

buffer_range : (G : BlockOptions) → T (block_options_fit G) → NoMinus G.buffer × T (is_finite G.buffer)
unfolding block_options_fit
buffer_range G h =
    let q₁ = block_option_fits G.bar_gap in
    let q₂ = block_option_fits G.pad in
    let q₃ = block_option_fits G.min_bar in
    let q₄ = block_option_fits G.buffer in
    option_range G.buffer (and_r q₃ q₄ (and_r q₂ (q₃ && q₄) (and_r q₁ (q₂ && (q₃ && q₄)) h)))

ranges : (o : Options) → T (in_range o) → Ranges o
unfolding in_range
ranges o h =
    let q₁ = lt f0 o.fill in
    let q₂ = le o.fill (of_bits binary64 0x4030_0000_0000_0000) in
    let q₃ = between f0 o.tier_radius (of_bits binary64 0x408F_4000_0000_0000) in
    let q₄ = between (of_bits binary64 0x3F90_0000_0000_0000) o.tier_scale_1 f1 in
    let q₅ = between (of_bits binary64 0x3F90_0000_0000_0000) o.tier_scale_2 f1 in
    let q₇ = block_options_fit o.block_options && leb o.route_iterations 100 in
    let q₆ = search_fits o.search && q₇ in
    let h₂ = and_r q₁ (q₂ && (q₃ && (q₄ && (q₅ && q₆)))) h in
    let h₃ = and_r q₂ (q₃ && (q₄ && (q₅ && q₆))) h₂ in
    let h₄ = and_r q₃ (q₄ && (q₅ && q₆)) h₃ in
    let h₅ = and_r q₄ (q₅ && q₆) h₄ in
    let h₆ = and_r q₅ q₆ h₅ in
    record {
      fill = and_l q₁ (q₂ && (q₃ && (q₄ && (q₅ && q₆)))) h;
      first = scale_nm o.tier_scale_1 (and_l q₄ (q₅ && q₆) h₄);
      second = scale_nm o.tier_scale_2 (and_l q₅ q₆ h₅);
      search = and_l (search_fits o.search) q₇ h₆;
      buffer = buffer_range o.block_options (and_l (block_options_fit o.block_options) (leb o.route_iterations 100) (and_r (search_fits o.search) q₇ h₆));
    }

search_fits_lem : (z : ℤ) → T (search_fits z) → search_of z ≤ 20
unfolding search_fits search_of
search_fits_lem (pos n) h = leb→le n 20 h
search_fits_lem (negsuc n) h = absurd h

-- ---- seeds are floats of the format

abbrev FitsY : Point → Type 0
FitsY q = T (fits binary64 q.y)

pick_y : (b : Bool) (q r : Point) → FitsY q → FitsY r → FitsY (pick b q r)
pick_y true q r h k = h
pick_y false q r h k = k

sum_fits : (sub : List ℕ) (xy : List Float) (t n : ℕ) → FitsY (Seed.sum_to sub xy t n)
unfolding Seed.sum_to
sum_fits sub xy t zero = of_bits-fits binary64 0
sum_fits sub xy t (suc n) =
    pick_y (eqb (station_of sub n) t) (Seed.plus (Seed.sum_to sub xy t n) (Seed.bus_point xy n)) (Seed.sum_to sub xy t n) (add-fits binary64 _ _) (sum_fits sub xy t n)

mean_fits : (c : ℕ) (q : Point) → FitsY q → FitsY (Seed.mean c q)
unfolding Seed.mean
mean_fits zero q h = h
mean_fits (suc c) q h = div-fits binary64 _ _

seed_fits : (sub : List ℕ) (xy : List Float) (s : ℕ) → FitsY (place_at (Seed.seeds sub xy) s)
unfolding Seed.seeds Seed.seed_of
seed_fits sub xy s =
    every_at FitsY (Seed.seeds sub xy) _ s
    (every_table FitsY (Seed.seed_of sub xy) 0 (station_count sub) (λ t. mean_fits (buses_in sub t) (Seed.sum_to sub xy t (length sub)) (sum_fits sub xy t (length sub))))
    (of_bits-fits binary64 0)

seed_is : (sub : List ℕ) (xy : List Float) (s : ℕ) → s < station_count sub → place_at (Seed.seeds sub xy) s ≡ Seed.mean (buses_in sub s) (Seed.sum_to sub xy s (length sub))
unfolding Seed.seeds Seed.seed_of
seed_is sub xy s h = get_d_table (Seed.seed_of sub xy) (station_count sub) s _ h

-- ---- rows

rows_of : (o : Options) (N : Network) (s : ℕ) → Rows N s
rows_of o N s =
    record {
      below = λ e h. rows_below N.station (seeds o N) (all_kinds N) s e (has e h);
      differ = λ d e h k q. rows_differ N.station (seeds o N) (all_kinds N) s d e (has d h) (has e k) q;
      fill = λ r h.
          let f = rows_fill N.station (seeds o N) (all_kinds N) s r h in
          let l : f.0 < length N.from = subst (λ (n : ℕ). f.0 < n) (kinds_length o N) f.1.0 in
          (f.0, (l, subst (Kept.HasRow N.station s) (kind_at_lem o N f.0 l) (Kept.has_row_lem N.station s (kind_at (all_kinds N) f.0) f.1.1)), f.2);
      order = λ d e h k.
          subst (Ordered d (kind N d) e) (kind_at_lem o N e k.0)
          (subst (λ (c : Kind). Ordered d c e (kind_at (all_kinds N) e)) (kind_at_lem o N d h.0)
          (Kept.rows_order N.station (seeds o N) (all_kinds N) (seed_fits N.station N.xy) s d e (in_list d h) (in-kind d h) (in_list e k) (in-kind e k)));
    }
  where
    in_list : (e : ℕ) → HasRow N s e → e < length (all_kinds N)
    in_list e h = subst (λ (n : ℕ). e < n) (sym (kinds_length o N)) h.0

    in-kind : (e : ℕ) → HasRow N s e → Kept.HasRow N.station s (kind_at (all_kinds N) e)
    in-kind e h = subst (Kept.HasRow N.station s) (sym (kind_at_lem o N e h.0)) h.1

    has : (e : ℕ) → HasRow N s e → (e < length (all_kinds N)) × (has_row N.station s (kind_at (all_kinds N) e) ≡ true)
    has e h = (in_list e h, Kept.row_has N.station s (kind_at (all_kinds N) e) (in-kind e h))

    Ordered : ℕ → Kind → ℕ → Kind → Type 0
    Ordered d c e k =
        (row_number N s d < row_number N s e → Kept.StandsBefore N.station (seeds o N) s d c e k)
        × (Kept.StandsBefore N.station (seeds o N) s d c e k → row_number N s d < row_number N s e)

-- ---- the branches that pieces name

-- x and y are the numbers of two known, different buses
abbrev Ends : ℕ → ℤ → ℤ → Type 0
Ends n x y = (a : ℕ) × (b : ℕ) × (x ≡ pos a) × (a < n) × (y ≡ pos b) × (b < n) × (a ≢ b)

drawn_joins : (sub : List ℕ) (l : Bool) (x y : ℤ) → (kind_for sub l (known (length sub) x) (known (length sub) y) ≡ Undrawn) ⊎ Ends (length sub) x y
unfolding kind_for known
drawn_joins sub l (negsuc i) y = inl refl
drawn_joins sub l (pos a) y = from (ltb a (length sub)) refl y
  where
    to : a < length sub → (b : ℕ) (u : Bool) → ltb b (length sub) ≡ u → (kind_for sub l (Some a) (pick u (Some b) None) ≡ Undrawn) ⊎ Ends (length sub) (pos a) (pos b)
    to h b false e = inl refl
    to h b true e = same (eqb a b) refl
      where
        same : (v : Bool) → eqb a b ≡ v → (kind_by v l (eqb (station_of sub a) (station_of sub b)) a b ≡ Undrawn) ⊎ Ends (length sub) (pos a) (pos b)
        same true q = inl (unfold kind_by in refl)
        same false q = inr (a, b, refl, h, refl, ltb-true b (length sub) e, eqb-false a b q)

    from : (u : Bool) → ltb a (length sub) ≡ u → (y : ℤ) → (kind_for sub l (pick u (Some a) None) (known (length sub) y) ≡ Undrawn) ⊎ Ends (length sub) (pos a) y
    from false e y = inl refl
    from true e (negsuc i) = inl refl
    from true e (pos b) = to (ltb-true a (length sub) e) b (ltb b (length sub)) refl

joining_named : (P : ℕ → Type 0) (e : ℕ) (points : List Point) → P e → Every (λ (q : Piece). P q.branch) (joining e points)
unfolding joining Every
joining_named P e [] h = tt
joining_named P e (p ∷ []) h = tt
joining_named P e (p ∷ (q ∷ ps)) h = go (coincide p q) (joining_named P e (q ∷ ps) h)
  where
    go : (b : Bool) → Every (λ (r : Piece). P r.branch) (joining e (q ∷ ps))
        → Every (λ (r : Piece). P r.branch) (pick b (joining e (q ∷ ps)) (record { branch = e; start = p; end = q } ∷ joining e (q ∷ ps)))
    go true k = k
    go false k = (h, k)

-- a branch between two known, different buses
abbrev Named : Network → ℕ → Type 0
Named N e = (e < length N.from) × (a : ℕ) × (b : ℕ) × Joins N e a b

module _ (o : Options) (N : Network) (L : Lists) (W : Work) (X : Crossings) (p : Plot) (drawn : (layout_of o N L W X).answer ≡ Ok p) where
  abbrev exit : Lists
  exit = (layout_of o N L W X).lists

  abbrev at : ℕ → Point
  at s = place_at (end o N) s

  -- ---- kinds
  role_is : (c : Kind) → role c ≡ role_of c
  unfolding role role_of
  role_is Undrawn = refl
  role_is (Open a b) = refl
  role_is (Internal a b) = refl
  role_is (Line a b) = refl

  line_is : (c : Kind) → is_line c ≡ eqb (role_of c) 0
  unfolding is_line role_of
  line_is Undrawn = refl
  line_is (Open a b) = refl
  line_is (Internal a b) = refl
  line_is (Line a b) = refl

  kinds_of : Kinds N exit
  kinds_of =
      record {
        opened = λ e a b j f. kind_open N.station N.from N.to N.service e a b j f;
        internal = λ e a b j f s. kind_internal N.station N.from N.to N.service e a b j f s;
        line = λ e a b j f s. kind_line N.station N.from N.to N.service e a b j f s;
        other = λ e n. kind_other N.station N.from N.to N.service e n;
        roles = λ e h. held_role o N L W X p drawn e h ∙ role_is (kind N e);
      }

  -- ---- unit and scales
  units_of : Units o N exit p
  units_of =
      record {
        seeds = λ s h. seed_is N.station N.xy s h;
        unit = unit_of o N L W X p drawn;
        scale = λ s h. held_scale o N L W X p drawn s h;
      }

  -- ---- runs
  points_by_lem : (e : ℕ) → e < length N.from → (points : List Point) (c : Kind) → kind N e ≡ c → Safe N.station c → Ended o N e points c → points ≡ points_by o N p exit at e c
  unfolding Ended points_by Safe
  points_by_lem e l points Undrawn q s h = h
  points_by_lem e l points (Open a b) q s h =
      h ∙ ap (λ (u : Point). u ∷ position (bar_at (drawing o N).bars b) ∷ []) (sym (held_position o N L W X p drawn a s.0))
      ∙ ap (λ (v : Point). position_in exit a ∷ v ∷ []) (sym (held_position o N L W X p drawn b s.1))
  points_by_lem e l points (Internal a b) q s h =
      let ra = row_number N (station_of N.station a) e in
      let rb = row_number N (station_of N.station b) e in
      h ∙ ap (λ (u : Point). u ∷ row_end_point o N b rb ∷ []) (sym (held_end o N L W X p drawn a ra s.0))
      ∙ ap (λ (v : Point). row_end_in o N p exit a ra ∷ v ∷ []) (sym (held_end o N L W X p drawn b rb s.1))
  points_by_lem e l points (Line a b) q s h = h ∙ line_points o N L W X p drawn e a b l q s.0 s.1

  points_are : (e : ℕ) → e < length N.from → drawn_points o N e ≡ points_of o N p exit at e
  points_are e h = points_by_lem e h (drawn_points o N e) (kind N e) refl (kind_safe N.station N.from N.to N.service e) (run_points o N e h)

  drawn_good : (e : ℕ) → e < length N.from → AllGood (drawn_points o N e)
  drawn_good e h = every_good (drawn_points o N e) (all_get (all_of finite_point) (drawing o N).runs [] e (unfold all_of in tt) (runs_finite o N L W X p drawn)) (points_fit o N e h)

  good : (e : ℕ) → e < length N.from → AllGood (points_of o N p exit at e)
  good e h = subst AllGood (points_are e h) (drawn_good e h)

  abbrev run : ℕ → List Piece
  run e = branch_pieces o N p exit at e

  abbrev other_runs : List Piece
  other_runs = joined (other_pieces o N p exit at) (length N.from)

  abbrev line_runs : List Piece
  line_runs = joined (line_pieces o N p exit at) (length N.from)

  run_is : (e : ℕ) → e < length N.from → pieces e (drawn_points o N e) ≡ run e
  run_is e h = joins e (drawn_points o N e) (drawn_good e h) ∙ ap (joining e) (points_are e h)

  listed : pieces_in exit p.pieces ≡ other_runs ++ line_runs
  unfolding all_pieces
  listed =
      let m = length N.from in
      let f : ℕ → List Piece = λ e. pick (is_line (kind_at (all_kinds N) e)) [] (pieces e (drawn_points o N e)) in
      let g : ℕ → List Piece = λ e. pick (is_line (kind_at (all_kinds N) e)) (pieces e (drawn_points o N e)) [] in
      held_pieces o N L W X p drawn ∙ pieces_is o N
      ∙ ap (λ (n : ℕ). joined f n ++ joined g n) (kinds_length o N)
      ∙ ap (λ (l : List Piece). l ++ joined g m) (joined_ext f (other_pieces o N p exit at) m (λ e h.
      ap (λ (u : Bool). pick u [] (pieces e (drawn_points o N e))) (ap is_line (kind_at_lem o N e h) ∙ line_is (kind N e)) ∙ ap (λ (l : List Piece). pick (eqb (role_of (kind N e)) 0) [] l) (run_is e h)))
      ∙ ap (λ (l : List Piece). other_runs ++ l) (joined_ext g (line_pieces o N p exit at) m (λ e h.
      ap (λ (u : Bool). pick u (pieces e (drawn_points o N e)) []) (ap is_line (kind_at_lem o N e h) ∙ line_is (kind N e)) ∙ ap (λ (l : List Piece). pick (eqb (role_of (kind N e)) 0) l []) (run_is e h)))

  run_named : (e : ℕ) → e < length N.from → Every (λ (q : Piece). Named N q.branch) (run e)
  unfolding kind_of
  run_named e h = ⊎_elim
      (λ (u : kind N e ≡ Undrawn).
      subst (λ (c : Kind). Every (λ (q : Piece). Named N q.branch) (joining e (points_by o N p exit at e c))) (sym u) (unfold points_by joining Every in tt))
      (λ (j : Ends (length N.station) (get_or N.from e (negsuc 0)) (get_or N.to e (negsuc 0))).
      joining_named (Named N) e (points_of o N p exit at e) (h, j.0, j.1, (j.2, j.3, j.4, j.5, j.6)))
      (drawn_joins N.station (live N.service e) (get_or N.from e (negsuc 0)) (get_or N.to e (negsuc 0)))

  named : (j : ℕ) → j < p.pieces → Named N (piece_in exit j).branch
  unfolding pieces_in
  named j h =
      let m = length N.from in
      let all : Every (λ (q : Piece). Named N q.branch) (table (piece_in exit) p.pieces) =
      subst (Every (λ (q : Piece). Named N q.branch)) (sym listed)
      (every_append (λ (q : Piece). Named N q.branch) other_runs line_runs
      (every_joined (λ (q : Piece). Named N q.branch) (other_pieces o N p exit at) m (λ e k. pick_every (λ (q : Piece). Named N q.branch) (eqb (role_of (kind N e)) 0) [] (run e) (unfold Every in tt) (run_named e k)))
      (every_joined (λ (q : Piece). Named N q.branch) (line_pieces o N p exit at) m (λ e k. pick_every (λ (q : Piece). Named N q.branch) (eqb (role_of (kind N e)) 0) (run e) [] (run_named e k) (unfold Every in tt)))) in
      subst (λ (q : Piece). Named N q.branch) (get_d_table (piece_in exit) p.pieces j (piece_in exit 0) h)
      (every_within (λ (q : Piece). Named N q.branch) (table (piece_in exit) p.pieces) (piece_in exit 0) j (subst (λ (n : ℕ). j < n) (sym (length_table (piece_in exit) p.pieces)) h) all)

  runs_of : Runs o N exit p at
  runs_of =
      record {
        listed = listed;
        unbroken = λ e h. unbroken e (points_of o N p exit at e) (good e h);
        absent = λ e h n. absent e (points_of o N p exit at e) (good e h) n;
        corners = λ v l. corners_are o N L W X p drawn v l;
        named = named;
      }

  -- ---- boxes
  abbrev Filled : ℕ → Type 0
  Filled s = is_occupied (counts o N) s ≡ true

  below : (s : ℕ) → Filled s → s < station_count N.station
  below s h = subst (λ (n : ℕ). s < n) (counts_length N) (below_count (counts o N) s h)

  box_is : (s : ℕ) → Filled s → box_at exit.boxes s ≡ box_of (fs o N) (end o N) s
  box_is s h =
      held_box o N L W X p drawn s (below s h) ∙ ap (λ (l : List Box). box_in l s) (boxes_is o N)
      ∙ box_at_lem N.station N.kv (counts o N) (fs o N) (os o N) (seeds o N) (seeds_length N) s h

  turns : Turns (length (seeds o N)) (order N)
  turns = subst (λ (n : ℕ). Turns n (order N)) (seeds_length N) (order_turns N.station N.kv (counts o N))

  at_turn : (i : ℕ) → i < length (order N) → Filled (get_or (order N) i 0)
  at_turn i h = order_occupied N.station N.kv (counts o N) i h

  earlier_are : (i : ℕ) → i < length (order N) → map (box_of (fs o N) (end o N)) (take i (order N)) ≡ earlier N exit i
  earlier_are i h =
      map_agree (box_of (fs o N) (end o N)) (box_at exit.boxes) (take i (order N))
      (all_of_lem (λ t. box_of (fs o N) (end o N) t ≡ box_at exit.boxes t) (take i (order N)) (λ j q.
      let k : j < i = subst (λ (n : ℕ). j < n) (length-take-le i (order N) (omega arith)) q in
      let e : get_or (take i (order N)) j 0 ≡ get_or (order N) j 0 = get_or-take i (order N) j 0 k in
      subst (λ (t : ℕ). box_of (fs o N) (end o N) t ≡ box_at exit.boxes t) (sym e) (sym (box_is (get_or (order N) j 0) (at_turn j (omega arith))))))

  shape : Shape N.station N.kv N.from N.to
  unfolding early
  shape = shape_fits N.station N.kv N.from N.to (neither _ _ (passed o N L W X p drawn).early).0

  turns_of : Rattle.wall.specs.Wall.Turns N
  turns_of =
      let few : length N.station < 2 ^ 64 = omega (arith, shape.few) in
      record {
        every = λ s h. order_covers N.station N.kv (counts o N) s (bus_occupied N.station s h);
        only = λ i h. occupied_bus N.station (get_or (order N) i 0) (below (get_or (order N) i 0) (at_turn i h)) (at_turn i h);
        once = λ i j h k e. turns.once i j h k e;
        top = λ P s h. tops N.station N.kv s P h;
        by = λ P i j h k v w S U. order_law N.station N.kv P few i j h k v w S U;
      }

  offsets_of : Complete (search_of o.search) (searched o)
  offsets_of = offsets_complete (search_of o.search) (search_fits_lem o.search (ranges o (in_range_lem o N L W X p drawn)).search)

  boxes_of_lem : Boxes o N exit p
  boxes_of_lem =
      record {
        places = λ s. place_at (end o N) s;
        stands = λ s b.
            let h = bus_occupied N.station s b in
            box_is s h ∙ unfold box_of in ap (λ (r : HalfSides). box_on (place_at (end o N) s) r.half) (held_half_sides o N L W X p drawn s (below s h));
        turns = turns_of;
        offsets = offsets_of;
        first = λ i h.
            first_moved (half_sides_at (fs o N) (get_or (order N) i 0)) (half_sides_in o N p exit (get_or (order N) i 0)) (map (box_of (fs o N) (end o N)) (take i (order N))) (earlier N exit i)
            (seed N (get_or (order N) i 0)) (place_at (end o N) (get_or (order N) i 0)) (os o N)
            (held_half_sides o N L W X p drawn (get_or (order N) i 0) (below (get_or (order N) i 0) (at_turn i h))) (earlier_are i h)
            (place_of (fs o N) (os o N) (seeds o N) (order N) turns i h);
      }

  -- ---- the audit
  found : ((i : ℕ) → i < length (order N) → is_free o N exit p i (place_at (end o N) (get_or (order N) i 0)) ≡ true)
      → (i : ℕ) → i < length (order N) → found_free (fs o N) (os o N) (seeds o N) (order N) i ≡ true
  found f i h =
      let s = get_or (order N) i 0 in
      found_is (fs o N) (os o N) (seeds o N) (order N) turns i h
      ∙ ap (λ (r : HalfSides). free (buffered (place_at (end o N) s) r) (map (box_of (fs o N) (end o N)) (take i (order N)))) (held_half_sides o N L W X p drawn s (below s (at_turn i h)))
      ∙ ap (free (buffered (place_at (end o N) s) (half_sides_in o N p exit s))) (earlier_are i h) ∙ f i h

  finite_at : (s : ℕ) → Filled s → Finite (box_of (fs o N) (end o N) s)
  unfolding finite_box
  finite_at s h =
      let b = box_of (fs o N) (end o N) s in
      let t : T (finite_box (box_of (fs o N) (end o N) s)) =
      subst (λ (x : Box). T (finite_box x)) (box_at_lem N.station N.kv (counts o N) (fs o N) (os o N) (seeds o N) (seeds_length N) s h)
      (subst (λ (l : List Box). T (finite_box (box_in l s))) (boxes_is o N) (all_get finite_box (drawing o N).boxes no_box s no-box (boxes_finite o N L W X p drawn))) in
      let p₁ = is_finite b.left in
      let p₂ = is_finite b.top in
      let p₃ = is_finite b.right in
      let p₄ = is_finite b.bottom in
      let t₂ = and_r p₁ (p₂ && (p₃ && p₄)) t in
      let t₃ = and_r p₂ (p₃ && p₄) t₂ in
      (and_l p₁ (p₂ && (p₃ && p₄)) t, and_l p₂ (p₃ && p₄) t₂, and_l p₃ p₄ t₃, and_r p₃ p₄ t₃)
    where
      no-box : T (finite_box no_box)
      no-box = unfold is_finite of_bits lib.Ieee.of_fields lib.Ieee.odd in tt

  out_at : (s : ℕ) → Filled s → Outward (Rattle.numbers.specs.Ops.◌⊗◌ (half_sides_at (fs o N) s).f (half_sides_at (fs o N) s).buffer)
  unfolding box_of box_on
  out_at s h =
      let R = ranges o (in_range_lem o N L W X p drawn) in
      let B = block o (seeds o N) (counts o N) (median_spacing o N) (unit o N) (sizes o N) (unit_nm o.fill (seeds o N) (counts o N) (sizes o N) R.fill) R.first R.second R.buffer.0 R.buffer.1 s in
      buffer_out (half_sides_at (fs o N) s) B (finite_add (place_at (end o N) s).x (half_sides_at (fs o N) s).half.w (finite_at s h).2)

  clean_by : ((i : ℕ) → i < length (order N) → found_free (fs o N) (os o N) (seeds o N) (order N) i ≡ true)
      → (A : Audit.Lists) (Z : Audit.Work) (f : Figures) → (audit_of (audited N exit p.pieces) A Z).answer ≡ Ok f → f.overlaps ≡ 0
  unfolding audited audit_parts boxes_of
  clean_by free A Z f e =
      accepted_apart (audited N exit p.pieces) A Z f (λ s t n h k.
      subst (λ (l : List Box). overlap (shrunk (box_in l t)) (box_in l s) ≡ false) (sym (held_boxes o N L W X p drawn))
      (no_overlap N.station N.kv (counts o N) (fs o N) (os o N) (seeds o N) (seeds_length N) free out_at finite_at s t n h k)) e

  clean : ((i : ℕ) → i < length (order N) → is_free o N exit p i (place_at (end o N) (get_or (order N) i 0)) ≡ true)
      → (A : Audit.Lists) (Z : Audit.Work) (f : Figures) → (audit_of (audited N exit p.pieces) A Z).answer ≡ Ok f → f.overlaps ≡ 0
  clean free = clean_by (found free)

  -- Where every search finds a free place, no box overlaps another.
  pub clean_by_search : all_free o N ≡ true → (A : Audit.Lists) (Z : Audit.Work) (f : Figures) → (audit_of (audited N exit p.pieces) A Z).answer ≡ Ok f → f.overlaps ≡ 0
  unfolding all_free planned unit_for Scale.scales bus_counts Seed.seeds
  clean_by_search found_all = clean_by (all_found (fs o N) (os o N) (seeds o N) (order N) turns (length (order N)) (omega arith) found_all)

  -- THE CLAIM
  pub wall : Wall o N (layout_of o N L W X).lists p
  unfolding boxes_of_lem
  wall = record { kinds = kinds_of; rows = rows_of o N; units = units_of; boxes = boxes_of_lem; bars = bars_of o N L W X p drawn; runs = runs_of; audit = clean }
