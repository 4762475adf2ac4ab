-- The parts of the lists after a call that draws. Assumes nothing.
use Prim.Native.Nat.{ℕ, ◌+◌, ◌*◌, ◌<◌}
use mathlib.Core.Path.{◌≡◌, refl, sym, ap, subst, ◌∙◌}
use mathlib.Core.List.{List, [], ◌∷◌, ◌++◌}
use native.Mathlib.Omega.{arith}
use lib.ListN.{length, get_or, take, drop, get_or-map}
use lib.Seq.{take-append_seam}
use lib.Ieee.{Float, nan}
use Rattle.numbers.specs.Ops.{f1, ◌⊗◌}
use Rattle.numbers.proofs.order.Tables.{length_table, get_d_table}
use Rattle.plane.specs.declared.geometry.Box.{Box}
use Rattle.plane.specs.Plane.{point, box_at, box_in}
use Rattle.network.specs.declared.options.Options.{Options}
use Rattle.network.specs.Words.{station_of, station_count, buses_in, bus_counts}
use Rattle.network.specs.Seed as Seed
use Rattle.network.specs.Views.{boxes_in}
use Rattle.network.proofs.Stations.{station_below}
use Rattle.stations.specs.Size as Sizes
use Rattle.stations.specs.Size.{size_at, size_for, width_for, height_for}
use Rattle.stations.specs.Scale as Scale
use Rattle.placement.specs.Place.{boxes}
use Rattle.placement.specs.Search.{HalfSides, half_sides, half_sides_for, half_sides_at}
use Rattle.stations.specs.Bar.{position, bar_at, block_at, row_end, row_y}
use Rattle.network.specs.declared.words.Kind.TheVariants.{Undrawn}
use Rattle.runs.specs.Run.{role}
use Rattle.runs.specs.Lists.{flat, box_numbers, bar_numbers}
use Rattle.audit.proofs.figures.Reading.{boxes_read}
use Rattle.drawing.specs.declared.answer.Plot.{Plot}
use Rattle.std.specs.Prelude.{Ok}
use Rattle.drawing.specs.Network.{Network, Lists, Work, Crossings}
use Rattle.drawing.specs.Drawing.{measures_of, drawing}
use Rattle.drawing.specs.Answer.{layout_of}
use Rattle.drawing.proofs.Written.{Written, lists_written}
use Rattle.wall.specs.Wall.{kind, row_count, position_in, bar_in, row_end_in, half_sides_in, pieces_in}
use Rattle.wall.proofs.Reading.{flat_length, read_position, read_bar, read_bar_x, read_box, read_one, read_pieces}
use Rattle.wall.proofs.Opened.{counts, seeds, sizes, unit, scales, fs, end, blocks, unit_is, scales_is, boxes_is, bars_length, roles_length, role_at, row_end_point}
use Rattle.wall.proofs.Call.{plot_is, lists_are}

pub counts_length : (N : Network) → length (bus_counts N.station) ≡ station_count N.station
unfolding bus_counts
counts_length N = length_table _ (station_count N.station)

pub seeds_length : (N : Network) → length (bus_counts N.station) ≡ length (Seed.seeds N.station N.xy)
unfolding Seed.seeds
seeds_length N = counts_length N ∙ sym (length_table _ (station_count N.station))

module _ (o : Options) (N : Network) (L : Lists) (W : Work) (X : Crossings) (p : Plot) (drawn : (layout_of o N L W X).answer ≡ Ok p) where
  abbrev exit : Lists
  exit = (layout_of o N L W X).lists

  abbrev k : ℕ
  k = station_count N.station

  pub unit_of : p.unit ≡ unit o N
  unit_of = ap (λ (q : Plot). q.unit) (plot_is o N L W X p drawn) ∙ unit_is o N

  pieces_of : p.pieces ≡ length (drawing o N).pieces
  pieces_of = ap (λ (q : Plot). q.pieces) (plot_is o N L W X p drawn)

  -- ---- each list begins with the drawing's numbers
  written : Written (drawing o N) L exit
  written = subst (Written (drawing o N) L) (sym (lists_are o N L W X p drawn)) (lists_written (drawing o N) L)

  -- ---- what they hold
  pub held_pieces : pieces_in exit p.pieces ≡ (drawing o N).pieces
  held_pieces = ap (pieces_in exit) pieces_of ∙ read_pieces (drawing o N).pieces _ _ exit written.pieces written.branches

  pub held_position : (i : ℕ) → i < length N.station → position_in exit i ≡ position (bar_at (drawing o N).bars i)
  held_position i h =
      ap (λ (l : List Float). Rattle.plane.specs.Plane.point_at l i) written.positions
      ∙ read_position (drawing o N).bars _ i (subst (λ (n : ℕ). i < n) (sym (bars_length o N)) h)

  pub boxes_length : length (drawing o N).boxes ≡ k
  unfolding boxes
  boxes_length = ap (λ (l : List Box). length l) (boxes_is o N) ∙ length_table _ (length (counts o N)) ∙ counts_length N

  pub held_box : (s : ℕ) → s < k → box_at exit.boxes s ≡ box_in (drawing o N).boxes s
  held_box s h =
      ap (λ (l : List Float). box_at l s) written.boxes ∙ read_box (drawing o N).boxes _ s (subst (λ (n : ℕ). s < n) (sym boxes_length) h)

  -- the box list that an audit is handed
  pub held_boxes : boxes_in k (take (4 * k) exit.boxes) ≡ boxes (fs o N) (counts o N) (end o N)
  held_boxes =
      let bs = (drawing o N).boxes in
      let e : 4 * k ≡ length (flat box_numbers bs) = ap (λ (n : ℕ). 4 * n) (sym boxes_length) ∙ sym (flat_length box_numbers 4 (λ x. refl) bs) in
      ap (λ (l : List Float). boxes_in k (take (4 * k) l)) written.boxes
      ∙ ap (λ (n : ℕ). boxes_in k (take n (flat box_numbers bs ++ drop (length (flat box_numbers bs)) L.boxes))) e
      ∙ ap (boxes_in k) (take-append_seam (flat box_numbers bs) (drop (length (flat box_numbers bs)) L.boxes))
      ∙ ap (boxes_in k) (sym (mathlib.Core.List.append-nil (flat box_numbers bs)))
      ∙ ap (λ (n : ℕ). boxes_in n (flat box_numbers bs ++ [])) (sym boxes_length)
      ∙ boxes_read bs [] ∙ boxes_is o N

  pub scales_length : length (scales o N) ≡ k
  unfolding Scale.scales Scale.scales_of
  scales_length = length_table _ (length (counts o N)) ∙ counts_length N

  pub held_scale : (s : ℕ) → s < k → get_or exit.scales s nan ≡ get_or (scales o N) s f1
  held_scale s h =
      ap (λ (l : List Float). get_or l s nan) written.scales
      ∙ read_one (drawing o N).scales _ s nan f1 (subst (λ (l : List Float). s < length l) (sym (scales_is o N)) (subst (λ (n : ℕ). s < n) (sym scales_length) h))
      ∙ ap (λ (l : List Float). get_or l s f1) (scales_is o N)

  sizes_length : length (sizes o N) ≡ k
  unfolding Sizes.sizes
  sizes_length = length_table _ (length (counts o N)) ∙ counts_length N

  half_sides_at_lem : (s : ℕ) → s < k → half_sides_at (fs o N) s ≡ half_sides_for (measures_of o (unit o N)) (get_or (scales o N) s f1) (size_at (sizes o N) s)
  unfolding half_sides
  half_sides_at_lem s h = get_d_table _ (length (sizes o N)) s _ (subst (λ (n : ℕ). s < n) (sym sizes_length) h)

  size_at_lem : (s : ℕ) → s < k → size_at (sizes o N) s ≡ size_for o.block_options (buses_in N.station s) (row_count N s)
  unfolding Sizes.sizes bus_counts
  size_at_lem s h =
      get_d_table _ (length (counts o N)) s _ (subst (λ (n : ℕ). s < n) (sym (counts_length N)) h)
      ∙ ap (λ (c : ℕ). size_for o.block_options c (row_count N s)) (get_d_table (buses_in N.station) k s 0 h)

  pub held_half_sides : (s : ℕ) → s < k → half_sides_at (fs o N) s ≡ half_sides_in o N p exit s
  unfolding half_sides_in half_sides_for size_for width_for height_for
  held_half_sides s h =
      half_sides_at_lem s h ∙ ap (half_sides_for (measures_of o (unit o N)) (get_or (scales o N) s f1)) (size_at_lem s h)
      ∙ ap (λ (x : Float). half_sides_for (measures_of o (unit o N)) x (size_for o.block_options (buses_in N.station s) (row_count N s))) (sym (held_scale s h))
      ∙ ap (λ (u : Float). half_sides_for (measures_of o u) (get_or exit.scales s nan) (size_for o.block_options (buses_in N.station s) (row_count N s))) (sym unit_of)

  pub block_at_lem : (s : ℕ) → s < k → block_at (blocks o N) s ≡ p.unit ⊗ get_or exit.scales s nan
  unfolding half_sides_in
  block_at_lem s h = get_or-map (λ (r : HalfSides). r.f) (fs o N) s _ ∙ ap (λ (r : HalfSides). r.f) (held_half_sides s h)

  pub held_bar : (i : ℕ) → i < length N.station → bar_in exit i ≡ bar_numbers (bar_at (drawing o N).bars i)
  held_bar i h =
      let bs = (drawing o N).bars in
      let l : i < length (drawing o N).bars = subst (λ (n : ℕ). i < n) (sym (bars_length o N)) h in
      let g : List Float = flat bar_numbers bs ++ drop (length (flat bar_numbers bs)) L.bars in
      ap (λ (m : List Float). get_or m (4 * i) nan ∷ get_or m (4 * i + 1) nan ∷ get_or m (4 * i + 2) nan ∷ get_or m (4 * i + 3) nan ∷ []) written.bars
      ∙ ap (λ (x : Float). x ∷ get_or g (4 * i + 1) nan ∷ get_or g (4 * i + 2) nan ∷ get_or g (4 * i + 3) nan ∷ []) (read_bar_x bs _ i l)
      ∙ ap (λ (x : Float). (bar_at bs i).x ∷ x ∷ get_or g (4 * i + 2) nan ∷ get_or g (4 * i + 3) nan ∷ []) (read_bar bs _ i 1 l (omega arith))
      ∙ ap (λ (x : Float). (bar_at bs i).x ∷ (bar_at bs i).y0 ∷ x ∷ get_or g (4 * i + 3) nan ∷ []) (read_bar bs _ i 2 l (omega arith))
      ∙ ap (λ (x : Float). (bar_at bs i).x ∷ (bar_at bs i).y0 ∷ (bar_at bs i).x ∷ x ∷ []) (read_bar bs _ i 3 l (omega arith))

  pub bar_at_lem : (i : ℕ) → i < length N.station → get_or exit.bars (4 * i) nan ≡ (bar_at (drawing o N).bars i).x
  bar_at_lem i h = ap (λ (l : List Float). get_or l 0 nan) (held_bar i h)

  pub held_role : (e : ℕ) → e < length N.from → get_or exit.roles e 3 ≡ role (kind N e)
  held_role e h =
      let l : e < length (drawing o N).roles = subst (λ (n : ℕ). e < n) (sym (roles_length o N)) h in
      ap (λ (m : List ℕ). get_or m e 3) written.roles ∙ read_one (drawing o N).roles _ e 3 (role Undrawn) l ∙ role_at o N e h

  pub held_end : (i r : ℕ) → i < length N.station → row_end_in o N p exit i r ≡ row_end_point o N i r
  unfolding row_end_in row_end
  held_end i r h =
      let s = station_of N.station i in
      let l : station_of N.station i < k = station_below N.station i h in
      unfold row_y in
      ap (λ (x : Float). point x (row_y o.block_options (box_at exit.boxes s) (p.unit ⊗ get_or exit.scales s nan) r)) (bar_at_lem i h)
      ∙ ap (λ (b : Box). point (bar_at (drawing o N).bars i).x (row_y o.block_options b (p.unit ⊗ get_or exit.scales s nan) r)) (held_box s l)
      ∙ ap (λ (f : Float). point (bar_at (drawing o N).bars i).x (row_y o.block_options (box_in (drawing o N).boxes s) f r)) (sym (block_at_lem s l))
