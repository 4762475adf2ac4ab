-- The four numbers of each bar and the two of each position, by the lists after a call that draws. Assumes nothing.
use Prim.Native.Nat.{ℕ, ◌+◌, ◌*◌, ◌≤◌, ◌<◌}
use mathlib.Core.Path.{◌≡◌, refl, sym, ap, ap₂, subst, ◌∙◌}
use mathlib.Core.Bool.{Bool, true, false}
use mathlib.Core.List.{List, [], ◌∷◌}
use native.Mathlib.Omega.{arith}
use lib.ListN.{length, get_or}
use lib.Ieee.{Float, lt, nan}
use Rattle.numbers.specs.Ops.{f2, ◌⊕◌, ◌⊖◌, ◌⊗◌, ◌⊘◌}
use Rattle.numbers.specs.Order.{pick}
use Rattle.numbers.proofs.order.Tables.{get_d_table}
use Rattle.plane.specs.declared.geometry.Box.{Box}
use Rattle.plane.specs.Plane.{point, box_at, box_in}
use Rattle.network.specs.declared.options.Options.{Options}
use Rattle.network.specs.declared.words.Kind.{Kind}
use Rattle.network.specs.Words.{station_of}
use Rattle.network.proofs.Stations.{station_below}
use Rattle.stations.specs.Column.{column, columns}
use Rattle.stations.specs.Row.{from_rows, to_rows}
use Rattle.stations.proofs.columns.Falls.{column_count}
use Rattle.stations.specs.declared.bars.Bar.{Bar}
use Rattle.stations.specs.Bar as BarSpec
use Rattle.stations.specs.Bar.{Span, bare, rows, bar_x, row_y, bar_ends, lengthened, bar_for, bar_at, block_at, position, span_to, spans}
use Rattle.stations.proofs.bars.SpanLaw as SpanLaw
use Rattle.stations.proofs.bars.SpanLaw.{SpanIs, span_law}
use Rattle.runs.specs.Lists.{bar_numbers}
use Rattle.drawing.specs.declared.answer.Plot.{Plot}
use Rattle.std.specs.Prelude.{Ok}
use Rattle.drawing.specs.Network.{Network, Lists, Work, Crossings}
use Rattle.drawing.specs.Drawing.{drawing, planned}
use Rattle.drawing.specs.Answer.{layout_of}
use Rattle.wall.specs.Wall.{all_kinds, Patterns, column_of, RowAt, block_in, bar_from, bar_in, position_in, Bars}
use Rattle.wall.proofs.Opened.{seeds, blocks, kinds_length, kind_at_lem}
use Rattle.wall.proofs.Parts.{held_box, block_at_lem, held_bar, held_position}

-- a bar as four numbers
lengthened_is : (o : Options) (f : Float) (b : Bar) → bar_numbers (lengthened o.block_options f b) ≡ bar_from o f b.x b.y0 b.y1
unfolding lengthened bar_from
lengthened_is o f b = go (lt (b.y1 ⊖ b.y0) (o.block_options.min_bar ⊗ f))
  where
    m : Float
    m = (b.y0 ⊕ b.y1) ⊘ f2

    longer : Bar
    longer = record { x = b.x; y0 = m ⊖ o.block_options.min_bar ⊗ f ⊘ f2; y1 = m ⊕ o.block_options.min_bar ⊗ f ⊘ f2 }

    go : (c : Bool) → bar_numbers (pick c longer b) ≡ pick c (b.x ∷ (m ⊖ o.block_options.min_bar ⊗ f ⊘ f2) ∷ b.x ∷ (m ⊕ o.block_options.min_bar ⊗ f ⊘ f2) ∷ []) (b.x ∷ b.y0 ∷ b.x ∷ b.y1 ∷ [])
    go true = refl
    go false = refl

module _ (o : Options) (N : Network) (L : Lists) (W : Work) (X : Crossings) (p : Plot) (drawn : (layout_of o N L W X).answer ≡ Ok p) where
  abbrev exit : Lists
  exit = (layout_of o N L W X).lists

  abbrev station : ℕ → ℕ
  station i = station_of N.station i

  abbrev span : ℕ → Span
  span i = span_to (all_kinds N) (from_rows N.station (seeds o N) (all_kinds N)) (to_rows N.station (seeds o N) (all_kinds N)) i (length (all_kinds N))

  column_is : (i : ℕ) → i < length N.station → get_or (columns N.station N.kv) i 0 ≡ column N.station N.kv i
  unfolding columns
  column_is i h = get_d_table (column N.station N.kv) (length N.station) i 0 h

  abbrev all_spans : List Span
  all_spans = spans N.station (all_kinds N) (from_rows N.station (seeds o N) (all_kinds N)) (to_rows N.station (seeds o N) (all_kinds N))

  span_is : (i : ℕ) → i < length N.station → get_or all_spans i bare ≡ span i
  unfolding spans
  span_is i h = get_d_table (λ j. span j) (length N.station) i bare h

  bar_is : (i : ℕ) → i < length N.station
      → bar_at (drawing o N).bars i ≡ bar_for o.block_options (box_in (drawing o N).boxes (station i)) (block_at (blocks o N) (station i)) (column N.station N.kv i) (span i)
  unfolding drawing planned BarSpec.bars
  bar_is i h =
      get_d_table _ (length N.station) i _ h
      ∙ ap (λ (c : ℕ). bar_for o.block_options (box_in (drawing o N).boxes (station i)) (block_at (blocks o N) (station i)) c (get_or all_spans i bare)) (column_is i h)
      ∙ ap (bar_for o.block_options (box_in (drawing o N).boxes (station i)) (block_at (blocks o N) (station i)) (column N.station N.kv i)) (span_is i h)

  -- a bus's bar, by its station's box and block as the lists have them, its column and its rows
  bar_by : Patterns N → (i : ℕ) → i < length N.station → (s : Span) → span i ≡ s
      → bar_in exit i ≡ bar_numbers (bar_for o.block_options (box_at exit.boxes (station i)) (block_in p exit (station i)) (column_of N i) s)
  bar_by P i h s e =
      let l : station i < Rattle.network.specs.Words.station_count N.station = station_below N.station i h in
      held_bar o N L W X p drawn i h ∙ ap (λ (b : Bar). bar_numbers b) (bar_is i h)
      ∙ ap (λ (b : Box). bar_numbers (bar_for o.block_options b (block_at (blocks o N) (station i)) (column N.station N.kv i) (span i))) (sym (held_box o N L W X p drawn (station i) l))
      ∙ ap (λ (f : Float). bar_numbers (bar_for o.block_options (box_at exit.boxes (station i)) f (column N.station N.kv i) (span i))) (block_at_lem o N L W X p drawn (station i) l)
      ∙ ap (λ (c : ℕ). bar_numbers (bar_for o.block_options (box_at exit.boxes (station i)) (block_in p exit (station i)) c (span i))) (column_count N.station N.kv P i)
      ∙ ap (λ (z : Span). bar_numbers (bar_for o.block_options (box_at exit.boxes (station i)) (block_in p exit (station i)) (column_of N i) z)) e

  numbers : (box : Box) (f : Float) (c : ℕ) (s : Span) → bar_numbers (bar_for o.block_options box f c s) ≡ bar_from o f (bar_ends o.block_options box f (bar_x o.block_options box f c) s).x (bar_ends o.block_options box f (bar_x o.block_options box f c) s).y0 (bar_ends o.block_options box f (bar_x o.block_options box f c) s).y1
  unfolding bar_for
  numbers box f c s = lengthened_is o f (bar_ends o.block_options box f (bar_x o.block_options box f c) s)

  -- ---- a bus's rows
  abbrev Row : ℕ → ℕ → ℕ → Type 0
  Row i e r = SpanLaw.RowAt N.station (seeds o N) (all_kinds N) i e r

  to_row : (i r : ℕ) → SpanLaw.Some (Row i) (length (all_kinds N)) r → RowAt N i r
  to_row i r (e, h, q) =
      let l : e < length N.from = subst (λ (n : ℕ). e < n) (kinds_length o N) h in
      (e, l, q.0, q.1, subst (λ (c : Kind). SpanLaw.Live c q.0 q.1) (kind_at_lem o N e l) q.2, q.3, q.4)

  of_row : (i r : ℕ) → RowAt N i r → SpanLaw.Some (Row i) (length (all_kinds N)) r
  of_row i r q =
      (q.0, subst (λ (n : ℕ). q.0 < n) (sym (kinds_length o N)) q.1, (q.2, q.3, subst (λ (c : Kind). SpanLaw.Live c q.2 q.3) (sym (kind_at_lem o N q.0 q.1)) q.4, q.5, q.6))

  none_is : (i : ℕ) → ((r : ℕ) → RowAt N i r → ⊥) → (s : Span) → SpanIs (Row i) (length (all_kinds N)) s → s ≡ bare
  none_is i n bare h = refl
  none_is i n (rows a b) h = absurd (n a (to_row i a h.0))

  rows_are : (i a b : ℕ) → RowAt N i a → RowAt N i b → ((r : ℕ) → RowAt N i r → (a ≤ r) × (r ≤ b)) → (s : Span) → SpanIs (Row i) (length (all_kinds N)) s → s ≡ rows a b
  rows_are i a b f g n bare h = let q = of_row i a f in absurd (h q.0 a q.1 q.2)
  rows_are i a b f g n (rows c d) h =
      let u = n c (to_row i c h.0) in
      let w = n d (to_row i d h.1) in
      let x = of_row i a f in
      let y = of_row i b g in
      let v = h.2 x.0 a x.1 x.2 in
      let z = h.2 y.0 b y.1 y.2 in
      let p₁ : c ≡ a = omega (arith, u.0, v.0) in
      let p₂ : d ≡ b = omega (arith, w.1, z.1) in
      ap₂ rows p₁ p₂

  spanning : (i : ℕ) → SpanIs (Row i) (length (all_kinds N)) (span i)
  spanning i = span_law N.station (seeds o N) (all_kinds N) i

  pub bars_of : Bars o N exit p
  unfolding bar_ends bar_x row_y
  bars_of =
      record {
        bare = λ P i h n. bar_by P i h bare (none_is i n (span i) (spanning i)) ∙ numbers (box_at exit.boxes (station i)) (block_in p exit (station i)) (column_of N i) bare;
        spanned = λ P i a b h f g n.
            bar_by P i h (rows a b) (rows_are i a b f g n (span i) (spanning i)) ∙ numbers (box_at exit.boxes (station i)) (block_in p exit (station i)) (column_of N i) (rows a b);
        positions = λ i h. positions-are i h;
      }
    where
      positions-are : (i : ℕ) → i < length N.station
          → position_in exit i ≡ point (get_or exit.bars (4 * i) nan) ((get_or exit.bars (4 * i + 1) nan ⊕ get_or exit.bars (4 * i + 3) nan) ⊘ f2)
      positions-are i h =
          held_position o N L W X p drawn i h
          ∙ unfold position in sym (ap (λ (l : List Float). point (get_or l 0 nan) ((get_or l 1 nan ⊕ get_or l 3 nan) ⊘ f2)) (held_bar o N L W X p drawn i h))
