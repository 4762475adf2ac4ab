-- The figures of a drawing from its stages. Assumes nothing.
use mathlib.Core.Path.{◌≡◌, ap, ◌∙◌}
use mathlib.Core.List.{List}
use Prim.Native.Nat.{ℕ, ◌*◌}
use lib.ListN.{length, take}
use lib.Ieee.{Float}
use Rattle.plane.specs.declared.geometry.Point.{Point}
use Rattle.plane.specs.declared.geometry.Box.{Box}
use Rattle.network.specs.Words.{station_count, bus_counts, occupied}
use Rattle.network.specs.Seed.{seeds}
use Rattle.network.specs.Views.{counts_in, points_in, boxes_in}
use Rattle.stations.specs.Unit.{coordinates}
use Rattle.numbers.specs.Over.{over}
use Rattle.std.specs.Prelude.{None}
use Rattle.runs.specs.Lists.{after}
use Rattle.audit.specs.Figure.{middles, displacements, spacings_from, spacings}
use Rattle.audit.specs.Overlaps.{overlaps}
use Rattle.audit.specs.Relative.{relatives}
use Rattle.audit.proofs.figures.Stationwise.{spacings_is}
use Rattle.audit.specs.declared.findings.answer.Figures.{Figures}
use Rattle.audit.specs.Through.{through}
use Rattle.audit.specs.Drawn.{Drawn}
use Rattle.audit.proofs.findings.Lent.{lists}
use Rattle.audit.specs.Answer.{boxes_of, stations_of, figures_of, lists_of, lists_after, Figured}

-- ---- the figures
module _ (D : Drawn) (k : ℕ) (st : List ℕ) (ke : k ≡ station_count D.station) (ce : counts_in k st ≡ bus_counts D.station) where
  abbrev bs : List Box
  bs = boxes_in k D.boxes

  abbrev ss : List ℕ
  ss = occupied (counts_in k st)

  boxes_here : bs ≡ boxes_of D
  unfolding boxes_of
  boxes_here = ap (λ (x : ℕ). boxes_in x D.boxes) ke

  stations_here : ss ≡ stations_of D
  unfolding stations_of
  stations_here = ap occupied ce

  -- a figure of these boxes and stations is one of the drawing
  moved : {A : Type 0} (f : List Box → List ℕ → A) → f bs ss ≡ f (boxes_of D) (stations_of D)
  moved f = ap (λ (x : List Box). f x ss) boxes_here ∙ ap (f (boxes_of D)) stations_here

  pub displaced : (d d' points : List Float) → points_in k points ≡ seeds D.station D.xy → d' ≡ over (displacements (points_in k points) bs ss) d
      → d' ≡ over (displacements (seeds D.station D.xy) (boxes_of D) (stations_of D)) d
  displaced d d' points e q =
      q ∙ ap (λ (x : List Point). over (displacements x bs ss) d) e ∙ ap (λ (x : List Float). over x d) (moved (displacements (seeds D.station D.xy)))

  pub spaced : (s s' points path : List Float) (n : ℕ) → points_in k points ≡ middles bs → take (2 * n) path ≡ coordinates (points_in k points) ss → n ≡ length ss
      → s' ≡ over (spacings_from path n bs 0 ss) s → s' ≡ over (spacings (boxes_of D) (stations_of D)) s
  spaced s s' points path n m t e q =
      q ∙ ap (λ (x : List Float). over x s) (spacings_is path n bs ss (points_in k points) e m t ∙ moved spacings)

  numbers : (n o t l : ℕ) → n ≡ length ss → o ≡ overlaps bs ss → t ≡ through bs ss D.station D.from D.to D.roles D.pieces D.branches
      → l ≡ length (relatives D.roles D.pieces D.branches) → ◌≡◌ {A = Figures} (record { stations = n; overlaps = o; through = t; relative = l }) (figures_of D)
  unfolding figures_of
  numbers n o t l ne oe te le =
      let a : n ≡ length (stations_of D) = ne ∙ ap length stations_here in
      let b : o ≡ overlaps (boxes_of D) (stations_of D) = oe ∙ moved overlaps in
      let c : t ≡ through (boxes_of D) (stations_of D) D.station D.from D.to D.roles D.pieces D.branches =
      te ∙ moved (λ x y. through x y D.station D.from D.to D.roles D.pieces D.branches) in
      rw (a, b, c, le)

  written : (d d' s s' r r' : List Float) → d' ≡ over (displacements (seeds D.station D.xy) (boxes_of D) (stations_of D)) d
      → s' ≡ over (spacings (boxes_of D) (stations_of D)) s → r' ≡ over (relatives D.roles D.pieces D.branches) r
      → lists d' s' r' ≡ lists_after None (lists_of D) (lists d s r)
  unfolding lists_after lists_of after
  written d d' s s' r r' de se re = rw (de, se, re)

  pub figured : (d d' s s' r r' : List Float) (n o t l : ℕ)
      → d' ≡ over (displacements (seeds D.station D.xy) (boxes_of D) (stations_of D)) d → s' ≡ over (spacings (boxes_of D) (stations_of D)) s
      → n ≡ length ss → o ≡ overlaps bs ss → t ≡ through bs ss D.station D.from D.to D.roles D.pieces D.branches
      → r' ≡ over (relatives D.roles D.pieces D.branches) r → l ≡ length (relatives D.roles D.pieces D.branches)
      → Figured D (lists d s r) (record { stations = n; overlaps = o; through = t; relative = l }) (lists d' s' r')
  figured d d' s s' r r' n o t l de se ne oe te re le =
      record { figures = numbers n o t l ne oe te le; lists = written d d' s s' r r' de se re }
