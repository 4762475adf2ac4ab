-- An audit that accepts a drawing answers with its figures; where no two occupied stations' boxes overlap it counts 0 overlaps. Assumes nothing.
use mathlib.Core.Path.{◌≡◌, sym, ap, ◌∙◌}
use mathlib.Core.Logic.{◌≢◌}
use mathlib.Core.Bool.{true, false}
use Prim.Native.Nat.{ℕ}
use Rattle.plane.specs.Plane.{shrunk, box_in}
use Rattle.plane.specs.Overlap.{overlap}
use Rattle.std.specs.Prelude.{Option, Some, None, Ok}
use Rattle.network.specs.declared.refusals.Refusal.{Refusal}
use Rattle.network.proofs.refusals.Unless as Unless
use Rattle.network.specs.Words.{bus_counts, is_occupied}
use Rattle.audit.proofs.overlaps.NoOverlapping.{no_overlapping}
use Rattle.audit.specs.declared.findings.answer.Figures.{Figures}
use Rattle.audit.specs.Drawn.{Drawn, Lists, Work, room_of}
use Rattle.audit.specs.Answer.{early, late, boxes_of, stations_of, figures_of, call_late, call_early, audit_of}

module _ (D : Drawn) (L : Lists) (W : Work) (f : Figures) where
  by_early : (r : Option Refusal) → (call_early r D L W).answer ≡ Ok f → f ≡ figures_of D
  unfolding call_early call_late
  by_early None e = (Unless.accepted (late D) f (figures_of D) (sym e)).1
  by_early (Some r) e = cc

  -- the figures that an audit answers with
  pub accepted : (audit_of D L W).answer ≡ Ok f → f ≡ figures_of D
  unfolding audit_of
  accepted e = by_early (early D (room_of L W)) e

  pub accepted_apart : ((s t : ℕ) → s ≢ t → is_occupied (bus_counts D.station) s ≡ true → is_occupied (bus_counts D.station) t ≡ true
      → overlap (shrunk (box_in (boxes_of D) t)) (box_in (boxes_of D) s) ≡ false) → (audit_of D L W).answer ≡ Ok f → f.overlaps ≡ 0
  unfolding figures_of stations_of
  accepted_apart free e = ap (λ (g : Figures). g.overlaps) (accepted e) ∙ no_overlapping (bus_counts D.station) (boxes_of D) free
