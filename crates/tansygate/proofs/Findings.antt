-- The lists after an audit with lists of zeros that accepts, cut to its figures, are the definition's. Assumes nothing.
use mathlib.Core.Path.{◌≡◌, refl, sym, ap, ◌∙◌}
use mathlib.Core.List.{List, [], ◌∷◌}
use Prim.Native.Nat.{ℕ, suc, min}
use lib.ListN.{length}
use Rattle.std.specs.Vec.{with_items}
use Rattle.std.proofs.lemmas.List.{with_items_is}
use Rattle.std.specs.Prelude.{Float, Option, Some, None, Result, Ok, Err}
use Rattle.plane.specs.declared.geometry.Point.{Point}
use Rattle.plane.specs.declared.geometry.Box.{Box}
use Rattle.network.specs.declared.refusals.Refusal.{Refusal}
use Rattle.network.specs.Words.{station_count}
use Rattle.network.specs.Seed.{seeds}
use Rattle.network.proofs.refusals.Unless.{accepted}
use Rattle.stations.specs.Unit.{coordinates}
use Rattle.runs.specs.Lists.{after}
use Rattle.audit.specs.declared.findings.answer.Figures.{Figures}
use Rattle.drawing.specs.Network as Plotted
use Rattle.audit.specs.Drawn.{Drawn, drawn, Lists, Work, room_of}
use Rattle.audit.specs.Figure.{displacements, spacings_from, spacings, middles}
use Rattle.audit.specs.Relative.{relatives}
use Rattle.audit.specs.Answer.{early, late, boxes_of, stations_of, lists_of, lists_after, figures_of, Call, call, call_late, call_early, audit_of, Answered}
use Rattle.tansygate.specs.declared.audits.Findings.{Findings}
use Rattle.tansygate.specs.Audited.{drawn_of, figures_in, lists_of_three, lent_figures, lent_store, cut_to, called, IsAudited, IsRefused}
use Rattle.tansygate.proofs.Fronts.{front}
use Rattle.tansygate.proofs.LongAudit.{long_enough}

-- ---- how many figures there are
displacements_length : (seeds : List Point) (bs : List Box) (ss : List ℕ) → length (displacements seeds bs ss) ≡ length ss
unfolding displacements
displacements_length seeds bs [] = refl
displacements_length seeds bs (s ∷ ss) = ap (λ (n : ℕ). suc n) (displacements_length seeds bs ss)

spacings_length : (ps : List Float) (n : ℕ) (bs : List Box) (i : ℕ) (ss : List ℕ) → length (spacings_from ps n bs i ss) ≡ length ss
unfolding spacings_from
spacings_length ps n bs i [] = refl
spacings_length ps n bs i (s ∷ ss) = ap (λ (n : ℕ). suc n) (spacings_length ps n bs (suc i) ss)

-- ---- an audit that accepts
module _ (D : Drawn) (L : Lists) (W : Work) where
  by_early : (x : Option Refusal) (f : Figures) → (call_early x D L W).answer ≡ Ok f
      → ((call_early x D L W).lists ≡ lists_after None (lists_of D) L) × (f ≡ figures_of D)
  unfolding call_early call_late
  by_early None f e =
      let h = accepted (late D) f (figures_of D) (sym e) in
      (ap (λ (r : Option Refusal). lists_after r (lists_of D) L) (sym h.0), h.1)
  by_early (Some r) f e = cc

  judged : (f : Figures) → (audit_of D L W).answer ≡ Ok f
      → ((audit_of D L W).lists ≡ lists_after None (lists_of D) L) × (f ≡ figures_of D)
  unfolding audit_of
  judged f e = by_early (early D (room_of L W)) f e

  fronts : cut_to (figures_of D).stations (figures_of D).relative (lists_after None (lists_of D) L) ≡ lists_of D
  unfolding lists_after lists_of after figures_of spacings
  fronts =
      rw (
        front (length (stations_of D)) _ L.displacement (displacements_length (seeds D.station D.xy) (boxes_of D) (stations_of D)),
        front (length (stations_of D)) _ L.spacing (spacings_length (coordinates (middles (boxes_of D)) (stations_of D)) (length (stations_of D)) (boxes_of D) 0 (stations_of D)),
        front _ (relatives D.roles D.pieces D.branches) L.relative refl,
      )

-- ---- what the call gives, by what the lists held and hold
pub laid_by : (D : Drawn) (L L1 L2 : Lists) (W W1 : Work) (a : Result Figures Refusal)
    → Answered D L W (call a L1 W1) → L2 ≡ L1 → (a ≡ (audit_of D L W).answer) × (L2 ≡ (audit_of D L W).lists)
laid_by D L L1 L2 W W1 a A f = (ap (λ (c : Call). c.answer) A.is, f ∙ ap (λ (c : Call). c.lists) A.is)

pub laid_over : (D : Drawn) (L L1 L2 L3 : Lists) (W : Work) (a : Result Figures Refusal)
    → a ≡ (audit_of D L1 W).answer → L2 ≡ (audit_of D L1 W).lists → L1 ≡ L → L3 ≡ L2
    → (a ≡ (audit_of D L W).answer) × (L3 ≡ (audit_of D L W).lists)
laid_over D L L1 L2 L3 W a e f l g =
    let q : audit_of D L1 W ≡ audit_of D L W = rw l in (e ∙ ap (λ (c : Call). c.answer) q, g ∙ f ∙ ap (λ (c : Call). c.lists) q)

-- `Vec`s that hold what their slices were left with
pub lists_held : (l : Findings) (d s r : List Float) → length d ≡ l.displacement.len → length s ≡ l.spacing.len → length r ≡ l.relative.len
    → figures_in (record { displacement = with_items l.displacement d; spacing = with_items l.spacing s; relative = with_items l.relative r }) ≡ lists_of_three d s r
lists_held l d s r e0 e1 e2 = rw (with_items_is l.displacement d e0, with_items_is l.spacing s e1, with_items_is l.relative r e2)

pub same_call : (D : Drawn) (L : Lists) (W V : Work) → W ≡ V → audit_of D L W ≡ audit_of D L V
same_call D L W V w = rw w

-- ---- what `audit` answers
pub same_drawn : (N : Plotted.Network) (H : Plotted.Lists) (b : List Float) (r : List ℕ) (q : List Float) (e : List ℕ)
    → b ≡ H.boxes → r ≡ H.roles → q ≡ H.pieces → e ≡ H.branches → drawn N.station N.kv N.from N.to N.xy b r q e ≡ drawn_of N H
same_drawn N H b r q e eb er eq ee = rw (eb, er, eq, ee)

same_called : (D G : Drawn) (L : Lists) (W : Work) (n k p : ℕ) → G ≡ D → L ≡ lent_figures k p → W ≡ lent_store n
    → n ≡ min (length D.station) 4096 → k ≡ min (station_count D.station) 4096 → p ≡ length D.branches → audit_of G L W ≡ called D
same_called D G L W n k p g l w en ek ep = rw (g, l, w, en, ek, ep)

pub audited_ok : (D G : Drawn) (L M : Lists) (W : Work) (a : Result Figures Refusal) (f : Figures) (l : Findings) (n k p : ℕ)
    → G ≡ D → a ≡ (audit_of G L W).answer → M ≡ (audit_of G L W).lists → a ≡ Ok f → figures_in l ≡ cut_to f.stations f.relative M
    → L ≡ lent_figures k p → W ≡ lent_store n → n ≡ min (length D.station) 4096 → k ≡ min (station_count D.station) 4096 → p ≡ length D.branches
    → IsAudited D (record { figures = f; lists = l })
audited_ok D G L M W a f l n k p g A m e z el w en ek ep =
    let q : audit_of G L W ≡ called D = same_called D G L W n k p g el w en ek ep in
    let s : audit_of G L W ≡ audit_of D L W = ap (λ (x : Drawn). audit_of x L W) g in
    let h = judged D L W f (sym (ap (λ (y : Call). y.answer) s) ∙ sym A ∙ e) in
    record {
      answer = sym (ap (λ (y : Call). y.answer) q) ∙ sym A ∙ e;
      figures = h.1;
      lists = z ∙ ap (λ (x : Lists). cut_to f.stations f.relative x) (m ∙ ap (λ (y : Call). y.lists) s ∙ h.0)
          ∙ ap (λ (y : Figures). cut_to y.stations y.relative (lists_after None (lists_of D) L)) h.1 ∙ fronts D L W;
    }

pub audited_err : (D G : Drawn) (L : Lists) (W : Work) (a : Result Figures Refusal) (f : Refusal) (n k p : ℕ)
    → G ≡ D → a ≡ (audit_of G L W).answer → a ≡ Err f
    → L ≡ lent_figures k p → W ≡ lent_store n → n ≡ min (length D.station) 4096 → k ≡ min (station_count D.station) 4096 → p ≡ length D.branches
    → IsRefused D f
audited_err D G L W a f n k p g A e el w en ek ep =
    let q : audit_of G L W ≡ called D = same_called D G L W n k p g el w en ek ep in
    let h : (called D).answer ≡ Err f = sym (ap (λ (y : Call). y.answer) q) ∙ sym A ∙ e in
    record { answer = h; long_enough = long_enough D f h }
