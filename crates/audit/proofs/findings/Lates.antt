-- Refusals 13 and 8 by their tests, and what a refusal leaves. Assumes nothing.
use mathlib.Core.Path.{◌≡◌, refl, sym, ap, ◌∙◌}
use mathlib.Core.Bool.{Bool, true, false, ◌&&◌, true≢false}
use mathlib.Core.List.{List}
use Prim.Native.Nat.{ℕ, ◌*◌}
use lib.Dec.{eqb}
use lib.IntN.{ℤ}
use lib.ListN.{length}
use lib.Ieee.{Float}
use borrow.Author.Tests.{eqb-true}
use Rattle.std.specs.Prelude.{Some, None, Ok, Err}
use Rattle.network.specs.declared.refusals.Refusal.{Refusal}
use Rattle.network.specs.declared.refusals.Refusal.TheVariants as Refusals
use Rattle.network.specs.Words.{station_count, bus_counts, occupied}
use Rattle.network.specs.Views.{counts_in, boxes_in}
use Rattle.runs.specs.Lists.{after}
use Rattle.audit.specs.Fit.{all_named, all_join, all_moderate, all_ordered, fits}
use Rattle.audit.specs.Scale.{ill_drawn}
use Rattle.audit.proofs.fit.Testing.{all_finite}
use Rattle.audit.specs.Stages.Sweep.{Finite}
use Rattle.audit.specs.declared.findings.answer.Figures.{Figures}
use Rattle.audit.specs.Drawn.{Drawn, Lists}
use Rattle.audit.specs.Answer.{boxes_of, stations_of, late_by, late, lists_after, Inner, Figured}

-- ---- by the tests
module _ (D : Drawn) (b : Bool) (e : b ≡ fits D.station D.from D.to D.boxes D.roles D.pieces D.branches) where
  pub late_unfit : b ≡ false → Some Refusals.NoFit ≡ late D
  unfolding late late_by
  late_unfit h = rw (sym e, h)

  module _ (t : b ≡ true) (k : ℕ) (st : List ℕ) (ke : k ≡ station_count D.station) (ce : counts_in k st ≡ bus_counts D.station)
      (i : Bool) (q : i ≡ ill_drawn (boxes_in k D.boxes) (occupied (counts_in k st)) D.pieces) where
    here : i ≡ ill_drawn (boxes_of D) (stations_of D) D.pieces
    unfolding boxes_of stations_of
    here = q ∙ ap (λ (x : List ℕ). ill_drawn (boxes_in k D.boxes) (occupied x) D.pieces) ce ∙ ap (λ (x : ℕ). ill_drawn (boxes_in x D.boxes) (stations_of D) D.pieces) ke

    pub late_ill : i ≡ true → Some Refusals.IllSized ≡ late D
    unfolding late late_by
    late_ill h = rw (sym e, t, sym here, h)

    pub late_none : i ≡ false → None ≡ late D
    unfolding late late_by
    late_none h = rw (sym e, t, sym here, h)

-- ---- what a fit drawing has
both : (a b : Bool) → true ≡ a && b → (a ≡ true) × (b ≡ true)
both true b h = (refl, sym h)
both false b h = absurd (true≢false h)

module _ (sub : List ℕ) (from to : List ℤ) (boxes : List Float) (roles : List ℕ) (pieces : List Float) (branches : List ℕ) (b : Bool)
    (e : b ≡ fits sub from to boxes roles pieces branches) (h : b ≡ true) where
  -- the tests from the third on
  abbrev third : Bool
  third = eqb (length pieces) (4 * length branches)

  abbrev later : Bool
  later = all_named (length from) branches && (all_join (length sub) from to roles && (all_moderate boxes && (all_moderate pieces && all_ordered (station_count sub) boxes)))

  parts : (length boxes ≡ 4 * station_count sub) × (length pieces ≡ 4 * length branches) × (true ≡ later)
  unfolding fits
  parts =
      let p = both (eqb (length boxes) (4 * station_count sub)) (eqb (length roles) (length from) && (third && later)) (sym h ∙ e) in
      let q = both (eqb (length roles) (length from)) (third && later) (sym p.1) in
      let r = both third later (sym q.1) in
      (eqb-true _ _ p.0, eqb-true _ _ r.0, sym r.1)

  pub fit_lengths : (length boxes ≡ 4 * station_count sub) × (length pieces ≡ 4 * length branches)
  fit_lengths = (parts.0, parts.1)

  pub fit_finite : Finite boxes
  fit_finite =
      let p = both (all_named (length from) branches) (all_join (length sub) from to roles && (all_moderate boxes && (all_moderate pieces && all_ordered (station_count sub) boxes))) parts.2 in
      let q = both (all_join (length sub) from to roles) (all_moderate boxes && (all_moderate pieces && all_ordered (station_count sub) boxes)) (sym p.1) in
      let r = both (all_moderate boxes) (all_moderate pieces && all_ordered (station_count sub) boxes) (sym q.1) in
      record { at = all_finite boxes r.0 }

-- ---- answers and lists
module _ (D : Drawn) (L : Lists) where
  pub inner_refused : (r : Refusal) → Some r ≡ late D → Inner D L (Err r) L
  unfolding lists_after after
  inner_refused r e = record { answer = rw (sym e); lists = rw (sym e) }

  pub inner_figured : (f : Figures) (L' : Lists) → None ≡ late D → Figured D L f L' → Inner D L (Ok f) L'
  inner_figured f L' e g = record { answer = rw (sym e) (ap Ok g.figures); lists = rw (sym e) g.lists }
