-- Refusals 1 to 7 by their tests, and what they promise where none applies. Assumes nothing.
use mathlib.Core.Path.{◌≡◌, refl, sym}
use mathlib.Core.Bool.{Bool, true, false}
use Prim.Native.Nat.{ℕ, ◌*◌, ◌≤◌}
use native.Mathlib.Omega.{arith}
use lib.ListN.{length}
use borrow.Author.Tests.{ltb-false}
use Rattle.network.specs.Words.{station_count}
use Rattle.std.specs.Prelude.{Option, Some, None}
use Rattle.std.specs.Option.{option_or}
use Rattle.network.specs.declared.refusals.Refusal.{Refusal}
use Rattle.network.specs.declared.refusals.Refusal.TheVariants as Refusals
use Rattle.network.specs.Refusal.{refuse, shape_refusal, too_far}
use Rattle.network.proofs.refusals.Shapes.{shape_fits, neither}
use Rattle.boxes.specs.Length.{index_length}
use Rattle.boxes.proofs.box_cells.Lengths.{index_least}
use Rattle.audit.specs.declared.findings.lengths.AuditLengths.{AuditLengths}
use Rattle.audit.specs.Drawn.{Drawn}
use Rattle.audit.specs.Answer.{too_short}
use Rattle.audit.specs.Answer.{early}

module _ (D : Drawn) (R : AuditLengths) where
  abbrev shape : Option Refusal
  shape = shape_refusal D.station D.kv D.from D.to

  abbrev short : Bool
  short = too_short (length D.station) (station_count D.station) (length D.branches) R

  pub by_shape : (r : Refusal) → Some r ≡ shape → Some r ≡ early D R
  unfolding early
  by_shape r e = rw (sym e)

  module _ (s : None ≡ shape) where
    pub by_distance : true ≡ too_far (length D.station) D.xy → Some Refusals.TooFar ≡ early D R
    unfolding early
    by_distance h = rw (sym s, sym h)

    module _ (f : false ≡ too_far (length D.station) D.xy) (k : ℕ) (e : k ≡ station_count D.station) where
      pub by_room : true ≡ too_short (length D.station) k (length D.branches) R → Some Refusals.ListTooShort ≡ early D R
      unfolding early
      by_room h = rw (sym s, sym f, sym e, sym h)

      pub by_none : false ≡ too_short (length D.station) k (length D.branches) R → None ≡ early D R
      unfolding early
      by_none h = rw (sym s, sym f, sym e, sym h)

-- ---- what they promise

passes : (s : Option Refusal) (b c : Bool) → None ≡ option_or s (refuse b (Some Refusals.TooFar) (refuse c (Some Refusals.ListTooShort) None)) → (None ≡ s) × (c ≡ false)
passes (Some r) b c h = cc
passes None true c h = cc
passes None false true h = cc
passes None false false h = (refl, refl)

long_enough : (n have : ℕ) → index_length n ≤ have → n ≤ have
long_enough n have h = omega (arith, h, index_least n)

pub record Passed (D : Drawn) (R : AuditLengths) : Type 0 where
  pub few : length D.station ≤ 4096
  pub below : station_count D.station ≤ length D.station
  pub displacement : station_count D.station ≤ R.displacement
  pub spacing : station_count D.station ≤ R.spacing
  pub relative : length D.branches ≤ R.relative
  pub stations : 2 * length D.station ≤ R.stations
  pub index : length D.station ≤ R.index
  pub spare : length D.station ≤ R.spare
  pub keys : length D.station ≤ R.keys
  pub points : 2 * length D.station ≤ R.points
  pub path : 2 * length D.station ≤ R.path

pub passed_of : (D : Drawn) (R : AuditLengths) → None ≡ early D R → Passed D R
unfolding early too_short
passed_of D R h =
    let z = passes (shape D R) (too_far (length D.station) D.xy) (short D R) h in
    let s = shape_fits _ _ _ _ z.0 in
    let a = neither _ _ z.1 in
    let b = neither _ _ a.1 in
    let c = neither _ _ b.1 in
    let d = neither _ _ c.1 in
    let e = neither _ _ d.1 in
    let f = neither _ _ e.1 in
    let g = neither _ _ f.1 in
    let i = neither _ _ g.1 in
    record {
      few = s.few;
      below = s.below;
      displacement = ltb-false _ _ a.0;
      spacing = ltb-false _ _ b.0;
      relative = ltb-false _ _ c.0;
      stations = ltb-false _ _ d.0;
      index = long_enough _ _ (ltb-false _ _ i.1);
      spare = ltb-false _ _ e.0;
      keys = ltb-false _ _ f.0;
      points = ltb-false _ _ g.0;
      path = ltb-false _ _ i.0;
    }
