-- What the tests on a branch's kind and on an entry's side give.
-- Assumes nothing.
use mathlib.Core.Path.{◌≡◌, sym, ap, ◌∙◌, subst}
use mathlib.Core.Bool.{Bool, true, false}
use mathlib.Core.List.{List}
use Prim.Native.Nat.{ℕ, suc, ◌+◌, ◌*◌, ◌-◌, ◌%◌, ◌<◌}
use lib.ListN.{get_or}
use lib.Ieee.{Float, nan}
use borrow.Author.Tests.{eq-eqb, ne_eqb}
use Rattle.numbers.specs.Ops.{order_key}
use Rattle.network.specs.declared.words.Kind.{Kind}
use Rattle.network.specs.declared.words.Kind.TheVariants.{Line}
use Rattle.network.specs.Words.{station_of, station_count, Safe}
use Rattle.network.specs.Seed.{place_at}
use Rattle.network.specs.Views.{points_in}
use Rattle.network.proofs.Views.{get_d_points}
use Rattle.network.proofs.Stations.{station_below}
use Rattle.plane.specs.declared.geometry.Point.{Point}
use Rattle.plane.specs.Plane.{origin}
use Rattle.stations.specs.Stages.Entry.{from_end}

-- ---- what holds at the kind and the side that the tests found
pub by_kind : {A : Type 0} (f : Bool → Kind → A) (x : ℕ) (b : Bool) (K L M : Kind) (v : A) → K ≡ M → K ≡ L → from_end x ≡ b → v ≡ f b L → v ≡ f (from_end x) M
by_kind {A} f x b K L M v e g s h = h ∙ ap (λ (t : Bool). f t L) (sym s) ∙ ap (f (from_end x)) (sym g ∙ e)

pub from_side : (x : ℕ) → x % 2 ≡ 0 → from_end x ≡ true
from_side x h = eq-eqb (x % 2) 0 h

pub to_side : (x : ℕ) → (x % 2 ≡ 0 → ⊥) → from_end x ≡ false
to_side x h = ne_eqb (x % 2) 0 h

-- ---- the buses of a line, and the seed that a line end leads to
pub line_buses : (sub : List ℕ) (K : Kind) (a b : ℕ) → Safe sub K → K ≡ Line a b → (station_of sub a < station_count sub) × (station_of sub b < station_count sub)
unfolding Safe
line_buses sub K a b h e = let g : Safe sub (Line a b) = subst (Safe sub) e h in (station_below sub a g.0, station_below sub b g.1)

pub seed_at : (places : List Float) (k s t v : ℕ) → s < k → t ≡ s → v ≡ suc (order_key (get_or places (2 * t + 1) nan)) → v ≡ suc (order_key (place_at (points_in k places) s).y)
seed_at places k s t v h e q =
    q ∙ ap (λ (i : ℕ). suc (order_key (get_or places (2 * i + 1) nan))) e ∙ ap (λ (p : Point). suc (order_key p.y)) (sym (get_d_points k s places origin h))
