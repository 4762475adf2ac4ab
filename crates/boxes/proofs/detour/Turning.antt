-- The turns of leading a path round boxes: where they begin, that each brings it on, and where they end. Assumes nothing.
use mathlib.Core.Path.{◌≡◌, refl, ◌∙◌}
use mathlib.Core.List.{List}
use Prim.Native.Nat.{ℕ, ◌+◌, ◌-◌, ◌*◌, ◌≤◌, ◌<◌}
use native.Mathlib.Omega.{arith}
use lib.ListN.{length, take}
use lib.Ieee.{Float}
use Rattle.plane.specs.declared.geometry.Point.{Point}
use Rattle.plane.specs.declared.geometry.Box.{Box}
use Rattle.plane.specs.Plane.{point_at, box_in}
use Rattle.std.specs.Prelude.{Option, Some, None}
use Rattle.boxes.specs.First.{first_hit}
use Rattle.boxes.specs.Corner.{corner}
use Rattle.boxes.specs.Detour.{detour}
use Rattle.boxes.specs.Stages.Paths.{path_in, PutIn, Led}
use Rattle.boxes.proofs.detour.Detours.{Going, led_start, turn_free, turn_put, led_spent, led_end}
use Rattle.boxes.proofs.detour.Shifting.{start_kept}

module _ (boxes : List Box) (occ : List ℕ) (clearance : Float) (a b first count : ℕ) (was : List Float) where
  -- at point i of n, with `left` points to put in, the path stands at `path`; it stood at `was`
  pub record Leading (path : List Float) (n i left : ℕ) : Type 0 where
    pub within : (i ≤ n) × (left ≤ 4)
    pub room : n + left ≤ count + 4
    pub size : length path ≡ length was
    pub before : take (2 * first) path ≡ take (2 * first) was
    pub going : Going boxes occ clearance a b (detour boxes occ clearance a b (path_in first count was)) left (path_in first i path) (path_in (first + i) (n - i) path)

  pub leading_start : Leading was count 0 4
  leading_start = record { within = (omega arith, omega arith); room = omega arith; size = refl; before = refl; going = led_start boxes occ clearance a b first count was }

  module _ (path : List Float) (n i left : ℕ) (L : Leading path n i left) where
    pub leading_spent : left ≡ 0 → Led first n (detour boxes occ clearance a b (path_in first count was)) was path
    leading_spent e = led_spent boxes occ clearance a b _ first i n left was path L.within.0 L.before L.going e

    pub leading_end : n ≤ i + 1 → Led first n (detour boxes occ clearance a b (path_in first count was)) was path
    leading_end e = led_end boxes occ clearance a b _ first i n left was path L.within.0 L.before L.going e

    module _ (some : 0 < left) (more : i + 1 < n) (p q : Point) (x : p ≡ point_at path (first + i)) (y : q ≡ point_at path (first + i + 1)) (h : Option ℕ) (e : h ≡ first_hit boxes occ p q a b) where
      not_none : left ≡ 0 → ⊥
      not_none z = omega arith

      -- the piece enters none
      pub passed : h ≡ None → Leading path n (i + 1) left
      passed z = record {
        within = (omega arith, L.within.1);
        room = L.room;
        size = L.size;
        before = L.before;
        going = turn_free boxes occ clearance a b _ first i n left path h p q more not_none x y e L.going z;
      }

      -- a point is put in beside the box that it enters
      pub put : (u : ℕ) (f : Box) (c : Point) (next : List Float) → h ≡ Some u → f ≡ box_in boxes u → c ≡ corner p q f clearance → PutIn (first + i + 1) (first + n) c path next → length next ≡ length path
          → Leading next (n + 1) i (left - 1)
      put u f c next z g k P len = record {
        within = (omega arith, omega (arith, L.within.1));
        room = omega (arith, L.room);
        size = len ∙ L.size;
        before = start_kept _ _ _ _ _ P first (omega arith) ∙ L.before;
        going = turn_put boxes occ clearance a b _ first i n left path h p q more not_none x y e L.going u c f next z g k P;
      }
