-- Every half-edge of a line's walk is one that the line crosses. Assumes nothing.
use mathlib.Core.Path.{◌≡◌, refl}
use mathlib.Core.Bool.{Bool, true, false, cond, ◌||◌}
use mathlib.Core.List.{List, [], ◌∷◌}
use Prim.Native.Nat.{ℕ, zero, suc}
use lib.Dec.{eqb}
use lib.ListN.{length}
use Rattle.numbers.proofs.order.Laws.{All}
use Rattle.plane.specs.declared.geometry.Point.{Point}
use Rattle.network.specs.Mesh.{next, no_twin, at}
use Rattle.channels.specs.declared.walk.Step.{Step}
use Rattle.channels.specs.declared.walk.Step.TheVariants.{Out, Home, Lost}
use Rattle.channels.specs.Round.{around}
use Rattle.channels.specs.Trace.{crosses_half_edge, leave, sought, started, out_by, pass_on, after, walk, traced}

module _ (corners twins : List ℕ) (centre : ℕ → Point) (va vb : ℕ) where
  -- where the walk goes on, it goes over a half-edge that the line crosses
  abbrev Over : Step → Type 0
  Over (Out h) = crosses_half_edge corners centre va vb h ≡ true
  Over Home = Unit {0}
  Over Lost = Unit {0}

  home_over : (b : Bool) (x : Step) → Over x → Over (cond b Home x)
  home_over true x h = tt
  home_over false x h = h

  out_over : (h : ℕ) (x : Step) → Over x → Over (cond (crosses_half_edge corners centre va vb h) (Out h) x)
  out_over h x k = go (crosses_half_edge corners centre va vb h) refl
    where
      go : (b : Bool) → crosses_half_edge corners centre va vb h ≡ b → Over (cond b (Out h) x)
      go true e = e
      go false e = k

  after_over : (h : ℕ) → Over (after corners twins centre va vb h)
  unfolding after pass_on out_by
  after_over h =
      let g = at twins h in
      home_over (eqb g no_twin) (pass_on corners centre va vb g)
      (home_over (eqb (at corners (next (next g))) vb) (out_by corners centre va vb (next g) (next (next g)))
      (out_over (next g) (cond (crosses_half_edge corners centre va vb (next (next g))) (Out (next (next g))) Lost) (out_over (next (next g)) Lost tt)))

  leave_over : (h : ℕ) → Over (leave corners centre va vb h)
  unfolding leave
  leave_over h =
      home_over (eqb (at corners (next h)) vb || eqb (at corners (next (next h))) vb) (cond (crosses_half_edge corners centre va vb (next h)) (Out (next h)) Lost)
      (out_over (next h) Lost tt)

  sought_over : (hs : List ℕ) → Over (sought corners centre va vb hs)
  unfolding sought
  sought_over [] = tt
  sought_over (h ∷ hs) = go (leave corners centre va vb h) (leave_over h) (sought_over hs)
    where
      go : (x : Step) → Over x → Over (sought corners centre va vb hs) → Over (elim x [ Out e ↦ Out e | Home ↦ Home | Lost ↦ sought corners centre va vb hs ])
      go (Out e) i j = i
      go Home i j = tt
      go Lost i j = j

  walk_over : (n : ℕ) (x : Step) → Over x → All (λ h. crosses_half_edge corners centre va vb h ≡ true) (walk corners twins centre va vb n x).half_edges
  unfolding walk
  walk_over zero x i = tt
  walk_over (suc n) (Out h) i = (i, walk_over n (after corners twins centre va vb h) (after_over h))
  walk_over (suc n) Home i = tt
  walk_over (suc n) Lost i = tt

  pub traced_over : All (λ h. crosses_half_edge corners centre va vb h ≡ true) (traced corners twins centre va vb).half_edges
  unfolding traced started
  traced_over = walk_over (length corners) (started corners centre va vb) (sought_over (around corners va))
