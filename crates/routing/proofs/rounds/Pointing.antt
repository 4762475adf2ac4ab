-- Loops that write points or numbers from the front of a list. Assumes nothing.
use mathlib.Core.Path.{◌≡◌, sym, ap, ◌∙◌}
use mathlib.Core.List.{List, [], ◌∷◌, ◌++◌}
use Prim.Native.Nat.{ℕ, ◌+◌, ◌*◌, ◌<◌}
use native.Mathlib.Numerals.{add-one}
use lib.ListN.{length, set}
use lib.Ieee.{Float}
use Rattle.numbers.specs.Table.{table}
use Rattle.numbers.proofs.order.Tables.{table_zero, table_suc}
use Rattle.plane.specs.declared.geometry.Point.{Point}
use Rattle.network.specs.Views.{points_in}
use Rattle.channels.proofs.grouping.Tabling.{Tabled, table_start, table_step, table_end}
use Rattle.network.proofs.Views.{put_point, points_zero, points_push}

module _ (f : ℕ → Point) where
  pub points_start : (l : List Float) → points_in 0 l ≡ table f 0
  points_start l = points_zero l ∙ sym (table_zero f)

  pub points_step : (l : List Float) (x : ℕ) (p : Point) → 2 * x + 1 < length l → p ≡ f x → points_in x l ≡ table f x → points_in (x + 1) (put_point l x p.x p.y) ≡ table f (x + 1)
  points_step l x p h e r =
      ap (λ (k : ℕ). points_in k (put_point l x p.x p.y)) (add-one x)
      ∙ points_push x l p.x p.y h
      ∙ ap (λ (ps : List Point). ps ++ (p ∷ [])) r
      ∙ ap (λ (v : Point). table f x ++ (v ∷ [])) e
      ∙ sym (table_suc f x)
      ∙ ap (table f) (sym (add-one x))

pub ruleset pointing = (points_start, points_step)

-- numbers, after i of them
module _ (f : ℕ → Float) (d : List Float) where
  unfoldable pub TabledTo : List Float → ℕ → Type 0
  TabledTo now i = Tabled f d now i

  pub tabled_none : TabledTo d 0
  unfolding TabledTo
  tabled_none = table_start f d

  pub tabled_more : (now : List Float) (i : ℕ) (v : Float) → i < length d → v ≡ f i → TabledTo now i → TabledTo (set now i v) (i + 1)
  unfolding TabledTo
  tabled_more now i v h e r = table_step f d now i v h e r

  pub tabled_all : (now : List Float) (n : ℕ) → n ≡ length d → TabledTo now n → now ≡ table f n
  unfolding TabledTo
  tabled_all now n e r = table_end f d now n e r ∙ ap (table f) (sym e)

pub ruleset tabled = (tabled_none, tabled_more, tabled_all)
