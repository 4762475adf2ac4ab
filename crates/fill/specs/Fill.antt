-- The largest fill at which a network is drawn and every box finds a free place (docs/RULES.md, 'Largest fill').
-- Definitions only.
use Rattle.std.specs.Prelude.{ℕ, zero, suc, Bool, ◌&&◌, Option, Some, None, Result, Ok, Err, is_ok}
use Rattle.std.specs.Float.{binary64}
use Rattle.std.specs.Float.Ieee.{of_bits}
use Rattle.numbers.specs.Ops.{num, ◌⊘◌}
use Rattle.numbers.specs.Order.{pick}
use Rattle.network.specs.declared.options.Options.{Options}
use Rattle.network.specs.declared.refusals.Refusal.{Refusal}
use Rattle.network.specs.declared.refusals.Refusal.TheVariants.{NoFill}
use Rattle.drawing.specs.declared.answer.Plot.{Plot}
use Rattle.drawing.specs.Network.{Network, Lists, Work, Crossings}
use Rattle.drawing.specs.Drawing.{all_free}
use Rattle.drawing.specs.Answer.{room_of, early, zeroed_work, zeroed_crossings, layout_of}
use Rattle.fill.specs.declared.answer.Largest.{Largest}

-- Options with fill k/64 and straight lines; the given fill and iterations aren't looked at.
unfoldable pub at_fill : Options → ℕ → Options
at_fill O k =
    record {
      fill = num k ⊘ of_bits binary64 0x4050_0000_0000_0000;
      tier_radius = O.tier_radius;
      tier_count_1 = O.tier_count_1;
      tier_count_2 = O.tier_count_2;
      tier_scale_1 = O.tier_scale_1;
      tier_scale_2 = O.tier_scale_2;
      search = O.search;
      route_iterations = 0;
      block_options = O.block_options;
    }

-- Fill k/64 serves: layout draws the network at it, and every box finds a free place.
unfoldable pub serves : Options → Network → Lists → Work → Crossings → ℕ → Bool
serves O N L W X k = is_ok (layout_of (at_fill O k) N L W X).answer && all_free (at_fill O k) N

-- the greatest of 1 to n with a property, none where there is none
unfoldable pub greatest : (ℕ → Bool) → ℕ → Option ℕ
greatest p zero = None
greatest p (suc k) = pick (p (suc k)) (Some (suc k)) (greatest p k)

-- ---- the whole of a call: its answer, and the lists after it
pub record FillCall : Type 0 where
  pub answer : Result Largest Refusal
  pub lists : Lists
  pub work : Work
  pub crossings : Crossings

abbrev pub fill_call : Result Largest Refusal → Lists → Work → Crossings → FillCall
fill_call a l w x = record { answer = a; lists = l; work = w; crossings = x }

-- a drawing's answer, with its fill
abbrev pub with_fill : ℕ → Result Plot Refusal → Result Largest Refusal
with_fill k (Ok p) = Ok (record { sixty_fourths = k; plot = p })
with_fill k (Err r) = Err r

-- where the input has passed: what layout gives at the largest fill that serves, or refusal 18 where none does
unfoldable pub fill_late : Option ℕ → Options → Network → Lists → Work → Crossings → FillCall
fill_late None O N L W X = fill_call (Err NoFill) L (zeroed_work W) (zeroed_crossings X)
fill_late (Some k) O N L W X =
    let C = layout_of (at_fill O k) N L W X in fill_call (with_fill k C.answer) C.lists C.work C.crossings

-- by the early refusal: 1 to 7 and 15 leave every list unchanged
unfoldable pub fill_early : Option Refusal → Options → Network → Lists → Work → Crossings → FillCall
fill_early None O N L W X = fill_late (greatest (serves O N L W X) 64) O N L W X
fill_early (Some r) O N L W X = fill_call (Err r) L W X

unfoldable pub largest_fill_of : Options → Network → Lists → Work → Crossings → FillCall
largest_fill_of O N L W X = fill_early (early (at_fill O 64) N (room_of L W X)) O N L W X
