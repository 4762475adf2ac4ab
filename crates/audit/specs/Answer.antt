-- Answers of an audit: what it returns, and what each lent list holds after it. Definitions only.
use Rattle.std.specs.Prelude.{ℕ, ◌*◌, ◌≡◌, Bool, not, ◌||◌, List, ltb, length, replicate, Option, Some, None, Result}
use Rattle.std.specs.Prelude.{Err}
use Rattle.std.specs.Option.{option_or}
use Rattle.numbers.specs.Ops.{f0}
use Rattle.plane.specs.declared.geometry.Box.{Box}
use Rattle.network.specs.Words.{station_count, bus_counts, occupied}
use Rattle.network.specs.Seed.{seeds}
use Rattle.network.specs.Views.{boxes_in}
use Rattle.network.specs.declared.refusals.Refusal.{Refusal}
use Rattle.network.specs.declared.refusals.Refusal.TheVariants as Refusals
use Rattle.network.specs.Refusal.{refuse, unless, number_of, too_many, kv_unlike, to_unlike, number_too_high}
use Rattle.network.specs.Refusal.{stray_voltage, shape_refusal, too_far}
use Rattle.boxes.specs.Length.{index_length}
use Rattle.runs.specs.Lists.{after}
use Rattle.audit.specs.Fit.{fits}
use Rattle.audit.specs.Scale.{ill_drawn}
use Rattle.audit.specs.Figure.{displacements, spacings}
use Rattle.audit.specs.Overlaps.{overlaps}
use Rattle.audit.specs.Relative.{relatives}
use Rattle.audit.specs.declared.findings.lengths.AuditLengths.{AuditLengths}
use Rattle.audit.specs.declared.findings.answer.Figures.{Figures}
use Rattle.audit.specs.Through.{through}
use Rattle.audit.specs.Drawn.{Drawn, Lists, Work, room_of}

-- ---- refusals

-- 7: a list is too short for n buses, k stations and p piece branch numbers (docs/WORK.md)
unfoldable pub too_short : ℕ → ℕ → ℕ → AuditLengths → Bool
too_short n k p R =
    ltb R.displacement k || (ltb R.spacing k || (ltb R.relative p
    || (ltb R.stations (2 * n) || (ltb R.spare n || (ltb R.keys n
    || (ltb R.points (2 * n) || (ltb R.path (2 * n) || ltb R.index (index_length n))))))))

-- 1 to 4, 15, 6 and 7, none where none applies
unfoldable pub early : Drawn → AuditLengths → Option Refusal
early D R =
    option_or (shape_refusal D.station D.kv D.from D.to)
    (refuse (too_far (length D.station) D.xy) (Some Refusals.TooFar)
    (refuse (too_short (length D.station) (station_count D.station) (length D.branches) R) (Some Refusals.ListTooShort)
    None))

-- the stations' boxes, and the occupied stations
unfoldable pub boxes_of : Drawn → List Box
boxes_of D = boxes_in (station_count D.station) D.boxes

unfoldable pub stations_of : Drawn → List ℕ
stations_of D = occupied (bus_counts D.station)

-- 13, then 8, by whether the drawing fits and whether it is ill sized
unfoldable pub late_by : Bool → Bool → Option Refusal
late_by fit ill = refuse (not fit) (Some Refusals.NoFit) (refuse ill (Some Refusals.IllSized) None)

unfoldable pub late : Drawn → Option Refusal
late D =
    late_by
    (fits D.station D.from D.to D.boxes D.roles D.pieces D.branches)
    (ill_drawn (boxes_of D) (stations_of D) D.pieces)

-- The refusals in their order (docs/RULES.md, 'Order of refusals'): 1 to 4, 15, 6, 7, 13, then 8. The first whose
-- condition holds gives the number, 0 where none does.
unfoldable pub audit_number : Drawn → AuditLengths → ℕ
audit_number D R =
    let n = length D.station in
    refuse (too_many D.station D.from) 1
    (refuse (kv_unlike D.station D.kv) 2
    (refuse (to_unlike D.from D.to) 3
    (refuse (number_too_high D.station) 4
    (refuse (stray_voltage D.kv) 15
    (refuse (too_far n D.xy) 6
    (refuse (too_short n (station_count D.station) (length D.branches) R) 7
    (refuse (not (fits D.station D.from D.to D.boxes D.roles D.pieces D.branches)) 13
    (refuse (ill_drawn (boxes_of D) (stations_of D) D.pieces) 8 0))))))))

-- ---- the figures

unfoldable pub lists_of : Drawn → Lists
lists_of D =
    record {
      displacement = displacements (seeds D.station D.xy) (boxes_of D) (stations_of D);
      spacing = spacings (boxes_of D) (stations_of D);
      relative = relatives D.roles D.pieces D.branches;
    }

unfoldable pub figures_of : Drawn → Figures
figures_of D =
    record {
      stations = length (stations_of D);
      overlaps = overlaps (boxes_of D) (stations_of D);
      through = through (boxes_of D) (stations_of D) D.station D.from D.to D.roles D.pieces D.branches;
      relative = length (relatives D.roles D.pieces D.branches);
    }

-- ---- the whole of a call: its answer, and the lists after it

pub record Call : Type 0 where
  pub answer : Result Figures Refusal
  pub lists : Lists
  pub work : Work

abbrev pub call : Result Figures Refusal → Lists → Work → Call
call a l w = record { answer = a; lists = l; work = w }

-- A refusal changes no result list; result elements past the figures keep their old content.
unfoldable pub lists_after : Option Refusal → Lists → Lists → Lists
lists_after r F L = record {
  displacement = after r F.displacement L.displacement;
  spacing = after r F.spacing L.spacing;
  relative = after r F.relative L.relative;
}

-- After a call that isn't refused by 1 to 7 or 15 all work lists hold zeros.
unfoldable pub cleared : Work → Work
cleared W =
    record {
      stations = replicate (length W.stations) 0;
      index = replicate (length W.index) 0;
      spare = replicate (length W.spare) 0;
      keys = replicate (length W.keys) 0;
      points = replicate (length W.points) f0;
      path = replicate (length W.path) f0;
    }

-- where the input has passed, by the late refusal
unfoldable pub call_late : Option Refusal → Drawn → Lists → Work → Call
call_late r D L W = call (unless r (figures_of D)) (lists_after r (lists_of D) L) (cleared W)

-- by the early refusal: 1 to 7 and 15 leave every list unchanged
unfoldable pub call_early : Option Refusal → Drawn → Lists → Work → Call
call_early None D L W = call_late (late D) D L W
call_early (Some r) D L W = call (Err r) L W

unfoldable pub audit_of : Drawn → Lists → Work → Call
audit_of D L W = call_early (early D (room_of L W)) D L W

-- What a call gives: its answer's number by the table above, and by one equation the answer and what each lent list
-- holds after it.
pub record Answered (D : Drawn) (L : Lists) (W : Work) (C : Call) : Type 0 where
  pub number : number_of C.answer ≡ audit_number D (room_of L W)
  pub is : C ≡ audit_of D L W

-- ---- between the stages

-- the answer and the result lists
pub record Inner (D : Drawn) (L : Lists) (a : Result Figures Refusal) (L' : Lists) : Type 0 where
  pub answer : a ≡ unless (late D) (figures_of D)
  pub lists : L' ≡ lists_after (late D) (lists_of D) L

-- the figures of a drawing that isn't refused
pub record Figured (D : Drawn) (L : Lists) (f : Figures) (L' : Lists) : Type 0 where
  pub figures : f ≡ figures_of D
  pub lists : L' ≡ lists_after None (lists_of D) L
