-- What crosses to C and Rust: the number of an answer (docs/RULES.md, 'Refusals') and the numbers beside the lists.
-- Definitions only.
use Rattle.std.specs.Prelude.{◌≡◌, Result, Ok, Err}
use Rattle.numbers.specs.Ops.{f0}
use Rattle.network.specs.declared.options.Options.{Options}
use Rattle.network.specs.declared.refusals.Refusal.{Refusal}
use Rattle.network.specs.Refusal.{number}
use Rattle.drawing.specs.declared.answer.Plot.{Plot}
use Rattle.drawing.specs.Network as Network
use Rattle.drawing.specs.Answer as Layout
use Rattle.drawing.specs.Number.{layout_number}
use Rattle.fill.specs.declared.answer.Largest.{Largest}
use Rattle.fill.specs.Fill as Fill
use Rattle.audit.specs.declared.findings.answer.Figures.{Figures}
use Rattle.audit.specs.Drawn as Drawn
use Rattle.audit.specs.Answer as Quality
use Rattle.records.specs.declared.plain.Settings.{Settings}
use Rattle.records.specs.declared.plain.Plotted.{Plotted}
use Rattle.records.specs.declared.plain.Filled.{Filled}
use Rattle.records.specs.declared.plain.Audited.{Audited}

-- the options of the same names
unfoldable pub options_of : Settings → Options
options_of s =
    record {
      fill = s.fill;
      tier_radius = s.tier_radius;
      tier_count_1 = s.tier_count_1;
      tier_count_2 = s.tier_count_2;
      tier_scale_1 = s.tier_scale_1;
      tier_scale_2 = s.tier_scale_2;
      search = s.search;
      route_iterations = s.route_iterations;
      block_options = record { bar_gap = s.bar_gap; pad = s.pad; min_bar = s.min_bar; buffer = s.buffer };
    }

-- Number 0 with the unit, the bounds and the count of pieces, or a refusal's number and zeros.
unfoldable pub plotted : Result Plot Refusal → Plotted
plotted (Ok p) =
    record {
      number = 0;
      pieces = p.pieces;
      unit = p.unit;
      left = p.bounds.left;
      top = p.bounds.top;
      right = p.bounds.right;
      bottom = p.bounds.bottom;
    }
plotted (Err r) = record { number = number r; pieces = 0; unit = f0; left = f0; top = f0; right = f0; bottom = f0 }

-- Number 0 with the fill and its drawing's numbers, or a refusal's number and zeros.
unfoldable pub filled : Result Largest Refusal → Filled
filled (Ok l) =
    record {
      number = 0;
      sixty_fourths = l.sixty_fourths;
      pieces = l.plot.pieces;
      unit = l.plot.unit;
      left = l.plot.bounds.left;
      top = l.plot.bounds.top;
      right = l.plot.bounds.right;
      bottom = l.plot.bounds.bottom;
    }
filled (Err r) =
    record {
      number = number r;
      sixty_fourths = 0;
      pieces = 0;
      unit = f0;
      left = f0;
      top = f0;
      right = f0;
      bottom = f0;
    }

-- Number 0 with the audit's four counts, or a refusal's number and zeros.
unfoldable pub audited : Result Figures Refusal → Audited
audited (Ok f) =
    record { number = 0; stations = f.stations; overlaps = f.overlaps; through = f.through; relative = f.relative }
audited (Err r) = record { number = number r; stations = 0; overlaps = 0; through = 0; relative = 0 }

-- a drawing call's numbers and the lists after it
pub record Drew : Type 0 where
  pub answer : Plotted
  pub lists : Network.Lists
  pub work : Network.Work
  pub crossings : Network.Crossings

abbrev pub drew : Plotted → Network.Lists → Network.Work → Network.Crossings → Drew
drew a l w x = record { answer = a; lists = l; work = w; crossings = x }

unfoldable pub plain_layout : Layout.Call → Drew
plain_layout c = drew (plotted c.answer) c.lists c.work c.crossings

-- a call's numbers for the largest fill, and the lists after it
pub record FillDrew : Type 0 where
  pub answer : Filled
  pub lists : Network.Lists
  pub work : Network.Work
  pub crossings : Network.Crossings

abbrev pub fill_drew : Filled → Network.Lists → Network.Work → Network.Crossings → FillDrew
fill_drew a l w x = record { answer = a; lists = l; work = w; crossings = x }

unfoldable pub plain_fill : Fill.FillCall → FillDrew
plain_fill c = fill_drew (filled c.answer) c.lists c.work c.crossings

-- an audit call's numbers and the lists after it
pub record Judged : Type 0 where
  pub answer : Audited
  pub lists : Drawn.Lists
  pub work : Drawn.Work

abbrev pub judged : Audited → Drawn.Lists → Drawn.Work → Judged
judged a l w = record { answer = a; lists = l; work = w }

unfoldable pub plain_audit : Quality.Call → Judged
plain_audit c = judged (audited c.answer) c.lists c.work

-- What the calls give: the number of the first refusal that applies, or 0; and by one equation the other numbers and
-- what each lent list holds after it.
pub record LayoutAnswered (s : Settings) (N : Network.Network) (L : Network.Lists) (W : Network.Work)
    (X : Network.Crossings) (D : Drew) : Type 0 where
  pub number : D.answer.number ≡ layout_number (options_of s) N (Layout.room_of L W X)
  pub is : D ≡ plain_layout (Layout.layout_of (options_of s) N L W X)

pub record FillAnswered (s : Settings) (N : Network.Network) (L : Network.Lists) (W : Network.Work)
    (X : Network.Crossings) (D : FillDrew) : Type 0 where
  pub is : D ≡ plain_fill (Fill.largest_fill_of (options_of s) N L W X)

pub record AuditAnswered (E : Drawn.Drawn) (L : Drawn.Lists) (W : Drawn.Work) (J : Judged) : Type 0 where
  pub number : J.answer.number ≡ Quality.audit_number E (Drawn.room_of L W)
  pub is : J ≡ plain_audit (Quality.audit_of E L W)
