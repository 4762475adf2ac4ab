-- An audit on the heap. Definitions only.
use Rattle.std.specs.Prelude.{ℕ, ◌≡◌, ◌≢◌, ◌*◌, min, List, length, take, Float, Result, Ok, Err}
use Rattle.network.specs.Words.{station_count}
use Rattle.network.specs.declared.refusals.Refusal.{Refusal}
use Rattle.network.specs.declared.refusals.Refusal.TheVariants as Refusals
use Rattle.drawing.specs.Network as Plotted
use Rattle.audit.specs.Drawn.{Drawn, drawn, Lists, Work}
use Rattle.audit.specs.Answer.{Call, audit_of, lists_of, figures_of}
use Rattle.tansygate.specs.declared.audits.Audited.{Audited}
use Rattle.tansygate.specs.declared.audits.Findings.{Findings}
use Rattle.tansygate.specs.declared.audits.Store.{Store}
use Rattle.tansygate.specs.declared.errors.Error.{Error}
use Rattle.tansygate.specs.declared.errors.Error.TheVariants as Errors
use Rattle.tansygate.specs.Lists.{zero_numbers, zeros}

-- a network with its drawing, as an audit reads them
abbrev pub drawn_of : Plotted.Network → Plotted.Lists → Drawn
drawn_of N L = drawn N.station N.kv N.from N.to N.xy L.boxes L.roles L.pieces L.branches

-- the three lists in their order
abbrev pub lists_of_three : List Float → List Float → List Float → Lists
lists_of_three displacement spacing relative =
    record { displacement = displacement; spacing = spacing; relative = relative }

-- what the heap holds
abbrev pub figures_in : Findings → Lists
figures_in f = record { displacement = f.displacement.items; spacing = f.spacing.items; relative = f.relative.items }

abbrev pub store_in : Store → Work
store_in s =
    record {
      stations = s.stations.items;
      index = s.index.items;
      spare = s.spare.items;
      keys = s.keys.items;
      points = s.points.items;
      path = s.path.items;
    }

-- the result lists that are lent for k stations and p pieces
abbrev pub lent_figures : ℕ → ℕ → Lists
lent_figures k p = record { displacement = zeros k; spacing = zeros k; relative = zeros p }

-- the work lists for n buses
abbrev pub lent_store : ℕ → Work
lent_store n =
    record {
      stations = zero_numbers (2 * n);
      index = zero_numbers (5 * n);
      spare = zero_numbers n;
      keys = zero_numbers n;
      points = zeros (2 * n);
      path = zeros (2 * n);
    }

-- the lists with numbers of so many stations, and so many relative lengths
abbrev pub cut_to : ℕ → ℕ → Lists → Lists
cut_to s r L =
    record { displacement = take s L.displacement; spacing = take s L.spacing; relative = take r L.relative }

-- the call with lists of zeros, as long as the network and its drawing ask
abbrev pub called : Drawn → Call
called D =
    let n = min (length D.station) 4096 in
    let k = min (station_count D.station) 4096 in
    audit_of D (lent_figures k (length D.branches)) (lent_store n)

-- the figures that the call gives, with no number more and none less
pub record IsAudited (D : Drawn) (a : Audited) : Type 0 where
  pub answer : (called D).answer ≡ Ok a.figures
  pub figures : a.figures ≡ figures_of D
  pub lists : figures_in a.lists ≡ lists_of D

-- the refusal that the call answers, which isn't that of lists too short
pub record IsRefused (D : Drawn) (e : Refusal) : Type 0 where
  pub answer : (called D).answer ≡ Err e
  pub long_enough : e ≢ Refusals.ListTooShort

-- What `audit` answers: the figures, the call's refusal, or that memory ran out, of which nothing is said.
abbrev pub DidAudit : Drawn → Result Audited Error → Type 0
DidAudit D (Ok a) = IsAudited D a
DidAudit D (Err (Errors.Refused e)) = IsRefused D e
DidAudit D (Err Errors.OutOfMemory) = Unit {0}
