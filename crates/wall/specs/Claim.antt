-- A drawing and the audit of it in one call, and what is claimed of it. Definitions only.
use Rattle.std.specs.Prelude.{ℕ, ◌<◌, ◌≡◌, true, List, length, get_or, Float, Result, Ok, Err}
use Rattle.network.specs.declared.options.Options.{Options}
use Rattle.network.specs.declared.refusals.Refusal.{Refusal}
use Rattle.network.specs.Refusal.{number_of}
use Rattle.drawing.specs.declared.answer.Plot.{Plot}
use Rattle.drawing.specs.Network.{Network, Lists, Work, Crossings, crossings}
use Rattle.drawing.specs.Answer.{room_of, Call, layout_of}
use Rattle.drawing.specs.Number.{layout_number}
use Rattle.audit.specs.declared.findings.answer.Figures.{Figures}
use Rattle.audit.specs.Drawn as Lent
use Rattle.audit.specs.Answer.{audit_of}
use Rattle.wall.specs.Wall.{Patterns, order, is_free, audited, Wall}

-- what such a call answers, and the lists after it
pub record Both : Type 0 where
  pub answer : Result (Plot × Result Figures Refusal) Refusal
  pub lists : Lists
  pub work : Work
  pub crossings : Crossings

abbrev pub both : Result (Plot × Result Figures Refusal) Refusal → Lists → Work → Crossings → Both
both a l w x = record { answer = a; lists = l; work = w; crossings = x }

-- the answer, and the audit's lists after it
pub record Check : Type 0 where
  pub answer : Result (Plot × Result Figures Refusal) Refusal
  pub lists : Lent.Lists
  pub work : Lent.Work

abbrev pub check : Result (Plot × Result Figures Refusal) Refusal → Lent.Lists → Lent.Work → Check
check a l w = record { answer = a; lists = l; work = w }

-- the audit's result lists, and its work lists
abbrev pub figure_lists : List Float → List Float → List Float → Lent.Lists
figure_lists displacement spacing relative =
    record { displacement = displacement; spacing = spacing; relative = relative }

abbrev pub audit_work : List ℕ → List ℕ → List ℕ → List ℕ → List Float → List Float → Lent.Work
audit_work stations index spare keys points path =
    record { stations = stations; index = index; spare = spare; keys = keys; points = points; path = path }

-- the audit of what layout answered, by the drawing of so many pieces that is handed to it: what layout refuses is not
-- audited
unfoldable pub check_by : Result Plot Refusal → (ℕ → Lent.Drawn) → Lent.Lists → Lent.Work → Check
check_by (Ok p) parts F U = let A = audit_of (parts p.pieces) F U in check (Ok (p, A.answer)) A.lists A.work
check_by (Err r) parts F U = check (Err r) F U

-- the same after a call of layout: the audit's work lists are layout's, its figures go into `blocks`, `frames` and
-- `ways`
unfoldable pub check_after : Network → Call → Check
check_after N C =
    check_by C.answer
    (audited N C.lists)
    (record {
      displacement = C.work.blocks;
      spacing = C.work.frames;
      relative = C.crossings.ways;
    })
    (record {
      stations = C.work.stations;
      index = C.work.sorted;
      spare = C.work.spare;
      keys = C.work.keys;
      points = C.work.places;
      path = C.work.path;
    })

-- the answer, and the lists after both
unfoldable pub both_after : Call → Check → Both
both_after C A =
    both A.answer C.lists
    (record {
      stations = A.work.stations;
      buses = C.work.buses;
      ends = C.work.ends;
      sorted = A.work.index;
      spare = A.work.spare;
      keys = A.work.keys;
      places = A.work.points;
      blocks = A.lists.displacement;
      frames = A.lists.spacing;
      path = A.work.path;
    })
    (crossings C.crossings.numbers C.crossings.places A.lists.relative)

unfoldable pub draw_and_audit : Options → Network → Lists → Work → Crossings → Both
draw_and_audit o N L W X = let C = layout_of o N L W X in both_after C (check_after N C)

-- What is claimed of it, whatever the lists held before.
pub record Claim (o : Options) (N : Network) (L : Lists) (W : Work) (X : Crossings) (B : Both) : Type 0 where
  pub is : B ≡ draw_and_audit o N L W X
  -- Layout's number is that of the first refusal that applies (docs/RULES.md, 'Order of refusals').
  pub number : number_of B.answer ≡ layout_number o N (room_of L W X)
  -- A refusal of layout changes no result list.
  pub refused : (r : Refusal) → B.answer ≡ Err r → B.lists ≡ L
  -- The voltages are patterns of 64 bits, which `Wall` asks for where it speaks of their order.
  pub patterns : Patterns N
  -- A drawing, with the plot that is answered, is one that arises as the rules say, whether the audit takes it or not.
  pub wall : (p : Plot) (a : Result Figures Refusal) → B.answer ≡ Ok (p, a) → Wall o N B.lists p
  -- Figures count no overlap if every station found a free place.
  pub clean : (p : Plot) (f : Figures) (drawn : B.answer ≡ Ok (p, Ok f))
      → ((i : ℕ) → i < length (order N)
      → is_free o N B.lists p i ((wall p (Ok f) drawn).boxes.places (get_or (order N) i 0)) ≡ true)
      → f.overlaps ≡ 0
