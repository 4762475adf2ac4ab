-- Lists that C or Rust lends, in the order of the parameters. Definitions only.
use Rattle.std.specs.Prelude.{ℕ, List, Float}
use Rattle.drawing.specs.Network as Layout
use Rattle.audit.specs.Drawn as Audit

-- the result lists of a drawing
abbrev pub layout_lists : List Float → List Float → List Float → List Float → List ℕ → List Float → List ℕ
    → Layout.Lists
layout_lists positions bars boxes scales roles pieces branches =
    record {
      positions = positions;
      bars = bars;
      boxes = boxes;
      scales = scales;
      roles = roles;
      pieces = pieces;
      branches = branches;
    }

-- the work lists of a drawing
abbrev pub layout_work : List ℕ → List ℕ → List ℕ → List ℕ → List ℕ → List ℕ
    → List Float → List Float → List Float → List Float → Layout.Work
layout_work stations buses ends sorted spare keys places blocks frames path =
    record {
      stations = stations;
      buses = buses;
      ends = ends;
      sorted = sorted;
      spare = spare;
      keys = keys;
      places = places;
      blocks = blocks;
      frames = frames;
      path = path;
    }

-- the result lists of an audit
abbrev pub audit_lists : List Float → List Float → List Float → Audit.Lists
audit_lists displacement spacing relative =
    record { displacement = displacement; spacing = spacing; relative = relative }

-- the work lists of an audit
abbrev pub audit_work : List ℕ → List ℕ → List ℕ → List ℕ → List Float → List Float → Audit.Work
audit_work stations index spare keys points path =
    record { stations = stations; index = index; spare = spare; keys = keys; points = points; path = path }
