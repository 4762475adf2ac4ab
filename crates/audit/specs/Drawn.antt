-- The lists that an audit is lent: the network and its drawing, the result lists and the work lists. Definitions only.
use Rattle.std.specs.Prelude.{ℕ, List, ℤ, length, Float}
use Rattle.audit.specs.declared.findings.lengths.AuditLengths.{AuditLengths}

-- `kv` holds the bit patterns of the voltages.
pub record Drawn : Type 0 where
  pub station : List ℕ
  pub kv : List ℕ
  pub from : List ℤ
  pub to : List ℤ
  pub xy : List Float
  pub boxes : List Float
  pub roles : List ℕ
  pub pieces : List Float
  pub branches : List ℕ

abbrev pub drawn : List ℕ → List ℕ → List ℤ → List ℤ → List Float → List Float → List ℕ → List Float → List ℕ → Drawn
drawn a b c d e f g h i =
    record {
      station = a;
      kv = b;
      from = c;
      to = d;
      xy = e;
      boxes = f;
      roles = g;
      pieces = h;
      branches = i;
    }

-- the result lists
pub record Lists : Type 0 where
  pub displacement : List Float
  pub spacing : List Float
  pub relative : List Float

-- the work lists
pub record Work : Type 0 where
  pub stations : List ℕ
  pub index : List ℕ
  pub spare : List ℕ
  pub keys : List ℕ
  pub points : List Float
  pub path : List Float

-- the lengths of the lent lists
abbrev pub room_of : Lists → Work → AuditLengths
room_of L W =
    record {
      displacement = length L.displacement;
      spacing = length L.spacing;
      relative = length L.relative;
      stations = length W.stations;
      index = length W.index;
      spare = length W.spare;
      keys = length W.keys;
      points = length W.points;
      path = length W.path;
    }
