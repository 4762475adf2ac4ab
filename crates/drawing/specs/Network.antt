-- The lists that a call is lent: the network and its mesh, the result lists and the work lists
-- (docs/RULES.md, 'Lists'; lengths in docs/WORK.md). Definitions only.
use Rattle.std.specs.Prelude.{ℕ, List, ℤ, Float}
use Rattle.network.specs.declared.lists.Network as Read

-- `kv` holds the bit patterns of the voltages.
pub record Network : Type 0 where
  pub station : List ℕ
  pub kv : List ℕ
  pub from : List ℤ
  pub to : List ℤ
  pub service : List ℕ
  pub xy : List Float
  pub corners : List ℕ
  pub twins : List ℕ

abbrev pub network : List ℕ → List ℕ → List ℤ → List ℤ → List ℕ → List Float → List ℕ → List ℕ → Network
network a b c d e f g h = record { station = a; kv = b; from = c; to = d; service = e; xy = f; corners = g; twins = h }

-- The network that lent lists hold.
abbrev pub network_of : Read.Network → Network
network_of N = network N.sub.now N.kv.now N.from.now N.to.now N.service.now N.xy.now N.mesh.corners.now N.mesh.twins.now

-- the result lists
pub record Lists : Type 0 where
  pub positions : List Float
  pub bars : List Float
  pub boxes : List Float
  pub scales : List Float
  pub roles : List ℕ
  pub pieces : List Float
  pub branches : List ℕ

-- the work lists of fixed needed length
pub record Work : Type 0 where
  pub stations : List ℕ
  pub buses : List ℕ
  pub ends : List ℕ
  pub sorted : List ℕ
  pub spare : List ℕ
  pub keys : List ℕ
  pub places : List Float
  pub blocks : List Float
  pub frames : List Float
  pub path : List Float

-- The crossing list is these and the three lists that sort: for each crossing three numbers, its place, and the two
-- numbers of its point.
pub record Crossings : Type 0 where
  pub numbers : List ℕ
  pub places : List Float
  pub ways : List Float

abbrev pub crossings : List ℕ → List Float → List Float → Crossings
crossings a b c = record { numbers = a; places = b; ways = c }
