-- The text that drawlist reads, and the network that it stands for (docs/RULES.md, 'Text of drawlist'). Definitions
-- only.
use Rattle.std.specs.Prelude.{ℕ, zero, suc, Bool, true, false, List, [], ◌∷◌, ◌++◌, ℤ, length, drop, Float}
use Rattle.std.specs.Float.Ieee.{of_bits}
use Rattle.std.specs.Float.{binary64}
use Rattle.text.specs.Field.{Read, got, wrong}
use Rattle.text.specs.declared.listing.line.Bus.{Bus}
use Rattle.text.specs.declared.listing.line.Branch.{Branch}
use Rattle.text.specs.Line.{begins, bus_names, branch_names, bus_line, branch_line}

-- the buses of a network: substations, the bits of kv, and x and y in turn
pub record Buses : Type 0 where
  pub sub : List ℕ
  pub kv : List ℕ
  pub xy : List Float

-- its branches
pub record Branches : Type 0 where
  pub from : List ℤ
  pub to : List ℤ
  pub live : List ℕ

unfoldable pub no_buses : Buses
no_buses = record { sub = []; kv = []; xy = [] }

unfoldable pub no_branches : Branches
no_branches = record { from = []; to = []; live = [] }

-- one more of them
unfoldable pub add_bus : Buses → Bus → Buses
add_bus b v =
    record {
      sub = b.sub ++ (v.sub ∷ []);
      kv = b.kv ++ (v.kv ∷ []);
      xy = b.xy ++ (of_bits binary64 v.x ∷ of_bits binary64 v.y ∷ []);
    }

unfoldable pub add_branch : Branches → Branch → Branches
add_branch b v = record { from = b.from ++ (v.from ∷ []); to = b.to ++ (v.to ∷ []); live = b.live ++ (v.live ∷ []) }

-- the lines of one kind and the bytes after them, or those before the first malformed one
pub data Lines (A : Type 0) : Type 0 where
  lines : A → List ℕ → Lines A
  broken : A → Lines A

-- at most k further lines of a kind, after those read so far, and then what ends them, which is `past` bytes long
unfoldable pub lines_to : {A B : Type 0} → (List ℕ → Bool) → ℕ → (List ℕ → Read B) → (A → B → A) → ℕ → A → List ℕ
    → Lines A
lines_to ends past line add zero b l = elim (ends l) [ true ↦ lines b (drop past l) | false ↦ broken b ]
lines_to ends past line add (suc k) b l =
    elim (ends l) [
      | true ↦ lines b (drop past l)
      | false ↦ elim (line l) [ got v rest ↦ lines_to ends past line add k (add b v) rest | wrong ↦ broken b ]
    ]

-- at most 64 bus lines, then the line `from to live`
unfoldable pub bus_lines : List ℕ → Lines Buses
unfolding lines_to begins branch_names bus_line add_bus no_buses
bus_lines l = lines_to (begins branch_names) 13 bus_line add_bus 64 no_buses l

-- whether nothing is left
unfoldable pub at_end : List ℕ → Bool
at_end [] = true
at_end (c ∷ l) = false

-- at most 64 branch lines, then the end
unfoldable pub branch_lines : List ℕ → Lines Branches
unfolding lines_to at_end branch_line add_branch no_branches
branch_lines l = lines_to at_end 0 branch_line add_branch 64 no_branches l

-- what a text stands for: a network, or, where it is malformed, what stands before the first malformed line
pub record Input : Type 0 where
  pub well_formed : Bool
  pub buses : Buses
  pub branches : Branches

unfoldable pub with_branches : Buses → Lines Branches → Input
with_branches b (lines r l) = record { well_formed = true; buses = b; branches = r }
with_branches b (broken r) = record { well_formed = false; buses = b; branches = r }

unfoldable pub with_buses : Lines Buses → Input
unfolding with_branches branch_lines no_branches
with_buses (lines b l) = with_branches b (branch_lines l)
with_buses (broken b) = record { well_formed = false; buses = b; branches = no_branches }

-- the line `sub kv x y`, at most 64 buses, the line `from to live`, at most 64 branches
unfoldable pub parsed : List ℕ → Input
unfolding begins bus_names with_buses bus_lines no_buses no_branches
parsed t =
    elim (begins bus_names t) [
      | true ↦ with_buses (bus_lines (drop 11 t))
      | false ↦ record { well_formed = false; buses = no_buses; branches = no_branches }
    ]

-- the lines of a kind that were read, whether or not one after them is malformed
unfoldable pub read : {A : Type 0} → Lines A → A
read (lines b l) = b
read (broken b) = b

-- how many there are, given the list of one value of each, and the bytes after them
unfoldable pub counted : {A B : Type 0} → (A → List B) → Lines A → Read ℕ
counted f (lines b l) = got (length (f b)) l
counted f (broken b) = wrong
