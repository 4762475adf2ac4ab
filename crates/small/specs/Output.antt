-- The text that `drawlist` writes for the text that it reads. Definitions only.
use Rattle.std.specs.Prelude.{ℕ, ◌≡◌, cond, List, [], Float, Result, Ok, Err}
use Rattle.std.specs.Float.{binary64}
use Rattle.std.specs.Float.Ieee.{of_bits}
use Rattle.network.specs.declared.options.Options.{Options}
use Rattle.network.specs.Options.{defaults}
use Rattle.network.specs.declared.refusals.Refusal.{Refusal}
use Rattle.network.specs.Refusal.{number}
use Rattle.drawing.specs.declared.answer.Plot.{Plot}
use Rattle.drawing.specs.Network.{Network, network, Lists}
use Rattle.drawing.specs.Answer.{Call}
use Rattle.small.specs.Small.{zero_numbers, zeros, held_call}
use Rattle.text.specs.Input.{Input, parsed}
use Rattle.text.specs.LinePlaces.{answer, number_of}
use Rattle.text.specs.Output.{listing, refusal}

-- Options are the defaults, but fill 1/2 and iterations 0.
unfoldable pub list_options : Options
unfolding defaults
list_options =
    record {
      fill = of_bits binary64 0x3FE0_0000_0000_0000;
      tier_radius = defaults.tier_radius;
      tier_count_1 = defaults.tier_count_1;
      tier_count_2 = defaults.tier_count_2;
      tier_scale_1 = defaults.tier_scale_1;
      tier_scale_2 = defaults.tier_scale_2;
      search = defaults.search;
      route_iterations = 0;
      block_options = defaults.block_options;
    }

-- the lists that it lends, those of roles and pieces with this content, the others long enough for 64 buses
abbrev pub lists_with : List ℕ → List Float → List ℕ → Lists
lists_with roles pieces branches = record {
  positions = zeros 128;
  bars = zeros 256;
  boxes = zeros 256;
  scales = zeros 64;
  roles = roles;
  pieces = pieces;
  branches = branches;
}

-- all zeros, long enough for 64 branches, whose runs have three pieces at most
abbrev pub result_lists : Lists
result_lists = lists_with (zero_numbers 64) (zeros 768) (zero_numbers 192)

-- the call of layout, with these result lists, room for 64 stations and none for crossings
unfoldable pub plotted : Network → Lists → Call
plotted N L = held_call list_options N L 128 0

-- what it answers, and what of the result lists after it a listing shows
pub record Shown (N : Network) (L : Lists) (a : Result Plot Refusal) (roles : List ℕ) (pieces : List Float)
    (branches : List ℕ) : Type 0 where
  pub answer_is : a ≡ (plotted N L).answer
  pub roles_are : roles ≡ (plotted N L).lists.roles
  pub pieces_are : pieces ≡ (plotted N L).lists.pieces
  pub branches_are : branches ≡ (plotted N L).lists.branches

-- A drawing is listed piece by piece, a refusal by its number.
unfoldable pub text_by : Result Plot Refusal → Lists → List ℕ
text_by (Ok p) L = listing L.roles L.pieces L.branches p.pieces
text_by (Err r) L = refusal (number r)

unfoldable pub text_of : Network → List ℕ
text_of N = let c = plotted N result_lists in text_by c.answer c.lists

-- the network of a text, without a mesh
unfoldable pub network_of : Input → Network
network_of p =
    network p.buses.sub p.buses.kv p.branches.from p.branches.to p.branches.live p.buses.xy [] []

-- Malformed text is refused by the number of the parser's answer.
unfoldable pub output_of : List ℕ → List ℕ
output_of text = let p = parsed text in cond p.well_formed (text_of (network_of p)) (refusal (number_of (answer p)))
