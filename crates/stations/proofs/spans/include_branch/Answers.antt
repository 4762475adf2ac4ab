-- Answers for `stations::spans::include_branch`.
use mathlib.Core.Path.{refl, sym, ◌∙◌}
use native.Mathlib.Omega.{arith}
use Rattle.stations.proofs.spans.Rows.{two, undrawn_included, open_included, internal_included, line_included}
use Rattle.stations.proofs.spans.include_branch.Goals as goal

pub include_ends-requires-clause-from_inside : goal.include_ends-requires-clause-from_inside
include_ends-requires-clause-from_inside c = let z = two _ _ _ _ _ _ _ c.kind_of.ensures.is_kind c.kind_of.ensures.safe c.in-Internal.is in omega (arith, z.0)

pub include_ends-requires-clause-to_inside : goal.include_ends-requires-clause-to_inside
include_ends-requires-clause-to_inside c = let z = two _ _ _ _ _ _ _ c.kind_of.ensures.is_kind c.kind_of.ensures.safe c.in-Internal.is in omega (arith, z.1)

pub include_ends-requires-clause-two_buses : goal.include_ends-requires-clause-two_buses
include_ends-requires-clause-two_buses c = let z = two _ _ _ _ _ _ _ c.kind_of.ensures.is_kind c.kind_of.ensures.safe c.in-Internal.is in z.2

pub include_ends-requires-clause-from_row_fits : goal.include_ends-requires-clause-from_row_fits
include_ends-requires-clause-from_row_fits c = omega (arith, c.at-ra.ensures, c.requires.from_row_fits)

pub include_ends-requires-clause-to_row_fits : goal.include_ends-requires-clause-to_row_fits
include_ends-requires-clause-to_row_fits c = omega (arith, c.at-rb.ensures, c.requires.to_row_fits)

pub include_ends-requires-in-Line-clause-from_inside : goal.include_ends-requires-in-Line-clause-from_inside
include_ends-requires-in-Line-clause-from_inside c = let z = two _ _ _ _ _ _ _ c.kind_of.ensures.is_kind c.kind_of.ensures.safe c.in-Line.is in omega (arith, z.0)

pub include_ends-requires-in-Line-clause-to_inside : goal.include_ends-requires-in-Line-clause-to_inside
include_ends-requires-in-Line-clause-to_inside c = let z = two _ _ _ _ _ _ _ c.kind_of.ensures.is_kind c.kind_of.ensures.safe c.in-Line.is in omega (arith, z.1)

pub include_ends-requires-in-Line-clause-two_buses : goal.include_ends-requires-in-Line-clause-two_buses
include_ends-requires-in-Line-clause-two_buses c = let z = two _ _ _ _ _ _ _ c.kind_of.ensures.is_kind c.kind_of.ensures.safe c.in-Line.is in z.2

pub include_ends-requires-in-Line-clause-from_row_fits : goal.include_ends-requires-in-Line-clause-from_row_fits
include_ends-requires-in-Line-clause-from_row_fits c = omega (arith, c.at-ra.ensures, c.requires.from_row_fits)

pub include_ends-requires-in-Line-clause-to_row_fits : goal.include_ends-requires-in-Line-clause-to_row_fits
include_ends-requires-in-Line-clause-to_row_fits c = omega (arith, c.at-rb.ensures, c.requires.to_row_fits)

pub returns-in-Undrawn : goal.returns-in-Undrawn
returns-in-Undrawn c = undrawn_included _ _ _ _ _ (sym c.kind_of.ensures.is_kind ∙ c.in-Undrawn.is) refl

pub returns-in-Open : goal.returns-in-Open
returns-in-Open c = open_included _ _ _ _ _ _ _ (sym c.kind_of.ensures.is_kind ∙ c.in-Open.is) refl

pub returns-in-Internal : goal.returns-in-Internal
returns-in-Internal c = internal_included _ _ _ _ _ _ _ _ _ (sym c.kind_of.ensures.is_kind ∙ c.in-Internal.is) c.at-ra.ensures c.at-rb.ensures c.include_ends.ensures

pub returns-in-Line : goal.returns-in-Line
returns-in-Line c = line_included _ _ _ _ _ _ _ _ _ (sym c.kind_of.ensures.is_kind ∙ c.in-Line.is) c.at-ra.ensures c.at-rb.ensures c.include_ends-in-Line.ensures
