-- Answers for `placement::search::place_by_table`.
use mathlib.Core.Path.{refl, ap, ◌∙◌}
use mathlib.Core.List.{List}
use Rattle.network.specs.Views.{order_in, points_in}
use Rattle.offsets.specs.declared.offset.Offset.{Offset}
use Rattle.offsets.specs.Offset.{offset_of}
use Rattle.offset_table.specs.Table.{codes, table_pairs}
use Rattle.offset_table.proofs.Pairs.{within_held}
use Rattle.placement.specs.Place.{places, all_find_free}
use Rattle.placement.specs.Stages.Views.{half_sides_listed}
use Rattle.placement.proofs.search.place_by_table.Goals as goal

pub returns-clause-free : goal.returns-clause-free
unfolding codes table_pairs offset_of
returns-clause-free c =
    c.place_all.ensures.free
    ∙ ap (λ (os : List Offset). all_find_free (half_sides_listed c.args.measures c.args.measured.now.k c.args.measured.now.blocks.now) os (points_in c.args.measured.now.k c.args.places.now) (order_in c.args.occupied c.args.measured.now.counts.now))
    (within_held _ refl c.args.search c.requires.search_fits)

pub returns-clause-placed : goal.returns-clause-placed
unfolding codes table_pairs offset_of
returns-clause-placed c given =
    c.place_all.ensures.placed given
    ∙ ap (λ (os : List Offset). places (half_sides_listed c.args.measures c.args.measured.now.k c.args.measured.now.blocks.now) os (points_in c.args.measured.now.k c.args.places.now) (order_in c.args.occupied c.args.measured.now.counts.now))
    (within_held _ refl c.args.search c.requires.search_fits)
