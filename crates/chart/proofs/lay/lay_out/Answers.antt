-- Answers for `chart::lay::lay_out`.
use mathlib.Core.Path.{refl, sym, ◌∙◌}
use Rattle.chart.proofs.Laying.{laid_joined, prepared_counted}
use Rattle.chart.proofs.Scenes.{free_held}
use Rattle.chart.proofs.lay.lay_out.Goals as goal

pub returns-clause-prepared : goal.returns-clause-prepared
returns-clause-prepared c =
    prepared_counted _ _ _ _ _ _ _ _ _ _ (c.place_stations-all_free.ensures.counts ∙ sym c.requires.prepared.interiors.counts) refl refl
    c.requires.prepared

pub returns-clause-free : goal.returns-clause-free
returns-clause-free c =
    c.place_stations-all_free.ensures.free
    ∙ free_held _ _ _ _ _ _ _ _ _ _ _ c.requires.prepared c.requires.seeded c.unit-unit.ensures c.search_in-search.ensures

pub returns-clause-laid : goal.returns-clause-laid
returns-clause-laid c free =
    laid_joined _ _ _ _ _ _ _ _ _ _ _ _ _ _ _ c.requires.counted c.requires.few_stations c.requires.prepared
    c.requires.seeded c.unit-unit.ensures c.search_in-search.ensures (c.place_stations-all_free.ensures.settled free)
    c.write_exits.ensures.places_unchanged c.write_exits.ensures.exits_written
