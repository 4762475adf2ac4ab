-- What lent stations, and the offsets that a search tries, say, one word each. Definitions only.
use Rattle.std.specs.Prelude.{List}
use Rattle.offsets.specs.declared.offset.Offset.{Offset}
use Rattle.offset_table.specs.Table.{skipped}
use Rattle.stations.specs.declared.measures.Measures.{Measures}
use Rattle.stations.specs.declared.sizes.Measured.{Measured}
use Rattle.placement.specs.Search.{HalfSides}
use Rattle.placement.specs.Stages.Views.{half_sides_listed}
use Rattle.placement.specs.declared.free_places.Tried.{Tried}

-- what each station's interior is drawn in
abbrev pub measured_half_sides : Measures → Measured → List HalfSides
measured_half_sides measures measured = half_sides_listed measures measured.k measured.blocks.now

-- the offsets that a search tries, in their order
abbrev pub tried_offsets : Tried → List Offset
tried_offsets tried = skipped tried.search tried.pairs.now
