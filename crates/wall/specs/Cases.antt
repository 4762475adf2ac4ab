-- Worked cases: one table of what the definitions give and what docs/RULES.md, 'Worked cases', says. Floats stand as their bits. `wall::laws::cases` promises that both are the same. Definitions only.
use Prim.Native.Nat.{ℕ, suc, ◌*◌}
use mathlib.Core.Bool.{Bool, cond}
use mathlib.Core.List.{List, [], ◌∷◌, ◌++◌, map}
use lib.Count.{count_trailing_zeros}
use lib.IntN.{ℤ, pos, negsuc}
use lib.ListN.{take, replicate}
use lib.Ieee.{Float, binary64, add, sub, mul, div, neg, sum, round, units, odd, size, span, climb, lt, le, eq, of_int, of_bits, of_fields, to_bits, is_nan}
use Rattle.numbers.specs.Ops.{f0, f½, f1, f2, f3, f4}
use Rattle.plane.specs.declared.geometry.Point.{Point}
use Rattle.plane.specs.declared.geometry.Box.{Box}
use Rattle.plane.specs.Plane.{point}
use Rattle.network.specs.declared.options.Options.{Options}
use Rattle.offsets.specs.declared.offset.Offset.{Offset}
use Rattle.std.specs.Prelude.{Result, Ok, Err}
use Rattle.network.specs.declared.refusals.Refusal.{Refusal}
use Rattle.drawing.specs.declared.answer.Plot.{Plot}
use Rattle.drawing.specs.Network as Net
use Rattle.drawing.specs.Network.{Network, network}
use Rattle.audit.specs.declared.findings.answer.Figures.{Figures}
use Rattle.audit.specs.Drawn as AuditLists
use Rattle.numbers.specs.Small as FloatSmall
use Rattle.numbers.specs.Hypot as FloatHypot
use Rattle.numbers.specs.Floor as FloatFloor
use Rattle.numbers.specs.Key as FloatKey
use Rattle.numbers.specs.Order as OrderOrder
use Rattle.numbers.specs.Table as OrderTable
use Rattle.numbers.specs.Median as OrderMedian
use Rattle.plane.specs.Clip as GeometryClip
use Rattle.plane.specs.Cross as GeometryCross
use Rattle.plane.specs.Near as NeighboursNear
use Rattle.plane.specs.Overlap as NeighboursOverlap
use Rattle.channels.specs.Space as ChannelSpace
use Rattle.channels.specs.Channel as ChannelChannel
use Rattle.network.specs.Mesh as MeshMesh
use Rattle.channels.specs.Round as WalkRound
use Rattle.channels.specs.Trace as WalkTrace
use Rattle.network.specs.Words as NetworkWords
use Rattle.network.specs.Seed as NetworkSeed
use Rattle.network.specs.Options as NetworkOptions
use Rattle.network.specs.Refusal as NetworkRefusal
use Rattle.network.specs.Views as NetworkViews
use Rattle.stations.specs.Column as StationsColumn
use Rattle.stations.specs.Row as StationsRow
use Rattle.stations.specs.Size as UnitsSize
use Rattle.stations.specs.Unit as UnitsUnit
use Rattle.stations.specs.Scale as UnitsScale
use Rattle.offsets.specs.Offset as PlacementOffset
use Rattle.placement.specs.Place as PlacementPlace
use Rattle.placement.specs.Search as PlacementPlaceSearch
use Rattle.placement.specs.Turns as TurnsTurns
use Rattle.placement.specs.Sized as PlacementSized
use Rattle.plane.specs.Entry as GeometryEntry
use Rattle.boxes.specs.First as BoxTreeFirst
use Rattle.boxes.specs.Length as BoxTreeLength
use Rattle.boxes.specs.Corner as CornerCorner
use Rattle.boxes.specs.Detour as DetourDetour
use Rattle.stations.specs.Bar as BarsBar
use Rattle.stations.specs.Exit as BarsExit
use Rattle.runs.specs.Run as RunsRun
use Rattle.runs.specs.Finite as RunsFinite
use Rattle.runs.specs.Lists as RunsLists
use Rattle.numbers.specs.Over as OrderOver
use Rattle.routing.specs.Route as RoutingRoute
use Rattle.routing.specs.Stages.Views as RoutingViews
use Rattle.routing.specs.Clearance as CrossingsClearance
use Rattle.routing.specs.Routes as RoutesRoutes
use Rattle.routing.specs.Stages.Routed as RoutesRouted
use Rattle.results.specs.Bounds as ResultsBounds
use Rattle.drawing.specs.Drawing as LayoutDrawing
use Rattle.drawing.specs.Answer as LayoutAnswer
use Rattle.audit.specs.Fit as FiguresFit
use Rattle.audit.specs.Scale as FiguresScale
use Rattle.audit.specs.Overlaps as FiguresOverlaps
use Rattle.audit.specs.Figure as FiguresFigure
use Rattle.audit.specs.Relative as FiguresRelative
use Rattle.audit.specs.Through as AuditThrough
use Rattle.audit.specs.Answer as AuditAnswer
use Rattle.text.specs.Field as ListingField
use Rattle.text.specs.Line as ListingLine
use Rattle.text.specs.Input as ListingInput
use Rattle.text.specs.Output as ListingOutput
use Rattle.text.specs.Spell as FieldsSpell
use Rattle.small.specs.Output as Listed
use Rattle.text.specs.LinePlaces as ListingLinePlaces
use Rattle.small.specs.Small as SmallHeld
use Rattle.wall.specs.Claim as WallClaim
use Rattle.wall.specs.Wall.{audit_parts, audited}

-- ---- floats and results as numbers

abbrev pub bits : ℕ → Float
bits n = of_bits binary64 n

abbrev pub bits_of : Float → ℕ
bits_of x = cond (eq x f0) 0 (to_bits binary64 x)

abbrev pub point_bits : Point → List ℕ
point_bits p = bits_of p.x ∷ bits_of p.y ∷ []

abbrev pub box_bits : Box → List ℕ
box_bits b = bits_of b.left ∷ bits_of b.top ∷ bits_of b.right ∷ bits_of b.bottom ∷ []

abbrev pub truth : Bool → ℕ
truth b = cond b 1 0

-- whole numbers, 0, −1, 1, −2, .. as 0, 1, 2, 3, ..
abbrev pub code : ℤ → ℕ
code (pos n) = 2 * n
code (negsuc n) = suc (2 * n)

abbrev pub codes : List Offset → List ℕ
codes [] = []
codes (o ∷ os) = code o.a ∷ code o.b ∷ codes os

-- ---- the inputs

-- the default options but fill 1/2, this search and no iterations
abbrev pub searching : ℤ → Options
searching s =
    record {
      fill = f½;
      tier_radius = f3;
      tier_count_1 = 12;
      tier_count_2 = 30;
      tier_scale_1 = (NetworkOptions.defaults).tier_scale_1;
      tier_scale_2 = (NetworkOptions.defaults).tier_scale_2;
      search = s;
      route_iterations = 0;
      block_options = NetworkOptions.default_block_options;
    }

abbrev pub empty : Network
empty = network [] [] [] [] [] [] [] []

-- a bus of 100 kV at (0, 0) in each of these stations
abbrev pub buses : List ℕ → Network
buses ss = network ss (map (λ s. 0x4059_0000_0000_0000) ss) [] [] [] (map (λ s. f0) (ss ++ ss)) [] []

-- the worked input of `drawlist`, its bytes
abbrev pub text : List ℕ
text =
    115 ∷ 117 ∷ 98 ∷ 32 ∷ 107 ∷ 118 ∷ 32 ∷ 120 ∷ 32 ∷ 121 ∷ 10 ∷ 48 ∷ 32 ∷ 52 ∷ 48 ∷ 53 ∷ 57 ∷ 48 ∷ 48 ∷ 48 ∷ 48
    ∷ 48 ∷ 48 ∷ 48 ∷ 48 ∷ 48 ∷ 48 ∷ 48 ∷ 48 ∷ 32 ∷ 48 ∷ 48 ∷ 48 ∷ 48 ∷ 48 ∷ 48 ∷ 48 ∷ 48 ∷ 48 ∷ 48 ∷ 48 ∷ 48 ∷ 48
    ∷ 48 ∷ 48 ∷ 48 ∷ 32 ∷ 48 ∷ 48 ∷ 48 ∷ 48 ∷ 48 ∷ 48 ∷ 48 ∷ 48 ∷ 48 ∷ 48 ∷ 48 ∷ 48 ∷ 48 ∷ 48 ∷ 48 ∷ 48 ∷ 10 ∷ 48
    ∷ 32 ∷ 52 ∷ 48 ∷ 53 ∷ 57 ∷ 48 ∷ 48 ∷ 48 ∷ 48 ∷ 48 ∷ 48 ∷ 48 ∷ 48 ∷ 48 ∷ 48 ∷ 48 ∷ 48 ∷ 32 ∷ 48 ∷ 48 ∷ 48 ∷ 48
    ∷ 48 ∷ 48 ∷ 48 ∷ 48 ∷ 48 ∷ 48 ∷ 48 ∷ 48 ∷ 48 ∷ 48 ∷ 48 ∷ 48 ∷ 32 ∷ 48 ∷ 48 ∷ 48 ∷ 48 ∷ 48 ∷ 48 ∷ 48 ∷ 48 ∷ 48
    ∷ 48 ∷ 48 ∷ 48 ∷ 48 ∷ 48 ∷ 48 ∷ 48 ∷ 10 ∷ 102 ∷ 114 ∷ 111 ∷ 109 ∷ 32 ∷ 116 ∷ 111 ∷ 32 ∷ 108 ∷ 105 ∷ 118 ∷ 101
    ∷ 10 ∷ 48 ∷ 32 ∷ 49 ∷ 32 ∷ 49 ∷ 10 ∷ []

-- ---- the calls, with lists long enough for two buses and one branch

abbrev pub zeros : ℕ → List Float
zeros n = replicate n f0

abbrev pub zero_numbers : ℕ → List ℕ
zero_numbers n = replicate n 0

abbrev pub results : Net.Lists
results =
    record {
      positions = zeros 4;
      bars = zeros 8;
      boxes = zeros 8;
      scales = zeros 2;
      roles = zero_numbers 1;
      pieces = zeros 4;
      branches = zero_numbers 1;
    }

abbrev pub room : Net.Work
room =
    record {
      stations = zero_numbers 4;
      buses = zero_numbers 6;
      ends = zero_numbers 8;
      sorted = zero_numbers 1685;
      spare = zero_numbers 1685;
      keys = zero_numbers 1685;
      places = zeros 8;
      blocks = zeros 6;
      frames = zeros 8;
      path = zeros 20;
    }

abbrev pub called : Options → Network → LayoutAnswer.Call
called o N = LayoutAnswer.layout_of o N results room (Net.crossings [] [] [])

-- the unit and the bounds of the answer, or the refusal
abbrev pub answer_bits : Result Plot Refusal → List ℕ
answer_bits (Ok p) = bits_of p.unit ∷ box_bits p.bounds
answer_bits (Err r) = NetworkRefusal.number r ∷ []

-- the audit's lists, for k stations and so many relative lengths
abbrev pub figures : ℕ → ℕ → AuditLists.Lists
figures k r = record { displacement = zeros k; spacing = zeros k; relative = zeros r }

abbrev pub audit_room : AuditLists.Work
audit_room =
    record {
      stations = zero_numbers 4;
      index = zero_numbers 265;
      spare = zero_numbers 2;
      keys = zero_numbers 2;
      points = zeros 4;
      path = zeros 4;
    }

-- the overlaps that an audit of it counts
abbrev pub counted : Result Figures Refusal → List ℕ
counted (Ok f) = f.overlaps ∷ []
counted (Err r) = 100 ∷ NetworkRefusal.number r ∷ []

abbrev pub overlaps_by : Network → Result Plot Refusal → Net.Lists → List ℕ
overlaps_by N (Ok p) L =
    counted
    (AuditAnswer.audit_of (audited N L p.pieces) (figures 2 1) audit_room).answer
overlaps_by N (Err r) L = NetworkRefusal.number r ∷ []

-- two stations on one seed: the overlaps, and the places of both
abbrev pub two : ℤ → List ℕ
two s =
    let N = buses (0 ∷ 1 ∷ []) in
    let c = called (searching s) N in
    let d = LayoutDrawing.drawing (searching s) N in
    overlaps_by N c.answer c.lists ++ (point_bits (NetworkSeed.place_at d.places 0) ++ point_bits (NetworkSeed.place_at d.places 1))

-- the worked network drawn and audited in one call: layout's number, the audit's (0 for none), and the pieces
abbrev pub numbers : Result (Plot × Result Figures Refusal) Refusal → List ℕ
numbers (Ok b) = 0 ∷ NetworkRefusal.number_of b.1 ∷ []
numbers (Err r) = NetworkRefusal.number r ∷ []

abbrev pub worked : Network
worked = network (0 ∷ 0 ∷ []) (0x4059_0000_0000_0000 ∷ 0x4059_0000_0000_0000 ∷ []) (pos 0 ∷ []) (pos 1 ∷ []) (1 ∷ []) (zeros 4) [] []

-- by the length of `crossing_ways`, where the audit puts relative lengths
abbrev pub checked : ℕ → List ℕ
checked ways = let b = WallClaim.draw_and_audit (searching (pos 10)) worked results room (Net.crossings [] [] (zeros ways)) in numbers b.answer ++ map bits_of b.lists.pieces

-- three crossings of a cleared walk, each at 0.5 of one channel from 0 to 1, so that 0.5 is what each wishes: their
-- places after one round of spacing, by the least step
abbrev pub crossing : ℕ → RoutingRoute.Crossing
crossing k = record { channel = 0; branch = 0; on_line = k; fraction = f½ }

abbrev pub routes : ℕ → RoutingRoute.Routing
routes least_step =
    record {
      channels = record { low = 0; high = 1; channel = record { lo = f0; hi = f1; least_step = bits least_step } } ∷ [];
      crossings = crossing 0 ∷ crossing 1 ∷ crossing 2 ∷ [];
      kept_crossings = [];
    }

abbrev pub scene : RoutingRoute.MeshScene
scene = record {
  occupied = [];
  centres = [];
  boxes = [];
  scales = [];
  clearance = f0;
  corners = [];
  twins = [];
  lines = [];
}

abbrev pub wishes : ℕ → List ℕ
wishes least_step = map bits_of (RoutingRoute.rounds_to scene (routes least_step) 1)

abbrev pub box : Float → Float → Float → Float → Box
box a b c d = record { left = a; top = b; right = c; bottom = d }

-- a station of two buses with these coordinates and this box: the overlaps that its audit counts, and the displacement
abbrev pub displaced : List Float → List Float → List ℕ
displaced xy boxes =
    let kv : ℕ = 0x4059_0000_0000_0000 in
    let c =
    AuditAnswer.audit_of (AuditLists.drawn (0 ∷ 0 ∷ []) (kv ∷ kv ∷ []) [] [] xy boxes [] [] []) (figures 1 0) audit_room in
    counted c.answer ++ map bits_of c.lists.displacement

-- ---- the table

pub record Row : Type 0 where
  pub gives : List ℕ
  pub says : List ℕ

unfoldable pub table : List Row
unfolding add sub mul div neg sum round units odd size span climb lt le eq of_int of_bits of_fields to_bits is_nan count_trailing_zeros audited audit_parts WallClaim.check_by WallClaim.check_after WallClaim.both_after WallClaim.draw_and_audit FloatSmall.max_of FloatSmall.min_of FloatSmall.abs_of FloatSmall.is_finite FloatSmall.clamp_of FloatHypot.grains FloatHypot.root_in FloatHypot.nearest_root FloatHypot.hypot_of FloatFloor.size_down FloatFloor.size_up FloatFloor.floor_int FloatKey.key_of OrderOrder.insert_by OrderOrder.sort_by OrderOrder.up_from OrderOrder.count OrderOrder.keep OrderTable.table_from OrderTable.joined OrderTable.strided OrderMedian.finite_of OrderMedian.insert_float OrderMedian.sort_floats OrderMedian.middle OrderMedian.median_of GeometryClip.part GeometryClip.cut GeometryClip.clip_by GeometryClip.clipped GeometryClip.hits GeometryCross.orient GeometryCross.crosses GeometryCross.parallel GeometryCross.param GeometryCross.fraction_or NeighboursNear.distance NeighboursNear.nearer NeighboursNear.nearest_to NeighboursNear.nearest NeighboursNear.near NeighboursNear.within NeighboursNear.neighbours NeighboursOverlap.meet NeighboursOverlap.overlap ChannelSpace.wish_key ChannelSpace.wish_of ChannelSpace.read_back ChannelSpace.wish_order ChannelSpace.in_order ChannelSpace.even_at ChannelSpace.forward ChannelSpace.forward_all ChannelSpace.backward ChannelSpace.crowded ChannelSpace.spaced ChannelSpace.put_all ChannelChannel.reach_on ChannelChannel.reach ChannelChannel.held ChannelChannel.channel_of MeshMesh.next MeshMesh.end_at MeshMesh.low_at MeshMesh.high_at OrderOrder.all_to MeshMesh.corner_ok MeshMesh.reversed MeshMesh.pairs MeshMesh.twin_ok MeshMesh.half_edges_ok MeshMesh.mesh_ok WalkRound.round_of WalkRound.first_at WalkRound.around WalkTrace.home_of WalkTrace.crosses_half_edge WalkTrace.leave WalkTrace.sought WalkTrace.started WalkTrace.out_by WalkTrace.pass_on WalkTrace.after WalkTrace.walk WalkTrace.traced NetworkWords.past_to NetworkWords.station_count NetworkWords.buses_in NetworkWords.bus_counts NetworkWords.occupied NetworkWords.known NetworkWords.live NetworkWords.kind_by NetworkWords.kind_for NetworkWords.kind_of NetworkWords.kinds NetworkSeed.point_of NetworkSeed.bus_point NetworkSeed.sum_to NetworkSeed.mean NetworkSeed.seed_of NetworkSeed.seeds NetworkOptions.defaults NetworkOptions.between NetworkOptions.search_fits NetworkOptions.block_option_fits NetworkOptions.block_options_fit NetworkOptions.in_range NetworkOptions.search_of NetworkRefusal.above NetworkRefusal.far_out NetworkRefusal.too_far NetworkRefusal.shape_refusal NetworkRefusal.is_voltage NetworkRefusal.stray_voltage NetworkViews.points_in NetworkViews.boxes_in StationsColumn.falling StationsColumn.column StationsColumn.columns StationsRow.has_row StationsRow.row_key StationsRow.rows_in StationsRow.row StationsRow.from_row StationsRow.to_row StationsRow.from_rows StationsRow.to_rows UnitsSize.width_for UnitsSize.height_for UnitsSize.size_for UnitsSize.sizes_for UnitsSize.sizes UnitsSize.sides UnitsUnit.coordinates UnitsUnit.spacing_of UnitsUnit.spacing UnitsUnit.typical UnitsUnit.unit_for UnitsScale.tier UnitsScale.occupied_below UnitsScale.scale_at UnitsScale.scales_of UnitsScale.scales PlacementOffset.offset_number PlacementOffset.offset_of PlacementOffset.grid_number PlacementOffset.offset_grid PlacementOffset.offsets TurnsTurns.top_to TurnsTurns.placement_order PlacementPlaceSearch.half_sides_for PlacementPlaceSearch.half_sides PlacementPlaceSearch.box_on PlacementPlaceSearch.buffered PlacementPlaceSearch.free PlacementPlaceSearch.place PlacementPlaceSearch.first_free PlacementPlaceSearch.place_for PlacementPlace.box_of PlacementPlace.next_place PlacementPlace.places_to PlacementPlace.places PlacementPlace.found_free PlacementPlace.boxes PlacementSized.largest PlacementSized.sized PlacementSized.sized_box PlacementSized.all_sized PlacementSized.ill_sized GeometryEntry.enters BoxTreeFirst.entry_at BoxTreeFirst.comes_first BoxTreeFirst.sooner BoxTreeFirst.look BoxTreeFirst.first_hit BoxTreeLength.index_length CornerCorner.corners_of CornerCorner.cost CornerCorner.cost_key CornerCorner.avoids CornerCorner.avoiding CornerCorner.cheaper CornerCorner.cheapest CornerCorner.corner DetourDetour.detour_on DetourDetour.detour_to DetourDetour.detour BarsBar.bar_x BarsBar.row_y BarsBar.span_of BarsBar.include BarsBar.include_end BarsBar.include_branch BarsBar.span_to BarsBar.bar_ends BarsBar.lengthened BarsBar.bar_for BarsBar.spans BarsBar.bars BarsBar.position BarsBar.row_end BarsExit.exit_x BarsExit.exit RunsRun.row_end_at RunsRun.led_path RunsRun.line_points RunsRun.run_for RunsRun.run_of RunsRun.runs RunsRun.apart RunsRun.pieces RunsRun.is_line RunsRun.all_pieces RunsRun.role RunsFinite.all_of RunsFinite.finite_point RunsFinite.finite_box RunsFinite.finite_bar RunsLists.flat OrderOver.over RunsLists.after RoutingRoute.vertex_of RoutingRoute.number_of RoutingRoute.make_channel RoutingRoute.with_channel RoutingRoute.crossing_of RoutingRoute.cross RoutingRoute.cross_all RoutingRoute.add_walk RoutingRoute.add_branch RoutingRoute.traced_to RoutingRoute.routing RoutingRoute.point_on RoutingRoute.point_of RoutingRoute.members RoutingRoute.exit_of RoutingRoute.wish RoutingRoute.space_one RoutingRoute.spaced_to RoutingRoute.rounds_to RoutingRoute.waypoints CrossingsClearance.clearance_of RoutingViews.exit_at RoutingViews.line_between RoutingViews.line_for RoutingViews.line_in RoutingViews.lines_in RoutingViews.scene_in RoutesRoutes.mesh_used RoutesRoutes.mesh_fits RoutesRouted.routed_in RoutesRoutes.crossings_of RoutesRoutes.route_refusal ResultsBounds.around ResultsBounds.around_all ResultsBounds.bounds_of LayoutDrawing.straight_scene LayoutDrawing.planned LayoutDrawing.led_scene LayoutDrawing.line_for LayoutDrawing.line_of LayoutDrawing.routed_scene LayoutDrawing.routed_of LayoutDrawing.waypoints_of LayoutDrawing.scene_of LayoutDrawing.drawing LayoutAnswer.short_results LayoutAnswer.short_work LayoutAnswer.early LayoutAnswer.piece_room LayoutAnswer.crossing_room LayoutAnswer.all_finite LayoutAnswer.routed_by LayoutAnswer.late_by LayoutAnswer.late LayoutAnswer.lists_of LayoutAnswer.lists_after LayoutAnswer.zeroed_work LayoutAnswer.zeroed_crossings LayoutAnswer.answer_for LayoutAnswer.call_late LayoutAnswer.call_early LayoutAnswer.layout_of FiguresFit.all_named FiguresFit.is_line FiguresFit.end_at FiguresFit.joins FiguresFit.all_join FiguresFit.moderate FiguresFit.all_moderate FiguresFit.ordered FiguresFit.all_ordered FiguresFit.fits FiguresScale.sized_ends FiguresScale.ill_drawn FiguresOverlaps.overlapping FiguresOverlaps.overlapping_pairs FiguresOverlaps.overlaps FiguresFigure.middle FiguresFigure.middles FiguresFigure.displacements FiguresFigure.shorter FiguresFigure.spacings_from FiguresFigure.spacings FiguresRelative.piece_start FiguresRelative.piece_end FiguresRelative.longer FiguresRelative.begun FiguresRelative.ratio FiguresRelative.ended FiguresRelative.relative_on FiguresRelative.relatives AuditThrough.station_at AuditThrough.crosses AuditThrough.runs_through AuditThrough.through AuditAnswer.too_short AuditAnswer.early AuditAnswer.boxes_of AuditAnswer.stations_of AuditAnswer.late_by AuditAnswer.late AuditAnswer.lists_of AuditAnswer.figures_of AuditAnswer.lists_after AuditAnswer.cleared AuditAnswer.call_late AuditAnswer.call_early AuditAnswer.audit_of ListingField.digit ListingField.closed ListingField.digits_to ListingField.limited ListingField.positive ListingField.whole ListingField.hexadecimal ListingField.pattern ListingField.minus ListingField.plus ListingField.bus_number ListingLine.begins ListingLine.bus_names ListingLine.branch_names ListingLine.and_then ListingLine.bus_line ListingLine.branch_line ListingInput.no_buses ListingInput.no_branches ListingInput.add_bus ListingInput.add_branch ListingInput.lines_to ListingInput.bus_lines ListingInput.at_end ListingInput.branch_lines ListingInput.with_branches ListingInput.with_buses ListingInput.parsed ListingInput.read ListingInput.counted FieldsSpell.glyph FieldsSpell.digits FieldsSpell.places_in FieldsSpell.number_field FieldsSpell.shown FieldsSpell.float_field ListingOutput.piece_names ListingOutput.point_fields ListingOutput.piece_line ListingOutput.listing ListingOutput.refusal FieldsSpell.put_at Listed.list_options Listed.plotted Listed.text_by Listed.text_of Listed.network_of Listed.output_of SmallHeld.held_call ListingLinePlaces.answer ListingLinePlaces.number_of NetworkRefusal.number_of
table =
    -- the worked output of `drawlist`, its bytes
    record {
      gives = Listed.output_of text;
      says =
          98 ∷ 114 ∷ 97 ∷ 110 ∷ 99 ∷ 104 ∷ 32 ∷ 114 ∷ 111 ∷ 108 ∷ 101 ∷ 32 ∷ 120 ∷ 48 ∷ 32 ∷ 121 ∷ 48 ∷ 32 ∷ 120 ∷ 49
          ∷ 32 ∷ 121 ∷ 49 ∷ 10 ∷ 48 ∷ 32 ∷ 49 ∷ 32 ∷ 66 ∷ 70 ∷ 67 ∷ 48 ∷ 48 ∷ 48 ∷ 48 ∷ 48 ∷ 48 ∷ 48 ∷ 48 ∷ 48 ∷ 48 ∷ 48
          ∷ 48 ∷ 48 ∷ 32 ∷ 66 ∷ 70 ∷ 66 ∷ 48 ∷ 48 ∷ 48 ∷ 48 ∷ 48 ∷ 48 ∷ 48 ∷ 48 ∷ 48 ∷ 48 ∷ 48 ∷ 48 ∷ 48 ∷ 32 ∷ 51 ∷ 70
          ∷ 67 ∷ 48 ∷ 48 ∷ 48 ∷ 48 ∷ 48 ∷ 48 ∷ 48 ∷ 48 ∷ 48 ∷ 48 ∷ 48 ∷ 48 ∷ 48 ∷ 32 ∷ 66 ∷ 70 ∷ 66 ∷ 48 ∷ 48 ∷ 48 ∷ 48
          ∷ 48 ∷ 48 ∷ 48 ∷ 48 ∷ 48 ∷ 48 ∷ 48 ∷ 48 ∷ 48 ∷ 10 ∷ [];
    }
    -- no buses: unit 0.45 with the defaults, bounds 0, 0, 1, 1
    ∷ record {
      gives = answer_bits (called NetworkOptions.defaults empty).answer;
      says = 0x3FDC_CCCC_CCCC_CCCD ∷ 0 ∷ 0 ∷ 0x3FF0_0000_0000_0000 ∷ 0x3FF0_0000_0000_0000 ∷ [];
    }
    -- one bus at (0, 0), fill 1/2: box −0.125, −0.25, 0.125, 0.25
    ∷ record {
      gives = map bits_of (take 4 (called (searching (pos 10)) (buses (0 ∷ []))).lists.boxes);
      says = 0xBFC0_0000_0000_0000 ∷ 0xBFD0_0000_0000_0000 ∷ 0x3FC0_0000_0000_0000 ∷ 0x3FD0_0000_0000_0000 ∷ [];
    }
    -- two such stations on one seed: search 0 leaves both there, audit overlap 1
    ∷ record { gives = two (pos 0); says = 1 ∷ 0 ∷ 0 ∷ 0 ∷ 0 ∷ [] }
    -- search 1 puts the second at (−0.5, 0)
    ∷ record { gives = two (pos 1); says = 0 ∷ 0 ∷ 0 ∷ 0xBFE0_0000_0000_0000 ∷ 0 ∷ [] }
    -- hypot(3, 4) = 5; hypot(1, 1) has bits 3FF6A09E667F3BCD
    ∷ record {
      gives = bits_of (FloatHypot.hypot_of f3 f4) ∷ bits_of (FloatHypot.hypot_of f1 f1) ∷ [];
      says = 0x4014_0000_0000_0000 ∷ 0x3FF6_A09E_667F_3BCD ∷ [];
    }
    -- floor of −0.5 is −1
    ∷ record { gives = code (FloatFloor.floor_int (bits 0xBFE0_0000_0000_0000)) ∷ []; says = code (negsuc 0) ∷ [] }
    -- piece (0, 0) to (1, 0) hits box 1, 0, 2, 1 and misses 1.5, 0, 2, 1
    ∷ record {
      gives =
          truth (GeometryClip.hits (point f0 f0) (point f1 f0) (box f1 f0 f2 f1))
          ∷ truth (GeometryClip.hits (point f0 f0) (point f1 f0) (box (bits 0x3FF8_0000_0000_0000) f0 f2 f1)) ∷ [];
      says = 1 ∷ 0 ∷ [];
    }
    -- three wishes 0.5 on 0 to 1: least step 0.25 gives 0.5, 0.75, 1; 0.5 and 0.75 give 0, 0.5, 1
    ∷ record { gives = wishes 0x3FD0_0000_0000_0000; says = 0x3FE0_0000_0000_0000 ∷ 0x3FE8_0000_0000_0000 ∷ 0x3FF0_0000_0000_0000 ∷ [] }
    ∷ record { gives = wishes 0x3FE0_0000_0000_0000; says = 0 ∷ 0x3FE0_0000_0000_0000 ∷ 0x3FF0_0000_0000_0000 ∷ [] }
    ∷ record { gives = wishes 0x3FE8_0000_0000_0000; says = 0 ∷ 0x3FE0_0000_0000_0000 ∷ 0x3FF0_0000_0000_0000 ∷ [] }
    -- offsets begin (0,0), (−1,0), (0,−1), (0,1), (1,0), (−1,−1)
    ∷ record { gives = codes (take 6 (PlacementOffset.offsets 10)); says = 0 ∷ 0 ∷ 1 ∷ 0 ∷ 0 ∷ 1 ∷ 0 ∷ 2 ∷ 2 ∷ 0 ∷ 1 ∷ 1 ∷ [] }
    -- the worked network in one call with its audit: drawn, and the audit refuses with 7 where `crossing_ways` has no room for a relative length
    ∷ record { gives = checked 0; says = 0 ∷ 7 ∷ 0xBFC0_0000_0000_0000 ∷ 0xBFB0_0000_0000_0000 ∷ 0x3FC0_0000_0000_0000 ∷ 0xBFB0_0000_0000_0000 ∷ [] }
    ∷ record { gives = checked 1; says = 0 ∷ 0 ∷ 0xBFC0_0000_0000_0000 ∷ 0xBFB0_0000_0000_0000 ∷ 0x3FC0_0000_0000_0000 ∷ 0xBFB0_0000_0000_0000 ∷ [] }
    -- one bus at (4, 2), the other absent, then at (NaN, 5): seed (2, 1), the middle of box 1, 0, 3, 2
    ∷ record { gives = displaced (f4 ∷ f2 ∷ []) (f1 ∷ f0 ∷ f3 ∷ f2 ∷ []); says = 0 ∷ 0 ∷ [] }
    ∷ record { gives = displaced (f4 ∷ f2 ∷ bits 0x7FF8_0000_0000_0000 ∷ bits 0x4014_0000_0000_0000 ∷ []) (f1 ∷ f0 ∷ f3 ∷ f2 ∷ []); says = 0 ∷ 0 ∷ [] }
    -- both absent: seed (0, 0), 5 from the middle of box 2, 3, 4, 5
    ∷ record { gives = displaced [] (f2 ∷ f3 ∷ f4 ∷ bits 0x4014_0000_0000_0000 ∷ []); says = 0 ∷ 0x4014_0000_0000_0000 ∷ [] }
    ∷ []

abbrev pub given : List Row → List (List ℕ)
given rows = map (λ (r : Row). r.gives) rows

abbrev pub said : List Row → List (List ℕ)
said rows = map (λ (r : Row). r.says) rows
