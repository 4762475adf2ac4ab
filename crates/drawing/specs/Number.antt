-- The number of a layout call, and what such a call gives (docs/RULES.md, 'Refusals'). Definitions only.
use Rattle.std.specs.Prelude.{ℕ, ◌≡◌, not, ◌||◌, ltb, length}
use Rattle.network.specs.declared.options.Options.{Options}
use Rattle.network.specs.Options.{in_range}
use Rattle.network.specs.Words.{station_count, occupied}
use Rattle.network.specs.Refusal.{refuse, number_of, too_many, kv_unlike, to_unlike, number_too_high, stray_voltage}
use Rattle.network.specs.Refusal.{too_far}
use Rattle.placement.specs.Sized.{ill_sized}
use Rattle.drawing.specs.declared.lengths.ListLengths.{ListLengths}
use Rattle.drawing.specs.Network.{Network, Lists, Work, Crossings}
use Rattle.drawing.specs.Drawing.{drawing}
use Rattle.drawing.specs.Answer.{room_of, mesh_length, short_results, short_work, crossing_room, piece_room, Call}
use Rattle.drawing.specs.Answer.{layout_of}

-- The refusals in their order (docs/RULES.md, 'Order of refusals'): 15 stands directly after 4, although its number is
-- higher. The first row whose condition holds gives the number, 0 where none does.
-- 9 and 10 are skipped with fewer than three occupied stations or 0 iterations: the mesh then fits and there are no
-- crossings.
unfoldable pub layout_number : Options → Network → ListLengths → ℕ
layout_number O N R =
    let n = length N.station in
    let m = length N.from in
    let d = drawing O N in
    refuse (too_many N.station N.from) 1
    (refuse (kv_unlike N.station N.kv) 2
    (refuse (to_unlike N.from N.to) 3
    (refuse (number_too_high N.station) 4
    (refuse (stray_voltage N.kv) 15
    (refuse (not (in_range O)) 5
    (refuse (too_far n N.xy) 6
    (refuse (short_results n m (station_count N.station) R || short_work n m (mesh_length N) R) 7
    (refuse (ill_sized d.boxes (occupied d.counts)) 8
    (refuse (not d.mesh_fits) 9
    (refuse (ltb (crossing_room R) (length d.crossings)) 10
    (refuse (ltb (piece_room R.pieces R.branches) (length d.pieces)) 11 0)))))))))))

-- What a call gives: its answer's number by the table above, and by one equation the answer and what each lent list
-- holds after it.
pub record Answered (O : Options) (N : Network) (L : Lists) (W : Work) (X : Crossings) (C : Call) : Type 0 where
  pub number : number_of C.answer ≡ layout_number O N (room_of L W X)
  pub is : C ≡ layout_of O N L W X
