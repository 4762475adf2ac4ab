-- Answers for `turns::turns::placement_order`.
use Prim.Native.Nat.{ℕ, ◌≤◌}
use mathlib.Core.Path.{◌≡◌, sym, subst}
use native.Mathlib.Omega.{arith}
use lib.ListN.{length, take}
use lib.Seq.{length-take-le}
use Rattle.network.specs.Views.{order_in}
use Rattle.placement.proofs.turns.Queue.{listed_le, bus_below, order_found}
use Rattle.placement.proofs.turns.placement_order.Goals as goal

pub sort_part-requires : goal.sort_part-requires
sort_part-requires c =
    let h : c.list_occupied-r.result ≤ c.args.station_total = listed_le _ _ _ _ _ c.list_occupied-r.ensures in
    record { in_order = omega arith; within_order = omega (arith, h, c.requires, c.list_occupied-r.auto); within_spare = omega (arith, h, c.requires) }

pub top_keys-requires-clause-keys_room : goal.top_keys-requires-clause-keys_room
top_keys-requires-clause-keys_room c = omega (arith, c.requires, c.list_occupied-r.auto, c.fill_keys.auto)

pub top_keys-requires-clause-stations_below : goal.top_keys-requires-clause-stations_below
top_keys-requires-clause-stations_below c = bus_below _ c.args.stations.now _ c.requires.bus_counts

pub top_keys-requires-clause-keys_highest : goal.top_keys-requires-clause-keys_highest
top_keys-requires-clause-keys_highest c = c.fill_keys.ensures

pub sort_part-requires-2 : goal.sort_part-requires-2
sort_part-requires-2 c =
    let h : c.list_occupied-r.result ≤ c.args.station_total = listed_le _ _ _ _ _ c.list_occupied-r.ensures in
    record { in_order = omega arith; within_order = omega (arith, h, c.requires, c.list_occupied-r.auto, c.sort_part.auto); within_spare = omega (arith, h, c.requires, c.sort_part.auto) }

pub put_order-requires : goal.put_order-requires
put_order-requires c =
    let h : c.list_occupied-r.result ≤ c.args.station_total = listed_le _ _ _ _ _ c.list_occupied-r.ensures in
    let e : length (take c.list_occupied-r.result c.sort_part-2.new.order) ≡ c.list_occupied-r.result = length-take-le c.list_occupied-r.result c.sort_part-2.new.order (omega (arith, h, c.requires, c.list_occupied-r.auto, c.sort_part.auto, c.sort_part-2.auto)) in
    omega (arith, e, h, c.requires)

pub slice_bounds-put_order-end : goal.slice_bounds-put_order-end
slice_bounds-put_order-end c =
    let h : c.list_occupied-r.result ≤ c.args.station_total = listed_le _ _ _ _ _ c.list_occupied-r.ensures in
    omega (arith, h, c.requires, c.list_occupied-r.auto, c.sort_part.auto, c.sort_part-2.auto)

pub slice_bounds-put_order-end-2 : goal.slice_bounds-put_order-end-2
slice_bounds-put_order-end-2 c =
    let h : c.list_occupied-r.result ≤ c.args.station_total = listed_le _ _ _ _ _ c.list_occupied-r.ensures in
    sym (length-take-le c.list_occupied-r.result c.sort_part-2.new.order (omega (arith, h, c.requires, c.list_occupied-r.auto, c.sort_part.auto, c.sort_part-2.auto)))

pub returns : goal.returns
returns c =
    let h : c.list_occupied-r.result ≤ c.args.station_total = listed_le _ _ _ _ _ c.list_occupied-r.ensures in
    let e : length (take c.list_occupied-r.result c.sort_part-2.new.order) ≡ c.list_occupied-r.result = length-take-le c.list_occupied-r.result c.sort_part-2.new.order (omega (arith, h, c.requires, c.list_occupied-r.auto, c.sort_part.auto, c.sort_part-2.auto)) in
    let placed = subst (λ (n : ℕ). order_in n c.put_order.new.stations ≡ take c.list_occupied-r.result c.sort_part-2.new.order) e c.put_order.ensures.order_written in
    let both = order_found c.args.lent.now.sub.now c.args.lent.now.kv.now c.args.station_total c.args.stations.now _ c.list_occupied-r.new.keys c.top_keys.new.keys _ _ _ _ c.requires.bus_counts c.list_occupied-r.ensures c.sort_part.ensures.order_after c.top_keys.ensures c.sort_part-2.ensures.order_after placed c.put_order.ensures.bus_counts_kept in record { occupied_count = both.0.0; upper_bound = both.0.1; order_written = both.1.0; turns = both.1.1.0; bus_counts_kept = both.1.1.1 }
