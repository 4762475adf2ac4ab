-- Answers for `offsets::offset::offset_order`.
use Prim.Native.Nat.{suc, ◌+◌, ◌*◌}
use mathlib.Core.Path.{◌≡◌, sym, subst}
use native.Mathlib.Omega.{arith}
use Rattle.offsets.specs.Complete.{Complete}
use Rattle.offsets.proofs.Grids.{side_square, grid_offsets}
use Rattle.offsets.proofs.OffsetLaw.{offsets_complete}
use Rattle.offsets.proofs.offset.offset_order.Goals as goal

pub returns : goal.returns
returns c =
    let e : (2 * c.args.search + 1) * (2 * c.args.search + 1) ≡ suc (2 * c.args.search) * suc (2 * c.args.search) = omega arith in
    let g = grid_offsets _ _ _ _ _ _ _ e c.grid_keys.ensures c.number_first.ensures c.sort_part.ensures.order_after in
    record { how_many = e; are_offsets = g; complete = subst (Complete c.args.search) (sym g) (offsets_complete c.args.search c.requires.search_fits) }
