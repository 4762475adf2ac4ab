-- Answers for `placement::free_places::place`.
use mathlib.Core.Path.{◌≡◌}
use mir.Syntax.{w32}
use mir.Val.{to_z, of_z}
use mir.ValLaws.{to_z-of_z}
use Rattle.placement.specs.Search.{place}
use Rattle.placement.proofs.free_places.place.Goals as goal

pub returns : goal.returns
unfolding place
returns c =
    let o = c.args.offset in
    let t = c.struct_told-1.given in
    let a : to_z w32 (of_z w32 o.a) ≡ o.a = to_z-of_z w32 o.a (record { sfits = t.0.1 }) in
    let b : to_z w32 (of_z w32 o.b) ≡ o.b = to_z-of_z w32 o.b (record { sfits = t.1.0.1 }) in
    simp (a, b, c.max-step.ensures)
