-- Answers for `offset_table::is_inside`.
use mathlib.Core.Path.{ap, ◌∙◌}
use lib.IntN.{nat_abs}
use mir.Syntax.{w32}
use mir.ValLaws.{to_z-of_z}
use Rattle.offset_table.proofs.Sizes.{inside_both, inside_not}
use Rattle.offset_table.proofs.is_inside.Goals as goal

pub returns-then-size-most : goal.returns-then-size-most
returns-then-size-most c =
    let o = c.args.offset in
    inside_both _ _ _ o (c.size.ensures ∙ ap nat_abs (to_z-of_z w32 o.a (record { sfits = c.struct_told-1.given.0.1 }))) c.if-size-most.true
    (c.size-then-size-most.ensures ∙ ap nat_abs (to_z-of_z w32 o.b (record { sfits = c.struct_told-then-size-most-1.given.1.0.1 })))

pub returns-else-size-most : goal.returns-else-size-most
returns-else-size-most c =
    let o = c.args.offset in
    inside_not _ _ o (c.size.ensures ∙ ap nat_abs (to_z-of_z w32 o.a (record { sfits = c.struct_told-1.given.0.1 }))) c.if-size-most.false
