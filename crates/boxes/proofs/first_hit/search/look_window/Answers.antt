-- Answers for `boxes::first_hit::search::look_window`.
use mathlib.Core.Path.{ap, ◌∙◌}
use Prim.Native.Nat.{ℕ, ◌-◌}
use Rattle.boxes.proofs.first_hit.Turns.{window_whole}
use Rattle.boxes.proofs.first_hit.search.look_window.Goals as goal

pub returns : goal.returns
returns c =
    c.look_rows.ensures
    ∙ window_whole _ _ _ _ _ _ _ _ _ _ _ _ _ _ _
    (c.saturating_sub-i.ensures ∙ ap (λ (x : ℕ). x - 1) c.column.ensures.is_column)
    c.column-j.ensures.is_column
    (c.saturating_sub-r.ensures ∙ ap (λ (x : ℕ). x - 1) c.row.ensures.is_row)
    c.row-end.ensures.is_row
    c.look_chain-n.ensures
