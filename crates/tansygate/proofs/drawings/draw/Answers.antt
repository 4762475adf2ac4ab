-- Answers for `tansygate::drawings::draw`.
use Rattle.std.proofs.Common.{ap, ◌∙◌, ℕ}
use Prim.Native.Nat.{min}
use Rattle.tansygate.proofs.Drew.{drew_ok, drew_err}
use Rattle.tansygate.proofs.drawings.draw.Goals as goal

pub returns-in-Ok : goal.returns-in-Ok
returns-in-Ok c =
    drew_ok _ _ _ _ _ _ _ _ _ _ _ _ _ _ _ _ _ _ c.drawn_with-answer.ensures.answer c.drawn_with-answer.ensures.lists c.in-Ok.is c.cut-lists.ensures c.min-drawn.ensures
    c.in_ok-lists.ensures c.in_ok-store.ensures.work c.in_ok-store.ensures.crossings c.min-buses.ensures c.min-branches.ensures
    (c.min-stations.ensures ∙ ap (λ (k : ℕ). min k 4096) c.station_count.ensures.is_count) c.min-mesh.ensures c.min-pieces.ensures c.min-crossings.ensures
    c.max-sorts.ensures

pub returns-in-Err : goal.returns-in-Err
returns-in-Err c =
    drew_err _ _ _ _ _ _ _ _ _ _ _ _ _ _ _ c.drawn_with-answer.ensures.answer c.in-Err.is
    c.in_ok-lists.ensures c.in_ok-store.ensures.work c.in_ok-store.ensures.crossings c.min-buses.ensures c.min-branches.ensures
    (c.min-stations.ensures ∙ ap (λ (k : ℕ). min k 4096) c.station_count.ensures.is_count) c.min-mesh.ensures c.min-pieces.ensures c.min-crossings.ensures
    c.max-sorts.ensures
