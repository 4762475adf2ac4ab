-- Answers for `tansygate::audits::audit`.
use Rattle.std.proofs.Common.{ap, sym, ◌∙◌, ℕ, length}
use Prim.Native.Nat.{min}
use Rattle.lent.specs.Held.{held_network}
use Rattle.tansygate.specs.Lists.{lists_in}
use Rattle.tansygate.proofs.Findings.{same_drawn, audited_ok, audited_err}
use Rattle.tansygate.proofs.audits.audit.Goals as goal

pub returns-in-Ok : goal.returns-in-Ok
returns-in-Ok c =
    audited_ok _ _ _ _ _ _ _ _ _ _ _
    (same_drawn (held_network c.args.network.now) (lists_in c.args.lists.now) _ _ _ _ c.as_slice.ensures.value c.as_slice-2.ensures.value c.as_slice-3.ensures.value c.as_slice-4.ensures.value)
    c.audited_with-answer.ensures.answer c.audited_with-answer.ensures.lists c.in-Ok.is c.cut-lists.ensures c.in_ok-findings.ensures c.in_ok-store.ensures c.min-buses.ensures
    (c.min-stations.ensures ∙ ap (λ (k : ℕ). min k 4096) c.station_count.ensures.is_count)
    (c.len.ensures ∙ sym c.as_slice-4.ensures.len ∙ ap length c.as_slice-4.ensures.value)

pub returns-in-Err : goal.returns-in-Err
returns-in-Err c =
    audited_err _ _ _ _ _ _ _ _ _
    (same_drawn (held_network c.args.network.now) (lists_in c.args.lists.now) _ _ _ _ c.as_slice.ensures.value c.as_slice-2.ensures.value c.as_slice-3.ensures.value c.as_slice-4.ensures.value)
    c.audited_with-answer.ensures.answer c.in-Err.is c.in_ok-findings.ensures c.in_ok-store.ensures c.min-buses.ensures
    (c.min-stations.ensures ∙ ap (λ (k : ℕ). min k 4096) c.station_count.ensures.is_count)
    (c.len.ensures ∙ sym c.as_slice-4.ensures.len ∙ ap length c.as_slice-4.ensures.value)
