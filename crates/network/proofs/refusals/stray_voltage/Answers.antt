-- Answers for `network::refusals::stray_voltage`.
use Rattle.std.proofs.Common.{◌≡◌, ℕ, ◌<◌, true, false, not, length, get_or, MatchBool, rules}
use Rattle.network.specs.Refusal.{is_voltage, stray_voltage}
use Rattle.network.proofs.refusals.Refusals.{found_or_none}
use Rattle.network.proofs.refusals.stray_voltage.Goals as goal

pub returns : goal.returns
unfolding stray_voltage
returns c =
    let kv = c.args.kv.now in
    let h : MatchBool c.any.result ((k : ℕ) × (k < length kv) × (not (is_voltage (get_or kv k 0)) ≡ true)) ((k : ℕ) → k < length kv → not (is_voltage (get_or kv k 0)) ≡ false) = search rules in
    found_or_none (λ k. not (is_voltage (get_or kv k 0))) (length kv) c.any.result h
