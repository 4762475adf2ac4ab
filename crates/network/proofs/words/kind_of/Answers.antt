-- Answers for `network::words::kind_of`.
use Rattle.network.proofs.Branches.{from_unknown, to_unknown, both_known}
use Rattle.network.proofs.words.kind_of.Goals as goal

pub returns-in_default : goal.returns-in_default
returns-in_default c =
    let both = from_unknown _ _ _ _ _ _ c.end_of.ensures c.in_default.is in record { is_kind = both.0; safe = both.1 }

pub returns-in_default-end_of : goal.returns-in_default-end_of
returns-in_default-end_of c =
    let both = to_unknown _ _ _ _ _ _ _ _ c.end_of.ensures c.end_of-2.ensures c.in-Some.is c.in_default-end_of.is in record { is_kind = both.0; safe = both.1 }

pub returns : goal.returns
returns c =
    let both = both_known _ _ _ _ _ _ _ _ _ _ _ c.end_of.ensures c.end_of-2.ensures c.in-Some.is c.in-Some-end_of.is c.live.ensures c.kind_between.ensures in record { is_kind = both.0; safe = both.1 }
