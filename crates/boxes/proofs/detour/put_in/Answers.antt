-- Answers for `boxes::detour::put_in`.
use Rattle.boxes.proofs.detour.Shifting.{put_in_made}
use Rattle.boxes.proofs.detour.put_in.Goals as goal

pub returns : goal.returns
returns c = rw c.copy_within.ensures.after (put_in_made _ _ _ _ c.requires.in_order c.requires.has_room)
