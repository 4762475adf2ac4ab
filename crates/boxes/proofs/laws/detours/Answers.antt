-- Answers for `boxes::laws::detours`.
use Rattle.boxes.proofs.detour.DetourSizes.{detour_is_finite}
use Rattle.boxes.proofs.laws.detours.Goals as goal

pub returns : goal.returns
returns c = detour_is_finite
