-- Answers for `text::stored::number`.
use Rattle.std.proofs.Common.{◌≡◌, rules, ◌∙◌}
use Rattle.std.specs.List.{fold}
use Rattle.text.proofs.stored.Numbers.{with_digit, folded}
use Rattle.text.proofs.stored.number.Goals as goal

pub returns : goal.returns
returns c = let it : c.fold.result ≡ fold with_digit 0 c.args.digits.now = search rules in it ∙ folded c.args.digits.now
