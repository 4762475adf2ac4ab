-- What the loop of `text::stored::words` keeps: the words so far stand at the front.
use Rattle.std.proofs.Common.{◌≡◌, length, map, take, drop}
use Rattle.text.specs.Words.{number}
use Rattle.text.proofs.stored.words.Given as goal

abbrev pub invariant-loop-field : goal.invariant-loop-field
invariant-loop-field l = record {
  counted : l.count ≡ length l.yielded;
  front : take l.count l.out ≡ map number (map (λ x. x.now) l.yielded);
  behind : drop l.count l.out ≡ drop l.count l.fn.out;
}
