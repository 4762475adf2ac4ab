-- Answers for `text::stored::words`: at the end all fields are taken, or as many as the list holds.
use Rattle.std.proofs.Common.{rules, arith, ◌≡◌, ◌==◌, ◌++◌, ◌∙◌, sym, ap, ℕ, List, length, take, drop, map}
use Rattle.std.specs.List.{slice_split}
use Rattle.std.proofs.lemmas.List.{take-append-drop, take-map, take_min, length-take, length-map}
use Rattle.std.proofs.lemmas.Iterator.{YieldsList-from_take}
use Rattle.std.proofs.lemmas.Iterator.Splits.{YieldsList-from_slice_split}
use Rattle.std.proofs.lemmas.Iterator.Consumers.{YieldsList-end, YieldsList-at}
use Rattle.text.specs.Words.{number, words}
use Rattle.text.proofs.stored.words.Goals as goal

-- the fields' numbers at the front, and behind them what stood there
written : (n k : ℕ) (fields : List (List ℕ)) (new old : List ℕ) → k ≡ length (take n fields) → take k new ≡ map number (take n fields) → drop k new ≡ drop k old → new ≡ take k (map number fields) ++ drop k old
written n k fields new old e f b =
    let front : take k new ≡ take k (map number fields) = f ∙ ap (map number) (sym (take_min n fields) ∙ ap (λ j. take j fields) (sym (e ∙ length-take n fields))) ∙ sym (take-map number k fields) in
    sym (take-append-drop k new) ∙ rw (front, b)

pub returns : goal.returns
unfolding words
returns c =
    let end = YieldsList-end
    (YieldsList-at c.into_iter-field-iterator.ensures.into_iter_gives
    (YieldsList-from_take (length c.args.out.now)
    (YieldsList-at c.take-field-items.ensures.source
    (YieldsList-from_slice_split _ (λ b. b == 32) c.args.text.now c.split.ensures.rest c.split.ensures.done c.split.ensures.closure (λ x b q k. search rules)))
    c.take-field-items.ensures.count))
    c.loop-field.yielded _ c.loop-field.yielded_by _ _ c.in-None.is c.next.ensures.steps in
    let count : c.loop-field.count ≡ length (take (length c.args.out.now) (slice_split (λ b. b == 32) c.args.text.now)) = c.loop-field.invariant.counted ∙ end.1 in
    record {
      count = rw length-map (omega (arith, rw length-take at count));
      out_after = written _ _ _ _ _ count (c.loop-field.invariant.front ∙ ap (map number) end.0) c.loop-field.invariant.behind;
    }
