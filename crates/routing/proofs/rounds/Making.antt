-- One channel spaced, a round and rounds, by the steps of the code. Assumes nothing.
use mathlib.Core.Path.{◌≡◌, refl, ap, ◌∙◌}
use mathlib.Core.List.{List, ◌++◌, map}
use Prim.Native.Nat.{ℕ, ◌+◌, ◌-◌}
use native.Mathlib.Numerals.{add-one}
use lib.ListN.{length, drop, take}
use lib.Seq.{take_at}
use lib.Ieee.{Float}
use Rattle.numbers.specs.Table.{table}
use Rattle.numbers.proofs.order.Tables.{length_table}
use Rattle.channels.specs.declared.channel.Channel.{Channel}
use Rattle.channels.specs.Space.{wish_order, in_order, spaced, put_all}
use Rattle.channels.proofs.spacing.Spacing.{length_spaced, length_order, length_in_order}
use Rattle.routing.specs.Stages.RoundLists.{RoundLists, start_held, wish_in, read_channel, space_by, space_in, spaced_in, rounds_in}
use Rattle.channels.specs.Stages.Grouped.{member_in}

-- by its wishes, taken before any place changes
made_by : (value : Channel) (at : ℕ → ℕ) (n : ℕ) (wish : ℕ → Float) (ps ps' ways ways₁ ways₂ : List Float) (sorted sorted₂ : List ℕ)
    → ways₁ ≡ table (λ i. wish (at i)) n ++ drop n ways
    → ways₂ ≡ spaced value (in_order (take n ways₁) (wish_order (take n ways₁))) ++ drop n ways₁
    → sorted₂ ≡ wish_order (take n ways₁) ++ drop n sorted
    → ps' ≡ put_all (map at (take n sorted₂)) (take n ways₂) ps
    → ps' ≡ space_by value at n wish ps
unfolding space_by
made_by value at n wish ps ps' ways ways₁ ways₂ sorted sorted₂ h₁ h₂ h₃ h =
    let ws : List Float = table (λ i. wish (at i)) n in
    let long : length ws ≡ n = length_table (λ i. wish (at i)) n in
    let w : take n ways₁ ≡ ws = ap (take n) h₁ ∙ take_at ws (drop n ways) n long in
    let o : take n sorted₂ ≡ wish_order ws =
    ap (take n) (h₃ ∙ ap (λ (l : List Float). wish_order l ++ drop n sorted) w) ∙ take_at (wish_order ws) (drop n sorted) n (length_order ws ∙ long) in
    let t : take n ways₂ ≡ spaced value (in_order ws (wish_order ws)) =
    ap (take n) (h₂ ∙ ap (λ (l : List Float). spaced value (in_order l (wish_order l)) ++ drop n ways₁) w)
    ∙ take_at (spaced value (in_order ws (wish_order ws))) (drop n ways₁) n (length_spaced value (in_order ws (wish_order ws)) ∙ length_in_order ws ∙ long) in
    h ∙ ap (λ (l : List ℕ). put_all (map at l) (take n ways₂) ps) o ∙ ap (λ (l : List Float). put_all (map at (wish_order ws)) l ps) t

module _ (occupied : ℕ) (H : RoundLists) (c st en : ℕ) (value : Channel) (ps ps' ways ways₁ ways₂ : List Float) (sorted sorted₂ : List ℕ) where
  pub made_one : st ≡ start_held H c → en ≡ start_held H (c + 1)
      → value ≡ read_channel occupied H.centres c
      → ways₁ ≡ table (λ i. wish_in H ps (member_in H.numbers (st + i))) (en - st) ++ drop (en - st) ways
      → ways₂ ≡ spaced value (in_order (take (en - st) ways₁) (wish_order (take (en - st) ways₁))) ++ drop (en - st) ways₁
      → sorted₂ ≡ wish_order (take (en - st) ways₁) ++ drop (en - st) sorted
      → ps' ≡ put_all (map (λ j. member_in H.numbers (st + j)) (take (en - st) sorted₂)) (take (en - st) ways₂) ps
      → ps' ≡ space_in occupied H c ps
  unfolding space_in
  made_one hs he hr h₁ h₂ h₃ hp =
      let own : Channel = read_channel occupied H.centres c in
      made_by value (λ j. member_in H.numbers (st + j)) (en - st) (wish_in H ps) ps ps' ways ways₁ ways₂ sorted sorted₂ h₁ h₂ h₃ hp
      ∙ ap (λ (k : Channel). space_by k (λ j. member_in H.numbers (st + j)) (en - st) (wish_in H ps) ps) hr
      ∙ ap (λ (s : ℕ). space_by own (λ j. member_in H.numbers (s + j)) (en - s) (wish_in H ps) ps) hs
      ∙ ap (λ (e : ℕ). space_by own (λ j. member_in H.numbers (start_held H c + j)) (e - start_held H c) (wish_in H ps) ps) he

-- ---- rounds, by channels and by their number

module _ (occupied : ℕ) (H : RoundLists) (l : List Float) where
  pub spaced_none : spaced_in occupied H 0 l ≡ l
  unfolding spaced_in
  spaced_none = refl

  pub spaced_more : (c : ℕ) → spaced_in occupied H (c + 1) l ≡ space_in occupied H c (spaced_in occupied H c l)
  unfolding spaced_in
  spaced_more c = ap (λ (k : ℕ). spaced_in occupied H k l) (add-one c)

  pub rounds_none : (channels : ℕ) → rounds_in occupied H channels 0 l ≡ l
  unfolding rounds_in
  rounds_none channels = refl

  pub rounds_more : (channels i : ℕ) → rounds_in occupied H channels (i + 1) l ≡ spaced_in occupied H channels (rounds_in occupied H channels i l)
  unfolding rounds_in
  rounds_more channels i = ap (λ (k : ℕ). rounds_in occupied H channels k l) (add-one i)

pub ruleset spaced_laws = (spaced_none, spaced_more)

pub ruleset rounds_laws = (rounds_none, rounds_more)
