-- Answers for `audit::overlaps::list_occupied`.
use mathlib.Core.Path.{◌≡◌, sym, ap, ◌∙◌}
use mathlib.Core.List.{List, ◌∷◌, [], ◌++◌}
use Prim.Native.Nat.{ℕ, ◌+◌, ◌*◌, ◌<◌}
use native.Mathlib.Omega.{arith}
use native.Mathlib.Numerals.{add-one}
use lib.ListN.{length, get_or, set, take}
use lib.Seq.{take-suc-set}
use Rattle.network.proofs.Occupied.{passed, passed_count, passed_all, count_all, count_no, count_yes, passed_no, passed_yes, has_buses, has_none}
use Rattle.numbers.proofs.order.Tables.{how_many_zero, which_zero}
use Rattle.audit.proofs.overlaps.list_occupied.Goals as goal
use Rattle.audit.proofs.overlaps.list_occupied.Goals.{then-is_occupied, else-is_occupied}

listed_more : (k : ℕ) (st o : List ℕ) (s c : ℕ) → s < k → 0 < get_or st (2 * s) 0 → c < length o → take c o ≡ passed k st s → take (c + 1) (set o c s) ≡ passed k st (s + 1)
listed_more k st o s c h g l e =
    rw (add-one c, passed_yes k st s h g) (take-suc-set o c s l ∙ ap (λ (t : List ℕ). t ++ (s ∷ [])) e)

pub loop-s-init : goal.loop-s-init
loop-s-init c = (omega arith, sym (how_many_zero _), sym (which_zero _))

pub loop-s-preserved : goal.loop-s-preserved
loop-s-preserved c =
    let v = c.loop-s.invariant in
    let h = c.loop-s-test.true in
    let l : c.loop-s.c < length c.loop-s.order = omega arith in
    elim c.if-is_occupied.branch [
      | then-is_occupied w ↦ rw (w.order-is, w.c-is) (omega arith, count_yes _ _ _ h (has_buses _ _ c.is_occupied.ensures w.if-is_occupied.true) _ v.1, listed_more _ _ _ _ _ h (has_buses _ _ c.is_occupied.ensures w.if-is_occupied.true) l v.2)
      | else-is_occupied w ↦ rw (w.order-is, w.c-is) (omega arith, count_no _ _ _ h _ (has_none _ _ c.is_occupied.ensures w.if-is_occupied.false) v.1, v.2 ∙ passed_no _ _ _ h (has_none _ _ c.is_occupied.ensures w.if-is_occupied.false))
    ]

pub returns-clause-listed : goal.returns-clause-listed
returns-clause-listed c = let e : c.loop-s.s ≡ c.args.few.now.placed.k = omega arith in c.loop-s.invariant.2 ∙ ap (passed c.args.few.now.placed.k c.args.few.now.placed.stations.now) e ∙ passed_all _ _

pub returns-clause-counted : goal.returns-clause-counted
returns-clause-counted c =
    let e : c.loop-s.s ≡ c.args.few.now.placed.k = omega arith in
    c.loop-s.invariant.1 ∙ ap (passed_count c.args.few.now.placed.k c.args.few.now.placed.stations.now) e ∙ count_all _ _

pub returns-clause-few : goal.returns-clause-few
returns-clause-few c = omega arith
