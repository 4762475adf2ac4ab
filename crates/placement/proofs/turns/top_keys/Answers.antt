-- Answers for `turns::turns::top_keys`.
use Prim.Native.Nat.{◌<◌}
use mathlib.Core.Path.{◌≡◌, refl, ap, ◌∙◌}
use native.Mathlib.Omega.{arith}
use lib.ListN.{length, length-set, get_or}
use Rattle.stations.specs.Column.{falling}
use Rattle.placement.proofs.turns.Queue.{lowered_none, lowered_yes, lowered_no}
use borrow.Author.Rules.{rules}
use Rattle.placement.proofs.turns.top_keys.Goals as goal
use Rattle.placement.proofs.turns.top_keys.Goals.{then-v-keys, else-v-keys}

pub loop-i-init : goal.loop-i-init
loop-i-init c =
    (omega arith, refl, lowered_none c.args.lent.now.sub.now c.args.lent.now.kv.now c.args.station_total c.args.keys.now c.requires.keys_highest)

pub loop-i-preserved : goal.loop-i-preserved
loop-i-preserved c =
    elim c.if-v-keys.branch [
      | then-v-keys w ↦ rw w.keys-is ((
        omega arith,
        simp length-set (omega arith),
        lowered_yes c.args.lent.now.sub.now c.args.lent.now.kv.now c.args.station_total c.loop-i.keys c.loop-i.i _ c.loop-i.invariant.2 (c.falling-v.ensures ∙ ap falling c.key_of_bits.ensures) (c.requires.stations_below c.loop-i.i (omega arith)) w.if-v-keys.true (omega arith),
      ))
      | else-v-keys w ↦ rw w.keys-is ((
        omega arith,
        omega arith,
        lowered_no c.args.lent.now.sub.now c.args.lent.now.kv.now c.args.station_total c.loop-i.keys c.loop-i.i _ c.loop-i.invariant.2 (c.falling-v.ensures ∙ ap falling c.key_of_bits.ensures) (c.requires.stations_below c.loop-i.i (omega arith)) w.if-v-keys.false,
      ))
    ]
