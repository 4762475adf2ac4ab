-- The front of a buffer that reads fill. Assumes nothing.
use Rattle.std.proofs.Common.{◌≡◌, ℕ, ◌+◌, ◌≤◌, List, ◌++◌, Option, None, Some, Result, Ok, Err, IfOk, IfSome, length, take, drop, sym, ap, subst, ◌∙◌, arith, append-nil, drop_at, length-take-le, take_all}
use Rattle.std.proofs.lemmas.List.{take-append-le}
use Rattle.std.proofs.Math.Seq.{take-add, take-append_seam}
use Rattle.std.specs.Io.{ReadsAtMost}
use Rattle.std.specs.Io.KnownBytes.{Consumes, IsAtEnd}
use Rattle.std.proofs.KnownBytes.{Consumes-trans}

-- what was read into a part stands after the front
pub in_place : {E : Type 0} (a b : Option (List ℕ)) (r : Result ℕ E) (front part rest : List ℕ) (at : ℕ) → length front ≡ at → ReadsAtMost r part
    → IfOk r (λ n. Consumes a b (take n part)) → IfOk r (λ n. Consumes a b (take n (drop at (front ++ (part ++ rest)))))
in_place a b (Ok n) front part rest at long fits read =
    subst (Consumes a b) (sym (ap (take n) (drop_at front (part ++ rest) at long) ∙ take-append-le n part rest fits.0)) read
in_place a b (Err e) front part rest at long fits read = tt

-- a read after the front makes it longer
pub front_grown : (a b c : Option (List ℕ)) (old new : List ℕ) (at n : ℕ) → take at new ≡ take at old
    → Consumes a b (take at old) → Consumes b c (take n (drop at new)) → Consumes a c (take (at + n) new)
front_grown a b c old new at n same before read =
    subst (Consumes a c) (ap (λ l. l ++ take n (drop at new)) (sym same) ∙ sym (take-add at n new)) (Consumes-trans a b c _ _ before read)

-- where nothing is left, what was read is all there was
front_whole : (a b : Option (List ℕ)) (got : List ℕ) (k : ℕ) → length got ≤ k → Consumes a b got → IsAtEnd b → IfSome a (λ bytes. got ≡ take k bytes)
front_whole None b got k few p q = tt
front_whole (Some x) None got k few p q = absurd p
front_whole (Some x) (Some y) got k few p q =
    let all : x ≡ got = p ∙ ap (λ l. got ++ l) q ∙ append-nil got in
    sym (take_all k got few) ∙ ap (take k) (sym all)

-- a read of nothing, at the end
pub front_at_end : (a b c : Option (List ℕ)) (old new : List ℕ) (at n k : ℕ) → n ≡ 0 → at ≤ length new → at ≤ k → take at new ≡ take at old
    → Consumes a b (take at old) → Consumes b c (take n (drop at new)) → IsAtEnd c → IfSome a (λ bytes. take at new ≡ take k bytes)
front_at_end a b c old new at n k none within few same before read end =
    let here : at + n ≡ at = omega (arith, none) in
    let grown = subst (λ m. Consumes a c (take m new)) here (front_grown a b c old new at n same before read) in
    front_whole a c (take at new) k (omega (arith, length-take-le at new within, few)) grown end

-- a full buffer
front_long : (a b : Option (List ℕ)) (got : List ℕ) (k : ℕ) → length got ≡ k → Consumes a b got → IfSome a (λ bytes. got ≡ take k bytes)
front_long None b got k long p = tt
front_long (Some x) None got k long p = absurd p
front_long (Some x) (Some y) got k long p = sym (take-append_seam got y) ∙ ap (λ n. take n (got ++ y)) long ∙ ap (take k) (sym p)

pub front_full : (a b : Option (List ℕ)) (new : List ℕ) (at k : ℕ) → at ≤ length new → at ≡ k → Consumes a b (take at new) → IfSome a (λ bytes. take at new ≡ take k bytes)
front_full a b new at k within long p = front_long a b (take at new) k (length-take-le at new within ∙ long) p
