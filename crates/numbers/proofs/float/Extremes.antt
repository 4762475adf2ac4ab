-- Which operand a maximum, a minimum and a clamp give. Assumes nothing.
use Rattle.std.proofs.Common.{◌≡◌, Bool, true, false, cond, ap, ◌∙◌}
use lib.Ieee.{Float, lt}
use Rattle.numbers.specs.Small.{max_of, min_of, clamp_of}

-- a maximum is its second operand where that is greater, else the first
pub max_second : (a b : Float) → lt a b ≡ true → max_of a b ≡ b
unfolding max_of
max_second a b h = ap (λ (t : Bool). cond t b a) h

pub max_first : (a b : Float) → lt a b ≡ false → max_of a b ≡ a
unfolding max_of
max_first a b h = ap (λ (t : Bool). cond t b a) h

-- a minimum is its second operand where that is less, else the first
pub min_second : (a b : Float) → lt b a ≡ true → min_of a b ≡ b
unfolding min_of
min_second a b h = ap (λ (t : Bool). cond t b a) h

pub min_first : (a b : Float) → lt b a ≡ false → min_of a b ≡ a
unfolding min_of
min_first a b h = ap (λ (t : Bool). cond t b a) h

pub clamp_low : (x lo hi : Float) → lt x lo ≡ true → clamp_of x lo hi ≡ lo
unfolding clamp_of
clamp_low x lo hi h = ap (λ (t : Bool). cond t lo (cond (lt hi x) hi x)) h

pub clamp_high : (x lo hi : Float) → lt x lo ≡ false → lt hi x ≡ true → clamp_of x lo hi ≡ hi
unfolding clamp_of
clamp_high x lo hi h k = ap (λ (t : Bool). cond t lo (cond (lt hi x) hi x)) h ∙ ap (λ (t : Bool). cond t hi x) k

pub clamp_inside : (x lo hi : Float) → lt x lo ≡ false → lt hi x ≡ false → clamp_of x lo hi ≡ x
unfolding clamp_of
clamp_inside x lo hi h k = ap (λ (t : Bool). cond t lo (cond (lt hi x) hi x)) h ∙ ap (λ (t : Bool). cond t hi x) k
