-- Text written into a list, part after part. Assumes nothing.
use mathlib.Core.Path.{◌≡◌, refl, ap, ◌∙◌}
use mathlib.Core.List.{List, [], ◌∷◌, ◌++◌, append_assoc}
use Prim.Native.Nat.{ℕ, ◌+◌, ◌*◌, ◌^◌, ◌≤◌, ◌<◌}
use native.Mathlib.Omega.{arith}
use native.Mathlib.Numerals.{add-one}
use lib.ListN.{length, get_or, take, drop, length-append}
use lib.Seq.{take-append_seam}
use lib.Ieee.{Float, nan}
use Rattle.std.proofs.lemmas.Grind.{common_steps}
use Rattle.std.proofs.lemmas.List.Edits.{sets-eq}
use Rattle.numbers.specs.Table.{joined}
use Rattle.numbers.proofs.order.Tables.{joined_zero}
use Rattle.numbers.specs.Over.{over}
use Rattle.text.specs.Output.{point_fields, piece_line, piece_names, listing, refusal}
use Rattle.text.specs.Spell.{number_field, float_field, put_at}
use Rattle.text.proofs.fields.Spelling.{put_two, put_over, number_length, u32_places, few_places, float_length}

-- nothing put, and one part after another
pub put_none : (l : List ℕ) (i : ℕ) → put_at l i [] ≡ l
unfolding put_at
put_none l i = refl

pub put_next : (a b l : List ℕ) (i j : ℕ) → j ≡ i + length a → put_at (put_at l i a) j b ≡ put_at l i (a ++ b)
put_next a b l i j e = ap (λ (n : ℕ). put_at (put_at l i a) n b) e ∙ put_two a b l i

-- s is written into l from `at` on, and then the list is l' and the next place r
abbrev pub Wrote : List ℕ → ℕ → List ℕ → List ℕ → ℕ → Type 0
Wrote l at s l' r = (r ≡ at + length s) × (l' ≡ put_at l at s)

pub wrote_two : (l l' l'' a b : List ℕ) (at r r' : ℕ) → Wrote l at a l' r → Wrote l' r b l'' r' → Wrote l at (a ++ b) l'' r'
wrote_two l l' l'' a b at r r' h k = (
  omega (arith, h.0, k.0, length-append a b),
  k.1 ∙ ap (λ (n : ℕ). put_at l' n b) h.0 ∙ ap (λ (t : List ℕ). put_at t (at + length a) b) h.1 ∙ put_two a b l at,
)

-- ---- lengths
pub number_room : (stop n : ℕ) → n < 2 ^ 32 → length (number_field stop n) ≤ 11
number_room stop n h = omega (arith, number_length stop n, u32_places n h)

pub role_room : (stop n : ℕ) → n < 2 ^ 8 → length (number_field stop n) ≤ 4
role_room stop n h = omega (arith, number_length stop n, few_places 2 n n (omega arith))

pub point_length : (stop : ℕ) (pieces : List Float) (j : ℕ) → length (point_fields stop pieces j) ≡ 34
unfolding point_fields
point_length stop pieces j =
    length-append (float_field 32 (get_or pieces j nan)) (float_field stop (get_or pieces (j + 1) nan))
    ∙ omega (arith, float_length 32 (get_or pieces j nan), float_length stop (get_or pieces (j + 1) nan))

-- ---- the parts of a line
pub point_parts : (stop : ℕ) (pieces : List Float) (j : ℕ)
    → point_fields stop pieces j ≡ float_field 32 (get_or pieces j nan) ++ float_field stop (get_or pieces (j + 1) nan)
unfolding point_fields
point_parts stop pieces j = refl

pub line_parts : (roles : List ℕ) (pieces : List Float) (branches : List ℕ) (i : ℕ) → piece_line roles pieces branches i
    ≡ number_field 32 (get_or branches i 0) ++ (number_field 32 (get_or roles (get_or branches i 0) 0) ++ (point_fields 32 pieces (4 * i) ++ point_fields 10 pieces (4 * i + 2)))
unfolding piece_line
line_parts roles pieces branches i = refl

-- ---- the parts of a text
pub listing_parts : (roles : List ℕ) (pieces : List Float) (branches : List ℕ) (count : ℕ)
    → listing roles pieces branches count ≡ piece_names ++ joined (piece_line roles pieces branches) count
unfolding listing
listing_parts roles pieces branches count = refl

pub refusal_parts : (n : ℕ) → refusal n ≡ (114 ∷ 101 ∷ 102 ∷ 117 ∷ 115 ∷ 101 ∷ 100 ∷ 32 ∷ []) ++ number_field 10 n
unfolding refusal
refusal_parts n = refl

-- ---- the texts of 0, .., i
pub joined_more : (f : ℕ → List ℕ) (i : ℕ) → joined f (i + 1) ≡ joined f i ++ f i
unfolding joined
joined_more f i = ap (joined f) (add-one i)

pub ruleset word_laws = (common_steps, sets-eq)

pub ruleset write_laws = (put_next, length-append, append_assoc)

pub ruleset point_laws = (write_laws, point_parts, float_length)

pub ruleset lines_laws = (write_laws, put_none, joined_zero, joined_more)

pub ruleset text_laws = (write_laws, put_over, listing_parts, refusal_parts, number_room)

pub ruleset piece_laws = (write_laws, line_parts, number_room, role_room, point_length)

-- the front of a list that s was written over
pub take_over : {A : Type 0} (s l : List A) → take (length s) (over s l) ≡ s
unfolding over
take_over s l = take-append_seam s (drop (length s) l)

pub over_room : {A : Type 0} (s l : List A) → length s ≤ length (over s l)
unfolding over
over_room s l = omega (arith, length-append s (drop (length s) l))

-- A list keeps its length where what is written over it is no longer.
pub written_fits : {A : Type 0} (new old list : List A) → list ≡ over new old → length list ≡ length old → length new ≤ length old
unfolding over
written_fits new old list e h =
    let k : length list ≡ length new + length (drop (length new) old) = ap length e ∙ length-append new (drop (length new) old) in omega (arith, k, h)

-- a writer that is lent as much of a list as a text's length takes the text that was written over its front
pub ruleset front_laws = (take_over, over_room, common_steps)

-- What is printed of one text is printed of an equal one.
pub printed : (s t : List ℕ) (out behind : List ℕ) (r : ℕ)
    → s ≡ t → r ≡ length s → behind ≡ over s out → (r ≡ length t) × (behind ≡ over t out)
printed s t out behind r e h k = (h ∙ ap length e, k ∙ ap (λ (x : List ℕ). over x out) e)
