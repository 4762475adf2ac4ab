-- What a list holds that was written as some numbers for each element, whatever follows: the numbers of each element, side by side. Assumes nothing.
use Prim.Native.Nat.{ℕ, zero, suc, ◌+◌, ◌*◌, ◌<◌}
use mathlib.Core.Path.{◌≡◌, refl, sym, ap, ap₂, subst, ◌∙◌}
use mathlib.Core.List.{List, [], ◌∷◌, ◌++◌, map, append_assoc}
use native.Mathlib.Omega.{arith}
use native.Mathlib.Nat.{not-suc-le-zero, le_of_suc-le-suc}
use lib.ListN.{length, get_or, length-map, get_or-append, get_or-map}
use lib.Seq.{get_or-append-add}
use lib.Ieee.{Float, nan}
use Rattle.numbers.proofs.order.Tables.{get_d_any}
use Rattle.numbers.proofs.order.Strides.{is_table}
use Rattle.plane.specs.declared.geometry.Box.{Box}
use Rattle.plane.specs.Plane.{point, point_at, box_at, origin, box_in, no_box}
use Rattle.stations.specs.declared.bars.Bar.{Bar}
use Rattle.stations.specs.Bar.{position, bar_at}
use Rattle.runs.specs.Run.{Piece}
use Rattle.runs.specs.Lists.{flat, point_numbers, box_numbers, bar_numbers, piece_numbers}
use Rattle.audit.specs.Relative.{piece_start, piece_end}
use Rattle.drawing.specs.Network.{Lists}
use Rattle.wall.specs.Wall.{piece_in, pieces_in}

module _ {A B : Type 0} (f : A → List B) (c : ℕ) (L : (x : A) → length (f x) ≡ c) where
  pub flat_length : (xs : List A) → length (flat f xs) ≡ c * length xs
  unfolding flat
  flat_length [] = omega arith
  flat_length (x ∷ xs) =
      let h : length (flat f xs) ≡ c * length xs = flat_length xs in
      let k : length (f x) ≡ c = L x in
      let a : length (f x ++ flat f xs) ≡ length (f x) + length (flat f xs) = lib.ListN.length-append (f x) (flat f xs) in
      let b : length (x ∷ xs) ≡ suc (length xs) = refl in
      let d : c * length (x ∷ xs) ≡ c * length xs + c = omega arith in
      omega (arith, a, h, k, d)

  pub flat_at : (xs : List A) (rest : List B) (i j : ℕ) (d : A) (n : B) → i < length xs → j < c
      → get_or (flat f xs ++ rest) (c * i + j) n ≡ get_or (f (get_or xs i d)) j n
  unfolding flat
  flat_at [] rest i j d n h k = absurd (not-suc-le-zero h)
  flat_at (x ∷ xs) rest zero j d n h k =
      let e : c * 0 + j ≡ j = omega arith in
      ap (λ (t : ℕ). get_or ((f x ++ flat f xs) ++ rest) t n) e
      ∙ ap (λ (l : List B). get_or l j n) (append_assoc (f x) (flat f xs) rest)
      ∙ get_or-append (f x) (flat f xs ++ rest) n j (subst (λ (t : ℕ). j < t) (sym (L x)) k)
  flat_at (x ∷ xs) rest (suc i) j d n h k =
      let l : length (f x) ≡ c = L x in
      let e : c * suc i + j ≡ length (f x) + (c * i + j) = omega (arith, l) in
      ap (λ (t : ℕ). get_or ((f x ++ flat f xs) ++ rest) t n) e
      ∙ ap (λ (m : List B). get_or m (length (f x) + (c * i + j)) n) (append_assoc (f x) (flat f xs) rest)
      ∙ get_or-append-add (f x) (flat f xs ++ rest) (c * i + j) n
      ∙ flat_at xs rest i j d n (le_of_suc-le-suc h) k

  pub flat_first : (xs : List A) (rest : List B) (i : ℕ) (d : A) (n : B) → i < length xs → 0 < c
      → get_or (flat f xs ++ rest) (c * i) n ≡ get_or (f (get_or xs i d)) 0 n
  flat_first xs rest i d n h k =
      let e : c * i ≡ c * i + 0 = omega arith in
      ap (λ (t : ℕ). get_or (flat f xs ++ rest) t n) e ∙ flat_at xs rest i 0 d n h k

-- the two numbers of `positions`
pub read_position : (bs : List Bar) (rest : List Float) (i : ℕ) → i < length bs
    → point_at (flat (λ (b : Bar). point_numbers (position b)) bs ++ rest) i ≡ position (bar_at bs i)
read_position bs rest i h =
    ap₂ point
    (flat_first (λ (b : Bar). point_numbers (position b)) 2 (λ x. refl) bs rest i _ nan h (omega arith))
    (flat_at (λ (b : Bar). point_numbers (position b)) 2 (λ x. refl) bs rest i 1 _ nan h (omega arith))

-- the four numbers of a bar
pub read_bar : (bs : List Bar) (rest : List Float) (i j : ℕ) → i < length bs → j < 4 → get_or (flat bar_numbers bs ++ rest) (4 * i + j) nan ≡ get_or (bar_numbers (bar_at bs i)) j nan
read_bar bs rest i j h k = flat_at bar_numbers 4 (λ x. refl) bs rest i j _ nan h k

pub read_bar_x : (bs : List Bar) (rest : List Float) (i : ℕ) → i < length bs → get_or (flat bar_numbers bs ++ rest) (4 * i) nan ≡ (bar_at bs i).x
read_bar_x bs rest i h = flat_first bar_numbers 4 (λ x. refl) bs rest i _ nan h (omega arith)

-- the four numbers of a box
pub read_box : (bs : List Box) (rest : List Float) (s : ℕ) → s < length bs → box_at (flat box_numbers bs ++ rest) s ≡ box_in bs s
read_box bs rest s h =
    let a = flat_first box_numbers 4 (λ x. refl) bs rest s no_box nan h (omega arith) in
    let b = flat_at box_numbers 4 (λ x. refl) bs rest s 1 no_box nan h (omega arith) in
    let c = flat_at box_numbers 4 (λ x. refl) bs rest s 2 no_box nan h (omega arith) in
    let d = flat_at box_numbers 4 (λ x. refl) bs rest s 3 no_box nan h (omega arith) in
    rw (a, b, c, d) refl

pub read_one : {A : Type 0} (xs rest : List A) (s : ℕ) (d e : A) → s < length xs → get_or (xs ++ rest) s d ≡ get_or xs s e
read_one xs rest s d e h = get_or-append xs rest d s h ∙ get_d_any xs s d e h

-- the pieces of the two lists
abbrev branch : Piece → ℕ
branch q = q.branch

nowhere : Piece
nowhere = record { branch = 0; start = origin; end = origin }

pub read_pieces : (ps : List Piece) (rest : List Float) (more : List ℕ) (L : Lists)
    → L.pieces ≡ flat piece_numbers ps ++ rest → L.branches ≡ map (λ (q : Piece). q.branch) ps ++ more → pieces_in L (length ps) ≡ ps
unfolding pieces_in nowhere piece_start piece_end
read_pieces ps rest more L e f = sym (is_table (piece_in L) (length ps) ps nowhere refl (λ k h. sym (at k h)))
  where
    number : (k : ℕ) → k < length ps → get_or L.branches k 0 ≡ (get_or ps k nowhere).branch
    number k h =
        ap (λ (l : List ℕ). get_or l k 0) f
        ∙ get_or-append (map branch ps) more 0 k (subst (λ (t : ℕ). k < t) (sym (length-map ps branch)) h) ∙ get_or-map branch ps k nowhere

    place : (k j : ℕ) → k < length ps → j < 4 → get_or L.pieces (4 * k + j) nan ≡ get_or (piece_numbers (get_or ps k nowhere)) j nan
    place k j h l = ap (λ (m : List Float). get_or m (4 * k + j) nan) e ∙ flat_at piece_numbers 4 (λ x. refl) ps rest k j nowhere nan h l

    head : (k : ℕ) → k < length ps → get_or L.pieces (4 * k) nan ≡ (get_or ps k nowhere).start.x
    head k h = ap (λ (m : List Float). get_or m (4 * k) nan) e ∙ flat_first piece_numbers 4 (λ x. refl) ps rest k nowhere nan h (omega arith)

    at : (k : ℕ) → k < length ps → piece_in L k ≡ get_or ps k nowhere
    at k h =
        let n = number k h in
        let a = head k h in
        let b = place k 1 h (omega arith) in
        let c = place k 2 h (omega arith) in
        let d = place k 3 h (omega arith) in
        rw (n, a, b, c, d) refl
