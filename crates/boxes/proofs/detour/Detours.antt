-- A path that is led round boxes: piece by piece; at most four points more, and the same ends. Assumes nothing.
use mathlib.Core.Path.{◌≡◌, refl, sym, ap, ◌∙◌}
use mathlib.Core.List.{List, [], ◌∷◌, ◌++◌, append_assoc}
use Prim.Native.Nat.{ℕ, zero, suc, ◌+◌, ◌-◌, ◌*◌, ◌≤◌, ◌<◌}
use native.Mathlib.Omega.{arith}
use lib.ListN.{length, take}
use lib.Ieee.{Float}
use Rattle.plane.specs.declared.geometry.Point.{Point}
use Rattle.plane.specs.declared.geometry.Box.{Box}
use Rattle.plane.specs.Plane.{point_at, box_in}
use Rattle.std.specs.Prelude.{Option, Some, None}
use Rattle.boxes.specs.First.{first_hit}
use Rattle.boxes.specs.Corner.{corner}
use Rattle.boxes.specs.Detour.{detour_on, detour_to, detour}
use Rattle.boxes.specs.Stages.Paths.{path_in, PutIn, Led}
use Rattle.boxes.proofs.detour.Shifting.{point_before, path_zero, path_more, path_cons, path_join, path_kept, path_moved, length_path}

-- the last point of p, rest
abbrev pub last_of : Point → List Point → Point
last_of p [] = p
last_of p (q ∷ rest) = last_of q rest

-- the path p, rest led on: it begins with p, ends where it ended, and is at most n longer
pub record Leads (n : ℕ) (p : Point) (rest : List Point) (out : List Point) : Type 0 where
  pub tail : List Point
  pub begins : out ≡ p ∷ tail
  pub ends : last_of p tail ≡ last_of p rest
  pub short : length tail ≤ n + length rest

module _ (boxes : List Box) (occ : List ℕ) (clearance : Float) (a b : ℕ) where
  on : (n : ℕ) (again : List Point → List Point) → ((p : Point) (rest : List Point) → Leads n p rest (again (p ∷ rest)))
      → (p : Point) (rest : List Point) → Leads (suc n) p rest (detour_on boxes occ clearance a b again p rest)
  unfolding detour_on
  on n again h p [] = record { tail = []; begins = refl; ends = refl; short = omega arith }
  on n again h p (q ∷ rest) = go (first_hit boxes occ p q a b) (on n again h q rest)
    where
      go : (f : Option ℕ) → Leads (suc n) q rest (detour_on boxes occ clearance a b again q rest)
          → Leads (suc n) p (q ∷ rest) (elim f [ None ↦ p ∷ detour_on boxes occ clearance a b again q rest | Some s ↦ again (p ∷ corner p q (box_in boxes s) clearance ∷ q ∷ rest) ])
      go None r = record { tail = q ∷ r.tail; begins = ap (λ l. p ∷ l) r.begins; ends = r.ends; short = omega arith }
      go (Some s) r = let t = h p (corner p q (box_in boxes s) clearance ∷ q ∷ rest) in record { tail = t.tail; begins = t.begins; ends = t.ends; short = omega (arith, t.short) }

  to : (n : ℕ) (p : Point) (rest : List Point) → Leads n p rest (detour_to boxes occ clearance a b n (p ∷ rest))
  unfolding detour_to
  to zero p rest = record { tail = rest; begins = refl; ends = refl; short = omega arith }
  to (suc n) p rest = on n (detour_to boxes occ clearance a b n) (to n) p rest

  -- the path p, rest led round boxes
  pub leads : (p : Point) (rest : List Point) → Leads 4 p rest (detour boxes occ clearance a b (p ∷ rest))
  unfolding detour
  leads p rest = to 4 p rest

  pub length_detour : (path : List Point) → length (detour boxes occ clearance a b path) ≤ 4 + length path
  unfolding detour detour_to
  length_detour [] = omega arith
  length_detour (p ∷ rest) = let t = leads p rest in omega (arith, ap length t.begins, t.short)

  -- ---- one turn of the loop: `done` points are passed, and at most `left` points may still be put in
  abbrev pub Going : List Point → ℕ → List Point → List Point → Type 0
  Going whole left done path = done ++ detour_to boxes occ clearance a b left path ≡ whole

  pub going_start : (path : List Point) → Going (detour boxes occ clearance a b path) 4 [] path
  unfolding detour
  going_start path = refl

  module _ (whole done rest : List Point) (p q : Point) where
    free : (left : ℕ) (f : Option ℕ) → f ≡ first_hit boxes occ p q a b → f ≡ None
        → detour_to boxes occ clearance a b (suc left) (p ∷ q ∷ rest) ≡ p ∷ detour_to boxes occ clearance a b (suc left) (q ∷ rest)
    unfolding detour_to detour_on
    free left f e h =
        ap (λ (x : Option ℕ). elim x as (λ _. List Point) [ None ↦ p ∷ detour_on boxes occ clearance a b (detour_to boxes occ clearance a b left) q rest | Some s ↦ detour_to boxes occ clearance a b left (p ∷ corner p q (box_in boxes s) clearance ∷ q ∷ rest) ])
        (sym e ∙ h)

    put : (left s : ℕ) (f : Option ℕ) → f ≡ first_hit boxes occ p q a b → f ≡ Some s
        → detour_to boxes occ clearance a b (suc left) (p ∷ q ∷ rest) ≡ detour_to boxes occ clearance a b left (p ∷ corner p q (box_in boxes s) clearance ∷ q ∷ rest)
    unfolding detour_to detour_on
    put left s f e h =
        ap (λ (x : Option ℕ). elim x as (λ _. List Point) [ None ↦ p ∷ detour_on boxes occ clearance a b (detour_to boxes occ clearance a b left) q rest | Some t ↦ detour_to boxes occ clearance a b left (p ∷ corner p q (box_in boxes t) clearance ∷ q ∷ rest) ])
        (sym e ∙ h)

    pub going_free : (left : ℕ) (f : Option ℕ) → (left ≡ 0 → ⊥) → f ≡ first_hit boxes occ p q a b → f ≡ None
        → Going whole left done (p ∷ q ∷ rest) → Going whole left (done ++ (p ∷ [])) (q ∷ rest)
    going_free zero f n e h i = absurd (n refl)
    going_free (suc left) f n e h i =
        append_assoc done (p ∷ []) (detour_to boxes occ clearance a b (suc left) (q ∷ rest)) ∙ ap (λ (l : List Point). done ++ l) (sym (free left f e h)) ∙ i

    pub going_put : (left s : ℕ) (f : Option ℕ) (c : Point) (box : Box) → (left ≡ 0 → ⊥) → f ≡ first_hit boxes occ p q a b → f ≡ Some s → box ≡ box_in boxes s → c ≡ corner p q box clearance
        → Going whole left done (p ∷ q ∷ rest) → Going whole (left - 1) done (p ∷ c ∷ q ∷ rest)
    going_put zero s f c box n e h g k i = absurd (n refl)
    going_put (suc left) s f c box n e h g k i =
        let z : suc left - 1 ≡ left = omega arith in
        ap (λ (m : ℕ). done ++ detour_to boxes occ clearance a b m (p ∷ c ∷ q ∷ rest)) z
        ∙ ap (λ (x : Point). done ++ detour_to boxes occ clearance a b left (p ∷ x ∷ q ∷ rest)) (k ∙ ap (λ (y : Box). corner p q y clearance) g)
        ∙ ap (λ (l : List Point). done ++ l) (sym (put left s f e h)) ∙ i

  -- no point may be put in any more, or no piece is left
  pub going_spent : (whole done path : List Point) (left : ℕ) → left ≡ 0 → Going whole left done path → done ++ path ≡ whole
  unfolding detour_to
  going_spent whole done path left e i = ap (λ (m : ℕ). done ++ detour_to boxes occ clearance a b m path) (sym e) ∙ i

  short_path : (path : List Point) (left : ℕ) → length path ≤ 1 → detour_to boxes occ clearance a b left path ≡ path
  unfolding detour_to detour_on
  short_path path zero h = refl
  short_path [] (suc left) h = refl
  short_path (p ∷ []) (suc left) h = refl
  short_path (p ∷ q ∷ rest) (suc left) h = absurd (omega arith)

  pub going_end : (whole done path : List Point) (left : ℕ) → length path ≤ 1 → Going whole left done path → done ++ path ≡ whole
  going_end whole done path left h i = ap (λ (l : List Point). done ++ l) (sym (short_path path left h)) ∙ i

  -- ---- the same of a path in a list: i of its n points, from point `first` on, are passed
  module _ (whole : List Point) (first i n left : ℕ) (path : List Float) (f : Option ℕ) (p q : Point) (l : i + 1 < n) (some : left ≡ 0 → ⊥)
      (x : p ≡ point_at path (first + i)) (y : q ≡ point_at path (first + i + 1)) (e : f ≡ first_hit boxes occ p q a b)
      (g : Going whole left (path_in first i path) (path_in (first + i) (n - i) path)) where
    abbrev rest : List Point
    rest = path_in (first + i + 1 + 1) (n - i - 2) path

    from_second : (m : ℕ) → m ≡ suc (n - i - 2) → path_in (first + i + 1) m path ≡ q ∷ rest
    from_second m z = path_cons (first + i + 1) m (n - i - 2) path z ∙ ap (λ (t : Point). t ∷ rest) (sym y)

    from_first : path_in (first + i) (n - i) path ≡ p ∷ q ∷ rest
    from_first = path_cons (first + i) (n - i) (n - i - 1) path (omega arith) ∙ ap (λ (t : Point). t ∷ path_in (first + i + 1) (n - i - 1) path) (sym x) ∙ ap (λ (t : List Point). p ∷ t) (from_second (n - i - 1) (omega arith))

    going : Going whole left (path_in first i path) (p ∷ q ∷ rest)
    going = ap (λ (t : List Point). path_in first i path ++ detour_to boxes occ clearance a b left t) (sym from_first) ∙ g

    pub turn_free : f ≡ None → Going whole left (path_in first (i + 1) path) (path_in (first + (i + 1)) (n - (i + 1)) path)
    turn_free h =
        let z : first + (i + 1) ≡ first + i + 1 = omega arith in
        ap (λ (t : List Point). t ++ detour_to boxes occ clearance a b left (path_in (first + (i + 1)) (n - (i + 1)) path)) (path_more first i path ∙ ap (λ (t : Point). path_in first i path ++ (t ∷ [])) (sym x))
        ∙ ap (λ (t : List Point). (path_in first i path ++ (p ∷ [])) ++ detour_to boxes occ clearance a b left t) (ap (λ (m : ℕ). path_in m (n - (i + 1)) path) z ∙ from_second (n - (i + 1)) (omega arith))
        ∙ going_free whole (path_in first i path) rest p q left f some e h going

    pub turn_put : (s : ℕ) (c : Point) (box : Box) (next : List Float) → f ≡ Some s → box ≡ box_in boxes s → c ≡ corner p q box clearance → PutIn (first + i + 1) (first + n) c path next
        → Going whole (left - 1) (path_in first i next) (path_in (first + i) (n + 1 - i) next)
    turn_put s c box next h k m P =
        ap (λ (t : List Point). t ++ detour_to boxes occ clearance a b (left - 1) (path_in (first + i) (n + 1 - i) next)) (path_kept _ _ c path next P first i (omega arith))
        ∙ ap (λ (t : List Point). path_in first i path ++ detour_to boxes occ clearance a b (left - 1) t) points
        ∙ going_put whole (path_in first i path) rest p q left s f c box some e h k m going
      where
        points : path_in (first + i) (n + 1 - i) next ≡ p ∷ c ∷ q ∷ rest
        points =
            path_cons (first + i) (n + 1 - i) (n - i - 1 + 1) next (omega arith)
            ∙ ap (λ (t : Point). t ∷ path_in (first + i + 1) (n - i - 1 + 1) next) (point_before (first + i + 1) (first + i) path next P.before (omega arith) ∙ sym x)
            ∙ ap (λ (t : List Point). p ∷ t) (path_moved _ _ c path next P (n - i - 1) (omega arith) ∙ ap (λ (t : List Point). c ∷ t) (from_second (n - i - 1) (omega arith)))

  module _ (whole : List Point) (first i n left : ℕ) (was path : List Float) (h : i ≤ n) (t : take (2 * first) path ≡ take (2 * first) was) (g : Going whole left (path_in first i path) (path_in (first + i) (n - i) path)) where
    pub led_spent : left ≡ 0 → Led first n whole was path
    led_spent e = record { before = t; path = sym (path_join first n i path h) ∙ going_spent whole (path_in first i path) (path_in (first + i) (n - i) path) left e g }

    pub led_end : n ≤ i + 1 → Led first n whole was path
    led_end e = record { before = t; path = sym (path_join first n i path h) ∙ going_end whole (path_in first i path) (path_in (first + i) (n - i) path) left (omega (arith, length_path (first + i) (n - i) path)) g }

  pub led_start : (first count : ℕ) (path : List Float) → Going (detour boxes occ clearance a b (path_in first count path)) 4 (path_in first 0 path) (path_in (first + 0) (count - 0) path)
  led_start first count path =
      let e : first + 0 ≡ first = omega arith in
      let f : count - 0 ≡ count = omega arith in
      ap (λ (l : List Point). l ++ detour_to boxes occ clearance a b 4 (path_in (first + 0) (count - 0) path)) (path_zero first path)
      ∙ ap (λ (m : ℕ). detour_to boxes occ clearance a b 4 (path_in m (count - 0) path)) e ∙ ap (λ (m : ℕ). detour_to boxes occ clearance a b 4 (path_in first m path)) f
      ∙ going_start (path_in first count path)

  -- a path that was led round boxes has at most four points more
  pub led_short : (first n count : ℕ) (was now : List Float) → Led first n (detour boxes occ clearance a b (path_in first count was)) was now → n ≤ count + 4
  led_short first n count was now L =
      omega (arith, length_path first n now, ap length L.path, length_detour (path_in first count was), length_path first count was)
