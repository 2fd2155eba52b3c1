-- Knots of size at most 100 give points of size at most 128 (`bounded`): the first knot of a line lies in one of eight parts of -100 to 100, each 25 wide,
-- and in each part the bounds of the point compute.
use Rattle.std.proofs.Common.{ℕ, zero, suc, ◌+◌, ◌-◌, ◌≤◌, ◌<◌, ◌≡◌, refl, sym, subst, ◌∙◌, ⊎_elim, Bool, true, false, ◌&&◌, cond, List, [], ◌∷◌, add-one, arith, le_of_suc-le-suc, eq-or-lt_of_le, lt_irrefl, T, eqb, eqb→eq, T_not, pos, length, get_or, length-append, Float}
use lib.Seq.{get_or_at}
use lib.ListN.{get_or-append}
use lib.Ieee.{nan, fin, binary32, binary64, add, sub, mul, div, neg, le, lt, eq, of_int, of_bits, round}
use Rattle.spec_arithmetic.specs.Whole.{whole_part}
use lib.Ieee.Fits.{and_l, and_r, eq→eqb}
use lib.Ieee.Scale.{finite}
use Rattle.tonekit_float.proofs.Order.{yes, no}
use Rattle.spec_arithmetic.specs.Narrow.{narrowed}
use Rattle.spec_arithmetic.specs.Position.{position}
use Rattle.spec_lookup.specs.Knots.{segment, past_knot, on_line, point_at, first_points, expanded, knots_at, Knot, Point, Knots}
use Rattle.spec_arithmetic.specs.Bounds.{In}
use Rattle.tonekit_float.proofs.Monotone.{zero_f}
use Rattle.tonekit_float.proofs.Bounds.{finite4, about0, in_wider, in_cut, in_add, in_sub, in_scale, in_narrow}

abbrev one_f : Float
one_f = fin false 1 (pos 0)

abbrev minus100 : Float
minus100 = fin true 25 (pos 2)

abbrev plus100 : Float
plus100 = fin false 25 (pos 2)

-- ---- the line's first knot in one part
-- the bounds of the two knots' difference, and of the point, for a first knot from lo to hi
abbrev least : Float → Float
least hi = sub binary32 minus100 hi

abbrev most : Float → Float
most lo = sub binary32 plus100 lo

abbrev lowest : Float → Float → Float
lowest lo hi = add binary64 lo (mul binary64 one_f (least hi))

abbrev highest : Float → Float → Float
highest lo hi = add binary64 hi (mul binary64 one_f (most lo))

module _ (a b t : Float) (B : Knot b) (F : In zero_f one_f t) where
  part : (lo hi : Float) → T (finite4 minus100 plus100 lo hi) → T (about0 (least hi) (most lo) one_f) → T (finite4 lo hi (mul binary64 one_f (least hi)) (mul binary64 one_f (most lo)))
      → T (finite (lowest lo hi) && finite (highest lo hi)) → T (le (fin true 1 (pos 7)) (narrowed (lowest lo hi)) && le (narrowed (highest lo hi)) (fin false 1 (pos 7))) → In lo hi a → Point (on_line a b t)
  unfolding on_line
  part lo hi t1 t2 t3 t4 t5 A = in_wider t5 (in_narrow t4 (in_add binary64 t3 A (in_scale binary64 t2 F (in_sub binary32 t1 B A))))

  line : Knot a → Point (on_line a b t)
  unfolding add sub mul narrowed le
  line A =
      ⊎_elim (λ L.
      ⊎_elim (λ L. ⊎_elim (part minus100 (fin true 75 (pos 0)) tt tt tt tt tt) (part (fin true 75 (pos 0)) (fin true 25 (pos 1)) tt tt tt tt tt) (in_cut (fin true 75 (pos 0)) tt tt L))
      (λ H. ⊎_elim (part (fin true 25 (pos 1)) (fin true 25 (pos 0)) tt tt tt tt tt) (part (fin true 25 (pos 0)) zero_f tt tt tt tt tt) (in_cut (fin true 25 (pos 0)) tt tt H))
      (in_cut (fin true 25 (pos 1)) tt tt L))
      (λ H.
      ⊎_elim (λ L. ⊎_elim (part zero_f (fin false 25 (pos 0)) tt tt tt tt tt) (part (fin false 25 (pos 0)) (fin false 25 (pos 1)) tt tt tt tt tt) (in_cut (fin false 25 (pos 0)) tt tt L))
      (λ H. ⊎_elim (part (fin false 25 (pos 1)) (fin false 75 (pos 0)) tt tt tt tt tt) (part (fin false 75 (pos 0)) plus100 tt tt tt tt tt) (in_cut (fin false 75 (pos 0)) tt tt H))
      (in_cut (fin false 25 (pos 1)) tt tt H))
      (in_cut zero_f tt tt A)

-- ---- the fractions, 72 of them, computed
abbrev all : (ℕ → Bool) → ℕ → Bool
all p zero = true
all p (suc n) = p n && all p n

all_at : (p : ℕ → Bool) (n i : ℕ) → T (all p n) → i < n → T (p i)
all_at p zero i t h = absurd (lt_irrefl 0 (omega arith))
all_at p (suc n) i t h = ⊎_elim (λ e. subst (λ (k : ℕ). T (p k)) (sym e) (and_l (p n) (all p n) t)) (λ k. all_at p n i (and_r (p n) (all p n) t) k) (eq-or-lt_of_le (le_of_suc-le-suc h))

fair : ℕ → ℕ → Bool
fair i k = le zero_f (past_knot i (k + 1)) && le (past_knot i (k + 1)) one_f

all_fair : T (all (λ i. all (fair i) 8) 9)
unfolding fair past_knot position segment add sub mul div neg of_int of_bits whole_part le lt eq round
all_fair = tt

fraction_in : (i last : ℕ) → i < 9 → 1 ≤ last → last ≤ 8 → In zero_f one_f (past_knot i last)
unfolding fair
fraction_in i last h l k =
    let e : last - 1 + 1 ≡ last = omega arith in
    let t = subst (λ (n : ℕ). T (le zero_f (past_knot i n) && le (past_knot i n) one_f)) e (all_at (fair i) 8 (last - 1) (all_at (λ i. all (fair i) 8) 9 i all_fair h) (omega arith)) in
    record { low = and_l (le zero_f (past_knot i last)) (le (past_knot i last) one_f) t; high = and_r (le zero_f (past_knot i last)) (le (past_knot i last) one_f) t }

pub segment_lt : (i last : ℕ) → 1 ≤ last → segment i last + 1 ≤ last
unfolding segment
segment_lt i last h = omega arith

cond_point : (b : Bool) (x y : Float) → (b ≡ true → Point x) → (b ≡ false → Point y) → Point (cond b x y)
cond_point true x y f g = f refl
cond_point false x y f g = g refl

eqb_false : (a b : ℕ) → eqb a b ≡ false → a ≡ b → ⊥
eqb_false a b h e = T_not (eqb a b) (no h) (eq→eqb {a = a} {b = b} e)

wider : {x : Float} → Knot x → Point x
unfolding le
wider k = in_wider tt k

pub bounded : (knots : List Float) → Knots knots → (i : ℕ) → i < 10 → Point (point_at knots i)
unfolding point_at
bounded knots K i h =
    let n = length knots in
    let lo = K.some in
    let hi = K.few in
    let all = K.each in
    let j = segment i (n - 1) in
    cond_point (eqb (n - 1) 0) _ _ (λ e. wider (all 0 (omega arith)))
    (λ e. let one = eqb_false (n - 1) 0 e in
    cond_point (eqb n 10) _ _ (λ g. let k = eqb→eq n 10 (yes g) in wider (all i (omega arith)))
    (λ g. let ten = eqb_false n 10 g in
    cond_point (eqb i 9) _ _ (λ m. wider (all (n - 1) (omega arith)))
    (λ m.
    let nine = eqb_false i 9 m in
    let s : 1 ≤ n - 1 = not_zero (n - 1) one in
    let j-lt = segment_lt i (n - 1) s in
    line (get_or knots j nan) (get_or knots (j + 1) nan) (past_knot i (n - 1)) (all (j + 1) (omega arith))
    (fraction_in i (n - 1) (below i 9 (omega arith) nine) s (at_most_lem n 10 hi ten)) (all j (omega arith)))))
  where
    not_zero : (a : ℕ) → (a ≡ 0 → ⊥) → 1 ≤ a
    not_zero zero f = absurd (f refl)
    not_zero (suc a) f = omega arith

    below : (a b : ℕ) → a ≤ b → (a ≡ b → ⊥) → a < b
    below a b h f = ⊎_elim (λ e. absurd (f e)) (λ l. l) (eq-or-lt_of_le h)

    at_most_lem : (a b : ℕ) → a ≤ b → (a ≡ b → ⊥) → a - 1 ≤ b - 2
    at_most_lem a b h f = let k = below a b h f in omega arith

-- ---- the first n points
pub length_points : (knots : List Float) (n : ℕ) → length (first_points knots n) ≡ n
unfolding first_points
length_points knots zero = refl
length_points knots (suc n) = simp (length-append, length_points knots n, add-one)

points_at : (knots : List Float) (n k : ℕ) → k < n → get_or (first_points knots n) k nan ≡ point_at knots k
unfolding first_points
points_at knots zero k h = absurd (omega arith)
points_at knots (suc n) k h =
    ⊎_elim (λ e. rw e (get_or_at (first_points knots n) (point_at knots n) [] nan n (length_points knots n)))
    (λ l. get_or-append (first_points knots n) (point_at knots n ∷ []) nan k (rw (length_points knots n) l) ∙ points_at knots n k l)
    (eq-or-lt_of_le (le_of_suc-le-suc h))

pub points_bounded : (knots : List Float) → Knots knots → (k : ℕ) → k < 10 → Point (get_or (expanded knots) k nan)
points_bounded knots K k h = subst Point (sym (points_at knots 10 k h)) (bounded knots K k h)

pub length_knots : (s : List ℕ) (o n : ℕ) → length (knots_at s o n) ≡ n
unfolding knots_at
length_knots s o zero = refl
length_knots s o (suc n) = simp (length-append, length_knots s o n, add-one)
