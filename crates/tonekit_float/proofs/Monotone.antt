-- Sums, differences, products, quotients and narrowing keep the order of floats, of any sign. Each result is the rounding of a fraction (p - n) / d
-- (`Rounds`), and rounding keeps the order (`rounds_le`).
use Rattle.std.proofs.Common.{◌≡◌, ℕ, zero, suc, ◌+◌, ◌-◌, ◌*◌, ◌^◌, ◌<◌, ◌≤◌, Bool, true, false, cond, not, ◌&&◌, T, eqb, ltb, ℤ, pos, sym, refl, ap, ◌∙◌, subst, le_trans, le_of_eq, mul-le-mul_right, zero-lt-suc, mul_assoc, mul_comm, add-mul, mul-pos, mul-zero, zero-mul, le_of_mul-le-mul_right, mul_left_comm, arith, ltb→lt, nltb→le, Float}
use native.Mathlib.Nat.{mul-sub}
use lib.Dec.{eqb-suc-zero}
use lib.Ieee.{nan, inf, fin, Format, binary32, binary64, prec, emax, low, unlike, up, down, units, odd, round, neg, sum, add, sub, mul, div, lt, le, eq, of_int}
use lib.Ieee.Fits.{up_pos}
use lib.Ieee.Order.{round_mono}
use lib.Ieee.Positive.{den, den_pos, positive}
use lib.Ieee.Scale.{finite, round_same}
use Rattle.spec_arithmetic.specs.Narrow.{narrowed}
use Rattle.tonekit_float.proofs.Fraction.{pos_part, neg_part}
use Rattle.tonekit_float.proofs.Order.{Cross, le→under, le_trans_float, neg_finite, neg_le}

-- ---- `neg` of a rounded fraction
odd_neg : (d : ℕ) (s : Bool) (q k l : ℕ) → neg (odd d s q k l) ≡ odd d (not s) q k l
unfolding odd neg
odd_neg d s zero k l = refl
odd_neg d s (suc q) k l = refl

units_neg : (f : Format) (s : Bool) (q k : ℕ) → neg (units f s q k) ≡ units f (not s) q k
unfolding units neg
units_neg f s q k = go (ltb (q * 2 ^ k) (2 ^ (low f + suc (emax f))))
  where
    go : (b : Bool) → neg (cond b (odd (suc (prec f)) s q k (low f)) (inf s)) ≡ cond b (odd (suc (prec f)) (not s) q k (low f)) (inf (not s))
    go true = odd_neg (suc (prec f)) s q k (low f)
    go false = refl

pub round_neg : (f : Format) (s : Bool) (a b : ℕ) → neg (round f s a b) ≡ round f (not s) a b
unfolding round
round_neg f s a b = units_neg f s _ _

-- ---- zero, of either sign
zero_at_one : (f : Format) (s : Bool) → round f s 0 1 ≡ fin s 0 (pos 0)
unfolding round
zero_at_one binary32 s = refl
zero_at_one binary64 s = refl

pub zero_is : (f : Format) (s : Bool) (d : ℕ) → 0 < d → round f s 0 d ≡ fin s 0 (pos 0)
zero_is f s d D = round_same f s 0 d 0 1 D (zero-lt-suc 0) (sym (zero-mul d)) ∙ zero_at_one f s

zero_le_zero : (s t : Bool) → T (le (fin s 0 (pos 0)) (fin t 0 (pos 0)))
unfolding le lt eq
zero_le_zero true true = tt
zero_le_zero true false = tt
zero_le_zero false true = tt
zero_le_zero false false = tt

zeros : (f : Format) (s t : Bool) (d c : ℕ) → 0 < d → 0 < c → T (le (round f s 0 d) (round f t 0 c))
zeros f s t d c D C =
    subst (λ (z : Float). T (le z (round f t 0 c))) (sym (zero_is f s d D))
    (subst (λ (z : Float). T (le (fin s 0 (pos 0)) z)) (sym (zero_is f t c C)) (zero_le_zero s t))

-- ---- x is (p - n) / d, rounded: an exact zero may have either sign
pub data Rounds (f : Format) (x : Float) (p n d : ℕ) : Type 0 where
  above : n ≤ p → x ≡ round f false (p - n) d → Rounds f x p n d
  under : p ≤ n → x ≡ round f true (n - p) d → Rounds f x p n d

pub rounds_neg : (f : Format) (x : Float) (p n d : ℕ) → Rounds f x p n d → Rounds f (neg x) n p d
rounds_neg f x p n d (above h e) = under h (ap neg e ∙ round_neg f false (p - n) d)
rounds_neg f x p n d (under h e) = above h (ap neg e ∙ round_neg f true (n - p) d)

pub sub_times : (a b c : ℕ) → (a - b) * c ≡ a * c - b * c
sub_times a b c = mul_comm (a - b) c ∙ mul-sub c a b ∙ ap (λ (z : ℕ). z - c * b) (mul_comm c a) ∙ ap (λ (z : ℕ). a * c - z) (mul_comm c b)

-- p / d ≤ q / c, from the two differences
cut_both : (p n d q o c : ℕ) → n ≤ p → o ≤ q → Cross p n d q o c → (p - n) * c ≤ (q - o) * d
cut_both p n d q o c h k x =
    let a = sub_times p n c in
    let b = sub_times q o d in
    let i = mul-le-mul_right c h in
    let j = mul-le-mul_right d k in
    omega arith

nothing : (p n d q o c : ℕ) → 0 < c → n ≤ p → q ≤ o → Cross p n d q o c → p - n ≡ 0
nothing p n d q o c C h k x =
    let j = mul-le-mul_right d k in
    let z : p * c ≤ n * c = omega arith in
    let w : p ≤ n = le_of_mul-le-mul_right z C in
    omega arith

nothing_over : (p n d q o c : ℕ) → 0 < d → n ≤ p → q ≤ o → Cross p n d q o c → o - q ≡ 0
nothing_over p n d q o c D h k x =
    let j = mul-le-mul_right c h in
    let z : o * d ≤ q * d = omega arith in
    let w : o ≤ q = le_of_mul-le-mul_right z D in
    omega arith

-- rounding keeps the order
pub rounds_le : (f : Format) (x y : Float) (p n d q o c : ℕ) → 0 < d → 0 < c → Rounds f x p n d → Rounds f y q o c → Cross p n d q o c → T (le x y)
rounds_le f x y p n d q o c D C (above h e) (above k g) w =
    subst (λ (z : Float). T (le z y)) (sym e) (subst (λ (z : Float). T (le (round f false (p - n) d) z)) (sym g) (round_mono f (p - n) d (q - o) c D C (cut_both p n d q o c h k w)))
rounds_le f x y p n d q o c D C (above h e) (under k g) w =
    subst (λ (z : Float). T (le z y)) (sym e) (subst (λ (z : Float). T (le (round f false (p - n) d) z)) (sym g)
    (subst (λ (z : ℕ). T (le (round f false z d) (round f true (o - q) c))) (sym (nothing p n d q o c C h k w))
    (subst (λ (z : ℕ). T (le (round f false 0 d) (round f true z c))) (sym (nothing_over p n d q o c D h k w)) (zeros f false true d c D C))))
rounds_le f x y p n d q o c D C (under h e) (above k g) w =
    let zero-up : T (le (round f false 0 c) (round f false (q - o) c)) = round_mono f 0 c (q - o) c C C (le_trans (le_of_eq (zero-mul c)) Prim.Native.Nat.zero-le) in
    let up-zero : T (le (round f true (n - p) d) (round f true 0 d)) =
    subst (λ (z : Float). T (le z (round f true 0 d))) (round_neg f false (n - p) d)
    (subst (λ (z : Float). T (le (neg (round f false (n - p) d)) z)) (round_neg f false 0 d)
    (neg_le (round f false 0 d) (round f false (n - p) d) (round_mono f 0 d (n - p) d D D (le_trans (le_of_eq (zero-mul d)) Prim.Native.Nat.zero-le)))) in
    subst (λ (z : Float). T (le z y)) (sym e) (subst (λ (z : Float). T (le (round f true (n - p) d) z)) (sym g)
    (le_trans_float (round f true (n - p) d) (round f true 0 d) (round f false (q - o) c) up-zero
    (le_trans_float (round f true 0 d) (round f false 0 c) (round f false (q - o) c) (zeros f true false d c D C) zero-up)))
rounds_le f x y p n d q o c D C (under h e) (under k g) w =
    subst (λ (z : Float). T (le z y)) (sym (e ∙ sym (round_neg f false (n - p) d))) (subst (λ (z : Float). T (le (neg (round f false (n - p) d)) z)) (sym (g ∙ sym (round_neg f false (o - q) c)))
    (neg_le (round f false (o - q) c) (round f false (n - p) d) (round_mono f (o - q) c (n - p) d C D (cut_both o q c n p d k h (let z = w in omega arith)))))

-- ---- each operation's result as a rounding
rounds_up : (f : Format) (k p n d : ℕ) → n ≤ p → k ≡ p - n → Rounds f (round f false k d) p n d
rounds_up f k p n d h e = above h (ap (λ (z : ℕ). round f false z d) e)

rounds_down : (f : Format) (k p n d : ℕ) → p ≤ n → k ≡ n - p → Rounds f (round f true k d) p n d
rounds_down f k p n d h e = under h (ap (λ (z : ℕ). round f true z d) e)

difference : (f : Format) (a b c p n : ℕ) → p ≡ a → n ≡ b → Rounds f (sum f false a true b c) p n c
unfolding sum
difference f a b c p n P N = go (ltb a b) (ltb→lt a b) (nltb→le a b)
  where
    go : (t : Bool) → (T t → a < b) → (T (not t) → b ≤ a) → Rounds f (cond t (round f true (b - a) c) (round f false (a - b) c)) p n c
    go true h k = let z = h tt in rounds_down f (b - a) p n c (omega arith) (omega arith)
    go false h k = let z = k tt in rounds_up f (a - b) p n c (omega arith) (omega arith)

difference' : (f : Format) (a b c p n : ℕ) → p ≡ b → n ≡ a → Rounds f (sum f true a false b c) p n c
unfolding sum
difference' f a b c p n P N = go (ltb a b) (ltb b a) (ltb→lt a b) (nltb→le a b) (ltb→lt b a) (nltb→le b a)
  where
    go : (t u : Bool) → (T t → a < b) → (T (not t) → b ≤ a) → (T u → b < a) → (T (not u) → a ≤ b)
        → Rounds f (cond t (round f false (b - a) c) (round f (true && u) (a - b) c)) p n c
    go true u h k i j = let z = h tt in rounds_up f (b - a) p n c (omega arith) (omega arith)
    go false true h k i j = let z = k tt in rounds_down f (a - b) p n c (omega arith) (omega arith)
    go false false h k i j = let z = k tt in let w = j tt in rounds_up f (a - b) p n c (omega arith) (omega arith)

both_same : (f : Format) (s : Bool) (a b c : ℕ) → sum f s a s b c ≡ round f s (a + b) c
unfolding sum
both_same f true a b c = refl
both_same f false a b c = refl

add_is : (f : Format) (s t : Bool) (m n : ℕ) (e d : ℤ) → add f (fin s m e) (fin t n d) ≡ sum f s (m * up e * down d) t (n * up d * down e) (down e * down d)
unfolding add
add_is f s t m n e d = refl

abbrev move : (f : Format) {x y : Float} {p n d : ℕ} → x ≡ y → Rounds f y p n d → Rounds f x p n d
move f {x} {y} {p} {n} {d} e r = subst (λ (z : Float). Rounds f z p n d) (sym e) r

pub add_rounds : (f : Format) (x y : Float) → T (finite x) → T (finite y)
    → Rounds f (add f x y) (pos_part x * den y + pos_part y * den x) (neg_part x * den y + neg_part y * den x) (den x * den y)
add_rounds f nan y p q = absurd p
add_rounds f (inf s) y p q = absurd p
add_rounds f (fin s m e) nan p q = absurd q
add_rounds f (fin s m e) (inf t) p q = absurd q
add_rounds f (fin false m e) (fin false n d) p q = move f (add_is f false false m n e d ∙ both_same f false _ _ _) (rounds_up f _ _ _ _ (omega arith) (omega arith))
add_rounds f (fin false m e) (fin true n d) p q = move f (add_is f false true m n e d) (difference f _ _ _ _ _ (omega arith) (omega arith))
add_rounds f (fin true m e) (fin false n d) p q = move f (add_is f true false m n e d) (difference' f _ _ _ _ _ (omega arith) (omega arith))
add_rounds f (fin true m e) (fin true n d) p q = move f (add_is f true true m n e d ∙ both_same f true _ _ _) (rounds_down f _ _ _ _ (omega arith) (omega arith))

pub mul_rounds : (f : Format) (x y : Float) → T (finite x) → T (finite y)
    → Rounds f (mul f x y) (pos_part x * pos_part y + neg_part x * neg_part y) (pos_part x * neg_part y + neg_part x * pos_part y) (den x * den y)
unfolding mul
mul_rounds f nan y p q = absurd p
mul_rounds f (inf s) y p q = absurd p
mul_rounds f (fin s m e) nan p q = absurd q
mul_rounds f (fin s m e) (inf t) p q = absurd q
mul_rounds f (fin false m e) (fin false n d) p q = rounds_up f _ _ _ _ (omega arith) (omega arith)
mul_rounds f (fin false m e) (fin true n d) p q = rounds_down f _ _ _ _ (omega arith) (omega arith)
mul_rounds f (fin true m e) (fin false n d) p q = rounds_down f _ _ _ _ (omega arith) (omega arith)
mul_rounds f (fin true m e) (fin true n d) p q = rounds_up f _ _ _ _ (omega arith) (omega arith)

pub narrow_rounds : (x : Float) → T (finite x) → Rounds binary32 (narrowed x) (pos_part x) (neg_part x) (den x)
unfolding narrowed
narrow_rounds nan p = absurd p
narrow_rounds (inf s) p = absurd p
narrow_rounds (fin false m e) p = rounds_up binary32 _ _ _ _ (omega arith) (omega arith)
narrow_rounds (fin true m e) p = rounds_down binary32 _ _ _ _ (omega arith) (omega arith)

pub whole_rounds : (f : Format) (n : ℕ) → Rounds f (of_int f (pos n)) n 0 1
unfolding of_int
whole_rounds f n = rounds_up f _ _ _ _ (omega arith) (omega arith)

-- ---- a sum, a difference
add_cross : (p n d p' n' d' q o c q' o' c' : ℕ) → Cross p n d p' n' d' → Cross q o c q' o' c'
    → Cross (p * c + q * d) (n * c + o * d) (d * c) (p' * c' + q' * d') (n' * c' + o' * d') (d' * c')
add_cross p n d p' n' d' q o c q' o' c' h k =
    let x = simp (add-mul, mul_assoc, mul_comm, mul_left_comm) at (mul-le-mul_right (c * c') h) in
    let y = simp (add-mul, mul_assoc, mul_comm, mul_left_comm) at (mul-le-mul_right (d * d') k) in
    simp (add-mul, mul_assoc, mul_comm, mul_left_comm) (omega (arith, x, y))

pub add_le : (f : Format) (x x' y y' : Float) → T (finite x) → T (finite x') → T (finite y) → T (finite y') → T (le x x') → T (le y y') → T (le (add f x y) (add f x' y'))
add_le f x x' y y' p p' q q' h k =
    rounds_le f (add f x y) (add f x' y') _ _ _ _ _ _ (mul-pos (den_pos x) (den_pos y)) (mul-pos (den_pos x') (den_pos y')) (add_rounds f x y p q) (add_rounds f x' y' p' q')
    (add_cross (pos_part x) (neg_part x) (den x) (pos_part x') (neg_part x') (den x') (pos_part y) (neg_part y) (den y) (pos_part y') (neg_part y') (den y') (le→under x x' p p' h) (le→under y y' q q' k))

pub sub_le : (f : Format) (x x' y y' : Float) → T (finite x) → T (finite x') → T (finite y) → T (finite y') → T (le x x') → T (le y' y) → T (le (sub f x y) (sub f x' y'))
unfolding sub
sub_le f x x' y y' p p' q q' h k = add_le f x x' (neg y) (neg y') p p' (neg_finite y q) (neg_finite y' q') h (neg_le y' y k)

-- ---- a product by a factor that is not negative
abbrev pub zero_f : Float
zero_f = fin false 0 (pos 0)

pub no_minus : (x : Float) → T (finite x) → T (le zero_f x) → neg_part x ≡ 0
no_minus nan p h = absurd p
no_minus (inf s) p h = absurd p
no_minus (fin false m e) p h = refl
no_minus (fin true m e) p h = let k = le→under zero_f (fin true m e) tt tt h in omega arith

mul_cross : (r b p n d q o c : ℕ) → Cross p n d q o c → Cross (r * p + 0 * n) (r * n + 0 * p) (b * d) (r * q + 0 * o) (r * o + 0 * q) (b * c)
mul_cross r b p n d q o c h =
    let x = simp (add-mul, mul_assoc, mul_comm, mul_left_comm) at (mul-le-mul_right (r * b) h) in
    simp (add-mul, mul_assoc, mul_comm, mul_left_comm, zero-mul) (omega (arith, x))

pub mul_le_right : (f : Format) (z x y : Float) → T (finite z) → T (finite x) → T (finite y) → T (le zero_f z) → T (le x y) → T (le (mul f z x) (mul f z y))
mul_le_right f z x y r p q c h =
    rounds_le f (mul f z x) (mul f z y) _ _ _ _ _ _ (mul-pos (den_pos z) (den_pos x)) (mul-pos (den_pos z) (den_pos y)) (mul_rounds f z x r p) (mul_rounds f z y r q)
    (subst (λ (k : ℕ). Cross (pos_part z * pos_part x + k * neg_part x) (pos_part z * neg_part x + k * pos_part x) (den z * den x) (pos_part z * pos_part y + k * neg_part y) (pos_part z * neg_part y + k * pos_part y) (den z * den y))
    (sym (no_minus z r c)) (mul_cross (pos_part z) (den z) (pos_part x) (neg_part x) (den x) (pos_part y) (neg_part y) (den y) (le→under x y p q h)))

flip : (s t : Bool) → unlike s t ≡ unlike t s
flip true true = refl
flip true false = refl
flip false true = refl
flip false false = refl

pub mul_comm_float : (f : Format) (x y : Float) → mul f x y ≡ mul f y x
unfolding mul
mul_comm_float f nan nan = refl
mul_comm_float f nan (inf t) = refl
mul_comm_float f nan (fin t n d) = refl
mul_comm_float f (inf s) nan = refl
mul_comm_float f (inf s) (inf t) = ap inf (flip s t)
mul_comm_float f (inf s) (fin t n d) = ap (λ (b : Bool). cond (eqb n 0) nan (inf b)) (flip s t)
mul_comm_float f (fin s m e) nan = refl
mul_comm_float f (fin s m e) (inf t) = ap (λ (b : Bool). cond (eqb m 0) nan (inf b)) (flip s t)
mul_comm_float f (fin s m e) (fin t n d) =
    ap (λ (b : Bool). round f b (m * up e * (n * up d)) (down e * down d)) (flip s t)
    ∙ ap (λ (k : ℕ). round f (unlike t s) k (down e * down d)) (mul_comm (m * up e) (n * up d))
    ∙ ap (λ (k : ℕ). round f (unlike t s) (n * up d * (m * up e)) k) (mul_comm (down e) (down d))

pub mul_le_left : (f : Format) (x y z : Float) → T (finite x) → T (finite y) → T (finite z) → T (le zero_f z) → T (le x y) → T (le (mul f x z) (mul f y z))
mul_le_left f x y z p q r c h =
    subst (λ (w : Float). T (le w (mul f y z))) (mul_comm_float f z x) (subst (λ (w : Float). T (le (mul f z x) w)) (mul_comm_float f z y) (mul_le_right f z x y r p q c h))

-- a factor that is not positive turns the order round
no_plus : (x : Float) → T (finite x) → T (le x zero_f) → pos_part x ≡ 0
no_plus nan p h = absurd p
no_plus (inf s) p h = absurd p
no_plus (fin true m e) p h = refl
no_plus (fin false m e) p h = let k = le→under (fin false m e) zero_f tt tt h in omega arith

mul_cross_neg : (r b p n d q o c : ℕ) → Cross p n d q o c → Cross (q * 0 + o * r) (q * r + o * 0) (c * b) (p * 0 + n * r) (p * r + n * 0) (d * b)
mul_cross_neg r b p n d q o c h =
    let x = simp (add-mul, mul_assoc, mul_comm, mul_left_comm) at (mul-le-mul_right (r * b) h) in
    simp (add-mul, mul_assoc, mul_comm, mul_left_comm, mul-zero) (omega (arith, x))

pub mul_ge_left : (f : Format) (x y z : Float) → T (finite x) → T (finite y) → T (finite z) → T (le z zero_f) → T (le x y) → T (le (mul f y z) (mul f x z))
mul_ge_left f x y z p q r c h =
    rounds_le f (mul f y z) (mul f x z) _ _ _ _ _ _ (mul-pos (den_pos y) (den_pos z)) (mul-pos (den_pos x) (den_pos z)) (mul_rounds f y z q r) (mul_rounds f x z p r)
    (subst (λ (k : ℕ). Cross (pos_part y * k + neg_part y * neg_part z) (pos_part y * neg_part z + neg_part y * k) (den y * den z) (pos_part x * k + neg_part x * neg_part z) (pos_part x * neg_part z + neg_part x * k) (den x * den z))
    (sym (no_plus z r c)) (mul_cross_neg (neg_part z) (den z) (pos_part x) (neg_part x) (den x) (pos_part y) (neg_part y) (den y) (le→under x y p q h)))

-- ---- a quotient by a positive value
pub plus_pos : (y : Float) → T (positive y) → 0 < pos_part y
plus_pos nan p = absurd p
plus_pos (inf s) p = absurd p
plus_pos (fin true m e) p = absurd p
plus_pos (fin false m e) p = mul-pos (ltb→lt 0 m p) (up_pos e)

div_is : (f : Format) (s : Bool) (m n : ℕ) (e d : ℤ) → div f (fin s m e) (fin false (suc n) d) ≡ round f (unlike s false) (m * up e * down d) (suc n * up d * down e)
unfolding div
div_is f s m n e d =
    ap (λ (b : Bool). cond b (cond (eqb m 0) nan (inf (unlike s false))) (round f (unlike s false) (m * up e * down d) (suc n * up d * down e))) (eqb-suc-zero n)

pub div_rounds : (f : Format) (x y : Float) → T (finite x) → T (positive y) → Rounds f (div f x y) (pos_part x * den y) (neg_part x * den y) (pos_part y * den x)
div_rounds f nan y p q = absurd p
div_rounds f (inf s) y p q = absurd p
div_rounds f (fin s m e) nan p q = absurd q
div_rounds f (fin s m e) (inf t) p q = absurd q
div_rounds f (fin s m e) (fin true n d) p q = absurd q
div_rounds f (fin s m e) (fin false zero d) p q = absurd q
div_rounds f (fin false m e) (fin false (suc n) d) p q = move f (div_is f false m n e d) (rounds_up f _ _ _ _ (omega arith) (omega arith))
div_rounds f (fin true m e) (fin false (suc n) d) p q = move f (div_is f true m n e d) (rounds_down f _ _ _ _ (omega arith) (omega arith))

div_cross : (r b p n d q o c : ℕ) → Cross p n d q o c → Cross (p * b) (n * b) (r * d) (q * b) (o * b) (r * c)
div_cross r b p n d q o c h =
    let x = simp (add-mul, mul_assoc, mul_comm, mul_left_comm) at (mul-le-mul_right (r * b) h) in
    simp (add-mul, mul_assoc, mul_comm, mul_left_comm) (omega (arith, x))

pub div_le : (f : Format) (x y z : Float) → T (finite x) → T (finite y) → T (positive z) → T (le x y) → T (le (div f x z) (div f y z))
div_le f x y z p q r h =
    rounds_le f (div f x z) (div f y z) _ _ _ _ _ _ (mul-pos (plus_pos z r) (den_pos x)) (mul-pos (plus_pos z r) (den_pos y)) (div_rounds f x z p r) (div_rounds f y z q r)
    (div_cross (pos_part z) (den z) (pos_part x) (neg_part x) (den x) (pos_part y) (neg_part y) (den y) (le→under x y p q h))

-- ---- narrowing
pub narrow_le : (x y : Float) → T (finite x) → T (finite y) → T (le x y) → T (le (narrowed x) (narrowed y))
narrow_le x y p q h = rounds_le binary32 (narrowed x) (narrowed y) _ _ _ _ _ _ (den_pos x) (den_pos y) (narrow_rounds x p) (narrow_rounds y q) (le→under x y p q h)
