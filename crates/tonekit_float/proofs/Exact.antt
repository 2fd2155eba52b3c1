-- Where rounding changes nothing: a value that fits its format is its own rounding, whole numbers up to 2 ^ prec add and subtract exactly, and so does
-- x - y for y ≤ x ≤ 2 y.
use Rattle.std.proofs.Common.{◌≡◌, ℕ, zero, suc, ◌+◌, ◌-◌, ◌*◌, ◌%◌, ◌^◌, ◌<◌, ◌≤◌, Bool, true, false, not, ◌&&◌, T, eqb, ltb, leb, ⊎_elim, ℤ, pos, negsuc, sym, refl, ap, ◌∙◌, subst, true≢false, le_trans, le_of_eq, lt_of_lt_of_le, lt_of_le_of_lt, le_of_lt, lt_irrefl, mul-le-mul_right, zero-lt-suc, mul_assoc, mul_comm, add-mul, lt_of_mul-lt-mul_right, mul-lt-mul_of_pos_right, mul-pos, one-mul, mul-zero, zero-add, zero-mul, mul-one, mul_right_comm, le_of_mul-le-mul_right, mul_left_comm, sub-le, arith, ltb→lt, lt→ltb, leb→le, pow_pos, pow_mono, pow-add, shl_lt, Float}
use lib.Dec.{nleb→lt}
use lib.Ieee.{nan, inf, fin, Format, prec, emax, low, unlike, up, down, round, neg, add, sub, mul, lt, le, of_int, fits}
use lib.Ieee.Fits.{down_pos, and_l, and_r, reach, round-fits}
use lib.Ieee.Exact.{HasValue, round_exact}
use lib.Ieee.Back.{round_whole}
use lib.Ieee.Positive.{den, den_pos, positive, first_pos}
use lib.Ieee.Scale.{finite}
use Rattle.tonekit_float.proofs.Units.{pow_le_back, meet, down_le, unique, add_at, sub_at}
use Rattle.tonekit_float.proofs.Order.{Cross, cross_total, le→under, flipped, neg_finite, le_trans_float, le→not-lt}
use Rattle.tonekit_float.proofs.Monotone.{Rounds, above, under, rounds_le, whole_rounds, add_rounds, mul_rounds, mul_le_left, zero_f, no_minus, sub_times}
use Rattle.tonekit_float.proofs.Bounds.{in_finite}
use Rattle.spec_arithmetic.specs.Bounds.{In}
use Rattle.tonekit_float.proofs.Fraction.{pos_part, neg_part}

-- ---- what it takes to fit
pub record Held (f : Format) (m : ℕ) (e : ℤ) : Type 0 where
  pub digits : m < 2 ^ prec f
  pub fine : down e ≤ 2 ^ low f
  pub small : m * up e < 2 ^ suc (emax f) * down e

pub held : (f : Format) (s : Bool) (m : ℕ) (e : ℤ) → T (fits f (fin s m e)) → Held f m e
unfolding fits
held f s zero e h = record {
  digits = pow_pos (prec f);
  fine = down_le f s zero e h;
  small = lt_of_le_of_lt (le_of_eq (zero-mul (up e))) (mul-pos (pow_pos (suc (emax f))) (down_pos e));
}
held f s (suc m) e h =
    let A = eqb (suc m % 2) 1 in
    let B = ltb (suc m) (2 ^ prec f) in
    let C = leb (down e) (2 ^ low f) in
    let D = ltb (suc m * up e) (2 ^ suc (emax f) * down e) in
    record {
      digits = ltb→lt (suc m) (2 ^ prec f) (and_r A B (and_l (A && B) C (and_l (A && B && C) D h)));
      fine = down_le f s (suc m) e h;
      small = ltb→lt (suc m * up e) (2 ^ suc (emax f) * down e) (and_r (A && B && C) D h);
    }

pub room : (p j l e : ℕ) → p ≤ e → j ≤ l → p + j ≤ l + e
room p j l e h k = omega arith

-- ---- a value that fits is its own rounding
own_value : (f : Format) (s : Bool) (m : ℕ) (e : ℤ) → Held f m e → HasValue (round f s (m * up e) (down e)) s (m * up e) (down e)
own_value f s m (pos k) h =
    let l = low f in
    let split : m * 2 ^ (k + l) ≡ m * 2 ^ k * 2 ^ l = ap (λ (z : ℕ). m * z) (pow-add 2 k l) ∙ sym (mul_assoc m (2 ^ k) (2 ^ l)) in
    let top : 2 ^ suc (emax f) * 1 * 2 ^ l ≡ 2 ^ (l + suc (emax f)) = ap (λ (z : ℕ). z * 2 ^ l) (mul-one (2 ^ suc (emax f))) ∙ mul_comm (2 ^ suc (emax f)) (2 ^ l) ∙ sym (pow-add 2 l (suc (emax f))) in
    round_exact f s (m * 2 ^ k) 1 m (k + l) (zero-lt-suc 0) h.digits
    (lt_of_le_of_lt (le_of_eq split) (lt_of_lt_of_le (mul-lt-mul_of_pos_right h.small (pow_pos l)) (le_of_eq top)))
    (sym split ∙ sym (mul-one (m * 2 ^ (k + l))))
own_value f s m (negsuc k) h =
    let l = low f in
    let j = l - suc k in
    let split : 2 ^ l ≡ 2 ^ j * 2 ^ suc k = ap (λ (z : ℕ). 2 ^ z) (sym (meet l (suc k) (pow_le_back (suc k) l h.fine))) ∙ pow-add 2 j (suc k) in
    round_exact f s (m * 1) (2 ^ suc k) m j (pow_pos (suc k)) h.digits
    (lt_of_lt_of_le (shl_lt (prec f) j h.digits) (pow_mono (room (prec f) j l (suc (emax f)) (reach f) (sub-le l (suc k)))))
    (ap (λ (z : ℕ). z * 2 ^ l) (mul-one m) ∙ ap (λ (z : ℕ). m * z) split ∙ sym (mul_assoc m (2 ^ j) (2 ^ suc k)))

pub round_own : (f : Format) (s : Bool) (m : ℕ) (e : ℤ) → T (fits f (fin s m e)) → round f s (m * up e) (down e) ≡ fin s m e
round_own f s m e h =
    unique f (round f s (m * up e) (down e)) (fin s m e) s (m * up e) (down e) (down_pos e) (round-fits f s (m * up e) (down e)) h (own_value f s m e (held f s m e h)) (refl, refl)

pub own_rounds : (f : Format) (x : Float) → T (fits f x) → T (finite x) → Rounds f x (pos_part x) (neg_part x) (den x)
own_rounds f nan h p = absurd p
own_rounds f (inf s) h p = absurd p
own_rounds f (fin false m e) h p = above (omega arith) (sym (round_own f false m e h) ∙ ap (λ (z : ℕ). round f false z (down e)) (omega arith))
own_rounds f (fin true m e) h p = under (omega arith) (sym (round_own f true m e h) ∙ ap (λ (z : ℕ). round f true z (down e)) (omega arith))

-- ---- whole numbers
abbrev pub whole : Format → ℕ → Float
whole f n = of_int f (pos n)

pub whole_value : (f : Format) (n : ℕ) → n ≤ 2 ^ prec f → HasValue (whole f n) false n 1
unfolding of_int
whole_value f n h = round_whole f false n h

-- the fraction of a float with a value that is not negative
pub record Worth (x : Float) (a : ℕ) : Type 0 where
  pub real : T (finite x)
  pub plus_is : pos_part x ≡ a * den x
  pub minus_is : neg_part x ≡ 0

worth : (x : Float) (a : ℕ) → HasValue x false a 1 → Worth x a
worth nan a v = absurd v
worth (inf s) a v = absurd v
worth (fin true m e) a v = absurd (true≢false v.0)
worth (fin false m e) a v = record { real = tt; plus_is = sym (mul-one (m * up e)) ∙ v.1; minus_is = refl }

pub whole_worth : (f : Format) (n : ℕ) → n ≤ 2 ^ prec f → Worth (whole f n) n
whole_worth f n h = worth (whole f n) n (whole_value f n h)

pub whole_le : (f : Format) (a b : ℕ) → a ≤ b → T (le (whole f a) (whole f b))
whole_le f a b h = rounds_le f (whole f a) (whole f b) a 0 1 b 0 1 (zero-lt-suc 0) (zero-lt-suc 0) (whole_rounds f a) (whole_rounds f b) (omega arith)

pub whole_add : (f : Format) (a b : ℕ) → a ≤ 2 ^ prec f → b ≤ 2 ^ prec f → add f (whole f a) (whole f b) ≡ whole f (a + b)
unfolding of_int
whole_add f a b h k = add_at f (whole f a) (whole f b) a b 1 (zero-lt-suc 0) (whole_value f a h) (whole_value f b k)

pub whole_sub : (f : Format) (a b : ℕ) → a ≤ 2 ^ prec f → b ≤ a → sub f (whole f a) (whole f b) ≡ whole f (a - b)
unfolding of_int
whole_sub f a b h k = sub_at f (whole f a) (whole f b) a b 1 (zero-lt-suc 0) k (whole_value f a h) (whole_value f b (le_trans k h))

-- ---- a factor from 0 to 1 makes a value that is not negative no larger
abbrev pub one_f : Float
one_f = fin false 1 (pos 0)

pub one_times : (f : Format) (x : Float) → T (fits f x) → T (finite x) → mul f one_f x ≡ x
unfolding mul
one_times f nan h p = absurd p
one_times f (inf s) h p = absurd p
one_times f (fin s m e) h p =
    ap (λ (k : ℕ). round f (unlike false s) k (1 * down e)) (one-mul (m * up e))
    ∙ ap (λ (k : ℕ). round f (unlike false s) (m * up e) k) (one-mul (down e))
    ∙ ap (λ (t : Bool). round f t (m * up e) (down e)) (same s)
    ∙ round_own f s m e h
  where
    same : (s : Bool) → unlike false s ≡ s
    same true = refl
    same false = refl

-- ---- a fraction that is no larger than a value that fits rounds to no more than it, and one that is no smaller to no less
pub rounds_under : (f : Format) (x z : Float) (p n d : ℕ) → 0 < d → T (fits f z) → T (finite z) → Rounds f x p n d → Cross p n d (pos_part z) (neg_part z) (den z) → T (le x z)
rounds_under f x z p n d D h q r c = rounds_le f x z p n d (pos_part z) (neg_part z) (den z) D (den_pos z) r (own_rounds f z h q) c

pub rounds_over : (f : Format) (x z : Float) (p n d : ℕ) → 0 < d → T (fits f z) → T (finite z) → Rounds f x p n d → Cross (pos_part z) (neg_part z) (den z) p n d → T (le z x)
rounds_over f x z p n d D h q r c = rounds_le f z x (pos_part z) (neg_part z) (den z) p n d (den_pos z) D (own_rounds f z h q) r c

zero_fits : (f : Format) → T (fits f zero_f)
unfolding fits
zero_fits f = tt

pub sub_rounds : (f : Format) (x y : Float) → T (finite x) → T (finite y)
    → Rounds f (sub f x y) (pos_part x * den y + neg_part y * den x) (neg_part x * den y + pos_part y * den x) (den x * den y)
unfolding sub
sub_rounds f x y p q =
    let F = flipped y in
    subst (λ (k : ℕ). Rounds f (add f x (neg y)) (pos_part x * den y + k * den x) (neg_part x * den y + pos_part y * den x) (den x * den y)) F.up
    (subst (λ (k : ℕ). Rounds f (add f x (neg y)) (pos_part x * den y + pos_part (neg y) * den x) (neg_part x * den y + k * den x) (den x * den y)) F.below
    (subst (λ (k : ℕ). Rounds f (add f x (neg y)) (pos_part x * k + pos_part (neg y) * den x) (neg_part x * k + neg_part (neg y) * den x) (den x * k)) F.over
    (add_rounds f x (neg y) p (neg_finite y q))))

-- a difference that rounds to more than lo in one format rounds to no less than lo in any other that has lo
rounds_past : (f g : Format) (x y lo hi : Float) (p n d : ℕ) → 0 < d → T (finite lo && finite hi) → T (fits f lo && fits g lo) → T (lt lo hi)
    → Rounds f x p n d → Rounds g y p n d → T (le hi x) → T (le lo y)
rounds_past f g x y lo hi p n d D t F k r s h =
    let L = and_l (finite lo) (finite hi) t in
    let H = and_r (finite lo) (finite hi) t in
    ⊎_elim
    (λ c. absurd (subst T (le→not-lt lo hi L H (le_trans_float hi x lo h (rounds_under f x lo p n d D (and_l (fits f lo) (fits g lo) F) L r c))) k))
    (λ c. rounds_over g y lo p n d D (and_r (fits f lo) (fits g lo) F) L s c)
    (cross_total p n d (pos_part lo) (neg_part lo) (den lo))

pub sub_past : (f g : Format) (x y lo hi : Float) → T (finite x) → T (finite y) → T (finite lo && finite hi) → T (fits f lo && fits g lo) → T (lt lo hi) → T (le hi (sub f x y)) → T (le lo (sub g x y))
sub_past f g x y lo hi p q t F k h =
    rounds_past f g (sub f x y) (sub g x y) lo hi _ _ _ (mul-pos (den_pos x) (den_pos y)) t F k (sub_rounds f x y p q) (sub_rounds g x y p q) h

-- y ≤ x gives 0 ≤ x - y; 0 ≤ y gives x - y ≤ x
pub sub_nonneg : (f : Format) (x y : Float) → T (finite x) → T (finite y) → T (le y x) → T (le zero_f (sub f x y))
sub_nonneg f x y p q h =
    let k = le→under y x q p h in
    rounds_over f (sub f x y) zero_f _ _ _ (mul-pos (den_pos x) (den_pos y)) (zero_fits f) tt (sub_rounds f x y p q) (omega arith)

less_cross : (p n d q o c : ℕ) → o ≤ q → Cross (p * c + o * d) (n * c + q * d) (d * c) p n d
less_cross p n d q o c h =
    let x = simp (add-mul, mul_assoc, mul_comm, mul_left_comm) at (mul-le-mul_right (d * d) h) in
    simp (add-mul, mul_assoc, mul_comm, mul_left_comm) (omega (arith, x))

pub sub_no_more : (f : Format) (x y : Float) → T (fits f x) → T (finite x) → T (finite y) → T (le zero_f y) → T (le (sub f x y) x)
sub_no_more f x y h p q k =
    let z = le→under zero_f y tt q k in
    rounds_under f (sub f x y) x _ _ _ (mul-pos (den_pos x) (den_pos y)) h p (sub_rounds f x y p q) (less_cross (pos_part x) (neg_part x) (den x) (pos_part y) (neg_part y) (den y) (omega arith))

-- sums and products of values that are not negative
pub add_nonneg : (f : Format) (x y : Float) → T (finite x) → T (finite y) → T (le zero_f x) → T (le zero_f y) → T (le zero_f (add f x y))
add_nonneg f x y p q h k =
    let a : neg_part x * den y ≡ 0 = ap (λ (z : ℕ). z * den y) (no_minus x p h) ∙ zero-mul (den y) in
    let b : neg_part y * den x ≡ 0 = ap (λ (z : ℕ). z * den x) (no_minus y q k) ∙ zero-mul (den x) in
    rounds_over f (add f x y) zero_f _ _ _ (mul-pos (den_pos x) (den_pos y)) (zero_fits f) tt (add_rounds f x y p q) (omega arith)

pub mul_nonneg : (f : Format) (x y : Float) → T (finite x) → T (finite y) → T (le zero_f x) → T (le zero_f y) → T (le zero_f (mul f x y))
mul_nonneg f x y p q h k =
    let a : neg_part x * pos_part y ≡ 0 = ap (λ (z : ℕ). z * pos_part y) (no_minus x p h) ∙ zero-mul (pos_part y) in
    let b : pos_part x * neg_part y ≡ 0 = ap (λ (z : ℕ). pos_part x * z) (no_minus y q k) ∙ mul-zero (pos_part x) in
    rounds_over f (mul f x y) zero_f _ _ _ (mul-pos (den_pos x) (den_pos y)) (zero_fits f) tt (mul_rounds f x y p q) (omega arith)

-- a part c, from 0 to 1, of x: from 0 to x
pub in_part : (f : Format) (c x : Float) → T (fits f x) → T (finite x) → T (le zero_f x) → In zero_f one_f c → In zero_f x (mul f c x)
in_part f c x h p k C =
    let r = in_finite {lo = zero_f} {hi = one_f} {x = c} tt C in
    record {
      low = mul_nonneg f c x r p C.low k;
      high = subst (λ (z : Float). T (le (mul f c x) z)) (one_times f x h p) (mul_le_left f c one_f x r tt p k C.high);
    }

-- ---- x - y is exact for 0 ≤ y ≤ x ≤ 2 y
-- 2 ^ e is 2 ^ j units
unit_exp : (f : Format) (e : ℤ) → down e ≤ 2 ^ low f → (j : ℕ) × (up e * 2 ^ low f ≡ 2 ^ j * down e)
unit_exp f (pos k) h = (k + low f, sym (pow-add 2 k (low f)) ∙ sym (mul-one (2 ^ (k + low f))))
unit_exp f (negsuc k) h = (low f - suc k, one-mul (2 ^ low f) ∙ ap (λ (z : ℕ). 2 ^ z) (sym (meet (low f) (suc k) (pow_le_back (suc k) (low f) h))) ∙ pow-add 2 (low f - suc k) (suc k))

-- m 2 ^ i - n 2 ^ j has no more digits than m or n
pub record Few (m n i j P : ℕ) : Type 0 where
  pub q : ℕ
  pub t : ℕ
  pub small : q < P
  pub is : m * 2 ^ i - n * 2 ^ j ≡ q * 2 ^ t

few_left : (m n i r P : ℕ) → m < P → Few m n i (r + i) P
few_left m n i r P h = record {
  q = m - n * 2 ^ r;
  t = i;
  small = lt_of_le_of_lt (sub-le m (n * 2 ^ r)) h;
  is = ap (λ (z : ℕ). m * 2 ^ i - z) (ap (λ (z : ℕ). n * z) (pow-add 2 r i) ∙ sym (mul_assoc n (2 ^ r) (2 ^ i))) ∙ sym (sub_times m (n * 2 ^ r) (2 ^ i));
}

few_right : (m n r j P : ℕ) → n < P → m * 2 ^ (r + j) ≤ 2 * (n * 2 ^ j) → Few m n (r + j) j P
few_right m n r j P h k =
    let split : m * 2 ^ (r + j) ≡ m * 2 ^ r * 2 ^ j = ap (λ (z : ℕ). m * z) (pow-add 2 r j) ∙ sym (mul_assoc m (2 ^ r) (2 ^ j)) in
    let l : m * 2 ^ r * 2 ^ j ≤ 2 * n * 2 ^ j = le_trans (le_of_eq (sym split)) (le_trans k (le_of_eq (sym (mul_assoc 2 n (2 ^ j))))) in
    let c : m * 2 ^ r ≤ 2 * n = le_of_mul-le-mul_right l (pow_pos j) in
    record {
      q = m * 2 ^ r - n;
      t = j;
      small = lt_of_le_of_lt (half (m * 2 ^ r) n c) h;
      is = ap (λ (z : ℕ). z - n * 2 ^ j) split ∙ sym (sub_times (m * 2 ^ r) n (2 ^ j));
    }
  where
    half : (a b : ℕ) → a ≤ 2 * b → a - b ≤ b
    half a b h = omega arith

few : (m n i j P : ℕ) → m < P → n < P → m * 2 ^ i ≤ 2 * (n * 2 ^ j) → Few m n i j P
few m n i j P h k l = go (leb i j) (leb→le i j) (nleb→lt i j)
  where
    go : (b : Bool) → (T b → i ≤ j) → (T (not b) → j < i) → Few m n i j P
    go true f g = subst (λ (z : ℕ). Few m n i z P) (meet j i (f tt)) (few_left m n i (j - i) P h)
    go false f g =
        let e : i - j + j ≡ i = meet i j (le_of_lt (g tt)) in
        subst (λ (z : ℕ). Few m n z j P) e (few_right m n (i - j) j P k (subst (λ (z : ℕ). m * 2 ^ z ≤ 2 * (n * 2 ^ j)) (sym e) l))

-- in units of the smallest value: a fraction's numerator over D, times the units in 1, is its number of units times D
in_units : (m U L i d d' : ℕ) → U * L ≡ 2 ^ i * d → m * U * d' * L ≡ m * 2 ^ i * (d * d')
in_units m U L i d d' h =
    let a : m * U * d' * L ≡ m * d' * (U * L) = simp (mul_assoc, mul_comm, mul_left_comm) in
    let b : m * d' * (2 ^ i * d) ≡ m * 2 ^ i * (d * d') = simp (mul_assoc, mul_comm, mul_left_comm) in
    a ∙ ap (λ (z : ℕ). m * d' * z) h ∙ b

difference_exact : (f : Format) (m n : ℕ) (e d : ℤ) → Held f m e → Held f n d → n * up d * down e ≤ m * up e * down d → m * up e * down d ≤ 2 * (n * up d * down e)
    → HasValue (round f false (m * up e * down d - n * up d * down e) (down e * down d)) false (m * up e * down d - n * up d * down e) (down e * down d)
difference_exact f m n e d hx hy lo hi =
    let L = 2 ^ low f in
    let E = down e in
    let D = down d in
    let A = m * up e * D in
    let B = n * up d * E in
    let ue = unit_exp f e hx.fine in
    let ud = unit_exp f d hy.fine in
    let i = ue.0 in
    let j = ud.0 in
    let C : 0 < E * D = mul-pos (down_pos e) (down_pos d) in
    let a : A * L ≡ m * 2 ^ i * (E * D) = in_units m (up e) L i E D ue.1 in
    let b : B * L ≡ n * 2 ^ j * (E * D) = in_units n (up d) L j D E ud.1 ∙ ap (λ (z : ℕ). n * 2 ^ j * z) (mul_comm D E) in
    let up2 : m * 2 ^ i * (E * D) ≤ 2 * (n * 2 ^ j) * (E * D) =
    le_trans (le_of_eq (sym a)) (le_trans (mul-le-mul_right L hi) (le_of_eq (mul_assoc 2 B L ∙ ap (λ (z : ℕ). 2 * z) b ∙ sym (mul_assoc 2 (n * 2 ^ j) (E * D))))) in
    let F = few m n i j (2 ^ prec f) hx.digits hy.digits (le_of_mul-le-mul_right up2 C) in
    let top : m * 2 ^ i * E < 2 ^ (low f + suc (emax f)) * E =
    lt_of_le_of_lt (le_of_eq (mul_assoc m (2 ^ i) E ∙ ap (λ (z : ℕ). m * z) (sym ue.1) ∙ sym (mul_assoc m (up e) L)))
    (lt_of_lt_of_le (mul-lt-mul_of_pos_right hx.small (pow_pos (low f)))
    (le_of_eq (mul_right_comm (2 ^ suc (emax f)) E L ∙ ap (λ (z : ℕ). z * E) (mul_comm (2 ^ suc (emax f)) L ∙ sym (pow-add 2 (low f) (suc (emax f))))))) in
    round_exact f false (A - B) (E * D) F.q F.t C F.small
    (lt_of_le_of_lt (le_of_eq (sym F.is)) (lt_of_le_of_lt (sub-le (m * 2 ^ i) (n * 2 ^ j)) (lt_of_mul-lt-mul_right E top)))
    (sub_times A B L ∙ ap (λ (z : ℕ). z - B * L) a ∙ ap (λ (z : ℕ). m * 2 ^ i * (E * D) - z) b ∙ sym (sub_times (m * 2 ^ i) (n * 2 ^ j) (E * D)) ∙ ap (λ (z : ℕ). z * (E * D)) F.is)

-- a float that is not negative, by the fraction a / c
pub record Valued (x : Float) (a c : ℕ) : Type 0 where
  pub real : T (finite x)
  pub plus_is : pos_part x * c ≡ a * den x
  pub minus_is : neg_part x ≡ 0

valued : (x : Float) (a c : ℕ) → HasValue x false a c → Valued x a c
valued nan a c v = absurd v
valued (inf s) a c v = absurd v
valued (fin true m e) a c v = absurd (true≢false v.0)
valued (fin false m e) a c v = record { real = tt; plus_is = v.1; minus_is = refl }

pub sub_exact : (f : Format) (x y : Float) → T (fits f x) → T (fits f y) → T (positive x) → T (positive y) → pos_part y * den x ≤ pos_part x * den y → pos_part x * den y ≤ 2 * (pos_part y * den x)
    → Valued (sub f x y) (pos_part x * den y - pos_part y * den x) (den x * den y)
sub_exact f nan y h k p q lo hi = absurd p
sub_exact f (inf s) y h k p q lo hi = absurd p
sub_exact f (fin true m e) y h k p q lo hi = absurd p
sub_exact f (fin false m e) nan h k p q lo hi = absurd q
sub_exact f (fin false m e) (inf t) h k p q lo hi = absurd q
sub_exact f (fin false m e) (fin true n d) h k p q lo hi = absurd q
sub_exact f (fin false m e) (fin false n d) h k p q lo hi =
    let A = m * up e * down d in
    let B = n * up d * down e in
    let C = down e * down d in
    let a : m * up e * C ≡ A * down e = simp (mul_assoc, mul_comm, mul_left_comm) in
    let b : n * up d * C ≡ B * down d = simp (mul_assoc, mul_comm, mul_left_comm) in
    valued (sub f (fin false m e) (fin false n d)) (A - B) C
    (subst (λ (z : Float). HasValue z false (A - B) C) (sym (sub_at f (fin false m e) (fin false n d) A B C (mul-pos (down_pos e) (down_pos d)) lo (refl, a) (refl, b)))
    (difference_exact f m n e d (held f false m e h) (held f false n d k) lo hi))

pub plus→positive : (y : Float) (c : ℕ) → T (finite y) → 0 < pos_part y * c → T (positive y)
plus→positive nan c p h = absurd p
plus→positive (inf s) c p h = absurd p
plus→positive (fin true m e) c p h = absurd (lt_irrefl 0 (lt_of_lt_of_le h (le_of_eq (zero-mul c))))
plus→positive (fin false m e) c p h = lt→ltb 0 m (first_pos m (up e) (first_pos (m * up e) c h))

-- ---- x + w stays within z where w is at most x and at most z - x, as rounded
far : (X W N dx dw Z dz : ℕ) → W * dx ≤ X * dw + N * dx → 2 * (X * dz) ≤ Z * dx → (X * dw + W * dx) * dz ≤ Z * (dx * dw) + N * dx * dz
far X W N dx dw Z dz h k =
    let a = simp (add-mul, mul_assoc, mul_comm, mul_left_comm) at (mul-le-mul_right dz h) in
    let b = simp (add-mul, mul_assoc, mul_comm, mul_left_comm) at (mul-le-mul_right dw k) in
    simp (add-mul, mul_assoc, mul_comm, mul_left_comm) (omega (arith, a, b))

near : (X W N dx dw Z dz R dr S : ℕ) → 0 < dr → W * dr ≤ R * dw + N * dr → R * (dz * dx) ≡ S * dr → S + X * dz ≡ Z * dx → (X * dw + W * dx) * dz ≤ Z * (dx * dw) + N * dx * dz
near X W N dx dw Z dz R dr S P h k e =
    let a = simp (add-mul, mul_assoc, mul_comm, mul_left_comm) at (mul-le-mul_right (dx * dz) h) in
    let b = simp (add-mul, mul_assoc, mul_comm, mul_left_comm) at (ap (λ (i : ℕ). i * dw) k) in
    let c = simp (add-mul, mul_assoc, mul_comm, mul_left_comm) at (ap (λ (i : ℕ). i * (dr * dw)) e) in
    let g : (X * dw + W * dx) * dz * dr ≤ (Z * (dx * dw) + N * dx * dz) * dr = simp (add-mul, mul_assoc, mul_comm, mul_left_comm) (omega (arith, a, b, c)) in
    le_of_mul-le-mul_right g P

pub add_within : (f : Format) (x w z : Float) → T (fits f x) → T (fits f z) → T (finite x) → T (finite w) → T (finite z) → T (le zero_f x) → T (le x z) → T (le w x) → T (le w (sub f z x)) → T (le (add f x w) z)
add_within f x w z fx fz p q r x0 xz wx wr = go (leb (2 * (pos_part x * den z)) (pos_part z * den x)) (leb→le (2 * (pos_part x * den z)) (pos_part z * den x)) (nleb→lt (2 * (pos_part x * den z)) (pos_part z * den x))
  where
    X0 : neg_part x ≡ 0
    X0 = no_minus x p x0

    Z0 : neg_part z ≡ 0
    Z0 = no_minus z r (le_trans_float zero_f x z x0 xz)

    close : (pos_part x * den w + pos_part w * den x) * den z ≤ pos_part z * (den x * den w) + neg_part w * den x * den z → T (le (add f x w) z)
    close h =
        let a = X0 in
        let b = Z0 in
        let c : neg_part x * den w ≡ 0 = ap (λ (k : ℕ). k * den w) X0 ∙ zero-mul (den w) in
        let d : neg_part z * (den x * den w) ≡ 0 = ap (λ (k : ℕ). k * (den x * den w)) Z0 ∙ zero-mul (den x * den w) in
        let e : (neg_part x * den w + neg_part w * den x) * den z ≡ neg_part w * den x * den z = ap (λ (k : ℕ). (k + neg_part w * den x) * den z) c ∙ ap (λ (k : ℕ). k * den z) (zero-add (neg_part w * den x)) in
        rounds_under f (add f x w) z _ _ _ (mul-pos (den_pos x) (den_pos w)) fz r (add_rounds f x w p q) (omega arith)

    go : (b : Bool) → (T b → 2 * (pos_part x * den z) ≤ pos_part z * den x) → (T (not b) → pos_part z * den x < 2 * (pos_part x * den z)) → T (le (add f x w) z)
    go true i j =
        let h = le→under w x q p wx in
        let c : neg_part x * den w ≡ 0 = ap (λ (k : ℕ). k * den w) X0 ∙ zero-mul (den w) in
        close (far (pos_part x) (pos_part w) (neg_part w) (den x) (den w) (pos_part z) (den z) (omega arith) (i tt))
    go false i j =
        let u = le→under x z p r xz in
        let c : neg_part x * den z ≡ 0 = ap (λ (k : ℕ). k * den z) X0 ∙ zero-mul (den z) in
        let d : neg_part z * den x ≡ 0 = ap (λ (k : ℕ). k * den x) Z0 ∙ zero-mul (den x) in
        let l = j tt in
        let lo : pos_part x * den z ≤ pos_part z * den x = omega arith in
        let xp : 0 < pos_part x * den z = omega arith in
        let zp : 0 < pos_part z * den x = omega arith in
        let ex = sub_exact f z x fz fx (plus→positive z (den x) r zp) (plus→positive x (den z) p xp) lo (le_of_lt l) in
        let R = sub f z x in
        let h = le→under w R q ex.real wr in
        let g : neg_part R * den w ≡ 0 = ap (λ (k : ℕ). k * den w) ex.minus_is ∙ zero-mul (den w) in
        let S = pos_part z * den x - pos_part x * den z in
        close (near (pos_part x) (pos_part w) (neg_part w) (den x) (den w) (pos_part z) (den z) (pos_part R) (den R) S (den_pos R) (omega arith) ex.plus_is (omega arith))
