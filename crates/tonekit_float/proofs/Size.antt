-- Sizes by whole numbers: `Within n x` says that x is finite and of size at most n. Up to 2 ^ prec such bounds add and multiply with no loss to
-- rounding, since whole numbers are exact and rounding keeps the order. So a loop's bound is a number that grows with its turns.
use Rattle.std.proofs.Common.{◌≡◌, ℕ, ◌+◌, ◌-◌, ◌*◌, ◌^◌, ◌<◌, ◌≤◌, true, false, ◌&&◌, T, leb, pos, sym, ap, ◌∙◌, subst, zero-le, le_trans, le_of_eq, lt_of_lt_of_le, mul-le-mul_right, zero-lt-suc, mul_assoc, mul_comm, add-mul, mul-le-mul, mul-le-mul_left, mul-pos, one-mul, zero-mul, mul-one, mul-add, mul_right_comm, le_of_mul-le-mul_right, mul_left_comm, arith, leb→le, Float}
use lib.Ieee.{nan, inf, fin, Format, binary32, prec, up, down, round, neg, add, sub, mul, div, le, of_int, fits}
use lib.Ieee.Fits.{and_l, and_r}
use lib.Ieee.Order.{round_mono}
use lib.Ieee.Positive.{den, den_pos, positive, positive-finite}
use lib.Ieee.Scale.{finite}
use Rattle.spec_arithmetic.specs.Narrow.{narrowed}
use Rattle.spec_arithmetic.specs.Bounds.{In}
use Rattle.tonekit_float.proofs.Fraction.{pos_part, neg_part, Within}
use Rattle.tonekit_float.proofs.Order.{le→under, under→le, between_finite, flipped, neg_finite, le_trans_float}
use Rattle.tonekit_float.proofs.Monotone.{Rounds, above, under, round_neg, zero_is, zero_f, no_minus, plus_pos, add_rounds, mul_rounds, div_rounds, narrow_rounds}
use Rattle.tonekit_float.proofs.Exact.{whole, whole_worth, plus→positive, rounds_under, rounds_over}
use Rattle.tonekit_core.proofs.LoopLaws.{range_keeps}
use Rattle.tonekit_core.specs.Loop.{range}

-- ---- written out, or a whole number
pub within_lit : (n : ℕ) (x : Float) → T (finite x && leb (pos_part x + neg_part x) (n * den x)) → Within n x
within_lit n x t = record { real = and_l (finite x) (leb (pos_part x + neg_part x) (n * den x)) t; small = leb→le (pos_part x + neg_part x) (n * den x) (and_r (finite x) (leb (pos_part x + neg_part x) (n * den x)) t) }

pub within_whole : (f : Format) (n : ℕ) → n ≤ 2 ^ prec f → Within n (whole f n)
within_whole f n h = let w = whole_worth f n h in let a = w.plus_is in let b = w.minus_is in record { real = w.real; small = omega arith }

pub within_more : {m n : ℕ} {x : Float} → m ≤ n → Within m x → Within n x
within_more {m} {n} {x} h w = let k = mul-le-mul_right (den x) h in let s = w.small in record { real = w.real; small = omega arith }

pub within_neg : {n : ℕ} {x : Float} → Within n x → Within n (neg x)
within_neg {n} {x} w =
    let F = flipped x in
    let s = w.small in
    let a = F.up in
    let b = F.below in
    let c : n * den (neg x) ≡ n * den x = ap (λ (k : ℕ). n * k) F.over in
    record { real = neg_finite x w.real; small = omega arith }

-- ---- a rounded fraction of size at most n is within n
within_up : (f : Format) (a b n : ℕ) → 0 < b → n ≤ 2 ^ prec f → a ≤ n * b → Within n (round f false a b)
unfolding of_int
within_up f a b n B k h =
    let r = round f false a b in
    let w = whole_worth f n k in
    let hi : T (le r (whole f n)) = round_mono f a b n 1 B (zero-lt-suc 0) (le_trans (le_of_eq (mul-one a)) h) in
    let lo : T (le zero_f r) = subst (λ (z : Float). T (le z r)) (zero_is f false b B) (round_mono f 0 b a b B B (le_trans (le_of_eq (zero-mul b)) zero-le)) in
    let R = between_finite zero_f (whole f n) r tt w.real lo hi in
    let u = le→under r (whole f n) R w.real hi in
    let z = no_minus r R lo in
    let y : neg_part (whole f n) * den r ≡ 0 = ap (λ (i : ℕ). i * den r) w.minus_is ∙ zero-mul (den r) in
    let x : pos_part (whole f n) * den r ≡ n * den r * den (whole f n) = ap (λ (i : ℕ). i * den r) w.plus_is ∙ mul_right_comm n (den (whole f n)) (den r) in
    let q : neg_part r * den (whole f n) ≡ 0 = ap (λ (i : ℕ). i * den (whole f n)) z ∙ zero-mul (den (whole f n)) in
    let l : pos_part r * den (whole f n) ≤ n * den r * den (whole f n) = omega arith in
    let s : pos_part r ≤ n * den r = le_of_mul-le-mul_right l (den_pos (whole f n)) in
    record { real = R; small = omega arith }

pub rounds_within : (f : Format) (x : Float) (p n d k : ℕ) → 0 < d → k ≤ 2 ^ prec f → Rounds f x p n d → p ≤ k * d → n ≤ k * d → Within k x
rounds_within f x p n d k D K (above h e) hi lo = subst (Within k) (sym e) (within_up f (p - n) d k D K (omega arith))
rounds_within f x p n d k D K (under h e) hi lo = subst (Within k) (sym (e ∙ sym (round_neg f false (n - p) d))) (within_neg (within_up f (n - p) d k D K (omega arith)))

-- ---- the operations
sum_small : (p q d c a b : ℕ) → p ≤ a * d → q ≤ b * c → p * c + q * d ≤ (a + b) * (d * c)
sum_small p q d c a b h k =
    let x = simp (mul_assoc, mul_comm, mul_left_comm) at (mul-le-mul_right c h) in
    let y = simp (mul_assoc, mul_comm, mul_left_comm) at (mul-le-mul_right d k) in
    simp (add-mul, mul_assoc, mul_comm, mul_left_comm) (omega (arith, x, y))

part_l : (p n k : ℕ) → p + n ≤ k → p ≤ k
part_l p n k h = omega arith

part_r : (p n k : ℕ) → p + n ≤ k → n ≤ k
part_r p n k h = omega arith

pub within_add : (f : Format) {a b : ℕ} {x y : Float} → a + b ≤ 2 ^ prec f → Within a x → Within b y → Within (a + b) (add f x y)
within_add f {a} {b} {x} {y} k v w =
    rounds_within f (add f x y) _ _ _ (a + b) (mul-pos (den_pos x) (den_pos y)) k (add_rounds f x y v.real w.real)
    (sum_small (pos_part x) (pos_part y) (den x) (den y) a b (part_l (pos_part x) (neg_part x) (a * den x) v.small) (part_l (pos_part y) (neg_part y) (b * den y) w.small))
    (sum_small (neg_part x) (neg_part y) (den x) (den y) a b (part_r (pos_part x) (neg_part x) (a * den x) v.small) (part_r (pos_part y) (neg_part y) (b * den y) w.small))

pub within_sub : (f : Format) {a b : ℕ} {x y : Float} → a + b ≤ 2 ^ prec f → Within a x → Within b y → Within (a + b) (sub f x y)
unfolding sub
within_sub f k v w = within_add f k v (within_neg w)

product_small : (p n q o d c a b : ℕ) → p + n ≤ a * d → q + o ≤ b * c → p * q + n * o + (p * o + n * q) ≤ a * b * (d * c)
product_small p n q o d c a b h k =
    let x : (p + n) * (q + o) ≤ a * d * (b * c) = mul-le-mul h k in
    let e : (p + n) * (q + o) ≡ p * q + n * o + (p * o + n * q) = simp (add-mul, mul-add) (omega arith) in
    let g : a * d * (b * c) ≡ a * b * (d * c) = simp (mul_assoc, mul_comm, mul_left_comm) in
    le_trans (le_of_eq (sym e)) (le_trans x (le_of_eq g))

pub within_mul : (f : Format) {a b : ℕ} {x y : Float} → a * b ≤ 2 ^ prec f → Within a x → Within b y → Within (a * b) (mul f x y)
within_mul f {a} {b} {x} {y} k v w =
    let s = product_small (pos_part x) (neg_part x) (pos_part y) (neg_part y) (den x) (den y) a b v.small w.small in
    rounds_within f (mul f x y) _ _ _ (a * b) (mul-pos (den_pos x) (den_pos y)) k (mul_rounds f x y v.real w.real) (part_l _ _ _ s) (part_r _ _ _ s)

-- a quotient by a y that is 1 / c or more: z, written out, shows it
quotient_small : (p q d w a c : ℕ) → p ≤ a * d → w ≤ c * q → p * w ≤ a * c * (q * d)
quotient_small p q d w a c h k =
    let e : a * d * (c * q) ≡ a * c * (q * d) = simp (mul_assoc, mul_comm, mul_left_comm) in
    le_trans (mul-le-mul h k) (le_of_eq e)

-- from z's fraction to that of a larger y
reaches : (c p d q w : ℕ) → 0 < d → d ≤ c * p → p * w ≤ q * d → w ≤ c * q
reaches c p d q w D h k =
    let a : w * d ≤ w * (c * p) = mul-le-mul_left w h in
    let b : w * (c * p) ≡ c * (p * w) = simp (mul_assoc, mul_comm, mul_left_comm) in
    let e : c * (p * w) ≤ c * q * d = le_trans (mul-le-mul_left c k) (le_of_eq (sym (mul_assoc c q d))) in
    le_of_mul-le-mul_right (le_trans a (le_trans (le_of_eq b) e)) D

positive_up : (c : ℕ) (y : Float) → T (finite y) → den y ≤ c * pos_part y → T (positive y)
positive_up c y p h = plus→positive y c p (lt_of_lt_of_le (den_pos y) (le_trans h (le_of_eq (mul_comm c (pos_part y)))))

positive_nonneg : (z : Float) → T (positive z) → T (le zero_f z)
positive_nonneg nan p = absurd p
positive_nonneg (inf s) p = absurd p
positive_nonneg (fin true m e) p = absurd p
positive_nonneg (fin false m e) p = under→le zero_f (fin false m e) tt tt (omega arith)

-- a y that is at least z, and z at least 1 / c
module _ (c : ℕ) (z y : Float) (t : T (positive z && leb (den z) (c * pos_part z))) (p : T (finite y)) (h : T (le z y)) where
  divisor_small : den y ≤ c * pos_part y
  divisor_small =
      let Z = positive-finite z (and_l (positive z) (leb (den z) (c * pos_part z)) t) in
      let z0 = positive_nonneg z (and_l (positive z) (leb (den z) (c * pos_part z)) t) in
      let u = le→under z y Z p h in
      let m : neg_part y * den z ≡ 0 = ap (λ (i : ℕ). i * den z) (no_minus y p (le_trans_float zero_f z y z0 h)) ∙ zero-mul (den z) in
      let n : neg_part z * den y ≡ 0 = ap (λ (i : ℕ). i * den y) (no_minus z Z z0) ∙ zero-mul (den y) in
      reaches c (pos_part z) (den z) (pos_part y) (den y) (den_pos z) (leb→le (den z) (c * pos_part z) (and_r (positive z) (leb (den z) (c * pos_part z)) t)) (omega arith)

  -- a fraction whose size is at most a c, of which the quotient is the rounding
  record Divided (f : Format) (a : ℕ) (x : Float) : Type 0 where
    pub over : 0 < pos_part y * den x
    pub rounds : Rounds f (div f x y) (pos_part x * den y) (neg_part x * den y) (pos_part y * den x)
    pub up : pos_part x * den y ≤ a * c * (pos_part y * den x)
    pub down : neg_part x * den y ≤ a * c * (pos_part y * den x)

  divided : (f : Format) {a : ℕ} {x : Float} → Within a x → Divided f a x
  divided f {a} {x} v =
      let r = divisor_small in
      let q = positive_up c y p r in
      record {
        over = mul-pos (plus_pos y q) (den_pos x);
        rounds = div_rounds f x y v.real q;
        up = quotient_small (pos_part x) (pos_part y) (den x) (den y) a c (part_l (pos_part x) (neg_part x) (a * den x) v.small) r;
        down = quotient_small (neg_part x) (pos_part y) (den x) (den y) a c (part_r (pos_part x) (neg_part x) (a * den x) v.small) r;
      }

pub within_div : (f : Format) (c : ℕ) (z : Float) {a : ℕ} {x : Float} (y : Float) → T (positive z && leb (den z) (c * pos_part z)) → a * c ≤ 2 ^ prec f → Within a x → T (finite y) → T (le z y) → Within (a * c) (div f x y)
within_div f c z {a} {x} y t k v p h = let d = divided c z y t p h f v in rounds_within f (div f x y) _ _ _ (a * c) d.over k d.rounds d.up d.down

-- past 2 ^ prec: by a power of two
pub in_div_power : (f : Format) (c k : ℕ) (z : Float) {a : ℕ} {x : Float} (y : Float) → T (positive z && leb (den z) (c * pos_part z)) → T (fits f (fin true 1 (pos k)) && fits f (fin false 1 (pos k))) → a * c ≤ 2 ^ k
    → Within a x → T (finite y) → T (le z y) → In (fin true 1 (pos k)) (fin false 1 (pos k)) (div f x y)
in_div_power f c k z {a} {x} y t F l v p h =
    let d = divided c z y t p h f v in
    let m = mul-le-mul_right (pos_part y * den x) l in
    let u = d.up in
    let n = d.down in
    record {
      low = rounds_over f (div f x y) (fin true 1 (pos k)) _ _ _ d.over (and_l (fits f (fin true 1 (pos k))) (fits f (fin false 1 (pos k))) F) tt d.rounds (omega arith);
      high = rounds_under f (div f x y) (fin false 1 (pos k)) _ _ _ d.over (and_r (fits f (fin true 1 (pos k))) (fits f (fin false 1 (pos k))) F) tt d.rounds (omega arith);
    }

pub within_narrow : {a : ℕ} {x : Float} → a ≤ 2 ^ 24 → Within a x → Within a (narrowed x)
within_narrow {a} {x} k v =
    rounds_within binary32 (narrowed x) _ _ _ a (den_pos x) k (narrow_rounds x v.real) (part_l (pos_part x) (neg_part x) (a * den x) v.small) (part_r (pos_part x) (neg_part x) (a * den x) v.small)

-- ---- sizes and bounds
one_side : (n p q o d c : ℕ) → 0 < c → p * c + o * d ≤ q * d + 0 * c → q + o ≤ n * c → p ≤ n * d
one_side n p q o d c C h k =
    let a : p * c ≤ q * d = omega arith in
    let b : q * d ≤ n * c * d = mul-le-mul_right d (part_l q o (n * c) k) in
    le_of_mul-le-mul_right (le_trans a (le_trans b (le_of_eq (mul_right_comm n c d)))) C

side : (n : ℕ) (lo hi x : Float) → Within n lo → Within n hi → In lo hi x → T (finite x) → pos_part x + neg_part x ≤ n * den x
side n lo hi nan v w h p = absurd p
side n lo hi (inf s) v w h p = absurd p
side n lo hi (fin false m e) v w h p =
    let u = le→under (fin false m e) hi tt w.real h.high in
    let k = one_side n (m * up e) (pos_part hi) (neg_part hi) (down e) (den hi) (den_pos hi) (omega arith) w.small in
    omega arith
side n lo hi (fin true m e) v w h p =
    let u = le→under lo (fin true m e) v.real tt h.low in
    let s = v.small in
    let k = one_side n (m * up e) (neg_part lo) (pos_part lo) (down e) (den lo) (den_pos lo) (omega arith) (omega arith) in
    omega arith

pub in_within : {n : ℕ} {lo hi x : Float} → Within n lo → Within n hi → In lo hi x → Within n x
in_within {n} {lo} {hi} {x} v w h =
    let p = between_finite lo hi x v.real w.real h.low h.high in
    record { real = p; small = side n lo hi x v w h p }

pub within_in : (f : Format) {n : ℕ} {x : Float} → n ≤ 2 ^ prec f → Within n x → In (neg (whole f n)) (whole f n) x
within_in f {n} {x} h v =
    let w = whole_worth f n h in
    let F = flipped (whole f n) in
    let s = v.small in
    let D = den (whole f n) in
    let x1 : (pos_part x + neg_part x) * D ≤ n * den x * D = mul-le-mul_right D s in
    let x2 : (pos_part x + neg_part x) * D ≡ pos_part x * D + neg_part x * D = add-mul (pos_part x) (neg_part x) D in
    let x3 : pos_part (whole f n) * den x ≡ n * den x * D = ap (λ (k : ℕ). k * den x) w.plus_is ∙ mul_right_comm n D (den x) in
    let x4 : neg_part (whole f n) * den x ≡ 0 = ap (λ (k : ℕ). k * den x) w.minus_is ∙ zero-mul (den x) in
    let y1 : pos_part (neg (whole f n)) * den x ≡ 0 = ap (λ (k : ℕ). k * den x) (F.up ∙ w.minus_is) ∙ zero-mul (den x) in
    let y2 : neg_part (neg (whole f n)) * den x ≡ n * den x * D = ap (λ (k : ℕ). k * den x) F.below ∙ x3 in
    let y3 : neg_part x * den (neg (whole f n)) ≡ neg_part x * D = ap (λ (k : ℕ). neg_part x * k) F.over in
    let y4 : pos_part x * den (neg (whole f n)) ≡ pos_part x * D = ap (λ (k : ℕ). pos_part x * k) F.over in
    record {
      low = under→le (neg (whole f n)) x (neg_finite (whole f n) w.real) v.real (omega arith);
      high = under→le x (whole f n) v.real w.real (omega arith);
    }

-- ---- a sum of n values of size at most m is within n m, and divided by n within m: the mean of values is within their bound
mean_small : (p d w n m : ℕ) → p ≤ n * m * d → p * w ≤ m * (n * w * d)
mean_small p d w n m h = let x = simp (mul_assoc, mul_comm, mul_left_comm) at (mul-le-mul_right w h) in simp (mul_assoc, mul_comm, mul_left_comm) x

pub within_mean : (f : Format) (n m : ℕ) {x : Float} → 0 < n → n ≤ 2 ^ prec f → m ≤ 2 ^ prec f → Within (n * m) x → Within m (div f x (whole f n))
within_mean f n m {x} N hn hm v =
    let w = whole_worth f n hn in
    let W = whole f n in
    let c : den W ≤ pos_part W = le_trans (le_trans (le_of_eq (sym (one-mul (den W)))) (mul-le-mul_right (den W) N)) (le_of_eq (sym w.plus_is)) in
    let q = positive_up 1 W w.real (le_trans c (le_of_eq (sym (one-mul (pos_part W))))) in
    let e : m * (n * den W * den x) ≡ m * (pos_part W * den x) = ap (λ (k : ℕ). m * (k * den x)) (sym w.plus_is) in
    rounds_within f (div f x W) _ _ _ m (mul-pos (plus_pos W q) (den_pos x)) hm (div_rounds f x W v.real q)
    (le_trans (mean_small (pos_part x) (den x) (den W) n m (part_l (pos_part x) (neg_part x) (n * m * den x) v.small)) (le_of_eq e))
    (le_trans (mean_small (neg_part x) (den x) (den W) n m (part_r (pos_part x) (neg_part x) (n * m * den x) v.small)) (le_of_eq e))

pub sum_within : (f : Format) (g : ℕ → Float) (n m : ℕ) (z : Float) → n * m ≤ 2 ^ prec f → Within 0 z → ((i : ℕ) → i < n → Within m (g i)) → Within (n * m) (range (λ i t. add f t (g i)) 0 n z)
sum_within f g n m z h o each =
    range_keeps (λ i t. add f t (g i)) (λ i t. Within (i * m) t) 0 n z zero-le
    (λ j t l w.
    let e : (j + 1) * m ≡ j * m + m = add-mul j 1 m ∙ ap (λ (k : ℕ). j * m + k) (one-mul m) in
    subst (λ (k : ℕ). Within k (add f t (g j))) (sym e) (within_add f (le_trans (le_trans (le_of_eq (sym e)) (mul-le-mul_right m (one_up j n l))) h) w (each j l)))
    (subst (λ (k : ℕ). Within k z) (sym (zero-mul m)) o)
  where
    one_up : (j n : ℕ) → j < n → j + 1 ≤ n
    one_up j n h = omega arith
