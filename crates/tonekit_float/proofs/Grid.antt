-- The floats at whole multiples of 1 / 2 ^ k near 0, called ticks. A value between two of them rounds to one between them: what a float law that asks
-- where a value lies among its neighbours can be proved from, with no word of binades. Assumes nothing.
use Rattle.std.proofs.Common.{ℕ, suc, ◌+◌, ◌-◌, ◌*◌, ◌/◌, ◌^◌, ◌<◌, ◌≤◌, ◌≡◌, Bool, true, false, not, cond, T, leb, ◌⊎◌, inl, inr, refl, sym, ◌∙◌, ap, subst, true≢false, arith, leb→le, lit<, add-mul, mul_assoc, one-mul, sub-le, lt_of_lt_of_le, pow_pos, pow_mono, pow-add, shl_lt, Float}
use Rattle.std.proofs.Math.Nat.{div-mul-le_self, div-lt_iff_lt-mul, eq-or-lt_of_le}
use Rattle.std.proofs.Math.Pow.{pow-lt}
use lib.Dec.{nleb→lt}
use lib.Ieee.{nan, inf, fin, Format, binary32, binary64, prec, emax, low, down, round}
use lib.Ieee.Fits.{reach}
use lib.Ieee.Exact.{HasValue, round_exact}
use lib.Ieee.Positive.{den, den_pos}
use lib.Ieee.Scale.{finite}
use Rattle.tonekit_float.proofs.Fraction.{pos_part, neg_part}
use Rattle.tonekit_float.proofs.Order.{Cross}
use Rattle.tonekit_float.proofs.Units.{meet}
use Rattle.tonekit_float.proofs.Monotone.{Rounds, above, under}
use Rattle.tonekit_float.proofs.Exact.{room}

-- x is finite and is exactly (p - n) / d
pub record Is (x : Float) (p n d : ℕ) : Type 0 where
  pub real : T (finite x)
  pub value : pos_part x * d + n * den x ≡ p * den x + neg_part x * d

-- ---- n / 2 ^ k, for n up to 2 ^ prec, is a float
module _ (f : Format) (s : Bool) (k : ℕ) (h : k ≤ low f) where
  split : (a : ℕ) → a * 2 ^ low f ≡ a * 2 ^ (low f - k) * 2 ^ k
  split a = ap (λ (z : ℕ). a * 2 ^ z) (sym (meet (low f) k h)) ∙ ap (λ (z : ℕ). a * z) (pow-add 2 (low f - k) k) ∙ sym (mul_assoc a (2 ^ (low f - k)) (2 ^ k))

  below_top : (n : ℕ) → n < 2 ^ prec f → HasValue (round f s n (2 ^ k)) s n (2 ^ k)
  below_top n l =
      round_exact f s n (2 ^ k) n (low f - k) (pow_pos k) l
      (lt_of_lt_of_le (shl_lt (prec f) (low f - k) l) (pow_mono (room (prec f) (low f - k) (low f) (suc (emax f)) (reach f) (sub-le (low f) k)))) (split n)

  one_lt : (f : Format) → 1 < 2 ^ prec f
  one_lt binary32 = lit< tt
  one_lt binary64 = lit< tt

  strict : (f : Format) → prec f < suc (emax f)
  strict binary32 = lit< tt
  strict binary64 = lit< tt

  more : (p j l e : ℕ) → p < e → j ≤ l → p + j < l + e
  more p j l e h k = omega arith

  at_top : HasValue (round f s (2 ^ prec f) (2 ^ k)) s (2 ^ prec f) (2 ^ k)
  at_top =
      let j = low f - k in
      round_exact f s (2 ^ prec f) (2 ^ k) 1 (prec f + j) (pow_pos k) (one_lt f)
      (subst (λ (x : ℕ). x < 2 ^ (low f + suc (emax f))) (sym (one-mul (2 ^ (prec f + j)))) (pow-lt (more (prec f) j (low f) (suc (emax f)) (strict f) (sub-le (low f) k))))
      (split (2 ^ prec f) ∙ ap (λ (z : ℕ). z * 2 ^ k) (sym (pow-add 2 (prec f) j) ∙ sym (one-mul (2 ^ (prec f + j)))))

  exact : (n : ℕ) → n ≤ 2 ^ prec f → HasValue (round f s n (2 ^ k)) s n (2 ^ k)
  exact n l = go (eq-or-lt_of_le l)
    where
      go : (n ≡ 2 ^ prec f) ⊎ (n < 2 ^ prec f) → HasValue (round f s n (2 ^ k)) s n (2 ^ k)
      go (inl e) = subst (λ (x : ℕ). HasValue (round f s x (2 ^ k)) s x (2 ^ k)) (sym e) at_top
      go (inr g) = below_top n g

value_above : (x : Float) (a p n c : ℕ) → n ≤ p → a ≡ p - n → HasValue x false a c → Is x p n c
value_above nan a p n c h e v = absurd v
value_above (inf s) a p n c h e v = absurd v
value_above (fin true m g) a p n c h e v = absurd (true≢false v.0)
value_above (fin false m g) a p n c h e v =
    let w = v.1 in
    let s : (a + n) * down g ≡ a * down g + n * down g = add-mul a n (down g) in
    let t : a + n ≡ p = omega arith in
    let u : (a + n) * down g ≡ p * down g = ap (λ (z : ℕ). z * down g) t in
    record { real = tt; value = omega arith }

value_below : (x : Float) (a p n c : ℕ) → p ≤ n → a ≡ n - p → HasValue x true a c → Is x p n c
value_below nan a p n c h e v = absurd v
value_below (inf s) a p n c h e v = absurd v
value_below (fin false m g) a p n c h e v = absurd (true≢false (sym v.0))
value_below (fin true m g) a p n c h e v =
    let w = v.1 in
    let s : (a + p) * down g ≡ a * down g + p * down g = add-mul a p (down g) in
    let t : a + p ≡ n = omega arith in
    let u : (a + p) * down g ≡ n * down g = ap (λ (z : ℕ). z * down g) t in
    record { real = tt; value = omega arith }

-- ---- ticks: tick w is (w - 2 ^ prec) / 2 ^ k
module _ (f : Format) (k : ℕ) where
  abbrev pub mark : ℕ
  mark = 2 ^ prec f

  pub tick : ℕ → Float
  tick w = cond (leb mark w) (round f false (w - mark) (2 ^ k)) (round f true (mark - w) (2 ^ k))

  pub tick_rounds : (w : ℕ) → Rounds f (tick w) w mark (2 ^ k)
  unfolding tick
  tick_rounds w = go (leb mark w) (leb→le mark w) (nleb→lt mark w)
    where
      go : (b : Bool) → (T b → mark ≤ w) → (T (not b) → w < mark) → Rounds f (cond b (round f false (w - mark) (2 ^ k)) (round f true (mark - w) (2 ^ k))) w mark (2 ^ k)
      go true h g = above (h tt) refl
      go false h g = under (let z = g tt in omega arith) refl

  pub tick_is : k ≤ low f → (w : ℕ) → w ≤ mark + mark → Is (tick w) w mark (2 ^ k)
  unfolding tick
  tick_is l w h = go (leb mark w) (leb→le mark w) (nleb→lt mark w)
    where
      go : (b : Bool) → (T b → mark ≤ w) → (T (not b) → w < mark) → Is (cond b (round f false (w - mark) (2 ^ k)) (round f true (mark - w) (2 ^ k))) w mark (2 ^ k)
      go true i j = value_above (round f false (w - mark) (2 ^ k)) (w - mark) w mark (2 ^ k) (i tt) refl (exact f false k l (w - mark) (omega arith))
      go false i j = value_below (round f true (mark - w) (2 ^ k)) (mark - w) w mark (2 ^ k) (let z = j tt in omega arith) refl (exact f true k l (mark - w) (omega arith))

-- ---- where a value lies among the ticks, of which tick o is 0: from tick w on, and before tick (w + 1)
pub record Among (x : Float) (o K : ℕ) : Type 0 where
  pub w : ℕ
  pub from : Cross w o K (pos_part x) (neg_part x) (den x)
  pub before : Cross (pos_part x) (neg_part x) (den x) (w + 1) o K
  pub strict : pos_part x * K + o * den x < (w + 1) * den x + neg_part x * K

pub among : (x : Float) (o K : ℕ) → neg_part x * K ≤ pos_part x * K + o * den x → Among x o K
among x o K h =
    let d = den x in
    let n = pos_part x * K + o * d - neg_part x * K in
    let a : n / d * d ≤ n = div-mul-le_self n d in
    let b : n < (n / d + 1) * d = (div-lt_iff_lt-mul (den_pos x)).0 (up_one (n / d)) in
    record { w = n / d; from = omega arith; before = omega arith; strict = omega arith }
  where
    up_one : (q : ℕ) → q < q + 1
    up_one q = omega arith
