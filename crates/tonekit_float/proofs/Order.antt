-- The order of floats, of any sign, and the operations that keep it. A finite value is the fraction (pos_part - neg_part) / den.
-- Every law is stated with the library's `le`, which computes at closed values: to bound a result, compute the operation at the bounds.
use Rattle.std.proofs.Common.{◌≡◌, ℕ, ◌+◌, ◌*◌, ◌<◌, ◌≤◌, Bool, true, false, not, ◌&&◌, ◌||◌, T, eqb, ltb, leb, ◌⊎◌, ℤ, sym, refl, subst, inl, inr, ⊎_elim, le_of_eq, le_refl, lt_irrefl, mul-le-mul_right, mul_assoc, mul_comm, add-mul, le_of_mul-le-mul_right, mul_left_comm, arith, eqb→eq, ltb→lt, leb→le, nltb→le, Float}
use lib.Dec.{nleb→lt}
use lib.Ieee.{nan, inf, fin, up, down, neg, lt, le, eq}
use lib.Ieee.Fits.{and_l, and_r, and_i, eq→eqb}
use lib.Ieee.Positive.{den, den_pos}
use lib.Ieee.Scale.{finite}
use Rattle.tonekit_float.proofs.Fraction.{pos_part, neg_part}

pub yes : {b : Bool} → b ≡ true → T b
yes h = subst T (sym h) tt

pub no : {b : Bool} → b ≡ false → T (not b)
no h = subst (λ (b : Bool). T (not b)) (sym h) tt

-- ---- the order of fractions
-- (p - n) / d ≤ (q - o) / c
abbrev pub Cross : ℕ → ℕ → ℕ → ℕ → ℕ → ℕ → Type 0
Cross p n d q o c = p * c + o * d ≤ q * d + n * c

abbrev pub Under : Float → Float → Type 0
Under x y = Cross (pos_part x) (neg_part x) (den x) (pos_part y) (neg_part y) (den y)

-- ---- `le` of two finite values is the order of their fractions
either_le : (a b : ℕ) (c : Bool) → T (ltb a b || (eqb a b && c)) → a ≤ b
either_le a b c h = go (ltb a b) (ltb→lt a b) h
  where
    go : (x : Bool) → (T x → a < b) → T (x || (eqb a b && c)) → a ≤ b
    go true p h = let k = p tt in omega arith
    go false p h = le_of_eq (eqb→eq a b (and_l (eqb a b) c h))

le_either : (a b : ℕ) → a ≤ b → T (ltb a b || (eqb a b && true))
le_either a b k = go (ltb a b) (nltb→le a b)
  where
    go : (x : Bool) → (T (not x) → b ≤ a) → T (x || (eqb a b && true))
    go true p = tt
    go false p = and_i (eqb a b) true (eq→eqb {a = a} {b = b} (let z = p tt in omega arith)) tt

ge_either : (a b : ℕ) → b ≤ a → T (ltb b a || (eqb a b && true))
ge_either a b k = go (ltb b a) (nltb→le b a)
  where
    go : (x : Bool) → (T (not x) → a ≤ b) → T (x || (eqb a b && true))
    go true p = tt
    go false p = and_i (eqb a b) true (eq→eqb {a = a} {b = b} (let z = p tt in omega arith)) tt

pub either_ge : (a b : ℕ) (c : Bool) → T (ltb b a || (eqb a b && c)) → b ≤ a
either_ge a b c h = go (ltb b a) (ltb→lt b a) h
  where
    go : (x : Bool) → (T x → b < a) → T (x || (eqb a b && c)) → b ≤ a
    go true p h = let k = p tt in omega arith
    go false p h = le_of_eq (sym (eqb→eq a b (and_l (eqb a b) c h)))

pub le→under : (x y : Float) → T (finite x) → T (finite y) → T (le x y) → Under x y
unfolding le lt eq
le→under nan y p q h = absurd p
le→under (inf s) y p q h = absurd p
le→under (fin s m e) nan p q h = absurd q
le→under (fin s m e) (inf t) p q h = absurd q
le→under (fin false m e) (fin false n d) p q h = let k = either_le (m * up e * down d) (n * up d * down e) true h in omega arith
le→under (fin false m e) (fin true n d) p q h =
    let a = m * up e * down d in
    let b = n * up d * down e in
    let k = eqb→eq a b (and_l (eqb a b) (eqb a 0) h) in
    let l = eqb→eq a 0 (and_r (eqb a b) (eqb a 0) h) in
    omega arith
le→under (fin true m e) (fin false n d) p q h = omega arith
le→under (fin true m e) (fin true n d) p q h = let k = either_ge (m * up e * down d) (n * up d * down e) true h in omega arith

pub under→le : (x y : Float) → T (finite x) → T (finite y) → Under x y → T (le x y)
unfolding le lt eq
under→le nan y p q h = absurd p
under→le (inf s) y p q h = absurd p
under→le (fin s m e) nan p q h = absurd q
under→le (fin s m e) (inf t) p q h = absurd q
under→le (fin false m e) (fin false n d) p q h = le_either (m * up e * down d) (n * up d * down e) (let k = h in omega arith)
under→le (fin false m e) (fin true n d) p q h =
    let k = h in
    let a = m * up e * down d in
    let b = n * up d * down e in
    and_i (eqb a b) (eqb a 0) (eq→eqb {a = a} {b = b} (omega arith)) (eq→eqb {a = a} {b = 0} (omega arith))
under→le (fin true m e) (fin false n d) p q h = go (ltb 0 (a + b)) (nltb→le 0 (a + b))
  where
    a : ℕ
    a = m * up e * down d

    b : ℕ
    b = n * up d * down e

    go : (x : Bool) → (T (not x) → a + b ≤ 0) → T (x || (eqb a b && (false || eqb a 0)))
    go true k = tt
    go false k = let z = k tt in and_i (eqb a b) (eqb a 0) (eq→eqb {a = a} {b = b} (omega arith)) (eq→eqb {a = a} {b = 0} (omega arith))
under→le (fin true m e) (fin true n d) p q h = ge_either (m * up e * down d) (n * up d * down e) (let k = h in omega arith)

-- ---- fractions
pub cross_trans : (p n d q o c r u b : ℕ) → 0 < c → Cross p n d q o c → Cross q o c r u b → Cross p n d r u b
cross_trans p n d q o c r u b C h k =
    let x = simp (add-mul, mul_assoc, mul_comm, mul_left_comm) at (mul-le-mul_right b h) in
    let y = simp (add-mul, mul_assoc, mul_comm, mul_left_comm) at (mul-le-mul_right d k) in
    let z : (p * b + u * d) * c ≤ (r * d + n * b) * c = simp (add-mul, mul_assoc, mul_comm, mul_left_comm) (omega (arith, x, y)) in
    le_of_mul-le-mul_right z C

pub cross_total : (p n d q o c : ℕ) → Cross p n d q o c ⊎ Cross q o c p n d
cross_total p n d q o c = go (leb (p * c + o * d) (q * d + n * c)) (leb→le (p * c + o * d) (q * d + n * c)) (nleb→lt (p * c + o * d) (q * d + n * c))
  where
    go : (x : Bool) → (T x → Cross p n d q o c) → (T (not x) → q * d + n * c < p * c + o * d) → Cross p n d q o c ⊎ Cross q o c p n d
    go true f g = inl (f tt)
    go false f g = inr (let k = g tt in omega arith)

-- ---- the order of all floats that are no NaN
pub under_trans : (x y z : Float) → Under x y → Under y z → Under x z
under_trans x y z h k = cross_trans (pos_part x) (neg_part x) (den x) (pos_part y) (neg_part y) (den y) (pos_part z) (neg_part z) (den z) (den_pos y) h k

pub le_refl_finite : (x : Float) → T (finite x) → T (le x x)
le_refl_finite x p = under→le x x p p (le_refl (pos_part x * den x + neg_part x * den x))

-- of two finite values one is at most the other
pub le_total : (x y : Float) → T (finite x) → T (finite y) → T (le x y) ⊎ T (le y x)
le_total x y p q = ⊎_elim (λ h. inl (under→le x y p q h)) (λ h. inr (under→le y x q p h)) (cross_total (pos_part x) (neg_part x) (den x) (pos_part y) (neg_part y) (den y))

pub le_trans_float : (x y z : Float) → T (le x y) → T (le y z) → T (le x z)
unfolding le lt eq
le_trans_float nan y z h k = absurd h
le_trans_float (inf s) nan z h k = absurd h
le_trans_float (inf true) (inf true) z h k = k
le_trans_float (inf true) (inf false) nan h k = absurd k
le_trans_float (inf true) (inf false) (inf true) h k = tt
le_trans_float (inf true) (inf false) (inf false) h k = tt
le_trans_float (inf true) (inf false) (fin t n d) h k = tt
le_trans_float (inf true) (fin s m e) nan h k = absurd k
le_trans_float (inf true) (fin s m e) (inf true) h k = tt
le_trans_float (inf true) (fin s m e) (inf false) h k = tt
le_trans_float (inf true) (fin s m e) (fin t n d) h k = tt
le_trans_float (inf false) (inf true) z h k = absurd h
le_trans_float (inf false) (inf false) z h k = k
le_trans_float (inf false) (fin t n d) z h k = absurd h
le_trans_float (fin s m e) nan z h k = absurd h
le_trans_float (fin s m e) (inf true) z h k = absurd h
le_trans_float (fin s m e) (inf false) nan h k = absurd k
le_trans_float (fin s m e) (inf false) (inf true) h k = absurd k
le_trans_float (fin s m e) (inf false) (inf false) h k = tt
le_trans_float (fin s m e) (inf false) (fin t n d) h k = absurd k
le_trans_float (fin s m e) (fin t n d) nan h k = absurd k
le_trans_float (fin s m e) (fin t n d) (inf true) h k = absurd k
le_trans_float (fin s m e) (fin t n d) (inf false) h k = tt
le_trans_float (fin s m e) (fin t n d) (fin r i g) h k =
    under→le (fin s m e) (fin r i g) tt tt
    (under_trans (fin s m e) (fin t n d) (fin r i g) (le→under (fin s m e) (fin t n d) tt tt h) (le→under (fin t n d) (fin r i g) tt tt k))

-- a value between two finite ones is finite
pub between_finite : (lo hi x : Float) → T (finite lo) → T (finite hi) → T (le lo x) → T (le x hi) → T (finite x)
unfolding le lt eq
between_finite nan hi x p q h k = absurd p
between_finite (inf s) hi x p q h k = absurd p
between_finite (fin s m e) nan x p q h k = absurd q
between_finite (fin s m e) (inf t) x p q h k = absurd q
between_finite (fin s m e) (fin t n d) nan p q h k = absurd h
between_finite (fin s m e) (fin t n d) (inf true) p q h k = absurd h
between_finite (fin s m e) (fin t n d) (inf false) p q h k = absurd k
between_finite (fin s m e) (fin t n d) (fin r i g) p q h k = tt

-- ---- the sign
pub neg_finite : (x : Float) → T (finite x) → T (finite (neg x))
unfolding neg
neg_finite nan p = p
neg_finite (inf s) p = p
neg_finite (fin s m e) p = tt

pub neg_neg : (x : Float) → neg (neg x) ≡ x
unfolding neg
neg_neg nan = refl
neg_neg (inf true) = refl
neg_neg (inf false) = refl
neg_neg (fin true m e) = refl
neg_neg (fin false m e) = refl

pub record Flipped (x : Float) : Type 0 where
  pub up : pos_part (neg x) ≡ neg_part x
  pub below : neg_part (neg x) ≡ pos_part x
  pub over : den (neg x) ≡ den x

pub flipped : (x : Float) → Flipped x
unfolding neg
flipped nan = record { up = refl; below = refl; over = refl }
flipped (inf s) = record { up = refl; below = refl; over = refl }
flipped (fin true m e) = record { up = refl; below = refl; over = refl }
flipped (fin false m e) = record { up = refl; below = refl; over = refl }

-- `neg` turns the order round
swap_sign : (m n : ℕ) (s t : Bool) (e d : ℤ) → T (le (fin s m e) (fin t n d)) → T (le (fin (not t) n d) (fin (not s) m e))
swap_sign m n true true e d h = let k = le→under (fin true m e) (fin true n d) tt tt h in under→le (fin false n d) (fin false m e) tt tt (omega arith)
swap_sign m n true false e d h = let k = le→under (fin true m e) (fin false n d) tt tt h in under→le (fin true n d) (fin false m e) tt tt (omega arith)
swap_sign m n false true e d h = let k = le→under (fin false m e) (fin true n d) tt tt h in under→le (fin false n d) (fin true m e) tt tt (omega arith)
swap_sign m n false false e d h = let k = le→under (fin false m e) (fin false n d) tt tt h in under→le (fin true n d) (fin true m e) tt tt (omega arith)

pub neg_le : (x y : Float) → T (le x y) → T (le (neg y) (neg x))
unfolding le lt eq neg
neg_le nan y h = absurd h
neg_le (inf s) nan h = absurd h
neg_le (inf true) (inf true) h = tt
neg_le (inf true) (inf false) h = tt
neg_le (inf false) (inf true) h = absurd h
neg_le (inf false) (inf false) h = tt
neg_le (inf true) (fin t n d) h = tt
neg_le (inf false) (fin t n d) h = absurd h
neg_le (fin s m e) nan h = absurd h
neg_le (fin s m e) (inf true) h = absurd h
neg_le (fin s m e) (inf false) h = tt
neg_le (fin s m e) (fin t n d) h = swap_sign m n s t e d h

-- ---- `lt` is the contrary of `le` the other way round
pub lt→le : (x y : Float) → T (lt x y) → T (le x y)
unfolding le
lt→le x y h = go (lt x y) h
  where
    go : (b : Bool) → T b → T (b || eq x y)
    go true h = tt
    go false h = absurd h

pub not-lt→le : (x y : Float) → T (finite x) → T (finite y) → lt x y ≡ false → T (le y x)
unfolding lt
not-lt→le nan y p q h = absurd p
not-lt→le (inf s) y p q h = absurd p
not-lt→le (fin s m e) nan p q h = absurd q
not-lt→le (fin s m e) (inf t) p q h = absurd q
not-lt→le (fin false m e) (fin false n d) p q h = let k = nltb→le (m * up e * down d) (n * up d * down e) (no h) in under→le (fin false n d) (fin false m e) tt tt (omega arith)
not-lt→le (fin false m e) (fin true n d) p q h = under→le (fin true n d) (fin false m e) tt tt (omega arith)
not-lt→le (fin true m e) (fin false n d) p q h = let k = nltb→le 0 (m * up e * down d + n * up d * down e) (no h) in under→le (fin false n d) (fin true m e) tt tt (omega arith)
not-lt→le (fin true m e) (fin true n d) p q h = let k = nltb→le (n * up d * down e) (m * up e * down d) (no h) in under→le (fin true n d) (fin true m e) tt tt (omega arith)

is_false : (b : Bool) → (T b → ⊥) → b ≡ false
is_false true f = absurd (f tt)
is_false false f = refl

-- strictly below: the fractions' order is strict
pub lt→cross : (x y : Float) → T (finite x) → T (finite y) → T (lt x y) → pos_part x * den y + neg_part y * den x < pos_part y * den x + neg_part x * den y
unfolding lt
lt→cross nan y p q h = absurd p
lt→cross (inf s) y p q h = absurd p
lt→cross (fin s m e) nan p q h = absurd q
lt→cross (fin s m e) (inf t) p q h = absurd q
lt→cross (fin false m e) (fin false n d) p q h = let k = ltb→lt (m * up e * down d) (n * up d * down e) h in omega arith
lt→cross (fin false m e) (fin true n d) p q h = absurd h
lt→cross (fin true m e) (fin false n d) p q h = let k = ltb→lt 0 (m * up e * down d + n * up d * down e) h in omega arith
lt→cross (fin true m e) (fin true n d) p q h = let k = ltb→lt (n * up d * down e) (m * up e * down d) h in omega arith

pub le→not-lt : (x y : Float) → T (finite x) → T (finite y) → T (le y x) → lt x y ≡ false
le→not-lt x y p q h = is_false (lt x y) (λ g. let k = lt→cross x y p q g in let l = le→under y x q p h in absurd (lt_irrefl 0 (omega arith)))

pub le_lt : (x y z : Float) → T (finite x) → T (finite y) → T (finite z) → T (le x y) → T (lt y z) → T (lt x z)
le_lt x y z p q r h k = go (lt x z) refl
  where
    go : (b : Bool) → lt x z ≡ b → T b
    go true e = tt
    go false e = absurd (subst T (le→not-lt y z q r (le_trans_float z x y (not-lt→le x z p r e) h)) k)
