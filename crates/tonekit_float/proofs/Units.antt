-- Floats by their number of units, the format's smallest value.
use Rattle.std.proofs.Common.{◌≡◌, ℕ, zero, suc, ◌+◌, ◌-◌, ◌*◌, ◌/◌, ◌%◌, ◌^◌, ◌<◌, ◌≤◌, Bool, true, false, cond, ◌&&◌, T, eqb, ltb, leb, ℤ, pos, negsuc, sym, refl, ap, ◌∙◌, true≢false, le_trans, le_of_eq, lt_of_lt_of_le, le_of_suc-le-suc, mul-le-mul_right, mul_assoc, mul_comm, div-lt_iff_lt-mul, add-mul, le_antisymm, mul-pos, one-mul, lt_of_not-le, mul-one, mul_right_comm, not-le_of_lt, le_of_mul-le-mul_right, div-one, mul-div_cancel, arith, eqb→eq, ltb→lt, leb→le, pow_pos, pow_mono, pow-add, Float}
use Prim.Native.Nat.{compare, Ordering}
use native.Mathlib.Nat.{pow-succ', mul-sub, eq_of_mul-eq-mul_right, add-mul-div_right, add-mul-mod_self_right}
use lib.Pow.{pow-lt}
use lib.Ieee.{nan, inf, fin, Format, prec, emax, low, hid, top, up, down, size, nearest, round, add, sub, sum, fits, to_bits, of_bits}
use lib.Ieee.Digits.{size-lt, size-le}
use lib.Ieee.Fits.{and_l, and_r, down_pos, nearest-le}
use lib.Ieee.Bits.{of_bits-to_bits}
use lib.Ieee.Exact.{HasValue}
use lib.Ieee.Nearest.{closest, closest_same, div_same}
use lib.Ieee.Scale.{grid, round_same}

-- ---- the number of units
abbrev pub units_of : Format → Float → ℕ
units_of f nan = 0
units_of f (inf s) = 0
units_of f (fin s m e) = m * up e * 2 ^ low f / down e

pub pow_le_back : (i j : ℕ) → 2 ^ i ≤ 2 ^ j → i ≤ j
pow_le_back i j h = le_of_suc-le-suc (lt_of_not-le (λ (g : suc j ≤ i). not-le_of_lt (pow-lt g) h))

pub meet : (l k : ℕ) → k ≤ l → l - k + k ≡ l
meet l k h = omega arith

exact_div : (a l : ℕ) (e : ℤ) → down e ≤ 2 ^ l → a * 2 ^ l / down e * down e ≡ a * 2 ^ l
exact_div a l (pos k) h = mul-one (a * 2 ^ l / 1) ∙ div-one (a * 2 ^ l)
exact_div a l (negsuc k) h =
    let d = 2 ^ suc k in
    let split : a * 2 ^ l ≡ a * 2 ^ (l - suc k) * d = ap (λ (j : ℕ). a * 2 ^ j) (sym (meet l (suc k) (pow_le_back (suc k) l h))) ∙ ap (λ (x : ℕ). a * x) (pow-add 2 (l - suc k) (suc k)) ∙ sym (mul_assoc a (2 ^ (l - suc k)) d) in
    ap (λ (x : ℕ). x / d * d) split ∙ ap (λ (x : ℕ). x * d) (mul-div_cancel (a * 2 ^ (l - suc k)) (pow_pos (suc k))) ∙ sym split

-- a zero is written with the exponent 0
two_up : (p : ℕ) → 0 < p → 2 * p ≡ 1 → ⊥
two_up p h e = omega arith

flat : (e : ℤ) → up e * down e ≡ 1 → e ≡ pos 0
flat (pos zero) h = refl
flat (pos (suc k)) h = absurd (two_up (2 ^ k) (pow_pos k) (sym (pow-succ' 2 k) ∙ sym (mul-one (2 ^ suc k)) ∙ h))
flat (negsuc k) h = absurd (two_up (2 ^ k) (pow_pos k) (sym (pow-succ' 2 k) ∙ sym (one-mul (2 ^ suc k)) ∙ h))

pub zero_exp : (f : Format) (s : Bool) (e : ℤ) → T (fits f (fin s zero e)) → e ≡ pos 0
unfolding fits
zero_exp f s e t = flat e (eqb→eq (up e * down e) 1 t)

pub down_le : (f : Format) (s : Bool) (m : ℕ) (e : ℤ) → T (fits f (fin s m e)) → down e ≤ 2 ^ low f
unfolding fits
down_le f s zero e h = le_trans (le_of_eq (ap (λ (d : ℤ). down d) (zero_exp f s e h))) (pow_pos (low f))
down_le f s (suc m) e h =
    let A = eqb (suc m % 2) 1 in
    let B = ltb (suc m) (2 ^ prec f) in
    let C = leb (down e) (2 ^ low f) in
    let D = ltb (suc m * up e) (2 ^ suc (emax f) * down e) in
    leb→le (down e) (2 ^ low f) (and_r (A && B) C (and_l (A && B && C) D h))

pub units_value : (f : Format) (s : Bool) (m : ℕ) (e : ℤ) → T (fits f (fin s m e)) → HasValue (fin s m e) s (units_of f (fin s m e)) (2 ^ low f)
units_value f s m e h = (refl, sym (exact_div (m * up e) (low f) e (down_le f s m e h)))

-- ---- a value is one float
abbrev pub bits_of : Format → Bool → ℕ → ℕ
bits_of f s n = cond s (top f) 0 + (size n - prec f) * hid f + n / 2 ^ (size n - prec f)

pub to_bits_is : (f : Format) (s : Bool) (m : ℕ) (e : ℤ) → to_bits f (fin s m e) ≡ bits_of f s (units_of f (fin s m e))
unfolding to_bits
to_bits_is f s m e = refl

same_units : (f : Format) (m : ℕ) (e : ℤ) (n : ℕ) (g : ℤ) (a c : ℕ) → 0 < c → m * up e * c ≡ a * down e → n * up g * c ≡ a * down g → m * up e * 2 ^ low f / down e ≡ n * up g * 2 ^ low f / down g
same_units f m e n g a c C v w =
    let L = 2 ^ low f in
    let cross : m * up e * down g ≡ n * up g * down e = eq_of_mul-eq-mul_right c C (m * up e * down g) (n * up g * down e)
    (mul_right_comm (m * up e) (down g) c ∙ ap (λ (x : ℕ). x * down g) v ∙ mul_right_comm a (down e) (down g) ∙ ap (λ (x : ℕ). x * down e) (sym w) ∙ mul_right_comm (n * up g) c (down e)) in
    div_same (m * up e * L) (down e) (n * up g * L) (down g) (down_pos e) (down_pos g)
    (mul_right_comm (m * up e) L (down g) ∙ ap (λ (x : ℕ). x * L) cross ∙ mul_right_comm (n * up g) (down e) L)

pub unique : (f : Format) (x y : Float) (s : Bool) (a c : ℕ) → 0 < c → T (fits f x) → T (fits f y) → HasValue x s a c → HasValue y s a c → x ≡ y
unique f nan y s a c C p q v w = absurd v
unique f (inf t) y s a c C p q v w = absurd v
unique f (fin t m e) nan s a c C p q v w = absurd w
unique f (fin t m e) (inf u) s a c C p q v w = absurd w
unique f (fin t m e) (fin u n g) s a c C p q v w =
    sym (of_bits-to_bits f (fin t m e) p)
    ∙ ap (λ (b : ℕ). of_bits f b)
    (to_bits_is f t m e
    ∙ ap (λ (b : Bool). bits_of f b (units_of f (fin t m e))) (v.0 ∙ sym w.0)
    ∙ ap (λ (k : ℕ). bits_of f u k) (same_units f m e n g a c C v.1 w.1)
    ∙ sym (to_bits_is f u n g))
    ∙ of_bits-to_bits f (fin u n g) q

-- ---- sums and differences by values
pub add_at : (f : Format) (x y : Float) (a b c : ℕ) → 0 < c → HasValue x false a c → HasValue y false b c → add f x y ≡ round f false (a + b) c
unfolding add
add_at f nan y a b c C v w = absurd v
add_at f (inf t) y a b c C v w = absurd v
add_at f (fin true m e) y a b c C v w = absurd (true≢false v.0)
add_at f (fin false m e) nan a b c C v w = absurd w
add_at f (fin false m e) (inf t) a b c C v w = absurd w
add_at f (fin false m e) (fin true n d) a b c C v w = absurd (true≢false w.0)
add_at f (fin false m e) (fin false n d) a b c C v w =
    round_same f false (m * up e * down d + n * up d * down e) (down e * down d) (a + b) c (mul-pos (down_pos e) (down_pos d)) C (cross (m * up e) (n * up d) (down e) (down d) v.1 w.1)
  where
    cross : (M N p q : ℕ) → M * c ≡ a * p → N * c ≡ b * q → (M * q + N * p) * c ≡ (a + b) * (p * q)
    cross M N p q v w =
        add-mul (M * q) (N * p) c
        ∙ ap (λ (z : ℕ). z + N * p * c) (mul_right_comm M q c ∙ ap (λ (z : ℕ). z * q) v ∙ mul_assoc a p q)
        ∙ ap (λ (z : ℕ). a * (p * q) + z) (mul_right_comm N p c ∙ ap (λ (z : ℕ). z * p) w ∙ mul_assoc b q p ∙ ap (λ (z : ℕ). b * z) (mul_comm q p))
        ∙ sym (add-mul a b (p * q))

pick : (f : Format) (a b c : ℕ) → b ≤ a → sum f false a true b c ≡ round f false (a - b) c
unfolding sum
pick f a b c h = go (ltb a b) (ltb→lt a b)
  where
    go : (t : Bool) → (T t → a < b) → cond t (round f true (b - a) c) (round f false (a - b) c) ≡ round f false (a - b) c
    go true k = absurd (not-le_of_lt (k tt) h)
    go false k = refl

pub opened : (f : Format) (m : ℕ) (e : ℤ) (n : ℕ) (d : ℤ) → sub f (fin false m e) (fin false n d) ≡ sum f false (m * up e * down d) true (n * up d * down e) (down e * down d)
unfolding sub
opened f m e n d = refl

pub sub_at : (f : Format) (x y : Float) (a b c : ℕ) → 0 < c → b ≤ a → HasValue x false a c → HasValue y false b c → sub f x y ≡ round f false (a - b) c
sub_at f nan y a b c C h v w = absurd v
sub_at f (inf t) y a b c C h v w = absurd v
sub_at f (fin true m e) y a b c C h v w = absurd (true≢false v.0)
sub_at f (fin false m e) nan a b c C h v w = absurd w
sub_at f (fin false m e) (inf t) a b c C h v w = absurd w
sub_at f (fin false m e) (fin true n d) a b c C h v w = absurd (true≢false w.0)
sub_at f (fin false m e) (fin false n d) a b c C h v w =
    let A = m * up e * down d in
    let B = n * up d * down e in
    let D = down e * down d in
    let x : A * c ≡ a * D = mul_right_comm (m * up e) (down d) c ∙ ap (λ (z : ℕ). z * down d) v.1 ∙ mul_assoc a (down e) (down d) in
    let y : B * c ≡ b * D = mul_right_comm (n * up d) (down e) c ∙ ap (λ (z : ℕ). z * down e) w.1 ∙ mul_assoc b (down d) (down e) ∙ ap (λ (z : ℕ). b * z) (mul_comm (down d) (down e)) in
    let B≤A : B ≤ A = le_of_mul-le-mul_right (le_trans (le_of_eq y) (le_trans (mul-le-mul_right D h) (le_of_eq (sym x)))) C in
    opened f m e n d
    ∙ pick f A B D B≤A
    ∙ round_same f false (A - B) D (a - b) c (mul-pos (down_pos e) (down_pos d)) C
    (mul_comm (A - B) c ∙ mul-sub c A B ∙ ap (λ (z : ℕ). z - c * B) (mul_comm c A ∙ x ∙ mul_comm a D) ∙ ap (λ (z : ℕ). D * a - z) (mul_comm c B ∙ y ∙ mul_comm b D) ∙ sym (mul-sub D a b) ∙ mul_comm D (a - b))

-- ---- a number of units, rounded
pub grid_units : (f : Format) (X k : ℕ) → size X - prec f ≡ k → grid f X (2 ^ low f) ≡ closest X (2 ^ k) * 2 ^ k
grid_units f X k h =
    let L = 2 ^ low f in
    let w : X * L / L ≡ X = mul-div_cancel X (pow_pos (low f)) in
    ap (λ (z : ℕ). closest (X * L) (L * 2 ^ (size z - prec f)) * 2 ^ (size z - prec f)) w
    ∙ ap (λ (z : ℕ). closest (X * L) (L * 2 ^ z) * 2 ^ z) h
    ∙ ap (λ (z : ℕ). z * 2 ^ k) (closest_same (X * L) (L * 2 ^ k) X (2 ^ k) (mul-pos (pow_pos (low f)) (pow_pos k)) (pow_pos k) (mul_assoc X L (2 ^ k)))

-- ---- digits
pub size_gt : (n j : ℕ) → 2 ^ j ≤ n → j < size n
size_gt n j h = lt_of_not-le (λ (g : size n ≤ j). not-le_of_lt (lt_of_lt_of_le (size-lt n) (pow_mono g)) h)

pub size_at : (n z : ℕ) → 2 ^ z ≤ n → n < 2 ^ suc z → size n ≡ suc z
size_at n z lo hi = le_antisymm (size-le n (suc z) hi) (size_gt n z lo)

over : (z d : ℕ) → z ≤ z - d + d
over z d = omega arith

under : (z s d : ℕ) → z ≤ s + d → z - d ≤ s
under z s d h = omega arith

pub size_shift : (X d : ℕ) → size (X / 2 ^ d) ≡ size X - d
size_shift X d =
    let z = size X in
    let hi : X / 2 ^ d < 2 ^ (z - d) = (div-lt_iff_lt-mul (pow_pos d)).1 (lt_of_lt_of_le (size-lt X) (le_trans (pow_mono (over z d)) (le_of_eq (pow-add 2 (z - d) d)))) in
    let s = size (X / 2 ^ d) in
    let lo : X < 2 ^ (s + d) = lt_of_lt_of_le ((div-lt_iff_lt-mul (pow_pos d)).0 (size-lt (X / 2 ^ d))) (le_of_eq (sym (pow-add 2 s d))) in
    le_antisymm (size-le (X / 2 ^ d) (z - d) hi) (under z s d (size-le X (s + d) lo))

-- ---- a whole, even number of units more
even_more : (w q : ℕ) (o : Ordering) → q % 2 ≡ 0 → nearest (w + q) o ≡ nearest w o + q
even_more w q Ordering.lt h = refl
even_more w q Ordering.eq h = omega arith
even_more w q Ordering.gt h = omega arith

pub closest_more : (X q u : ℕ) → 0 < u → q % 2 ≡ 0 → closest (X + q * u) u ≡ closest X u + q
closest_more X q u U h =
    ap (λ (w : ℕ). nearest w (compare ((X + q * u) % u * 2) u)) (add-mul-div_right X q U)
    ∙ ap (λ (r : ℕ). nearest (X / u + q) (compare (r * 2) u)) (add-mul-mod_self_right X q u)
    ∙ even_more (X / u) q (compare (X % u * 2) u) h

pub closest_le : (X j k : ℕ) → X < 2 ^ (j + k) → closest X (2 ^ k) ≤ 2 ^ j
closest_le X j k h =
    le_trans (nearest-le (X / 2 ^ k) (compare (X % 2 ^ k * 2) (2 ^ k)))
    ((div-lt_iff_lt-mul (pow_pos k)).1 (lt_of_lt_of_le h (le_of_eq (pow-add 2 j k))))
