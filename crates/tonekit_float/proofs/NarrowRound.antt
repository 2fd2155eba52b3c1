-- x + c - c in binary64, with c the power of two whose last digit is an f32's near x, is x rounded to binary32.
use Rattle.std.proofs.Common.{◌≡◌, ℕ, suc, ◌+◌, ◌-◌, ◌*◌, ◌/◌, ◌%◌, ◌^◌, ◌<◌, ◌≤◌, Bool, true, false, cond, not, T, ltb, leb, ◌⊎◌, sym, refl, ap, ◌∙◌, subst, inl, inr, ⊎_elim, le_trans, le_of_eq, lt_of_lt_of_le, le_of_suc-le-suc, lt_of_le_of_lt, mul-le-mul_right, mod-eq_of_lt, mul_assoc, mul_comm, add-mul, mul-le-mul, le_antisymm, mul-pos, le-div_iff_mul-le, mul_right_comm, div-one, mul-div_cancel, mul_left_comm, add-sub_cancel, arith, lit<, lit≤, ltb→lt, nltb→le, pow_pos, pow_mono, pow-add, ne_eqb, Float}
use native.Mathlib.Nat.{eq_of_mul-eq-mul_right, mul-mod_left}
use borrow.Author.Tests.{lt-leb}
use lib.Ieee.{nan, inf, fin, binary32, binary64, up, down, size, round, add, sub, le, of_bits, of_fields, odd}
use lib.Ieee.Digits.{size-lt, size-le, size_reaches}
use lib.Ieee.Fits.{kept-lt, round-fits, sub-fits, fits_widens}
use lib.Ieee.Exact.{HasValue, odd_sign, round_exact}
use lib.Ieee.Nearest.{closest, closest_same, closest_mono, div_same}
use lib.Ieee.Order.{round_mono}
use lib.Ieee.Scale.{grid, overflow, round_val}
use Rattle.tonekit_float.proofs.Units.{unique, add_at, sub_at, grid_units, size_at, size_shift, closest_more, closest_le, bits_of}

abbrev pub L : ℕ
L = 2 ^ 1074

L-pos : 0 < L
L-pos = pow_pos 1074

either : (a b : ℕ) → (a < b) ⊎ (b ≤ a)
either a b = go (ltb a b) (ltb→lt a b) (nltb→le a b)
  where
    go : (t : Bool) → (T t → a < b) → (T (not t) → b ≤ a) → (a < b) ⊎ (b ≤ a)
    go true p q = inl (p tt)
    go false p q = inr (q tt)

-- ---- the exponent's field of a float of X units
none : (z : ℕ) → z < 53 → z - 53 ≡ 0
none z h = omega arith

some : (z : ℕ) → 53 ≤ z → 52 + (z - 53) < z
some z h = omega arith

whole : (k q : ℕ) → 4503599627370496 ≤ q → q < 9007199254740992 → (0 + k * 4503599627370496 + q) / 4503599627370496 ≡ suc k
whole k q a b = omega arith

tiny : (X : ℕ) → X < 4503599627370496 → (0 + 0 * 4503599627370496 + X) / 4503599627370496 ≡ 0
tiny X h = omega arith

pub field_is : (X : ℕ) → bits_of binary64 false X / 2 ^ 52 ≡ size X - 52
field_is X = ⊎_elim (λ h. less h) (λ h. more h) (either (size X) 53)
  where
    less : size X < 53 → bits_of binary64 false X / 2 ^ 52 ≡ size X - 52
    less h =
        let small : X < 2 ^ 52 = lt_of_lt_of_le (size-lt X) (pow_mono (le_of_suc-le-suc h)) in
        let z : size X - 52 ≡ 0 = omega arith in
        ap (λ (k : ℕ). (0 + k * 2 ^ 52 + X / 2 ^ k) / 2 ^ 52) (none (size X) h)
        ∙ ap (λ (w : ℕ). (0 + 0 * 2 ^ 52 + w) / 2 ^ 52) (div-one X)
        ∙ tiny X small
        ∙ sym z

    more : 53 ≤ size X → bits_of binary64 false X / 2 ^ 52 ≡ size X - 52
    more h =
        let k = size X - 53 in
        let hi : X / 2 ^ k < 2 ^ 53 = kept-lt 53 X in
        let lo : 2 ^ 52 ≤ X / 2 ^ k = (le-div_iff_mul-le (pow_pos k)).1 (le_trans (le_of_eq (sym (pow-add 2 52 k))) (size_reaches X (52 + k) (some (size X) h))) in
        let z : suc k ≡ size X - 52 = omega arith in
        whole k (X / 2 ^ k) lo hi ∙ z

-- ---- a power of two by its pattern
pub fields : (b : ℕ) → of_bits binary64 b ≡ of_fields binary64 (leb (2 ^ 63) b) (b % 2 ^ 63 / 2 ^ 52) (b % 2 ^ 52)
unfolding of_bits
fields b = refl

not_all : (g : ℕ) → g < 2045 → suc g ≡ 2047 → ⊥
not_all g h e = omega arith

at_field : (g : ℕ) → g < 2045 → of_fields binary64 false (suc g) 0 ≡ odd 53 false (2 ^ 52) g 1074
unfolding of_fields
at_field g h = ap (λ (b : Bool). cond b (inf false) (odd 53 false (2 ^ 52) g 1074)) (ne_eqb (suc g) 2047 (not_all g h))

lim : (g : ℕ) → g < 2045 → suc g * 4503599627370496 < 9223372036854775808
lim g h = omega arith

pub power_value : (g : ℕ) → g < 2045 → HasValue (of_bits binary64 (suc g * 2 ^ 52)) false (2 ^ 52 * 2 ^ g) L
power_value g h =
    let b = suc g * 2 ^ 52 in
    let is : of_bits binary64 b ≡ odd 53 false (2 ^ 52) g 1074 =
    fields b
    ∙ ap (λ (t : Bool). of_fields binary64 t (b % 2 ^ 63 / 2 ^ 52) (b % 2 ^ 52)) (lt-leb (2 ^ 63) b (lim g h))
    ∙ ap (λ (n : ℕ). of_fields binary64 false (n / 2 ^ 52) (b % 2 ^ 52)) (mod-eq_of_lt (lim g h))
    ∙ ap (λ (n : ℕ). of_fields binary64 false n (b % 2 ^ 52)) (mul-div_cancel (suc g) (pow_pos 52))
    ∙ ap (λ (n : ℕ). of_fields binary64 false (suc g) n) (mul-mod_left (suc g) (2 ^ 52))
    ∙ at_field g h in
    subst (λ (x : Float). HasValue x false (2 ^ 52 * 2 ^ g) L) (sym is) (odd_sign 53 false (2 ^ 52) g 1074)

-- ---- the digits that an f32 of X units of 2 ^ -1074 drops
abbrev pub cut : ℕ → ℕ
cut X = size X - 949

abbrev rounded : ℕ → ℕ
rounded X = closest X (2 ^ (cut X + 925))

room : (z : ℕ) → z ≤ 24 + (z - 949 + 925)
room z = omega arith

in_room : (X : ℕ) → X < 2 ^ (24 + (cut X + 925))
in_room X = lt_of_lt_of_le (size-lt X) (pow_mono (room (size X)))

rounded_le : (X : ℕ) → rounded X ≤ 2 ^ 24
rounded_le X = closest_le X 24 (cut X + 925) (in_room X)

pub cut_le : (X : ℕ) → X < 2 ^ 1202 → cut X ≤ 253
cut_le X h = let z = size-le X 1202 h in omega arith

-- ---- x + c - c
pub magic : (X : ℕ) (x c : Float) → X < 2 ^ 1202 → HasValue x false X L → HasValue c false (2 ^ 52 * 2 ^ (cut X + 925)) L
    → HasValue (sub binary64 (add binary64 x c) c) false (rounded X * 2 ^ (cut X + 925)) L
magic X x c small v w =
    let K = cut X + 925 in
    let u = 2 ^ K in
    let C = 2 ^ 52 * u in
    let R = rounded X in
    let K-le : K ≤ 1178 = let z = cut_le X small in omega arith in
    let u-pos : 0 < u = pow_pos K in
    let below : X < C = lt_of_lt_of_le (in_room X) (le_trans (le_of_eq (pow-add 2 24 K)) (mul-le-mul_right u (lit≤ tt))) in
    let C-is : 2 ^ (52 + K) ≡ C = pow-add 2 52 K in
    let C2-is : 2 ^ suc (52 + K) ≡ 2 ^ 53 * u = ap (λ (k : ℕ). 2 ^ k) (one_more K) ∙ pow-add 2 53 K in
    let twice : 2 ^ 53 * u ≡ C + C = doubled u in
    let lo : 2 ^ (52 + K) ≤ X + C = le_trans (le_of_eq C-is) (omega arith) in
    let hi : X + C < 2 ^ suc (52 + K) = lt_of_lt_of_le (below_twice X C below) (le_of_eq (sym (C2-is ∙ twice))) in
    let z : size (X + C) - 53 ≡ K = ap (λ (n : ℕ). n - 53) (size_at (X + C) (52 + K) lo hi) ∙ less_53 K in
    let g : grid binary64 (X + C) L ≡ (R + 2 ^ 52) * u = grid_units binary64 (X + C) K z ∙ ap (λ (n : ℕ). n * u) (closest_more X (2 ^ 52) u u-pos refl) in
    let R-le = rounded_le X in
    let big : 2 ^ 53 * u ≤ 2 ^ 2097 = le_trans (le_of_eq (sym (pow-add 2 53 K))) (pow_mono (sum_le K K-le)) in
    let fine : (R + 2 ^ 52) * u < overflow binary64 = lt_of_le_of_lt (le_trans (mul-le-mul_right u (few R R-le)) big) (lit< tt) in
    let s = add binary64 x c in
    let is : HasValue s false ((R + 2 ^ 52) * u) L =
    subst (λ (y : Float). HasValue y false ((R + 2 ^ 52) * u) L) (sym (add_at binary64 x c X C L L-pos v w))
    (subst (λ (n : ℕ). HasValue (round binary64 false (X + C) L) false n L) g (round_val binary64 (X + C) L (subst (λ (n : ℕ). n < overflow binary64) (sym g) fine))) in
    let apart : (R + 2 ^ 52) * u ≡ R * u + C = add-mul R (2 ^ 52) u in
    let diff : (R + 2 ^ 52) * u - C ≡ R * u = ap (λ (n : ℕ). n - C) apart ∙ add-sub_cancel (R * u) C in
    let over : C ≤ (R + 2 ^ 52) * u = le_trans (at_least (R * u) C) (le_of_eq (sym apart)) in
    subst (λ (y : Float). HasValue y false (R * u) L)
    (sym (sub_at binary64 s c ((R + 2 ^ 52) * u) C L L-pos over is w ∙ ap (λ (n : ℕ). round binary64 false n L) diff))
    (round_exact binary64 false (R * u) L R K L-pos (lt_of_le_of_lt R-le (lit< tt)) (lt_of_le_of_lt (le_trans (mul-le-mul_right u (fewer R R-le)) big) (lit< tt)) refl)
  where
    one_more : (K : ℕ) → suc (52 + K) ≡ 53 + K
    one_more K = omega arith

    doubled : (u : ℕ) → 9007199254740992 * u ≡ 4503599627370496 * u + 4503599627370496 * u
    doubled u = omega arith

    below_twice : (X C : ℕ) → X < C → X + C < C + C
    below_twice X C h = omega arith

    less_53 : (K : ℕ) → suc (52 + K) - 53 ≡ K
    less_53 K = omega arith

    sum_le : (K : ℕ) → K ≤ 1178 → 53 + K ≤ 2097
    sum_le K h = omega arith

    few : (R : ℕ) → R ≤ 16777216 → R + 4503599627370496 ≤ 9007199254740992
    few R h = omega arith

    fewer : (R : ℕ) → R ≤ 16777216 → R ≤ 9007199254740992
    fewer R h = omega arith

    at_least : (a b : ℕ) → b ≤ a + b
    at_least a b = omega arith

-- ---- X units of 2 ^ -1074, rounded to an f32
grid_32 : (X : ℕ) → grid binary32 X L ≡ rounded X * 2 ^ cut X
grid_32 X =
    let k = cut X in
    let w : X * 2 ^ 149 / L ≡ X / 2 ^ 925 = div_same (X * 2 ^ 149) L X (2 ^ 925) L-pos (pow_pos 925) (mul_assoc X (2 ^ 149) (2 ^ 925)) in
    let d : size (X / 2 ^ 925) - 24 ≡ k = ap (λ (z : ℕ). z - 24) (size_shift X 925) ∙ minus_both (size X) in
    ap (λ (z : ℕ). closest (X * 2 ^ 149) (L * 2 ^ (size z - 24)) * 2 ^ (size z - 24)) w
    ∙ ap (λ (z : ℕ). closest (X * 2 ^ 149) (L * 2 ^ z) * 2 ^ z) d
    ∙ ap (λ (z : ℕ). z * 2 ^ k)
    (closest_same (X * 2 ^ 149) (L * 2 ^ k) X (2 ^ (k + 925)) (mul-pos L-pos (pow_pos k)) (pow_pos (k + 925))
    (ap (λ (z : ℕ). X * 2 ^ 149 * z) (pow-add 2 k 925) ∙ shuffle X (2 ^ 149) (2 ^ k) (2 ^ 925)))
  where
    minus_both : (z : ℕ) → z - 925 - 24 ≡ z - 949
    minus_both z = omega arith

    shuffle : (X a b c : ℕ) → X * a * (b * c) ≡ X * (a * c * b)
    shuffle X a b c = simp (mul_assoc, mul_comm, mul_left_comm)

-- below halfway past the largest f32
abbrev pub limit : ℕ
limit = (2 ^ 25 - 1) * 2 ^ 1177

within : (X : ℕ) → X < limit → rounded X * 2 ^ cut X < overflow binary32
within X h = ⊎_elim (λ g. low_case g) (λ g. top_case g) (either (cut X) 253)
  where
    c_le : cut X ≤ 253
    c_le = cut_le X (lt_of_lt_of_le h (lit≤ tt))

    low_case : cut X < 253 → rounded X * 2 ^ cut X < overflow binary32
    low_case g = lt_of_le_of_lt (mul-le-mul (rounded_le X) (pow_mono (le_of_suc-le-suc g))) (lit< tt)

    top_case : 253 ≤ cut X → rounded X * 2 ^ cut X < overflow binary32
    top_case g =
        let e : cut X ≡ 253 = le_antisymm c_le g in
        let m : closest X (2 ^ 1178) ≤ closest (limit - 1) (2 ^ 1178) = closest_mono X (2 ^ 1178) (limit - 1) (2 ^ 1178) (pow_pos 1178) (pow_pos 1178) (mul-le-mul_right (2 ^ 1178) (le_of_suc-le-suc h)) in
        subst (λ (k : ℕ). closest X (2 ^ (k + 925)) * 2 ^ k < overflow binary32) (sym e) (lt_of_le_of_lt (mul-le-mul_right (2 ^ 253) m) (lit< tt))

rescale : (x : Float) (s : Bool) (w l num den : ℕ) → 0 < l → num * l ≡ w * den → HasValue x s w l → HasValue x s num den
rescale nan s w l num den p h v = v
rescale (inf t) s w l num den p h v = v
rescale (fin t m e) s w l num den p h v = (
  v.0,
  eq_of_mul-eq-mul_right l p (m * up e * den) (num * down e)
      (mul_right_comm (m * up e) den l ∙ ap (λ (x : ℕ). x * den) v.1 ∙ mul_right_comm w (down e) den ∙ ap (λ (x : ℕ). x * down e) (sym h) ∙ mul_right_comm num l (down e)),
)

round_32 : (X : ℕ) → X < limit → HasValue (round binary32 false X L) false (rounded X * 2 ^ (cut X + 925)) L
round_32 X h =
    let k = cut X in
    let R = rounded X in
    rescale (round binary32 false X L) false (R * 2 ^ k) (2 ^ 149) (R * 2 ^ (k + 925)) L (pow_pos 149)
    (ap (λ (z : ℕ). R * z * 2 ^ 149) (pow-add 2 k 925) ∙ shuffle R (2 ^ k) (2 ^ 925) (2 ^ 149))
    (subst (λ (n : ℕ). HasValue (round binary32 false X L) false n (2 ^ 149)) (grid_32 X) (round_val binary32 X L (subst (λ (n : ℕ). n < overflow binary32) (sym (grid_32 X)) (within X h))))
  where
    shuffle : (R a b c : ℕ) → R * (a * b) * c ≡ R * a * (b * c)
    shuffle R a b c = simp (mul_assoc, mul_comm, mul_left_comm)

-- ---- the two are one float
pub same : (X : ℕ) (x c : Float) → X < limit → HasValue x false X L → HasValue c false (2 ^ 52 * 2 ^ (cut X + 925)) L → sub binary64 (add binary64 x c) c ≡ round binary32 false X L
same X x c h v w =
    unique binary64 (sub binary64 (add binary64 x c) c) (round binary32 false X L) false (rounded X * 2 ^ (cut X + 925)) L L-pos
    (sub-fits binary64 (add binary64 x c) c) (fits_widens (round binary32 false X L) (round-fits binary32 false X L))
    (magic X x c (lt_of_lt_of_le h (lit≤ tt)) v w) (round_32 X h)

-- ---- from the limit on
top_inf : (y : Float) → T (le (inf false) y) → y ≡ inf false
unfolding le
top_inf nan h = absurd h
top_inf (inf true) h = absurd h
top_inf (inf false) h = refl
top_inf (fin s m e) h = absurd h

at_limit : round binary32 false limit L ≡ inf false
unfolding round
at_limit = refl

pub beyond : (X : ℕ) → limit ≤ X → round binary32 false X L ≡ inf false
beyond X h = top_inf (round binary32 false X L) (subst (λ (y : Float). T (le y (round binary32 false X L))) at_limit (round_mono binary32 limit L X L L-pos L-pos (mul-le-mul_right L h)))
