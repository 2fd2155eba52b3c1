-- Keys are in the order of `total_cmp`, and each gives its f32 back. Assumes nothing.
use Rattle.std.proofs.Common.{ℕ, ◌+◌, ◌-◌, ◌<◌, ◌≡◌, refl, sym, ◌∙◌, ap, Bool, true, false, not, cond, T, ltb, leb, ℤ, Float, Less, Equal, Greater, arith}
use lib.Ieee.{nan, inf, fin, binary32, fits, lt, le, is_nan, to_bits, of_bits}
use lib.Ieee.Bits.{of_bits-to_bits, to_bits-lt, is_true}
use lib.Ieee.Scale.{finite}
use Rattle.std.specs.Float.{total_cmp, is_sign_negative, float_with_sign}
use Rattle.std.specs.Ordering.{is_gt}
use Rattle.std.proofs.lemmas.Bool.{ltb-false, lt-ltb, le-ltb, le-leb, lt-leb, cond-true, cond-false}
use Rattle.std.proofs.lemmas.Bool.Decides.{leb_tells}
use Rattle.spec_arithmetic.specs.Magnitude.{total_le}
use Rattle.tonekit_float.proofs.Order.{yes, lt→le, not-lt→le, le→not-lt}
use Rattle.tonekit_float.proofs.Units.{to_bits_is}
use Rattle.tonekit_float.proofs.Magnitude.{clear_lt, magnitude_fits}
use Rattle.tonekit_float.proofs.Total.{total_bits}
use Rattle.tonekit_rank.specs.Rank.{key_of, value_of}

abbrev bits : Float → ℕ
bits x = to_bits binary32 x

cleared : (m : ℕ) (e : ℤ) → T (fits binary32 (fin true m e)) → T (fits binary32 (fin false m e))
unfolding float_with_sign
cleared m e h = magnitude_fits binary32 (fin true m e) h

-- ---- keys by patterns with the sign clear
key_clear : (m : ℕ) (e : ℤ) → T (fits binary32 (fin false m e)) → key_of (fin false m e) ≡ bits (fin false m e) + 2147483648
unfolding key_of
key_clear m e h = cond-true _ _ _ (lt-ltb (bits (fin false m e)) 2147483648 (clear_lt binary32 m e h))

bits_set : (m : ℕ) (e : ℤ) → bits (fin true m e) ≡ 2147483648 + bits (fin false m e)
bits_set m e = omega (arith, to_bits_is binary32 true m e, to_bits_is binary32 false m e)

key_set : (m : ℕ) (e : ℤ) → T (fits binary32 (fin true m e)) → key_of (fin true m e) + bits (fin false m e) ≡ 2147483647
unfolding key_of
key_set m e h =
    let b = bits_set m e in
    let l = clear_lt binary32 m e (cleared m e h) in
    omega (arith, cond-false (ltb (bits (fin true m e)) 2147483648) (bits (fin true m e) + 2147483648) (4294967295 - bits (fin true m e)) (le-ltb (bits (fin true m e)) 2147483648 (omega arith)))

-- ---- the order of finite values
after_is : (x y : Float) → T (finite x) → T (finite y) → lt y x ≡ not (le x y)
after_is x y p q = go (lt y x) (le x y) refl refl
  where
    go : (a b : Bool) → lt y x ≡ a → le x y ≡ b → a ≡ not b
    go true true g h = sym g ∙ le→not-lt y x q p (yes h)
    go true false g h = refl
    go false true g h = refl
    go false false g h = sym h ∙ is_true (le x y) (not-lt→le y x q p g)

same_sign : (x y : Float) → T (finite x) → T (finite y) → is_gt (cond (lt x y) Less (cond (lt y x) Greater Equal)) ≡ lt y x
same_sign x y p q = go (lt x y) (lt y x) refl refl
  where
    go : (a b : Bool) → lt x y ≡ a → lt y x ≡ b → is_gt (cond a Less (cond b Greater Equal)) ≡ b
    go true b g h = sym (sym h ∙ le→not-lt y x q p (lt→le x y (yes g)))
    go false true g h = refl
    go false false g h = refl

clear_order : (m n : ℕ) (e d : ℤ) → T (fits binary32 (fin false m e)) → T (fits binary32 (fin false n d)) → lt (fin false n d) (fin false m e) ≡ not (leb (bits (fin false m e)) (bits (fin false n d)))
unfolding total_le is_nan
clear_order m n e d p q = after_is (fin false m e) (fin false n d) tt tt ∙ ap not (total_bits binary32 (fin false m e) (fin false n d) p q tt tt)

-- an f32 comes after another exactly if its key is greater
pub after_by_key : (x y : Float) → T (fits binary32 x) → T (fits binary32 y) → T (finite x) → T (finite y) → is_gt (total_cmp x y) ≡ not (leb (key_of x) (key_of y))
unfolding lt is_sign_negative
after_by_key nan y p q f g = absurd f
after_by_key (inf s) y p q f g = absurd f
after_by_key (fin s m e) nan p q f g = absurd g
after_by_key (fin s m e) (inf t) p q f g = absurd g
after_by_key (fin false m e) (fin false n d) p q f g =
    let k = key_clear m e p in
    let l = key_clear n d q in
    same_sign (fin false m e) (fin false n d) tt tt ∙ clear_order m n e d p q ∙ ap not (grind (arith, leb_tells))
after_by_key (fin true m e) (fin true n d) p q f g =
    let k = key_set m e p in
    let l = key_set n d q in
    same_sign (fin true m e) (fin true n d) tt tt ∙ clear_order n m d e (cleared n d q) (cleared m e p) ∙ ap not (grind (arith, leb_tells))
after_by_key (fin false m e) (fin true n d) p q f g =
    let k = key_clear m e p in
    let l = key_set n d q in
    above (lt (fin true n d) (fin false m e)) ∙ ap not (sym (lt-leb (key_of (fin false m e)) (key_of (fin true n d)) (omega arith)))
  where
    above : (b : Bool) → is_gt (cond b Greater Greater) ≡ true
    above true = refl
    above false = refl
after_by_key (fin true m e) (fin false n d) p q f g =
    let k = key_set m e p in
    let l = key_clear n d q in
    below (lt (fin true m e) (fin false n d)) ∙ ap not (sym (le-leb (key_of (fin true m e)) (key_of (fin false n d)) (omega arith)))
  where
    below : (b : Bool) → is_gt (cond b Less Less) ≡ false
    below true = refl
    below false = refl

-- ---- a key and its f32
back : (b : ℕ) → b < 4294967296 → (t : Bool) → ltb b 2147483648 ≡ t
    → let k = cond t (b + 2147483648) (4294967295 - b) in cond (ltb k 2147483648) (4294967295 - k) (k - 2147483648) ≡ b
back b h true e = cond-false _ _ _ (le-ltb (b + 2147483648) 2147483648 (omega arith)) ∙ omega arith
back b h false e = let l = ltb-false b 2147483648 e in cond-true _ _ _ (lt-ltb (4294967295 - b) 2147483648 (omega arith)) ∙ omega arith

pub value_back : (x : Float) → T (fits binary32 x) → value_of (key_of x) ≡ x
unfolding key_of value_of
value_back x h = ap (of_bits binary32) (back (bits x) (to_bits-lt binary32 x h) (ltb (bits x) 2147483648) refl) ∙ of_bits-to_bits binary32 x h
