-- Worked examples of decimal texts, by computing.
use Rattle.std.specs.Prelude.{◌≡◌, refl, [], ◌∷◌, ◌++◌, replicate}
use Rattle.tonekit_decimal.specs.Digits.{digits}
use Rattle.tonekit_decimal.specs.Text.{figures, whole_count, lowest, fraction, number_text, sign_text, special_text}
use Rattle.tonekit_decimal.specs.Decimal.{reads, candidate, choice, shortest, quarter, nearest_of, significand, lower_gap, scale_field, decimal_of, sign_field, exponent_field, fraction_field, decimal_text}

-- 0.1
pub a_tenth : decimal_text 0x3DCCCCCD ≡ 48 ∷ 46 ∷ 49 ∷ []
unfolding digits figures whole_count lowest fraction number_text sign_text special_text reads candidate choice shortest quarter nearest_of significand lower_gap scale_field decimal_of sign_field exponent_field fraction_field decimal_text
a_tenth = refl

pub one : decimal_text 0x3F800000 ≡ 49 ∷ []
unfolding digits figures whole_count lowest fraction number_text sign_text special_text reads candidate choice shortest quarter nearest_of significand lower_gap scale_field decimal_of sign_field exponent_field fraction_field decimal_text
one = refl

-- zero, and negative zero
pub zero : decimal_text 0x0 ≡ 48 ∷ []
unfolding digits figures whole_count lowest fraction number_text sign_text special_text reads candidate choice shortest quarter nearest_of significand lower_gap scale_field decimal_of sign_field exponent_field fraction_field decimal_text
zero = refl

pub minus_zero : decimal_text 0x80000000 ≡ 45 ∷ 48 ∷ []
unfolding digits figures whole_count lowest fraction number_text sign_text special_text reads candidate choice shortest quarter nearest_of significand lower_gap scale_field decimal_of sign_field exponent_field fraction_field decimal_text
minus_zero = refl

-- the least above zero: "0.", 44 zeros, "1"
pub least : decimal_text 0x1 ≡ 48 ∷ 46 ∷ (replicate 44 48 ++ (49 ∷ []))
unfolding digits figures whole_count lowest fraction number_text sign_text special_text reads candidate choice shortest quarter nearest_of significand lower_gap scale_field decimal_of sign_field exponent_field fraction_field decimal_text
least = refl

-- the greatest: "34028235" and 31 zeros
pub greatest : decimal_text 0x7F7FFFFF ≡ 51 ∷ 52 ∷ 48 ∷ 50 ∷ 56 ∷ 50 ∷ 51 ∷ 53 ∷ replicate 31 48
unfolding digits figures whole_count lowest fraction number_text sign_text special_text reads candidate choice shortest quarter nearest_of significand lower_gap scale_field decimal_of sign_field exponent_field fraction_field decimal_text
greatest = refl

pub whole : decimal_text 0x4B800000 ≡ 49 ∷ 54 ∷ 55 ∷ 55 ∷ 55 ∷ 50 ∷ 49 ∷ 54 ∷ []
unfolding digits figures whole_count lowest fraction number_text sign_text special_text reads candidate choice shortest quarter nearest_of significand lower_gap scale_field decimal_of sign_field exponent_field fraction_field decimal_text
whole = refl

pub below_one : decimal_text 0x3F7FFFFF ≡ 48 ∷ 46 ∷ 57 ∷ 57 ∷ 57 ∷ 57 ∷ 57 ∷ 57 ∷ 57 ∷ 52 ∷ []
unfolding digits figures whole_count lowest fraction number_text sign_text special_text reads candidate choice shortest quarter nearest_of significand lower_gap scale_field decimal_of sign_field exponent_field fraction_field decimal_text
below_one = refl

-- a power of two: 33554430 would be as near as half a step above, but the step below is half as wide
pub power : decimal_text 0x4C000000 ≡ 51 ∷ 51 ∷ 53 ∷ 53 ∷ 52 ∷ 52 ∷ 51 ∷ 50 ∷ []
unfolding digits figures whole_count lowest fraction number_text sign_text special_text reads candidate choice shortest quarter nearest_of significand lower_gap scale_field decimal_of sign_field exponent_field fraction_field decimal_text
power = refl

-- 33554448 and 33554452: the midpoint 33554450 reads back to the even one, so only that is written so
pub even : decimal_text 0x4C000004 ≡ 51 ∷ 51 ∷ 53 ∷ 53 ∷ 52 ∷ 52 ∷ 53 ∷ 48 ∷ []
unfolding digits figures whole_count lowest fraction number_text sign_text special_text reads candidate choice shortest quarter nearest_of significand lower_gap scale_field decimal_of sign_field exponent_field fraction_field decimal_text
even = refl

pub odd : decimal_text 0x4C000005 ≡ 51 ∷ 51 ∷ 53 ∷ 53 ∷ 52 ∷ 52 ∷ 53 ∷ 50 ∷ []
unfolding digits figures whole_count lowest fraction number_text sign_text special_text reads candidate choice shortest quarter nearest_of significand lower_gap scale_field decimal_of sign_field exponent_field fraction_field decimal_text
odd = refl

-- 2097152.25 lies midway between two decimals that read back: the lower
pub tie : decimal_text 0x4A000001 ≡ 50 ∷ 48 ∷ 57 ∷ 55 ∷ 49 ∷ 53 ∷ 50 ∷ 46 ∷ 50 ∷ []
unfolding digits figures whole_count lowest fraction number_text sign_text special_text reads candidate choice shortest quarter nearest_of significand lower_gap scale_field decimal_of sign_field exponent_field fraction_field decimal_text
tie = refl

-- "inf", "-inf" and "nan"
pub specials : (decimal_text 0x7F800000 ≡ 105 ∷ 110 ∷ 102 ∷ []) × (decimal_text 0xFF800000 ≡ 45 ∷ 105 ∷ 110 ∷ 102 ∷ []) × (decimal_text 0xFFC00001 ≡ 110 ∷ 97 ∷ 110 ∷ [])
unfolding digits figures whole_count lowest fraction number_text sign_text special_text reads candidate choice shortest quarter nearest_of significand lower_gap scale_field decimal_of sign_field exponent_field fraction_field decimal_text
specials = (refl, refl, refl)
