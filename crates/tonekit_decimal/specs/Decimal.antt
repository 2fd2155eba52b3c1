-- The shortest plain decimal of an f32 given by its bits, in whole numbers. The unit is 10 ^ -151: every f32 and every midpoint
-- between two neighbours is a whole number of it.
use Rattle.std.specs.Prelude.{ℕ, zero, suc, ◌+◌, ◌-◌, ◌*◌, ◌/◌, ◌%◌, ◌^◌, Bool, false, cond, List, ◌++◌, eqb, leb, ltb, Option, Some, None, unwrap_or}
use Rattle.tonekit_decimal.specs.Digits.{digits}
use Rattle.tonekit_decimal.specs.Text.{number_text, sign_text, special_text}

-- whether d lies in the interval from lo to hi: closed where the significand is even, open where it is odd (odd is 1)
unfoldable pub reads : ℕ → ℕ → ℕ → ℕ → Bool
reads lo hi odd d = cond (leb (lo + odd) d) (leb (d + odd) hi) false

-- v cut down to a multiple of 10 ^ p, and c multiples more
unfoldable pub candidate : ℕ → ℕ → ℕ → ℕ
candidate v p c = (v / 10 ^ p + c) * 10 ^ p

-- of the two multiples of 10 ^ p beside v the one that reads; the nearer if both read, the lower at a tie
unfoldable pub choice : ℕ → ℕ → ℕ → ℕ → ℕ → Option ℕ
choice lo v hi odd p =
    cond (reads lo hi odd (candidate v p 0))
    (cond (reads lo hi odd (candidate v p 1))
    (cond (leb (2 * v) (candidate v p 0 + candidate v p 1)) (Some (candidate v p 0)) (Some (candidate v p 1))) (Some (candidate v p 0)))
    (cond (reads lo hi odd (candidate v p 1)) (Some (candidate v p 1)) None)

-- the chosen multiple of the highest power of ten, from 10 ^ p down, of which one reads; v itself where none does
unfoldable pub shortest : ℕ → ℕ → ℕ → ℕ → ℕ → ℕ
shortest lo v hi odd zero = v
shortest lo v hi odd (suc p) = unwrap_or (choice lo v hi odd (suc p)) (shortest lo v hi odd p)

-- a quarter of the step at the exponent field e: 2 ^ (e - 152)
unfoldable pub quarter : ℕ → ℕ
quarter e = 2 ^ (e - 1) * 5 ^ 151

-- the shortest decimal of m 2 ^ (e - 150): 4 m quarters, the upper midpoint two more, the lower midpoint `below` less
unfoldable pub nearest_of : ℕ → ℕ → ℕ → ℕ
nearest_of m e below = shortest ((4 * m - below) * quarter e) (4 * m * quarter e) ((4 * m + 2) * quarter e) (m % 2) 189

-- the significand of the fields e and f
unfoldable pub significand : ℕ → ℕ → ℕ
significand e f = cond (eqb e 0) f (8388608 + f)

-- the lower midpoint is two quarters away, one quarter at a power of two above the least exponent
unfoldable pub lower_gap : ℕ → ℕ → ℕ
lower_gap e f = cond (eqb f 0) (cond (ltb 1 e) 1 2) 2

-- the exponent field that counts: 0 as 1
unfoldable pub scale_field : ℕ → ℕ
scale_field e = cond (eqb e 0) 1 e

-- the shortest decimal of a finite f32, by its exponent and fraction fields
unfoldable pub decimal_of : ℕ → ℕ → ℕ
decimal_of e f = nearest_of (significand e f) (scale_field e) (lower_gap e f)

-- whether d lies in the rounding interval of the f32 with the fields e and f
unfoldable pub rounds_to : ℕ → ℕ → ℕ → Bool
rounds_to e f d =
    let m = significand e f in
    let q = quarter (scale_field e) in
    reads ((4 * m - lower_gap e f) * q) ((4 * m + 2) * q) (m % 2) d

-- the fields of the bits
unfoldable pub sign_field : ℕ → ℕ
sign_field bits = bits / 2147483648

unfoldable pub exponent_field : ℕ → ℕ
exponent_field bits = bits / 8388608 % 256

unfoldable pub fraction_field : ℕ → ℕ
fraction_field bits = bits % 8388608

-- the text: "nan", "inf" or "-inf", or the sign and the shortest decimal
unfoldable pub decimal_text : ℕ → List ℕ
decimal_text bits =
    cond (eqb (exponent_field bits) 255) (special_text (sign_field bits) (fraction_field bits))
    (sign_text (sign_field bits) ++ number_text (digits 190 (decimal_of (exponent_field bits) (fraction_field bits))))
