-- The characters of a decimal, from its digits: the ones of the number stand at place 151, its fraction below.
use Rattle.std.specs.Prelude.{ℕ, zero, suc, ◌+◌, ◌-◌, ◌%◌, cond, List, [], ◌∷◌, ◌++◌, eqb, get_or, Option, Some, None}

-- the characters of n digits, from place low + n - 1 down to place low
unfoldable pub figures : List ℕ → ℕ → ℕ → List ℕ
figures ds low zero = []
figures ds low (suc n) = (48 + get_or ds (low + n) 0 % 10) ∷ figures ds low n

-- how many of k whole digits are written: none above the highest that is not 0, and at least the ones
unfoldable pub whole_count : List ℕ → ℕ → ℕ
whole_count ds zero = 1
whole_count ds (suc k) = cond (eqb (get_or ds (150 + suc k) 0) 0) (whole_count ds k) (suc k)

-- the lowest of the fraction's k last places whose digit is not 0
unfoldable pub lowest : List ℕ → ℕ → Option ℕ
lowest ds zero = None
lowest ds (suc k) = cond (eqb (get_or ds (151 - suc k) 0) 0) (lowest ds k) (Some (151 - suc k))

-- '.' and the digits down to that place; nothing where there is none
unfoldable pub fraction : List ℕ → Option ℕ → List ℕ
fraction ds None = []
fraction ds (Some low) = 46 ∷ figures ds low (151 - low)

-- the whole digits, and if there is a fraction '.' and its digits to the last that is not 0
unfoldable pub number_text : List ℕ → List ℕ
number_text ds = figures ds 151 (whole_count ds 39) ++ fraction ds (lowest ds 151)

-- '-' where the sign bit is 1
unfoldable pub sign_text : ℕ → List ℕ
sign_text sign = cond (eqb sign 1) (45 ∷ []) []

-- "inf", "-inf" or "nan"
unfoldable pub special_text : ℕ → ℕ → List ℕ
special_text sign f = cond (eqb f 0) (sign_text sign ++ (105 ∷ 110 ∷ 102 ∷ [])) (110 ∷ 97 ∷ 110 ∷ [])
