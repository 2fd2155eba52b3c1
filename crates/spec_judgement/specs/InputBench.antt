-- Worked examples, computed: two bytes of length little-endian, the bytes that they count, the rest; and inputs that end too soon.
use Rattle.std.specs.Prelude.{ℕ, ◌≡◌, refl, List, [], ◌∷◌, length, replicate}
use Rattle.spec_judgement.specs.Input.{held_of, query_of}

abbrev three : List ℕ
three = 3 ∷ 0 ∷ 7 ∷ 8 ∷ 9 ∷ 48 ∷ 50 ∷ []

first_three : held_of three ≡ 7 ∷ 8 ∷ 9 ∷ []
first_three = refl

behind_three : query_of three ≡ 48 ∷ 50 ∷ []
behind_three = refl

-- the second byte counts 256 each
high_byte : length (held_of (1 ∷ 1 ∷ replicate 300 5)) ≡ 257
high_byte = refl

-- "a length past the input's end takes what is there"
past_end : held_of (9 ∷ 0 ∷ 7 ∷ 8 ∷ []) ≡ 7 ∷ 8 ∷ []
past_end = refl

none_behind : query_of (9 ∷ 0 ∷ 7 ∷ 8 ∷ []) ≡ []
none_behind = refl

-- "missing length bytes are 0"
one_byte : held_of (9 ∷ []) ≡ []
one_byte = refl

no_byte : query_of [] ≡ []
no_byte = refl
