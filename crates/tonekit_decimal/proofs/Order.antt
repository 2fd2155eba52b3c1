-- `at_most` by std's order of lists: the highest digits that differ decide. Assumes nothing.
use Rattle.std.proofs.Common.{◌≡◌, ℕ, ◌+◌, Bool, true, false, not, ltb, List, [], ◌∷◌, ◌++◌, length, reverse, refl, sym, ap, ◌∙◌, arith, tests, Ordering, Less, Equal, Greater}
use Rattle.std.proofs.lemmas.List.{reverse-append, length-reverse}
use Rattle.std.specs.Cmp.Lexicographic.{slice_cmp}
use Rattle.std.specs.Int.{from_bool}
use Rattle.std.specs.Ordering.{is_lt, is_le, nat_cmp, ordering_then}
use Rattle.tonekit_decimal.specs.Digits.{at_most}

-- less where it must be, and else at most
abbrev pub within : Bool → Ordering → Bool
within true o = is_lt o
within false o = is_le o

at_less : (b : Bool) → within b Less ≡ true
at_less true = refl
at_less false = refl

at_greater : (b : Bool) → within b Greater ≡ false
at_greater true = refl
at_greater false = refl

at_equal : (b : Bool) → within b Equal ≡ not b
at_equal true = refl
at_equal false = refl

-- two digits alone
of_digits : (b : Bool) (x y : ℕ) → not (ltb y (x + from_bool b)) ≡ within b (nat_cmp x y)
of_digits true x y = grind (arith, tests)
of_digits false x y = grind (arith, tests)

-- two digits below others
one_lower : (b : Bool) (x y : ℕ) (o : Ordering) → within (ltb y (x + from_bool b)) o ≡ within b (ordering_then o (nat_cmp x y))
one_lower b x y Less = at_less (ltb y (x + from_bool b)) ∙ sym (at_less b)
one_lower b x y Equal = at_equal (ltb y (x + from_bool b)) ∙ of_digits b x y
one_lower b x y Greater = at_greater (ltb y (x + from_bool b)) ∙ sym (at_greater b)

then_equal : (o : Ordering) → ordering_then o Equal ≡ o
then_equal Less = refl
then_equal Equal = refl
then_equal Greater = refl

then_assoc : (o p q : Ordering) → ordering_then o (ordering_then p q) ≡ ordering_then (ordering_then o p) q
then_assoc Less p q = refl
then_assoc Equal p q = refl
then_assoc Greater p q = refl

pushed : (us vs : List ℕ) (x y : ℕ) → length us ≡ length vs → slice_cmp nat_cmp (us ++ (x ∷ [])) (vs ++ (y ∷ [])) ≡ ordering_then (slice_cmp nat_cmp us vs) (nat_cmp x y)
pushed [] [] x y h = then_equal (nat_cmp x y)
pushed [] (b ∷ vs) x y h = absurd (omega (arith, h))
pushed (a ∷ us) [] x y h = absurd (omega (arith, h))
pushed (a ∷ us) (b ∷ vs) x y h = ap (ordering_then (nat_cmp a b)) (pushed us vs x y (omega (arith, h))) ∙ then_assoc (nat_cmp a b) (slice_cmp nat_cmp us vs) (nat_cmp x y)

pub by_cmp : (b : Bool) (xs ys : List ℕ) → length xs ≡ length ys → at_most b xs ys ≡ within b (slice_cmp nat_cmp (reverse xs) (reverse ys))
unfolding at_most
by_cmp b [] [] h = sym (at_equal b)
by_cmp b [] (y ∷ ys) h = absurd (omega (arith, h))
by_cmp b (x ∷ xs) [] h = absurd (omega (arith, h))
by_cmp b (x ∷ xs) (y ∷ ys) h =
    let k : length xs ≡ length ys = omega (arith, h) in
    by_cmp (ltb y (x + from_bool b)) xs ys k
    ∙ one_lower b x y (slice_cmp nat_cmp (reverse xs) (reverse ys))
    ∙ ap (within b) (sym (rw (reverse-append (x ∷ []) xs, reverse-append (y ∷ []) ys) (pushed (reverse xs) (reverse ys) x y (length-reverse xs ∙ k ∙ sym (length-reverse ys)))))
