-- Records in a lent buffer: runs of stores put together, and what a writer answers once its record is written, or refused. Assumes nothing.
use Rattle.std.proofs.Common.{◌≡◌, refl, sym, ap, ◌∙◌, List, [], ◌∷◌, ◌++◌, append_assoc, append-nil, ℕ, suc, ◌+◌, ◌-◌, ◌*◌, ◌≤◌, ◌<◌, zero-add, add-zero, add-suc, suc-add, add-one, arith, Float, length, drop, take, set, get_or, length-drop, drop_of_length-le, take_all, drop-drop, take-suc, length-take-le, le-leb}
use lib.Seq.{sets, sets-eq}
use borrow.Rule.Slice.PartMut.{put_mid}
use borrow.Author.Tests.{lt-leb}
use Rattle.tonekit_core.specs.declared.Refusal.TheVariants.{ShortBuffer}
use Rattle.std.specs.Prelude.{Ok, Err}
use Rattle.tonekit_core.specs.Calls.{answer_in, buffer_after, written, Delivers}
use Rattle.spec_arithmetic.specs.Fields.{f32_bytes, f32s_bytes}

-- stores from index 0 on replace the list's start
front : (bs l : List ℕ) → length bs ≤ length l → sets l 0 bs ≡ bs ++ drop (length bs) l
front bs l h = sets-eq bs l 0 (rw zero-add h) ∙ ap (λ (n : ℕ). bs ++ drop n l) (zero-add (length bs))

-- a record of n bytes that stands at the front of a buffer, and one that is longer than the buffer
pub wrote : (bs l out : List ℕ) (n : ℕ) → length bs ≡ n → n ≤ length l → out ≡ sets l 0 bs
    → Delivers (written bs) l (Ok n) out
unfolding answer_in buffer_after
wrote bs l out n e h o =
    let k : length bs ≤ length l = omega arith in
    record { answer = simp (le-leb _ _ k) (ap Ok (sym e)); buffer = simp (le-leb _ _ k) (o ∙ front bs l k) }

pub refused_short : (bs l : List ℕ) (n : ℕ) → length bs ≡ n → length l < n
    → Delivers (written bs) l (Err (record { why = ShortBuffer; place = n })) l
unfolding answer_in buffer_after
refused_short bs l n e h =
    let k : length l < length bs = omega arith in
    record { answer = simp (lt-leb _ _ k) (ap (λ (k : ℕ). Err (record { why = ShortBuffer; place = k })) (sym e)); buffer = simp (lt-leb _ _ k) refl }

-- stores from the start of a part that reaches to the end are stores from its place on in the whole
pub part_put : (bs l ys : List ℕ) (a : ℕ) → a + length bs ≤ length l → ys ≡ sets (take (length l - a) (drop a l)) 0 bs
    → take a l ++ (ys ++ drop (length l - a) (drop a l)) ≡ sets l a bs
part_put bs l ys a h e =
    let m : take (length l - a) (drop a l) ≡ drop a l = take_all (length l - a) (drop a l) (omega (arith, length-drop a l)) in
    let z : drop (length l - a) (drop a l) ≡ [] = drop_of_length-le (drop a l) {i = length l - a} (omega (arith, length-drop a l)) in
    let y : ys ≡ bs ++ drop (a + length bs) l =
    e ∙ ap (λ (k : List ℕ). sets k 0 bs) m ∙ front bs (drop a l) (omega (arith, length-drop a l)) ∙ ap (λ (k : List ℕ). bs ++ k) (drop-drop (length bs) a l) in
    ap (λ (t : List ℕ). take a l ++ (ys ++ t)) z
    ∙ ap (λ (t : List ℕ). take a l ++ t) (append-nil ys ∙ y)
    ∙ sym (append_assoc (take a l) bs (drop (a + length bs) l))
    ∙ sym (sets-eq bs l a h)

-- bytes copied over a part of a list are stores there
pub copied : (a k : ℕ) (l ys bs : List ℕ) → k ≡ length bs → ys ≡ bs → a + length bs ≤ length l → put_mid a k l ys ≡ sets l a bs
copied a k l ys bs n e h = rw (n, e) (ap (λ (t : List ℕ). take a l ++ (bs ++ t)) (drop-drop (length bs) a l) ∙ (sym (append_assoc (take a l) bs (drop (a + length bs) l)) ∙ sym (sets-eq bs l a h)))

-- two runs of stores, one after the other, are one
pub sets_append : {A : Type 0} (l : List A) (i : ℕ) (a b : List A) (n : ℕ) → n ≡ i + length a → sets (sets l i a) n b ≡ sets l i (a ++ b)
sets_append l i [] b n e = ap (λ (k : ℕ). sets l k b) (e ∙ add-zero i)
sets_append l i (x ∷ a) b n e = sets_append (set l i x) (suc i) a b n (e ∙ add-suc i (length a) ∙ sym (suc-add i (length a)))

-- one more part of a record, from where the last one ended
pub more : {A : Type 0} (l a b : List A) {o o' : List A} (i n : ℕ) → o ≡ sets l i a → n ≡ i + length a → o' ≡ sets o n b → o' ≡ sets l i (a ++ b)
more {A} l a b i n e k e' = e' ∙ ap (λ (x : List A). sets x n b) e ∙ sets_append l i a b n k

f32s_append : (xs ys : List Float) → f32s_bytes (xs ++ ys) ≡ f32s_bytes xs ++ f32s_bytes ys
unfolding f32s_bytes
f32s_append [] ys = refl
f32s_append (x ∷ xs) ys = ap (λ (r : List ℕ). f32_bytes x ++ r) (f32s_append xs ys)

pub f32s_length : (xs : List Float) → length (f32s_bytes xs) ≡ 4 * length xs
unfolding f32s_bytes
f32s_length [] = refl
f32s_length (x ∷ xs) = omega (arith, f32s_length xs)

-- a turn of the loop that writes floats
pub f32s_step : (l out : List ℕ) (at i place : ℕ) (xs : List Float) (d : Float) → i < length xs → place ≡ at + 4 * i → out ≡ sets l at (f32s_bytes (take i xs))
    → sets out place (f32_bytes (get_or xs i d)) ≡ sets l at (f32s_bytes (take (i + 1) xs))
unfolding f32s_bytes
f32s_step l out at i place xs d h p e =
    let k : length (take i xs) ≡ i = length-take-le i xs (omega arith) in
    more l (f32s_bytes (take i xs)) (f32_bytes (get_or xs i d)) at place e (omega (arith, f32s_length (take i xs))) refl
    ∙ ap (sets l at) (sym (f32s_append (take i xs) (get_or xs i d ∷ [])) ∙ ap f32s_bytes (sym (ap (λ (m : ℕ). take m xs) (add-one i) ∙ take-suc xs i d h)))
