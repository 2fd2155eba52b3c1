-- One turn of each loop, on the definitions of specs/Digits and specs/Text. Assumes nothing.
use Rattle.std.proofs.Common.{refl, ◌≡◌, ℕ, zero, suc, ◌+◌, ◌-◌, ◌*◌, ◌/◌, ◌%◌, ◌<◌, ◌≤◌, Bool, List, [], ◌∷◌, ◌++◌, length, get_or, take, drop, set, replicate, length-take-le, length-drop, get_or-take, get_or-drop, take_at, drop_at, Option, Some, None, sym, ◌∙◌, ap, arith, add-one, sub-one, append-nil, append_assoc, ne_eqb, take_all, drop_of_length-le, drop-cons, take-suc-set, mul-le-mul, zero-le, reverse, slice_range}
use lib.Seq.{append_snoc}
use lib.ListN.{length-replicate}
use Rattle.std.proofs.Common.{drop-set-lt}
use Rattle.std.proofs.lemmas.Grind.{get_or_default_zero}
use Rattle.std.proofs.lemmas.List.{get_or-reverse, length-reverse}
use Rattle.std.specs.List.{AllWithin, HoldsAt}
use Rattle.std.specs.Option.{MatchOption}
use Rattle.tonekit_decimal.specs.Digits.{mul_add, scaled, times_all, choice_in, search_in}
use Rattle.tonekit_decimal.specs.Text.{figures, whole_count, lowest, fraction, number_text}

-- `multiply`: the digits below i are out, the others still to come
pub multiply_turn : (k t : ℕ) (ds : List ℕ) (i : ℕ) (z : List ℕ) → i < length ds → take i ds ++ mul_add k t (drop i ds) ≡ z
    → take (i + 1) (set ds i ((k * get_or ds i 0 + t) % 10)) ++ mul_add k ((k * get_or ds i 0 + t) / 10) (drop (i + 1) (set ds i ((k * get_or ds i 0 + t) % 10))) ≡ z
unfolding mul_add
multiply_turn k t ds i z h e =
    let s = drop-set-lt (suc i) ds i ((k * get_or ds i 0 + t) % 10) (omega arith) in
    rw (add-one, take-suc-set ds i ((k * get_or ds i 0 + t) % 10) h, append_snoc, s) (rw (drop-cons ds i 0 h) at e)

pub multiply_end : (k t : ℕ) (ds : List ℕ) (i : ℕ) (z : List ℕ) → length ds ≤ i → take i ds ++ mul_add k t (drop i ds) ≡ z → ds ≡ z
unfolding mul_add
multiply_end k t ds i z h e = sym (append-nil ds) ∙ (rw (take_all i ds h, drop_of_length-le ds h) at e)

-- a product with a byte, plus a carry, fits with room
pub product_fits : {k d : ℕ} → k ≤ 134217728 → d < 256 → k * d ≤ 34225520640
product_fits {k} {d} h l = mul-le-mul {n₁ = k} {m₁ = d} {n₂ = 134217728} {m₂ = 255} h (omega arith)

-- `times`
pub times_turn : (k n i : ℕ) (a z : List ℕ) → i < n → times_all k (n - i) a ≡ z → times_all k (n - (i + 1)) (scaled k 0 0 a) ≡ z
unfolding times_all
times_turn k n i a z h e = let s : n - i ≡ suc (n - (i + 1)) = omega arith in rw s at e

pub times_end : (k n i : ℕ) (a z : List ℕ) → n ≤ i → times_all k (n - i) a ≡ z → a ≡ z
unfolding times_all
times_end k n i a z h e = let s : n - i ≡ 0 = omega arith in rw s at e

-- `shortest`: p is above what is tried next
module _ (lo v hi : List ℕ) (odd : Bool) where
  pub search_found : (p : ℕ) (z found : List ℕ) → 0 < p → choice_in lo v hi odd p ≡ Some found → search_in lo v hi odd p ≡ z → found ≡ z
  unfolding search_in
  search_found zero z found h c e = absurd (omega arith)
  search_found (suc p) z found h c e = rw c at e

  pub search_on : (p : ℕ) (z : List ℕ) → 0 < p → choice_in lo v hi odd p ≡ None → search_in lo v hi odd p ≡ z → search_in lo v hi odd (p - 1) ≡ z
  unfolding search_in
  search_on zero z h c e = absurd (omega arith)
  search_on (suc p) z h c e = rw sub-one (rw c at e)

  pub search_end : (p : ℕ) (z : List ℕ) → p ≤ 0 → search_in lo v hi odd p ≡ z → v ≡ z
  unfolding search_in
  search_end zero z h e = e
  search_end (suc p) z h e = absurd (omega arith)

-- `whole_count`: the highest so far that is not 0. `lowest`
module _ (a : List ℕ) where
  pub digit_in : (k : ℕ) → k < 39 → get_or (take 39 (drop 151 a)) k 0 ≡ get_or a (151 + k) 0
  digit_in k h = rw (get_or-take, get_or-drop)

  pub part_size : length a ≡ 190 → length (take 39 (drop 151 a)) ≡ 39
  part_size s = length-take-le 39 (drop 151 a) (simp length-drop (omega arith))

  pub count_start : 1 ≡ whole_count a 0
  unfolding whole_count
  count_start = refl

  pub count_found : (k : ℕ) → (get_or a (151 + k) 0 ≡ 0 → ⊥) → k + 1 ≡ whole_count a (k + 1)
  unfolding whole_count
  count_found k n =
      let s : 150 + suc k ≡ 151 + k = omega arith in rw (add-one, s, ne_eqb (get_or a (151 + k) 0) 0 n)

  pub count_on : (k c : ℕ) → get_or a (151 + k) 0 ≡ 0 → c ≡ whole_count a k → c ≡ whole_count a (k + 1)
  unfolding whole_count
  count_on k c n e = let s : 150 + suc k ≡ 151 + k = omega arith in rw (add-one, s, n) e

  -- i is 151 - k
  pub low_found : (k i : ℕ) (z : Option ℕ) → i + k ≡ 151 → 0 < k → (get_or a i 0 ≡ 0 → ⊥) → lowest a k ≡ z → Some i ≡ z
  unfolding lowest
  low_found zero i z q h n e = absurd (omega arith)
  low_found (suc k) i z q h n e = let s : 151 - suc k ≡ i = omega arith in simp (s, ne_eqb (get_or a i 0) 0 n) at e

  pub low_on : (k i : ℕ) (z : Option ℕ) → i + k ≡ 151 → 0 < k → get_or a i 0 ≡ 0 → lowest a k ≡ z → lowest a (k - 1) ≡ z
  unfolding lowest
  low_on zero i z q h n e = absurd (omega arith)
  low_on (suc k) i z q h n e = let s : 151 - suc k ≡ i = omega arith in rw sub-one (rw (s, n) at e)

  pub low_end : (k : ℕ) (z : Option ℕ) → k ≤ 0 → lowest a k ≡ z → None ≡ z
  unfolding lowest
  low_end zero z h e = e
  low_end (suc k) z h e = absurd (omega arith)

-- `lowest`: the first digit that is not 0, of those below 151
module _ (ds : List ℕ) (size : length (take 151 ds) ≡ 151) where
  low_past : (i : ℕ) → i ≤ 151 → AllWithin (λ x. x ≡ 0) (take 151 ds) 0 i → lowest ds (151 - i) ≡ lowest ds 151
  low_past zero h all = refl
  low_past (suc i) h all =
      let e : 151 - i - 1 ≡ 151 - suc i = omega arith in
      let here = sym (get_or-take 151 ds i 0 (omega arith)) ∙ all i 0 zero-le (omega arith) in
      rw e at (low_on ds (151 - i) i _ (omega arith) (omega arith) here (low_past i (omega arith) (λ k d l m. all k d l (omega arith))))

  pub low_first : (r : Option ℕ) → MatchOption r (AllWithin (λ x. x ≡ 0) (take 151 ds) 0 (length (take 151 ds))) (λ i. (i < length (take 151 ds)) × HoldsAt (λ x. x ≡ 0 → ⊥) (take 151 ds) i × AllWithin (λ x. x ≡ 0) (take 151 ds) 0 i)
      → r ≡ lowest ds 151
  low_first None h = low_end ds 0 _ (omega arith) (low_past 151 (omega arith) (λ k d l m. h k d l (omega (arith, size))))
  low_first (Some i) h =
      let b : i < 151 = omega (arith, size, h.0) in
      low_found ds (151 - i) i _ (omega arith) (omega arith) (λ e. h.1 0 (get_or-take 151 ds i 0 b ∙ e)) (low_past i (omega arith) h.2)

-- `add_figures`: what is left, added here, gives the whole
pub figures_turn : (text ds : List ℕ) (low place : ℕ) (z : List ℕ) → low < place → text ++ figures ds low (place - low) ≡ z
    → (text ++ (48 + get_or ds (place - 1) 0 % 10) ∷ []) ++ figures ds low (place - 1 - low) ≡ z
unfolding figures
figures_turn text ds low place z h e =
    let s : place - low ≡ suc (place - 1 - low) = omega arith in
    let t : low + (place - 1 - low) ≡ place - 1 = omega arith in
    rw append_assoc (rw (s, t) at e)

pub figures_end : (text ds : List ℕ) (low place : ℕ) (z : List ℕ) → place ≤ low → text ++ figures ds low (place - low) ≡ z → text ≡ z
unfolding figures
figures_end text ds low place z h e = let s : place - low ≡ 0 = omega arith in sym (append-nil text) ∙ (rw s at e)

-- the digits from low up and below end, the highest first
pub part_length : (ds : List ℕ) (low end : ℕ) → low ≤ end → end ≤ length ds → length (reverse (slice_range ds low end)) ≡ end - low
part_length ds low end h l =
    let n : end - low ≤ length (drop low ds) = simp length-drop (omega arith) in
    length-reverse (slice_range ds low end) ∙ length-take-le (end - low) (drop low ds) n

pub digit_down : (ds : List ℕ) (low end k d : ℕ) → low ≤ end → end ≤ length ds → k < end - low → get_or (reverse (slice_range ds low end)) k d ≡ get_or ds (end - k - 1) 0
digit_down ds low end k d h l m =
    let n : length (slice_range ds low end) ≡ end - low = sym (length-reverse (slice_range ds low end)) ∙ part_length ds low end h l in
    let t : low + (end - low - 1 - k) ≡ end - k - 1 = omega arith in
    get_or-reverse (slice_range ds low end) k d (omega (arith, n))
    ∙ rw n (get_or-take (end - low) (drop low ds) (end - low - 1 - k) d (omega arith))
    ∙ get_or-drop low ds (end - low - 1 - k) d
    ∙ rw t (get_or_default_zero ds (end - k - 1) d (omega arith))

-- `scaled`: zeros, and what `multiply` makes of the digits behind them
pub scaled_is : (k p c : ℕ) (ds zeros new : List ℕ) → length ds ≡ 190 → p ≤ 190 → zeros ≡ replicate (length (take p ds)) 0
    → new ≡ mul_add k c (take (190 - p) (drop p (zeros ++ drop p ds)))
    → take p (zeros ++ drop p ds) ++ (new ++ drop (190 - p) (drop p (zeros ++ drop p ds))) ≡ scaled k p c ds
unfolding scaled
scaled_is k p c ds zeros new l h z e =
    let n : length (take p ds) ≡ p = length-take-le p ds (omega arith) in
    let t : length zeros ≡ p = ap length z ∙ (length-replicate (length (take p ds)) 0 ∙ n) in
    let m : length (drop p ds) ≤ 190 - p = simp length-drop (omega arith) in
    let x : new ≡ mul_add k c (drop p ds) = rw (drop_at zeros (drop p ds) p t, take_all (190 - p) (drop p ds) m) at e in
    rw (take_at zeros (drop p ds) p t, drop_at zeros (drop p ds) p t, drop_of_length-le (drop p ds) m, append-nil, x, z, n)

-- `add_to`
pub add_some : (text ds one two all : List ℕ) (n low : ℕ) → n ≡ whole_count ds 39 → Some low ≡ lowest ds 151 → one ≡ text ++ figures ds 151 (151 + n - 151)
    → two ≡ one ++ 46 ∷ [] → all ≡ two ++ figures ds low (151 - low) → all ≡ text ++ number_text ds
unfolding number_text fraction
add_some text ds one two all n low en el e₁ e₂ e₃ =
    let s : 151 + n - 151 ≡ n = omega arith in rw (e₃, e₂, e₁, s, ← en, ← el) (simp append_assoc)

pub add_none : (text ds all : List ℕ) (n : ℕ) → n ≡ whole_count ds 39 → None ≡ lowest ds 151 → all ≡ text ++ figures ds 151 (151 + n - 151) → all ≡ text ++ number_text ds
unfolding number_text fraction
add_none text ds all n en el e = let s : 151 + n - 151 ≡ n = omega arith in rw (e, s, ← en, ← el) (simp append-nil)
