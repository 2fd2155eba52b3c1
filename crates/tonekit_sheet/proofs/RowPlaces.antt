-- How many rows there can be; where there is a row there is a tone; which accent, tone and prev a row has, by its place, and which row they have. Assumes nothing.
use Prim.Native.Nat.{ℕ, zero, suc, ◌+◌, ◌*◌, ◌/◌, ◌%◌, ◌≤◌, ◌<◌}
use mathlib.Core.Path.{◌≡◌, sym, ap, ◌∙◌}
use native.Mathlib.Nat.{mul_comm, mul_assoc, mul-zero, mul-pos, mul-le-mul, mul-le-mul_right, mod-lt, mod-eq_of_lt, div-eq_of_lt, div-lt_iff_lt-mul, div-add-mod', div-div-eq-div-mul, mul-add-div_right, mul-add-mod_self_right}
use native.Mathlib.Omega.{arith}
use Rattle.spec_sheet.specs.Sheet.{row_count, accent_place, tone_place, prev_place}

pub each_few : (t : ℕ) → t ≤ 8 → t * (t + 1) ≤ 72
each_few t l = let m : t + 1 ≤ 9 = omega arith in mul-le-mul l m

-- no more rows than for 8 accents and 8 tones
pub rows_few : (accents tones : ℕ) → accents ≤ 8 → tones ≤ 8 → row_count accents tones ≤ 576
rows_few a t h l = mul-le-mul h (each_few t l)

pub some_tone : (accents tones r : ℕ) → r < row_count accents tones → 1 ≤ tones
some_tone accents zero r h = absurd (omega (arith, mul-zero accents))
some_tone accents (suc t) r h = omega arith

pub record Places (accents tones r : ℕ) : Type 0 where
  pub accent : accent_place tones r < accents
  pub tone : tone_place tones r < tones
  pub prev : prev_place tones r ≤ tones

pub row_places : (accents tones r : ℕ) → 1 ≤ tones → r < row_count accents tones → Places accents tones r
row_places accents tones r h l = record {
  accent = (div-lt_iff_lt-mul (mul-pos {m = tones} {n = tones + 1} h (omega arith))).1 l;
  tone = mod-lt (r / (tones + 1)) h;
  prev = let p : r % (tones + 1) < tones + 1 = mod-lt r (omega arith) in omega arith;
}

module _ (accents tones a t p : ℕ) (la : a < accents) (lt : t < tones) (lp : p ≤ tones) where
  -- the row of accent a, tone t and prev p
  abbrev pub place : ℕ
  place = (a * tones + t) * (tones + 1) + p

  before_prev : place / (tones + 1) ≡ a * tones + t
  before_prev =
      let z : p / (tones + 1) ≡ 0 = div-eq_of_lt (omega arith) in
      mul-add-div_right (omega arith) (a * tones + t) p ∙ omega arith

  pub prev_back : prev_place tones place ≡ p
  prev_back = mul-add-mod_self_right (a * tones + t) (tones + 1) p ∙ mod-eq_of_lt (omega arith)

  pub tone_back : tone_place tones place ≡ t
  tone_back = ap (λ (x : ℕ). x % tones) before_prev ∙ mul-add-mod_self_right a tones t ∙ mod-eq_of_lt lt

  pub accent_back : accent_place tones place ≡ a
  accent_back =
      let z : t / tones ≡ 0 = div-eq_of_lt lt in
      ap (λ (x : ℕ). place / x) (mul_comm tones (tones + 1))
      ∙ sym (div-div-eq-div-mul place (tones + 1) tones)
      ∙ ap (λ (x : ℕ). x / tones) before_prev
      ∙ mul-add-div_right (omega arith) a t
      ∙ omega arith

  pub place_below : place < row_count accents tones
  place_below =
      let x : (a + 1) * tones ≤ accents * tones = mul-le-mul_right tones (omega arith) in
      let q : a * tones + t + 1 ≤ accents * tones = omega arith in
      let y : (a * tones + t + 1) * (tones + 1) ≤ accents * tones * (tones + 1) = mul-le-mul_right (tones + 1) q in
      omega (arith, mul_assoc accents tones (tones + 1))

-- the places of a row lead back to it
module _ (tones r : ℕ) where
  over_prev : accent_place tones r * tones + tone_place tones r ≡ r / (tones + 1)
  over_prev =
      let e : r / (tones * (tones + 1)) ≡ r / (tones + 1) / tones = ap (λ (n : ℕ). r / n) (mul_comm tones (tones + 1)) ∙ sym (div-div-eq-div-mul r (tones + 1) tones) in
      ap (λ (n : ℕ). n * tones + tone_place tones r) e ∙ div-add-mod' (r / (tones + 1)) tones

  pub row_back : (accent_place tones r * tones + tone_place tones r) * (tones + 1) + prev_place tones r ≡ r
  row_back = ap (λ (n : ℕ). n * (tones + 1) + prev_place tones r) over_prev ∙ div-add-mod' r (tones + 1)
