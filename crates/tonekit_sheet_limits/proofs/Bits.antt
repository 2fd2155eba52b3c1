-- Bits of an f32 and back: a weight that is fine keeps its bits, and a point within its range has bits that are those of a point.
use Rattle.std.proofs.Common.{ℕ, zero, suc, ◌+◌, ◌-◌, ◌*◌, ◌<◌, ◌≡◌, sym, ◌∙◌, ap, subst, Bool, true, false, not, ◌&&◌, List, [], ◌∷◌, ◌++◌, mod-eq_of_lt, arith, T, eqb, ltb, pos, length, get_or, Float, to_bits, ltb-true, le-ltb}
use Rattle.std.proofs.lemmas.List.{get_or-map}
use lib.Ieee.{nan, fin, binary32, le, fits, of_bits}
use lib.Ieee.Bits.{is_true, of_bits-to_bits, to_bits-lt, of_bits-fits, to_bits-of_bits, nan_bits_is, nan_bits_above}
use lib.Ieee.Fits.{and_i, cond-fits, nan-fits}
use Rattle.spec_arithmetic.specs.Fields.{byte_at, u32_at, f32_at}
use Rattle.tonekit_float.proofs.Narrowing.{narrow_fits}
use Rattle.spec_pack.specs.Ranges.{weight_fine}
use Rattle.tonekit_core.proofs.Split.{split}
use Rattle.spec_lookup.specs.declared.Listing.{Listing}
use Rattle.spec_lookup.specs.Knots.{Point, knots_at, on_line, segment, past_knot, point_at, first_points}
use Rattle.spec_lookup.specs.Lookup.{component_of}
use Rattle.spec_lookup.specs.Source.{carried}
use Rattle.tonekit_expect.proofs.Carried.{component_ten}
use Rattle.spec_sheet.specs.Reader.{point_fine}
use Rattle.tonekit_sheet.specs.Sheetable.{Bits, f32}

-- ---- weights
-- a pattern below infinity's, the sign clear, is that of its float
pub bits_again : (b : ℕ) → b < 0x7f80_0000 → to_bits binary32 (of_bits binary32 b) ≡ b
bits_again b h =
    let l : b < 0x8000_0000 = omega arith in
    to_bits-of_bits binary32 b (omega arith)
    (subst (λ (t : Bool). T (not t)) (sym (sym (nan_bits_is binary32 b) ∙ nan_bits_above binary32 b ∙ ap (λ (k : ℕ). ltb 0x7f80_0000 k) (mod-eq_of_lt l) ∙ le-ltb 0x7f80_0000 b (omega arith))) tt)

pub weight_again : (b : ℕ) → weight_fine b ≡ true → to_bits binary32 (of_bits binary32 b) ≡ b
unfolding weight_fine
weight_again b h = bits_again b (ltb-true b 0x7f80_0000 h)

-- ---- points that an f32 holds
abbrev Held : Float → Type 0
Held x = T (fits binary32 x)

abbrev AllHeld : List Float → Type 0
AllHeld xs = (k : ℕ) → Held (get_or xs k nan)

held_snoc : (xs : List Float) (y : Float) → AllHeld xs → Held y → AllHeld (xs ++ (y ∷ []))
held_snoc [] y h p zero = p
held_snoc [] y h p (suc k) = nan-fits binary32
held_snoc (x ∷ xs) y h p zero = h 0
held_snoc (x ∷ xs) y h p (suc k) = held_snoc xs y (λ i. h (suc i)) p k

knots_held : (s : List ℕ) (o n : ℕ) → AllHeld (knots_at s o n)
unfolding knots_at
knots_held s o zero k = nan-fits binary32
knots_held s o (suc n) k = held_snoc (knots_at s o n) (f32_at s (o + 4 * n)) (knots_held s o n) (of_bits-fits binary32 (u32_at s (o + 4 * n))) k

line_held : (a b t : Float) → Held (on_line a b t)
unfolding on_line
line_held a b t = narrow_fits _

point_held : (knots : List Float) → AllHeld knots → (i : ℕ) → Held (point_at knots i)
unfolding point_at
point_held knots h i =
    let last = length knots - 1 in
    let j = segment i last in
    cond-fits binary32 (eqb last 0) _ _ (h 0)
    (cond-fits binary32 (eqb (length knots) 10) _ _ (h i)
    (cond-fits binary32 (eqb i 9) _ _ (h last) (line_held (get_or knots j nan) (get_or knots (j + 1) nan) (past_knot i last))))

points_held : (knots : List Float) → AllHeld knots → (n : ℕ) → AllHeld (first_points knots n)
unfolding first_points
points_held knots h zero k = nan-fits binary32
points_held knots h (suc n) k = held_snoc (first_points knots n) (point_at knots n) (points_held knots h n) (point_held knots h n) k

-- ---- the points of a component, as they are carried
module _ (s : List ℕ) (l : Listing) (j : ℕ) where
  component_held : AllHeld (component_of s l j).points
  unfolding component_of
  component_held k =
      split (eqb l.name.form 1)
      (λ t. rw t (points_held (knots_at s (l.at + 7) (byte_at s (l.at + 6))) (knots_held s (l.at + 7) (byte_at s (l.at + 6))) 10 k))
      (λ t. rw t (points_held (knots_at s (l.at + 46 * j + 6) (byte_at s (l.at + 46 * j + 5))) (knots_held s (l.at + 46 * j + 6) (byte_at s (l.at + 46 * j + 5))) 10 k))

  carried_point : (k : ℕ) → k < 10 → get_or (carried (component_of s l j)).points k 0 ≡ to_bits binary32 (get_or (component_of s l j).points k nan)
  unfolding carried
  carried_point k h = get_or-map (to_bits binary32) (component_of s l j).points k nan 0 (omega (arith, component_ten s l j))

  pub carried_bits : (k : ℕ) → k < 10 → Bits (get_or (carried (component_of s l j)).points k 0)
  carried_bits k h = rw (carried_point k h) (to_bits-lt binary32 (get_or (component_of s l j).points k nan) (component_held k))

  pub carried_fine : (k : ℕ) → k < 10 → Point (get_or (component_of s l j).points k nan) → point_fine (f32 (get_or (carried (component_of s l j)).points k 0)) ≡ true
  unfolding point_fine
  carried_fine k h p =
      let x = get_or (component_of s l j).points k nan in
      rw (carried_point k h, of_bits-to_bits binary32 x (component_held k))
      (is_true (le (fin true 1 (pos 7)) x && le x (fin false 1 (pos 7))) (and_i (le (fin true 1 (pos 7)) x) (le x (fin false 1 (pos 7))) p.low p.high))
