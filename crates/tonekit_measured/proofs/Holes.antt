-- The curve with its holes filled: semitones are within 2,000, and a value between two of them, on the line from one to the other, within 6,000. What is
-- filled in is never read again: the next gap begins at a voiced frame.
use Rattle.std.proofs.Common.{ℕ, ◌+◌, ◌-◌, ◌*◌, ◌^◌, ◌<◌, ◌≤◌, ◌≡◌, refl, sym, ◌∙◌, subst, Bool, true, false, cond, List, length, get_or, set, length-set, mul-one, arith, lit≤, Float}
use Rattle.std.proofs.lemmas.List.{get_or-set_other}
use lib.Ieee.{nan, binary64, add, sub, mul, div}
use Rattle.tonekit_core.specs.Loop.{range}
use Rattle.tonekit_core.proofs.LoopLaws.{range_keeps}
use Rattle.spec_arithmetic.specs.Constants.{whole64}
use Rattle.spec_shape.specs.Chao.{voiced}
use Rattle.spec_shape.specs.Extract.{Filled, gap_filled, holes_filled}
use Rattle.tonekit_float.proofs.Fraction.{Within}
use Rattle.tonekit_float.proofs.Size.{within_whole, within_more, within_add, within_sub, within_mul, within_mean}
use Rattle.tonekit_measured.proofs.Sized.{Sized, sized_more, sized_set}

-- a part k of the m frames of a gap, of the way between two semitones
part_within : (k m : ℕ) (x y : Float) → k ≤ m → 0 < m → m ≤ 2 ^ 53 → Within 2000 x → Within 2000 y → Within 6000 (add binary64 x (mul binary64 (div binary64 (whole64 k) (whole64 m)) (sub binary64 y x)))
part_within k m x y h z f u v =
    let exact : k ≤ 2 ^ 53 = omega arith in
    let e : k ≤ m * 1 = omega (arith, mul-one m) in
    let t : Within 1 (div binary64 (whole64 k) (whole64 m)) = within_mean binary64 m 1 z f (lit≤ tt) (within_more e (within_whole binary64 k exact)) in
    within_add binary64 (lit≤ tt) u (within_mul binary64 (lit≤ tt) t (within_sub binary64 (lit≤ tt) v u))

-- ---- one gap
module _ (prev j : ℕ) (l : List Float) (below : prev < j) (inside : j < length l) (few : length l ≤ 1024) (held : Sized 6000 l) (from : Within 2000 (get_or l prev nan)) (to : Within 2000 (get_or l j nan)) where
  -- the frames before g are filled, those from g on are as they were
  record Gap (g : ℕ) (t : List Float) : Type 0 where
    pub past : prev < g
    pub long : length t ≡ length l
    pub before : get_or t prev nan ≡ get_or l prev nan
    pub after : (i : ℕ) → g ≤ i → get_or t i nan ≡ get_or l i nan
    pub all : Sized 6000 t

  none_filled : Gap (prev + 1) l
  none_filled = record { past = omega arith; long = refl; before = refl; after = λ i h. refl; all = held }

  one_filled : (g : ℕ) (t : List Float) → g < j → Gap g t
      → Gap (g + 1) (set t g (add binary64 (get_or t prev nan) (mul binary64 (div binary64 (whole64 (g - prev)) (whole64 (j - prev))) (sub binary64 (get_or t j nan) (get_or t prev nan)))))
  one_filled g t h G =
      let p = G.past in
      let x = subst (Within 2000) (sym G.before) from in
      let y = subst (Within 2000) (sym (G.after j (omega arith))) to in
      let v = part_within (g - prev) (j - prev) (get_or t prev nan) (get_or t j nan) (omega arith) (omega arith) (omega arith) x y in
      record {
        past = omega arith;
        long = length-set t g _ ∙ G.long;
        before = get_or-set_other t g prev _ nan (λ e. omega (arith, e)) ∙ G.before;
        after = λ i k. get_or-set_other t g i _ nan (λ e. omega (arith, e)) ∙ G.after i (omega arith);
        all = sized_set 6000 t g _ G.all v;
      }

  gap : Gap j (gap_filled prev j l)
  gap = range_keeps _ Gap (prev + 1) j l (omega arith) one_filled none_filled

-- ---- all of them: the curve is within 6,000, from the last voiced frame on within 2,000
module _ (frames : List ℕ) (first : ℕ) (l : List Float) (some : 1 ≤ length l) (few : length l ≤ 1024) (held : Sized 2000 l) where
  record Holes (j : ℕ) (s : Filled) : Type 0 where
    pub past : s.prev < j
    pub long : length s.curve ≡ length l
    pub last : Within 2000 (get_or s.curve s.prev nan)
    pub ahead : (i : ℕ) → j ≤ i → i < length l → Within 2000 (get_or s.curve i nan)
    pub all : Sized 6000 s.curve

  start : Holes 1 (record { curve = l; prev = 0 })
  start = record { past = omega arith; long = refl; last = held 0 (omega arith); ahead = λ i h k. held i k; all = sized_more l (lit≤ tt) held }

  turn : (j : ℕ) (s : Filled) → j < length l → Holes j s → (b : Bool) → Holes (j + 1) (cond b (record { curve = gap_filled s.prev j s.curve; prev = j }) s)
  turn j s h H true =
      let n = H.long in
      let v = H.ahead j (omega arith) h in
      let G = gap s.prev j s.curve H.past (omega (arith, n, h)) (omega (arith, n, few)) H.all H.last v in
      record {
        past = omega arith;
        long = G.long ∙ n;
        last = subst (Within 2000) (sym (G.after j (omega arith))) v;
        ahead = λ i k m. subst (Within 2000) (sym (G.after i (omega arith))) (H.ahead i (omega arith) m);
        all = G.all;
      }
  turn j s h H false = record { past = let p = H.past in omega arith; long = H.long; last = H.last; ahead = λ i k m. H.ahead i (omega arith) m; all = H.all }

  abbrev hole : ℕ → Filled → Filled
  hole j s = cond (voiced frames (first + j)) (record { curve = gap_filled s.prev j s.curve; prev = j }) s

  kept : Holes (length l) (range hole 1 (length l) (record { curve = l; prev = 0 }))
  kept = range_keeps hole Holes 1 (length l) (record { curve = l; prev = 0 }) some (λ j s h H. turn j s h H (voiced frames (first + j))) start

  pub holes_long : length (holes_filled frames first l) ≡ length l
  unfolding holes_filled
  holes_long = kept.long

  pub holes_sized : Sized 6000 (holes_filled frames first l)
  unfolding holes_filled
  holes_sized = kept.all
