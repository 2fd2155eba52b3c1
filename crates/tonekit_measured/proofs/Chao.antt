-- The curve in Chao values: in a register whose ends are within 9,000 semitones, at least 4 apart as an f32 difference sees it, they are within 60,001.
use Rattle.std.proofs.Common.{ℕ, ◌+◌, ◌≤◌, ◌≡◌, ◌∙◌, Bool, true, false, cond, ◌&&◌, T, List, length, arith, lit≤, Float}
use Rattle.std.proofs.lemmas.List.{length-map}
use Rattle.std.specs.Prelude.{pos}
use lib.Ieee.{fin, binary32, binary64, sub, lt, le, eq, fits, of_bits, of_int}
use lib.Ieee.Scale.{finite}
use Rattle.spec_arithmetic.specs.Bounds.{In}
use Rattle.spec_arithmetic.specs.Constants.{zero64, one64, whole64}
use Rattle.spec_query.specs.Frames.{frame_at}
use Rattle.spec_shape.specs.Chao.{width_of, st_to_chao}
use Rattle.spec_shape.specs.Register.{min_span}
use Rattle.spec_shape.specs.Extract.{list_of, holes_filled, drawn}
use Rattle.tonekit_float.proofs.Fraction.{Within}
use Rattle.tonekit_float.proofs.Exact.{one_f, sub_past}
use Rattle.tonekit_float.proofs.Size.{within_lit, within_add, within_sub, within_mul, within_div, in_within}
use Rattle.tonekit_contour.proofs.Lists.{listed_length}
use Rattle.tonekit_fit.specs.Steps.{semitones_of}
use Rattle.tonekit_fit.proofs.Semitone.{semitones_within}
use Rattle.tonekit_measured.proofs.Sized.{Sized, sized_list, sized_map}
use Rattle.tonekit_measured.proofs.Holes.{holes_long, holes_sized}

-- an end of a register
abbrev pub End : Float → Type 0
End x = In (fin true 9000 (pos 0)) (fin false 9000 (pos 0)) x

end_within : (x : Float) → End x → Within 9000 x
end_within x h = in_within (within_lit 9000 (fin true 9000 (pos 0)) tt) (within_lit 9000 (fin false 9000 (pos 0)) tt) h

-- ---- the width
-- it is finite, and at least 1
record Wide (w : Float) : Type 0 where
  pub real : T (finite w)
  pub least : T (le one_f w)

four : Wide (whole64 4)
unfolding of_int le lt eq
four = record { real = tt; least = tt }

apart : (floor ceil : Float) → T (finite ceil) → T (finite floor) → T (le min_span (sub binary32 ceil floor)) → T (le one_f (sub binary64 ceil floor))
unfolding of_bits fits lt
apart floor ceil C F h = sub_past binary32 binary64 ceil floor one_f min_span C F tt tt tt h

module _ (floor ceil : Float) (low : End floor) (high : End ceil) (span : T (le min_span (sub binary32 ceil floor))) where
  F : Within 9000 floor
  F = end_within floor low

  C : Within 9000 ceil
  C = end_within ceil high

  width_wide : Wide (width_of floor ceil)
  unfolding width_of
  width_wide = go (finite w && lt zero64 w)
    where
      w : Float
      w = sub binary64 ceil floor

      go : (b : Bool) → Wide (cond b w (whole64 4))
      go true = record { real = (within_sub binary64 (lit≤ tt) C F).real; least = apart floor ceil C.real F.real span }
      go false = four

  -- ---- the values
  chao_within : (st : Float) → Within 6000 st → Within 60001 (st_to_chao floor (width_of floor ceil) st)
  unfolding st_to_chao of_bits of_int
  chao_within st s =
      let up = within_mul binary64 (lit≤ tt) (within_lit 4 (whole64 4) tt) (within_sub binary64 (lit≤ tt) s F) in
      within_add binary64 (lit≤ tt) (within_lit 1 one64 tt) (within_div binary64 1 one_f (width_of floor ceil) tt (lit≤ tt) up width_wide.real width_wide.least)

  module _ (frames : List ℕ) (first n : ℕ) (some : 1 ≤ n) (few : n ≤ 1024) where
    abbrev semitone : ℕ → Float
    semitone j = semitones_of (frame_at frames (first + j))

    abbrev st : List Float
    st = list_of semitone n

    st_sized : Sized 2000 st
    st_sized = sized_list 2000 semitone n (λ j. semitones_within frames (first + j))

    st_some : 1 ≤ length st
    st_some = omega (arith, listed_length semitone n, some)

    st_few : length st ≤ 1024
    st_few = omega (arith, listed_length semitone n, few)

    abbrev chao : Float → Float
    chao = st_to_chao floor (width_of floor ceil)

    pub drawn_long : length (drawn frames first n floor ceil) ≡ n
    unfolding drawn
    drawn_long = length-map (holes_filled frames first st) chao ∙ holes_long frames first st st_some st_few st_sized ∙ listed_length semitone n

    pub drawn_sized : Sized 60001 (drawn frames first n floor ceil)
    unfolding drawn
    drawn_sized = sized_map 6000 60001 chao (holes_filled frames first st) chao_within (holes_sized frames first st st_some st_few st_sized)
