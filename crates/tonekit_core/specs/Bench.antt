-- Worked examples, computed: the union of issues, and what an outcome of three bytes, and a refusal, mean for a lent buffer.
use Rattle.std.specs.Prelude.{ℕ, ◌≡◌, refl, List, [], ◌∷◌, Ok, Err}
use Rattle.tonekit_core.specs.declared.Refusal.TheVariants.{ShortBuffer, Loose}
use Rattle.tonekit_core.specs.declared.MeasureIssue.TheVariants.{LowSnr}
use Rattle.tonekit_core.specs.Words.{with_issue}
use Rattle.tonekit_core.specs.Calls.{refused, written, answer_in, buffer_after}

-- "the union": an issue joins those that are there, once
joined : (with_issue 1 LowSnr ≡ 3) × (with_issue 3 LowSnr ≡ 3)
unfolding with_issue
joined = (refl, refl)

abbrev three : List ℕ
three = 1 ∷ 2 ∷ 3 ∷ []

-- room for all but the last byte, and for all
short : answer_in 2 (written three) ≡ Err (record { why = ShortBuffer; place = 3 })
unfolding answer_in
short = refl

exact : answer_in 3 (written three) ≡ Ok 3
unfolding answer_in
exact = refl

elsewhere : answer_in 0 (refused Loose 7) ≡ Err (record { why = Loose; place = 7 })
unfolding answer_in
elsewhere = refl

-- what the buffer holds after these
short_after : buffer_after (9 ∷ 8 ∷ []) (written three) ≡ 9 ∷ 8 ∷ []
unfolding buffer_after
short_after = refl

longer_after : buffer_after (9 ∷ 8 ∷ 7 ∷ 6 ∷ []) (written three) ≡ 1 ∷ 2 ∷ 3 ∷ 6 ∷ []
unfolding buffer_after
longer_after = refl

refused_after : buffer_after (9 ∷ 8 ∷ []) (refused Loose 7) ≡ 9 ∷ 8 ∷ []
unfolding buffer_after
refused_after = refl
