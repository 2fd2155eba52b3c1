-- Worked examples, computed: the records of a small pack, the tally after each, and verdicts that turn on a tally.
use Rattle.std.specs.Prelude.{ℕ, ◌≡◌, refl, List, [], ◌∷◌, ◌++◌, replicate, Result, Ok, Err}
use Rattle.std.proofs.Common.{arith}
use Rattle.std.specs.Float.Ieee.{lt, le, of_bits}
use Rattle.tonekit_core.specs.Loop.{range, turns, range_to, turns_to, loop_to, loop_on}
use Rattle.tonekit_core.specs.declared.Refusal.TheVariants.{Misplaced, Crowded, OffScale, Doubled, Loose, EndlessChain}
use Rattle.tonekit_core.specs.declared.Refusal.{Refusal}
use Rattle.spec_pack.specs.Ranges.{above_zero, probability_fine, knot_fine, weight_fine, slot_fine, knots_fine, region_fine, tail_fine, tails_fine, tolerances_fine}
use Rattle.spec_arithmetic.specs.Files.{loaded, refused}
use Rattle.spec_arithmetic.specs.Places.{index_of}
use Rattle.spec_pack.specs.Pack.{PackRead, due_after, size_of, holds, zero_or_held, settings_verdict, tone_verdict, tail_verdict, accent_verdict, rule_verdict, part_verdict, body_verdict, record_verdict, added, parents_held, chain_ends, chains_end, end_verdict, read_pack, pack_reader}
use Rattle.tonekit_records.specs.Records.{Tally, no_tally, among, zero_or_among, body_verdict_of, record_verdict_of, tallied, ReadsOn, none, more, records_bytes, added_all}

-- ---- the records of a small pack
-- temperature 0.5, threshold 0.75
abbrev pub settings : List ℕ
settings = 1 ∷ 0 ∷ 0 ∷ 0 ∷ 63 ∷ 0 ∷ 0 ∷ 64 ∷ 63 ∷ []

-- number 4, prior 0.25, knots 3 and 1, a region from 0.25 to 0.5
abbrev pub tone : List ℕ
tone = 2 ∷ 4 ∷ 0 ∷ 0 ∷ 128 ∷ 62 ∷ 2 ∷ 0 ∷ 0 ∷ 64 ∷ 64 ∷ 0 ∷ 0 ∷ 128 ∷ 63 ∷ (replicate 32 0 ++ (1 ∷ 0 ∷ 0 ∷ 128 ∷ 62 ∷ 0 ∷ 0 ∷ 0 ∷ 63 ∷ []))

-- the tail of a tone: -1 at phrase end, 0.5 elsewhere
abbrev pub tail : List ℕ
tail = 7 ∷ 0 ∷ 0 ∷ 128 ∷ 191 ∷ 0 ∷ 0 ∷ 0 ∷ 63 ∷ []

-- number 5, prior 0.25; for contexts only, and no region
abbrev pub context_tone : List ℕ
context_tone = 2 ∷ 5 ∷ 0 ∷ 0 ∷ 128 ∷ 62 ∷ replicate 50 0

-- a number and a parent; tolerances 1, 2, 3 and 4
abbrev pub accent : ℕ → ℕ → List ℕ
accent number parent = 3 ∷ number ∷ parent ∷ 0 ∷ 0 ∷ 128 ∷ 63 ∷ 0 ∷ 0 ∷ 0 ∷ 64 ∷ 0 ∷ 0 ∷ 64 ∷ 64 ∷ 0 ∷ 0 ∷ 128 ∷ 64 ∷ []

-- label 513; tone 4 after any, at the end of a phrase; a mixture
abbrev pub rule : List ℕ
rule = 4 ∷ 1 ∷ 2 ∷ 4 ∷ 0 ∷ 2 ∷ 3 ∷ []

-- weight 0.25 and knot 2, weight 0.75 and knot 4
abbrev pub part : List ℕ
part = 5 ∷ 0 ∷ 0 ∷ 128 ∷ 62 ∷ 1 ∷ 0 ∷ 0 ∷ 0 ∷ 64 ∷ replicate 36 0

abbrev pub second_part : List ℕ
second_part = 5 ∷ 0 ∷ 0 ∷ 64 ∷ 63 ∷ 1 ∷ 0 ∷ 0 ∷ 128 ∷ 64 ∷ replicate 36 0

abbrev pub records : List (List ℕ)
records = settings ∷ tone ∷ accent 7 0 ∷ rule ∷ part ∷ second_part ∷ []

-- ---- the tally after each
after_settings : tallied settings no_tally ≡ record { last = 1; tones = []; accents = []; rules = 0; form = 0; parts = 0; total = 0 }
unfolding tallied
after_settings = refl

abbrev with_tone : Tally
with_tone = record { last = 2; tones = 4 ∷ []; accents = []; rules = 0; form = 0; parts = 0; total = 0 }

after_tone : tallied tone (tallied settings no_tally) ≡ with_tone
unfolding tallied
after_tone = refl

abbrev pub with_accent : Tally
with_accent = record { last = 3; tones = 4 ∷ []; accents = 7 ∷ []; rules = 0; form = 0; parts = 0; total = 0 }

after_accent : tallied (accent 7 0) with_tone ≡ with_accent
unfolding tallied
after_accent = refl

abbrev with_rule : Tally
with_rule = record { last = 4; tones = 4 ∷ []; accents = 7 ∷ []; rules = 1; form = 3; parts = 0; total = 0 }

after_rule : tallied rule with_accent ≡ with_rule
unfolding tallied
after_rule = refl

abbrev with_part : Tally
with_part = record { last = 5; tones = 4 ∷ []; accents = 7 ∷ []; rules = 1; form = 3; parts = 1; total = 1 }

after_part : tallied part with_rule ≡ with_part
unfolding tallied
after_part = refl

abbrev pub whole : Tally
whole = record { last = 5; tones = 4 ∷ []; accents = 7 ∷ []; rules = 1; form = 3; parts = 2; total = 2 }

after_second_part : tallied second_part with_part ≡ whole
unfolding tallied
after_second_part = refl

-- a second rule: its parts are counted anew, all parts go on
after_second_rule : tallied (4 ∷ 1 ∷ 2 ∷ 4 ∷ 0 ∷ 2 ∷ 2 ∷ []) whole ≡ record { last = 4; tones = 4 ∷ []; accents = 7 ∷ []; rules = 2; form = 2; parts = 0; total = 2 }
unfolding tallied
after_second_rule = refl

-- each is fine after those before it
pub reads : ReadsOn no_tally records whole
unfolding record_verdict_of body_verdict_of tallied among zero_or_among due_after size_of settings_verdict tail_verdict above_zero probability_fine knot_fine weight_fine slot_fine knots_fine region_fine tail_fine tails_fine tolerances_fine range turns lt le of_bits
reads =
    more {r = settings} refl (λ e. omega arith) refl
    (more {r = tone} refl (λ e. omega arith) refl
    (more {r = accent 7 0} refl (λ e. omega arith) refl
    (more {r = rule} refl (λ e. omega arith) refl
    (more {r = part} refl (λ e. omega arith) refl
    (more {r = second_part} refl (λ e. omega arith) refl none)))))

-- where they stand, which is what the reader keeps of their bytes
abbrev kept : PackRead
kept = record { last = 5; tones = 9 ∷ []; accents = 65 ∷ []; firsts = 0 ∷ []; rules = 84 ∷ []; parts = 2; total = 2 }

offsets : added_all pack_reader.start.st 0 records ≡ kept
unfolding added_all added
offsets = refl

pack : read_pack (records_bytes records ++ (6 ∷ [])) ≡ loaded kept 184
unfolding records_bytes read_pack record_verdict due_after size_of body_verdict settings_verdict tone_verdict tail_verdict accent_verdict rule_verdict part_verdict holds zero_or_held added parents_held chain_ends chains_end end_verdict index_of range_to turns_to above_zero probability_fine knot_fine weight_fine slot_fine knots_fine region_fine tail_fine tails_fine tolerances_fine range turns loop_to loop_on lt le of_bits
pack = refl

-- with another parent its records read as well, but the tests at End do not pass
ending : (read_pack (records_bytes (settings ∷ tone ∷ accent 7 9 ∷ rule ∷ part ∷ second_part ∷ []) ++ (6 ∷ [])) ≡ refused Loose 183)
    × (read_pack (records_bytes (settings ∷ tone ∷ accent 7 7 ∷ rule ∷ part ∷ second_part ∷ []) ++ (6 ∷ [])) ≡ refused EndlessChain 183)
unfolding records_bytes read_pack record_verdict due_after size_of body_verdict settings_verdict tone_verdict tail_verdict accent_verdict rule_verdict part_verdict holds zero_or_held added parents_held chain_ends chains_end end_verdict index_of range_to turns_to above_zero probability_fine knot_fine weight_fine slot_fine knots_fine region_fine tail_fine tails_fine tolerances_fine range turns loop_to loop_on lt le of_bits
ending = (refl, refl)

-- ---- a pack whose first tone has a tail
abbrev pub tailed : List (List ℕ)
tailed = settings ∷ tone ∷ tail ∷ context_tone ∷ accent 7 0 ∷ []

-- a tail leaves its kind alone
abbrev with_tail : Tally
with_tail = record { last = 7; tones = 4 ∷ []; accents = []; rules = 0; form = 0; parts = 0; total = 0 }

after_tail : tallied tail with_tone ≡ with_tail
unfolding tallied
after_tail = refl

tailed_reads : ReadsOn no_tally tailed (record { last = 3; tones = 4 ∷ 5 ∷ []; accents = 7 ∷ []; rules = 0; form = 0; parts = 0; total = 0 })
unfolding record_verdict_of body_verdict_of tallied among zero_or_among due_after size_of settings_verdict tail_verdict above_zero probability_fine knot_fine weight_fine slot_fine knots_fine region_fine tail_fine tails_fine tolerances_fine range turns lt le of_bits
tailed_reads =
    more {r = settings} refl (λ e. omega arith) refl
    (more {r = tone} refl (λ e. omega arith) refl
    (more {r = tail} refl (λ e. omega arith) refl
    (more {r = context_tone} refl (λ e. omega arith) refl
    (more {r = accent 7 0} refl (λ e. omega arith) refl none))))

-- the tones' records stand where they stand, the tail between them
abbrev pub tailed_kept : PackRead
tailed_kept = record { last = 3; tones = 9 ∷ 74 ∷ []; accents = 130 ∷ []; firsts = 0 ∷ []; rules = []; parts = 0; total = 0 }

tailed_offsets : added_all pack_reader.start.st 0 tailed ≡ tailed_kept
unfolding added_all added
tailed_offsets = refl

tailed_pack : read_pack (records_bytes tailed ++ (6 ∷ [])) ≡ loaded tailed_kept 150
unfolding records_bytes read_pack record_verdict due_after size_of body_verdict settings_verdict tone_verdict tail_verdict accent_verdict rule_verdict part_verdict holds zero_or_held added parents_held chain_ends chains_end end_verdict index_of range_to turns_to above_zero probability_fine knot_fine weight_fine slot_fine knots_fine region_fine tail_fine tails_fine tolerances_fine range turns loop_to loop_on lt le of_bits
tailed_pack = refl

-- ---- verdicts that turn on the tally
-- what a record is after a tally; opened, it computes
unfoldable after : Tally → List ℕ → Result Unit Refusal
unfolding record_verdict_of body_verdict_of among zero_or_among due_after settings_verdict tail_verdict above_zero probability_fine knot_fine weight_fine slot_fine knots_fine region_fine tail_fine tails_fine tolerances_fine range turns lt le of_bits
after t r = record_verdict_of r t

-- a tone after an accent
late_tone : after with_accent tone ≡ Err Misplaced
unfolding after
late_tone = refl

-- a tail straight after a tone
its_tail : after with_tone tail ≡ Ok tt
unfolding after
its_tail = refl

-- and after a tail, after an accent, before all tones
tail_elsewhere : (after with_tail tail ≡ Err Misplaced) × (after with_accent tail ≡ Err Misplaced) × (after (tallied settings no_tally) tail ≡ Err Misplaced)
unfolding after tallied
tail_elsewhere = (refl, refl, refl)

-- after a tail: a tone, or an accent
behind_tail : (after with_tail context_tone ≡ Ok tt) × (after with_tail (accent 7 0) ≡ Ok tt)
unfolding after
behind_tail = (refl, refl)

-- values of size 50, and the f32 beyond them; -0
wide_tail : (after with_tone (7 ∷ 0 ∷ 0 ∷ 72 ∷ 66 ∷ 0 ∷ 0 ∷ 72 ∷ 194 ∷ []) ≡ Ok tt)
    × (after with_tone (7 ∷ 1 ∷ 0 ∷ 72 ∷ 66 ∷ 0 ∷ 0 ∷ 0 ∷ 0 ∷ []) ≡ Err OffScale)
    × (after with_tone (7 ∷ 0 ∷ 0 ∷ 0 ∷ 0 ∷ 1 ∷ 0 ∷ 72 ∷ 194 ∷ []) ≡ Err OffScale)
    × (after with_tone (7 ∷ 0 ∷ 0 ∷ 0 ∷ 128 ∷ 0 ∷ 0 ∷ 0 ∷ 128 ∷ []) ≡ Ok tt)
unfolding after
wide_tail = (refl, refl, refl, refl)

-- an accent whose parent stands before it, and one whose parent does not
child : after whole (accent 8 7) ≡ Ok tt
unfolding after
child = refl

later_parent : after whole (accent 8 9) ≡ Ok tt
unfolding after
later_parent = refl

-- a rule for a tone that does not stand before it
no_tone : after with_accent (4 ∷ 1 ∷ 2 ∷ 9 ∷ 0 ∷ 2 ∷ 3 ∷ []) ≡ Err Loose
unfolding after
no_tone = refl

-- an accent's number again
again : after whole (accent 7 0) ≡ Err Doubled
unfolding after
again = refl

-- an eighth accent, and a ninth
abbrev seven : List ℕ
seven = 7 ∷ 1 ∷ 2 ∷ 3 ∷ 4 ∷ 5 ∷ 6 ∷ []

abbrev accents : List ℕ → Tally
accents numbers = record { last = 3; tones = 4 ∷ []; accents = numbers; rules = 0; form = 0; parts = 0; total = 0 }

eighth : after (accents seven) (accent 9 0) ≡ Ok tt
unfolding after
eighth = refl

ninth : after (accents (8 ∷ seven)) (accent 9 0) ≡ Err Crowded
unfolding after
ninth = refl

-- of a single rule: a part whose weight is not 1, and a second part
abbrev single : ℕ → ℕ → Tally
single last parts = record { last = last; tones = 4 ∷ []; accents = 7 ∷ []; rules = 1; form = 2; parts = parts; total = parts }

light : after (single 4 0) part ≡ Err OffScale
unfolding after
light = refl

second : after (single 5 1) part ≡ Err Crowded
unfolding after
second = refl
