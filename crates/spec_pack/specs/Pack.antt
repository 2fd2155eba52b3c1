-- Document 01's section Pack: which bytes are a pack, and the refusal and place of those that are not. A record is held by its offset.
use Rattle.std.specs.Prelude.{ℕ, zero, suc, ◌+◌, ◌-◌, Bool, true, false, cond, not, ◌&&◌, ◌||◌, List, [], ◌∷◌, ◌++◌, eqb, leb, ltb, length, get_or, Option, Some, None, Result, Ok, Err}
use Rattle.tonekit_core.specs.declared.layout.TheConstants.{SETTINGS_KIND, SETTINGS_SIZE, SETTINGS_TEMPERATURE, SETTINGS_THRESHOLD}
use Rattle.tonekit_core.specs.declared.layout.TheConstants.{TONE_KIND, TONE_SIZE, TONE_PRIOR, TONE_KNOT_COUNT, TONE_KNOTS, TONE_REGION, TAIL_KIND, TAIL_SIZE}
use Rattle.tonekit_core.specs.declared.layout.TheConstants.{ACCENT_KIND, ACCENT_SIZE, ACCENT_PARENT, ACCENT_CONTOUR}
use Rattle.tonekit_core.specs.declared.layout.TheConstants.{RULE_KIND, RULE_SIZE, RULE_TONE, RULE_PREV, RULE_FINAL, RULE_FORM}
use Rattle.tonekit_core.specs.declared.layout.TheConstants.{PART_KIND, PART_SIZE, PART_WEIGHT, PART_KNOT_COUNT, PART_KNOTS, END_KIND, END_SIZE}
use Rattle.tonekit_core.specs.declared.Refusal.{Refusal}
use Rattle.tonekit_core.specs.declared.Refusal.TheVariants.{Crowded, OffScale, Doubled, Loose, EndlessChain}
use Rattle.tonekit_core.specs.declared.Rejection.{Rejection}
use Rattle.spec_arithmetic.specs.Fields.{byte_at, u32_at, f32_at}
use Rattle.spec_arithmetic.specs.Places.{number_at, index_of}
use Rattle.spec_arithmetic.specs.Files.{judged, Out, loaded, refused, Reader, read, single_file, said}
use Rattle.spec_pack.specs.Ranges.{above_zero, probability_fine, weight_fine, knots_fine, region_fine, tails_fine, tolerances_fine}

-- what has been read: the last kind; the offsets of tones, accents and rules, in order; for each accent how many rules stood before it;
-- the parts of the last rule, and all parts
pub record PackRead : Type 0 where
  pub last : ℕ
  pub tones : List ℕ
  pub accents : List ℕ
  pub firsts : List ℕ
  pub rules : List ℕ
  pub parts : ℕ
  pub total : ℕ

-- "Order: Settings, Tones, then each Accent with its Rules, each Rule with its Parts, End": 1 to 8 tones, 1 to 8 accents, 1 to 4 parts a rule.
-- "Kind 7 may follow a Tone", once
unfoldable pub due_after : ℕ → ℕ → Bool
due_after last k =
    cond (eqb k SETTINGS_KIND) (eqb last 0)
    (cond (eqb k TONE_KIND) (eqb last SETTINGS_KIND || (eqb last TONE_KIND || eqb last TAIL_KIND))
    (cond (eqb k TAIL_KIND) (eqb last TONE_KIND)
    (cond (eqb k ACCENT_KIND) (eqb last TONE_KIND || (eqb last TAIL_KIND || (eqb last ACCENT_KIND || eqb last PART_KIND)))
    (cond (eqb k RULE_KIND) (eqb last ACCENT_KIND || eqb last PART_KIND)
    (cond (eqb k PART_KIND) (eqb last RULE_KIND || eqb last PART_KIND)
    (eqb k END_KIND && (eqb last ACCENT_KIND || eqb last PART_KIND)))))))

-- the bytes of a record of each kind
unfoldable pub size_of : ℕ → ℕ
size_of k =
    cond (eqb k SETTINGS_KIND) SETTINGS_SIZE
    (cond (eqb k TONE_KIND) TONE_SIZE
    (cond (eqb k TAIL_KIND) TAIL_SIZE
    (cond (eqb k ACCENT_KIND) ACCENT_SIZE
    (cond (eqb k RULE_KIND) RULE_SIZE
    (cond (eqb k PART_KIND) PART_SIZE END_SIZE)))))

-- "A tone is held if a tone record of the pack gives its number as its own, an accent if an accent record does": number n among the records at these offsets
unfoldable pub holds : List ℕ → List ℕ → ℕ → Bool
holds s [] n = false
holds s (o ∷ os) n = eqb (number_at s o) n || holds s os n

-- "Zero means no parent, any tone, any prev": 0, or the number of one of these records
unfoldable pub zero_or_held : List ℕ → List ℕ → ℕ → Bool
zero_or_held s os n = eqb n 0 || holds s os n

-- the verdict of one test after another: crowded, off scale, doubled, loose
abbrev pub in_turn : Bool → Bool → Bool → Bool → Result Unit Refusal
in_turn crowded fine new held =
    cond crowded (Err Crowded)
    (cond (not fine) (Err OffScale)
    (cond (not new) (Err Doubled)
    (cond (not held) (Err Loose) (Ok tt))))

unfoldable pub settings_verdict : List ℕ → ℕ → Result Unit Refusal
settings_verdict s o = in_turn false (above_zero (f32_at s (o + SETTINGS_TEMPERATURE)) && probability_fine (f32_at s (o + SETTINGS_THRESHOLD))) true true

-- number, prior, knot count, ten slots, region
abbrev pub tone_fine : List ℕ → ℕ → Bool
tone_fine s o =
    not (eqb (number_at s o) 0)
    && (probability_fine (f32_at s (o + TONE_PRIOR)) && (knots_fine s (o + TONE_KNOTS) (byte_at s (o + TONE_KNOT_COUNT)) && region_fine s (o + TONE_REGION)))

unfoldable pub tone_verdict : List ℕ → ℕ → PackRead → Result Unit Refusal
tone_verdict s o st =
    in_turn (leb 8 (length st.tones) || ltb 10 (byte_at s (o + TONE_KNOT_COUNT))) (tone_fine s o) (not (holds s st.tones (number_at s o))) true

-- the two values of a tail
unfoldable pub tail_verdict : List ℕ → ℕ → Result Unit Refusal
tail_verdict s o = in_turn false (tails_fine s o) true true

-- number, tolerances: they stand elsewhere in a sheet
abbrev pub accent_fine : ℕ → List ℕ → ℕ → Bool
accent_fine contour s o = not (eqb (number_at s o) 0) && tolerances_fine s (o + contour)

unfoldable pub accent_verdict : List ℕ → ℕ → PackRead → Result Unit Refusal
accent_verdict s o st = in_turn (leb 8 (length st.accents)) (accent_fine ACCENT_CONTOUR s o) (not (holds s st.accents (number_at s o))) true

-- label, tone, prev, final ("0 any, 1 no, 2 yes"), form ("2 is single, 3 mixture")
abbrev pub rule_fine : List ℕ → ℕ → Bool
rule_fine s o = leb (byte_at s (o + RULE_FINAL)) 2 && (eqb (byte_at s (o + RULE_FORM)) 2 || eqb (byte_at s (o + RULE_FORM)) 3)

abbrev pub rule_held : List ℕ → ℕ → PackRead → Bool
rule_held s o st = zero_or_held s st.tones (byte_at s (o + RULE_TONE)) && zero_or_held s st.tones (byte_at s (o + RULE_PREV))

unfoldable pub rule_verdict : List ℕ → ℕ → PackRead → Result Unit Refusal
rule_verdict s o st = in_turn (leb 64 (length st.rules)) (rule_fine s o) true (rule_held s o st)

-- "Form 2 is single": that of the last rule
abbrev pub single : List ℕ → PackRead → Bool
single s st = eqb (byte_at s (get_or st.rules (length st.rules - 1) 0 + RULE_FORM)) 2

-- weight, knot count, ten slots. Of a single rule "its part's weight is 1, else 5; a second part is 4"
abbrev pub part_fine : Bool → List ℕ → ℕ → Bool
part_fine one s o =
    weight_fine (u32_at s (o + PART_WEIGHT))
    && ((not one || eqb (u32_at s (o + PART_WEIGHT)) 0x3f80_0000)
    && (not (eqb (byte_at s (o + PART_KNOT_COUNT)) 0) && knots_fine s (o + PART_KNOTS) (byte_at s (o + PART_KNOT_COUNT))))

unfoldable pub part_verdict : List ℕ → ℕ → PackRead → Result Unit Refusal
part_verdict s o st =
    in_turn (leb 4 st.parts || (leb 128 st.total || ((single s st && leb 1 st.parts) || ltb 10 (byte_at s (o + PART_KNOT_COUNT)))))
    (part_fine (single s st) s o) true true

unfoldable pub body_verdict : ℕ → List ℕ → ℕ → PackRead → Result Unit Refusal
body_verdict k s o st =
    cond (eqb k SETTINGS_KIND) (settings_verdict s o)
    (cond (eqb k TONE_KIND) (tone_verdict s o st)
    (cond (eqb k TAIL_KIND) (tail_verdict s o)
    (cond (eqb k ACCENT_KIND) (accent_verdict s o st)
    (cond (eqb k RULE_KIND) (rule_verdict s o st)
    (cond (eqb k PART_KIND) (part_verdict s o st) (Ok tt))))))

unfoldable pub record_verdict : List ℕ → ℕ → PackRead → Result Unit Refusal
record_verdict s o st = judged (due_after st.last) size_of (λ k. body_verdict k s o st) s o

-- what has been read once the record of kind k at o is fine
unfoldable pub added : ℕ → ℕ → PackRead → PackRead
added k o st =
    cond (eqb k TONE_KIND) (record st { last = k; tones = st.tones ++ (o ∷ []) })
    (cond (eqb k ACCENT_KIND) (record st { last = k; accents = st.accents ++ (o ∷ []); firsts = st.firsts ++ (length st.rules ∷ []) })
    (cond (eqb k RULE_KIND) (record st { last = k; rules = st.rules ++ (o ∷ []); parts = 0 })
    (cond (eqb k PART_KIND) (record st { last = k; parts = st.parts + 1; total = st.total + 1 }) (record st { last = k }))))

-- "A parent may now be any accent of the file": each of the accents at these offsets names 0, or the number of an accent of the file
unfoldable pub parents_held : List ℕ → List ℕ → List ℕ → Bool
parents_held s accents [] = true
parents_held s accents (o ∷ os) = zero_or_held s accents (byte_at s (o + ACCENT_PARENT)) && parents_held s accents os

-- the place of accent i's parent, or none
abbrev pub parent_of : List ℕ → PackRead → ℕ → Option ℕ
parent_of s st i = index_of s st.accents (byte_at s (get_or st.accents i 0 + ACCENT_PARENT))

-- "Every chain must reach an accent with no parent": a walk of at most n accents, from accent i up its parents, reaches one
abbrev pub or_ends : (ℕ → Bool) → Option ℕ → Bool
or_ends on None = true
or_ends on (Some j) = on j

unfoldable pub chain_ends : List ℕ → PackRead → ℕ → ℕ → Bool
chain_ends s st zero i = false
chain_ends s st (suc n) i = or_ends (chain_ends s st n) (parent_of s st i)

-- the chains of k accents, from accent i on, each within as many steps as there are accents
unfoldable pub chains_end : List ℕ → PackRead → ℕ → ℕ → Bool
chains_end s st zero i = true
chains_end s st (suc k) i = chain_ends s st (length st.accents) i && chains_end s st k (i + 1)

-- "The parent part of 7 moves to End", "20 when some chain never ends, checked at End after 7"
unfoldable pub end_verdict : List ℕ → PackRead → Result Unit Refusal
end_verdict s st =
    cond (not (parents_held s st.accents st.accents)) (Err Loose)
    (cond (not (chains_end s st (length st.accents) 0)) (Err EndlessChain) (Ok tt))

-- "both with End's offset as place": the End at o is all there is to a pack's end, one byte
abbrev pub ended : ℕ → PackRead → Result Unit Refusal → Out PackRead
ended o st (Err r) = refused r o
ended o st (Ok u) = loaded st (o + END_SIZE)

-- "each Rule with its Parts": the parts that stand from an offset on, at most n
unfoldable pub parts_from : ℕ → List ℕ → ℕ → ℕ
parts_from zero s o = 0
parts_from (suc n) s o = cond (eqb (byte_at s o) PART_KIND) (suc (parts_from n s (o + PART_SIZE))) 0

-- how a pack is read
abbrev pub pack_reader : Reader PackRead
pack_reader = record {
  start = record { at = 0; st = record { last = 0; tones = []; accents = []; firsts = []; rules = []; parts = 0; total = 0 } };
  verdict = record_verdict;
  size = size_of;
  added = λ s o st. added (byte_at s o) o st;
  end = END_KIND;
  finish = λ s o st. ended o st (end_verdict s st);
}

-- a pack at the front of a longer input; a single pack; and a check of the pack alone
unfoldable pub read_pack : List ℕ → Out PackRead
read_pack s = read pack_reader s

unfoldable pub load_pack : List ℕ → Out PackRead
load_pack s = single_file s (read_pack s)

unfoldable pub check_pack : List ℕ → Result Unit Rejection
check_pack s = said (load_pack s)
