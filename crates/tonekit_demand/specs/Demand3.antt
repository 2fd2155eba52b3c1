-- Demand 3, whole, as statements on the definitions that the contracts of the calls cite: `judge` answers and leaves what `answer_in` and
-- `buffer_after` make of `judge_outcome`, `judge_sheet` what they make of `judge_sheet_outcome`, `write_sheet` what they make of `sheet_outcome`.
-- proofs/Demand3.antt proves them.
use Rattle.std.specs.Prelude.{ℕ, ◌≡◌, ◌↔◌, Bool, List, length, get_or}
use Rattle.tonekit_core.specs.Calls.{written, answer_in, buffer_after}
use Rattle.spec_arithmetic.specs.Files.{loaded}
use Rattle.spec_pack.specs.Pack.{PackRead, load_pack}
use Rattle.spec_lookup.specs.Source.{Source, absent_tone, source_of_pack}
use Rattle.spec_sheet.specs.Agree.{Bytes, Agree}
use Rattle.spec_sheet.specs.Outcome.{sheet_outcome}
use Rattle.spec_judgement.specs.Gather.{tail_of}
use Rattle.spec_judgement.specs.Judgement.{judge_outcome}
use Rattle.spec_sheet.specs.JudgeSheet.{judge_sheet_outcome}

-- "a pack or sheet loads if its own bytes call for no refusal"
pub record Loads (p : List ℕ) : Type 0 where
  pub held : PackRead
  pub end : ℕ
  pub loads : load_pack p ≡ loaded held end

-- what the station with the pack holds: settings, tones in order, accents with tolerances, and what each lookup gives
abbrev pub holds : (p : List ℕ) → Loads p → Source
holds p l = source_of_pack p l.held

-- "A pack's sheet is the bytes this section fixes for it": what `write_sheet` writes for it
abbrev pub SheetOf : List ℕ → List ℕ → Type 0
SheetOf p sh = sheet_outcome p ≡ written sh

-- every pack that loads has a sheet, and one
abbrev pub OneSheetEach : Type 0
OneSheetEach = (p : List ℕ) → Bytes p → Loads p → (sh : List ℕ) × SheetOf p sh × ((other : List ℕ) → SheetOf p other → other ≡ sh)

-- `judge` with a pack and `judge_sheet` with its sheet have the same outcome of every query: the same bytes to write, or the same refusal and place
abbrev pub SameOutcome : Type 0
SameOutcome = (p : List ℕ) → Bytes p → Loads p → (sh : List ℕ) → SheetOf p sh → (q : List ℕ) → judge_outcome p q ≡ judge_sheet_outcome sh q

-- equal lengths of what is lent are enough for the same answer
abbrev pub SameAnswer : Type 0
SameAnswer =
    (p : List ℕ) → Bytes p → Loads p → (sh : List ℕ) → SheetOf p sh → (q a b : List ℕ) → length a ≡ length b
    → answer_in (length a) (judge_outcome p q) ≡ answer_in (length b) (judge_sheet_outcome sh q)

-- for every pack that loads, with its sheet; for every list of bytes as a query; for every length of output buffer, and any two buffers of that length that
-- held the same: both calls give the same answer, the same 64 bytes or the same refusal by number and place, and the buffers hold the same after. The
-- station with the pack is lent a, the one with the sheet b
abbrev pub StationsAgree : Type 0
StationsAgree =
    (p : List ℕ) → Bytes p → Loads p → (sh : List ℕ) → SheetOf p sh → (q a b : List ℕ) → a ≡ b
    → (answer_in (length a) (judge_outcome p q) ≡ answer_in (length b) (judge_sheet_outcome sh q))
    × (buffer_after a (judge_outcome p q) ≡ buffer_after b (judge_sheet_outcome sh q))

-- for any two packs that load, the sheets are equal, in length and in every byte, exactly when settings, tones in order with priors, regions and
-- tails, and accents with tolerances agree, and every lookup of a held accent and tone, after a held tone or none, at the end of a phrase or not,
-- gives the same components from both: `Agree`
abbrev pub OneSheetExactly : Type 0
OneSheetExactly =
    (p r : List ℕ) → Bytes p → Bytes r → (l : Loads p) (m : Loads r) (sh sh' : List ℕ) → SheetOf p sh → SheetOf r sh'
    → (sh ≡ sh') ↔ Agree (holds p l) (holds r m)

-- "Two packs that differ in a tail value now have different settings": if some tone has another tail value than the tone at that place of the other
-- pack, at the end of a phrase or elsewhere, if only in a bit, the sheets are not equal
abbrev pub TailsTold : Type 0
TailsTold =
    (p r : List ℕ) → Bytes p → Bytes r → (l : Loads p) (m : Loads r) (sh sh' : List ℕ) → SheetOf p sh → SheetOf r sh' → (i : ℕ) (last : Bool)
    → (tail_of last (get_or (holds p l).tones i absent_tone) ≡ tail_of last (get_or (holds r m).tones i absent_tone) → ⊥)
    → sh ≡ sh' → ⊥
