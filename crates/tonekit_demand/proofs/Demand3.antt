-- Demand 3: `stations_agree` and `one_sheet_exactly` are its two halves, as specs/Demand3.antt states them; `one_sheet_each`, `same_outcomes` and
-- `same_answer` say what they rest on, and `other_tail` says of tails alone what the second half comes to. Assumes nothing.
use Rattle.std.proofs.Common.{ℕ, ◌≡◌, sym, ap, ap₂, ◌∙◌, List, length}
use Rattle.tonekit_core.specs.Calls.{Outcome, written, answer_in, buffer_after}
use Rattle.tonekit_pack.proofs.Single.{loads_alone}
use Rattle.spec_lookup.specs.Source.{Source}
use Rattle.spec_sheet.specs.Sheet.{sheet}
use Rattle.spec_sheet.specs.Agree.{Bytes, Agree}
use Rattle.tonekit_sheet.specs.Sheetable.{Sheetable}
use Rattle.tonekit_sheet_limits.proofs.OfPack.{sheetable_of_pack}
use Rattle.tonekit_sheet_laws.proofs.Round.{round}
use Rattle.tonekit_sheet_laws.proofs.Back.{read_back, settings_back, tones_back, accents_back, lookups_back}
use Rattle.tonekit_sheet_laws.proofs.Exactly.{exactly, tails_told}
use Rattle.spec_sheet.specs.Outcome.{sheet_of, sheet_outcome}
use Rattle.spec_judgement.specs.Judgement.{judgement, on_pack, judge_outcome}
use Rattle.spec_sheet.specs.JudgeSheet.{on_sheet, judge_sheet_outcome}
use Rattle.tonekit_station.proofs.Depends.{judgement_same}
use Rattle.tonekit_demand.specs.Demand3.{Loads, holds, SheetOf, OneSheetEach, SameOutcome, SameAnswer, StationsAgree, OneSheetExactly, TailsTold}

-- what a source's own sheet holds agrees with the source, and so is judged alike
module _ (src : Source) (fit : Sheetable src) where
  back_agrees : Agree src (read_back src)
  back_agrees = record {
    settings = sym (settings_back src fit);
    tones = sym (tones_back src fit);
    accents = λ n. sym (accents_back src fit n);
    lookups = λ c h. sym (lookups_back src fit c h);
  }

  from_sheet : (q : List ℕ) → judge_sheet_outcome (sheet src) q ≡ judgement src q
  unfolding judge_sheet_outcome
  from_sheet q = ap (on_sheet (sheet src) q) (round src fit) ∙ sym (judgement_same src (read_back src) back_agrees q)

module _ (p : List ℕ) (bytes : Bytes p) (l : Loads p) where
  sheetable : Sheetable (holds p l)
  sheetable = sheetable_of_pack p bytes l.held l.end (loads_alone p l.held l.end l.loads).0

  -- every pack that loads has its sheet, and no other
  has_sheet : SheetOf p (sheet (holds p l))
  unfolding sheet_outcome
  has_sheet = ap (sheet_of p) l.loads

  only_sheet : (sh : List ℕ) → SheetOf p sh → sheet (holds p l) ≡ sh
  only_sheet sh w = let e : written (sheet (holds p l)) ≡ written sh = sym has_sheet ∙ w in cc

  same_outcome : (sh : List ℕ) → SheetOf p sh → (q : List ℕ) → judge_outcome p q ≡ judge_sheet_outcome sh q
  unfolding judge_outcome
  same_outcome sh w q =
      ap (on_pack p q) l.loads
      ∙ sym (from_sheet (holds p l) sheetable q)
      ∙ ap (λ (x : List ℕ). judge_sheet_outcome x q) (only_sheet sh w)

pub one_sheet_each : OneSheetEach
one_sheet_each p bytes l = (sheet (holds p l), has_sheet p bytes l, λ other w. sym (only_sheet p bytes l other w))

pub same_outcomes : SameOutcome
same_outcomes p bytes l sh w q = same_outcome p bytes l sh w q

pub same_answer : SameAnswer
same_answer p bytes l sh w q a b e = ap₂ answer_in e (same_outcome p bytes l sh w q)

pub stations_agree : StationsAgree
stations_agree p bytes l sh w q a b same =
    let o = same_outcome p bytes l sh w q in
    (ap₂ (λ (x : List ℕ) (y : Outcome). answer_in (length x) y) same o, ap₂ buffer_after same o)

pub one_sheet_exactly : OneSheetExactly
one_sheet_exactly p r bp br l m sh sh' w w' =
    let x = only_sheet p bp l sh w in
    let y = only_sheet r br m sh' w' in
    let e = exactly (holds p l) (holds r m) (sheetable p bp l) (sheetable r br m) in
    (λ h. e.0 (x ∙ h ∙ sym y), λ h. sym x ∙ e.1 h ∙ y)

pub other_tail : TailsTold
other_tail p r bp br l m sh sh' w w' i last differ h =
    tails_told (holds p l) (holds r m) (sheetable p bp l) (sheetable r br m) i last differ (only_sheet p bp l sh w ∙ h ∙ sym (only_sheet r br m sh' w'))
