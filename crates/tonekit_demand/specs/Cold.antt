-- Change request 3's promises of whole calls: a query with kind 55 that is judged is always measured, and its record and its shape record have
-- ColdStartRegister among their issues. They ask nothing of pack, sheet or query. proofs/Cold.antt proves them.
use Rattle.std.specs.Prelude.{ℕ, ◌≡◌, true, List, Ok}
use Rattle.tonekit_core.specs.declared.layout.TheConstants.{JUDGEMENT_MEASURED, JUDGEMENT_ISSUES, SHAPE_ISSUES}
use Rattle.tonekit_core.specs.declared.Measured.TheVariants.{Partial}
use Rattle.tonekit_core.specs.declared.MeasureIssue.TheVariants.{ColdStartRegister}
use Rattle.tonekit_core.specs.Words.{has_issue, measured_number}
use Rattle.tonekit_core.specs.Calls.{written}
use Rattle.spec_arithmetic.specs.Fields.{byte_at, u16_at}
use Rattle.spec_query.specs.Query.{load_query}
use Rattle.spec_query.specs.declared.Query.{Query}
use Rattle.spec_shape.specs.Record.{shape_outcome}
use Rattle.spec_judgement.specs.Judgement.{judge_outcome}
use Rattle.spec_sheet.specs.JudgeSheet.{judge_sheet_outcome}

-- a record of a judgement that is measured, partly as an issue is always there
pub record ColdRecord (bs : List ℕ) : Type 0 where
  pub measured : byte_at bs JUDGEMENT_MEASURED ≡ measured_number Partial
  pub issue : has_issue (u16_at bs JUDGEMENT_ISSUES) ColdStartRegister ≡ true

-- what `judge` makes of any pack and a cold query, and `judge_sheet` of any sheet and one, where it is bytes
abbrev pub ColdMeasured : Type 0
ColdMeasured =
    (held s bs : List ℕ) (q : Query) → load_query s ≡ Ok q → q.cold ≡ true
    → (judge_outcome held s ≡ written bs → ColdRecord bs)
    × (judge_sheet_outcome held s ≡ written bs → ColdRecord bs)

-- what `write_shape` makes of a cold query, where it is bytes
abbrev pub ColdShaped : Type 0
ColdShaped = (s bs : List ℕ) (q : Query) → load_query s ≡ Ok q → q.cold ≡ true → shape_outcome s ≡ written bs → has_issue (u16_at bs SHAPE_ISSUES) ColdStartRegister ≡ true
