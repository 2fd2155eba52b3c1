-- The numbers that document 01 gives its words: refusals ("Turned back"), issue bits ("Query"), deltas and measured ("Judgement").
use Rattle.std.specs.Prelude.{ℕ, ◌+◌, ◌/◌, ◌%◌, Bool, cond, eqb}
use Rattle.tonekit_core.specs.declared.Refusal.{Refusal}
use Rattle.tonekit_core.specs.declared.Refusal.TheVariants.{Misplaced, CutShort, Overrun, Crowded, OffScale, Doubled, Loose, Unordered, ShortBuffer, BadQuery, Unvoiced, UnknownAccent, UnknownTone, NoRealisation, BadVariant, EndlessChain}
use Rattle.tonekit_core.specs.declared.MeasureIssue.{MeasureIssue}
use Rattle.tonekit_core.specs.declared.MeasureIssue.TheVariants as issue
use Rattle.tonekit_core.specs.declared.DeltaKind.{DeltaKind}
use Rattle.tonekit_core.specs.declared.DeltaKind.TheVariants.{StartHigher, StartLower, EndHigher, EndLower, TurnEarlier, TurnLater, WiderRange, NarrowerRange}
use Rattle.tonekit_core.specs.declared.Measured.{Measured}
use Rattle.tonekit_core.specs.declared.Measured.TheVariants.{Full, Partial, NotMeasured}

-- the table's numbers
abbrev pub refusal_number : Refusal → ℕ
refusal_number Misplaced = 1
refusal_number CutShort = 2
refusal_number Overrun = 3
refusal_number Crowded = 4
refusal_number OffScale = 5
refusal_number Doubled = 6
refusal_number Loose = 7
refusal_number Unordered = 8
refusal_number ShortBuffer = 9
refusal_number BadQuery = 10
refusal_number Unvoiced = 11
refusal_number UnknownAccent = 12
refusal_number UnknownTone = 13
refusal_number NoRealisation = 14
refusal_number BadVariant = 15
refusal_number EndlessChain = 20

-- "Issue bits follow `MeasureIssue` from bit 0"
abbrev pub issue_bit : MeasureIssue → ℕ
issue_bit issue.Unvoiced = 1
issue_bit issue.LowSnr = 2
issue_bit issue.Clipped = 4
issue_bit issue.TooShort = 8
issue_bit issue.ColdStartRegister = 16
issue_bit issue.InvalidRegister = 32
issue_bit issue.InvalidEvidence = 64
issue_bit issue.NoNucleus = 128
issue_bit issue.Unpitched = 256
issue_bit issue.CreakyTail = 512

abbrev pub has_issue : ℕ → MeasureIssue → Bool
has_issue issues i = eqb (issues / issue_bit i % 2) 1

-- the union with one issue
unfoldable pub with_issue : ℕ → MeasureIssue → ℕ
with_issue issues i = cond (has_issue issues i) issues (issues + issue_bit i)

-- "kind u8 from 1 in `DeltaKind` order"
abbrev pub delta_number : DeltaKind → ℕ
delta_number StartHigher = 1
delta_number StartLower = 2
delta_number EndHigher = 3
delta_number EndLower = 4
delta_number TurnEarlier = 5
delta_number TurnLater = 6
delta_number WiderRange = 7
delta_number NarrowerRange = 8

-- "measured u8 (0 full, 1 partial, 2 not)"
abbrev pub measured_number : Measured → ℕ
measured_number Full = 0
measured_number Partial = 1
measured_number NotMeasured = 2
