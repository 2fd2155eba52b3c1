-- A judgement's record by its fields: each flag and number as it is written, whatever it is. And what a judgement makes of them.
use Rattle.std.specs.Prelude.{ℕ, ◌+◌, Option, Some, None, is_some, unwrap_or, List, [], ◌∷◌, ◌++◌, Float}
use Rattle.std.specs.Option.{option_map_or}
use Rattle.tonekit_core.specs.declared.DeltaKind.{DeltaKind}
use Rattle.tonekit_core.specs.declared.layout.TheConstants.{JUDGEMENT_KIND}
use Rattle.tonekit_core.specs.Words.{delta_number, measured_number}
use Rattle.spec_arithmetic.specs.Constants.{zero32}
use Rattle.spec_arithmetic.specs.Fields.{le16, f32_bytes, f32s_bytes}
use Rattle.spec_judgement.specs.declared.Delta.{Delta}
use Rattle.spec_judgement.specs.declared.Deltas.{Deltas}
use Rattle.spec_judgement.specs.declared.ToneJudgement.{ToneJudgement}
use Rattle.spec_judgement.specs.Record.{flag_of, no_nearest, nearest_bytes}
use Rattle.tonekit_record.specs.declared.DeltaFields.{DeltaFields}
use Rattle.tonekit_record.specs.declared.JudgementFields.{JudgementFields}

-- ---- the record's bytes

-- a kind's number, 0 where there is none
abbrev pub kind_number : Option DeltaKind → ℕ
kind_number k = option_map_or delta_number k 0

-- how many of two deltas have a kind
abbrev pub kinds_count : DeltaFields → DeltaFields → ℕ
kinds_count first second = flag_of (is_some first.kind) + flag_of (is_some second.kind)

-- llr, the best component behind its flag, heard
unfoldable pub written_scores : JudgementFields → List ℕ
written_scores j = f32_bytes j.llr ++ (nearest_bytes j.distanced j.nearest ++ (j.heard ∷ []))

-- a delta: kind and amount
unfoldable pub written_delta : DeltaFields → List ℕ
written_delta d = (kind_number d.kind ∷ []) ++ f32_bytes d.amount

-- delta count, two deltas
unfoldable pub written_deltas : DeltaFields → DeltaFields → List ℕ
written_deltas first second = (kinds_count first second ∷ []) ++ (written_delta first ++ written_delta second)

-- the record, 64 bytes: kind, expected, tone count; log-likelihoods, scores, deltas; measured, issues
unfoldable pub fields_bytes : ℕ → ℕ → JudgementFields → List ℕ
fields_bytes expected tones j =
    (JUDGEMENT_KIND ∷ expected ∷ tones ∷ [])
    ++ (f32s_bytes j.loglik ++ (written_scores j ++ (written_deltas j.first j.second ++ ((j.measured ∷ []) ++ le16 j.issues))))

-- ---- a judgement's fields

-- a delta's kind and its amount, both 0 where there is none
abbrev pub kind_of : Option Delta → ℕ
kind_of d = option_map_or (λ d. delta_number d.kind) d 0

abbrev pub amount_of : Option Delta → Float
amount_of d = option_map_or (λ d. d.amount) d zero32

-- how many there are
abbrev pub delta_count : Deltas → ℕ
delta_count ds = flag_of (is_some ds.first) + flag_of (is_some ds.second)

-- a delta's fields
abbrev pub delta_fields : Option Delta → DeltaFields
delta_fields d = record { kind = option_map_or (λ d. Some d.kind) d None; amount = amount_of d }

-- each flag 1 or 0, zeros where there is nothing, and the numbers of heard and measured
abbrev pub fields_of : ToneJudgement → JudgementFields
fields_of j = record {
  loglik = j.loglik;
  llr = j.llr;
  distanced = flag_of (is_some j.nearest);
  nearest = unwrap_or j.nearest no_nearest;
  heard = unwrap_or j.heard 0;
  first = delta_fields j.deltas.first;
  second = delta_fields j.deltas.second;
  measured = measured_number j.measured;
  issues = j.issues;
}
