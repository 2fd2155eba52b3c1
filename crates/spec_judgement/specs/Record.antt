-- The record of a judgement, kind 49.
use Rattle.std.specs.Prelude.{ℕ, ◌+◌, Bool, cond, Option, is_some, unwrap_or, List, [], ◌∷◌, ◌++◌, Float}
use Rattle.std.specs.Option.{option_map_or}
use Rattle.tonekit_core.specs.declared.layout.TheConstants.{JUDGEMENT_KIND}
use Rattle.tonekit_core.specs.Words.{delta_number, measured_number}
use Rattle.spec_arithmetic.specs.Fields.{le16, f32_bytes, f32s_bytes}
use Rattle.spec_arithmetic.specs.Constants.{zero32}
use Rattle.spec_judgement.specs.declared.Delta.{Delta}
use Rattle.spec_judgement.specs.declared.Deltas.{Deltas}
use Rattle.spec_judgement.specs.declared.Nearest.{Nearest}
use Rattle.spec_judgement.specs.declared.ToneJudgement.{ToneJudgement}

-- a flag: 1 or 0
abbrev pub flag_of : Bool → ℕ
flag_of b = cond b 1 0

-- distance, owner, form, label and part: 0 where there is no best component
abbrev pub no_nearest : Nearest
no_nearest = record { distance = zero32; name = record { owner = 0; form = 0; label = 0 }; part = 0 }

-- distance flag and value, owner, form, label, part
unfoldable pub nearest_bytes : ℕ → Nearest → List ℕ
nearest_bytes flag n = (flag ∷ []) ++ (f32_bytes n.distance ++ ((n.name.owner ∷ n.name.form ∷ []) ++ (le16 n.name.label ++ (n.part ∷ []))))

-- llr, the best component, heard or 0
unfoldable pub score_bytes : ToneJudgement → List ℕ
score_bytes j = f32_bytes j.llr ++ (nearest_bytes (flag_of (is_some j.nearest)) (unwrap_or j.nearest no_nearest) ++ (unwrap_or j.heard 0 ∷ []))

-- a delta: kind and amount, both 0 where there is none
unfoldable pub one_bytes : Option Delta → List ℕ
one_bytes d = (option_map_or (λ d. delta_number d.kind) d 0 ∷ []) ++ f32_bytes (option_map_or (λ d. d.amount) d zero32)

-- delta count, how many there are, and two deltas
unfoldable pub delta_bytes : Deltas → List ℕ
delta_bytes ds = ((flag_of (is_some ds.first) + flag_of (is_some ds.second)) ∷ []) ++ (one_bytes ds.first ++ one_bytes ds.second)

-- the record, 64 bytes: kind, expected, tone count; log-likelihoods, scores, deltas; measured, issues
unfoldable pub judgement_bytes : ℕ → ℕ → ToneJudgement → List ℕ
judgement_bytes expected tones j =
    (JUDGEMENT_KIND ∷ expected ∷ tones ∷ [])
    ++ (f32s_bytes j.loglik ++ (score_bytes j ++ (delta_bytes j.deltas ++ ((measured_number j.measured ∷ []) ++ le16 j.issues))))
