-- What `judge_parts` writes has room in what the programs lend: 64 bytes. Assumes nothing.
use Rattle.std.proofs.Common.{ℕ, ◌≤◌, ◌≡◌, List, length, subst, arith}
use Rattle.std.specs.Prelude.{Result}
use Rattle.tonekit_core.specs.declared.layout.TheConstants.{JUDGEMENT_SIZE}
use Rattle.tonekit_core.specs.declared.Rejection.{Rejection}
use Rattle.tonekit_core.specs.Calls.{Outcome}
use Rattle.tonekit_report.specs.Report.{Told}
use Rattle.tonekit_report.proofs.Told.{HasRoom}
use Rattle.spec_lookup.specs.Source.{Source}
use Rattle.tonekit_judge.proofs.Bounds.{judgement_length}
use Rattle.tonekit_station.specs.Held.{on_held}
use Rattle.tonekit_station.proofs.Written.{Records, held_writes}

abbrev Room : List ℕ → Type 0
Room bs = length bs ≤ JUDGEMENT_SIZE

records : Records Room
records x settings t l g issues expected tones = omega (arith, judgement_length x settings t l g issues expected tones)

pub judgement_fits : (r : Result Source Rejection) (s : List ℕ) → HasRoom JUDGEMENT_SIZE (on_held r s)
judgement_fits r s = held_writes Room records r s

-- of the same outcome the same is told
pub told_same : (held out : List ℕ) (n : ℕ) (o p : Outcome) → o ≡ p → Told o held n out → Told p held n out
told_same held out n o p e t = subst (λ (x : Outcome). Told x held n out) e t
