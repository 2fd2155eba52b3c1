-- Worked examples, computed: the record of a refusal, with every field; and what is told of an answer and of a refusal.
use Rattle.std.specs.Prelude.{ℕ, ◌≡◌, refl, List, [], ◌∷◌, length}
use Rattle.tonekit_core.specs.Calls.{written, refused}
use Rattle.tonekit_core.specs.declared.layout.TheConstants.{REFUSAL_SIZE}
use Rattle.tonekit_core.specs.declared.Refusal.TheVariants.{CutShort, Unordered, EndlessChain}
use Rattle.tonekit_report.specs.Report.{refusal_bytes, Told}

abbrev record52 : List ℕ
record52 = 52 ∷ 8 ∷ 2 ∷ 3 ∷ 4 ∷ 5 ∷ []

fields52 : (refusal_bytes Unordered 0x0504_0302 ≡ record52) × (length record52 ≡ REFUSAL_SIZE)
fields52 = (refl, refl)

-- 20, though it stands behind 15
endless52 : refusal_bytes EndlessChain 84 ≡ 52 ∷ 20 ∷ 84 ∷ 0 ∷ 0 ∷ 0 ∷ []
endless52 = refl

-- what a program is lent
abbrev lent : List ℕ
lent = 165 ∷ 165 ∷ 165 ∷ 165 ∷ 165 ∷ 165 ∷ 165 ∷ []

told_bytes : Told (written (49 ∷ 50 ∷ [])) lent 2 (49 ∷ 50 ∷ 165 ∷ 165 ∷ 165 ∷ 165 ∷ 165 ∷ [])
told_bytes = record { count = refl; buffer = refl; same = refl }

told_refusal : Told (refused CutShort 3) lent 6 (52 ∷ 2 ∷ 3 ∷ 0 ∷ 0 ∷ 0 ∷ 165 ∷ [])
told_refusal = record { count = refl; buffer = refl; same = refl }

told_nothing : Told (written []) lent 0 lent
told_nothing = record { count = refl; buffer = refl; same = refl }
