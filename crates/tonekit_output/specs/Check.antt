-- The program `check`: "check pack | check query | check sheet", by its word and its input.
use Rattle.std.specs.Prelude.{ℕ, ◌≡◌, Option, Some, None, Result, Ok, Err, List, [], ◌∷◌, ◌++◌, length, drop}
use Rattle.tonekit_core.specs.Calls.{Outcome, written, refused}
use Rattle.tonekit_core.specs.declared.Rejection.{Rejection}
use Rattle.tonekit_report.specs.Report.{output_of}
use Rattle.spec_pack.specs.Pack.{check_pack}
use Rattle.spec_query.specs.Query.{check_query}
use Rattle.spec_sheet.specs.Reader.{check_sheet}

-- its words, in ASCII
abbrev pub pack_word : List ℕ
pack_word = 0x70 ∷ 0x61 ∷ 0x63 ∷ 0x6b ∷ []

abbrev pub query_word : List ℕ
query_word = 0x71 ∷ 0x75 ∷ 0x65 ∷ 0x72 ∷ 0x79 ∷ []

abbrev pub sheet_word : List ℕ
sheet_word = 0x73 ∷ 0x68 ∷ 0x65 ∷ 0x65 ∷ 0x74 ∷ []

-- nothing is written of an input that loads
unfoldable pub check_outcome : Result (Unit {0}) Rejection → Outcome
check_outcome (Ok u) = written []
check_outcome (Err e) = refused e.why e.place

-- what is told of a check: how many bytes, and the lent buffer with them at its front
abbrev pub Said : Result (Unit {0}) Rejection → List ℕ → Option ℕ → List ℕ → Type 0
Said c held r out =
    (r ≡ Some (length (output_of (check_outcome c))))
    × (out ≡ output_of (check_outcome c) ++ drop (length (output_of (check_outcome c))) held)

-- by the word; and of any other word nothing
pub record Checks (word s held : List ℕ) (r : Option ℕ) (out : List ℕ) : Type 0 where
  pub pack : word ≡ pack_word → Said (check_pack s) held r out
  pub query : word ≡ query_word → Said (check_query s) held r out
  pub sheet : word ≡ sheet_word → Said (check_sheet s) held r out
  pub other : (word ≡ pack_word → ⊥) → (word ≡ query_word → ⊥) → (word ≡ sheet_word → ⊥) → (r ≡ None) × (out ≡ held)
  pub same : length out ≡ length held
