-- Worked examples, computed: what `check` tells of one byte, 1, the kind of a pack's first record, read as each of the three; and of what loads.
use Rattle.std.specs.Prelude.{ℕ, ◌≡◌, refl, Ok, List, [], ◌∷◌}
use Rattle.tonekit_core.specs.Loop.{loop_to, loop_on}
use Rattle.tonekit_report.specs.Report.{output_of}
use Rattle.spec_pack.specs.Pack.{due_after, size_of, record_verdict, read_pack, load_pack, check_pack}
use Rattle.spec_query.specs.Query as query
use Rattle.spec_sheet.specs.Reader as sheet
use Rattle.tonekit_output.specs.Check.{check_outcome}

abbrev one : List ℕ
one = 1 ∷ []

-- cut short, at 0
of_pack : output_of (check_outcome (check_pack one)) ≡ 52 ∷ 2 ∷ 0 ∷ 0 ∷ 0 ∷ 0 ∷ []
unfolding check_outcome check_pack load_pack read_pack record_verdict due_after size_of loop_to loop_on
of_pack = refl

-- misplaced, at 0
of_query : output_of (check_outcome (query.check_query one)) ≡ 52 ∷ 1 ∷ 0 ∷ 0 ∷ 0 ∷ 0 ∷ []
unfolding check_outcome query.check_query query.load_query query.read_query query.record_verdict
of_query = refl

of_sheet : output_of (check_outcome (sheet.check_sheet one)) ≡ 52 ∷ 1 ∷ 0 ∷ 0 ∷ 0 ∷ 0 ∷ []
unfolding check_outcome sheet.check_sheet sheet.load_sheet sheet.read_sheet sheet.record_verdict sheet.due_next loop_to loop_on
of_sheet = refl

silence : output_of (check_outcome (Ok tt)) ≡ []
unfolding check_outcome
silence = refl
