-- What is held, or why it is refused, and then the query: "Pack or sheet comes before query." `judge_outcome` and `judge_sheet_outcome` are what it comes to.
use Rattle.std.specs.Prelude.{ℕ, Result, Ok, Err, List}
use Rattle.tonekit_core.specs.Calls.{Outcome, refused}
use Rattle.tonekit_core.specs.declared.Rejection.{Rejection}
use Rattle.spec_lookup.specs.Source.{Source}
use Rattle.spec_judgement.specs.Judgement.{judgement}

abbrev pub on_held : Result Source Rejection → List ℕ → Outcome
on_held (Err e) s = refused e.why e.place
on_held (Ok src) s = judgement src s
