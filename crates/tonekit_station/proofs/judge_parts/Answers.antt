-- `judge_parts` meets its contract: the parts that are lent are what is held and the query.
use Rattle.std.proofs.Common.{◌∙◌, ap, List, ℕ}
use Rattle.tonekit_core.proofs.Calls.{delivers_same}
use Rattle.spec_judgement.specs.Input.{query_of}
use Rattle.tonekit_station.specs.Held.{on_held}
use Rattle.tonekit_station.proofs.judge_parts.Goals as goal

pub returns : goal.returns
returns g c =
    let s = c.args.input.now in
    delivers_same _ _ _ _ _
    (ap (on_held _) c.query_part.ensures ∙ ap (λ (p : List ℕ). on_held (g.H.Held.loads p) (query_of s)) c.held_part.ensures)
    c.judge_held.ensures
