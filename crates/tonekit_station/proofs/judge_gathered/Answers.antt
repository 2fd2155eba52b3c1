-- `judge_gathered` meets its contract, by the ways through its code.
use Rattle.std.proofs.Common.{◌≡◌, sym, ap, ◌∙◌, arith, ℕ}
use Rattle.spec_judgement.specs.Record.{judgement_bytes}
use Rattle.tonekit_core.proofs.Calls.{delivers_refused, delivers_same}
use Rattle.spec_query.specs.Query.{frames_of}
use Rattle.spec_shape.specs.Extract.{extent_of}
use Rattle.tonekit_station.proofs.Ways.{enough_voiced, turned_back_lem, target_loose, target_held}
use Rattle.tonekit_station.proofs.judge_gathered.Goals as goal
use Rattle.tonekit_station.proofs.judge_gathered.Goals.{After-voiced_frames-e}

-- the voiced frames are those of the query
voiced : (c : After-voiced_frames-e)
    → let a = c.args in
    c.voiced_frames-e.result ≡ extent_of (frames_of a.query.now a.q) a.q.count a.q.start a.q.end
voiced c = rw (← c.frames-frames.ensures) c.voiced_frames-e.ensures.is

pub returns-in-Err : goal.returns-in-Err
returns-in-Err c =
    rw c.at.ensures (delivers_refused _ _ _ _ (turned_back_lem _ _ _ c.voiced_frames-e.result (voiced (goal.at.returns-in-Err c).After-voiced_frames-e) _ (sym c.query_verdict.ensures ∙ c.in-Err.is)))

pub returns-in_default : goal.returns-in_default
returns-in_default c =
    rw c.at-in_default.ensures
    (delivers_refused _ _ _ _
    (target_loose _ _ _ c.voiced_frames-e.result (voiced (goal.at.returns-in_default c).After-voiced_frames-e) _ (sym c.query_verdict.ensures ∙ c.in-Ok.is) _ c.targets_of.ensures.0 _ c.in_default.is))

pub shape_of-x-requires : goal.shape_of-x-requires
shape_of-x-requires c =
    let e = c.voiced_frames-e.ensures in
    let n = enough_voiced _ _ _ _ _ _ _ (sym c.query_verdict.ensures ∙ c.in-Ok.is) in
    let h = e.inside (omega (arith, n)) in
    record { enough = n; ordered = e.ordered; counted = e.counted; inside = omega (arith, h, c.requires.1) }

pub judgement_of-j-requires : goal.judgement_of-j-requires
judgement_of-j-requires c = (c.requires.0, rw c.in-Ok-targets_of.is at c.targets_of.ensures.1)

pub returns : goal.returns
returns c =
    delivers_same _ _ _ _ _
    (target_held _ _ _ c.voiced_frames-e.result (voiced (goal.at.returns c).After-voiced_frames-e) _ (sym c.query_verdict.ensures ∙ c.in-Ok.is) _ c.targets_of.ensures.0 c.in-Ok-targets_of.targets c.in-Ok-targets_of.is
    c.in_register-r.result (rw (← c.frames-frames.ensures) c.in_register-r.ensures)
    c.shape_of-x.result (rw (← c.frames-frames.ensures) c.shape_of-x.ensures) c.united-issues.result c.united-issues.ensures c.judgement_of-j.result c.judgement_of-j.ensures c.record_of-record.result
    (c.record_of-record.ensures ∙ ap (λ (n : ℕ). judgement_bytes c.args.q.tone n c.judgement_of-j.result) c.len.ensures.value))
    c.write_record.ensures
