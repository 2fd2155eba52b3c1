use Rattle.std.proofs.Common.{rules, ℕ, sym, ◌∙◌, ap, Ok, Err}
use Rattle.tonekit_core.proofs.LoopLaws.{to_again, to_stop, to_ended}
use Rattle.spec_query.specs.Query.{fields_of, after_frame}
use Rattle.tonekit_query.specs.Parts.{frame_turn}
use Rattle.tonekit_query.proofs.read_frames.Goals as goal

pub returns-in-Err : goal.returns-in-Err
returns-in-Err c =
    let s = c.args.query.now in
    ap Err c.at.ensures ∙ to_stop (frame_turn s) (λ (a : ℕ). Ok (fields_of s)) c.loop.invariant.1 (search rules)
    (ap (after_frame c.loop.at) (sym c.frame_verdict.ensures ∙ c.in-Err.is))

pub loop-preserved : goal.loop-preserved
loop-preserved c =
    let s = c.args.query.now in (
      search rules,
      to_again (frame_turn s) (λ (a : ℕ). Ok (fields_of s)) c.loop.invariant.1 (search rules) (ap (after_frame c.loop.at) (sym c.frame_verdict.ensures ∙ c.in_default.is)),
    )

pub returns : goal.returns
returns c = let s = c.args.query.now in ap Ok c.fields.ensures ∙ to_ended (frame_turn s) (λ (a : ℕ). Ok (fields_of s)) c.loop.invariant.1 (search rules)
