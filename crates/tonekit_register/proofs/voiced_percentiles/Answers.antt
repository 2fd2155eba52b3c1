-- `voiced_percentiles`: each turn writes a voiced frame's key behind those before it.
use Rattle.std.proofs.Common.{refl, sym, ◌∙◌, ap, rules}
use Rattle.spec_arithmetic.specs.Narrow.{narrowed}
use Rattle.spec_shape.specs.Chao.{hz_to_st}
use Rattle.tonekit_rank.specs.Rank.{key_of}
use Rattle.tonekit_register.proofs.KeyLists.{filled_start, filled_more, filled_same, filled_keys}
use Rattle.tonekit_register.proofs.voiced_percentiles.Goals as goal
use Rattle.tonekit_register.proofs.voiced_percentiles.Goals.{in-Some, in_default}

pub loop-i-init : goal.loop-i-init
loop-i-init c = filled_start c.args.frames.now _ refl

pub loop-i-preserved : goal.loop-i-preserved
loop-i-preserved c =
    let frames = c.args.frames.now in
    let l = c.loop-i in
    elim c.match-read_frame.branch [
      | in-Some w ↦
          let key = w.key_of.ensures ∙ ap key_of (w.narrow.ensures ∙ ap narrowed (w.hz_to_st-st.ensures ∙ ap hz_to_st w.from.ensures)) in
          rw (w.keys-is, w.n-is) (filled_more frames l.keys l.n l.i w.in-Some.v l.invariant (search rules) (sym w.in-Some.ensures) key)
      | in_default w ↦ rw (w.keys-is, w.n-is) (filled_same frames l.keys l.n l.i l.invariant (sym w.in_default.ensures))
    ]

pub returns : goal.returns
returns c =
    let l = c.loop-i in
    c.p5_p50_p95.ensures _ (filled_keys c.args.frames.now l.keys l.n l.i c.args.count l.invariant (search rules) (search rules))
