-- tail.rs: a creaky tail as evidence for the tones that often end in it. The operations are the Rust's, in its order.
use Rattle.std.specs.Prelude.{ℕ, cond, ◌&&◌, length, ltb, Float}
use Rattle.std.specs.Float.{binary64}
use Rattle.std.specs.Float.Ieee.{add, eq}
use Rattle.tonekit_core.specs.Loop.{range}
use Rattle.tonekit_core.specs.Words.{has_issue}
use Rattle.tonekit_core.specs.declared.MeasureIssue.TheVariants.{CreakyTail}
use Rattle.spec_arithmetic.specs.Constants.{zero32}
use Rattle.spec_arithmetic.specs.Narrow.{narrowed}
use Rattle.spec_arithmetic.specs.Log.{ln_of}
use Rattle.spec_judgement.specs.Score.{empty, add_to, value_of, clamp_log}
use Rattle.spec_judgement.specs.Inventory.{Inventory, Targets, entry_at, target_at}
use Rattle.tonekit_entries.specs.declared.ToneEntry.{ToneEntry}
use Rattle.spec_judgement.specs.declared.Target.{Target}

-- `tail_loglik`: what a tail is worth to a tone; 0 where the issues have none
unfoldable pub tail_loglik : ToneEntry → ℕ → Float
tail_loglik e issues = cond (has_issue issues CreakyTail) e.tail zero32

-- ln w + tail of one of the target's tones
abbrev pub tail_term : Inventory → ℕ → Target → Float
tail_term i issues t = add binary64 (ln_of t.weight) (tail_loglik (entry_at i t.place) issues)

-- `target_tail_loglik`: that of its one tone; with variants, where there is a tail, the mixture's "over the main tone .. and the variants", added up from
-- the first variant on, the main tone, which stands first among the targets, at the end
unfoldable pub target_tail_loglik : Inventory → Targets → ℕ → Float
target_tail_loglik i g issues =
    let term = λ (k : ℕ). tail_term i issues (target_at g k) in
    let variants = range (λ k sum. add_to sum (term k)) 1 (length g.items) empty in
    cond (ltb 1 (length g.items) && has_issue issues CreakyTail) (narrowed (value_of (add_to variants (term 0))))
    (tail_loglik (entry_at i (target_at g 0).place) issues)

-- `with_tail`: a log-likelihood and a tail, clamped; the log-likelihood "bit for bit, when `tail` is 0"
unfoldable pub with_tail : Float → Float → Float
with_tail ll tail = cond (eq tail zero32) ll (clamp_log (add binary64 ll tail))
