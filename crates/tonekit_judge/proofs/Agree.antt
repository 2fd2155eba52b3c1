-- A judgement depends on the components that are there, and on no others. Assumes nothing.
use Rattle.std.proofs.Common.{ℕ, ◌*◌, ◌<◌, ◌≡◌, ap, ◌∙◌, List, length, set, replicate, arith, Float}
use Rattle.spec_arithmetic.specs.Constants.{zero32}
use Rattle.spec_judgement.specs.Score.{no_mixing, mixture_of, mixture_log, calibrate}
use Rattle.spec_judgement.specs.declared.Scoring.{Scoring}
use Rattle.spec_judgement.specs.declared.Mixing.{Mixing}
use Rattle.spec_judgement.specs.declared.Mixture.{Mixture}
use Rattle.spec_judgement.specs.declared.Tolerance.{Tolerance}
use Rattle.spec_shape.specs.declared.ToneShape.{ToneShape}
use Rattle.tonekit_core.proofs.LoopLaws.{range_same}
use Rattle.spec_judgement.specs.Inventory.{Inventory, Targets, Listings, entry_at, target_at}
use Rattle.spec_judgement.specs.Tail.{tail_loglik, target_tail_loglik, with_tail}
use Rattle.spec_judgement.specs.Judge.{component_at, plain_of, judged_of, tone_mixing, loglik_at, logliks, part_mixing, target_mixing}
use Rattle.tonekit_judge.specs.Terms.{count_at}
use Rattle.spec_judgement.specs.Asked.{Counted, TargetsHeld}
use Rattle.tonekit_judge.specs.Terms.{Filled, cell, tone_turn, part_turn}
use Rattle.tonekit_judge.proofs.Turns.{loglik_turn, target_turn}
use Rattle.spec_judgement.specs.declared.Component.{Component}
use Rattle.spec_judgement.specs.declared.ToneJudgement.{ToneJudgement}

module _ (s : Scoring) (i : Inventory) (d e : ℕ → ℕ → Component)
    (same : (t j : ℕ) → t < length i.items → j < count_at i t → d t j ≡ e t j) where
  tone_same : (t : ℕ) → t < length i.items → tone_mixing s d (count_at i t) t ≡ tone_mixing s e (count_at i t) t
  unfolding tone_mixing
  tone_same t h =
      range_same (tone_turn s d t) (tone_turn s e t) 0 (count_at i t) no_mixing (omega arith)
      (λ j m k. rw (same t j h k))

  loglik_same : (t : ℕ) → t < length i.items → loglik_at s d (count_at i t) t ≡ loglik_at s e (count_at i t) t
  unfolding loglik_at
  loglik_same t h = ap (λ (m : Mixing). calibrate s (mixture_log (mixture_of m))) (tone_same t h)

  pub logliks_same : (issues : ℕ) → logliks s i d issues ≡ logliks s i e issues
  unfolding logliks
  logliks_same issues =
      range_same (loglik_turn s i d issues) (loglik_turn s i e issues) 0 (length i.items) (replicate 8 zero32) (omega arith)
      (λ t ll h. ap (λ (v : Float). set ll t (with_tail v (tail_loglik (entry_at i t) issues))) (loglik_same t h))

  part_same : (t : ℕ) (w : Float) (m : Mixing) → t < length i.items → part_mixing s d (count_at i t) t w m ≡ part_mixing s e (count_at i t) t w m
  unfolding part_mixing
  part_same t w m h =
      range_same (part_turn s d t w) (part_turn s e t w) 0 (count_at i t) m (omega arith)
      (λ j n k. rw (same t j h k))

  pub target_same : (g : Targets) → TargetsHeld (length i.items) g → target_mixing s i d g ≡ target_mixing s i e g
  unfolding target_mixing
  target_same g p =
      range_same (target_turn s i d g) (target_turn s i e g) 0 (length g.items) no_mixing (omega arith)
      (λ k m h. part_same (target_at g k).place (target_at g k).weight m (p.each k h))

-- a list with every slot filled
pub filled_same : (d : ℕ → ℕ → Component) (i : Inventory) (ds : List Component) → Counted i → Filled d i (4 * length i.items) ds
    → (t j : ℕ) → t < length i.items → j < count_at i t → cell ds t j ≡ d t j
filled_same d i ds n f t j h k = f.at t j (omega (arith, n.each t h)) k (omega (arith, n.each t h))

plain_same : (s : Scoring) (threshold : Float) (i : Inventory) (d e : ℕ → ℕ → Component) (m : Mixture) (tail : Float) (issues : ℕ)
    → ((t j : ℕ) → t < length i.items → j < count_at i t → d t j ≡ e t j) → plain_of s threshold i d m tail issues ≡ plain_of s threshold i e m tail issues
unfolding plain_of
plain_same s threshold i d e m tail issues same = rw (logliks_same s i d e same issues)

-- a judgement from the list of components is the judgement
pub judged_same : (x : ToneShape) (s : Scoring) (threshold : Float) (t : Tolerance) (l : Listings) (ds : List Component) (g : Targets) (issues : ℕ) {r : ToneJudgement}
    → Counted l.inventory → TargetsHeld (length l.inventory.items) g
    → Filled (component_at x s l.inventory l.slots) l.inventory (4 * length l.inventory.items) ds
    → r ≡ judged_of x s threshold t l (cell ds) g issues → r ≡ judged_of x s threshold t l (component_at x s l.inventory l.slots) g issues
unfolding judged_of
judged_same x s threshold t l ds g issues n p f e =
    let i = l.inventory in
    let d = component_at x s i l.slots in
    let same = filled_same d i ds n f in
    e ∙ rw (target_same s i (cell ds) d same g p, plain_same s threshold i (cell ds) d _ (target_tail_loglik i g issues) issues same)
