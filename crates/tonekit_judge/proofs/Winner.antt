-- The best component of a target is a component of one of its tones, and a judgement names its slot's entries. Assumes nothing.
use Rattle.std.proofs.Common.{ℕ, ◌+◌, ◌*◌, ◌/◌, ◌<◌, ◌≡◌, refl, subst, true, cond, IfSome, length, arith, Float}
use Rattle.std.proofs.Common.{Option, Some, None}
use Rattle.std.specs.Float.{binary64}
use Rattle.std.specs.Float.Ieee.{add, lt, le}
use Rattle.tonekit_core.proofs.LoopLaws.{range_keeps}
use Rattle.spec_arithmetic.specs.Log.{ln_of}
use Rattle.spec_arithmetic.specs.Constants.{zero32}
use Rattle.spec_judgement.specs.Score.{log_of, no_mixing, mixed, mix_turn, mixture_of, scoring_of}
use Rattle.spec_shape.specs.declared.ToneShape.{ToneShape}
use Rattle.spec_judgement.specs.declared.Settings.{Settings}
use Rattle.spec_judgement.specs.declared.Tolerance.{Tolerance}
use Rattle.spec_judgement.specs.declared.Scoring.{Scoring}
use Rattle.spec_judgement.specs.declared.LogSumExp.{LogSumExp}
use Rattle.spec_judgement.specs.declared.Lead.{Lead}
use Rattle.spec_judgement.specs.declared.Mixing.{Mixing}
use Rattle.spec_judgement.specs.declared.Mixture.TheVariants.{Scored}
use Rattle.spec_judgement.specs.Inventory.{Inventory, Targets, Listings, entry_at, target_at}
use Rattle.spec_judgement.specs.Judge.{weighed, part_mixing, target_mixing, component_at, nearest_at, with_best, judged_of, usable, judgement_of}
use Rattle.tonekit_judge.specs.Terms.{count_at}
use Rattle.spec_judgement.specs.Asked.{TargetsHeld}
use Rattle.tonekit_judge.specs.Terms.{part_turn}
use Rattle.tonekit_judge.proofs.Turns.{target_turn}
use Rattle.spec_judgement.specs.declared.Component.{Component}
use Rattle.spec_judgement.specs.declared.ToneJudgement.{ToneJudgement}
use Rattle.tonekit_judge.proofs.Cells.{by_bool, led_keeps}

-- a slot that is component j of tone t
pub record Among (i : Inventory) (slot : ℕ) : Type 0 where
  pub tone : ℕ
  pub component : ℕ
  pub listed : tone < length i.items
  pub has : component < count_at i tone
  pub is : slot ≡ 4 * tone + component

module _ (i : Inventory) (s : Scoring) where
  abbrev Won : Lead → Type 0
  Won best = Among i best.index

  -- what was found so far is one
  abbrev Best : Mixing → Type 0
  Best m = IfSome m.best Won

  module _ (m : Mixing) (slot : ℕ) (d2 : Float) (b : Best m) (a : Among i slot) where
    mixed_best : (score : Float) → Best (mixed m slot score d2)
    unfolding mixed
    mixed_best score = led_keeps Won m.best (record { score = score; index = slot; distance = d2 }) b a

    weighed_best : (w : Float) → Best (weighed s m slot w d2)
    unfolding weighed mix_turn
    weighed_best w =
        by_bool (λ c. Best (cond c (mix_turn s m slot w d2) m)) (lt zero32 w)
        (by_bool (λ c. Best (cond c m (mixed m slot (add binary64 (ln_of w) (log_of s d2)) d2))) (le w zero32) b
        (mixed_best (add binary64 (ln_of w) (log_of s d2)))) b

  -- what is scored is the best of those found
  scored_best : (total : LogSumExp) (best : Option Lead) (ll d2 : Float) (slot : ℕ) → IfSome best Won → mixture_of (record { total = total; best = best }) ≡ Scored ll slot d2 → Among i slot
  scored_best total None ll d2 slot b e = let z : ◌≡◌ {A = ℕ} 0 1 = cc in absurd (omega arith)
  scored_best total (Some best) ll d2 slot b e = let q : best.index ≡ slot = cc in subst (Among i) q b

  module _ (d : ℕ → ℕ → Component) where
    part_best : (t : ℕ) (weight : Float) (m : Mixing) → t < length i.items → Best m → Best (part_mixing s d (count_at i t) t weight m)
    unfolding part_mixing
    part_best t weight m h b =
        range_keeps (part_turn s d t weight) (λ j m. Best m) 0 (count_at i t) m (omega arith)
        (λ j m l b. weighed_best m (4 * t + j) (d t j).distance b (record { tone = t; component = j; listed = h; has = l; is = refl }) _) b

    target_best : (g : Targets) → TargetsHeld (length i.items) g → Best (target_mixing s i d g)
    unfolding target_mixing
    target_best g p =
        range_keeps (target_turn s i d g) (λ k m. Best m) 0 (length g.items) no_mixing (omega arith)
        (λ k m h b. part_best (target_at g k).place (target_at g k).weight m (p.each k h) b) tt

    pub winner_among : (g : Targets) → TargetsHeld (length i.items) g → (ll d2 : Float) (slot : ℕ) → mixture_of (target_mixing s i d g) ≡ Scored ll slot d2 → Among i slot
    winner_among g p ll d2 slot e =
        let m = target_mixing s i d g in
        scored_best m.total m.best ll d2 slot (target_best g p) e

-- owner, form, label and part of a judgement in which a component won, and its distance
module _ (x : ToneShape) (settings : Settings) (t : Tolerance) (l : Listings) (g : Targets) (issues : ℕ) (ok : usable x ≡ true) (ll d2 : Float) (slot : ℕ) where
  abbrev s : Scoring
  s = scoring_of settings.temperature t issues

  abbrev j : ToneJudgement
  j = judgement_of x settings t l g issues

  pub winner_named : mixture_of (target_mixing s l.inventory (component_at x s l.inventory l.slots) g) ≡ Scored ll slot d2
      → j.nearest ≡ Some (nearest_at (entry_at l.inventory (slot / 4)) slot d2)
  unfolding judgement_of judged_of with_best
  winner_named e = rw (ok, e)
