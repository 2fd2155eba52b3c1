-- `targets_of` without what it says of a refusal: the targets, or none where one of them is not held. It is for callers that want an option; no
-- proof here cites it. Assumes nothing.
use Rattle.std.specs.Prelude.{Option, Some, None, Ok, Err}
use Rattle.std.specs.Option.{option_map_or}
use Rattle.std.specs.Result.{result_ok}
use Rattle.std.proofs.Common.{ℕ, zero, suc, ◌+◌, ◌-◌, ◌≡◌, refl, sym, ◌∙◌, ap, List, []}
use Rattle.tonekit_core.specs.Loop.{Turn, next, stop, turns_to, range_to}
use Rattle.spec_judgement.specs.Inventory.{Inventory, Targets}
use Rattle.spec_judgement.specs.declared.Target.{Target}
use Rattle.spec_judgement.specs.Target.{main_weight, target_tone, target_weight, target_of, with_target, targets_of}
use Rattle.tonekit_target.proofs.Places.{aim_turn}

-- a turn whose end, if it is one, is taken by h
abbrev mapped : {S R T : Type 0} → (R → T) → Turn S R → Turn S T
mapped h (next s) = next s
mapped h (stop r) = stop (h r)

-- h of what a loop gives is what the loop gives whose ends are taken by h
module _ {S R T : Type 0} (f : ℕ → S → Turn S R) (g : ℕ → S → Turn S T) (end : S → R) (h : R → T) (same : (i : ℕ) (s : S) → mapped h (f i s) ≡ g i s) where
  to_mapped : (k i : ℕ) (t : Turn S R) → turns_to g (λ s. h (end s)) k i (mapped h t) ≡ h (turns_to f end k i t)
  unfolding turns_to
  to_mapped zero i (next s) = refl
  to_mapped zero i (stop r) = refl
  to_mapped (suc k) i (next s) = ap (turns_to g (λ s. h (end s)) k (i + 1)) (sym (same i s)) ∙ to_mapped k (i + 1) (f i s)
  to_mapped (suc k) i (stop r) = refl

-- a turn of the search ends with the targets so far: by `result_ok`, with none
turn_mapped : (g : Targets) (o : Option Target)
    → mapped (result_ok {T = Targets}) (option_map_or (λ t. next (with_target t g)) o (stop (Err g))) ≡ option_map_or (λ t. next (with_target t g)) o (stop None)
turn_mapped g None = refl
turn_mapped g (Some t) = refl

pub targets_or_none : (i : Inventory) (s : List ℕ) (tone variants : ℕ)
    → result_ok (targets_of i s tone variants)
    ≡ let aimed = λ (k : ℕ). target_of i (target_tone s tone k) (target_weight s (main_weight s variants) k) in
    range_to (λ k (g : Targets). option_map_or (λ t. next (with_target t g)) (aimed k) (stop None)) Some 0 (variants + 1) (record { items = [] })
unfolding targets_of range_to
targets_or_none i s tone variants =
    sym (to_mapped (aim_turn i s tone (main_weight s variants)) _ Ok result_ok (λ k g. turn_mapped g _) (variants + 1 - 0) 0 (next (record { items = [] })))
