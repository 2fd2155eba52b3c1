-- The turns of `targets_of` by a name, and that targets of which each is placed are held. Assumes nothing.
use Rattle.std.specs.Prelude.{Result, Err}
use Rattle.std.specs.Option.{option_map_or}
use Rattle.std.specs.Float.{nan}
use Rattle.std.proofs.Common.{ℕ, ◌<◌, List, Float, ◌≡◌, [], ◌∷◌, ◌++◌, ap, length, get_or, length-append, lt-ltb, arith, ⊎_elim, eq-or-lt_of_le}
use Rattle.std.proofs.Math.ListN.{get_or-append}
use Rattle.std.proofs.Math.Seq.{get_or-append_seam}
use Rattle.tonekit_core.specs.Loop.{Turn, next, stop}
use Rattle.spec_judgement.specs.Inventory.{Inventory, Targets}
use Rattle.spec_judgement.specs.Asked.{TargetsHeld}
use Rattle.spec_judgement.specs.declared.Target.{Target}
use Rattle.spec_judgement.specs.Target.{target_tone, target_weight, target_of, with_target}

abbrev pub aim_turn : Inventory → List ℕ → ℕ → Float → ℕ → Targets → Turn Targets (Result Targets Targets)
aim_turn i s tone main k g = option_map_or (λ t. next (with_target t g)) (target_of i (target_tone s tone k) (target_weight s main k)) (stop (Err g))

abbrev pub no_targets : Targets
no_targets = record { items = [] }

pub none_yet : (g : Targets) → g.items ≡ [] → g ≡ no_targets
none_yet g e = ap (λ xs. record { items = xs }) e

-- what stands past the end of a list of targets
abbrev no_target : Target
no_target = record { place = 0; weight = nan }

module _ (tones : ℕ) (t : Target) (inside : t.place < tones) where
  -- the main tone alone
  pub placed_first : (r : Targets) → r.items ≡ t ∷ [] → TargetsHeld tones r
  placed_first r e = record {
    some = rw e (omega arith);
    few = rw e (omega arith);
    each = λ k h.
        let l : k < 1 = rw e at h in
        let q : k ≡ 0 = omega arith in
        rw (e, q) inside;
  }

  module _ (g : Targets) (p : TargetsHeld tones g) (room : length g.items < 5) where
    here : (k : ℕ) → k ≡ length g.items → (get_or (g.items ++ t ∷ []) k no_target).place < tones
    here k q = rw (q, get_or-append_seam g.items t [] no_target) inside

    before : (k : ℕ) → k < length g.items → (get_or (g.items ++ t ∷ []) k no_target).place < tones
    before k h = rw (get_or-append g.items (t ∷ []) no_target k h) (p.each k h)

    pub placed_more : (r : Targets) → r.items ≡ g.items ++ t ∷ [] → TargetsHeld tones r
    placed_more r e = record {
      some = rw (e, length-append) (omega arith);
      few = rw (e, length-append) (omega (arith, room));
      each = λ k h.
          let l : k < length (g.items ++ t ∷ []) = rw e at h in
          rw e (⊎_elim (λ q. here k q) (λ q. before k q) (eq-or-lt_of_le {n = k} {m = length g.items} (omega (arith, simp length-append at l))));
    }

-- a vector that ends with one more target is the targets with it
pub with_pushed : (t : Target) (g r : Targets) → length g.items < 5 → r.items ≡ g.items ++ t ∷ [] → with_target t g ≡ r
unfolding with_target
with_pushed t g r room e = rw (lt-ltb (length g.items) 5 room, ← e)
