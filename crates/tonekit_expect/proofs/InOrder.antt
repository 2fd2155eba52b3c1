-- The first n entries of an array: as a part of it, and what holds of them all.
use Rattle.std.proofs.Common.{ℕ, ◌≤◌, ◌≡◌, sym, subst, List, get_or, ltb-true, ltb-false, ltb}
use Rattle.std.proofs.Math.ListN.{get_or-eq_default}
use Rattle.tonekit_core.proofs.Split.{split}
use Rattle.tonekit_bytes.specs.Places.{in_order}
use Rattle.tonekit_bytes.proofs.InOrder.{order_length, order_get}

order_past : (xs : List ℕ) (n i : ℕ) → n ≤ i → get_or (in_order xs n) i 0 ≡ 0
order_past xs n i h = get_or-eq_default (in_order xs n) 0 {n = i} (rw (order_length xs n) h)

-- what holds of every entry, and of 0
pub order_all : (P : ℕ → Type 0) (xs : List ℕ) (n : ℕ) → P 0 → ((k : ℕ) → P (get_or xs k 0)) → (k : ℕ) → P (get_or (in_order xs n) k 0)
order_all P xs n z h k =
    split (ltb k n) (λ t. subst P (sym (order_get xs n k (ltb-true k n t))) (h k)) (λ f. subst P (sym (order_past xs n k (ltb-false k n f))) z)
