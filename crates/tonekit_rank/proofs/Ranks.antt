-- What stands at a rank of f32s sorted by `total_cmp`: it is what `ranked` gives of their keys, and all that holds of each f32 holds of it. Assumes nothing.
use Rattle.std.proofs.Common.{ℕ, suc, ◌<◌, ◌≡◌, refl, sym, ◌∙◌, ap, Bool, true, false, not, cond, leb, List, [], ◌∷◌, map, length, get_or, Float, arith}
use lib.Ieee.{nan}
use Rattle.std.specs.Float.{total_cmp}
use Rattle.std.specs.List.{All}
use Rattle.std.specs.Ordering.{is_gt}
use Rattle.std.proofs.lemmas.List.{get_or-map, length-map}
use Rattle.std.proofs.lemmas.List.Elements.{All-cons, All-head, All-tail, All-get_or}
use Rattle.spec_shape.specs.Register as register
use Rattle.spec_shape.specs.Register.{ascending}
use Rattle.tonekit_rank.specs.Rank.{Number, key_of, value_of, insert, sorted}
use Rattle.tonekit_rank.proofs.Order.{length_sorted}
use Rattle.tonekit_rank.proofs.Keys.{after_by_key, value_back}

-- ---- sorting keeps the length, and what holds of each
length_insert : (x : Float) (l : List Float) → length (register.insert x l) ≡ suc (length l)
unfolding register.insert
length_insert x [] = refl
length_insert x (y ∷ l) = go (is_gt (total_cmp x y)) (length_insert x l)
  where
    go : (t : Bool) → length (register.insert x l) ≡ suc (length l) → length (cond t (y ∷ register.insert x l) (x ∷ (y ∷ l))) ≡ suc (suc (length l))
    go true r = ap suc r
    go false r = refl

pub length_ascending : (l : List Float) → length (ascending l) ≡ length l
unfolding ascending
length_ascending [] = refl
length_ascending (x ∷ l) = length_insert x (ascending l) ∙ ap suc (length_ascending l)

module _ (P : Float → Type 0) where
  all_insert : (x : Float) (l : List Float) → P x → All P l → All P (register.insert x l)
  unfolding register.insert
  all_insert x [] p q = All-cons P x [] p q
  all_insert x (y ∷ l) p q = go (is_gt (total_cmp x y)) (all_insert x l p (All-tail P y l q))
    where
      go : (t : Bool) → All P (register.insert x l) → All P (cond t (y ∷ register.insert x l) (x ∷ (y ∷ l)))
      go true r = All-cons P y (register.insert x l) (All-head P y l q) r
      go false r = All-cons P x (y ∷ l) p q

  pub all_ascending : (l : List Float) → All P l → All P (ascending l)
  unfolding ascending
  all_ascending [] q = q
  all_ascending (x ∷ l) q = all_insert x (ascending l) (All-head P x l q) (all_ascending l (All-tail P x l q))

  pub ranked_has : (l : List Float) → All P l → (k : ℕ) → k < length l → P (get_or (ascending l) k nan)
  ranked_has l q k h = All-get_or P (ascending l) k nan (omega (arith, length_ascending l)) (all_ascending l q)

-- ---- sorting the keys
insert_keys : (x : Float) (l : List Float) → Number x → All Number l → map key_of (register.insert x l) ≡ insert (key_of x) (map key_of l)
unfolding register.insert insert
insert_keys x [] p q = refl
insert_keys x (y ∷ l) p q =
    let r = All-head Number y l q in
    rw (after_by_key x y p.0 r.0 p.1 r.1) (go (leb (key_of x) (key_of y)) (insert_keys x l p (All-tail Number y l q)))
  where
    go : (t : Bool) → map key_of (register.insert x l) ≡ insert (key_of x) (map key_of l)
        → map key_of (cond (not t) (y ∷ register.insert x l) (x ∷ (y ∷ l))) ≡ cond t (key_of x ∷ map key_of (y ∷ l)) (key_of y ∷ insert (key_of x) (map key_of l))
    go true r = refl
    go false r = ap (◌∷◌ (key_of y)) r

keys_ascending : (l : List Float) → All Number l → map key_of (ascending l) ≡ sorted (map key_of l)
unfolding ascending sorted
keys_ascending [] q = refl
keys_ascending (x ∷ l) q =
    insert_keys x (ascending l) (All-head Number x l q) (all_ascending Number l (All-tail Number x l q)) ∙ ap (insert (key_of x)) (keys_ascending l (All-tail Number x l q))

values_keys : (l : List Float) → All Number l → map value_of (map key_of l) ≡ l
values_keys [] q = refl
values_keys (x ∷ l) q = cc (value_back x (All-head Number x l q).0, values_keys l (All-tail Number x l q))

-- the f32s of the sorted keys are the sorted f32s
pub values_sorted : (l : List Float) → All Number l → map value_of (sorted (map key_of l)) ≡ ascending l
values_sorted l q = ap (map value_of) (sym (keys_ascending l q)) ∙ values_keys (ascending l) (all_ascending Number l q)

-- what `ranked` gives of the keys of f32s is the f32 at that rank
pub ranked_is : (l : List Float) → All Number l → (k : ℕ) → k < length l → value_of (get_or (sorted (map key_of l)) k 0) ≡ get_or (ascending l) k nan
ranked_is l q k h =
    sym (get_or-map value_of (sorted (map key_of l)) k 0 nan (omega (arith, length_sorted (map key_of l), length-map l key_of))) ∙ ap (λ (values : List Float). get_or values k nan) (values_sorted l q)
