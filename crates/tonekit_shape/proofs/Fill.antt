-- Lists that are written from the front: what is written so far, and the rest as it was. Assumes nothing.
use Rattle.std.proofs.Common.{ℕ, zero, suc, ◌+◌, ◌-◌, ◌≤◌, ◌<◌, ◌≡◌, refl, sym, ◌∙◌, ap, List, [], ◌∷◌, ◌++◌, append_assoc, append-nil, add-one, arith, map, take_all, length, take, drop, get_or, set, length-append, length-drop, drop_of_length-le, drop-cons, get_or-append-add, get_or-drop, Float}
use lib.Seq.{set_at}
use Rattle.std.proofs.lemmas.List.{map-append}
use Rattle.std.proofs.Math.Seq.{take-suc}
use lib.Ieee.{nan}
use Rattle.spec_shape.specs.Extract.{list_of}
use Rattle.tonekit_contour.proofs.Lists.{listed_length}

-- one more place written
set_front : (p l : List Float) (k : ℕ) (v : Float) → length p ≡ k → k < length l → set (p ++ drop k l) k v ≡ (p ++ (v ∷ [])) ++ drop (k + 1) l
set_front p l k v e h =
    ap (λ (t : List Float). set (p ++ t) k v) (drop-cons l k nan h)
    ∙ set_at p (get_or l k nan) (drop (suc k) l) v k e
    ∙ sym (append_assoc p (v ∷ []) (drop (suc k) l))
    ∙ ap (λ (n : ℕ). (p ++ (v ∷ [])) ++ drop n l) (sym (add-one k))

module _ (f : ℕ → Float) where
  -- the places below k hold f, the others what l holds
  abbrev pub Listed : List Float → ℕ → List Float → Type 0
  Listed l k out = out ≡ list_of f k ++ drop k l

  pub listed_none : (l : List Float) → Listed l 0 l
  unfolding list_of
  listed_none l = refl

  pub listed_more : (l out : List Float) (k : ℕ) (v : Float) → k < length l → Listed l k out → v ≡ f k → Listed l (k + 1) (set out k v)
  unfolding list_of
  listed_more l out k v h e g =
      ap (λ (t : List Float). set t k v) e
      ∙ set_front (list_of f k) l k v (listed_length f k) h
      ∙ ap (λ (x : Float). (list_of f k ++ (x ∷ [])) ++ drop (k + 1) l) g
      ∙ ap (λ (n : ℕ). list_of f n ++ drop (k + 1) l) (sym (add-one k))

  pub listed_all : (l out : List Float) (k n : ℕ) → length l ≤ k → k ≡ n → Listed l k out → out ≡ list_of f n
  listed_all l out k n h e g =
      g ∙ ap (λ (t : List Float). list_of f k ++ t) (drop_of_length-le l h) ∙ append-nil (list_of f k) ∙ ap (list_of f) e

  -- what is still to be written is as it was
  pub listed_rest : (l out : List Float) (k m : ℕ) → k ≤ m → Listed l k out → get_or out m nan ≡ get_or l m nan
  listed_rest l out k m h e =
      let i = m - k in
      let a : m ≡ length (list_of f k) + i = omega (arith, listed_length f k) in
      let b : k + i ≡ m = omega arith in
      ap (λ (t : List Float). get_or t m nan) e
      ∙ ap (λ (n : ℕ). get_or (list_of f k ++ drop k l) n nan) a
      ∙ get_or-append-add (list_of f k) (drop k l) i nan
      ∙ get_or-drop k l i nan
      ∙ ap (λ (n : ℕ). get_or l n nan) b

  pub listed_same : (l out : List Float) (k : ℕ) → k ≤ length l → Listed l k out → length out ≡ length l
  listed_same l out k h e = ap length e ∙ length-append (list_of f k) (drop k l) ∙ omega (arith, listed_length f k, length-drop k l)

-- a list that is written from itself, each place by f, is mapped
module _ (f : Float → Float) (l : List Float) where
  abbrev each : ℕ → Float
  each j = f (get_or l j nan)

  mapped : (n : ℕ) → n ≤ length l → list_of each n ≡ map f (take n l)
  unfolding list_of
  mapped zero h = refl
  mapped (suc n) h =
      ap (λ (t : List Float). t ++ (each n ∷ [])) (mapped n (omega arith))
      ∙ sym (ap (map f) (take-suc l n nan (omega arith)) ∙ map-append f (take n l) (get_or l n nan ∷ []))

  pub listed_map : list_of each (length l) ≡ map f l
  listed_map = mapped (length l) (omega arith) ∙ ap (map f) (take_all (length l) l (omega arith))
