-- The place of a list among lists, looked for from the front. Assumes nothing.
use Rattle.std.proofs.Common.{ℕ, zero, suc, ◌+◌, ◌≤◌, ◌<◌, ◌≡◌, refl, sym, ◌∙◌, ap, true, false, List, [], arith, add-zero, zero-add, add-one, length, get_or, drop, drop_of_length-le, drop-cons, lt-ltb, le-ltb}
use Rattle.spec_lookup.specs.Source.{Carried}
use Rattle.spec_sheet.specs.Number.{same, seen_in, place_in}
use Rattle.tonekit_sheet_plan.specs.Entries.{FirstPlace}

module _ (v : List Carried) (xs : List (List Carried)) where
  -- what is left has the list where the whole has it
  pub record Placing (i : ℕ) : Type 0 where
    pub few : i ≤ length xs
    pub place : place_in v xs ≡ i + place_in v (drop i xs)
    pub seen : seen_in v xs ≡ seen_in v (drop i xs)

  pub placing_begun : Placing 0
  placing_begun = record { few = omega arith; place = sym (zero-add (place_in v xs)); seen = refl }

  pub placing_on : {i : ℕ} → Placing i → i < length xs → same v (get_or xs i []) ≡ false → Placing (i + 1)
  unfolding place_in seen_in
  placing_on {i} p h e = record {
    few = omega arith;
    place =
        p.place
        ∙ rw (drop-cons xs i [] h, e) (let q : i + suc (place_in v (drop (suc i) xs)) ≡ i + 1 + place_in v (drop (suc i) xs) = omega arith in q ∙ ap (λ (k : ℕ). i + 1 + place_in v (drop k xs)) (sym (add-one i)));
    seen = p.seen ∙ rw (drop-cons xs i [] h, e, add-one);
  }

  pub placing_hit : {i : ℕ} → Placing i → i < length xs → same v (get_or xs i []) ≡ true → FirstPlace v xs i
  unfolding place_in seen_in
  placing_hit {i} p h e = record {
    first = sym (p.place ∙ rw (drop-cons xs i [] h, e) (add-zero i));
    seen = p.seen ∙ rw (drop-cons xs i [] h, e) (sym (lt-ltb i (length xs) h));
    few = p.few;
  }

  pub placing_out : {i : ℕ} → Placing i → length xs ≤ i → FirstPlace v xs (length xs)
  unfolding place_in seen_in
  placing_out {i} p h = record {
    first = sym (p.place ∙ rw (drop_of_length-le xs {i = i} h) (let q : i + zero ≡ length xs = omega (arith, p.few) in q));
    seen = p.seen ∙ rw (drop_of_length-le xs {i = i} h) (sym (le-ltb (length xs) (length xs) (omega arith)));
    few = omega arith;
  }
