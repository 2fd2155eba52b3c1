-- A rule says the same where it stands in a pack, with its parts behind it, and by the bytes of it and its parts alone (`rule_own`). Assumes nothing.
use Rattle.std.proofs.Common.{ℕ, zero, suc, ◌+◌, ◌*◌, ◌≤◌, ◌<◌, min, ◌≡◌, refl, sym, ◌∙◌, ap, ap₂, cond, List, [], ◌∷◌, ◌++◌, arith, eqb, eq-eqb, ne_eqb, length, length-append, get_or-append-add, Float}
use native.Mathlib.Nat.{zero-min, min-zero, suc-min-suc, min-le_right}
use lib.ListN.{get_or-append, get_or-eq_default}
use Rattle.spec_arithmetic.specs.Fields.{byte_at, u16_at}
use Rattle.spec_pack.specs.Pack.{parts_from}
use Rattle.spec_lookup.specs.declared.Listing.{Listing}
use Rattle.spec_lookup.specs.declared.Component.{Component}
use Rattle.spec_lookup.specs.Knots.{knots_at, expanded}
use Rattle.spec_lookup.specs.Lookup.{rule_listing, component_of}
use Rattle.spec_lookup.specs.Source.{Carried, carried, components}
use Rattle.tonekit_bytes.proofs.Stands.{Stands}
use Rattle.tonekit_records.specs.Records.{kind, records_bytes}
use Rattle.tonekit_records.proofs.OwnBytes.{byte_same, f32_same}
use Rattle.tonekit_book.specs.Book.{rule_at}

-- the knots of a record, where it stands and by its own bytes
module _ (s : List ℕ) (at : ℕ) (r : List ℕ) (h : Stands s at r) where
  pub knots_own : (n o k : ℕ) → o ≡ at + k → k + 4 * n ≤ length r → knots_at s o n ≡ knots_at r k n
  unfolding knots_at
  knots_own zero o k e l = refl
  knots_own (suc n) o k e l = ap₂ (λ (x : List Float) (y : Float). x ++ (y ∷ [])) (knots_own n o k e (omega arith)) (f32_same s at r h (o + 4 * n) (k + 4 * n) (omega arith) (omega arith))

-- ---- a run of parts
-- each whole, with no more than ten knots
abbrev pub FineParts : List (List ℕ) → Type 0
FineParts [] = Unit
FineParts (p ∷ ps) = (kind p ≡ 5) × (length p ≡ 46) × (byte_at p 5 ≤ 10) × FineParts ps

pub parts_size : (ps : List (List ℕ)) → FineParts ps → length (records_bytes ps) ≡ 46 * length ps
unfolding records_bytes
parts_size [] f = refl
parts_size (p ∷ ps) f = omega (arith, length-append p (records_bytes ps), parts_size ps f.3, f.1)

-- the byte at k of part j
part_byte : (ps : List (List ℕ)) (j k : ℕ) (P : ℕ → Type 0) → FineParts ps → ((p : List ℕ) → kind p ≡ 5 → byte_at p 5 ≤ 10 → P (byte_at p k)) → k < 46 → j < length ps
    → P (byte_at (records_bytes ps) (46 * j + k))
unfolding records_bytes
part_byte [] j k P f h b l = absurd (omega arith)
part_byte (p ∷ ps) zero k P f h b l = let z : 46 * 0 + k ≡ k = omega arith in rw (z, get_or-append p (records_bytes ps) 0 k (omega (arith, f.1))) (h p f.0 f.2)
part_byte (p ∷ ps) (suc j) k P f h b l =
    let e : 46 * suc j + k ≡ length p + (46 * j + k) = omega (arith, f.1) in
    rw (e, get_or-append-add p (records_bytes ps) (46 * j + k) 0) (part_byte ps j k P f.3 h b (omega arith))

-- how many are read of m parts that stand behind a rule: all of them, or n if that is less
parts_read : (n m : ℕ) (s : List ℕ) (o : ℕ) → ((j : ℕ) → j < m → byte_at s (o + 46 * j) ≡ 5) → (byte_at s (o + 46 * m) ≡ 5 → ⊥) → parts_from n s o ≡ min n m
unfolding parts_from
parts_read zero m s o h e = sym (zero-min m)
parts_read (suc n) zero s o h e = let z : o + 46 * 0 ≡ o = omega arith in rw (ne_eqb (byte_at s o) 5 (rw z at e), min-zero (suc n))
parts_read (suc n) (suc m) s o h e =
    let z : o + 46 * 0 ≡ o = omega arith in
    let q : o + 46 * suc m ≡ o + 46 + 46 * m = omega arith in
    rw (eq-eqb (byte_at s o) 5 (rw z at (h 0 (omega arith))), suc-min-suc n m)
    (ap suc (parts_read n m s (o + 46) (λ j l. let p : o + 46 * suc j ≡ o + 46 + 46 * j = omega arith in rw p at (h (suc j) (omega arith))) (rw q at e)))

-- ---- a rule with its parts, of form 2 or 3, behind which no part stands
module _ (s : List ℕ) (at owner : ℕ) (r : List ℕ) (ps : List (List ℕ)) (size : length r ≡ 7) (fine : FineParts ps) (form : byte_at r 6 ≡ 1 → ⊥)
    (h : Stands s at (r ++ records_bytes ps)) (over : byte_at s (at + length (r ++ records_bytes ps)) ≡ 5 → ⊥) where
  abbrev whole : List ℕ
  whole = r ++ records_bytes ps

  long : length whole ≡ 7 + 46 * length ps
  long = omega (arith, length-append r (records_bytes ps), parts_size ps fine)

  -- a byte of the parts
  inner : (k : ℕ) → byte_at whole (7 + k) ≡ byte_at (records_bytes ps) k
  inner k = ap (λ n. byte_at whole (n + k)) (sym size) ∙ get_or-append-add r (records_bytes ps) k 0

  part_kind_lem : (j : ℕ) → j < length ps → byte_at whole (7 + 46 * j) ≡ 5
  part_kind_lem j l = let z : 7 + 46 * j ≡ 7 + (46 * j + 0) = omega arith in rw (z, inner (46 * j + 0)) (part_byte ps j 0 (λ n. n ≡ 5) fine (λ p k few. k) (omega arith) l)

  part_knots_lem : (j : ℕ) → j < length ps → byte_at whole (7 + 46 * j + 5) ≤ 10
  part_knots_lem j l = let z : 7 + 46 * j + 5 ≡ 7 + (46 * j + 5) = omega arith in rw (z, inner (46 * j + 5)) (part_byte ps j 5 (λ n. n ≤ 10) fine (λ p k few. few) (omega arith) l)

  pub here_parts : parts_from 4 s (at + 7) ≡ min 4 (length ps)
  here_parts =
      parts_read 4 (length ps) s (at + 7)
      (λ j l. byte_same s at whole h (at + 7 + 46 * j) (7 + 46 * j) (omega arith) (omega (arith, long)) ∙ part_kind_lem j l)
      (let z : at + 7 + 46 * length ps ≡ at + length whole = omega (arith, long) in rw z over)

  own_parts : parts_from 4 whole 7 ≡ min 4 (length ps)
  own_parts =
      parts_read 4 (length ps) whole 7 part_kind_lem
      (λ e. let z = get_or-eq_default whole 0 {n = 7 + 46 * length ps} (omega (arith, long)) in omega arith)

  form_here : byte_at s (at + 6) ≡ byte_at whole 6
  form_here = byte_same s at whole h (at + 6) 6 refl (omega (arith, long))

  form_own : byte_at whole 6 ≡ byte_at r 6
  form_own = get_or-append r (records_bytes ps) 0 6 (omega arith)

  label_here : u16_at s (at + 1) ≡ u16_at whole 1
  label_here = ap₂ (λ x y. x + 256 * y) (byte_same s at whole h (at + 1) 1 refl (omega (arith, long))) (byte_same s at whole h (at + 1 + 1) 2 (omega arith) (omega (arith, long)))

  abbrev there : Listing
  there = rule_listing s owner at

  abbrev own : Listing
  own = rule_listing whole owner 0

  component_same : (j : ℕ) → j < length ps → component_of s there j ≡ component_of whole own j
  unfolding component_of
  component_same j l =
      let c = byte_same s at whole h (at + 7 + 46 * j + 5) (7 + 46 * j + 5) (omega arith) (omega (arith, long)) in
      let few = part_knots_lem j l in
      let k = ap (knots_at s (at + 7 + 46 * j + 6)) c ∙ knots_own s at whole h (byte_at whole (7 + 46 * j + 5)) (at + 7 + 46 * j + 6) (7 + 46 * j + 6) (omega arith) (omega (arith, long)) in
      let w = f32_same s at whole h (at + 7 + 46 * j + 1) (7 + 46 * j + 1) (omega arith) (omega (arith, long)) in
      let not-here = ne_eqb (byte_at s (at + 6)) 1 (λ e. form (sym form_own ∙ sym form_here ∙ e)) in
      let not_own = ne_eqb (byte_at whole 6) 1 (λ e. form (sym form_own ∙ e)) in
      rw (not-here, not_own)
      (λ i. record { name = record { owner = owner; form = form_here i; label = label_here i }; part = cond (eqb (form_here i) 3) j 0; weight = w i; points = expanded (k i) })

  components_same : (n : ℕ) → n ≤ length ps → components s there n ≡ components whole own n
  unfolding components
  components_same zero l = refl
  components_same (suc n) l = ap₂ (λ (x : List Carried) (y : Component). x ++ (carried y ∷ [])) (components_same n (omega arith)) (component_same n (omega arith))

  pub rule_own : rule_at s owner at ≡ rule_at whole owner 0
  rule_own =
      let t = byte_same s at whole h (at + 3) 3 refl (omega (arith, long)) in
      let p = byte_same s at whole h (at + 4) 4 refl (omega (arith, long)) in
      let f = byte_same s at whole h (at + 5) 5 refl (omega (arith, long)) in
      let g : components s there (parts_from 4 s (at + 7)) ≡ components whole own (parts_from 4 whole 7) =
      components_same (parts_from 4 s (at + 7)) (omega (arith, here_parts, min-le_right 4 (length ps))) ∙ ap (components whole own) (here_parts ∙ sym own_parts) in
      λ i. record { tone = t i; prev = p i; final = f i; gives = g i }
