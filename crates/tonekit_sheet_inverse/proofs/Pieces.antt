-- Each record of a sheet, written anew from what is read there, has the bytes that it was read from. Assumes nothing.
use Rattle.std.proofs.Common.{ℕ, zero, suc, ◌+◌, ◌*◌, ◌≤◌, ◌<◌, ◌≡◌, refl, sym, ap, ◌∙◌, true, List, [], ◌∷◌, ◌++◌, arith, eqb, ltb, length, get_or, length-append, eq-eqb, ltb-true, ltb-false}
use lib.ListN.{get_or-append}
use lib.Seq.{get_or-append_seam}
use Rattle.spec_arithmetic.specs.Fields.{byte_at, u32_at}
use Rattle.spec_arithmetic.specs.Places.{number_at}
use Rattle.tonekit_core.proofs.Split.{split}
use Rattle.spec_lookup.specs.Source.{Carried, settings_at, tail_at, tone_at, accent_at}
use Rattle.spec_lookup.specs.declared.Context.{Context}
use Rattle.spec_sheet.specs.Agree.{Bytes}
use Rattle.spec_sheet.specs.Sheet.{settings_bytes, tone_bytes, accent_bytes, row_bytes, bits_bytes, components_bytes, absent_carried, list_bytes}
use Rattle.spec_sheet.specs.Reader.{list_size, same_lists}
use Rattle.spec_sheet.specs.FromSheet.{bits_at, carried_at, carried_from}
use Rattle.tonekit_sheet.proofs.Components.{components_snoc}
use Rattle.tonekit_sheet_inverse.proofs.Spans.{Spans, none_spans, one_spans, joined, half_spans, word_spans}
use Rattle.tonekit_sheet_laws.proofs.Loops.{range_all}
use Rattle.tonekit_sheet_inverse.proofs.Kept.{PartThere}
use Rattle.tonekit_sheet.specs.Parts.{component_bytes}

-- ---- lists of components
module _ (s : List ℕ) (o : ℕ) where
  pub carried_length : (n : ℕ) → length (carried_from s o n) ≡ n
  unfolding carried_from
  carried_length zero = refl
  carried_length (suc n) = omega (arith, length-append (carried_from s o n) (carried_at s o n ∷ []), carried_length n)

  carried_get : (n j : ℕ) → j < n → get_or (carried_from s o n) j absent_carried ≡ carried_at s o j
  unfolding carried_from
  carried_get zero j h = absurd (omega arith)
  carried_get (suc n) j h =
      split (ltb j n)
      (λ t. let b : j < n = ltb-true j n t in get_or-append (carried_from s o n) (carried_at s o n ∷ []) absent_carried j (omega (arith, carried_length n)) ∙ carried_get n j b)
      (λ t. let e : j ≡ length (carried_from s o n) = omega (arith, ltb-false j n t, carried_length n) in
      let q : j ≡ n = omega (arith, carried_length n) in
      ap (λ (k : ℕ). get_or (carried_from s o n ++ (carried_at s o n ∷ [])) k absent_carried) e
      ∙ get_or-append_seam (carried_from s o n) (carried_at s o n) [] absent_carried
      ∙ ap (carried_at s o) (sym q))

-- a list that starts at o: its kind, a component at the least, and each of them
pub record ListIs (s : List ℕ) (o : ℕ) : Type 0 where
  pub kind : byte_at s o ≡ 21
  pub some : 1 ≤ byte_at s (o + 6)
  pub parts : (j : ℕ) → j < byte_at s (o + 6) → PartThere s o j

-- what it carries
abbrev pub content_at : List ℕ → ℕ → List Carried
content_at s o = carried_from s o (byte_at s (o + 6))

-- ---- the records
module _ (s : List ℕ) (b : Bytes s) where
  pub settings_spans : byte_at s 0 ≡ 17 → Spans s 0 9 (settings_bytes (settings_at s 0))
  settings_spans k = joined (one_spans s 0 1 17 refl k) (joined (word_spans s b 1 5 refl) (word_spans s b 5 9 refl))

  -- a tone with its tail behind it
  pub tone_spans : (o e : ℕ) → e ≡ o + 24 → byte_at s o ≡ 18 → byte_at s (o + 15) ≡ 24 → Spans s o e (tone_bytes (tone_at 6 24 s o))
  tone_spans o e q k t =
      let f : tail_at 24 1 s (o + 15) ≡ u32_at s (o + 15 + 1) = rw t in
      let g : tail_at 24 5 s (o + 15) ≡ u32_at s (o + 15 + 5) = rw t in
      rw (f, g)
      (joined (joined (one_spans s o (o + 1) 18 refl k) (one_spans s (o + 1) (o + 2) (number_at s o) (omega arith) refl))
      (joined (word_spans s b (o + 2) (o + 6) (omega arith))
      (joined (one_spans s (o + 6) (o + 7) (byte_at s (o + 6)) (omega arith) refl)
      (joined (word_spans s b (o + 7) (o + 11) (omega arith))
      (joined (word_spans s b (o + 11) (o + 15) (omega arith))
      (joined (one_spans s (o + 15) (o + 15 + 1) 24 refl t)
      (joined (word_spans s b (o + 15 + 1) (o + 15 + 5) (omega arith)) (word_spans s b (o + 15 + 5) e (omega arith)))))))))

  pub accent_spans : (o e : ℕ) → e ≡ o + 18 → byte_at s o ≡ 19 → Spans s o e (accent_bytes (accent_at 2 s o))
  accent_spans o e q k =
      joined (joined (one_spans s o (o + 1) 19 refl k) (one_spans s (o + 1) (o + 2) (number_at s o) (omega arith) refl))
      (joined (word_spans s b (o + 2) (o + 6) (omega arith))
      (joined (word_spans s b (o + 6) (o + 10) (omega arith))
      (joined (word_spans s b (o + 10) (o + 14) (omega arith)) (word_spans s b (o + 14) e (omega arith)))))

  pub row_spans : (o e : ℕ) (c : Context) → e ≡ o + 6 → byte_at s o ≡ 20 → byte_at s (o + 1) ≡ c.accent → byte_at s (o + 2) ≡ c.tone → byte_at s (o + 3) ≡ c.prev
      → Spans s o e (row_bytes c (byte_at s (o + 4)) (byte_at s (o + 5)))
  row_spans o e c q k x y z =
      joined (one_spans s o (o + 1) 20 refl k)
      (joined (one_spans s (o + 1) (o + 2) c.accent (omega arith) x)
      (joined (one_spans s (o + 2) (o + 3) c.tone (omega arith) y)
      (joined (one_spans s (o + 3) (o + 4) c.prev (omega arith) z)
      (joined (one_spans s (o + 4) (o + 5) (byte_at s (o + 4)) (omega arith) refl) (one_spans s (o + 5) e (byte_at s (o + 5)) (omega arith) refl)))))

  bits_spans : (n o e : ℕ) → e ≡ o + 4 * n → Spans s o e (bits_bytes (bits_at s o n))
  unfolding bits_bytes bits_at
  bits_spans zero o e q = let z : e ≡ o = omega arith in rw z (none_spans s o)
  bits_spans (suc n) o e q = joined (word_spans s b o (o + 4) refl) (bits_spans n (o + 4) e (omega arith))

  component_spans : (o j e : ℕ) → e ≡ o + 7 + 45 * j + 45 → PartThere s o j → Spans s (o + 7 + 45 * j) e (component_bytes (carried_at s o j))
  unfolding carried_at
  component_spans o j e q k =
      let p = o + 7 + 45 * j in
      joined (one_spans s p (p + 1) 22 refl k) (joined (word_spans s b (p + 1) (p + 5) (omega arith)) (bits_spans 10 (p + 5) e (omega arith)))

  components_spans : (o n e : ℕ) → e ≡ o + 7 + 45 * n → ((j : ℕ) → j < n → PartThere s o j) → Spans s (o + 7) e (components_bytes (carried_from s o n))
  unfolding carried_from components_bytes
  components_spans o zero e q h = let z : e ≡ o + 7 = omega arith in rw z (none_spans s (o + 7))
  components_spans o (suc n) e q h =
      rw (components_snoc (carried_from s o n) (carried_at s o n))
      (joined (components_spans o n (o + 7 + 45 * n) refl (λ j l. h j (omega arith))) (component_spans o n e (omega arith) (h n (omega arith))))

  head_is : (o : ℕ) → 1 ≤ byte_at s (o + 6) → get_or (content_at s o) 0 absent_carried ≡ carried_at s o 0
  head_is o h = carried_get s o (byte_at s (o + 6)) 0 h

  pub list_spans : (o e : ℕ) → e ≡ o + list_size s o → ListIs s o → Spans s o e (list_bytes (number_at s o) (content_at s o))
  unfolding carried_at
  list_spans o e q l =
      rw (head_is o l.some, carried_length s o (byte_at s (o + 6)))
      (joined
      (joined
      (joined (one_spans s o (o + 1) 21 refl l.kind)
      (joined (one_spans s (o + 1) (o + 2) (number_at s o) (omega arith) refl)
      (joined (one_spans s (o + 2) (o + 3) (byte_at s (o + 2)) (omega arith) refl) (one_spans s (o + 3) (o + 4) (byte_at s (o + 3)) (omega arith) refl))))
      (joined (half_spans s b (o + 4) (o + 6) (omega arith)) (one_spans s (o + 6) (o + 7) (byte_at s (o + 6)) (omega arith) refl)))
      (components_spans o (byte_at s (o + 6)) e (omega arith) l.parts))

  -- ---- two lists that carry the same are equal but for their numbers
  past_number : (n m k : ℕ) (cs : List Carried) → 2 ≤ k → byte_at (list_bytes n cs) k ≡ byte_at (list_bytes m cs) k
  past_number n m zero cs h = absurd (omega arith)
  past_number n m (suc zero) cs h = absurd (omega arith)
  past_number n m (suc (suc k)) cs h = refl

  byte_alike : (o p : ℕ) → ListIs s o → ListIs s p → content_at s o ≡ content_at s p → (k : ℕ) → 2 ≤ k → k < list_size s o → byte_at s (o + k) ≡ byte_at s (p + k)
  byte_alike o p l m c k g h =
      let x = list_spans o (o + list_size s o) refl l in
      let y = list_spans p (p + list_size s p) refl m in
      let z : byte_at (list_bytes (number_at s o) (content_at s o)) k ≡ byte_at (list_bytes (number_at s p) (content_at s p)) k =
      past_number (number_at s o) (number_at s p) k (content_at s o) g ∙ ap (λ (cs : List Carried). byte_at (list_bytes (number_at s p) cs) k) c in
      let n : byte_at s (o + 6) ≡ byte_at s (p + 6) = sym (carried_length s o (byte_at s (o + 6))) ∙ ap length c ∙ carried_length s p (byte_at s (p + 6)) in
      x.byte k (omega (arith, x.ends)) ∙ z ∙ sym (y.byte k (omega (arith, y.ends)))

  pub alike : (o p : ℕ) → ListIs s o → ListIs s p → content_at s o ≡ content_at s p → same_lists s o p ≡ true
  unfolding same_lists
  alike o p l m c =
      range_all (λ k. eqb (byte_at s (o + k)) (byte_at s (p + k))) 2 (list_size s o) (omega arith)
      (λ k g h. eq-eqb (byte_at s (o + k)) (byte_at s (p + k)) (byte_alike o p l m c k g h))
