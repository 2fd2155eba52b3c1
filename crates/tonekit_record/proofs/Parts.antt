-- The parts of a judgement's record, written one after the other, are the record, of 64 bytes; and a judgement's record is that of its
-- fields. Assumes nothing.
use Rattle.std.proofs.Common.{ℕ, ◌+◌, ◌≤◌, ◌≡◌, refl, sym, ap, ◌∙◌, List, [], ◌∷◌, ◌++◌, append_assoc, append-nil, zero-add, arith, length, length-append, drop_of_length-le, Float}
use Rattle.std.proofs.Common.{Option, Some, None}
use lib.Seq.{sets, sets-eq}
use Rattle.tonekit_core.specs.Words.{measured_number}
use Rattle.tonekit_core.specs.declared.layout.TheConstants.{JUDGEMENT_KIND}
use Rattle.spec_arithmetic.specs.Fields.{le16, f32_bytes, f32s_bytes}
use Rattle.tonekit_bytes.proofs.Write.{more, f32s_length}
use Rattle.spec_judgement.specs.declared.Delta.{Delta}
use Rattle.spec_judgement.specs.declared.Deltas.{Deltas}
use Rattle.spec_judgement.specs.Record.{nearest_bytes, score_bytes, one_bytes, delta_bytes, judgement_bytes}
use Rattle.tonekit_record.specs.declared.DeltaFields.{DeltaFields}
use Rattle.tonekit_record.specs.declared.JudgementFields.{JudgementFields}
use Rattle.tonekit_record.specs.Fields.{kind_number, kinds_count, written_scores, written_delta, written_deltas, fields_bytes, kind_of, amount_of, delta_count, delta_fields, fields_of}
use Rattle.spec_judgement.specs.declared.ToneJudgement.{ToneJudgement}

-- kind, expected, tone count; measured, issues
abbrev pub head_bytes : ℕ → ℕ → List ℕ
head_bytes expected tones = JUDGEMENT_KIND ∷ expected ∷ tones ∷ []

abbrev pub tail_bytes : ℕ → ℕ → List ℕ
tail_bytes measured issues = (measured ∷ []) ++ le16 issues

-- ---- a judgement's record is that of its fields
pub kind_written : (d : Option Delta) → kind_number (delta_fields d).kind ≡ kind_of d
kind_written None = refl
kind_written (Some d) = refl

kinds_written : (first second : Option Delta) → kinds_count (delta_fields first) (delta_fields second) ≡ delta_count (record { first = first; second = second })
kinds_written None None = refl
kinds_written None (Some d) = refl
kinds_written (Some d) None = refl
kinds_written (Some c) (Some d) = refl

pub count_written : (ds : Deltas) → kinds_count (delta_fields ds.first) (delta_fields ds.second) ≡ delta_count ds
count_written ds = kinds_written ds.first ds.second

delta_written : (d : Option Delta) → written_delta (delta_fields d) ≡ one_bytes d
unfolding written_delta one_bytes
delta_written None = refl
delta_written (Some d) = refl

deltas_written : (ds : Deltas) → written_deltas (delta_fields ds.first) (delta_fields ds.second) ≡ delta_bytes ds
unfolding written_deltas delta_bytes
deltas_written ds = rw (count_written ds) (rw (delta_written ds.first) (rw (delta_written ds.second) refl))

scores_written : (j : ToneJudgement) → written_scores (fields_of j) ≡ score_bytes j
unfolding written_scores score_bytes
scores_written j = refl

pub record_written : (expected tones : ℕ) (j : ToneJudgement) → fields_bytes expected tones (fields_of j) ≡ judgement_bytes expected tones j
unfolding fields_bytes judgement_bytes
record_written expected tones j = rw (scores_written j) (rw (deltas_written j.deltas) refl)

-- ---- the lengths
pub written_scores_length : (j : JudgementFields) → length (written_scores j) ≡ 15
unfolding written_scores nearest_bytes
written_scores_length j = refl

pub written_deltas_length : (first second : DeltaFields) → length (written_deltas first second) ≡ 11
unfolding written_deltas written_delta
written_deltas_length first second = refl

pub scores_length : (j : ToneJudgement) → length (score_bytes j) ≡ 15
unfolding score_bytes nearest_bytes
scores_length j = refl

pub deltas_length : (ds : Deltas) → length (delta_bytes ds) ≡ 11
unfolding delta_bytes one_bytes
deltas_length ds = refl

-- ---- a delta's two puts: of its fields, by which a record is written, and of a judgement's delta, for callers: no proof here cites that
pub delta_fields_parts : (l : List ℕ) {o o' : List ℕ} (at : ℕ) (d : DeltaFields) {k : ℕ} → k ≡ kind_number d.kind → o ≡ sets l at (k ∷ [])
    → o' ≡ sets o (at + 1) (f32_bytes d.amount) → o' ≡ sets l at (written_delta d)
unfolding written_delta
delta_fields_parts l at d q e e' =
    more l (kind_number d.kind ∷ []) (f32_bytes d.amount) at (at + 1) (e ∙ ap (λ (v : ℕ). sets l at (v ∷ [])) q) refl e'

pub delta_parts : (l : List ℕ) {o o' : List ℕ} (at : ℕ) (d : Option Delta) {k : ℕ} {v : Float} → k ≡ kind_of d → v ≡ amount_of d → o ≡ sets l at (k ∷ [])
    → o' ≡ sets o (at + 1) (f32_bytes v) → o' ≡ sets l at (one_bytes d)
delta_parts l {o} at d q a e e' =
    delta_fields_parts l at (delta_fields d) (q ∙ sym (kind_written d)) e (e' ∙ ap (λ (v : Float). sets o (at + 1) (f32_bytes v)) a)
    ∙ ap (λ (b : List ℕ). sets l at b) (delta_written d)

-- ---- five parts of these lengths, one after the other
module _ (head fs ss ds end : List ℕ) (h : length head ≡ 3) (f : length fs ≡ 32) (s : length ss ≡ 15) (d : length ds ≡ 11) where
  parts : (l : List ℕ) {o₁ o₂ o₃ o₄ o₅ : List ℕ} → o₁ ≡ sets l 0 head → o₂ ≡ sets o₁ 3 fs → o₃ ≡ sets o₂ 35 ss → o₄ ≡ sets o₃ 50 ds
      → o₅ ≡ sets o₄ 61 end → o₅ ≡ sets l 0 (head ++ (fs ++ (ss ++ (ds ++ end))))
  parts l e₁ e₂ e₃ e₄ e₅ =
      let p₂ = more l head fs 0 3 e₁ (omega (arith, h)) e₂ in
      let p₃ = more l (head ++ fs) ss 0 35 p₂ (simp length-append (omega (arith, h, f))) e₃ in
      let p₄ = more l ((head ++ fs) ++ ss) ds 0 50 p₃ (simp length-append (omega (arith, h, f, s))) e₄ in
      let p₅ = more l (((head ++ fs) ++ ss) ++ ds) end 0 61 p₄ (simp length-append (omega (arith, h, f, s, d))) e₅ in
      let q : (((head ++ fs) ++ ss) ++ ds) ++ end ≡ head ++ (fs ++ (ss ++ (ds ++ end))) = simp append_assoc in
      p₅ ∙ ap (λ (b : List ℕ). sets l 0 b) q

module _ (expected tones : ℕ) (j : JudgementFields) (e : length j.loglik ≡ 8) where
  pub fields_length : length (fields_bytes expected tones j) ≡ 64
  unfolding fields_bytes
  fields_length = simp (length-append) (omega (arith, f32s_length j.loglik, written_scores_length j, written_deltas_length j.first j.second))

  pub fields_parts : (l : List ℕ) {o₁ o₂ o₃ o₄ o₅ : List ℕ} → o₁ ≡ sets l 0 (head_bytes expected tones) → o₂ ≡ sets o₁ 3 (f32s_bytes j.loglik)
      → o₃ ≡ sets o₂ 35 (written_scores j) → o₄ ≡ sets o₃ 50 (written_deltas j.first j.second) → o₅ ≡ sets o₄ 61 (tail_bytes j.measured j.issues)
      → o₅ ≡ sets l 0 (fields_bytes expected tones j)
  unfolding fields_bytes
  fields_parts l e₁ e₂ e₃ e₄ e₅ =
      parts (head_bytes expected tones) (f32s_bytes j.loglik) (written_scores j) (written_deltas j.first j.second) (tail_bytes j.measured j.issues)
      refl (omega (arith, f32s_length j.loglik, e)) (written_scores_length j) (written_deltas_length j.first j.second) l e₁ e₂ e₃ e₄ e₅

module _ (expected tones : ℕ) (j : ToneJudgement) (e : length j.loglik ≡ 8) where
  pub record_length : length (judgement_bytes expected tones j) ≡ 64
  unfolding judgement_bytes
  record_length = simp (length-append) (omega (arith, f32s_length j.loglik, scores_length j, deltas_length j.deltas))

  pub record_parts : (l : List ℕ) {o₁ o₂ o₃ o₄ o₅ : List ℕ} → o₁ ≡ sets l 0 (head_bytes expected tones) → o₂ ≡ sets o₁ 3 (f32s_bytes j.loglik)
      → o₃ ≡ sets o₂ 35 (score_bytes j) → o₄ ≡ sets o₃ 50 (delta_bytes j.deltas) → o₅ ≡ sets o₄ 61 (tail_bytes (measured_number j.measured) j.issues)
      → o₅ ≡ sets l 0 (judgement_bytes expected tones j)
  unfolding judgement_bytes
  record_parts l e₁ e₂ e₃ e₄ e₅ =
      parts (head_bytes expected tones) (f32s_bytes j.loglik) (score_bytes j) (delta_bytes j.deltas) (tail_bytes (measured_number j.measured) j.issues)
      refl (omega (arith, f32s_length j.loglik, e)) (scores_length j) (deltas_length j.deltas) l e₁ e₂ e₃ e₄ e₅

-- bytes that take the place of as many
pub whole : (bs l : List ℕ) → length bs ≡ length l → sets l 0 bs ≡ bs
whole bs l e =
    let k : length l ≤ 0 + length bs = omega arith in
    sets-eq bs l 0 (rw zero-add (omega arith))
    ∙ (ap (λ (r : List ℕ). bs ++ r) (drop_of_length-le l k) ∙ append-nil bs)
