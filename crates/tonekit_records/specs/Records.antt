-- A pack as a list of records, each by its own bytes. The verdict on a record turns on those bytes and on a tally of the records before it, not on where
-- it stands.
use Rattle.std.specs.Prelude.{ℕ, ◌+◌, ◌≡◌, Bool, true, false, cond, not, ◌&&◌, ◌||◌, List, [], ◌∷◌, ◌++◌, eqb, leb, ltb, length, Result, Ok, Err}
use Rattle.tonekit_core.specs.declared.layout.TheConstants.{SETTINGS_KIND, TONE_KIND, TONE_KNOT_COUNT, TAIL_KIND, ACCENT_KIND, ACCENT_CONTOUR}
use Rattle.tonekit_core.specs.declared.layout.TheConstants.{RULE_KIND, RULE_TONE, RULE_PREV, RULE_FORM, PART_KIND, PART_KNOT_COUNT, END_KIND}
use Rattle.tonekit_core.specs.declared.Refusal.TheVariants.{Misplaced}
use Rattle.tonekit_core.specs.declared.Refusal.{Refusal}
use Rattle.spec_arithmetic.specs.Fields.{byte_at}
use Rattle.spec_arithmetic.specs.Places.{number_at}
use Rattle.spec_pack.specs.Pack.{PackRead, in_turn, due_after, size_of, settings_verdict, tone_fine, tail_verdict, accent_fine, rule_fine, part_fine, added}

-- all that the reader asks of the records before: the last kind; the numbers of tones and accents, in order; how many rules, the form of the last one and
-- how many parts it has; all parts
pub record Tally : Type 0 where
  pub last : ℕ
  pub tones : List ℕ
  pub accents : List ℕ
  pub rules : ℕ
  pub form : ℕ
  pub parts : ℕ
  pub total : ℕ

abbrev pub no_tally : Tally
no_tally = record { last = 0; tones = []; accents = []; rules = 0; form = 0; parts = 0; total = 0 }

-- number n among these numbers; 0 or one of them
unfoldable pub among : List ℕ → ℕ → Bool
among [] n = false
among (a ∷ l) n = eqb a n || among l n

unfoldable pub zero_or_among : List ℕ → ℕ → Bool
unfolding among
zero_or_among l n = eqb n 0 || among l n

-- a record's kind
abbrev pub kind : List ℕ → ℕ
kind r = byte_at r 0

-- ---- the verdict on a record r that is due, after the tally t. It stands at offset 0 of its own bytes
abbrev pub tone_verdict_of : List ℕ → Tally → Result Unit Refusal
tone_verdict_of r t = in_turn (leb 8 (length t.tones) || ltb 10 (byte_at r TONE_KNOT_COUNT)) (tone_fine r 0) (not (among t.tones (number_at r 0))) true

-- its parent is no matter here, but at End
abbrev pub accent_verdict_of : List ℕ → Tally → Result Unit Refusal
accent_verdict_of r t = in_turn (leb 8 (length t.accents)) (accent_fine ACCENT_CONTOUR r 0) (not (among t.accents (number_at r 0))) true

abbrev pub rule_verdict_of : List ℕ → Tally → Result Unit Refusal
rule_verdict_of r t = in_turn (leb 64 t.rules) (rule_fine r 0) true (zero_or_among t.tones (byte_at r RULE_TONE) && zero_or_among t.tones (byte_at r RULE_PREV))

-- "Form 2 is single": the last rule's
abbrev pub last_single : Tally → Bool
last_single t = eqb t.form 2

abbrev pub part_verdict_of : List ℕ → Tally → Result Unit Refusal
part_verdict_of r t =
    in_turn
    (leb 4 t.parts || (leb 128 t.total || ((last_single t && leb 1 t.parts) || ltb 10 (byte_at r PART_KNOT_COUNT))))
    (part_fine (last_single t) r 0)
    true
    true

unfoldable pub body_verdict_of : List ℕ → Tally → Result Unit Refusal
body_verdict_of r t =
    cond (eqb (kind r) SETTINGS_KIND) (settings_verdict r 0)
    (cond (eqb (kind r) TONE_KIND) (tone_verdict_of r t)
    (cond (eqb (kind r) TAIL_KIND) (tail_verdict r 0)
    (cond (eqb (kind r) ACCENT_KIND) (accent_verdict_of r t)
    (cond (eqb (kind r) RULE_KIND) (rule_verdict_of r t)
    (cond (eqb (kind r) PART_KIND) (part_verdict_of r t) (Ok tt))))))

-- the verdict on any whole record
unfoldable pub record_verdict_of : List ℕ → Tally → Result Unit Refusal
unfolding body_verdict_of
record_verdict_of r t = cond (not (due_after t.last (kind r))) (Err Misplaced) (body_verdict_of r t)

-- the tally once r is fine; settings and a tail leave nothing but their kind
unfoldable pub tallied : List ℕ → Tally → Tally
tallied r t =
    cond (eqb (kind r) TONE_KIND) (record { last = kind r; tones = t.tones ++ (number_at r 0 ∷ []); accents = t.accents; rules = t.rules; form = t.form; parts = t.parts; total = t.total })
    (cond (eqb (kind r) ACCENT_KIND) (record { last = kind r; tones = t.tones; accents = t.accents ++ (number_at r 0 ∷ []); rules = t.rules; form = t.form; parts = t.parts; total = t.total })
    (cond (eqb (kind r) RULE_KIND) (record { last = kind r; tones = t.tones; accents = t.accents; rules = t.rules + 1; form = byte_at r RULE_FORM; parts = 0; total = t.total })
    (cond (eqb (kind r) PART_KIND) (record { last = kind r; tones = t.tones; accents = t.accents; rules = t.rules; form = t.form; parts = t.parts + 1; total = t.total + 1 })
    (record { last = kind r; tones = t.tones; accents = t.accents; rules = t.rules; form = t.form; parts = t.parts; total = t.total }))))

-- from the tally t, records that are whole and fine one after the other, none of them End, read on to the tally u
pub data ReadsOn : Tally → List (List ℕ) → Tally → Type 0 where
  none : {t : Tally} → ReadsOn t [] t
  more : {t u : Tally} {r : List ℕ} {rs : List (List ℕ)} → length r ≡ size_of (kind r) → (kind r ≡ END_KIND → ⊥) → record_verdict_of r t ≡ Ok tt
      → ReadsOn (tallied r t) rs u → ReadsOn t (r ∷ rs) u

-- the bytes of records, one behind the other
unfoldable pub records_bytes : List (List ℕ) → List ℕ
records_bytes [] = []
records_bytes (r ∷ rs) = r ++ records_bytes rs

-- what the reader has read once they are fine, the first of them at an offset
unfoldable pub added_all : PackRead → ℕ → List (List ℕ) → PackRead
added_all st at [] = st
added_all st at (r ∷ rs) = added_all (added (kind r) at st) (at + length r) rs
