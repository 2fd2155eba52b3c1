-- The reader's verdict on a record is the one from its own bytes and the tally (`verdict_same`), and the tally goes along with the reader's state
-- (`tally_next`). Assumes nothing.
use Rattle.std.proofs.Common.{ℕ, ◌+◌, ◌-◌, ◌≤◌, ◌<◌, ◌≡◌, refl, sym, ◌∙◌, ap, ap₂, Bool, true, false, not, ◌&&◌, ◌||◌, List, [], ◌∷◌, ◌++◌, map, arith, eqb, leb, ltb, le-ltb, length, length-append, get_or}
use mathlib.Core.List.{map-append}
use borrow.Author.Tests.{lt-leb}
use lib.ListN.{length-map}
use lib.Seq.{get_or_at}
use Rattle.spec_arithmetic.specs.Fields.{byte_at}
use Rattle.spec_arithmetic.specs.Places.{number_at}
use Rattle.spec_pack.specs.Pack.{PackRead, in_turn, due_after, size_of, holds, zero_or_held, tone_verdict, accent_verdict, rule_verdict, part_verdict, body_verdict, record_verdict, part_fine, added, pack_reader}
use Rattle.tonekit_core.proofs.Split.{split}
use Rattle.tonekit_pack.specs.Going.{reached}
use Rattle.tonekit_pack.proofs.Records.{Due, due_is, settings, tone, tail, accent, rule, part, finish}
use Rattle.tonekit_records.specs.Records.{Tally, no_tally, among, zero_or_among, kind, tone_verdict_of, accent_verdict_of, rule_verdict_of, last_single, part_verdict_of, body_verdict_of, record_verdict_of, tallied}
use Rattle.tonekit_bytes.proofs.Stands.{Stands}
use Rattle.tonekit_records.proofs.OwnBytes.{byte_same, settings_same, tone_same, tail_same, accent_same, rule_same, part_same}

-- t is the tally of what the reader has read
pub record TallyOf (s : List ℕ) (st : PackRead) (t : Tally) : Type 0 where
  pub last : st.last ≡ t.last
  pub tones : map (number_at s) st.tones ≡ t.tones
  pub accents : map (number_at s) st.accents ≡ t.accents
  pub rules : length st.rules ≡ t.rules
  pub some_rule : 4 ≤ reached st.last → 1 ≤ length st.rules
  pub form : 1 ≤ length st.rules → byte_at s (get_or st.rules (length st.rules - 1) 0 + 6) ≡ t.form
  pub parts : st.parts ≡ t.parts
  pub total : st.total ≡ t.total

pub tally_start : (s : List ℕ) → TallyOf s pack_reader.start.st no_tally
tally_start s = record { last = refl; tones = refl; accents = refl; rules = refl; some_rule = λ l. absurd (omega arith); form = λ l. absurd (omega arith); parts = refl; total = refl }

-- ---- the verdict
holds_same : (s os : List ℕ) (n : ℕ) → holds s os n ≡ among (map (number_at s) os) n
unfolding holds among
holds_same s [] n = refl
holds_same s (o ∷ os) n = ap (λ b. eqb (number_at s o) n || b) (holds_same s os n)

pub zero_same : (s os : List ℕ) (n : ℕ) → zero_or_held s os n ≡ zero_or_among (map (number_at s) os) n
unfolding zero_or_held zero_or_among
zero_same s os n = ap (λ b. eqb n 0 || b) (holds_same s os n)

in_turn_lem : {a b c d e f g h : Bool} → a ≡ e → b ≡ f → c ≡ g → d ≡ h → in_turn a b c d ≡ in_turn e f g h
in_turn_lem p q u v = λ i. in_turn (p i) (q i) (u i) (v i)

-- a test that is not made
passes : true ≡ true
passes = refl

-- a record's size, by its kind
module _ (r : List ℕ) (whole : length r ≡ size_of (kind r)) where
  size_at : (k : ℕ) → k ≡ kind r → length r ≡ size_of k
  size_at k e = whole ∙ ap size_of (sym e)

-- the record r at an offset, behind what the tally t counts
module _ (s : List ℕ) (at : ℕ) (st : PackRead) (r : List ℕ) (t : Tally) (h : Stands s at r) (whole : length r ≡ size_of (kind r)) (f : TallyOf s st t) where
  -- as many offsets as numbers
  count : (os ns : List ℕ) → map (number_at s) os ≡ ns → length os ≡ length ns
  count os ns e = sym (length-map os (number_at s)) ∙ ap length e

  tone_verdict_lem : length r ≡ size_of 2 → tone_verdict s at st ≡ tone_verdict_of r t
  unfolding tone_verdict size_of
  tone_verdict_lem n =
      in_turn_lem (ap₂ (λ m x. leb 8 m || ltb 10 x) (count st.tones t.tones f.tones) (byte_same s at r h (at + 6) 6 refl (omega arith))) (tone_same s at r h n)
      (ap not (holds_same s st.tones (number_at s at) ∙ ap₂ among f.tones (byte_same s at r h (at + 1) 1 refl (omega arith)))) passes

  accent_verdict_lem : length r ≡ size_of 3 → accent_verdict s at st ≡ accent_verdict_of r t
  unfolding accent_verdict size_of
  accent_verdict_lem n =
      in_turn_lem (ap (leb 8) (count st.accents t.accents f.accents)) (accent_same s at r h n)
      (ap not (holds_same s st.accents (number_at s at) ∙ ap₂ among f.accents (byte_same s at r h (at + 1) 1 refl (omega arith)))) passes

  rule_verdict_lem : length r ≡ size_of 4 → rule_verdict s at st ≡ rule_verdict_of r t
  unfolding rule_verdict size_of
  rule_verdict_lem n =
      in_turn_lem (ap (leb 64) f.rules) (rule_same s at r h n) passes
      (ap₂ (λ x y. x && y) (zero_same s st.tones (byte_at s (at + 3)) ∙ ap₂ zero_or_among f.tones (byte_same s at r h (at + 3) 3 refl (omega arith)))
      (zero_same s st.tones (byte_at s (at + 4)) ∙ ap₂ zero_or_among f.tones (byte_same s at r h (at + 4) 4 refl (omega arith))))

  part_verdict_lem : 4 ≤ reached st.last → length r ≡ size_of 5 → part_verdict s at st ≡ part_verdict_of r t
  unfolding part_verdict size_of
  part_verdict_lem l n =
      let form = f.form (f.some_rule l) in
      let knots = byte_same s at r h (at + 5) 5 refl (omega arith) in
      in_turn_lem (λ i. leb 4 (f.parts i) || (leb 128 (f.total i) || ((eqb (form i) 2 && leb 1 (f.parts i)) || ltb 10 (knots i))))
      (ap (λ x. part_fine (eqb x 2) s at) form ∙ part_same s at r h (last_single t) n) passes passes

  -- of each kind that is due
  body_same : {k : ℕ} → Due st.last k → k ≡ kind r → body_verdict k s at st ≡ body_verdict_of r t
  unfolding body_verdict body_verdict_of
  body_same (settings e) q = rw (sym q) (settings_same s at r h (size_at r whole 1 q))
  body_same (tone l u) q = rw (sym q) (tone_verdict_lem (size_at r whole 2 q))
  body_same (tail e u) q = rw (sym q) (tail_same s at r h (size_at r whole 7 q))
  body_same (accent l u) q = rw (sym q) (accent_verdict_lem (size_at r whole 3 q))
  body_same (rule l u) q = rw (sym q) (rule_verdict_lem (size_at r whole 4 q))
  body_same (part l u) q = rw (sym q) (part_verdict_lem l (size_at r whole 5 q))
  body_same (finish l u) q = rw (sym q)

  pub verdict_same : 0 < length r → record_verdict s at st ≡ record_verdict_of r t
  unfolding record_verdict record_verdict_of body_verdict tone_verdict accent_verdict rule_verdict part_verdict
  verdict_same some =
      let b : byte_at s at ≡ kind r = byte_same s at r h at 0 (omega arith) some in
      let i = h.fits in
      let w = whole in
      let reaches : ltb (length s) (at + size_of (kind r)) ≡ false = le-ltb (length s) (at + size_of (kind r)) (omega arith) in
      rw (lt-leb (length s) at (omega arith), b, f.last)
      (split (due_after t.last (kind r))
      (λ d. rw (d, reaches) (body_same (rw f.last (due_is t.last (kind r) d)) refl))
      (λ d. rw d))

-- ---- the tally once the record is fine
module _ (s : List ℕ) (at : ℕ) (st : PackRead) (r : List ℕ) (t : Tally) (h : Stands s at r) (whole : length r ≡ size_of (kind r)) (f : TallyOf s st t) where
  number_here : 2 ≤ length r → number_at s at ≡ number_at r 0
  number_here l = byte_same s at r h (at + 1) 1 refl (omega arith)

  -- one number more
  numbers : (os ns : List ℕ) → map (number_at s) os ≡ ns → number_at s at ≡ number_at r 0 → map (number_at s) (os ++ (at ∷ [])) ≡ ns ++ (number_at r 0 ∷ [])
  numbers os ns e b = map-append (number_at s) os (at ∷ []) ∙ ap₂ (λ x y. x ++ (y ∷ [])) e b

  next : {k : ℕ} → Due st.last k → k ≡ kind r → (k ≡ 6 → ⊥) → TallyOf s (added k at st) (tallied r t)
  unfolding added tallied size_of
  next (settings e) q n = rw (sym q) (record { last = refl; tones = f.tones; accents = f.accents; rules = f.rules; some_rule = λ l. absurd (omega arith); form = f.form; parts = f.parts; total = f.total })
  next (tone l u) q n =
      rw (sym q) (record {
        last = refl;
        tones = numbers st.tones t.tones f.tones (number_here (omega (arith, size_at r whole 2 q)));
        accents = f.accents;
        rules = f.rules;
        some_rule = λ l. absurd (omega arith);
        form = f.form;
        parts = f.parts;
        total = f.total;
      })
  next (tail e u) q n = rw (sym q) (record { last = refl; tones = f.tones; accents = f.accents; rules = f.rules; some_rule = λ l. absurd (omega arith); form = f.form; parts = f.parts; total = f.total })
  next (accent l u) q n =
      rw (sym q) (record {
        last = refl;
        tones = f.tones;
        accents = numbers st.accents t.accents f.accents (number_here (omega (arith, size_at r whole 3 q)));
        rules = f.rules;
        some_rule = λ l. absurd (omega arith);
        form = f.form;
        parts = f.parts;
        total = f.total;
      })
  next (rule l u) q n =
      let m = size_at r whole 4 q in
      let longer = length-append st.rules (at ∷ []) in
      let newest = get_or_at st.rules at [] 0 (length (st.rules ++ (at ∷ [])) - 1) (omega (arith, longer)) in
      rw (sym q) (record {
        last = refl;
        tones = f.tones;
        accents = f.accents;
        rules = longer ∙ ap (λ x. x + 1) f.rules;
        some_rule = λ l. omega (arith, longer);
        form = λ l. rw newest (byte_same s at r h (at + 6) 6 refl (omega arith));
        parts = refl;
        total = f.total;
      })
  next (part l u) q n =
      rw (sym q) (record { last = refl; tones = f.tones; accents = f.accents; rules = f.rules; some_rule = λ z. f.some_rule l; form = f.form; parts = ap (λ x. x + 1) f.parts; total = ap (λ x. x + 1) f.total })
  next (finish l u) q n = absurd (n refl)

  pub tally_next : due_after st.last (kind r) ≡ true → (kind r ≡ 6 → ⊥) → TallyOf s (added (kind r) at st) (tallied r t)
  tally_next d n = next (due_is st.last (kind r) d) refl n
