-- The accents of a pack's book, each with its rules, are those of its records (`accents_own`). Assumes nothing.
use Rattle.std.proofs.Common.{ℕ, ◌+◌, ◌-◌, ◌≤◌, ◌<◌, ◌≡◌, refl, sym, ◌∙◌, ap, ap₂, subst, true, cond, ◌&&◌, ◌||◌, List, [], ◌∷◌, ◌++◌, map, append_assoc, arith, eqb, leb, ltb, lt-ltb, le-ltb, eqb-true, ltb-false, length, get_or, drop, get_or-append-add, get_or-drop}
use borrow.Author.Tests.{eqb-false}
use lib.ListN.{get_or-append}
use Rattle.std.specs.Prelude.{Ok}
use Rattle.spec_arithmetic.specs.Fields.{byte_at}
use Rattle.spec_arithmetic.specs.Places.{number_at}
use Rattle.spec_pack.specs.Pack.{PackRead, size_of, rule_fine, part_fine, added, pack_reader}
use Rattle.tonekit_core.proofs.Split.{split, both, either, neither}
use Rattle.tonekit_pack.proofs.Records.{passed, size_pos}
use Rattle.spec_lookup.specs.Lookup.{to_rule}
use Rattle.spec_lookup.specs.Source.{accent_at}
use Rattle.tonekit_bytes.proofs.Stands.{Stands, stands_front}
use Rattle.tonekit_records.specs.Records.{Tally, no_tally, zero_or_among, kind, last_single, body_verdict_of, ReadsOn, none, more, records_bytes, added_all}
use Rattle.tonekit_records.proofs.OwnBytes.{byte_same, u32_same}
use Rattle.tonekit_records.proofs.Loading.{fine_body, drop_behind}
use Rattle.tonekit_book.specs.Book.{Rule, BookAccent, tabulate, rule_at, pack_accent, book_of}
use Rattle.tonekit_book.specs.Groups.{Groups, grouped_with, grouped, accent_of_group}
use Rattle.tonekit_book.proofs.Tabulate.{tabulate_none, tabulate_some}
use Rattle.tonekit_book.proofs.Lasting.{accent_grew, rule_grew, other_grew, lasts, one_longer, stays}
use Rattle.tonekit_book.proofs.OwnRule.{FineParts, rule_own}

-- of all rules, those before the accent at place a; all of them if there is none
abbrev before : PackRead → ℕ → ℕ
before fin a = cond (ltb a (length fin.accents)) (get_or fin.firsts a 0) (length fin.rules)

-- what is still to come after a accents and q rules, where fin is the last state: by offsets, and by the records' own bytes, which begin with those parts
record ToCome (s : List ℕ) (fin : PackRead) (a q : ℕ) (g : Groups) (bytes : List ℕ) : Type 0 where
  accents : tabulate (pack_accent s fin) (length fin.accents - a) a ≡ map accent_of_group g.accents
  rules : (owner : ℕ) → tabulate (λ k. rule_at s owner (get_or fin.rules k 0)) (before fin a - q) q ≡ map (λ (r : List ℕ). rule_at r owner 0) g.rules
  reach : q ≤ before fin a
  parts : FineParts g.parts
  rest : List ℕ
  front : bytes ≡ records_bytes g.parts ++ rest
  over : byte_at rest 0 ≡ 5 → ⊥

-- no record is left
nothing_left : (s : List ℕ) (st : PackRead) (beyond : List ℕ) → ToCome s st (length st.accents) (length st.rules) (record { parts = []; rules = []; accents = [] }) (6 ∷ beyond)
unfolding records_bytes
nothing_left s st beyond =
    let None-more = le-ltb (length st.accents) (length st.accents) (omega arith) in
    let e : before st (length st.accents) ≡ length st.rules = rw None-more in
    record {
      accents = tabulate_none _ _ _ (omega arith);
      rules = λ owner. tabulate_none _ _ _ (omega arith);
      reach = omega arith;
      parts = tt;
      rest = 6 ∷ beyond;
      front = refl;
      over = λ z. omega arith;
    }

-- ---- one record more in front
not_first : (r bytes : List ℕ) (k : ℕ) → byte_at r 0 ≡ k → (k ≡ 5 → ⊥) → 0 < length r → byte_at (r ++ bytes) 0 ≡ 5 → ⊥
not_first r bytes k e n l z = n (sym e ∙ sym (get_or-append r bytes 0 0 l) ∙ z)

module _ (s : List ℕ) (at : ℕ) (fin : PackRead) (a q : ℕ) (r : List ℕ) (g : Groups) (bytes : List ℕ) where
  -- settings, tones and their tails
  other_step : (k : ℕ) → byte_at r 0 ≡ k → (k ≡ 5 → ⊥) → 0 < length r → ToCome s fin a q g bytes
      → ToCome s fin a q (record { parts = []; rules = g.rules; accents = g.accents }) (r ++ bytes)
  unfolding records_bytes
  other_step k e n l x = record { accents = x.accents; rules = x.rules; reach = x.reach; parts = tt; rest = r ++ bytes; front = refl; over = not_first r bytes k e n l }

  part_step : byte_at r 0 ≡ 5 → length r ≡ 46 → byte_at r 5 ≤ 10 → ToCome s fin a q g bytes
      → ToCome s fin a q (record { parts = r ∷ g.parts; rules = g.rules; accents = g.accents }) (r ++ bytes)
  unfolding records_bytes
  part_step e n few x = record {
    accents = x.accents;
    rules = x.rules;
    reach = x.reach;
    parts = (e, n, few, x.parts);
    rest = x.rest;
    front = ap (λ y. r ++ y) x.front ∙ sym (append_assoc r (records_bytes g.parts) x.rest);
    over = x.over;
  }

  rule_step : byte_at r 0 ≡ 4 → length r ≡ 7 → (byte_at r 6 ≡ 1 → ⊥) → drop at s ≡ r ++ bytes → at ≤ length s → get_or fin.rules q 0 ≡ at
      → ToCome s fin a (q + 1) g bytes → ToCome s fin a q (record { parts = []; rules = (r ++ records_bytes g.parts) ∷ g.rules; accents = g.accents }) (r ++ bytes)
  unfolding records_bytes
  rule_step e n form c l here x =
      let own = r ++ records_bytes g.parts in
      let c1 : drop at s ≡ own ++ x.rest = c ∙ ap (λ y. r ++ y) x.front ∙ sym (append_assoc r (records_bytes g.parts) x.rest) in
      let st = stands_front s at own x.rest c1 l in
      let m = length own in
      let z : m + 0 ≡ m = omega arith in
      let next : byte_at s (at + m) ≡ byte_at x.rest 0 = sym (get_or-drop at s m 0) ∙ ap (λ y. get_or y m 0) c1 ∙ (ap (λ k. get_or (own ++ x.rest) k 0) (sym z) ∙ get_or-append-add own x.rest 0 0) in
      let same : (owner : ℕ) → rule_at s owner (get_or fin.rules q 0) ≡ rule_at own owner 0 =
      λ owner. ap (rule_at s owner) here ∙ rule_own s at owner r g.parts n x.parts form st (λ y. x.over (sym next ∙ y)) in
      record {
        accents = x.accents;
        rules = λ owner. tabulate_some _ _ (before fin a - (q + 1)) q (omega (arith, x.reach)) ∙ ap₂ (λ (y : Rule) (ys : List Rule). y ∷ ys) (same owner) (x.rules owner);
        reach = omega (arith, x.reach);
        parts = tt;
        rest = r ++ bytes;
        front = refl;
        over = not_first r bytes 4 e (λ z. omega arith) (omega arith);
      }

  -- an accent by its own bytes
  accent_own : length r ≡ 19 → Stands s at r → accent_at 3 s at ≡ accent_at 3 r 0
  accent_own n h =
      let b = byte_same s at r h (at + 1) 1 refl (omega arith) in
      let c = u32_same s at r h (at + 3) 3 refl (omega arith) in
      let o = u32_same s at r h (at + 7) 7 refl (omega arith) in
      let f = u32_same s at r h (at + 11) 11 refl (omega arith) in
      let t = u32_same s at r h (at + 15) 15 refl (omega arith) in
      λ i. record { number = b i; contour = c i; onset = o i; offset = f i; turning = t i }

  accent_step : byte_at r 0 ≡ 3 → length r ≡ 19 → Stands s at r → a < length fin.accents → get_or fin.accents a 0 ≡ at → get_or fin.firsts a 0 ≡ q
      → ToCome s fin (a + 1) q g bytes → ToCome s fin a q (record { parts = []; rules = []; accents = record { head = r; rules = g.rules } ∷ g.accents }) (r ++ bytes)
  unfolding records_bytes
  accent_step e n h low here firsts x =
      let some = lt-ltb a (length fin.accents) low in
      let b : before fin a ≡ q = rw some firsts in
      let parent = byte_same s at r h (at + 2) 2 refl (omega arith) in
      let number = byte_same s at r h (at + 1) 1 refl (omega arith) in
      let own : (o : ℕ) → o ≡ at → tabulate (λ k. rule_at s (number_at s o) (get_or fin.rules k 0)) (to_rule fin a - q) q ≡ map (λ (y : List ℕ). rule_at y (number_at r 0) 0) g.rules =
      λ o w. x.rules (number_at s o) ∙ ap (λ m. map (λ (y : List ℕ). rule_at y m 0) g.rules) (ap (number_at s) w ∙ number) in
      let tolerances = ap (accent_at 3 s) here ∙ accent_own n h in
      let above = ap (λ o. byte_at s (o + 2)) here ∙ parent in
      let rules = ap (λ m. tabulate (λ k. rule_at s (number_at s (get_or fin.accents a 0)) (get_or fin.rules k 0)) (to_rule fin a - m) m) firsts ∙ own (get_or fin.accents a 0) here in
      let accent : pack_accent s fin a ≡ accent_of_group (record { head = r; rules = g.rules }) = λ i. record { accent = tolerances i; parent = above i; rules = rules i } in
      record {
        accents = tabulate_some _ _ (length fin.accents - (a + 1)) a (omega arith) ∙ ap₂ (λ (y : BookAccent) (ys : List BookAccent). y ∷ ys) accent x.accents;
        rules = λ owner. tabulate_none _ _ _ (omega arith);
        reach = omega arith;
        parts = tt;
        rest = r ++ bytes;
        front = refl;
        over = not_first r bytes 3 e (λ z. omega arith) (omega arith);
      }

-- ---- what a record that is fine shows of its own bytes
pub rule_form_lem : (r : List ℕ) (t : Tally) → body_verdict_of r t ≡ Ok tt → kind r ≡ 4 → byte_at r 6 ≡ 1 → ⊥
unfolding body_verdict_of
rule_form_lem r t e k one =
    let p = passed (leb 64 t.rules) (rule_fine r 0) true (zero_or_among t.tones (byte_at r 3) && zero_or_among t.tones (byte_at r 4)) (rw k at e) in
    let b = both (leb (byte_at r 5) 2) (eqb (byte_at r 6) 2 || eqb (byte_at r 6) 3) p.ranges in
    either (eqb (byte_at r 6) 2) (eqb (byte_at r 6) 3) b.1 (λ z. let y = eqb-true (byte_at r 6) 2 z in omega arith) (λ z. let y = eqb-true (byte_at r 6) 3 z in omega arith)

pub part_few : (r : List ℕ) (t : Tally) → body_verdict_of r t ≡ Ok tt → kind r ≡ 5 → byte_at r 5 ≤ 10
unfolding body_verdict_of
part_few r t e k =
    let last = (last_single t && leb 1 t.parts) || ltb 10 (byte_at r 5) in
    let p = passed (leb 4 t.parts || (leb 128 t.total || last)) (part_fine (last_single t) r 0) true true (rw k at e) in
    let n = neither (leb 4 t.parts) (leb 128 t.total || last) p.room in
    let m = neither (leb 128 t.total) last n.1 in
    ltb-false 10 (byte_at r 5) (neither (last_single t && leb 1 t.parts) (ltb 10 (byte_at r 5)) m.1).1

-- ---- all records
-- as many entries in firsts as accents
paired : (k at : ℕ) (st : PackRead) → length st.firsts ≡ length st.accents → length (added k at st).firsts ≡ length (added k at st).accents
paired k at st b =
    split (eqb k 3)
    (λ t. let g = accent_grew k at st (eqb-true k 3 t) in
    ap length g.firsts_are ∙ one_longer st.firsts (length st.rules) ∙ ap (λ n. n + 1) b ∙ sym (ap length g.accents_are ∙ one_longer st.accents at))
    (λ t. split (eqb k 4)
    (λ u. let g = rule_grew k at st (eqb-true k 4 u) in ap length g.firsts_are ∙ b ∙ sym (ap length g.accents_are))
    (λ u. let g = other_grew k at st t u in ap length g.firsts_are ∙ b ∙ sym (ap length g.accents_are)))

module _ (s beyond : List ℕ) where
  counts : {a b q p : ℕ} (fin : PackRead) (g : Groups) (bytes : List ℕ) → a ≡ b → q ≡ p → ToCome s fin a q g bytes → ToCome s fin b p g bytes
  counts {a} {b} {q} {p} fin g bytes e f x = subst (λ (n : ℕ). ToCome s fin b n g bytes) f (subst (λ (n : ℕ). ToCome s fin n q g bytes) e x)

  from_records : {t u : Tally} {rs : List (List ℕ)} → ReadsOn t rs u → (at : ℕ) (st : PackRead) → length st.firsts ≡ length st.accents
      → drop at s ≡ records_bytes rs ++ (6 ∷ beyond) → at ≤ length s
      → ToCome s (added_all st at rs) (length st.accents) (length st.rules) (grouped rs) (records_bytes rs ++ (6 ∷ beyond))
  unfolding added_all grouped records_bytes size_of
  from_records none at st b c l = nothing_left s st beyond
  from_records {t} (more {r = r} {rs = rs} w n fine x) at st b c l =
      let bytes = records_bytes rs ++ (6 ∷ beyond) in
      let c1 : drop at s ≡ r ++ bytes = c ∙ append_assoc r (records_bytes rs) (6 ∷ beyond) in
      let h = stands_front s at r bytes c1 l in
      let st1 = added (kind r) at st in
      let fin = added_all st1 (at + length r) rs in
      let some : 0 < length r = omega (arith, w, size_pos (kind r)) in
      let ih = from_records x (at + length r) st1 (paired (kind r) at st b) (drop_behind s at r bytes c1) h.fits in
      let la = lasts rs (at + length r) st1 in
      let body = fine_body r t fine in
      let after : Groups → Type 0 = λ y. ToCome s fin (length st.accents) (length st.rules) y (r ++ bytes) in
      subst (λ (y : List ℕ). ToCome s fin (length st.accents) (length st.rules) (grouped_with r (grouped rs)) y) (sym (append_assoc r (records_bytes rs) (6 ∷ beyond)))
      (split (eqb (kind r) 3)
      (λ k3. let k = eqb-true (kind r) 3 k3 in
      let v = accent_grew (kind r) at st k in
      let many = ap length v.accents_are ∙ one_longer st.accents at in
      subst after (sym (rw k3))
      (accent_step s at fin (length st.accents) (length st.rules) r (grouped rs) bytes k (w ∙ ap size_of k) h (omega (arith, la.accents.long, many))
      (stays st.accents st1.accents fin.accents at v.accents_are la.accents)
      (ap (λ i. get_or fin.firsts i 0) (sym b) ∙ stays st.firsts st1.firsts fin.firsts (length st.rules) v.firsts_are la.firsts)
      (counts fin (grouped rs) bytes many (ap length v.rules_are) ih)))
      (λ k3. split (eqb (kind r) 4)
      (λ k4. let k = eqb-true (kind r) 4 k4 in
      let v = rule_grew (kind r) at st k in
      subst after (sym (rw (k3, k4)))
      (rule_step s at fin (length st.accents) (length st.rules) r (grouped rs) bytes k (w ∙ ap size_of k) (rule_form_lem r t body k) c1 l
      (stays st.rules st1.rules fin.rules at v.rules_are la.rules)
      (counts fin (grouped rs) bytes (ap length v.accents_are) (ap length v.rules_are ∙ one_longer st.rules at) ih)))
      (λ k4. let v = other_grew (kind r) at st k3 k4 in
      let x1 = counts fin (grouped rs) bytes (ap length v.accents_are) (ap length v.rules_are) ih in
      split (eqb (kind r) 5)
      (λ k5. let k = eqb-true (kind r) 5 k5 in
      subst after (sym (rw (k3, k4, k5)))
      (part_step s at fin (length st.accents) (length st.rules) r (grouped rs) bytes k (w ∙ ap size_of k) (part_few r t body k) x1))
      (λ k5. subst after (sym (rw (k3, k4, k5)))
      (other_step s at fin (length st.accents) (length st.rules) r (grouped rs) bytes (kind r) refl (eqb-false (kind r) 5 k5) some x1)))))

pub accents_own : {u : Tally} {rs : List (List ℕ)} (beyond : List ℕ) → ReadsOn no_tally rs u
    → (book_of (records_bytes rs ++ (6 ∷ beyond)) (added_all pack_reader.start.st 0 rs)).accents ≡ map accent_of_group (grouped rs).accents
unfolding book_of
accents_own {rs = rs} beyond x =
    let fin = added_all pack_reader.start.st 0 rs in
    let come = from_records (records_bytes rs ++ (6 ∷ beyond)) beyond x 0 pack_reader.start.st refl refl (omega arith) in
    let z : length fin.accents ≡ length fin.accents - 0 = omega arith in
    ap (λ n. tabulate (pack_accent (records_bytes rs ++ (6 ∷ beyond)) fin) n 0) z ∙ come.accents
