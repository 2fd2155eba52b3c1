-- An accent's rules with their parts read after one tally as they do after another that holds the same tones and leaves them room (`moved`); what reading
-- them adds (`counted`). Assumes nothing.
use Rattle.std.proofs.Common.{ℕ, suc, ◌+◌, ◌≤◌, ◌<◌, ◌≡◌, refl, sym, ◌∙◌, ap, subst, ⊎_elim, Bool, true, false, cond, ◌&&◌, ◌||◌, List, [], ◌∷◌, ◌++◌, arith, eqb, leb, ltb, eqb-true, leb-false, length}
use borrow.Author.Tests.{lt-leb, not-true}
use Rattle.std.proofs.lemmas.List.Elements.{All-head, All-tail}
use Rattle.std.specs.Prelude.{Ok, not, All}
use Rattle.spec_arithmetic.specs.Fields.{byte_at}
use Rattle.spec_arithmetic.specs.Places.{number_at}
use Rattle.spec_pack.specs.Pack.{due_after, in_turn, accent_fine, rule_fine, part_fine}
use Rattle.tonekit_core.proofs.Split.{either, neither}
use Rattle.tonekit_pack.specs.Going.{reached}
use Rattle.tonekit_pack.proofs.Records.{passed}
use Rattle.tonekit_records.specs.Records.{Tally, among, zero_or_among, kind, accent_verdict_of, rule_verdict_of, last_single, part_verdict_of, body_verdict_of, record_verdict_of, tallied, ReadsOn, none, more}
use Rattle.tonekit_records.proofs.Loading.{fine_due, fine_body}
use Rattle.tonekit_any_order.specs.Layout.{IsRuleOrPart}

-- ---- the tally behind a record of each kind, and what is said of it
abbrev pub after_accent : List ℕ → Tally → Tally
after_accent r t = record t { last = 3; accents = t.accents ++ (number_at r 0 ∷ []) }

abbrev after_rule : List ℕ → Tally → Tally
after_rule r t = record t { last = 4; rules = t.rules + 1; form = byte_at r 6; parts = 0 }

abbrev after_part : Tally → Tally
after_part t = record t { last = 5; parts = t.parts + 1; total = t.total + 1 }

module _ (r : List ℕ) (t : Tally) where
  pub accent_tally : kind r ≡ 3 → tallied r t ≡ after_accent r t
  unfolding tallied
  accent_tally k = rw k

  rule_tally : kind r ≡ 4 → tallied r t ≡ after_rule r t
  unfolding tallied
  rule_tally k = rw k

  part_tally : kind r ≡ 5 → tallied r t ≡ after_part t
  unfolding tallied
  part_tally k = rw k

  accent_body : kind r ≡ 3 → body_verdict_of r t ≡ accent_verdict_of r t
  unfolding body_verdict_of
  accent_body k = rw k

  rule_body : kind r ≡ 4 → body_verdict_of r t ≡ rule_verdict_of r t
  unfolding body_verdict_of
  rule_body k = rw k

  part_body : kind r ≡ 5 → body_verdict_of r t ≡ part_verdict_of r t
  unfolding body_verdict_of
  part_body k = rw k

  fine_if : due_after t.last (kind r) ≡ true → body_verdict_of r t ≡ Ok tt → record_verdict_of r t ≡ Ok tt
  unfolding record_verdict_of
  fine_if d e = rw d e

  -- ---- what the tests ask of an accent
  pub record AccentAsks : Type 0 where
    pub room : length t.accents < 8
    pub ranges : accent_fine 3 r 0 ≡ true
    pub new : among t.accents (number_at r 0) ≡ false

  pub accent_asks : kind r ≡ 3 → record_verdict_of r t ≡ Ok tt → AccentAsks
  accent_asks k e =
      let p = passed (leb 8 (length t.accents)) (accent_fine 3 r 0) (not (among t.accents (number_at r 0))) true (sym (accent_body k) ∙ fine_body r t e) in
      record { room = leb-false 8 (length t.accents) p.room; ranges = p.ranges; new = not-true (among t.accents (number_at r 0)) p.once }

  pub accent_gets : kind r ≡ 3 → due_after t.last 3 ≡ true → AccentAsks → record_verdict_of r t ≡ Ok tt
  accent_gets k d a =
      let room = lt-leb 8 (length t.accents) a.room in
      fine_if (ap (due_after t.last) k ∙ d) (accent_body k ∙ (λ i. in_turn (room i) (a.ranges i) (not (a.new i)) true))

  -- of a rule
  abbrev held : List ℕ → Bool
  held tones = zero_or_among tones (byte_at r 3) && zero_or_among tones (byte_at r 4)

  record RuleAsks : Type 0 where
    room : t.rules < 64
    ranges : rule_fine r 0 ≡ true
    there : held t.tones ≡ true

  rule_asks : kind r ≡ 4 → record_verdict_of r t ≡ Ok tt → RuleAsks
  rule_asks k e =
      let p = passed (leb 64 t.rules) (rule_fine r 0) true (held t.tones) (sym (rule_body k) ∙ fine_body r t e) in
      record { room = leb-false 64 t.rules p.room; ranges = p.ranges; there = p.there }

  rule_gets : kind r ≡ 4 → due_after t.last (kind r) ≡ true → RuleAsks → record_verdict_of r t ≡ Ok tt
  rule_gets k d a = let room = lt-leb 64 t.rules a.room in fine_if d (rule_body k ∙ (λ i. in_turn (room i) (a.ranges i) true (a.there i)))

  -- of a part
  record PartAsks : Type 0 where
    few : t.parts < 4
    room : t.total < 128
    alone : ((last_single t && leb 1 t.parts) || ltb 10 (byte_at r 5)) ≡ false
    ranges : part_fine (last_single t) r 0 ≡ true

  part_asks : kind r ≡ 5 → record_verdict_of r t ≡ Ok tt → PartAsks
  part_asks k e =
      let last = (last_single t && leb 1 t.parts) || ltb 10 (byte_at r 5) in
      let p = passed (leb 4 t.parts || (leb 128 t.total || last)) (part_fine (last_single t) r 0) true true (sym (part_body k) ∙ fine_body r t e) in
      let n = neither (leb 4 t.parts) (leb 128 t.total || last) p.room in
      let m = neither (leb 128 t.total) last n.1 in
      record { few = leb-false 4 t.parts n.0; room = leb-false 128 t.total m.0; alone = m.1; ranges = p.ranges }

  part_gets : kind r ≡ 5 → due_after t.last (kind r) ≡ true → PartAsks → record_verdict_of r t ≡ Ok tt
  part_gets k d a =
      let few = lt-leb 4 t.parts a.few in
      let room = lt-leb 128 t.total a.room in
      fine_if d (part_body k ∙ (λ i. in_turn (few i || (room i || a.alone i)) (a.ranges i) true true))

-- ---- what reading rules and parts adds
pub how_many : ℕ → List (List ℕ) → ℕ
how_many k [] = 0
how_many k (r ∷ rs) = cond (eqb (kind r) k) (suc (how_many k rs)) (how_many k rs)

pub record Counted (t v : Tally) (rs : List (List ℕ)) : Type 0 where
  pub rules : v.rules ≡ t.rules + how_many 4 rs
  pub total : v.total ≡ t.total + how_many 5 rs
  pub accents : v.accents ≡ t.accents
  pub tones : v.tones ≡ t.tones
  pub most_rules : t.rules ≤ 64 → v.rules ≤ 64
  pub most_parts : t.total ≤ 128 → v.total ≤ 128
  pub late : 3 ≤ reached t.last → 3 ≤ reached v.last

pub counted : (rs : List (List ℕ)) → All IsRuleOrPart rs → {t v : Tally} → ReadsOn t rs v → Counted t v rs
unfolding how_many
counted [] b none = record { rules = omega arith; total = omega arith; accents = refl; tones = refl; most_rules = λ l. l; most_parts = λ l. l; late = λ l. l }
counted (r ∷ rs) b {t} {v} (more w n fine x) =
    ⊎_elim
    (λ y. let k = y.begins in
    let room = (rule_asks r t k fine).room in
    let c = counted rs (All-tail IsRuleOrPart r rs b) (subst (λ (z : Tally). ReadsOn z rs v) (rule_tally r t k) x) in
    let four : how_many 4 (r ∷ rs) ≡ suc (how_many 4 rs) = rw k in
    let five : how_many 5 (r ∷ rs) ≡ how_many 5 rs = rw k in
    record {
      rules = omega (arith, c.rules);
      total = omega (arith, c.total);
      accents = c.accents;
      tones = c.tones;
      most_rules = λ l. c.most_rules (omega arith);
      most_parts = λ l. c.most_parts (omega arith);
      late = λ l. c.late (omega arith);
    })
    (λ y. let k = y.begins in
    let room = (part_asks r t k fine).room in
    let c = counted rs (All-tail IsRuleOrPart r rs b) (subst (λ (z : Tally). ReadsOn z rs v) (part_tally r t k) x) in
    let four : how_many 4 (r ∷ rs) ≡ how_many 4 rs = rw k in
    let five : how_many 5 (r ∷ rs) ≡ suc (how_many 5 rs) = rw k in
    record {
      rules = omega (arith, c.rules);
      total = omega (arith, c.total);
      accents = c.accents;
      tones = c.tones;
      most_rules = λ l. c.most_rules (omega arith);
      most_parts = λ l. c.most_parts (omega arith);
      late = λ l. c.late (omega arith);
    })
    (All-head IsRuleOrPart r rs b)

-- ---- after another tally: of the last rule it has to say the same where there is one
pub record Beside (t s : Tally) : Type 0 where
  pub tones : s.tones ≡ t.tones
  pub last : s.last ≡ t.last
  pub form : 4 ≤ t.last → s.form ≡ t.form
  pub parts : 4 ≤ t.last → s.parts ≡ t.parts

pub record Moved (s v : Tally) (rs : List (List ℕ)) : Type 0 where
  pub tally : Tally
  pub reads : ReadsOn s rs tally
  pub beside : Beside v tally

rule_beside : (r : List ℕ) (t s : Tally) → Beside t s → Beside (after_rule r t) (after_rule r s)
rule_beside r t s b = record { tones = b.tones; last = refl; form = λ l. refl; parts = λ l. refl }

part_beside : (t s : Tally) → 4 ≤ t.last → Beside t s → Beside (after_part t) (after_part s)
part_beside t s l b = record { tones = b.tones; last = refl; form = λ z. b.form l; parts = λ z. ap (λ n. n + 1) (b.parts l) }

part_late : (l : ℕ) → due_after l 5 ≡ true → 4 ≤ l
unfolding due_after
part_late l d = either (eqb l 4) (eqb l 5) d (λ t. omega (arith, eqb-true l 4 t)) (λ t. omega (arith, eqb-true l 5 t))

pub moved : (rs : List (List ℕ)) → All IsRuleOrPart rs → {t s v : Tally} → Beside t s → ReadsOn t rs v
    → s.rules + how_many 4 rs ≤ 64 → s.total + how_many 5 rs ≤ 128 → Moved s v rs
unfolding how_many
moved [] b {t} {s} x none p q = record { tally = s; reads = none; beside = x }
moved (r ∷ rs) b {t} {s} {v} x (more w n fine y) p q =
    let due : due_after s.last (kind r) ≡ true = ap (λ z. due_after z (kind r)) x.last ∙ fine_due r t fine in
    ⊎_elim
    (λ z. let k = z.begins in
    let a = rule_asks r t k fine in
    let p1 : s.rules + suc (how_many 4 rs) ≤ 64 = rw k at p in
    let q1 : s.total + how_many 5 rs ≤ 128 = rw k at q in
    let asks : RuleAsks r s = record { room = omega arith; ranges = a.ranges; there = ap (held r s) x.tones ∙ a.there } in
    let m = moved rs (All-tail IsRuleOrPart r rs b) (rule_beside r t s x) (subst (λ (z : Tally). ReadsOn z rs v) (rule_tally r t k) y) (omega arith) (omega arith) in
    record { tally = m.tally; reads = more w n (rule_gets r s k due asks) (subst (λ (z : Tally). ReadsOn z rs m.tally) (sym (rule_tally r s k)) m.reads); beside = m.beside })
    (λ z. let k = z.begins in
    let a = part_asks r t k fine in
    let l = part_late t.last (ap (due_after t.last) (sym k) ∙ fine_due r t fine) in
    let p1 : s.rules + how_many 4 rs ≤ 64 = rw k at p in
    let q1 : s.total + suc (how_many 5 rs) ≤ 128 = rw k at q in
    let f = x.form l in
    let g = x.parts l in
    let asks : PartAsks r s = record {
      few = omega (arith, a.few, g);
      room = omega arith;
      alone = (λ i. (eqb (f i) 2 && leb 1 (g i)) || ltb 10 (byte_at r 5)) ∙ a.alone;
      ranges = ap (λ z. part_fine (eqb z 2) r 0) f ∙ a.ranges;
    } in
    let m = moved rs (All-tail IsRuleOrPart r rs b) (part_beside t s l x) (subst (λ (z : Tally). ReadsOn z rs v) (part_tally r t k) y) (omega arith) (omega arith) in
    record { tally = m.tally; reads = more w n (part_gets r s k due asks) (subst (λ (z : Tally). ReadsOn z rs m.tally) (sym (part_tally r s k)) m.reads); beside = m.beside })
    (All-head IsRuleOrPart r rs b)
