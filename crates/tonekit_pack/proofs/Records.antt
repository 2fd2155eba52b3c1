-- What a record that is fine shows: its kind was due, it is whole, and each test of its body passed; and what an End shows of the pack. Assumes nothing.
use Rattle.std.proofs.Common.{ℕ, ◌+◌, ◌≤◌, ◌<◌, ◌≡◌, refl, ap, Bool, true, false, not, ◌&&◌, ◌||◌, List, arith, length, eqb, leb, ltb, eqb-true, leb-false, ltb-false}
use Rattle.tonekit_core.specs.declared.Refusal.TheVariants.{Crowded, OffScale, Doubled, Loose, EndlessChain}
use Rattle.std.specs.Prelude.{Ok}
use Rattle.spec_arithmetic.specs.Fields.{byte_at}
use Rattle.spec_arithmetic.specs.Places.{number_at}
use Rattle.spec_pack.specs.Ranges.{tails_fine}
use Rattle.tonekit_pack.specs.Going.{reached}
use Rattle.spec_arithmetic.specs.Files.{loaded}
use Rattle.tonekit_bytes.proofs.Files.{not_fine, by_verdict, fine, not_loaded}
use Rattle.spec_pack.specs.Pack.{PackRead, due_after, size_of, holds, in_turn, tone_fine, tone_verdict, tail_verdict, accent_fine, accent_verdict, rule_fine, rule_held, rule_verdict, single, part_fine, part_verdict, body_verdict, record_verdict, parents_held, chains_end, end_verdict, ended}
use Rattle.tonekit_core.proofs.Split.{split, absurd_bool, either, neither}

-- which kind is due
pub data Due (last : ℕ) : ℕ → Type 0 where
  settings : last ≡ 0 → Due last 1
  tone : 1 ≤ reached last → reached last ≤ 2 → Due last 2
  tail : last ≡ 2 → reached last ≡ 2 → Due last 7
  accent : 2 ≤ reached last → (reached last ≡ 4 → ⊥) → Due last 3
  rule : 3 ≤ reached last → (reached last ≡ 4 → ⊥) → Due last 4
  part : 4 ≤ reached last → reached last ≤ 5 → Due last 5
  finish : 3 ≤ reached last → (reached last ≡ 4 → ⊥) → Due last 6

module _ (last : ℕ) where
  -- what a test of the last kind says of how far the pack is read
  was : {P : Type 0} (k : ℕ) → eqb last k ≡ true → (last ≡ k → reached last ≡ reached k → P) → P
  was k h f = let e = eqb-true last k h in f e (ap reached e)

  is_tone : (eqb last 1 || (eqb last 2 || eqb last 7)) ≡ true → Due last 2
  is_tone h =
      either (eqb last 1) (eqb last 2 || eqb last 7) h (λ q. was 1 q (λ e r. tone (omega arith) (omega arith)))
      (λ q. either (eqb last 2) (eqb last 7) q (λ x. was 2 x (λ e r. tone (omega arith) (omega arith))) (λ x. was 7 x (λ e r. tone (omega arith) (omega arith))))

  after_accent : {P : Type 0} → (eqb last 3 || eqb last 5) ≡ true → (3 ≤ reached last → (reached last ≡ 4 → ⊥) → P) → P
  after_accent h f =
      either (eqb last 3) (eqb last 5) h (λ q. was 3 q (λ e r. f (omega arith) (λ x. omega arith))) (λ q. was 5 q (λ e r. f (omega arith) (λ x. omega arith)))

  is_accent : (eqb last 2 || (eqb last 7 || (eqb last 3 || eqb last 5))) ≡ true → Due last 3
  is_accent h =
      either (eqb last 2) (eqb last 7 || (eqb last 3 || eqb last 5)) h (λ q. was 2 q (λ e r. accent (omega arith) (λ x. omega arith)))
      (λ q. either (eqb last 7) (eqb last 3 || eqb last 5) q (λ x. was 7 x (λ e r. accent (omega arith) (λ y. omega arith)))
      (λ x. after_accent x (λ l n. accent (omega arith) n)))

  is_part : (eqb last 4 || eqb last 5) ≡ true → Due last 5
  is_part h = either (eqb last 4) (eqb last 5) h (λ q. was 4 q (λ e r. part (omega arith) (omega arith))) (λ q. was 5 q (λ e r. part (omega arith) (omega arith)))

  pub due_is : (k : ℕ) → due_after last k ≡ true → Due last k
  unfolding due_after
  due_is k h =
      split (eqb k 1) (λ a. rw (eqb-true k 1 a) (settings (eqb-true last 0 (rw a at h))))
      (λ a. split (eqb k 2) (λ b. rw (eqb-true k 2 b) (is_tone (rw (a, b) at h)))
      (λ b. split (eqb k 7) (λ t. rw (eqb-true k 7 t) (was 2 (rw (a, b, t) at h) tail))
      (λ t. split (eqb k 3) (λ d. rw (eqb-true k 3 d) (is_accent (rw (a, b, t, d) at h)))
      (λ d. split (eqb k 4) (λ e. rw (eqb-true k 4 e) (after_accent (rw (a, b, t, d, e) at h) rule))
      (λ e. split (eqb k 5) (λ f. rw (eqb-true k 5 f) (is_part (rw (a, b, t, d, e, f) at h)))
      (λ f. split (eqb k 6) (λ g. rw (eqb-true k 6 g) (after_accent (rw (a, b, t, d, e, f, g) at h) finish))
      (λ g. absurd_bool (rw (a, b, t, d, e, f, g) at h))))))))

pub size_pos : (k : ℕ) → 1 ≤ size_of k
unfolding size_of
size_pos k =
    split (eqb k 1) (λ a. rw a (omega arith)) (λ a. split (eqb k 2) (λ b. rw (a, b) (omega arith)) (λ b. split (eqb k 7) (λ t. rw (a, b, t) (omega arith))
    (λ t. split (eqb k 3) (λ d. rw (a, b, t, d) (omega arith)) (λ d. split (eqb k 4) (λ e. rw (a, b, t, d, e) (omega arith))
    (λ e. split (eqb k 5) (λ f. rw (a, b, t, d, e, f) (omega arith)) (λ f. rw (a, b, t, d, e, f) (omega arith)))))))

-- each test in turn passed
pub record Passed (crowded fine new held : Bool) : Type 0 where
  pub room : crowded ≡ false
  pub ranges : fine ≡ true
  pub once : new ≡ true
  pub there : held ≡ true

pub passed : (crowded fine new held : Bool) → in_turn crowded fine new held ≡ Ok tt → Passed crowded fine new held
passed true b c d h = not_fine Crowded h
passed false false c d h = not_fine OffScale h
passed false true false d h = not_fine Doubled h
passed false true true false h = not_fine Loose h
passed false true true true h = record { room = refl; ranges = refl; once = refl; there = refl }

-- no room for a tone, for a part
abbrev tone_crowded : List ℕ → ℕ → PackRead → Bool
tone_crowded s o st = leb 8 (length st.tones) || ltb 10 (byte_at s (o + 6))

abbrev part_crowded : List ℕ → ℕ → PackRead → Bool
part_crowded s o st = leb 4 st.parts || (leb 128 st.total || ((single s st && leb 1 st.parts) || ltb 10 (byte_at s (o + 5))))

module _ (s : List ℕ) (at : ℕ) (st : PackRead) where
  pub record Sound : Type 0 where
    pub inside : at < length s
    pub whole : at + size_of (byte_at s at) ≤ length s
    pub due : Due st.last (byte_at s at)
    pub body : body_verdict (byte_at s at) s at st ≡ Ok tt

  pub sound : record_verdict s at st ≡ Ok tt → Sound
  unfolding record_verdict
  sound h =
      let f = fine (due_after st.last) size_of (λ k. body_verdict k s at st) s at h in
      record { inside = f.inside; whole = f.whole; due = due_is st.last (byte_at s at) f.in_turn; body = f.body }

  pub tone_passed : body_verdict 2 s at st ≡ Ok tt → Passed (tone_crowded s at st) (tone_fine s at) (not (holds s st.tones (number_at s at))) true
  unfolding body_verdict tone_verdict
  tone_passed h = passed (tone_crowded s at st) (tone_fine s at) (not (holds s st.tones (number_at s at))) true h

  pub tail_passed : body_verdict 7 s at st ≡ Ok tt → tails_fine s at ≡ true
  unfolding body_verdict tail_verdict
  tail_passed h = (passed false (tails_fine s at) true true h).ranges

  pub accent_passed : body_verdict 3 s at st ≡ Ok tt → Passed (leb 8 (length st.accents)) (accent_fine 3 s at) (not (holds s st.accents (number_at s at))) true
  unfolding body_verdict accent_verdict
  accent_passed h = passed (leb 8 (length st.accents)) (accent_fine 3 s at) (not (holds s st.accents (number_at s at))) true h

  pub rule_passed : body_verdict 4 s at st ≡ Ok tt → Passed (leb 64 (length st.rules)) (rule_fine s at) true (rule_held s at st)
  unfolding body_verdict rule_verdict
  rule_passed h = passed (leb 64 (length st.rules)) (rule_fine s at) true (rule_held s at st) h

  pub part_passed : body_verdict 5 s at st ≡ Ok tt → Passed (part_crowded s at st) (part_fine (single s st) s at) true true
  unfolding body_verdict part_verdict
  part_passed h = passed (part_crowded s at st) (part_fine (single s st) s at) true true h

  -- a record that is fine has room
  pub tone_room : body_verdict 2 s at st ≡ Ok tt → length st.tones < 8
  tone_room h = leb-false 8 (length st.tones) (neither (leb 8 (length st.tones)) (ltb 10 (byte_at s (at + 6))) (tone_passed h).room).0

  pub accent_room : body_verdict 3 s at st ≡ Ok tt → length st.accents < 8
  accent_room h = leb-false 8 (length st.accents) (accent_passed h).room

  pub rule_room : body_verdict 4 s at st ≡ Ok tt → length st.rules < 64
  rule_room h = leb-false 64 (length st.rules) (rule_passed h).room

  -- of a part: room in its rule and in all, and no second part of a single rule
  pub record PartRoom : Type 0 where
    pub few : st.parts < 4
    pub in_all : st.total < 128
    pub lone : single s st ≡ true → st.parts ≡ 0
    pub knots : byte_at s (at + 5) ≤ 10

  pub part_room : body_verdict 5 s at st ≡ Ok tt → PartRoom
  part_room h =
      let second = single s st && leb 1 st.parts in
      let more = second || ltb 10 (byte_at s (at + 5)) in
      let n = neither (leb 4 st.parts) (leb 128 st.total || more) (part_passed h).room in
      let m = neither (leb 128 st.total) more n.1 in
      let l = neither second (ltb 10 (byte_at s (at + 5))) m.1 in
      record {
        few = leb-false 4 st.parts n.0;
        in_all = leb-false 128 st.total m.0;
        lone = λ one. omega (arith, leb-false 1 st.parts (rw one at l.0));
        knots = ltb-false 10 (byte_at s (at + 5)) l.1;
      }

-- what an End that ends a pack shows: both tests of the whole passed; and where both do, it ends it
module _ (s : List ℕ) (st : PackRead) where
  pub end_passed : end_verdict s st ≡ Ok tt → (parents_held s st.accents st.accents ≡ true) × (chains_end s st (length st.accents) 0 ≡ true)
  unfolding end_verdict
  end_passed h =
      split (parents_held s st.accents st.accents)
      (λ p. split (chains_end s st (length st.accents) 0) (λ c. (p, c)) (λ c. not_fine EndlessChain (rw (p, c) at h)))
      (λ p. not_fine Loose (rw p at h))

  pub end_passes : parents_held s st.accents st.accents ≡ true → chains_end s st (length st.accents) 0 ≡ true → end_verdict s st ≡ Ok tt
  unfolding end_verdict
  end_passes p c = rw (p, c)

  pub end_loads : (at e : ℕ) (fin : PackRead) → ended at st (end_verdict s st) ≡ loaded fin e → (end_verdict s st ≡ Ok tt) × (loaded st (at + 1) ≡ loaded fin e)
  end_loads at e fin h = by_verdict (end_verdict s st) (λ v. (v, rw v at h)) (λ r v. not_loaded r at e fin (rw v at h))
