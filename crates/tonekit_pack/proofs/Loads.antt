-- What a pack that loads has: how many of each record, every record fine, numbers once, parents that are there and whose chains end, parts behind their
-- rule. Assumes nothing.
use Rattle.std.proofs.Common.{ℕ, zero, suc, ◌+◌, ◌*◌, ◌≤◌, ◌<◌, ◌≡◌, ◌↔◌, refl, ap, ◌∙◌, ◌⊎◌, Bool, true, false, not, ◌&&◌, ◌||◌, List, [], ◌∷◌, ◌++◌, arith, length, get_or, length-append, get_or-take, length-take-le, eqb, leb, ltb, eq-eqb, ne_eqb, eqb-true, leb-true, ltb-false}
use borrow.Author.Tests.{eqb-false, not-true}
use Rattle.tonekit_core.specs.declared.Refusal.TheVariants.{CutShort}
use Rattle.std.specs.Prelude.{Ok, None}
use Rattle.spec_arithmetic.specs.Fields.{byte_at, u32_at, f32_at}
use Rattle.spec_pack.specs.Ranges.{above_zero, probability_fine, weight_fine, knots_fine, region_fine, tails_fine, tolerances_fine}
use Rattle.spec_arithmetic.specs.Places.{number_at, index_of}
use Rattle.spec_pack.specs.Pack.{PackRead, size_of, holds, zero_or_held, single, settings_verdict, body_verdict, added, parents_held, parent_of, chains_end, end_verdict, parts_from, read_pack, pack_reader}
use Rattle.tonekit_core.proofs.Split.{split, either, neither, both, not_zero}
use Rattle.tonekit_core.proofs.Lists.{last_snoc}
use Rattle.spec_arithmetic.specs.Files.{Out, loaded, refused}
use Rattle.tonekit_pack.proofs.Numbers.{zero_or_at, none_before, parent_held, zero_unfound, unfound_zero}
use Rattle.tonekit_pack.proofs.Chains.{Ends, ends_within, all_end}
use Rattle.tonekit_pack.proofs.Each.{Each, each_snoc}
use Rattle.tonekit_pack.proofs.Records.{Due, settings, tone, tail, accent, rule, part, finish, sound, passed, tone_passed, tail_passed, accent_passed, rule_passed, part_passed, tone_room, accent_room, rule_room, part_room, end_passed, end_passes, end_loads}
use Rattle.tonekit_pack.specs.Going.{Near, reached}
use Rattle.tonekit_pack.proofs.Reading.{near_next}
use Rattle.tonekit_bytes.proofs.Files.{run, accepted, no_turns, same_loaded, read_keeps}

-- ---- the records

-- the tone at o, after those before it, with the tail that may follow it
pub record ToneFine (s before : List ℕ) (o : ℕ) : Type 0 where
  pub kind : byte_at s o ≡ 2
  pub whole : o + 56 ≤ length s
  pub number : 1 ≤ number_at s o
  pub once : holds s before (number_at s o) ≡ false
  pub prior : probability_fine (f32_at s (o + 2)) ≡ true
  pub few : byte_at s (o + 6) ≤ 10
  pub knots : knots_fine s (o + 7) (byte_at s (o + 6)) ≡ true
  pub region : region_fine s (o + 47) ≡ true
  pub tail : byte_at s (o + 56) ≡ 7 → tails_fine s (o + 56) ≡ true

-- the accent at o, after those before it
pub record AccentFine (s before : List ℕ) (o : ℕ) : Type 0 where
  pub kind : byte_at s o ≡ 3
  pub whole : o + 19 ≤ length s
  pub number : 1 ≤ number_at s o
  pub once : holds s before (number_at s o) ≡ false
  pub tolerances : tolerances_fine s (o + 3) ≡ true

pub record PartFine (s : List ℕ) (o : ℕ) : Type 0 where
  pub kind : byte_at s o ≡ 5
  pub whole : o + 46 ≤ length s
  pub weight : weight_fine (u32_at s (o + 1)) ≡ true
  pub some : 1 ≤ byte_at s (o + 5)
  pub few : byte_at s (o + 5) ≤ 10
  pub knots : knots_fine s (o + 6) (byte_at s (o + 5)) ≡ true

-- the rule at o, with the pack's tones, and the parts behind it
pub record RuleFine (s tones : List ℕ) (o : ℕ) : Type 0 where
  pub kind : byte_at s o ≡ 4
  pub whole : o + 7 ≤ length s
  pub final : byte_at s (o + 5) ≤ 2
  pub least : 2 ≤ byte_at s (o + 6)
  pub most : byte_at s (o + 6) ≤ 3
  pub tone : zero_or_held s tones (byte_at s (o + 3)) ≡ true
  pub prev : zero_or_held s tones (byte_at s (o + 4)) ≡ true
  pub some_parts : 1 ≤ parts_from 4 s (o + 7)
  pub few_parts : parts_from 4 s (o + 7) ≤ 4
  pub parts : (j : ℕ) → j < parts_from 4 s (o + 7) → PartFine s (o + 7 + 46 * j)
  pub lone : byte_at s (o + 6) ≡ 2 → parts_from 4 s (o + 7) ≡ 1
  pub unit : byte_at s (o + 6) ≡ 2 → u32_at s (o + 7 + 1) ≡ 0x3f80_0000

module _ (s : List ℕ) (at : ℕ) (st : PackRead) where
  tone_is : byte_at s at ≡ 2 → at + 56 ≤ length s → body_verdict 2 s at st ≡ Ok tt → (byte_at s (at + 56) ≡ 7 → tails_fine s (at + 56) ≡ true) → ToneFine s st.tones at
  tone_is k w b t =
      let p = tone_passed s at st b in
      let f = both (not (eqb (number_at s at) 0)) _ p.ranges in
      let g = both (probability_fine (f32_at s (at + 2))) _ f.1 in
      let h = both (knots_fine s (at + 7) (byte_at s (at + 6))) (region_fine s (at + 47)) g.1 in
      record {
        kind = k;
        whole = w;
        number = not_zero (number_at s at) f.0;
        once = not-true (holds s st.tones (number_at s at)) p.once;
        prior = g.0;
        few = ltb-false 10 (byte_at s (at + 6)) (neither (leb 8 (length st.tones)) (ltb 10 (byte_at s (at + 6))) p.room).1;
        knots = h.0;
        region = h.1;
        tail = t;
      }

  accent_is : byte_at s at ≡ 3 → at + 19 ≤ length s → body_verdict 3 s at st ≡ Ok tt → AccentFine s st.accents at
  accent_is k w b =
      let p = accent_passed s at st b in
      let f = both (not (eqb (number_at s at) 0)) (tolerances_fine s (at + 3)) p.ranges in
      record {
        kind = k;
        whole = w;
        number = not_zero (number_at s at) f.0;
        once = not-true (holds s st.accents (number_at s at)) p.once;
        tolerances = f.1;
      }

  part_is : byte_at s at ≡ 5 → at + 46 ≤ length s → body_verdict 5 s at st ≡ Ok tt → PartFine s at
  part_is k w b =
      let f = both (weight_fine (u32_at s (at + 1))) _ (part_passed s at st b).ranges in
      let g = both (not (single s st) || eqb (u32_at s (at + 1)) 0x3f80_0000) _ f.1 in
      let h = both (not (eqb (byte_at s (at + 5)) 0)) (knots_fine s (at + 6) (byte_at s (at + 5))) g.1 in
      record {
        kind = k;
        whole = w;
        weight = f.0;
        some = not_zero (byte_at s (at + 5)) h.0;
        few = (part_room s at st b).knots;
        knots = h.1;
      }

  part_unit : body_verdict 5 s at st ≡ Ok tt → single s st ≡ true → u32_at s (at + 1) ≡ 0x3f80_0000
  part_unit b one =
      let f = both (weight_fine (u32_at s (at + 1))) _ (part_passed s at st b).ranges in
      let g = both (not (single s st) || eqb (u32_at s (at + 1)) 0x3f80_0000) _ f.1 in
      eqb-true (u32_at s (at + 1)) 0x3f80_0000 (rw one at g.0)

-- ---- the parts behind a rule

-- the rest of the reading, from a place on
abbrev reads : List ℕ → ℕ → ℕ → PackRead → Out PackRead
reads s f at st = run pack_reader s (refused CutShort (length s)) f at st

-- n parts from o on, after p of the same rule
record PartsFine (one : Bool) (s : List ℕ) (o n p : ℕ) : Type 0 where
  some : 1 ≤ p + n
  each : (j : ℕ) → j < n → PartFine s (o + 46 * j)
  lone : one ≡ true → p + n ≤ 1
  unit : one ≡ true → 0 < n → u32_at s (o + 1) ≡ 0x3f80_0000

each_part : (s : List ℕ) (o n : ℕ) → PartFine s o → ((j : ℕ) → j < n → PartFine s (o + 46 + 46 * j)) → (j : ℕ) → j < suc n → PartFine s (o + 46 * j)
each_part s o n p h zero l = let q : o + 46 * 0 ≡ o = omega arith in rw q p
each_part s o n p h (suc j) l = let q : o + 46 * suc j ≡ o + 46 + 46 * j = omega arith in rw q (h j (omega arith))

-- a record that is no part ends them, and there was one
ended_some : (last p : ℕ) {k : ℕ} → 4 ≤ reached last → reached last ≤ 5 → (reached last ≡ 5 → 1 ≤ p) → (k ≡ 5 → ⊥) → Due last k → 1 ≤ p
ended_some last p l u h n (settings e) = absurd (omega (arith, ap reached e))
ended_some last p l u h n (tone a b) = absurd (omega arith)
ended_some last p l u h n (tail a b) = absurd (omega arith)
ended_some last p l u h n (accent a b) = h (omega (arith, b))
ended_some last p l u h n (rule a b) = h (omega (arith, b))
ended_some last p l u h n (part a b) = absurd (n refl)
ended_some last p l u h n (finish a b) = h (omega (arith, b))

parts_here : (n : ℕ) (s : List ℕ) (o : ℕ) → byte_at s o ≡ 5 → parts_from (suc n) s o ≡ suc (parts_from n s (o + 46))
unfolding parts_from
parts_here n s o e = rw (eq-eqb (byte_at s o) 5 e)

pub parts_miss : (n : ℕ) (s : List ℕ) (o : ℕ) → (byte_at s o ≡ 5 → ⊥) → parts_from n s o ≡ 0
unfolding parts_from
parts_miss zero s o e = refl
parts_miss (suc n) s o e = rw (ne_eqb (byte_at s o) 5 e)

pub parts_few : (n : ℕ) (s : List ℕ) (o : ℕ) → parts_from n s o ≤ n
unfolding parts_from
parts_few zero s o = omega arith
parts_few (suc n) s o = split (eqb (byte_at s o) 5) (λ e. rw e (omega (arith, parts_few n s (o + 46)))) (λ e. rw e (omega arith))

pub parts_none : (s : List ℕ) (o : ℕ) → parts_from 0 s o ≡ 0
unfolding parts_from
parts_none s o = refl

part_whole : (s : List ℕ) (at k : ℕ) → k ≡ 5 → at + size_of k ≤ length s → at + 46 ≤ length s
unfolding size_of
part_whole s at k e h = rw e at h

-- a part that passes: the reading goes on behind it, with one part more of the same rule
record Onward (s : List ℕ) (f at : ℕ) (st fin : PackRead) (e : ℕ) : Type 0 where
  next : PackRead
  goes : reads s f (at + 46) next ≡ loaded fin e
  same : single s next ≡ single s st
  last : reached next.last ≡ 5
  parts : next.parts ≡ st.parts + 1

onward : (s : List ℕ) (f at : ℕ) (st fin : PackRead) (e k : ℕ) → k ≡ 5 → reads s f (at + size_of k) (added k at st) ≡ loaded fin e → Onward s f at st fin e
unfolding added size_of
onward s f at st fin e k q h = record { next = added 5 at st; goes = rw q at h; same = refl; last = refl; parts = refl }

-- the parts that stand from here on are fine, since the reading goes on past them
parts_fine : (n f : ℕ) (one : Bool) (s : List ℕ) (at : ℕ) (st fin : PackRead) (e : ℕ)
    → single s st ≡ one → 4 ≤ reached st.last → reached st.last ≤ 5 → (reached st.last ≡ 5 → 1 ≤ st.parts) → (one ≡ true → st.parts ≤ 1) → n + st.parts ≡ 4
    → reads s f at st ≡ loaded fin e → PartsFine one s at (parts_from n s at) st.parts
parts_fine n zero one s at st fin e i l u g h q r = no_turns pack_reader s at st fin CutShort (length s) e r
parts_fine zero (suc f) one s at st fin e i l u g h q r =
    let z = parts_none s at in
    rw z (record { some = omega arith; each = λ j b. absurd (omega arith); lone = λ o. omega (arith, h o); unit = λ o b. absurd (omega arith) })
parts_fine (suc n) (suc f) one s at st fin e i l u g h q r =
    let a = accepted pack_reader s (refused CutShort (length s)) f at st fin e r in
    let ok = sound s at st a.passes in
    split (eqb (byte_at s at) 5)
    (λ b. let k : byte_at s at ≡ 5 = eqb-true (byte_at s at) 5 b in
    let body : body_verdict 5 s at st ≡ Ok tt = rw k at ok.body in
    let w : at + 46 ≤ length s = part_whole s at (byte_at s at) k ok.whole in
    let o = onward s f at st fin e (byte_at s at) k (a.goes (λ six. omega arith)) in
    let lone : one ≡ true → st.parts ≡ 0 = λ t. (part_room s at st body).lone (i ∙ t) in
    let t = parts_fine n f one s (at + 46) o.next fin e (o.same ∙ i) (omega arith) (omega arith) (λ x. omega arith) (λ x. omega (arith, lone x)) (omega arith) o.goes in
    rw (parts_here n s at k)
    (record {
      some = omega arith;
      each = each_part s at (parts_from n s (at + 46)) (part_is s at st k w body) t.each;
      lone = λ x. omega (arith, t.lone x, o.parts);
      unit = λ x y. part_unit s at st body (i ∙ x);
    }))
    (λ b. let k : byte_at s at ≡ 5 → ⊥ = eqb-false (byte_at s at) 5 b in
    rw (parts_miss (suc n) s at k)
    (record {
      some = omega (arith, ended_some st.last st.parts l u g k ok.due);
      each = λ j y. absurd (omega arith);
      lone = λ x. omega (arith, h x);
      unit = λ x y. absurd (omega arith);
    }))

-- ---- the rule, with its parts

behind : (f : ℕ) (s : List ℕ) (at : ℕ) (st fin : PackRead) (e : ℕ) → reads s f (at + size_of 4) (added 4 at st) ≡ loaded fin e
    → PartsFine (eqb (byte_at s (at + 6)) 2) s (at + 7) (parts_from 4 s (at + 7)) 0
unfolding added size_of
behind f s at st fin e h =
    parts_fine 4 f (eqb (byte_at s (at + 6)) 2) s (at + 7) (added 4 at st) fin e (rw (last_snoc st.rules at)) (omega arith) (omega arith) (λ q. absurd (omega arith)) (λ q. omega arith) refl h

rule_is : (f : ℕ) (s : List ℕ) (at : ℕ) (st fin : PackRead) (e : ℕ) → byte_at s at ≡ 4 → at + 7 ≤ length s → body_verdict 4 s at st ≡ Ok tt
    → reads s f (at + size_of 4) (added 4 at st) ≡ loaded fin e → RuleFine s st.tones at
rule_is f s at st fin e k w b g =
    let p = rule_passed s at st b in
    let form = byte_at s (at + 6) in
    let r = both (leb (byte_at s (at + 5)) 2) (eqb form 2 || eqb form 3) p.ranges in
    let h = both (zero_or_held s st.tones (byte_at s (at + 3))) (zero_or_held s st.tones (byte_at s (at + 4))) p.there in
    let t = behind f s at st fin e g in
    record {
      kind = k;
      whole = w;
      final = leb-true (byte_at s (at + 5)) 2 r.0;
      least = either (eqb form 2) (eqb form 3) r.1 (λ q. omega (arith, eqb-true form 2 q)) (λ q. omega (arith, eqb-true form 3 q));
      most = either (eqb form 2) (eqb form 3) r.1 (λ q. omega (arith, eqb-true form 2 q)) (λ q. omega (arith, eqb-true form 3 q));
      tone = h.0;
      prev = h.1;
      some_parts = omega (arith, t.some);
      few_parts = parts_few 4 s (at + 7);
      parts = t.each;
      lone = λ q. omega (arith, t.some, t.lone (eq-eqb form 2 q));
      unit = λ q. t.unit (eq-eqb form 2 q) (omega (arith, t.some));
    }

-- ---- the tone, with its tail

behind_tone : (f : ℕ) (s : List ℕ) (at : ℕ) (st fin : PackRead) (e : ℕ) → reads s f (at + size_of 2) (added 2 at st) ≡ loaded fin e
    → byte_at s (at + 56) ≡ 7 → tails_fine s (at + 56) ≡ true
unfolding added size_of
behind_tone zero s at st fin e g k = no_turns pack_reader s (at + 56) (added 2 at st) fin CutShort (length s) e g
behind_tone (suc f) s at st fin e g k =
    let a = accepted pack_reader s (refused CutShort (length s)) f (at + 56) (added 2 at st) fin e g in
    tail_passed s (at + 56) (added 2 at st) (rw k at (sound s (at + 56) (added 2 at st) a.passes).body)

-- ---- what every turn keeps

-- entries that do not fall, and that stay within a bound
abbrev pub NotBelow : List ℕ → ℕ → Type 0
NotBelow before x = (j : ℕ) → j < length before → get_or before j 0 ≤ x

abbrev pub AtMost : ℕ → List ℕ → ℕ → Type 0
AtMost n before x = x ≤ n

abbrev pub AnyRule : List ℕ → List ℕ → List ℕ → ℕ → Type 0
AnyRule s tones before o = RuleFine s tones o

pub record Kept (s : List ℕ) (at : ℕ) (st : PackRead) : Type 0 where
  pub near : Near at st
  pub begun : 1 ≤ reached st.last → (byte_at s 0 ≡ 1) × (above_zero (f32_at s 1) ≡ true) × (probability_fine (f32_at s 5) ≡ true) × (9 ≤ at)
  pub few_tones : length st.tones ≤ 8
  pub some_tone : 2 ≤ reached st.last → 1 ≤ length st.tones
  pub tones : Each (ToneFine s) st.tones
  pub few_accents : length st.accents ≤ 8
  pub some_accent : 3 ≤ reached st.last → 1 ≤ length st.accents
  pub accents : Each (AccentFine s) st.accents
  pub early : reached st.last ≤ 2 → st.rules ≡ []
  pub few_rules : length st.rules ≤ 64
  pub rules : Each (AnyRule s st.tones) st.rules
  pub counted : length st.firsts ≡ length st.accents
  pub ascending : Each NotBelow st.firsts
  pub bounded : Each (AtMost (length st.rules)) st.firsts
  pub few_in_all : st.total ≤ 128

settings_is : (s : List ℕ) (at : ℕ) (st : PackRead) → body_verdict 1 s at st ≡ Ok tt → (above_zero (f32_at s (at + 1)) ≡ true) × (probability_fine (f32_at s (at + 5)) ≡ true)
unfolding body_verdict settings_verdict
settings_is s at st b = both (above_zero (f32_at s (at + 1))) (probability_fine (f32_at s (at + 5))) (passed false (above_zero (f32_at s (at + 1)) && probability_fine (f32_at s (at + 5))) true true b).ranges

no_rules : (P : List ℕ → ℕ → Type 0) (os : List ℕ) → os ≡ [] → Each P os
no_rules P os e i l = absurd (omega (arith, ap length e))

each_more : (n m : ℕ) (xs : List ℕ) → n ≤ m → Each (AtMost n) xs → Each (AtMost m) xs
each_more n m xs l h i b = omega (arith, h i b)

module _ (f : ℕ) (s : List ℕ) (at : ℕ) (st fin : PackRead) (e : ℕ) (p : Kept s at st) where
  after_settings : Due st.last 1 → st.last ≡ 0 → byte_at s at ≡ 1 → body_verdict 1 s at st ≡ Ok tt → Kept s (at + size_of 1) (added 1 at st)
  unfolding added size_of
  after_settings d z k b =
      let o : at ≡ 0 = p.near.first z in
      let t = settings_is s at st b in
      record {
        near = near_next at st d (λ q. omega arith) p.near;
        begun = λ q. (rw o at k, rw o at t.0, rw o at t.1, omega arith);
        few_tones = p.few_tones;
        some_tone = λ q. absurd (omega arith);
        tones = p.tones;
        few_accents = p.few_accents;
        some_accent = λ q. absurd (omega arith);
        accents = p.accents;
        early = λ q. p.early (omega (arith, ap reached z));
        few_rules = p.few_rules;
        rules = p.rules;
        counted = p.counted;
        ascending = p.ascending;
        bounded = p.bounded;
        few_in_all = p.few_in_all;
      }

  after_tone : Due st.last 2 → 1 ≤ reached st.last → reached st.last ≤ 2 → ToneFine s st.tones at → length st.tones < 8 → Kept s (at + size_of 2) (added 2 at st)
  unfolding added size_of
  after_tone d l u t r =
      record {
        near = near_next at st d (λ q. omega arith) p.near;
        begun = λ q. let b = p.begun (omega arith) in (b.0, b.1, b.2, omega arith);
        few_tones = simp length-append (omega arith);
        some_tone = λ q. simp length-append (omega arith);
        tones = each_snoc (ToneFine s) st.tones at p.tones t;
        few_accents = p.few_accents;
        some_accent = λ q. absurd (omega arith);
        accents = p.accents;
        early = λ q. p.early u;
        few_rules = p.few_rules;
        rules = no_rules (AnyRule s (st.tones ++ (at ∷ []))) st.rules (p.early u);
        counted = p.counted;
        ascending = p.ascending;
        bounded = p.bounded;
        few_in_all = p.few_in_all;
      }

  after_tail : Due st.last 7 → reached st.last ≡ 2 → Kept s (at + size_of 7) (added 7 at st)
  unfolding added size_of
  after_tail d r =
      record {
        near = near_next at st d (λ q. omega arith) p.near;
        begun = λ q. let b = p.begun (omega arith) in (b.0, b.1, b.2, omega arith);
        few_tones = p.few_tones;
        some_tone = λ q. p.some_tone (omega arith);
        tones = p.tones;
        few_accents = p.few_accents;
        some_accent = λ q. absurd (omega arith);
        accents = p.accents;
        early = λ q. p.early (omega arith);
        few_rules = p.few_rules;
        rules = p.rules;
        counted = p.counted;
        ascending = p.ascending;
        bounded = p.bounded;
        few_in_all = p.few_in_all;
      }

  after_accent : Due st.last 3 → 2 ≤ reached st.last → AccentFine s st.accents at → length st.accents < 8 → Kept s (at + size_of 3) (added 3 at st)
  unfolding added size_of
  after_accent d l t r =
      record {
        near = near_next at st d (λ q. omega arith) p.near;
        begun = λ q. let b = p.begun (omega arith) in (b.0, b.1, b.2, omega arith);
        few_tones = p.few_tones;
        some_tone = λ q. p.some_tone (omega arith);
        tones = p.tones;
        few_accents = simp length-append (omega arith);
        some_accent = λ q. simp length-append (omega arith);
        accents = each_snoc (AccentFine s) st.accents at p.accents t;
        early = λ q. absurd (omega arith);
        few_rules = p.few_rules;
        rules = p.rules;
        counted = simp length-append (omega arith);
        ascending = each_snoc NotBelow st.firsts (length st.rules) p.ascending p.bounded;
        bounded = each_snoc (AtMost (length st.rules)) st.firsts (length st.rules) p.bounded (omega arith);
        few_in_all = p.few_in_all;
      }

  after_rule : Due st.last 4 → 3 ≤ reached st.last → RuleFine s st.tones at → length st.rules < 64 → Kept s (at + size_of 4) (added 4 at st)
  unfolding added size_of
  after_rule d l t r =
      let more : length st.rules ≤ length (st.rules ++ (at ∷ [])) = simp length-append (omega arith) in
      record {
        near = near_next at st d (λ q. omega arith) p.near;
        begun = λ q. let b = p.begun (omega arith) in (b.0, b.1, b.2, omega arith);
        few_tones = p.few_tones;
        some_tone = λ q. p.some_tone (omega arith);
        tones = p.tones;
        few_accents = p.few_accents;
        some_accent = λ q. p.some_accent (omega arith);
        accents = p.accents;
        early = λ q. absurd (omega arith);
        few_rules = simp length-append (omega arith);
        rules = each_snoc (AnyRule s st.tones) st.rules at p.rules t;
        counted = p.counted;
        ascending = p.ascending;
        bounded = each_more (length st.rules) (length (st.rules ++ (at ∷ []))) st.firsts more p.bounded;
        few_in_all = p.few_in_all;
      }

  after_part : Due st.last 5 → 4 ≤ reached st.last → st.total < 128 → Kept s (at + size_of 5) (added 5 at st)
  unfolding added size_of
  after_part d l r =
      record {
        near = near_next at st d (λ q. omega arith) p.near;
        begun = λ q. let b = p.begun (omega arith) in (b.0, b.1, b.2, omega arith);
        few_tones = p.few_tones;
        some_tone = λ q. p.some_tone (omega arith);
        tones = p.tones;
        few_accents = p.few_accents;
        some_accent = λ q. p.some_accent (omega arith);
        accents = p.accents;
        early = λ q. absurd (omega arith);
        few_rules = p.few_rules;
        rules = p.rules;
        counted = p.counted;
        ascending = p.ascending;
        bounded = p.bounded;
        few_in_all = omega arith;
      }

  keep : {k : ℕ} → Due st.last k → byte_at s at ≡ k → at + size_of k ≤ length s → body_verdict k s at st ≡ Ok tt → (k ≡ 6 → ⊥)
      → reads s f (at + size_of k) (added k at st) ≡ loaded fin e → Kept s (at + size_of k) (added k at st)
  unfolding size_of
  keep (settings z) k w b n g = after_settings (settings z) z k b
  keep (tone l u) k w b n g = after_tone (tone l u) l u (tone_is s at st k w b (behind_tone f s at st fin e g)) (tone_room s at st b)
  keep (tail q r) k w b n g = after_tail (tail q r) r
  keep (accent l u) k w b n g = after_accent (accent l u) l (accent_is s at st k w b) (accent_room s at st b)
  keep (rule l u) k w b n g = after_rule (rule l u) l (rule_is f s at st fin e k w b g) (rule_room s at st b)
  keep (part l u) k w b n g = after_part (part l u) l (part_room s at st b).in_all
  keep (finish l u) k w b n g = absurd (n refl)

-- ---- what a pack that loads has

-- with the place of its End, at which each parent is 0 or there, and every chain of parents ends
pub record Loads (s : List ℕ) (st : PackRead) (e : ℕ) : Type 0 where
  pub place : ℕ
  pub closing : byte_at s place ≡ 6
  pub ends : place + 1 ≡ e
  pub inside : e ≤ length s
  pub closed : 3 ≤ reached st.last
  pub kept : Kept s place st
  pub parents : parents_held s st.accents st.accents ≡ true
  pub chains : chains_end s st (length st.accents) 0 ≡ true

closes : (last : ℕ) {k : ℕ} → k ≡ 6 → Due last k → 3 ≤ reached last
closes last q (settings z) = absurd (omega arith)
closes last q (tone l u) = absurd (omega arith)
closes last q (tail l u) = absurd (omega arith)
closes last q (accent l u) = absurd (omega arith)
closes last q (rule l u) = absurd (omega arith)
closes last q (part l u) = absurd (omega arith)
closes last q (finish l u) = l

pub loads : (s : List ℕ) (st : PackRead) (e : ℕ) → read_pack s ≡ loaded st e → Loads s st e
unfolding read_pack
loads s st e h =
    read_keeps pack_reader s st e (Kept s)
    (λ f at x p v n g. let ok = sound s at x v in keep f s at x st e p ok.due refl ok.whole ok.body n g)
    (λ at x p v k g. let ok = sound s at x v in
    let f = end_loads s x at e st g in
    let h = end_passed s x f.0 in
    let q = same_loaded x st (at + 1) e f.1 in
    rw (← q.0) (record { place = at; closing = k; ends = q.1; inside = omega (arith, q.1, ok.inside); closed = closes x.last k ok.due; kept = p; parents = h.0; chains = h.1 }))
    h
    (record {
      near = record { first = λ q. refl; early = λ q. omega arith; bare = λ q. absurd (omega arith); near = omega arith };
      begun = λ q. absurd (omega arith);
      few_tones = omega arith;
      some_tone = λ q. absurd (omega arith);
      tones = λ i l. absurd (omega arith);
      few_accents = omega arith;
      some_accent = λ q. absurd (omega arith);
      accents = λ i l. absurd (omega arith);
      early = λ q. refl;
      few_rules = omega arith;
      rules = λ i l. absurd (omega arith);
      counted = refl;
      ascending = λ i l. absurd (omega arith);
      bounded = λ i l. absurd (omega arith);
      few_in_all = omega arith;
    })

-- the same, by places: at least one tone and one accent, where it ends at the latest, no number twice, each parent 0 or an accent's number, every chain of
-- parents ending
module _ (s : List ℕ) (st : PackRead) (e : ℕ) (l : Loads s st e) where
  pub some_tones : 1 ≤ length st.tones
  some_tones = l.kept.some_tone (omega arith)

  pub some_accents : 1 ≤ length st.accents
  some_accents = l.kept.some_accent (omega arith)

  pub near_end : e ≤ 7018
  near_end = omega arith

  pub tones_once : (i j : ℕ) → i < j → j < length st.tones → number_at s (get_or st.tones i 0) ≡ number_at s (get_or st.tones j 0) → ⊥
  tones_once i j b h = none_before s st.tones (number_at s (get_or st.tones j 0)) j (omega arith) (l.kept.tones j h).once i b

  pub accents_once : (i j : ℕ) → i < j → j < length st.accents → number_at s (get_or st.accents i 0) ≡ number_at s (get_or st.accents j 0) → ⊥
  accents_once i j b h = none_before s st.accents (number_at s (get_or st.accents j 0)) j (omega arith) (l.kept.accents j h).once i b

  pub end_fine : end_verdict s st ≡ Ok tt
  end_fine = end_passes s st l.parents l.chains

  pub parent_there : (i : ℕ) → i < length st.accents
      → (byte_at s (get_or st.accents i 0 + 2) ≡ 0)
      ⊎ ((k : ℕ) × (k < length st.accents) × (number_at s (get_or st.accents k 0) ≡ byte_at s (get_or st.accents i 0 + 2)))
  parent_there i h = zero_or_at s st.accents (byte_at s (get_or st.accents i 0 + 2)) (parent_held s st.accents st.accents l.parents i h)

  -- an accent has no parent exactly if it names 0
  pub no_parent : (i : ℕ) → i < length st.accents → (parent_of s st i ≡ None) ↔ (byte_at s (get_or st.accents i 0 + 2) ≡ 0)
  no_parent i h = (
    λ e. unfound_zero s st.accents (byte_at s (get_or st.accents i 0 + 2)) (parent_held s st.accents st.accents l.parents i h) e,
    λ e. ap (index_of s st.accents) e ∙ zero_unfound s st.accents (λ j g. (l.kept.accents j g).number),
  )

  pub chain_ended : (i : ℕ) → i < length st.accents → Ends s st (length st.accents) i
  chain_ended i h = ends_within s st h (all_end s st l.chains i h).1

  -- the rules that stood before an accent, in number: not falling, and no more than there are
  pub firsts_ascend : (i j : ℕ) → i < j → j < length st.accents → get_or st.firsts i 0 ≤ get_or st.firsts j 0
  firsts_ascend i j b h =
      let c : j < length st.firsts = omega (arith, l.kept.counted) in
      rw (get_or-take j st.firsts i 0 b) at (l.kept.ascending j c i (omega (arith, length-take-le j st.firsts (omega arith))))

  pub firsts_bound : (i : ℕ) → i < length st.accents → get_or st.firsts i 0 ≤ length st.rules
  firsts_bound i h = l.kept.bounded i (omega (arith, l.kept.counted))
