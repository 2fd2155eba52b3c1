-- What the reader's loop keeps: from here it gives what it gives of the whole, and its place is near enough for a u16. Assumes nothing.
use Rattle.std.proofs.Common.{ℕ, ◌+◌, ◌<◌, ◌≡◌, refl, List, arith, length, length-append, ltb}
use Rattle.std.specs.Prelude.{Result, Ok, Err}
use Rattle.spec_arithmetic.specs.Fields.{byte_at}
use Rattle.tonekit_pack.specs.declared.Pack.{Pack}
use Rattle.spec_arithmetic.specs.Files.{Out, single_file, said}
use Rattle.tonekit_bytes.proofs.Files as files
use Rattle.spec_pack.specs.Pack.{PackRead, size_of, added, record_verdict, end_verdict, ended, pack_reader, read_pack, load_pack, check_pack}
use Rattle.tonekit_pack.specs.Held.{records_of, answered}
use Rattle.tonekit_core.proofs.Split.{split}
use Rattle.tonekit_pack.specs.Going.{Near, Going}
use Rattle.tonekit_pack.specs.Format.{alone, checked_as, answer}
use Rattle.tonekit_pack.specs.declared.Loaded.{Loaded}
use Rattle.tonekit_core.specs.declared.Rejection.{Rejection}
use Rattle.tonekit_bytes.proofs.InOrder.{order_length}
use Rattle.tonekit_pack.proofs.Turns.{steady}
use Rattle.tonekit_pack.proofs.Records.{Due, settings, tone, tail, accent, rule, part, finish, Sound, sound, tone_room, accent_room, rule_room, part_room}

pub near_next : (at : ℕ) (st : PackRead) {k : ℕ} → Due st.last k → (k ≡ 6 → ⊥) → Near at st → Near (at + size_of k) (added k at st)
unfolding added size_of
near_next at st (settings e) n p = record { first = λ q. absurd (omega arith); early = λ q. omega (arith, p.first e); bare = λ q. absurd (omega arith); near = omega (arith, p.first e) }
near_next at st (tone l u) n p = record { first = λ q. absurd (omega arith); early = λ q. simp length-append (omega (arith, p.early u)); bare = λ q. simp length-append (omega (arith, p.early u)); near = simp length-append (omega (arith, p.early u)) }
near_next at st (tail e r) n p = record { first = λ q. absurd (omega arith); early = λ q. omega (arith, p.bare e); bare = λ q. absurd (omega arith); near = omega (arith, p.bare e) }
near_next at st (accent l u) n p = record { first = λ q. absurd (omega arith); early = λ q. absurd (omega arith); bare = λ q. absurd (omega arith); near = simp length-append (omega arith) }
near_next at st (rule l u) n p = record { first = λ q. absurd (omega arith); early = λ q. absurd (omega arith); bare = λ q. absurd (omega arith); near = simp length-append (omega arith) }
near_next at st (part l u) n p = record { first = λ q. absurd (omega arith); early = λ q. absurd (omega arith); bare = λ q. absurd (omega arith); near = omega arith }
near_next at st (finish l u) n p = absurd (n refl)

module _ (s : List ℕ) (st : Pack) (at : ℕ) (g : Going s st at) where
  pub close : at < 65536
  close = omega (arith, order_length st.tones.at st.tones.count, order_length st.accents.at st.accents.count, order_length st.rules.at st.rules.count)

  module _ (v : record_verdict s at (records_of st) ≡ Ok tt) where
    pub ok : Sound s at (records_of st)
    ok = sound s at (records_of st) v

    pub ends : byte_at s at ≡ 6 → ended at (records_of st) (end_verdict s (records_of st)) ≡ read_pack s
    unfolding read_pack
    ends e = files.ends pack_reader s at (records_of st) g.onward v e

    pub room2 : byte_at s at ≡ 2 → st.tones.count < 8
    room2 e = omega (arith, tone_room s at (records_of st) (rw e at ok.body), order_length st.tones.at st.tones.count)

    pub room3 : byte_at s at ≡ 3 → st.accents.count < 8
    room3 e = omega (arith, accent_room s at (records_of st) (rw e at ok.body), order_length st.accents.at st.accents.count)

    pub room4 : byte_at s at ≡ 4 → st.rules.count < 64
    room4 e = omega (arith, rule_room s at (records_of st) (rw e at ok.body), order_length st.rules.at st.rules.count)

    pub room5 : byte_at s at ≡ 5 → (st.parts < 4) × (st.total < 128)
    room5 e = let r = part_room s at (records_of st) (rw e at ok.body) in (r.few, r.in_all)

    pub goes : (st' : Pack) → (byte_at s at ≡ 6 → ⊥) → records_of st' ≡ added (byte_at s at) at (records_of st) → Going s st' (at + size_of (byte_at s at))
    goes st' n e = record {
      near = rw e (near_next at (records_of st) ok.due n g.near);
      onward = rw e (files.goes pack_reader s at (records_of st) g.onward v steady n);
    }

-- before the first record
pub begins : (s : List ℕ) (p : Pack) → records_of p ≡ pack_reader.start.st → Going s p 0
begins s p e = record {
  near = rw e (record { first = λ q. refl; early = λ q. omega arith; bare = λ q. absurd (omega arith); near = omega arith });
  onward = files.begins pack_reader refl s (records_of p) e;
}

-- what is kept is of one file, and what is said of it: as is of what was read
pub answer_alone : {F S : Type 0} (records_of : F → S) (s : List ℕ) (r : Result (Loaded F) Rejection) (o : Out S) → answer records_of r ≡ o → answer records_of (alone (length s) r) ≡ single_file s o
answer_alone records_of s (Ok l) o e = rw (← e) (split (ltb l.end (length s)) (λ b. rw b refl) (λ b. rw b refl))
answer_alone records_of s (Err x) o e = rw (← e) refl

pub answer_told : {F S : Type 0} (records_of : F → S) (r : Result (Loaded F) Rejection) (o : Out S) → answer records_of r ≡ o → checked_as r ≡ said o
answer_told records_of (Ok l) o e = rw (← e) refl
answer_told records_of (Err x) o e = rw (← e) refl

pub alone_is : (s : List ℕ) (r : Result (Loaded Pack) Rejection) → answered r ≡ read_pack s → answered (alone (length s) r) ≡ load_pack s
unfolding load_pack
alone_is s r e = answer_alone records_of s r (read_pack s) e

pub told_is : (s : List ℕ) (r : Result (Loaded Pack) Rejection) → answered r ≡ read_pack s → checked_as (alone (length s) r) ≡ check_pack s
unfolding check_pack
told_is s r e = answer_told records_of (alone (length s) r) (load_pack s) (alone_is s r e)
