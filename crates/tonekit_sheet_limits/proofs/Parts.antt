-- "128 parts in all": the parts behind the rules of a pack that loads are those that the reader counted. Assumes nothing.
use Rattle.std.proofs.Common.{ℕ, suc, ◌+◌, ◌-◌, ◌≤◌, ◌<◌, ◌≡◌, refl, ◌∙◌, List, [], ◌∷◌, ◌++◌, arith, ltb, length, get_or, length-append, ltb-true, ltb-false}
use lib.ListN.{get_or-append}
use lib.Seq.{get_or-append_seam}
use Rattle.std.specs.Prelude.{Ok}
use Rattle.spec_arithmetic.specs.Fields.{byte_at}
use Rattle.spec_arithmetic.specs.Files.{loaded}
use Rattle.spec_pack.specs.Pack.{PackRead, size_of, body_verdict, added, parts_from, pack_reader, read_pack}
use Rattle.tonekit_core.proofs.Split.{split}
use Rattle.tonekit_pack.proofs.Records.{Due, settings, tone, tail, accent, rule, part, finish, part_room, sound, end_loads}
use Rattle.tonekit_pack.specs.Going.{reached}
use Rattle.tonekit_pack.proofs.Loads.{loads, parts_miss}
use Rattle.tonekit_expect.proofs.Parts.{parts_hit}
use Rattle.tonekit_bytes.proofs.Files.{read_keeps, same_loaded}
use Rattle.tonekit_sheet_limits.proofs.Budget.{sum_to, sum_same}

-- the parts of rule k, and of all rules
abbrev pub parts_of : List ℕ → List ℕ → ℕ → ℕ
parts_of s rules k = parts_from 4 s (get_or rules k 0 + 7)

abbrev pub parts_in : List ℕ → List ℕ → ℕ
parts_in s rules = sum_to (parts_of s rules) (length rules)

parts_snoc : (s rules : List ℕ) (o : ℕ) → parts_in s (rules ++ (o ∷ [])) ≡ parts_in s rules + parts_from 4 s (o + 7)
unfolding sum_to
parts_snoc s rules o =
    let n : length (rules ++ (o ∷ [])) ≡ suc (length rules) = length-append rules (o ∷ []) ∙ omega arith in
    let a : sum_to (parts_of s (rules ++ (o ∷ []))) (length rules) ≡ parts_in s rules =
    sum_same (parts_of s (rules ++ (o ∷ []))) (parts_of s rules) (length rules) (λ i l. rw (get_or-append rules (o ∷ []) 0 i l)) in
    rw (n, a, get_or-append_seam rules o [] 0)

-- what every turn keeps: behind a rule or a part the parts that stand here are still to be counted, else all are counted
record Counted (s : List ℕ) (at : ℕ) (st : PackRead) : Type 0 where
  open_rule : 4 ≤ reached st.last → parts_in s st.rules ≡ st.total + parts_from (4 - st.parts) s at
  closed : reached st.last < 4 → parts_in s st.rules ≡ st.total

-- at a record that is no part all are counted
all_counted : (s : List ℕ) (at : ℕ) (st : PackRead) → (byte_at s at ≡ 5 → ⊥) → Counted s at st → parts_in s st.rules ≡ st.total
all_counted s at st n c =
    split (ltb (reached st.last) 4)
    (λ t. c.closed (ltb-true (reached st.last) 4 t))
    (λ t. omega (arith, c.open_rule (ltb-false (reached st.last) 4 t), parts_miss (4 - st.parts) s at n))

count : (s : List ℕ) (at : ℕ) (st : PackRead) {k : ℕ} → Due st.last k → byte_at s at ≡ k → body_verdict k s at st ≡ Ok tt → (k ≡ 6 → ⊥)
    → Counted s at st → Counted s (at + size_of k) (added k at st)
unfolding added size_of
count s at st (settings z) k b n c = record { open_rule = λ h. absurd (omega arith); closed = λ h. all_counted s at st (λ q. omega arith) c }
count s at st (tone l u) k b n c = record { open_rule = λ h. absurd (omega arith); closed = λ h. all_counted s at st (λ q. omega arith) c }
count s at st (tail e r) k b n c = record { open_rule = λ h. absurd (omega arith); closed = λ h. all_counted s at st (λ q. omega arith) c }
count s at st (accent l u) k b n c = record { open_rule = λ h. absurd (omega arith); closed = λ h. all_counted s at st (λ q. omega arith) c }
count s at st (rule l u) k b n c = record { open_rule = λ h. omega (arith, parts_snoc s st.rules at, all_counted s at st (λ q. omega arith) c); closed = λ h. absurd (omega arith) }
count s at st (part l u) k b n c =
    let r = part_room s at st b in
    let e : 4 - st.parts - 1 ≡ 4 - (st.parts + 1) = omega arith in
    let h = parts_hit (4 - st.parts) s at (omega (arith, r.few)) k in
    record { open_rule = λ q. omega (arith, c.open_rule l, rw e at h); closed = λ q. absurd (omega arith) }
count s at st (finish l u) k b n c = absurd (n refl)

pub parts_counted : (s : List ℕ) (st : PackRead) (e : ℕ) → read_pack s ≡ loaded st e → parts_in s st.rules ≡ st.total
unfolding read_pack sum_to
parts_counted s st e h =
    read_keeps pack_reader s st e (Counted s)
    (λ f at x c v n g. let ok = sound s at x v in count s at x ok.due refl ok.body n c)
    (λ at x c v k g. rw (← (same_loaded x st (at + 1) e (end_loads s x at e st g).1).0) (all_counted s at x (λ q. omega arith) c))
    h (record { open_rule = λ q. absurd (omega arith); closed = λ q. refl })

pub few_parts : (s : List ℕ) (st : PackRead) (e : ℕ) → read_pack s ≡ loaded st e → parts_in s st.rules ≤ 128
few_parts s st e h = omega (arith, parts_counted s st e h, (loads s st e h).kept.few_in_all)
