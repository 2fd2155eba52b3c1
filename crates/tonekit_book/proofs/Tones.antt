-- The tones of a pack's book, each with its tail, are those of its records (`tones_own`). Assumes nothing.
use Rattle.std.proofs.Common.{ℕ, ◌+◌, ◌-◌, ◌≤◌, ◌≡◌, refl, sym, ◌∙◌, ap, ap₂, ◌⊎◌, inl, inr, ⊎_elim, true, false, not, cond, ◌||◌, List, [], ◌∷◌, ◌++◌, map, append_assoc, arith, eqb, leb, ltb, eqb-true, ne_eqb, ltb-false, length, get_or, drop, length-append, get_or-append-add, get_or-drop}
use borrow.Author.Tests.{eqb-false}
use lib.ListN.{get_or-append, get_or-eq_default}
use mathlib.Core.Option.{none, some}
use Rattle.std.specs.Prelude.{Ok}
use Rattle.spec_arithmetic.specs.Fields.{byte_at}
use Rattle.spec_arithmetic.specs.Places.{number_at}
use Rattle.spec_arithmetic.specs.Constants.{one32}
use Rattle.spec_pack.specs.Pack.{PackRead, size_of, tone_fine, added, pack_reader}
use Rattle.tonekit_core.proofs.Split.{split, neither}
use Rattle.tonekit_pack.proofs.Records.{passed, size_pos}
use Rattle.spec_lookup.specs.Knots.{knots_at, expanded}
use Rattle.spec_lookup.specs.Lookup.{citation, component_of}
use Rattle.spec_lookup.specs.Source.{carried, components, tail_at, tone_at}
use Rattle.tonekit_bytes.proofs.Stands.{Stands, stands_front}
use Rattle.tonekit_records.specs.Records.{Tally, no_tally, among, kind, body_verdict_of, ReadsOn, none as no_more, more, records_bytes, added_all}
use Rattle.tonekit_records.proofs.OwnBytes.{byte_same, u32_same}
use Rattle.tonekit_records.proofs.Loading.{fine_body, drop_behind}
use Rattle.tonekit_book.specs.Book.{BookTone, tabulate, book_tone_at, pack_tone, book_of}
use Rattle.tonekit_book.specs.Groups.{first_tail, tone_records, tone_of_record}
use Rattle.tonekit_book.proofs.Tabulate.{tabulate_none, tabulate_some}
use Rattle.tonekit_book.proofs.Lasting.{tone_grew, tone_kept, lasts, one_longer, stays}
use Rattle.tonekit_book.proofs.OwnRule.{knots_own}

-- ---- one tone by its own bytes and those of its tail
tone_few : (r : List ℕ) (t : Tally) → body_verdict_of r t ≡ Ok tt → kind r ≡ 2 → byte_at r 6 ≤ 10
unfolding body_verdict_of
tone_few r t e k =
    let p = passed (leb 8 (length t.tones) || ltb 10 (byte_at r 6)) (tone_fine r 0) (not (among t.tones (number_at r 0))) true (rw k at e) in
    ltb-false 10 (byte_at r 6) (neither (leb 8 (length t.tones)) (ltb 10 (byte_at r 6)) p.room).1

-- what stands behind a tone: its tail y and other bytes, or, if it has none, bytes that do not begin as a tail does
record Behind (bytes y : List ℕ) : Type 0 where
  rest : List ℕ
  front : bytes ≡ y ++ rest
  tail : ((kind y ≡ 7) × (length y ≡ 9)) ⊎ ((y ≡ []) × (byte_at rest 0 ≡ 7 → ⊥))

behind : {t u : Tally} {rs : List (List ℕ)} → ReadsOn t rs u → (beyond : List ℕ) → Behind (records_bytes rs ++ (6 ∷ beyond)) (first_tail rs)
unfolding records_bytes size_of
behind no_more beyond = record { rest = 6 ∷ beyond; front = refl; tail = inr (refl, λ e. omega arith) }
behind (more {r = r} {rs = rs} w n fine x) beyond =
    let rest = records_bytes rs ++ (6 ∷ beyond) in
    let c = append_assoc r (records_bytes rs) (6 ∷ beyond) in
    split (eqb (kind r) 7)
    (λ a. let k = eqb-true (kind r) 7 a in
    rw a (record { rest = rest; front = c; tail = inl (k, w ∙ ap size_of k) }))
    (λ a. let first = get_or-append r rest 0 0 (omega (arith, w, size_pos (kind r))) in
    rw a (record { rest = r ++ rest; front = c; tail = inr (refl, λ e. eqb-false (kind r) 7 a (sym first ∙ e)) }))

module _ (s : List ℕ) (at : ℕ) (r bytes y : List ℕ) (n : length r ≡ 56) (few : byte_at r 6 ≤ 10) (c : drop at s ≡ r ++ bytes) (l : at ≤ length s) (b : Behind bytes y) where
  abbrev whole : List ℕ
  whole = r ++ y

  long : length whole ≡ 56 + length y
  long = omega (arith, length-append r y)

  -- both, and what stands behind them
  cut : drop at s ≡ whole ++ b.rest
  cut = c ∙ ap (λ z. r ++ z) b.front ∙ sym (append_assoc r y b.rest)

  h : Stands s at whole
  h = stands_front s at whole b.rest cut l

  -- the byte behind the tone's record is no tail's, where it has none
  none_here : y ≡ [] → (byte_at b.rest 0 ≡ 7 → ⊥) → eqb (byte_at s (at + 56)) 7 ≡ false
  none_here e else =
      let z : length whole + 0 ≡ 56 = omega (arith, long, ap length e) in
      let next : byte_at s (at + 56) ≡ byte_at b.rest 0 =
      sym (get_or-drop at s 56 0) ∙ ap₂ (λ v k. get_or v k 0) cut (sym z) ∙ get_or-append-add whole b.rest 0 0 in
      ne_eqb (byte_at s (at + 56)) 7 (λ q. else (sym next ∙ q))

  tail_own : (k : ℕ) → k + 4 ≤ 9 → tail_at 7 k s (at + 56) ≡ tail_at 7 k whole 56
  tail_own k low =
      ⊎_elim
      (λ t. let kind-same = byte_same s at whole h (at + 56) 56 refl (omega (arith, long, t.1)) in
      let value = u32_same s at whole h (at + 56 + k) (56 + k) (omega arith) (omega (arith, long, t.1)) in
      λ i. cond (eqb (kind-same i) 7) (value i) 0)
      (λ t. rw (none_here t.0 t.1, get_or-eq_default whole 0 {n = 56} (omega (arith, long, ap length t.0))))
      b.tail

  fields_own : tone_at 47 7 s at ≡ tone_at 47 7 whole 0
  fields_own =
      let m = byte_same s at whole h (at + 1) 1 refl (omega (arith, long)) in
      let p = u32_same s at whole h (at + 2) 2 refl (omega (arith, long)) in
      let f = byte_same s at whole h (at + 47) 47 refl (omega (arith, long)) in
      let x = u32_same s at whole h (at + 48) 48 refl (omega (arith, long)) in
      let z = u32_same s at whole h (at + 52) 52 refl (omega (arith, long)) in
      let t = tail_own 1 (omega arith) in
      let e = tail_own 5 (omega arith) in
      λ i. record { number = m i; prior = p i; flag = f i; from = x i; to = z i; tail_final = t i; tail_elsewhere = e i }

  count_own : byte_at s (at + 6) ≡ byte_at whole 6
  count_own = byte_same s at whole h (at + 6) 6 refl (omega (arith, long))

  citation_own : (owner : ℕ) → components s (citation owner at) 1 ≡ components whole (citation owner 0) 1
  unfolding components component_of
  citation_own owner =
      let own : byte_at whole 6 ≡ byte_at r 6 = get_or-append r y 0 6 (omega arith) in
      let k = ap (knots_at s (at + 7)) count_own ∙ knots_own s at whole h (byte_at whole 6) (at + 7) 7 refl (omega (arith, long, own)) in
      ap (λ z. carried (record { name = record { owner = owner; form = 1; label = 0 }; part = 0; weight = one32; points = expanded z }) ∷ []) k

  tone_own : book_tone_at s at ≡ tone_of_record whole
  tone_own = λ i. record { tone = fields_own i; cited = λ m. cond (eqb (count_own i) 0) none (some (citation_own m i)) }

-- ---- all tones
module _ (s beyond : List ℕ) where
  from_records : {t u : Tally} {rs : List (List ℕ)} → ReadsOn t rs u → (at : ℕ) (st : PackRead) → drop at s ≡ records_bytes rs ++ (6 ∷ beyond) → at ≤ length s
      → tabulate (pack_tone s (added_all st at rs)) (length (added_all st at rs).tones - length st.tones) (length st.tones) ≡ map tone_of_record (tone_records rs)
  unfolding added_all tone_records records_bytes size_of
  from_records no_more at st c l = tabulate_none _ _ _ (omega arith)
  from_records {t} (more {r = r} {rs = rs} w n fine x) at st c l =
      let bytes = records_bytes rs ++ (6 ∷ beyond) in
      let c1 : drop at s ≡ r ++ bytes = c ∙ append_assoc r (records_bytes rs) (6 ∷ beyond) in
      let h = stands_front s at r bytes c1 l in
      let st1 = added (kind r) at st in
      let fin = added_all st1 (at + length r) rs in
      let ih = from_records x (at + length r) st1 (drop_behind s at r bytes c1) h.fits in
      let la = (lasts rs (at + length r) st1).tones in
      split (eqb (kind r) 2)
      (λ k2. let k = eqb-true (kind r) 2 k2 in
      let v = tone_grew (kind r) at st k in
      let many = ap length v ∙ one_longer st.tones at in
      let here = stays st.tones st1.tones fin.tones at v la in
      let first : pack_tone s fin (length st.tones) ≡ tone_of_record (r ++ first_tail rs) =
      ap (book_tone_at s) here ∙ tone_own s at r bytes (first_tail rs) (w ∙ ap size_of k) (tone_few r t (fine_body r t fine) k) c1 l (behind x beyond) in
      rw k2
      (tabulate_some _ _ (length fin.tones - (length st.tones + 1)) (length st.tones) (omega (arith, la.long, many))
      ∙ ap₂ (λ (y : BookTone) (ys : List BookTone). y ∷ ys) first (ap (λ m. tabulate (pack_tone s fin) (length fin.tones - m) m) (sym many) ∙ ih)))
      (λ k2. rw k2 (ap (λ m. tabulate (pack_tone s fin) (length fin.tones - m) m) (sym (ap length (tone_kept (kind r) at st k2))) ∙ ih))

pub tones_own : {u : Tally} {rs : List (List ℕ)} (beyond : List ℕ) → ReadsOn no_tally rs u
    → (book_of (records_bytes rs ++ (6 ∷ beyond)) (added_all pack_reader.start.st 0 rs)).tones ≡ map tone_of_record (tone_records rs)
unfolding book_of
tones_own {rs = rs} beyond x =
    let s = records_bytes rs ++ (6 ∷ beyond) in
    let fin = added_all pack_reader.start.st 0 rs in
    let z : length fin.tones ≡ length fin.tones - 0 = omega arith in
    ap (λ n. tabulate (pack_tone s fin) n 0) z ∙ from_records s beyond x 0 pack_reader.start.st refl (omega arith)
