-- What the sheet reader keeps at every turn: where each record stands, and its kind. Assumes nothing.
use Rattle.std.proofs.Common.{ℕ, suc, ◌+◌, ◌*◌, ◌≤◌, ◌<◌, ◌≡◌, refl, ap, ◌∙◌, false, List, [], ◌∷◌, ◌++◌, arith, length, length-append, leb, ltb, leb-true, leb-false, ltb-true, ltb-false, Ok}
use Rattle.spec_arithmetic.specs.Fields.{byte_at}
use Rattle.spec_arithmetic.specs.Places.{number_at}
use Rattle.spec_pack.specs.Pack.{holds}
use Rattle.tonekit_core.proofs.Split.{split}
use Rattle.tonekit_pack.proofs.Each.{Each, each_snoc}
use Rattle.spec_sheet.specs.Reader.{SheetRead, rows_due, size_of, body_verdict, added, row_at}
use Rattle.tonekit_sheet_inverse.proofs.Place.{rows_from, list_place, lists_from}
use Rattle.tonekit_sheet.proofs.Every.{Every, every_snoc}
use Rattle.tonekit_sheet.specs.Kinds.{reached}
use Rattle.tonekit_sheet.proofs.Records.{Complete, rows_done, list_done, Due, settings, tone, tail, accent, row, list, component, finish, tone_number, list_some}

place_none : (s : List ℕ) (o n : ℕ) → n ≡ 0 → list_place s o n ≡ o
place_none s o n e = rw e

-- behind an accent no tone is the last record
past_tones : (last : ℕ) → 19 ≤ reached last → last ≡ 18 → ⊥
past_tones last l e = omega (arith, ap reached e)

-- ---- the records: tone i and its tail, accent i behind so many tones, row r, list i and its components
pub record ToneThere (s : List ℕ) (i o : ℕ) : Type 0 where
  pub place : o ≡ 9 + 24 * i
  pub kind : byte_at s o ≡ 18
  pub least : 1 ≤ number_at s o

abbrev pub TailThere : List ℕ → ℕ → Type 0
TailThere s i = byte_at s (9 + 24 * i + 15) ≡ 24

abbrev pub New : List ℕ → List ℕ → ℕ → Type 0
New s before o = holds s before (number_at s o) ≡ false

pub record AccentThere (s : List ℕ) (tones i o : ℕ) : Type 0 where
  pub place : o ≡ 9 + 24 * tones + 18 * i
  pub kind : byte_at s o ≡ 19

pub record ListThere (s : List ℕ) (from i o : ℕ) : Type 0 where
  pub place : o ≡ list_place s from i
  pub kind : byte_at s o ≡ 21
  pub some : 1 ≤ byte_at s (o + 6)

-- component j of the list at o
abbrev pub PartThere : List ℕ → ℕ → ℕ → Type 0
PartThere s o j = byte_at s (o + 7 + 45 * j) ≡ 22

pub record Kept (s : List ℕ) (at : ℕ) (st : SheetRead) : Type 0 where
  pub first : st.last ≡ 0 → at ≡ 0
  pub begun : 17 ≤ reached st.last → byte_at s 0 ≡ 17
  pub no_tones : reached st.last ≤ 17 → length st.tones ≡ 0
  pub no_accents : reached st.last ≤ 18 → length st.accents ≡ 0
  pub no_rows : reached st.last ≤ 19 → st.rows ≡ 0
  pub no_lists : reached st.last ≤ 20 → length st.lists ≡ 0
  pub none_due : reached st.last ≤ 20 → st.due ≡ 0
  pub place : 17 ≤ reached st.last → (st.last ≡ 18 → ⊥) → at + 45 * st.due ≡ list_place s (lists_from st) (length st.lists)
  -- between a tone and its tail
  pub tail_place : st.last ≡ 18 → at + 9 ≡ lists_from st
  pub tones : Every (ToneThere s) st.tones
  pub tones_once : Each (New s) st.tones
  -- each tone has its tail, but for the last while its record is the last
  pub tails : (i : ℕ) → i < length st.tones → (st.last ≡ 18 → i + 1 < length st.tones) → TailThere s i
  pub accents : Every (AccentThere s (length st.tones)) st.accents
  pub rows : (r : ℕ) → r < st.rows → byte_at s (row_at st r) ≡ 20
  pub all_rows : 21 ≤ reached st.last → st.rows ≡ rows_due st
  pub lists : Every (ListThere s (lists_from st)) st.lists
  pub parts : (i j : ℕ) → i + 1 < length st.lists → j < byte_at s (list_place s (lists_from st) i + 6) → PartThere s (list_place s (lists_from st) i) j
  pub last_parts : (i j : ℕ) → i + 1 ≡ length st.lists → j + st.due < byte_at s (list_place s (lists_from st) i + 6) → PartThere s (list_place s (lists_from st) i) j

module _ (s : List ℕ) (at : ℕ) (st : SheetRead) (p : Kept s at st) where
  -- before the first list the next record is due where the lists begin
  before_lists : 17 ≤ reached st.last → reached st.last ≤ 20 → (st.last ≡ 18 → ⊥) → at ≡ lists_from st
  before_lists l u n = omega (arith, p.place l n, p.none_due u, place_none s (lists_from st) (length st.lists) (p.no_lists u))

  after_settings : st.last ≡ 0 → byte_at s at ≡ 17 → Kept s (at + size_of 17) (added 17 at (byte_at s (at + 6)) st)
  unfolding added size_of
  after_settings z k =
      let a = p.first z in
      let w : reached st.last ≡ 0 = ap reached z in
      let t = p.no_tones (omega arith) in
      let c = p.no_accents (omega arith) in
      let r = p.no_rows (omega arith) in
      let l = p.no_lists (omega arith) in
      record {
        first = λ q. absurd (omega arith);
        begun = λ q. rw a at k;
        no_tones = λ q. t;
        no_accents = λ q. c;
        no_rows = λ q. r;
        no_lists = λ q. l;
        none_due = λ q. p.none_due (omega arith);
        place = λ q n. omega (arith, p.none_due (omega arith), place_none s (rows_from st + 6 * st.rows) (length st.lists) l);
        tail_place = λ q. absurd (omega arith);
        tones = λ i b. absurd (omega arith);
        tones_once = p.tones_once;
        tails = λ i b q. absurd (omega arith);
        accents = λ i b. absurd (omega arith);
        rows = λ i b. absurd (omega arith);
        all_rows = λ q. absurd (omega arith);
        lists = λ i b. absurd (omega arith);
        parts = λ i j b. absurd (omega arith);
        last_parts = λ i j b. absurd (omega arith);
      }

  after_tone : 17 ≤ reached st.last → reached st.last ≤ 18 → (st.last ≡ 18 → ⊥) → byte_at s at ≡ 18 → body_verdict 18 s at st ≡ Ok tt → Kept s (at + size_of 18) (added 18 at (byte_at s (at + 6)) st)
  unfolding added size_of
  after_tone a b m k v =
      let c = p.no_accents (omega arith) in
      let r = p.no_rows (omega arith) in
      let l = p.no_lists (omega arith) in
      let h : at ≡ lists_from st = before_lists a (omega arith) m in
      let n = tone_number s at st v in
      record {
        first = λ q. absurd (omega arith);
        begun = λ q. p.begun a;
        no_tones = λ q. absurd (omega arith);
        no_accents = λ q. c;
        no_rows = λ q. r;
        no_lists = λ q. l;
        none_due = λ q. p.none_due (omega arith);
        place = λ q x. absurd (x refl);
        tail_place = λ q. omega (arith, length-append st.tones (at ∷ []));
        tones = every_snoc (ToneThere s) st.tones at p.tones (record { place = omega arith; kind = k; least = n.0 });
        tones_once = each_snoc (New s) st.tones at p.tones_once n.1;
        tails = λ i x q. p.tails i (omega (arith, q refl, length-append st.tones (at ∷ []))) (λ e. absurd (m e));
        accents = λ i b. absurd (omega arith);
        rows = λ i b. absurd (omega arith);
        all_rows = λ q. absurd (omega arith);
        lists = λ i b. absurd (omega arith);
        parts = λ i j b. absurd (omega arith);
        last_parts = λ i j b. absurd (omega arith);
      }

  after_tail : st.last ≡ 18 → reached st.last ≡ 18 → byte_at s at ≡ 24 → Kept s (at + size_of 24) (added 24 at (byte_at s (at + 6)) st)
  unfolding added size_of
  after_tail e w k =
      let c = p.no_accents (omega arith) in
      let r = p.no_rows (omega arith) in
      let l = p.no_lists (omega arith) in
      let h = p.tail_place e in
      record {
        first = λ q. absurd (omega arith);
        begun = λ q. p.begun (omega arith);
        no_tones = λ q. absurd (omega arith);
        no_accents = λ q. c;
        no_rows = λ q. r;
        no_lists = λ q. l;
        none_due = λ q. p.none_due (omega arith);
        place = λ q n. omega (arith, p.none_due (omega arith), place_none s (lists_from st) (length st.lists) l);
        tail_place = λ q. absurd (omega arith);
        tones = p.tones;
        tones_once = p.tones_once;
        tails = λ i x q.
            split (ltb (i + 1) (length st.tones))
            (λ t. p.tails i x (λ z. ltb-true (i + 1) (length st.tones) t))
            (λ t. let y : 9 + 24 * i + 15 ≡ at = omega (arith, ltb-false (i + 1) (length st.tones) t) in rw y k);
        accents = λ i b. absurd (omega arith);
        rows = λ i b. absurd (omega arith);
        all_rows = λ q. absurd (omega arith);
        lists = λ i b. absurd (omega arith);
        parts = λ i j b. absurd (omega arith);
        last_parts = λ i j b. absurd (omega arith);
      }

  after_accent : 18 ≤ reached st.last → reached st.last ≤ 19 → (st.last ≡ 18 → ⊥) → byte_at s at ≡ 19 → Kept s (at + size_of 19) (added 19 at (byte_at s (at + 6)) st)
  unfolding added size_of
  after_accent a b m k =
      let r = p.no_rows (omega arith) in
      let l = p.no_lists (omega arith) in
      let h : at ≡ lists_from st = before_lists (omega arith) (omega arith) m in
      record {
        first = λ q. absurd (omega arith);
        begun = λ q. p.begun (omega arith);
        no_tones = λ q. absurd (omega arith);
        no_accents = λ q. absurd (omega arith);
        no_rows = λ q. r;
        no_lists = λ q. l;
        none_due = λ q. p.none_due (omega arith);
        place = λ q n. omega (arith, p.none_due (omega arith), length-append st.accents (at ∷ []), place_none s (9 + 24 * length st.tones + 18 * length (st.accents ++ (at ∷ [])) + 6 * st.rows) (length st.lists) l);
        tail_place = λ q. absurd (omega arith);
        tones = p.tones;
        tones_once = p.tones_once;
        tails = λ i x q. p.tails i x (λ e. absurd (m e));
        accents = every_snoc (AccentThere s (length st.tones)) st.accents at p.accents (record { place = omega arith; kind = k });
        rows = λ i b. absurd (omega arith);
        all_rows = λ q. absurd (omega arith);
        lists = λ i b. absurd (omega arith);
        parts = λ i j b. absurd (omega arith);
        last_parts = λ i j b. absurd (omega arith);
      }

  after_row : 19 ≤ reached st.last → reached st.last ≤ 20 → byte_at s at ≡ 20 → Kept s (at + size_of 20) (added 20 at (byte_at s (at + 6)) st)
  unfolding added size_of
  after_row a b k =
      let l = p.no_lists (omega arith) in
      let m = past_tones st.last a in
      let h : at ≡ lists_from st = before_lists (omega arith) (omega arith) m in
      record {
        first = λ q. absurd (omega arith);
        begun = λ q. p.begun (omega arith);
        no_tones = λ q. absurd (omega arith);
        no_accents = λ q. absurd (omega arith);
        no_rows = λ q. absurd (omega arith);
        no_lists = λ q. l;
        none_due = λ q. p.none_due (omega arith);
        place = λ q n. omega (arith, p.none_due (omega arith), place_none s (rows_from st + 6 * (st.rows + 1)) (length st.lists) l);
        tail_place = λ q. absurd (omega arith);
        tones = p.tones;
        tones_once = p.tones_once;
        tails = λ i x q. p.tails i x (λ e. absurd (m e));
        accents = p.accents;
        rows = λ r c. split (ltb r st.rows) (λ t. p.rows r (ltb-true r st.rows t)) (λ t. let e : r ≡ st.rows = omega (arith, ltb-false r st.rows t) in rw (e, ← h) k);
        all_rows = λ q. absurd (omega arith);
        lists = λ i b. absurd (omega arith);
        parts = λ i j b. absurd (omega arith);
        last_parts = λ i j b. absurd (omega arith);
      }

  -- a list behind all components of the one before it
  list_next : 19 ≤ reached st.last → st.due ≡ 0 → st.rows ≡ rows_due st
      → ((i j : ℕ) → i + 1 ≡ length st.lists → j < byte_at s (list_place s (lists_from st) i + 6) → PartThere s (list_place s (lists_from st) i) j)
      → byte_at s at ≡ 21 → body_verdict 21 s at st ≡ Ok tt → Kept s (at + size_of 21) (added 21 at (byte_at s (at + 6)) st)
  unfolding added size_of
  list_next l d r whole k v =
      let n = length st.lists in
      let w = past_tones st.last l in
      let h : at ≡ list_place s (lists_from st) n = omega (arith, p.place (omega arith) w) in
      let m : length (st.lists ++ (at ∷ [])) ≡ suc n = omega (arith, length-append st.lists (at ∷ [])) in
      record {
        first = λ q. absurd (omega arith);
        begun = λ q. p.begun (omega arith);
        no_tones = λ q. absurd (omega arith);
        no_accents = λ q. absurd (omega arith);
        no_rows = λ q. absurd (omega arith);
        no_lists = λ q. absurd (omega arith);
        none_due = λ q. absurd (omega arith);
        place = λ q x. rw (m, ← h) (omega arith);
        tail_place = λ q. absurd (omega arith);
        tones = p.tones;
        tones_once = p.tones_once;
        tails = λ i x q. p.tails i x (λ e. absurd (w e));
        accents = p.accents;
        rows = p.rows;
        all_rows = λ q. r;
        lists = every_snoc (ListThere s (lists_from st)) st.lists at p.lists (record { place = h; kind = k; some = list_some s at st v });
        parts = λ i j b c. split (ltb (i + 1) n)
            (λ t. p.parts i j (ltb-true (i + 1) n t) c)
            (λ t. whole i j (omega (arith, ltb-false (i + 1) n t)) c);
        last_parts = λ i j b c. let e : i ≡ n = omega arith in let f : j + byte_at s (at + 6) < byte_at s (at + 6) = rw (e, ← h) at c in absurd (omega arith);
      }

  after_list : Complete st → byte_at s at ≡ 21 → body_verdict 21 s at st ≡ Ok tt → Kept s (at + size_of 21) (added 21 at (byte_at s (at + 6)) st)
  after_list (rows_done z r) k v =
      let w : reached st.last ≡ 20 = ap reached z in
      list_next (omega arith) (p.none_due (omega arith)) r (λ i j b c. absurd (omega (arith, p.no_lists (omega arith)))) k v
  after_list (list_done z d) k v =
      let w : reached st.last ≡ 22 = ap reached z in
      list_next (omega arith) d (p.all_rows (omega arith)) (λ i j b c. p.last_parts i j b (omega arith)) k v

  after_component : 1 ≤ st.due → byte_at s at ≡ 22 → Kept s (at + size_of 22) (added 22 at (byte_at s (at + 6)) st)
  unfolding added size_of
  after_component d k =
      let l : 21 ≤ reached st.last = split (leb (reached st.last) 20) (λ t. absurd (omega (arith, p.none_due (leb-true (reached st.last) 20 t)))) (λ t. leb-false (reached st.last) 20 t) in
      let w = past_tones st.last (omega arith) in
      let h = p.place (omega arith) w in
      record {
        first = λ q. absurd (omega arith);
        begun = λ q. p.begun (omega arith);
        no_tones = λ q. absurd (omega arith);
        no_accents = λ q. absurd (omega arith);
        no_rows = λ q. absurd (omega arith);
        no_lists = λ q. absurd (omega arith);
        none_due = λ q. absurd (omega arith);
        place = λ q n. omega arith;
        tail_place = λ q. absurd (omega arith);
        tones = p.tones;
        tones_once = p.tones_once;
        tails = λ i x q. p.tails i x (λ e. absurd (w e));
        accents = p.accents;
        rows = p.rows;
        all_rows = λ q. p.all_rows l;
        lists = p.lists;
        parts = p.parts;
        last_parts = λ i j b c.
            let o = list_place s (lists_from st) i in
            split (ltb (j + st.due) (byte_at s (o + 6)))
            (λ t. p.last_parts i j b (ltb-true (j + st.due) (byte_at s (o + 6)) t))
            (λ t. let m : length st.lists ≡ suc i = omega arith in
            let g : at + 45 * st.due ≡ o + (7 + 45 * byte_at s (o + 6)) = h ∙ ap (list_place s (lists_from st)) m in
            let e : o + 7 + 45 * j ≡ at = omega (arith, ltb-false (j + st.due) (byte_at s (o + 6)) t) in
            rw e k);
      }

  pub keep : {k : ℕ} → Due st k → byte_at s at ≡ k → body_verdict k s at st ≡ Ok tt → (k ≡ 23 → ⊥)
      → Kept s (at + size_of k) (added k at (byte_at s (at + 6)) st)
  keep (settings z) k b n = after_settings z k
  keep (tone l u m) k b n = after_tone l u m k b
  keep (tail e r) k b n = after_tail e r k
  keep (accent l u m) k b n = after_accent l u m k
  keep (row l u m) k b n = after_row l u k
  keep (list c) k b n = after_list c k b
  keep (component d) k b n = after_component d k
  keep (finish c) k b n = absurd (n refl)
