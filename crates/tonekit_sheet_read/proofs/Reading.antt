-- What the reader's loop keeps: from here it gives what it gives of the whole, and its place is the one that the counts give. Assumes nothing.
use Rattle.std.proofs.Common.{ℕ, ◌+◌, ◌*◌, ◌≤◌, ◌<◌, ◌≡◌, refl, ap, List, arith, length, Result, length-append, leb, leb-true, leb-false, eqb, eqb-true, Ok}
use Rattle.spec_arithmetic.specs.Fields.{byte_at}
use borrow.Author.Tests.{eqb-false}
use Rattle.tonekit_core.proofs.Split.{split}
use Rattle.tonekit_bytes.proofs.InOrder.{order_length}
use Rattle.tonekit_bytes.proofs.Files as files
use Rattle.tonekit_pack.proofs.Reading.{answer_alone, answer_told}
use Rattle.tonekit_sheet.proofs.Turns.{steady}
use Rattle.spec_sheet.specs.Reader.{SheetRead, rows_due, size_of, added, finished, body_verdict, record_verdict, sheet_reader, read_sheet, load_sheet, check_sheet}
use Rattle.tonekit_sheet_read.specs.declared.Sheet.{Sheet}
use Rattle.tonekit_sheet_read.specs.Held.{records_of, answered, Follows}
use Rattle.tonekit_sheet.specs.Kinds.{reached}
use Rattle.tonekit_sheet_read.specs.Going.{place_of, InPlace, Going}
use Rattle.tonekit_pack.specs.declared.Loaded.{Loaded}
use Rattle.tonekit_pack.specs.Format.{alone, checked_as}
use Rattle.tonekit_core.specs.declared.Rejection.{Rejection}
use Rattle.tonekit_bytes.proofs.Stepped.{stepped_length}
use Rattle.tonekit_sheet_read.proofs.Rows.{due_few}
use Rattle.tonekit_sheet.proofs.Records.{Complete, rows_done, list_done, Due, settings, tone, tail, accent, row, list, component, finish, Sound, sound, tone_room, accent_room, list_room, component_room}

pub placed_start : InPlace 0 sheet_reader.start.st
placed_start = record {
  first = λ q. refl;
  place = λ q m. absurd (omega arith);
  bare = λ q. absurd (omega arith);
  no_tones = λ q. refl;
  no_accents = λ q. refl;
  no_rows = λ q. refl;
  no_lists = λ q. (refl, refl, refl);
  few_rows = omega arith;
  all_rows = λ q. absurd (omega arith);
}

full : (at : ℕ) (st : SheetRead) → InPlace at st → Complete st → st.rows ≡ rows_due st
full at st p (rows_done l e) = e
full at st p (list_done l e) = p.all_rows (omega (arith, ap reached l))

-- far past the tones
begun : (st : SheetRead) → Complete st → 20 ≤ reached st.last
begun st (rows_done l e) = omega (arith, ap reached l)
begun st (list_done l e) = omega (arith, ap reached l)

-- a sheet is read at least as far as its last kind
some_reached : (last : ℕ) → (last ≡ 0 → ⊥) → 1 ≤ reached last
some_reached last h = split (eqb last 24) (λ e. rw e (omega arith)) (λ e. rw e (omega arith))

-- components are due of a list that was read
pub after_list : (at : ℕ) (st : SheetRead) → InPlace at st → 0 < st.due → 21 ≤ reached st.last
after_list at st p h =
    split (leb (reached st.last) 20)
    (λ a. absurd (omega (arith, p.no_lists (leb-true (reached st.last) 20 a))))
    (λ a. omega (arith, leb-false (reached st.last) 20 a))

-- past the tones, no tail is due
pub no_tail : (st : SheetRead) → 19 ≤ reached st.last → st.last ≡ 18 → ⊥
no_tail st l e = omega (arith, ap reached e)

pub placed_next : (at count : ℕ) (st : SheetRead) {k : ℕ} → Due st k → (k ≡ 23 → ⊥) → InPlace at st → InPlace (at + size_of k) (added k at count st)
unfolding added size_of
placed_next at count st (settings z) n p =
    let r = ap reached z in
    record {
      first = λ q. absurd (omega arith);
      place = λ q m. omega (arith, p.first z, p.no_tones (omega arith), p.no_accents (omega arith), p.no_rows (omega arith), p.no_lists (omega arith));
      bare = λ q. absurd (omega arith);
      no_tones = λ q. p.no_tones (omega arith);
      no_accents = λ q. p.no_accents (omega arith);
      no_rows = λ q. p.no_rows (omega arith);
      no_lists = λ q. p.no_lists (omega arith);
      few_rows = p.few_rows;
      all_rows = λ q. absurd (omega arith);
    }
placed_next at count st (tone l u m) n p = record {
  first = λ q. absurd (omega arith);
  place = λ q x. absurd (x refl);
  bare = λ q. simp length-append (omega (arith, p.place (omega arith) m));
  no_tones = λ q. absurd (omega arith);
  no_accents = λ q. p.no_accents (omega arith);
  no_rows = λ q. p.no_rows (omega arith);
  no_lists = λ q. p.no_lists (omega arith);
  few_rows = omega (arith, p.no_rows (omega arith));
  all_rows = λ q. absurd (omega arith);
}
placed_next at count st (tail e r) n p = record {
  first = λ q. absurd (omega arith);
  place = λ q m. omega (arith, p.bare e);
  bare = λ q. absurd (omega arith);
  no_tones = λ q. absurd (omega arith);
  no_accents = λ q. p.no_accents (omega arith);
  no_rows = λ q. p.no_rows (omega arith);
  no_lists = λ q. p.no_lists (omega arith);
  few_rows = p.few_rows;
  all_rows = λ q. absurd (omega arith);
}
placed_next at count st (accent l u m) n p = record {
  first = λ q. absurd (omega arith);
  place = λ q x. simp length-append (omega (arith, p.place (omega arith) m));
  bare = λ q. absurd (omega arith);
  no_tones = λ q. absurd (omega arith);
  no_accents = λ q. absurd (omega arith);
  no_rows = λ q. p.no_rows (omega arith);
  no_lists = λ q. p.no_lists (omega arith);
  few_rows = omega (arith, p.no_rows (omega arith));
  all_rows = λ q. absurd (omega arith);
}
placed_next at count st (row l u d) n p = record {
  first = λ q. absurd (omega arith);
  place = λ q m. omega (arith, p.place (omega arith) (no_tail st l));
  bare = λ q. absurd (omega arith);
  no_tones = λ q. absurd (omega arith);
  no_accents = λ q. absurd (omega arith);
  no_rows = λ q. absurd (omega arith);
  no_lists = λ q. p.no_lists (omega arith);
  few_rows = omega arith;
  all_rows = λ q. absurd (omega arith);
}
placed_next at count st (list d) n p =
    let b = begun st d in
    record {
      first = λ q. absurd (omega arith);
      place = λ q m. simp length-append (omega (arith, p.place (omega arith) (no_tail st (omega arith))));
      bare = λ q. absurd (omega arith);
      no_tones = λ q. absurd (omega arith);
      no_accents = λ q. absurd (omega arith);
      no_rows = λ q. absurd (omega arith);
      no_lists = λ q. absurd (omega arith);
      few_rows = p.few_rows;
      all_rows = λ q. full at st p d;
    }
placed_next at count st (component d) n p =
    let l = after_list at st p d in
    record {
      first = λ q. absurd (omega arith);
      place = λ q m. omega (arith, p.place (omega arith) (no_tail st (omega arith)));
      bare = λ q. absurd (omega arith);
      no_tones = λ q. absurd (omega arith);
      no_accents = λ q. absurd (omega arith);
      no_rows = λ q. absurd (omega arith);
      no_lists = λ q. absurd (omega arith);
      few_rows = p.few_rows;
      all_rows = λ q. p.all_rows l;
    }
placed_next at count st (finish d) n p = absurd (n refl)

-- no place is past the one that the counts give
pub placed_near : (at : ℕ) (st : SheetRead) → InPlace at st → at ≤ place_of st
placed_near at st p =
    split (eqb st.last 18)
    (λ a. omega (arith, p.bare (eqb-true st.last 18 a)))
    (λ a. split (eqb st.last 0)
    (λ b. omega (arith, p.first (eqb-true st.last 0 b)))
    (λ b. omega (arith, p.place (some_reached st.last (eqb-false st.last 0 b)) (eqb-false st.last 18 a))))

-- what a kind that is due and fine shows of the counts
module _ (s : List ℕ) (st : Sheet) (at : ℕ) (g : Going s st at) where
  tones_are : length (records_of st).tones ≡ st.tones
  tones_are = stepped_length 9 24 st.tones

  accents_are : length (records_of st).accents ≡ st.accents
  accents_are = stepped_length (9 + 24 * st.tones) 18 st.accents

  lists_are : length (records_of st).lists ≡ st.lists.count
  lists_are = order_length st.lists.at st.lists.count

  pub near_end : at ≤ 13337
  near_end =
      omega (arith, placed_near at (records_of st) g.placed, tones_are, accents_are, lists_are)

  pub few_rows : rows_due (records_of st) ≤ 576
  few_rows = due_few st

  -- what a record that is due and fine shows: it stands where `add` takes it to stand, and there is room
  other : {k : ℕ} → (k ≡ 18 → ⊥) → (k ≡ 19 → ⊥) → (k ≡ 20 → ⊥) → (k ≡ 21 → ⊥) → (k ≡ 22 → ⊥) → (count : ℕ) → Follows k at count st
  other a b c d e count = record { tone = λ q. absurd (a q); accent = λ q. absurd (b q); row = λ q. absurd (c q); list = λ q. absurd (d q); component = λ q. absurd (e q) }

  follows_of : {k : ℕ} → Due (records_of st) k → body_verdict k s at (records_of st) ≡ Ok tt → Follows k at (byte_at s (at + 6)) st
  follows_of (settings z) b = other (λ q. omega arith) (λ q. omega arith) (λ q. omega arith) (λ q. omega arith) (λ q. omega arith) (byte_at s (at + 6))
  follows_of (tone l u m) b = record {
    tone = λ q. (omega (arith, g.placed.place (omega arith) m, g.placed.no_accents u, g.placed.no_rows (omega arith), g.placed.no_lists (omega arith), tones_are), omega (arith, tone_room s at (records_of st) b, tones_are), omega (arith, g.placed.no_accents u, accents_are));
    accent = λ q. absurd (omega arith);
    row = λ q. absurd (omega arith);
    list = λ q. absurd (omega arith);
    component = λ q. absurd (omega arith);
  }
  follows_of (tail e r) b = other (λ q. omega arith) (λ q. omega arith) (λ q. omega arith) (λ q. omega arith) (λ q. omega arith) (byte_at s (at + 6))
  follows_of (accent l u m) b = record {
    tone = λ q. absurd (omega arith);
    accent = λ q. (omega (arith, g.placed.place (omega arith) m, g.placed.no_rows u, g.placed.no_lists (omega arith), tones_are, accents_are), omega (arith, accent_room s at (records_of st) b, accents_are));
    row = λ q. absurd (omega arith);
    list = λ q. absurd (omega arith);
    component = λ q. absurd (omega arith);
  }
  follows_of (row l u d) b = record {
    tone = λ q. absurd (omega arith);
    accent = λ q. absurd (omega arith);
    row = λ q. omega (arith, few_rows);
    list = λ q. absurd (omega arith);
    component = λ q. absurd (omega arith);
  }
  follows_of (list d) b = record {
    tone = λ q. absurd (omega arith);
    accent = λ q. absurd (omega arith);
    row = λ q. absurd (omega arith);
    list = λ q. let r = list_room s at (records_of st) b in (omega (arith, near_end), omega (arith, r.few, lists_are), r.count);
    component = λ q. absurd (omega arith);
  }
  follows_of (component d) b = record {
    tone = λ q. absurd (omega arith);
    accent = λ q. absurd (omega arith);
    row = λ q. absurd (omega arith);
    list = λ q. absurd (omega arith);
    component = λ q. (omega arith, component_room s at (records_of st) b);
  }
  follows_of (finish d) b = other (λ q. omega arith) (λ q. omega arith) (λ q. omega arith) (λ q. omega arith) (λ q. omega arith) (byte_at s (at + 6))

  module _ (v : record_verdict s at (records_of st) ≡ Ok tt) where
    pub ok : Sound s at (records_of st)
    ok = sound s at (records_of st) v

    pub ends : byte_at s at ≡ 23 → finished s (records_of st) (at + 1) ≡ read_sheet s
    unfolding read_sheet
    ends e = files.ends sheet_reader s at (records_of st) g.onward v e

    pub follows : Follows (byte_at s at) at (byte_at s (at + 6)) st
    follows = follows_of ok.due ok.body

    pub goes : (st' : Sheet) → (byte_at s at ≡ 23 → ⊥) → records_of st' ≡ added (byte_at s at) at (byte_at s (at + 6)) (records_of st) → Going s st' (at + size_of (byte_at s at))
    goes st' n e = record {
      placed = rw e (placed_next at (byte_at s (at + 6)) (records_of st) ok.due n g.placed);
      onward = rw e (files.goes sheet_reader s at (records_of st) g.onward v steady n);
    }

-- before the first record
pub begins : (s : List ℕ) (p : Sheet) → records_of p ≡ sheet_reader.start.st → Going s p 0
begins s p e = record { placed = rw e placed_start; onward = files.begins sheet_reader refl s (records_of p) e }

-- an input that is one sheet, and the check of it
pub alone_is : (s : List ℕ) (r : Result (Loaded Sheet) Rejection) → answered r ≡ read_sheet s → answered (alone (length s) r) ≡ load_sheet s
unfolding load_sheet
alone_is s r e = answer_alone records_of s r (read_sheet s) e

pub told_is : (s : List ℕ) (r : Result (Loaded Sheet) Rejection) → answered r ≡ read_sheet s → checked_as (alone (length s) r) ≡ check_sheet s
unfolding check_sheet
told_is s r e = answer_told records_of (alone (length s) r) (load_sheet s) (alone_is s r e)
