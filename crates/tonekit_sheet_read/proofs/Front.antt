-- The reader looks at no more than a sheet can hold: inputs with the same first 13,472 bytes give the same answer. Assumes nothing.
use Rattle.std.proofs.Common.{ℕ, zero, suc, ◌+◌, ◌-◌, ◌*◌, ◌≤◌, ◌<◌, ◌≡◌, refl, ap, ap₂, Bool, true, false, ◌&&◌, ◌||◌, List, arith, length, get_or, take, ltb, ltb-true, ltb-false, None}
use lib.Ieee.{Float}
use Rattle.tonekit_core.proofs.LoopLaws.{range_same, to_same}
use Rattle.spec_arithmetic.specs.Fields.{byte_at}
use Rattle.tonekit_bytes.proofs.Agreeing.{Agree, taken_agrees, two, four, float}
use Rattle.spec_arithmetic.specs.Places.{number_at}
use Rattle.spec_pack.specs.Pack.{settings_verdict, tail_verdict}
use Rattle.tonekit_core.proofs.Split.{split}
use Rattle.tonekit_bytes.proofs.Files.{Alike, read_same, read_keeps, single_same}
use Rattle.tonekit_pack.proofs.Front.{region_same, tails_same, tolerances_same, holds_same, zero_or_same}
use Rattle.spec_sheet.specs.Sheet.{accent_place, tone_place, prev_place}
use Rattle.spec_arithmetic.specs.Files.{loaded}
use Rattle.spec_sheet.specs.Reader.{SheetRead, rows_due, due_next, size_of, tone_verdict, accent_verdict, row_verdict, list_verdict, point_fine, points_fine, component_verdict, body_verdict, record_verdict, added, row_at, loose_row, accent_down, prev_due, row_due, row_names, row_wrong, named, list_size, same_lists, repeated, list_wrong, finished, sheet_reader, read_sheet, load_sheet}
use Rattle.tonekit_sheet.specs.Parts.{point_turn, loose_turn, accent_turn, row_turn, names_turn, same_turn, equal_turn, list_turn}
use Rattle.tonekit_sheet.proofs.RowPlaces.{rows_few, some_tone, row_places}
use Rattle.tonekit_sheet.proofs.Records.{Complete, Due, due_is, settings, tone, tail, accent, row, list, component, finish, sound, closes}
use Rattle.tonekit_sheet_read.proofs.Reading.{placed_near, after_list}
use Rattle.tonekit_sheet.proofs.Turns.{steady, finished_is}
use Rattle.tonekit_sheet_read.proofs.Kept.{ListRead, Kept, kept_start, no_due, keep}

-- the points of a component in both
points_same : (n : ℕ) (t s : List ℕ) (a : Agree n t s) (o : ℕ) → o + 40 ≤ n → points_fine t o ≡ points_fine s o
unfolding points_fine
points_same n t s a o h = range_same (point_turn t o) (point_turn s o) 0 10 true (omega arith) (λ j y l. ap (λ (x : Float). y && point_fine x) (float n t s a (o + 4 * j) (omega arith)))

-- no place is past the one that the limits of the counts give
near : (s : List ℕ) (at : ℕ) (st : SheetRead) → Kept s at st → at ≤ 13337
near s at st p =
    let r : rows_due st ≤ 576 = rows_few (length st.accents) (length st.tones) p.few_accents p.few_tones in
    omega (arith, placed_near at st p.placed, p.placed.few_rows, p.few_tones, p.few_accents, p.few_lists, p.few_in_all)

module _ (n : ℕ) (t s : List ℕ) (a : Agree n t s) (at : ℕ) (st : SheetRead) (p : Kept s at st) (low : at ≤ 13337) (room : 13472 ≤ n) where
  few_rows : st.rows ≤ 576
  few_rows = let r : rows_due st ≤ 576 = rows_few (length st.accents) (length st.tones) p.few_accents p.few_tones in omega (arith, p.placed.few_rows)

  tones_seen : (i : ℕ) → i < length st.tones → get_or st.tones i 0 + 7 ≤ n
  tones_seen i l = omega (arith, p.tones_at i l, p.few_tones)

  accents_seen : (i : ℕ) → i < length st.accents → get_or st.accents i 0 + 7 ≤ n
  accents_seen i l = omega (arith, p.accents_at i l, p.few_tones, p.few_accents)

  last_seen : 1 ≤ length st.lists → get_or st.lists (length st.lists - 1) 0 + 7 ≤ at
  last_seen l = omega (arith, (p.latest l).extent)

  lists_seen : (i : ℕ) → i < length st.lists → get_or st.lists i 0 + 7 ≤ n
  lists_seen i l =
      split (ltb (i + 1) (length st.lists))
      (λ h. omega (arith, (p.lists i (ltb-true (i + 1) (length st.lists) h)).extent))
      (λ h. let q : length st.lists - 1 ≡ i = omega (arith, ltb-false (i + 1) (length st.lists) h) in
      let e : get_or st.lists i 0 + 7 ≤ at = rw q at (last_seen (omega arith)) in
      omega arith)

  -- a record of each kind that is due is the same in both
  body_same : {k : ℕ} → Due st k → body_verdict k t at st ≡ body_verdict k s at st
  unfolding body_verdict settings_verdict tone_verdict tail_verdict accent_verdict row_verdict list_verdict component_verdict
  body_same (settings e) = rw (four n t s a (at + 1) (omega arith), four n t s a (at + 5) (omega arith))
  body_same (tone l u m) =
      rw (a.bytes (at + 1) (omega arith), four n t s a (at + 2) (omega arith), region_same n t s a (at + 6) (omega arith), holds_same n t s a st.tones (number_at s at) tones_seen)
  body_same (tail e r) = rw (tails_same n t s a at (omega arith))
  body_same (accent l u m) =
      rw (a.bytes (at + 1) (omega arith), tolerances_same n t s a (at + 2) (omega arith), holds_same n t s a st.accents (number_at s at) accents_seen)
  body_same (row l u d) =
      rw (a.bytes (at + 1) (omega arith), a.bytes (at + 2) (omega arith), a.bytes (at + 3) (omega arith), holds_same n t s a st.accents (byte_at s (at + 1)) accents_seen, holds_same n t s a st.tones (byte_at s (at + 2)) tones_seen, zero_or_same n t s a st.tones (byte_at s (at + 3)) tones_seen)
  body_same (list c) =
      rw (a.bytes (at + 1) (omega arith), a.bytes (at + 2) (omega arith), a.bytes (at + 3) (omega arith), two n t s a (at + 4) (omega arith), a.bytes (at + 6) (omega arith), holds_same n t s a st.accents (byte_at s (at + 2)) accents_seen)
  body_same (component d) =
      let q = last_seen (p.some_list (after_list at st p.placed d)) in
      rw (four n t s a (at + 1) (omega arith), a.bytes (get_or st.lists (length st.lists - 1) 0 + 3) (omega arith), points_same n t s a (at + 5) (omega arith))
  body_same (finish c) = refl

  room_for : {k : ℕ} → Due st k → at + size_of k ≤ n
  unfolding size_of
  room_for (settings e) = omega arith
  room_for (tone l u m) = omega arith
  room_for (tail e r) = omega arith
  room_for (accent l u m) = omega arith
  room_for (row l u d) = omega arith
  room_for (list c) = omega arith
  room_for (component d) = omega arith
  room_for (finish c) = omega arith

  verdict_same : record_verdict t at st ≡ record_verdict s at st
  unfolding record_verdict
  verdict_same =
      split (due_next st (byte_at s at))
      (λ d. let q = due_is st (byte_at s at) d in
      rw (a.ends at (omega arith), a.bytes at (omega arith), a.cuts (at + size_of (byte_at s at)) (room_for q), body_same q))
      (λ d. rw (a.ends at (omega arith), a.bytes at (omega arith), d))

  -- ---- the check at the end
  row_byte : (r k : ℕ) → r < st.rows → k ≤ 5 → byte_at t (row_at st r + k) ≡ byte_at s (row_at st r + k)
  row_byte r k l h = a.bytes (row_at st r + k) (omega (arith, few_rows, p.few_tones, p.few_accents))

  loose_same : loose_row t st ≡ loose_row s st
  unfolding loose_row
  loose_same =
      to_same (loose_turn t st) (loose_turn s st) (λ u. None) st.rows 0
      (λ r u l. rw (row_byte r 4 l (omega arith), row_byte r 5 l (omega arith), zero_or_same n t s a st.lists (byte_at s (row_at st r + 4)) lists_seen, zero_or_same n t s a st.lists (byte_at s (row_at st r + 5)) lists_seen))

  tone_number : (i : ℕ) → i < length st.tones → number_at t (get_or st.tones i 0) ≡ number_at s (get_or st.tones i 0)
  tone_number i l = a.bytes (get_or st.tones i 0 + 1) (omega (arith, tones_seen i l))

  accent_number : (i : ℕ) → i < length st.accents → number_at t (get_or st.accents i 0) ≡ number_at s (get_or st.accents i 0)
  accent_number i l = a.bytes (get_or st.accents i 0 + 1) (omega (arith, accents_seen i l))

  down_same : accent_down t st ≡ accent_down s st
  unfolding accent_down
  down_same = to_same (accent_turn t st) (accent_turn s st) (λ u. None) (length st.accents) 0 (λ i b l. rw (accent_number i l))

  prev_same : (q : ℕ) → q ≤ length st.tones → prev_due t st q ≡ prev_due s st q
  prev_same zero l = refl
  prev_same (suc q) l = tone_number q (omega arith)

  due_same : (r : ℕ) → r < st.rows → row_due t st r ≡ row_due s st r
  unfolding row_due
  due_same r l =
      let x = length st.accents in
      let y = length st.tones in
      let h : r < rows_due st = omega (arith, p.placed.few_rows) in
      let q = row_places x y r (some_tone x y r h) h in
      rw (row_byte r 1 l (omega arith), row_byte r 2 l (omega arith), row_byte r 3 l (omega arith), accent_number (accent_place y r) q.accent, tone_number (tone_place y r) q.tone, prev_same (prev_place y r) q.prev)

  names_same : (r m : ℕ) → r < st.rows → row_names t st r m ≡ row_names s st r m
  unfolding row_names
  names_same r m l = rw (row_byte r 4 l (omega arith), row_byte r 5 l (omega arith))

  wrong_same : row_wrong t st ≡ row_wrong s st
  unfolding row_wrong
  wrong_same =
      to_same (row_turn t st) (row_turn s st) (λ u. None) st.rows 0
      (λ r m l. rw (due_same r l, names_same r m l, row_byte r 4 l (omega arith), row_byte r 5 l (omega arith)))

  named_same : (x : ℕ) → named t st x ≡ named s st x
  unfolding named
  named_same x =
      range_same (names_turn t st x) (names_turn s st x) 0 st.rows false (omega arith)
      (λ r u l. rw (row_byte r 4 l (omega arith), row_byte r 5 l (omega arith)))

  module _ (c : Complete st) where
    -- a list, with all its components, stands before the end
    list_fine_lem : (i : ℕ) → i < length st.lists → ListRead s (get_or st.lists i 0) 0 at
    list_fine_lem i h =
        split (ltb (i + 1) (length st.lists)) (λ u. p.lists i (ltb-true (i + 1) (length st.lists) u))
        (λ u. let q : length st.lists - 1 ≡ i = omega (arith, ltb-false (i + 1) (length st.lists) u) in rw (no_due p.placed c, q) at (p.latest (omega arith)))

    -- so as many bytes of it as the longest list has are in the front
    list_byte : (i k : ℕ) → i < length st.lists → k < 187 → byte_at t (get_or st.lists i 0 + k) ≡ byte_at s (get_or st.lists i 0 + k)
    list_byte i k l h = let f = list_fine_lem i l in a.bytes (get_or st.lists i 0 + k) (omega (arith, f.extent, f.some))

    equal_same : (i j : ℕ) → i < length st.lists → j < length st.lists → same_lists t (get_or st.lists i 0) (get_or st.lists j 0) ≡ same_lists s (get_or st.lists i 0) (get_or st.lists j 0)
    unfolding same_lists
    equal_same i j l h =
        let x = get_or st.lists i 0 in
        let y = get_or st.lists j 0 in
        rw (list_byte i 6 l (omega arith))
        (range_same (same_turn t x y) (same_turn s x y) 2 (list_size s x) true (omega arith)
        (λ k u b. let d : k < 187 = omega (arith, (list_fine_lem i l).few) in rw (list_byte i k l d, list_byte j k h d)))

    repeated_same : (i : ℕ) → i < length st.lists → repeated t st.lists i (get_or st.lists i 0) ≡ repeated s st.lists i (get_or st.lists i 0)
    unfolding repeated
    repeated_same i l =
        let x = get_or st.lists i 0 in
        range_same (equal_turn t st.lists x) (equal_turn s st.lists x) 0 i false (omega arith) (λ j u h. ap (λ (b : Bool). u || b) (equal_same i j l (omega arith)))

    lists_same : list_wrong t st ≡ list_wrong s st
    unfolding list_wrong
    lists_same =
        to_same (list_turn t st) (list_turn s st) (λ u. None) (length st.lists) 0
        (λ i u l. rw (list_byte i 1 l (omega arith), named_same (i + 1), repeated_same i l))

    finished_same : (e : ℕ) → finished t st e ≡ finished s st e
    unfolding finished
    finished_same e = rw (loose_same, down_same, wrong_same, lists_same)

alike : (n : ℕ) (t s : List ℕ) → Agree n t s → 13472 ≤ n → Alike sheet_reader t s (Kept s)
alike n t s a l =
    record {
      kind = λ at st p. a.bytes at (omega (arith, near s at st p));
      verdict = λ at st p. verdict_same n t s a at st p (near s at st p) l;
      added = λ at st p. ap₂ (λ k c. added k at c st) (a.bytes at (omega (arith, near s at st p))) (a.bytes (at + 6) (omega (arith, near s at st p)));
      finish = λ at st p v k. finished_same n t s a at st p (near s at st p) l (closes st k (sound s at st v).due) (at + 1);
      goes = λ at st p v k. let ok = sound s at st v in keep s at st p ok.due ok.body k;
    }

read_agrees : (n : ℕ) (t s : List ℕ) → Agree n t s → 13472 ≤ n → read_sheet t ≡ read_sheet s
unfolding read_sheet
read_agrees n t s a l = read_same sheet_reader t s (Kept s) (alike n t s a l) steady refl (kept_start s)

end_near : (s : List ℕ) (st : SheetRead) (e : ℕ) → read_sheet s ≡ loaded st e → e ≤ 13338
unfolding read_sheet
end_near s st e h =
    read_keeps sheet_reader s st e (Kept s)
    (λ n at x p v k g. let ok = sound s at x v in keep s at x p ok.due ok.body k)
    (λ at x p v k g. omega (arith, near s at x p, (finished_is s x (at + 1) st e g).ends))
    h (kept_start s)

-- what stands past the first 13,472 bytes is no matter but that it is there
pub front_alone : (s : List ℕ) (n : ℕ) → 13472 ≤ n → load_sheet (take n s) ≡ load_sheet s
unfolding load_sheet
front_alone s n l =
    let a = taken_agrees n s in
    rw (read_agrees n (take n s) s a l)
    (single_same (take n s) s (read_sheet s) (λ st e h. a.goes e (omega (arith, end_near s st e h))))
