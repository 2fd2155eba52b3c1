-- What a sheet that loads has: its records one behind the other up to its end, each of its kind, and nothing loose or out of order. Assumes nothing.
use Rattle.std.proofs.Common.{ℕ, ◌+◌, ◌≤◌, ◌<◌, ◌≡◌, refl, ap, List, arith, length, get_or, ltb, ltb-true, ltb-false}
use Rattle.spec_arithmetic.specs.Fields.{byte_at}
use Rattle.spec_arithmetic.specs.Places.{number_at}
use Rattle.tonekit_core.proofs.Split.{split}
use Rattle.tonekit_pack.proofs.Numbers.{none_before}
use Rattle.spec_sheet.specs.Reader.{SheetRead, rows_due, row_at, read_sheet, load_sheet, sheet_reader}
use Rattle.tonekit_sheet_inverse.proofs.Place.{list_place, lists_from}
use Rattle.spec_arithmetic.specs.Files.{loaded}
use Rattle.tonekit_sheet.specs.Kinds.{reached}
use Rattle.tonekit_sheet.proofs.Every.{Every}
use Rattle.tonekit_sheet.proofs.Records.{Complete, rows_done, list_done, sound, closes}
use Rattle.tonekit_bytes.proofs.Files.{read_keeps}
use Rattle.tonekit_sheet.proofs.Turns.{Finished, finished_is, loads_alone}
use Rattle.tonekit_sheet_inverse.proofs.Kept.{ToneThere, TailThere, AccentThere, ListThere, PartThere, Kept, keep}

pub record Loads (s : List ℕ) (st : SheetRead) (e : ℕ) : Type 0 where
  pub begins : byte_at s 0 ≡ 17
  pub tones : Every (ToneThere s) st.tones
  pub tails : (i : ℕ) → i < length st.tones → TailThere s i
  pub tones_once : (i j : ℕ) → i < j → j < length st.tones → number_at s (get_or st.tones i 0) ≡ number_at s (get_or st.tones j 0) → ⊥
  pub accents : Every (AccentThere s (length st.tones)) st.accents
  pub rows : (r : ℕ) → r < st.rows → byte_at s (row_at st r) ≡ 20
  pub all_rows : st.rows ≡ rows_due st
  pub lists : Every (ListThere s (lists_from st)) st.lists
  pub parts : (i j : ℕ) → i < length st.lists → j < byte_at s (list_place s (lists_from st) i + 6) → PartThere s (list_place s (lists_from st) i) j
  pub closing : byte_at s (list_place s (lists_from st) (length st.lists)) ≡ 23
  pub ends : e ≡ list_place s (lists_from st) (length st.lists) + 1
  pub inside : e ≤ length s
  pub fine : Finished s st e st e

module _ (s : List ℕ) (at : ℕ) (st : SheetRead) (p : Kept s at st) where
  -- at the end no component is due
  done : Complete st → (20 ≤ reached st.last) × (st.due ≡ 0) × (st.rows ≡ rows_due st)
  done (rows_done z r) = let w : reached st.last ≡ 20 = ap reached z in (omega arith, p.none_due (omega arith), r)
  done (list_done z d) = let w : reached st.last ≡ 22 = ap reached z in (omega arith, d, p.all_rows (omega arith))

  close : byte_at s at ≡ 23 → at < length s → Complete st → Finished s st (at + 1) st (at + 1) → Loads s st (at + 1)
  close k l c f =
      let d = done c in
      let m : st.last ≡ 18 → ⊥ = λ e. omega (arith, ap reached e, d.0) in
      let h : at ≡ list_place s (lists_from st) (length st.lists) = omega (arith, p.place (omega (arith, d.0)) m, d.1) in
      record {
        begins = p.begun (omega (arith, d.0));
        tones = p.tones;
        tails = λ i b. p.tails i b (λ e. absurd (m e));
        tones_once = λ i j b g. none_before s st.tones (number_at s (get_or st.tones j 0)) j (omega arith) (p.tones_once j g) i b;
        accents = p.accents;
        rows = p.rows;
        all_rows = d.2;
        lists = p.lists;
        parts = λ i j b g. split (ltb (i + 1) (length st.lists))
            (λ t. p.parts i j (ltb-true (i + 1) (length st.lists) t) g)
            (λ t. p.last_parts i j (omega (arith, ltb-false (i + 1) (length st.lists) t)) (omega (arith, d.1)));
        closing = rw (← h) k;
        ends = omega arith;
        inside = omega arith;
        fine = f;
      }

pub reads : (s : List ℕ) (st : SheetRead) (e : ℕ) → read_sheet s ≡ loaded st e → Loads s st e
unfolding read_sheet
reads s st e h =
    read_keeps sheet_reader s st e (Kept s)
    (λ n at x p v k g. let ok = sound s at x v in keep s at x p ok.due refl ok.body k)
    (λ at x p v k g. let ok = sound s at x v in
    let q = finished_is s x (at + 1) st e g in
    let f : Finished s x (at + 1) x (at + 1) = rw (q.same, q.ends) (rw (q.same, q.ends) at q) in
    rw (← q.same, ← q.ends) (close s at x p k ok.inside (closes x k ok.due) f))
    h
    (record {
      first = λ q. refl;
      begun = λ q. absurd (omega arith);
      no_tones = λ q. refl;
      no_accents = λ q. refl;
      no_rows = λ q. refl;
      no_lists = λ q. refl;
      none_due = λ q. refl;
      place = λ q n. absurd (omega arith);
      tail_place = λ q. absurd (omega arith);
      tones = λ i l. absurd (omega arith);
      tones_once = λ i l. absurd (omega arith);
      tails = λ i l q. absurd (omega arith);
      accents = λ i l. absurd (omega arith);
      rows = λ i l. absurd (omega arith);
      all_rows = λ q. absurd (omega arith);
      lists = λ i l. absurd (omega arith);
      parts = λ i j l. absurd (omega arith);
      last_parts = λ i j l. absurd (omega arith);
    })

-- a single sheet: it ends where the input does
pub record Whole (s : List ℕ) (st : SheetRead) (e : ℕ) : Type 0 where
  pub loads : Loads s st e
  pub ends : e ≡ length s

pub loads_whole : (s : List ℕ) (st : SheetRead) (e : ℕ) → load_sheet s ≡ loaded st e → Whole s st e
loads_whole s st e h =
    let a = loads_alone s st e h in
    let l = reads s st e a.0 in
    record { loads = l; ends = omega (arith, a.1, l.inside) }
