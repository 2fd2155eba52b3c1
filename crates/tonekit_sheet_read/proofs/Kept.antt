-- What the reader keeps at every turn: every record read stands where the counts put it, and each list has as many components as it says. Assumes nothing.
use Rattle.std.proofs.Common.{ℕ, ◌+◌, ◌-◌, ◌*◌, ◌≤◌, ◌<◌, ◌≡◌, refl, ap, List, [], ◌∷◌, arith, length, get_or, length-append, ltb, ltb-true, ltb-false, Ok}
use lib.ListN.{get_or-append}
use Rattle.spec_arithmetic.specs.Fields.{byte_at}
use Rattle.tonekit_core.proofs.Split.{split}
use Rattle.tonekit_core.proofs.Lists.{last_snoc}
use Rattle.spec_sheet.specs.Reader.{SheetRead, size_of, body_verdict, added, sheet_reader}
use Rattle.tonekit_sheet.proofs.Every.{every_snoc}
use Rattle.tonekit_sheet.proofs.Records.{Complete, rows_done, list_done, Due, settings, tone, tail, accent, row, list, component, finish, tone_room, accent_room, list_room, list_some, component_room}
use Rattle.tonekit_sheet.specs.Kinds.{reached}
use Rattle.tonekit_sheet_read.specs.Going.{InPlace}
use Rattle.tonekit_sheet_read.proofs.Reading.{placed_start, placed_next, after_list}

-- the list at o as far as it was read at a place: so many of its components are still due
pub record ListRead (s : List ℕ) (o due at : ℕ) : Type 0 where
  pub some : 1 ≤ byte_at s (o + 6)
  pub few : byte_at s (o + 6) ≤ 4
  pub left : due ≤ byte_at s (o + 6)
  pub extent : o + 7 + 45 * (byte_at s (o + 6) - due) ≤ at

farther : {s : List ℕ} {o due at : ℕ} (more : ℕ) → ListRead s o due at → ListRead s o due (at + more)
farther more l = record { some = l.some; few = l.few; left = l.left; extent = omega arith }

pub record Kept (s : List ℕ) (at : ℕ) (st : SheetRead) : Type 0 where
  pub placed : InPlace at st
  pub few_tones : length st.tones ≤ 8
  pub tones_at : (i : ℕ) → i < length st.tones → get_or st.tones i 0 ≡ 9 + 24 * i
  pub few_accents : length st.accents ≤ 8
  pub accents_at : (i : ℕ) → i < length st.accents → get_or st.accents i 0 ≡ 9 + 24 * length st.tones + 18 * i
  pub few_lists : length st.lists ≤ 128
  pub some_list : 21 ≤ reached st.last → 1 ≤ length st.lists
  pub lists : (i : ℕ) → i + 1 < length st.lists → ListRead s (get_or st.lists i 0) 0 at
  pub latest : 1 ≤ length st.lists → ListRead s (get_or st.lists (length st.lists - 1) 0) st.due at
  pub here : 1 ≤ length st.lists → at ≡ get_or st.lists (length st.lists - 1) 0 + 7 + 45 * (byte_at s (get_or st.lists (length st.lists - 1) 0 + 6) - st.due)
  pub few_in_all : st.total ≤ 192

pub kept_start : (s : List ℕ) → Kept s 0 sheet_reader.start.st
kept_start s = record {
  placed = placed_start;
  few_tones = omega arith;
  tones_at = λ i l. absurd (omega arith);
  few_accents = omega arith;
  accents_at = λ i l. absurd (omega arith);
  few_lists = omega arith;
  some_list = λ q. absurd (omega arith);
  lists = λ i l. absurd (omega arith);
  latest = λ l. absurd (omega arith);
  here = λ l. absurd (omega arith);
  few_in_all = omega arith;
}

pub no_due : {at : ℕ} {st : SheetRead} → InPlace at st → Complete st → st.due ≡ 0
no_due p (rows_done l e) = (p.no_lists (omega (arith, ap reached l))).2
no_due p (list_done l e) = e

module _ (s : List ℕ) (at : ℕ) (st : SheetRead) (p : Kept s at st) where
  count : ℕ
  count = byte_at s (at + 6)

  after_settings : st.last ≡ 0 → Kept s (at + size_of 17) (added 17 at count st)
  unfolding added size_of count
  after_settings z =
      let n = p.placed.no_lists (omega (arith, ap reached z)) in
      record {
        placed = placed_next at count st (settings z) (λ q. omega arith) p.placed;
        few_tones = p.few_tones;
        tones_at = p.tones_at;
        few_accents = p.few_accents;
        accents_at = p.accents_at;
        few_lists = p.few_lists;
        some_list = λ q. absurd (omega arith);
        lists = λ i l. absurd (omega arith);
        latest = λ l. absurd (omega arith);
        here = λ l. absurd (omega arith);
        few_in_all = p.few_in_all;
      }

  after_tone : 17 ≤ reached st.last → reached st.last ≤ 18 → (st.last ≡ 18 → ⊥) → body_verdict 18 s at st ≡ Ok tt → Kept s (at + size_of 18) (added 18 at count st)
  unfolding added size_of count
  after_tone l u m b =
      let n = p.placed.no_lists (omega arith) in
      let a = p.placed.no_accents u in
      let r = p.placed.no_rows (omega arith) in
      let o : at ≡ 9 + 24 * length st.tones = omega (arith, p.placed.place (omega arith) m) in
      record {
        placed = placed_next at count st (tone l u m) (λ q. omega arith) p.placed;
        few_tones = simp length-append (omega (arith, tone_room s at st b));
        tones_at = every_snoc (λ i o. o ≡ 9 + 24 * i) st.tones at p.tones_at o;
        few_accents = p.few_accents;
        accents_at = λ i h. absurd (omega arith);
        few_lists = p.few_lists;
        some_list = λ q. absurd (omega arith);
        lists = λ i h. absurd (omega arith);
        latest = λ h. absurd (omega arith);
        here = λ h. absurd (omega arith);
        few_in_all = p.few_in_all;
      }

  after_tail : Due st 24 → reached st.last ≡ 18 → Kept s (at + size_of 24) (added 24 at count st)
  unfolding added size_of count
  after_tail d e =
      let n = p.placed.no_lists (omega arith) in
      record {
        placed = placed_next at count st d (λ q. omega arith) p.placed;
        few_tones = p.few_tones;
        tones_at = p.tones_at;
        few_accents = p.few_accents;
        accents_at = p.accents_at;
        few_lists = p.few_lists;
        some_list = λ q. absurd (omega arith);
        lists = λ i h. absurd (omega arith);
        latest = λ h. absurd (omega arith);
        here = λ h. absurd (omega arith);
        few_in_all = p.few_in_all;
      }

  after_accent : 18 ≤ reached st.last → reached st.last ≤ 19 → (st.last ≡ 18 → ⊥) → body_verdict 19 s at st ≡ Ok tt → Kept s (at + size_of 19) (added 19 at count st)
  unfolding added size_of count
  after_accent l u m b =
      let n = p.placed.no_lists (omega arith) in
      let r = p.placed.no_rows u in
      let o : at ≡ 9 + 24 * length st.tones + 18 * length st.accents = omega (arith, p.placed.place (omega arith) m) in
      record {
        placed = placed_next at count st (accent l u m) (λ q. omega arith) p.placed;
        few_tones = p.few_tones;
        tones_at = p.tones_at;
        few_accents = simp length-append (omega (arith, accent_room s at st b));
        accents_at = every_snoc (λ i o. o ≡ 9 + 24 * length st.tones + 18 * i) st.accents at p.accents_at o;
        few_lists = p.few_lists;
        some_list = λ q. absurd (omega arith);
        lists = λ i h. absurd (omega arith);
        latest = λ h. absurd (omega arith);
        here = λ h. absurd (omega arith);
        few_in_all = p.few_in_all;
      }

  after_row : 19 ≤ reached st.last → reached st.last ≤ 20 → Due st 20 → Kept s (at + size_of 20) (added 20 at count st)
  unfolding added size_of count
  after_row l u d =
      let n = p.placed.no_lists u in
      record {
        placed = placed_next at count st d (λ q. omega arith) p.placed;
        few_tones = p.few_tones;
        tones_at = p.tones_at;
        few_accents = p.few_accents;
        accents_at = p.accents_at;
        few_lists = p.few_lists;
        some_list = λ q. absurd (omega arith);
        lists = λ i h. absurd (omega arith);
        latest = λ h. absurd (omega arith);
        here = λ h. absurd (omega arith);
        few_in_all = p.few_in_all;
      }

  after_head : Complete st → body_verdict 21 s at st ≡ Ok tt → Kept s (at + size_of 21) (added 21 at count st)
  unfolding added size_of count
  after_head c b =
      let z = no_due p.placed c in
      let m = length-append st.lists (at ∷ []) in
      let r = list_room s at st b in
      let fresh : ListRead s at (byte_at s (at + 6)) (at + 7) = record { some = list_some s at st b; few = r.count; left = omega arith; extent = omega arith } in
      record {
        placed = placed_next at count st (list c) (λ q. omega arith) p.placed;
        few_tones = p.few_tones;
        tones_at = p.tones_at;
        few_accents = p.few_accents;
        accents_at = p.accents_at;
        few_lists = omega (arith, r.few, m);
        some_list = λ q. omega (arith, m);
        lists = λ i h.
            split (ltb (i + 1) (length st.lists))
            (λ t. let g = ltb-true (i + 1) (length st.lists) t in
            rw (get_or-append st.lists (at ∷ []) 0 i (omega arith)) (farther 7 (p.lists i g)))
            (λ t. let e : length st.lists - 1 ≡ i = omega (arith, ltb-false (i + 1) (length st.lists) t, m) in
            rw (get_or-append st.lists (at ∷ []) 0 i (omega (arith, m))) (rw (z, e) at (farther 7 (p.latest (omega (arith, m))))));
        latest = λ h. rw (last_snoc st.lists at) fresh;
        here = λ h. rw (last_snoc st.lists at) (omega arith);
        few_in_all = p.few_in_all;
      }

  after_component : 0 < st.due → Due st 22 → body_verdict 22 s at st ≡ Ok tt → Kept s (at + size_of 22) (added 22 at count st)
  unfolding added size_of count
  after_component g d b =
      let l = after_list at st p.placed g in
      let n = p.some_list l in
      let last = p.latest n in
      let here = p.here n in
      record {
        placed = placed_next at count st d (λ q. omega arith) p.placed;
        few_tones = p.few_tones;
        tones_at = p.tones_at;
        few_accents = p.few_accents;
        accents_at = p.accents_at;
        few_lists = p.few_lists;
        some_list = λ q. n;
        lists = λ i h. farther 45 (p.lists i h);
        latest = λ h. record { some = last.some; few = last.few; left = omega (arith, last.left); extent = omega (arith, last.left, last.extent) };
        here = λ h. omega (arith, last.left);
        few_in_all = omega (arith, component_room s at st b);
      }

  pub keep : {k : ℕ} → Due st k → body_verdict k s at st ≡ Ok tt → (k ≡ 23 → ⊥) → Kept s (at + size_of k) (added k at (byte_at s (at + 6)) st)
  unfolding size_of count
  keep (settings z) b n = after_settings z
  keep (tone l u m) b n = after_tone l u m b
  keep (tail e r) b n = after_tail (tail e r) r
  keep (accent l u m) b n = after_accent l u m b
  keep (row l u d) b n = after_row l u (row l u d)
  keep (list c) b n = after_head c b
  keep (component d) b n = after_component d (component d) b
  keep (finish c) b n = absurd (n refl)
