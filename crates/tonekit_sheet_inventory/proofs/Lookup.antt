-- A lookup by position, way by way. Assumes nothing.
use Rattle.std.specs.Prelude.{Option}
use Rattle.std.proofs.Common.{ℕ, zero, suc, ◌+◌, ◌-◌, ◌*◌, ◌≤◌, ◌<◌, ◌≡◌, refl, sym, ap, ◌∙◌, List, arith, sub-one, eqb, length, get_or}
use mathlib.Core.Option.{none}
use Rattle.spec_arithmetic.specs.Fields.{byte_at}
use Rattle.tonekit_core.proofs.Split.{split}
use Rattle.spec_arithmetic.specs.Places.{index_of}
use Rattle.spec_lookup.specs.declared.Context.{Context}
use Rattle.std.specs.Prelude.{Some, None}
use Rattle.tonekit_bytes.proofs.Searched.{index_found}
use Rattle.spec_arithmetic.specs.Files.{Out, loaded, refused}
use Rattle.spec_sheet.specs.Reader.{SheetRead, row_at, read_sheet}
use Rattle.spec_sheet.specs.FromSheet.{list_numbered, prev_found, look_sheet}
use Rattle.tonekit_sheet.specs.Parts.{row_place, final_place}
use Rattle.tonekit_sheet_read.specs.declared.Sheet.{Sheet}
use Rattle.tonekit_sheet_read.specs.Held.{records_of}
use Rattle.tonekit_bytes.proofs.Stepped.{stepped_length}
use Rattle.tonekit_sheet_inverse.proofs.Loads.{reads}
use Rattle.tonekit_sheet_inventory.specs.Look.{list_place, sheet_in, ListPlace, list_given, ShortList, Looks}
use Rattle.tonekit_sheet_inventory.proofs.Few.{lists_few}

-- ---- what stood before
module _ (s : List ℕ) (st : SheetRead) (n : ℕ) where
  pub prev_inside : (p : ℕ) → prev_found s st n ≡ Some p → p ≤ length st.tones
  prev_inside p e =
      split (eqb n 0)
      (λ z. let f : Some 0 ≡ Some p = rw z at e in let q : 0 ≡ p = cc in omega arith)
      (λ z. by_tone z (index_of s st.tones n) refl)
    where
      by_tone : eqb n 0 ≡ mathlib.Core.Bool.false → (f : Option ℕ) → index_of s st.tones n ≡ f → p ≤ length st.tones
      by_tone z (Some q) i =
          let g : Some (q + 1) ≡ Some p = rw (z, i) at e in
          let w : q + 1 ≡ p = cc in
          omega (arith, (index_found s st.tones n q i).inside)
      by_tone z None i =
          let g : None ≡ Some p = rw (z, i) at e in
          let w : ◌≡◌ {A = ℕ} 0 1 = cc in
          absurd (omega arith)

-- ---- what is found is there
module _ (s : List ℕ) (st : Sheet) (n : ℕ) where
  pub accent_held : (a : ℕ) → index_of s (records_of st).accents n ≡ Some a → a < st.accents
  accent_held a e = omega (arith, (index_found s (records_of st).accents n a e).inside, stepped_length (9 + 24 * st.tones) 18 st.accents)

  pub tone_held : (t : ℕ) → index_of s (records_of st).tones n ≡ Some t → t < st.tones
  tone_held t e = omega (arith, (index_found s (records_of st).tones n t e).inside, stepped_length 9 24 st.tones)

  pub prev_held : (p : ℕ) → prev_found s (records_of st) n ≡ Some p → p ≤ st.tones
  prev_held p e = omega (arith, prev_inside s (records_of st) n p e, stepped_length 9 24 st.tones)

-- ---- a sheet that is held was read from its bytes
-- as its reader handed it back for these bytes, which load
pub record ReadFrom (s : List ℕ) (p : Sheet) : Type 0 where
  pub end : ℕ
  pub reads : read_sheet s ≡ loaded (records_of p) end

pub read_from : (s : List ℕ) (p : Sheet) (o : Out SheetRead) → read_sheet s ≡ o → sheet_in o ≡ Some (records_of p) → ReadFrom s p
read_from s p (loaded st e) q h = let is : st ≡ records_of p = cc in record { end = e; reads = q ∙ ap (λ (x : SheetRead). loaded x e) is }
read_from s p (refused r place) q h = let n : ◌≡◌ {A = ℕ} 0 1 = cc in absurd (omega arith)

-- ---- the ways
pub not_there : {P : Type 0} (o : ℕ) → None ≡ Some o → P
not_there o h = let z : ◌≡◌ {A = ℕ} 0 1 = cc in absurd (omega arith)

pub nothing : (s : List ℕ) (st : SheetRead) (c : Context) → look_sheet s st c ≡ none → Looks s st c None
nothing s st c e = record { is = e; list = λ o q. not_there o q }

module _ (s : List ℕ) (st : SheetRead) (c : Context) where
  pub no_accent : index_of s st.accents c.accent ≡ None → look_sheet s st c ≡ none
  unfolding look_sheet
  no_accent e = rw e

  module _ (a : ℕ) (ea : index_of s st.accents c.accent ≡ Some a) where
    pub no_tone : index_of s st.tones c.tone ≡ None → look_sheet s st c ≡ none
    unfolding look_sheet
    no_tone e = rw (ea, e)

    module _ (t : ℕ) (et : index_of s st.tones c.tone ≡ Some t) where
      pub no_prev : prev_found s st c.prev ≡ None → look_sheet s st c ≡ none
      unfolding look_sheet
      no_prev e = rw (ea, et, e)

      module _ (p : ℕ) (ep : prev_found s st c.prev ≡ Some p) where
        pub number_is : look_sheet s st c ≡ list_numbered s st (byte_at s (row_at st (row_place st a t p) + final_place c))
        unfolding look_sheet
        number_is = rw (ea, et, ep)

-- ---- the list of a number
place_told : (s : List ℕ) (st : SheetRead) (n : ℕ) → list_numbered s st n ≡ list_given s (list_place st n)
place_told s st zero = refl
place_told s st (suc i) = refl

pub place_is : (st : SheetRead) (n : ℕ) → (n ≡ 0 → ⊥) → Some (get_or st.lists (n - 1) 0) ≡ list_place st n
place_is st zero h = absurd (h refl)
place_is st (suc i) h = rw sub-one refl

module _ (s : List ℕ) (st : SheetRead) (e : ℕ) (h : read_sheet s ≡ loaded st e) where
  short : (n o : ℕ) → n ≤ length st.lists → list_place st n ≡ Some o → o < 65536 → ShortList s o
  short zero o l q b = not_there o q
  short (suc i) o l q b =
      let w : get_or st.lists i 0 ≡ o = cc in
      rw (← w) (record { some = ((reads s st e h).lists i l).some; few = lists_few s st e h i l; near = rw w b })

  pub looked : (c : Context) (n : ℕ) (f : Option ℕ) → look_sheet s st c ≡ list_numbered s st n → n ≤ length st.lists → ListPlace st n f → Looks s st c f
  looked c n f e l p = record {
    is = e ∙ place_told s st n ∙ ap (list_given s) (sym p.is);
    list = λ o q. short n o l (sym p.is ∙ q) (p.near o q);
  }
