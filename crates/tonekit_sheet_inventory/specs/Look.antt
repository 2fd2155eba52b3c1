-- What a lookup in a sheet answers: the offset of the list that a context takes, or nothing.
use Rattle.std.specs.Prelude.{ℕ, zero, suc, ◌+◌, ◌≤◌, ◌<◌, ◌≡◌, List, get_or, Option, Some, None, Result, Ok, Err}
use Rattle.std.proofs.Math.Option as math
use Rattle.std.proofs.Math.Option.{none, some}
use Rattle.tonekit_core.specs.declared.Rejection.{Rejection}
use Rattle.tonekit_core.specs.declared.layout.TheConstants.{SHEET_LIST_OWNER, SHEET_LIST_FORM, SHEET_LIST_LABEL, SHEET_LIST_COUNT}
use Rattle.spec_arithmetic.specs.Fields.{byte_at, u16_at}
use Rattle.spec_lookup.specs.Source.{Carried, Source}
use Rattle.spec_lookup.specs.declared.Context.{Context}
use Rattle.spec_arithmetic.specs.Files.{Out, loaded, refused}
use Rattle.spec_sheet.specs.Reader.{SheetRead, load_sheet}
use Rattle.tonekit_entries.specs.declared.ToneListing.{ToneListing}
use Rattle.spec_sheet.specs.FromSheet.{carried_from, look_sheet, source_of_sheet}
use Rattle.tonekit_sheet_read.specs.Held.{records_of}
use Rattle.tonekit_sheet_read.specs.declared.Sheet.{Sheet}

-- what a sheet that was read from these bytes stands for
abbrev pub source_in : List ℕ → Sheet → Source
source_in s p = source_of_sheet s (records_of p)

-- what the bytes of a sheet hold, or why they are none
abbrev pub source_or : List ℕ → Out SheetRead → Result Source Rejection
source_or s (loaded st end) = Ok (source_of_sheet s st)
source_or s (refused r place) = Err (record { why = r; place = place })

abbrev pub load_source : List ℕ → Result Source Rejection
load_source s = source_or s (load_sheet s)

-- the sheet that was read, if one was
abbrev pub sheet_in : Out SheetRead → Option SheetRead
sheet_in (loaded st end) = Some st
sheet_in (refused r place) = None

-- where the list with a number stands: "0 nothing", else the list at that place, from 1
abbrev pub list_place : SheetRead → ℕ → Option ℕ
list_place st zero = None
list_place st (suc i) = Some (get_or st.lists i 0)

pub record ListPlace (st : SheetRead) (n : ℕ) (f : Option ℕ) : Type 0 where
  pub is : f ≡ list_place st n
  pub near : (o : ℕ) → f ≡ Some o → o < 65536

-- what the list at an offset gives
abbrev pub list_given : List ℕ → Option ℕ → math.Option (List Carried)
list_given s (Some o) = some (carried_from s o (byte_at s (o + SHEET_LIST_COUNT)))
list_given s None = none

-- a list of one to four components, at an offset that two bytes hold
pub record ShortList (s : List ℕ) (o : ℕ) : Type 0 where
  pub some : 1 ≤ byte_at s (o + SHEET_LIST_COUNT)
  pub few : byte_at s (o + SHEET_LIST_COUNT) ≤ 4
  pub near : o < 65536

-- a lookup's list, where it found one
abbrev pub ListThere : List ℕ → Option ℕ → Type 0
ListThere s f = (o : ℕ) → f ≡ Some o → ShortList s o

pub record Looks (s : List ℕ) (st : SheetRead) (c : Context) (f : Option ℕ) : Type 0 where
  pub is : look_sheet s st c ≡ list_given s f
  pub list : ListThere s f

-- "21 list: number u8, owner u8, form u8, label u16, count u8": its name, and how many components it has
unfoldable pub name_at : List ℕ → ℕ → ToneListing
name_at s o = record {
  name = record { owner = byte_at s (o + SHEET_LIST_OWNER); form = byte_at s (o + SHEET_LIST_FORM); label = u16_at s (o + SHEET_LIST_LABEL) };
  count = byte_at s (o + SHEET_LIST_COUNT);
}
