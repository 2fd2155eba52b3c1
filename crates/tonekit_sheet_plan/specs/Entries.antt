-- The lists of a plan, and a memo of numbers that promises only that what it holds is right.
use Rattle.std.specs.Prelude.{ℕ, suc, ◌≤◌, ◌<◌, ◌≡◌, true, cond, List, [], ◌∷◌, ◌++◌, map, ltb, length, get_or}
use Rattle.spec_lookup.specs.Source.{Carried}
use Rattle.spec_lookup.specs.declared.Listing.{Listing}
use Rattle.spec_sheet.specs.Number.{seen_in, place_in}
use Rattle.tonekit_sheet_plan.specs.declared.Entry.{Entry}
use Rattle.tonekit_sheet_plan.specs.declared.Known.{Known}
use Rattle.tonekit_sheet_plan.specs.Listings.{carried_by, listing_from, Kept}
use Rattle.tonekit_sheet_plan.specs.Marks.{mark_of}

-- the listing of each
abbrev pub entry_listing : List ℕ → Entry → Listing
entry_listing s e = listing_from s e.owner e.at

abbrev pub known_listing : List ℕ → Known → Listing
known_listing s e = listing_from s e.owner e.at

-- where none is
abbrev pub no_entry : Entry
no_entry = record { at = 0; owner = 0; mark = 0 }

abbrev pub no_known : Known
no_known = record { at = 0; owner = 0; number = 0 }

abbrev pub list_at : List ℕ → List Entry → ℕ → Listing
list_at s lists i = entry_listing s (get_or lists i no_entry)

-- the lists by number: what each carries
abbrev pub planned : List ℕ → List Entry → List (List Carried)
planned s lists = map (λ e. carried_by s (entry_listing s e)) lists

-- a listing under its mark
pub record Marked (s : List ℕ) (l : Listing) (m : ℕ) : Type 0 where
  pub kept : Kept s l
  pub mark : m ≡ mark_of (carried_by s l)

-- what the memo says of a listing is right of these lists
pub record Right (s : List ℕ) (its : List (List Carried)) (e : Known) : Type 0 where
  pub seen : seen_in (carried_by s (known_listing s e)) its ≡ true
  pub number : e.number ≡ suc (place_in (carried_by s (known_listing s e)) its)

-- lists have their marks, and can be read; what the memo says is right
pub record Consistent (s : List ℕ) (lists : List Entry) (memo : List Known) : Type 0 where
  pub marked : (i : ℕ) → i < length lists → Marked s (list_at s lists i) (get_or lists i no_entry).mark
  pub right : (i : ℕ) → i < length memo → Right s (planned s lists) (get_or memo i no_known)

-- a memo with one entry more, where there is room
abbrev pub memo_after : List Known → Known → List Known
memo_after memo e = cond (ltb (length memo) 128) (memo ++ e ∷ []) memo

-- the place of a list among lists: that of the first that is the same, or behind the last
pub record FirstPlace (v : List Carried) (lists : List (List Carried)) (place : ℕ) : Type 0 where
  pub first : place ≡ place_in v lists
  pub seen : seen_in v lists ≡ ltb place (length lists)
  pub few : place ≤ length lists

-- the memo has one of a record's offset, an owner and a number
pub record Noted (memo : List Known) (at owner number : ℕ) : Type 0 where
  pub place : ℕ
  pub inside : place < length memo
  pub entry : get_or memo place no_known ≡ record { at = at; owner = owner; number = number }
