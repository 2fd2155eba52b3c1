-- The book of a list of records, each by its own bytes: a tone's record with its tail, a rule's with its parts, an accent's with its rules. They are grouped
-- from the list's end.
use Rattle.std.specs.Prelude.{ℕ, cond, List, [], ◌∷◌, ◌++◌, map, eqb}
use Rattle.tonekit_core.specs.declared.layout.TheConstants.{ACCENT_CONTOUR}
use Rattle.tonekit_core.specs.declared.layout.TheConstants.{TONE_KIND, TAIL_KIND, ACCENT_KIND, ACCENT_PARENT, RULE_KIND, PART_KIND}
use Rattle.spec_arithmetic.specs.Fields.{byte_at}
use Rattle.spec_arithmetic.specs.Places.{number_at}
use Rattle.spec_lookup.specs.Source.{settings_at, accent_at}
use Rattle.tonekit_records.specs.Records.{kind, records_bytes}
use Rattle.tonekit_book.specs.Book.{BookAccent, BookTone, Book, book_tone_at, rule_at}

-- an accent's record, and for each of its rules the bytes of the rule's record and of its parts
pub record AccentGroup : Type 0 where
  pub head : List ℕ
  pub rules : List (List ℕ)

-- of a list of records: the parts that it begins with; the rules before its first accent, each with its parts; its accents, each with its rules
pub record Groups : Type 0 where
  pub parts : List (List ℕ)
  pub rules : List (List ℕ)
  pub accents : List AccentGroup

-- one record more in front
abbrev pub grouped_with : List ℕ → Groups → Groups
grouped_with r g =
    cond (eqb (kind r) ACCENT_KIND) (record { parts = []; rules = []; accents = record { head = r; rules = g.rules } ∷ g.accents })
    (cond (eqb (kind r) RULE_KIND) (record { parts = []; rules = (r ++ records_bytes g.parts) ∷ g.rules; accents = g.accents })
    (cond (eqb (kind r) PART_KIND) (record { parts = r ∷ g.parts; rules = g.rules; accents = g.accents })
    (record { parts = []; rules = g.rules; accents = g.accents })))

unfoldable pub grouped : List (List ℕ) → Groups
grouped [] = record { parts = []; rules = []; accents = [] }
grouped (r ∷ rs) = grouped_with r (grouped rs)

-- the accent of a group
abbrev pub accent_of_group : AccentGroup → BookAccent
accent_of_group g = record { accent = accent_at ACCENT_CONTOUR g.head 0; parent = byte_at g.head ACCENT_PARENT; rules = map (λ (r : List ℕ). rule_at r (number_at g.head 0) 0) g.rules }

-- the tail that a list of records begins with, or nothing
abbrev pub first_tail : List (List ℕ) → List ℕ
first_tail [] = []
first_tail (r ∷ rs) = cond (eqb (kind r) TAIL_KIND) r []

-- for each tone the bytes of its record and of the tail behind it, in order
unfoldable pub tone_records : List (List ℕ) → List (List ℕ)
tone_records [] = []
tone_records (r ∷ rs) = cond (eqb (kind r) TONE_KIND) ((r ++ first_tail rs) ∷ tone_records rs) (tone_records rs)

abbrev pub tone_of_record : List ℕ → BookTone
tone_of_record r = book_tone_at r 0

-- the first record: that of the settings
abbrev pub first_record : List (List ℕ) → List ℕ
first_record [] = []
first_record (r ∷ rs) = r

unfoldable pub book_of_records : List (List ℕ) → Book
unfolding grouped tone_records
book_of_records rs = record { settings = settings_at (first_record rs) 0; tones = map tone_of_record (tone_records rs); accents = map accent_of_group (grouped rs).accents }
