-- The book of a pack as it is written: its settings, its tones with their tails, and an accent for each block (`layout_book`). Assumes nothing.
use Rattle.std.proofs.Common.{ℕ, ◌≡◌, refl, ◌∙◌, ap, ap₂, ⊎_elim, List, [], ◌∷◌, ◌++◌, map}
use Rattle.std.specs.Prelude.{All}
use Rattle.std.proofs.lemmas.List.Elements.{All-head, All-tail}
use Rattle.spec_lookup.specs.Source.{settings_at}
use Rattle.tonekit_records.specs.Records.{kind, records_bytes}
use Rattle.tonekit_book.specs.Book.{BookAccent, Book}
use Rattle.tonekit_book.specs.Groups.{AccentGroup, Groups, grouped, accent_of_group, first_tail, tone_records, tone_of_record, book_of_records}
use Rattle.tonekit_any_order.specs.Layout.{Block, Layout, blocks_records, layout_records, IsToneOrTail, IsRuleOrPart, IsBlock, IsLayout}

-- ---- accents
abbrev pub accent_of_block : Block → BookAccent
accent_of_block b = accent_of_group (record { head = b.accent; rules = (grouped b.rules).rules })

rules_grouped : (rs ys : List (List ℕ)) → All IsRuleOrPart rs → {gs : List AccentGroup} → grouped ys ≡ record { parts = []; rules = []; accents = gs }
    → grouped (rs ++ ys) ≡ record { parts = (grouped rs).parts; rules = (grouped rs).rules; accents = gs }
unfolding grouped
rules_grouped [] ys w e = e
rules_grouped (r ∷ rs) ys w e =
    let on = rules_grouped rs ys (All-tail IsRuleOrPart r rs w) e in
    ⊎_elim
    (λ z. rw z.begins (ap (λ (g : Groups). record { parts = []; rules = (r ++ records_bytes g.parts) ∷ g.rules; accents = g.accents }) on))
    (λ z. rw z.begins (ap (λ (g : Groups). record { parts = r ∷ g.parts; rules = g.rules; accents = g.accents }) on))
    (All-head IsRuleOrPart r rs w)

abbrev group_of : Block → AccentGroup
group_of b = record { head = b.accent; rules = (grouped b.rules).rules }

blocks_grouped : (bs : List Block) → All IsBlock bs → grouped (blocks_records bs) ≡ record { parts = []; rules = []; accents = map group_of bs }
unfolding grouped blocks_records
blocks_grouped [] w = refl
blocks_grouped (b ∷ bs) w =
    let is = All-head IsBlock b bs w in
    let on = rules_grouped b.rules (blocks_records bs) is.rules (blocks_grouped bs (All-tail IsBlock b bs w)) in
    rw is.accent.begins (ap (λ (g : Groups). record { parts = []; rules = []; accents = record { head = b.accent; rules = g.rules } ∷ g.accents }) on)

tones_grouped : (ts ys : List (List ℕ)) → All IsToneOrTail ts → (grouped (ts ++ ys)).accents ≡ (grouped ys).accents
unfolding grouped
tones_grouped [] ys w = refl
tones_grouped (t ∷ ts) ys w =
    let on = tones_grouped ts ys (All-tail IsToneOrTail t ts w) in ⊎_elim (λ z. rw z.begins on) (λ z. rw z.begins on) (All-head IsToneOrTail t ts w)

settings_grouped : (r : List ℕ) (ys : List (List ℕ)) → kind r ≡ 1 → (grouped (r ∷ ys)).accents ≡ (grouped ys).accents
unfolding grouped
settings_grouped r ys k = rw k

map_groups : (bs : List Block) → map accent_of_group (map group_of bs) ≡ map accent_of_block bs
map_groups [] = refl
map_groups (b ∷ bs) = ap (λ l. accent_of_block b ∷ l) (map_groups bs)

-- ---- tones, each with its tail
rules_tones : (rs ys : List (List ℕ)) → All IsRuleOrPart rs → tone_records (rs ++ ys) ≡ tone_records ys
unfolding tone_records
rules_tones [] ys w = refl
rules_tones (r ∷ rs) ys w =
    let on = rules_tones rs ys (All-tail IsRuleOrPart r rs w) in ⊎_elim (λ z. rw z.begins on) (λ z. rw z.begins on) (All-head IsRuleOrPart r rs w)

blocks_tones : (bs : List Block) → All IsBlock bs → tone_records (blocks_records bs) ≡ []
unfolding tone_records blocks_records
blocks_tones [] w = refl
blocks_tones (b ∷ bs) w =
    let is = All-head IsBlock b bs w in rw is.accent.begins (rules_tones b.rules (blocks_records bs) is.rules ∙ blocks_tones bs (All-tail IsBlock b bs w))

-- blocks begin with no tail
blocks_first : (bs : List Block) → All IsBlock bs → first_tail (blocks_records bs) ≡ []
unfolding blocks_records
blocks_first [] w = refl
blocks_first (b ∷ bs) w = rw (All-head IsBlock b bs w).accent.begins

-- so those behind the tones are no matter to the tail of the last one
same_first : (ts ys : List (List ℕ)) → first_tail ys ≡ [] → first_tail (ts ++ ys) ≡ first_tail ts
same_first [] ys e = e
same_first (t ∷ ts) ys e = refl

all_tones : (ts ys : List (List ℕ)) → All IsToneOrTail ts → first_tail ys ≡ [] → tone_records ys ≡ [] → tone_records (ts ++ ys) ≡ tone_records ts
unfolding tone_records
all_tones [] ys w e n = n
all_tones (t ∷ ts) ys w e n =
    let on = all_tones ts ys (All-tail IsToneOrTail t ts w) e n in
    ⊎_elim (λ z. rw z.begins (ap₂ (λ (y : List ℕ) (l : List (List ℕ)). (t ++ y) ∷ l) (same_first ts ys e) on)) (λ z. rw z.begins on) (All-head IsToneOrTail t ts w)

settings_tones : (r : List ℕ) (ys : List (List ℕ)) → kind r ≡ 1 → tone_records (r ∷ ys) ≡ tone_records ys
unfolding tone_records
settings_tones r ys k = rw k

-- ---- together
abbrev pub book_of_layout : Layout → Book
book_of_layout p = record { settings = settings_at p.settings 0; tones = map tone_of_record (tone_records p.tones); accents = map accent_of_block p.blocks }

module _ (p : Layout) (is : IsLayout p) where
  abbrev front : List (List ℕ)
  front = p.tones ++ blocks_records p.blocks

  accents_are : map accent_of_group (grouped (layout_records p)).accents ≡ map accent_of_block p.blocks
  accents_are =
      ap (map accent_of_group)
      (settings_grouped p.settings front is.settings.begins ∙ tones_grouped p.tones (blocks_records p.blocks) is.tones
      ∙ ap (λ (g : Groups). g.accents) (blocks_grouped p.blocks is.blocks))
      ∙ map_groups p.blocks

  tones_are : tone_records (layout_records p) ≡ tone_records p.tones
  tones_are =
      settings_tones p.settings front is.settings.begins
      ∙ all_tones p.tones (blocks_records p.blocks) is.tones (blocks_first p.blocks is.blocks) (blocks_tones p.blocks is.blocks)

  pub layout_book : book_of_records (layout_records p) ≡ book_of_layout p
  unfolding book_of_records
  layout_book = λ i. record { settings = settings_at p.settings 0; tones = map tone_of_record (tones_are i); accents = accents_are i }
