-- A pack as it is written: its settings, its tones with their tails, its accents each with its rules, End, and what stands behind it.
use Rattle.std.specs.Prelude.{ℕ, ◌≡◌, ◌⊎◌, List, [], ◌∷◌, ◌++◌, length, All, IsPermutation}
use Rattle.tonekit_core.specs.declared.layout.TheConstants.{SETTINGS_KIND, TONE_KIND, TAIL_KIND, ACCENT_KIND, RULE_KIND, PART_KIND, END_KIND}
use Rattle.spec_pack.specs.Pack.{size_of}
use Rattle.tonekit_records.specs.Records.{kind, records_bytes}

-- an accent with its rules: its record, and those of its rules, in order, each with its parts behind it
pub record Block : Type 0 where
  pub accent : List ℕ
  pub rules : List (List ℕ)

-- the records of its tones, each with that of its tail behind it, if it has one
pub record Layout : Type 0 where
  pub settings : List ℕ
  pub tones : List (List ℕ)
  pub blocks : List Block
  pub behind : List ℕ

-- its records up to End, in order
unfoldable pub blocks_records : List Block → List (List ℕ)
blocks_records [] = []
blocks_records (b ∷ bs) = b.accent ∷ (b.rules ++ blocks_records bs)

abbrev pub layout_records : Layout → List (List ℕ)
layout_records p = p.settings ∷ (p.tones ++ blocks_records p.blocks)

-- the offset of its End, and its bytes
abbrev pub end_offset : Layout → ℕ
end_offset p = length (records_bytes (layout_records p))

abbrev pub layout_bytes : Layout → List ℕ
layout_bytes p = records_bytes (layout_records p) ++ (END_KIND ∷ p.behind)

-- a record of kind k: it begins with the kind, and has as many bytes as a record of that kind
pub record IsOfKind (k : ℕ) (r : List ℕ) : Type 0 where
  pub begins : kind r ≡ k
  pub whole : length r ≡ size_of k

abbrev pub IsToneOrTail : List ℕ → Type 0
IsToneOrTail r = IsOfKind TONE_KIND r ⊎ IsOfKind TAIL_KIND r

abbrev pub IsRuleOrPart : List ℕ → Type 0
IsRuleOrPart r = IsOfKind RULE_KIND r ⊎ IsOfKind PART_KIND r

pub record IsBlock (b : Block) : Type 0 where
  pub accent : IsOfKind ACCENT_KIND b.accent
  pub rules : All IsRuleOrPart b.rules

pub record IsLayout (p : Layout) : Type 0 where
  pub settings : IsOfKind SETTINGS_KIND p.settings
  pub tones : All IsToneOrTail p.tones
  pub blocks : All IsBlock p.blocks

-- "A pack whose accents, each with its rules, are written in any other order": the bytes t are those of s but for that order; tones and tails stay.
-- IsPermutation is the word by which a sort says that it only moves
pub record InOtherOrder (s t : List ℕ) : Type 0 where
  pub layout : Layout
  pub other : List Block
  pub is_layout : IsLayout layout
  pub order : IsPermutation layout.blocks other
  pub one_is : s ≡ layout_bytes layout
  pub other_is : t ≡ layout_bytes (record layout { blocks = other })
