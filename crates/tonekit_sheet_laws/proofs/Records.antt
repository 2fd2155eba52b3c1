-- The fields of each record of a sheet, read from where its bytes stand. Assumes nothing.
use Rattle.std.proofs.Common.{ℕ, zero, suc, ◌+◌, ◌*◌, ◌≤◌, ◌<◌, ◌≡◌, refl, ◌∙◌, List, [], ◌∷◌, ◌++◌, arith, length, get_or, length-append}
use Rattle.spec_arithmetic.specs.Fields.{byte_at, u16_at, u32_at, le16, le32}
use Rattle.spec_arithmetic.specs.Places.{number_at}
use Rattle.spec_lookup.specs.Source.{Settings, Tone, Accent, Carried}
use Rattle.spec_lookup.specs.declared.Context.{Context}
use Rattle.spec_sheet.specs.Sheet.{settings_bytes, tone_bytes, accent_bytes, row_bytes, bits_bytes, components_bytes, absent_carried, list_bytes}
use Rattle.tonekit_sheet.specs.Sheetable.{Bits}
use Rattle.tonekit_sheet.proofs.Components.{component_length}
use Rattle.tonekit_bytes.proofs.Back.{le16_back, le32_back}
use Rattle.tonekit_bytes.proofs.Stands.{Stands, field16, field32, kind, stands_first, stands_then}
use Rattle.tonekit_sheet.specs.Parts.{component_bytes}

-- a list's head
abbrev pub list_head_bytes : ℕ → Carried → ℕ → List ℕ
list_head_bytes n c count = (21 ∷ n ∷ c.owner ∷ c.form ∷ []) ++ (le16 c.label ++ (count ∷ []))

module _ (s : List ℕ) (o : ℕ) where
  pub record SettingsThere (x : Settings) : Type 0 where
    pub kind : byte_at s o ≡ 17
    pub whole : o + 9 ≤ length s
    pub temperature : u32_at s (o + 1) ≡ x.temperature
    pub threshold : u32_at s (o + 5) ≡ x.threshold

  pub settings_there : (x : Settings) → Bits x.temperature → Bits x.threshold → Stands s o (settings_bytes x) → SettingsThere x
  settings_there x a b w = record {
    kind = kind w (omega arith);
    whole = w.fits;
    temperature = field32 w 1 (omega arith) ∙ le32_back x.temperature a;
    threshold = field32 w 5 (omega arith) ∙ le32_back x.threshold b;
  }

  pub record ToneThere (t : Tone) : Type 0 where
    pub kind : byte_at s o ≡ 18
    pub whole : o + 24 ≤ length s
    pub number : number_at s o ≡ t.number
    pub prior : u32_at s (o + 2) ≡ t.prior
    pub flag : byte_at s (o + 6) ≡ t.flag
    pub from : u32_at s (o + 7) ≡ t.from
    pub to : u32_at s (o + 11) ≡ t.to
    pub tail : byte_at s (o + 15) ≡ 24
    pub final : u32_at s (o + 15 + 1) ≡ t.tail_final
    pub elsewhere : u32_at s (o + 15 + 5) ≡ t.tail_elsewhere

  pub tone_there : (t : Tone) → Bits t.prior → Bits t.from → Bits t.to → Bits t.tail_final → Bits t.tail_elsewhere → Stands s o (tone_bytes t) → ToneThere t
  tone_there t p f u n e w = record {
    kind = kind w (omega arith);
    whole = w.fits;
    number = w.byte 1 (omega arith);
    prior = field32 w 2 (omega arith) ∙ le32_back t.prior p;
    flag = w.byte 6 (omega arith);
    from = field32 w 7 (omega arith) ∙ le32_back t.from f;
    to = field32 w 11 (omega arith) ∙ le32_back t.to u;
    tail = w.byte 15 (omega arith);
    final = let q : o + 15 + 1 ≡ o + 16 = omega arith in rw q (field32 w 16 (omega arith) ∙ le32_back t.tail_final n);
    elsewhere = let q : o + 15 + 5 ≡ o + 20 = omega arith in rw q (field32 w 20 (omega arith) ∙ le32_back t.tail_elsewhere e);
  }

  pub record AccentThere (a : Accent) : Type 0 where
    pub kind : byte_at s o ≡ 19
    pub whole : o + 18 ≤ length s
    pub number : number_at s o ≡ a.number
    pub contour : u32_at s (o + 2) ≡ a.contour
    pub onset : u32_at s (o + 6) ≡ a.onset
    pub offset : u32_at s (o + 10) ≡ a.offset
    pub turning : u32_at s (o + 14) ≡ a.turning

  pub accent_there : (a : Accent) → Bits a.contour → Bits a.onset → Bits a.offset → Bits a.turning → Stands s o (accent_bytes a) → AccentThere a
  accent_there a c n f t w = record {
    kind = kind w (omega arith);
    whole = w.fits;
    number = w.byte 1 (omega arith);
    contour = field32 w 2 (omega arith) ∙ le32_back a.contour c;
    onset = field32 w 6 (omega arith) ∙ le32_back a.onset n;
    offset = field32 w 10 (omega arith) ∙ le32_back a.offset f;
    turning = field32 w 14 (omega arith) ∙ le32_back a.turning t;
  }

  pub record RowThere (c : Context) (n m : ℕ) : Type 0 where
    pub kind : byte_at s o ≡ 20
    pub whole : o + 6 ≤ length s
    pub accent : byte_at s (o + 1) ≡ c.accent
    pub tone : byte_at s (o + 2) ≡ c.tone
    pub prev : byte_at s (o + 3) ≡ c.prev
    pub first : byte_at s (o + 4) ≡ n
    pub final : byte_at s (o + 5) ≡ m

  pub row_there : (c : Context) (n m : ℕ) → Stands s o (row_bytes c n m) → RowThere c n m
  row_there c n m w = record {
    kind = kind w (omega arith);
    whole = w.fits;
    accent = w.byte 1 (omega arith);
    tone = w.byte 2 (omega arith);
    prev = w.byte 3 (omega arith);
    first = w.byte 4 (omega arith);
    final = w.byte 5 (omega arith);
  }

  -- the head of a list, whose first component is c
  pub record HeadThere (n : ℕ) (c : Carried) (many : ℕ) : Type 0 where
    pub kind : byte_at s o ≡ 21
    pub whole : o + 7 ≤ length s
    pub number : number_at s o ≡ n
    pub owner : byte_at s (o + 2) ≡ c.owner
    pub form : byte_at s (o + 3) ≡ c.form
    pub label : u16_at s (o + 4) ≡ c.label
    pub count : byte_at s (o + 6) ≡ many

  pub head_there : (n : ℕ) (c : Carried) (count : ℕ) → c.label < 65536 → Stands s o (list_head_bytes n c count) → HeadThere n c count
  head_there n c count l w = record {
    kind = kind w (omega arith);
    whole = w.fits;
    number = w.byte 1 (omega arith);
    owner = w.byte 2 (omega arith);
    form = w.byte 3 (omega arith);
    label = field16 w 4 (omega arith) ∙ le16_back c.label l;
    count = w.byte 6 (omega arith);
  }

-- ---- components and their points
pub bits_there : {s : List ℕ} {o : ℕ} (xs : List ℕ) → Stands s o (bits_bytes xs) → (k : ℕ) → k < length xs → Bits (get_or xs k 0) → u32_at s (o + 4 * k) ≡ get_or xs k 0
unfolding bits_bytes
bits_there {o = o} [] w k h b = absurd (omega arith)
bits_there {s = s} {o = o} (x ∷ xs) w zero h b = field32 w 0 (omega arith) ∙ le32_back x b
bits_there {s = s} {o = o} (x ∷ xs) w (suc k) h b =
    let e : o + 4 * suc k ≡ o + 4 + 4 * k = omega arith in
    rw e (bits_there {o = o + 4} xs (stands_then (le32 x) (bits_bytes xs) (o + 4) refl w) k (omega arith) b)

pub record ComponentThere (s : List ℕ) (o : ℕ) (c : Carried) : Type 0 where
  pub kind : byte_at s o ≡ 22
  pub whole : o + 45 ≤ length s
  pub weight : u32_at s (o + 1) ≡ c.weight
  pub points : (k : ℕ) → k < 10 → u32_at s (o + 5 + 4 * k) ≡ get_or c.points k 0

pub component_there : {s : List ℕ} {o : ℕ} (c : Carried) → length c.points ≡ 10 → Bits c.weight → ((k : ℕ) → k < 10 → Bits (get_or c.points k 0))
    → Stands s o (component_bytes c) → ComponentThere s o c
component_there {s} {o} c t b p w =
    let l = component_length c t in
    record {
      kind = kind w (omega arith);
      whole = omega (arith, w.fits);
      weight = field32 w 1 (omega arith) ∙ le32_back c.weight b;
      points = λ k h. bits_there c.points (stands_then ((22 ∷ []) ++ le32 c.weight) (bits_bytes c.points) (o + 5) refl w) k (omega arith) (p k h);
    }

-- each component of a list has ten points
abbrev pub Ten : List Carried → Type 0
Ten cs = (j : ℕ) → j < length cs → length (get_or cs j absent_carried).points ≡ 10

pub components_length : (cs : List Carried) → Ten cs → length (components_bytes cs) ≡ 45 * length cs
unfolding components_bytes
components_length [] t = refl
components_length (c ∷ cs) t =
    omega (arith, length-append (component_bytes c) (components_bytes cs), component_length c (t 0 (omega arith)), components_length cs (λ j h. t (suc j) (omega arith)))

pub component_stands : {s : List ℕ} {o : ℕ} (cs : List Carried) → Ten cs → Stands s o (components_bytes cs) → (j : ℕ) → j < length cs → Stands s (o + 45 * j) (component_bytes (get_or cs j absent_carried))
unfolding components_bytes
component_stands {o = o} [] t w j h = absurd (omega arith)
component_stands {s = s} {o = o} (c ∷ cs) t w zero h = let e : o + 45 * 0 ≡ o = omega arith in rw e (stands_first (component_bytes c) (components_bytes cs) w)
component_stands {s = s} {o = o} (c ∷ cs) t w (suc j) h =
    let e : o + 45 * suc j ≡ o + 45 + 45 * j = omega arith in
    let l = component_length c (t 0 (omega arith)) in
    rw e (component_stands {o = o + 45} cs (λ k b. t (suc k) (omega arith)) (stands_then (component_bytes c) (components_bytes cs) (o + 45) (omega arith) w) j (omega arith))

pub list_length : (n : ℕ) (cs : List Carried) → Ten cs → length (list_bytes n cs) ≡ 7 + 45 * length cs
list_length n cs t = omega (arith, components_length cs t)

-- the components of a list stand behind its head
pub head_stands : {s : List ℕ} {o : ℕ} (n : ℕ) (cs : List Carried) → Stands s o (list_bytes n cs) → Stands s o (list_head_bytes n (get_or cs 0 absent_carried) (length cs))
head_stands n cs w = stands_first (list_head_bytes n (get_or cs 0 absent_carried) (length cs)) (components_bytes cs) w

pub behind_head : {s : List ℕ} {o : ℕ} (n : ℕ) (cs : List Carried) → Ten cs → Stands s o (list_bytes n cs) → (j : ℕ) → j < length cs → Stands s (o + 7 + 45 * j) (component_bytes (get_or cs j absent_carried))
behind_head {s} {o} n cs t w j h = component_stands cs t (stands_then (list_head_bytes n (get_or cs 0 absent_carried) (length cs)) (components_bytes cs) (o + 7) refl w) j h
