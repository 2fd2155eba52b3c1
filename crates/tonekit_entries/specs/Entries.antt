-- What an inventory's fields stand for: the first `count` of the eight entries, behind which each is blank.
use Rattle.std.specs.Prelude.{◌≡◌, ◌-◌, ◌≤◌, ◌++◌, length, take, drop, replicate}
use Rattle.std.proofs.Common.{ap, sym, subst, ◌∙◌, take-append-drop, length-take-le}
use Rattle.arrayvec.specs.ArrayVec.{ArrayVec}
use Rattle.tonekit_entries.specs.declared.ToneEntry.{ToneEntry}
use Rattle.tonekit_entries.specs.declared.TheConstants.{BLANK}
use Rattle.tonekit_entries.specs.declared.Inventory.TheInside.{Inside}

-- the tones
abbrev pub tones_of : Inside → ArrayVec ToneEntry
tones_of f = record { items = take f.count f.entries }

-- so the tones fix the fields
abbrev pub BlankBehind : Inside → Type 0
BlankBehind f = (f.count ≤ 8) × (length f.entries ≡ 8) × (drop f.count f.entries ≡ replicate (8 - f.count) BLANK)

-- which are these
abbrev pub fields_of : ArrayVec ToneEntry → Inside
fields_of i = record { entries = i.items ++ replicate (8 - length i.items) BLANK; count = length i.items }

pub fields_back : (f : Inside) → BlankBehind f → fields_of (tones_of f) ≡ f
fields_back f h =
    let few = subst (λ n. f.count ≤ n) (sym h.1) h.0 in
    let counted : length (take f.count f.entries) ≡ f.count = length-take-le f.count f.entries few in
    let entries : take f.count f.entries ++ replicate (8 - length (take f.count f.entries)) BLANK ≡ f.entries =
    ap (λ n. take f.count f.entries ++ replicate (8 - n) BLANK) counted
    ∙ ap (λ rest. take f.count f.entries ++ rest) (sym h.2)
    ∙ take-append-drop f.count f.entries in
    λ i. record { entries = entries i; count = counted i }
