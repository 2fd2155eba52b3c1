-- One more tone keeps every entry behind the last one blank. Assumes nothing.
use Rattle.std.proofs.Common.{◌<◌, ◌+◌, ◌-◌, length, drop, slice_set, replicate, ap, sym, ◌∙◌, arith, length-set, length-take-le}
use Rattle.std.proofs.lemmas.List.{drop-set-lt, drop-drop, drop-replicate}
use Rattle.tonekit_entries.specs.declared.ToneEntry.{ToneEntry}
use Rattle.tonekit_entries.specs.declared.TheConstants.{BLANK}
use Rattle.tonekit_entries.specs.declared.Inventory.TheInside.{Inside}
use Rattle.tonekit_entries.specs.Entries.{tones_of, BlankBehind}

pub one_more : (f : Inside) (e : ToneEntry) → BlankBehind f → length (tones_of f).items < 8
    → BlankBehind (record { entries = slice_set f.entries f.count e; count = f.count + 1 })
one_more f e h room =
    let counted = length-take-le f.count f.entries (omega (arith, h.0, h.1)) in (
      omega (arith, counted, room),
      length-set f.entries f.count e ∙ h.1,
      drop-set-lt (f.count + 1) f.entries f.count e (omega arith)
          ∙ sym (drop-drop 1 f.count f.entries)
          ∙ ap (drop 1) h.2
          ∙ drop-replicate 1 (8 - f.count) BLANK
          ∙ ap (λ n. replicate n BLANK) (omega arith),
    )
