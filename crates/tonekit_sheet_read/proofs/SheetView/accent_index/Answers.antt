-- `accent_index` meets its contract: the accents stand behind the tones.
use Rattle.std.proofs.Common.{◌∙◌, ap, ℕ, arith}
use Rattle.tonekit_core.specs.declared.layout.TheConstants.{SHEET_ACCENT_SIZE}
use Rattle.spec_arithmetic.specs.Places.{index_of}
use Rattle.tonekit_bytes.specs.Places.{stepped}
use Rattle.tonekit_sheet_read.proofs.SheetView.accent_index.Goals as goal

pub index_from-requires : goal.index_from-requires
index_from-requires c = let x = c.args.self.now.sheet in omega (arith, c.sheet_tone_at-at.ensures, x.few_tones, x.few_accents)

pub returns : goal.returns
returns c =
    let a = c.args.self.now in
    c.index_from.ensures ∙ ap (λ (o : ℕ). index_of a.bytes.now (stepped o SHEET_ACCENT_SIZE a.sheet.accents) c.args.n) c.sheet_tone_at-at.ensures
