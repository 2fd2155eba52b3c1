-- What a record names: owner, form, label and part of kind 49 are those that the lookup carried for the component that won.
use Rattle.std.specs.Prelude.{ℕ, ◌+◌, ◌*◌, ◌<◌, ◌≡◌, true, Some, List, length, get_or, Float}
use Rattle.std.proofs.Math.Option.{some}
use Rattle.std.specs.Float.{nan}
use Rattle.spec_arithmetic.specs.Files as files
use Rattle.spec_pack.specs.Pack as pack
use Rattle.spec_sheet.specs.Reader as sheet
use Rattle.spec_sheet.specs.Sheet.{absent_carried}
use Rattle.spec_sheet.specs.FromSheet.{source_of_sheet}
use Rattle.spec_lookup.specs.Source.{Carried, Source, source_of_pack, absent_tone}
use Rattle.spec_lookup.specs.declared.Context.{Context}
use Rattle.spec_shape.specs.declared.ToneShape.{ToneShape}
use Rattle.spec_judgement.specs.Score.{scoring_of, mixture_of}
use Rattle.spec_judgement.specs.declared.Settings.{Settings}
use Rattle.spec_judgement.specs.declared.Tolerance.{Tolerance}
use Rattle.spec_judgement.specs.declared.Mixture.{Mixture}
use Rattle.spec_judgement.specs.declared.Mixture.TheVariants.{Scored}
use Rattle.spec_judgement.specs.Inventory.{Targets, Listings, slot_at}
use Rattle.spec_judgement.specs.Judge.{usable, component_at, target_mixing, judgement_of}
use Rattle.spec_judgement.specs.Asked.{TargetsHeld}
use Rattle.spec_judgement.specs.declared.Nearest.{Nearest}
use Rattle.spec_judgement.specs.declared.ToneJudgement.{ToneJudgement}
use Rattle.spec_judgement.specs.Gather.{f32, listings}

-- a slot of what is gathered for a context, and the component that the lookup gave: the tone's, at its place, with its weight and its ten points
pub record Carries (src : Source) (c : Context) (slot : ℕ) (won : Carried) : Type 0 where
  pub tone : ℕ
  pub component : ℕ
  pub at : slot ≡ 4 * tone + component
  pub listed : tone < length src.tones
  pub given : List Carried
  pub looked : src.look (record c { tone = (get_or src.tones tone absent_tone).number }) ≡ some given
  pub has : component < length given
  pub is : get_or given component absent_carried ≡ won
  pub weight : (slot_at (listings src c).slots slot).weight ≡ f32 won.weight
  pub points : (i : ℕ) → i < 10 → get_or (slot_at (listings src c).slots slot).points i nan ≡ f32 (get_or won.points i 0)

-- a judgement's owner, form, label and part are a component's
pub record Names (won : Carried) (j : ToneJudgement) : Type 0 where
  pub nearest : Nearest
  pub is : j.nearest ≡ Some nearest
  pub owner : nearest.name.owner ≡ won.owner
  pub form : nearest.name.form ≡ won.form
  pub label : nearest.name.label ≡ won.label
  pub part : nearest.part ≡ won.part

-- the target's mixture, of which the best component is the one that won
abbrev pub target_mixture : ToneShape → Settings → Tolerance → Listings → Targets → ℕ → Mixture
target_mixture x settings t l g issues =
    let s = scoring_of settings.temperature t issues in
    mixture_of (target_mixing s l.inventory (component_at x s l.inventory l.slots) g)

-- whatever a source's listings are judged by, in any context: the judgement names what the lookup carried for the component that won
abbrev pub NamesWinner : Source → Type 0
NamesWinner src =
    (c : Context) (x : ToneShape) (settings : Settings) (t : Tolerance) (g : Targets) (issues : ℕ)
    → usable x ≡ true → TargetsHeld (length src.tones) g
    → (ll d2 : Float) (slot : ℕ) → target_mixture x settings t (listings src c) g issues ≡ Scored ll slot d2
    → (won : Carried) × Carries src c slot won × Names won (judgement_of x settings t (listings src c) g issues)

abbrev pub PacksName : Type 0
PacksName = (p : List ℕ) (st : pack.PackRead) (e : ℕ) → pack.load_pack p ≡ files.loaded st e → NamesWinner (source_of_pack p st)

abbrev pub SheetsName : Type 0
SheetsName = (p : List ℕ) (st : sheet.SheetRead) (e : ℕ) → sheet.load_sheet p ≡ files.loaded st e → NamesWinner (source_of_sheet p st)
