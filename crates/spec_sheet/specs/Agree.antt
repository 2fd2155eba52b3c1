-- Demand 3's words, of what two stations hold: held, agree, the same.
use Rattle.std.specs.Prelude.{ℕ, ◌<◌, ◌≡◌, ◌⊎◌, true, List, get_or}
use Rattle.std.proofs.Math.Option.{some}
use Rattle.spec_lookup.specs.Source.{Accent, Source, accent_in, tone_in}
use Rattle.spec_lookup.specs.declared.Context.{Context}

-- a list of bytes
abbrev pub Bytes : List ℕ → Type 0
Bytes s = (i : ℕ) → get_or s i 0 < 256

-- "A lookup takes accent, tone, prev (a held tone or 0) and final (0 or 1)": of a held accent and a held tone, at either place of a phrase
pub record Held (src : Source) (c : Context) : Type 0 where
  pub accent : (a : Accent) × (accent_in src.accents c.accent ≡ some a)
  pub tone : tone_in src.tones c.tone ≡ true
  pub prev : (c.prev ≡ 0) ⊎ (tone_in src.tones c.prev ≡ true)

-- "Tones agree if equally many and, one by one in order, equal in number, prior, flag, from and to; accents if the same numbers are held, each with the same four tolerances, in any order"; "Two [lookups] give the same if both give nothing, or equally many components, equal one by one in all that they carry"
pub record Agree (a b : Source) : Type 0 where
  pub settings : a.settings ≡ b.settings
  pub tones : a.tones ≡ b.tones
  pub accents : (n : ℕ) → accent_in a.accents n ≡ accent_in b.accents n
  pub lookups : (c : Context) → Held a c → a.look c ≡ b.look c
