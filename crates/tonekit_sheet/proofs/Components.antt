-- The bytes of components: how long they are, and one component more. Assumes nothing.
use Rattle.std.proofs.Common.{ℕ, ◌*◌, ◌≡◌, refl, sym, ◌∙◌, ap, List, [], ◌∷◌, ◌++◌, append_assoc, append-nil, arith, length}
use Rattle.spec_lookup.specs.Source.{Carried}
use Rattle.spec_sheet.specs.Sheet.{bits_bytes, components_bytes}
use Rattle.tonekit_sheet.specs.Parts.{component_bytes}

pub bits_length : (xs : List ℕ) → length (bits_bytes xs) ≡ 4 * length xs
unfolding bits_bytes
bits_length [] = refl
bits_length (x ∷ xs) = omega (arith, bits_length xs)

pub component_length : (c : Carried) → length c.points ≡ 10 → length (component_bytes c) ≡ 45
component_length c h = omega (arith, bits_length c.points)

pub components_snoc : (cs : List Carried) (c : Carried) → components_bytes (cs ++ (c ∷ [])) ≡ components_bytes cs ++ component_bytes c
unfolding components_bytes
components_snoc [] c = append-nil (component_bytes c)
components_snoc (x ∷ cs) c = ap (λ (r : List ℕ). component_bytes x ++ r) (components_snoc cs c) ∙ sym (append_assoc (component_bytes x) (components_bytes cs) (component_bytes c))
