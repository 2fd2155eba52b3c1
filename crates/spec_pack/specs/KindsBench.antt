-- Worked examples, computed: which kinds of records are due after each, and how long the records of each are.
use Rattle.std.specs.Prelude.{ℕ, ◌≡◌, refl, List, [], ◌∷◌, map}
use Rattle.std.specs.List.{filter}
use Rattle.spec_pack.specs.Pack.{due_after, size_of}

-- every byte up to the one above the last kind
abbrev kinds : List ℕ
kinds = 0 ∷ 1 ∷ 2 ∷ 3 ∷ 4 ∷ 5 ∷ 6 ∷ 7 ∷ 8 ∷ []

-- "Order: Settings, Tones, then each Accent with its Rules, each Rule with its Parts, End", "Kind 7 may follow a Tone": what is due first, and after each kind
order : (filter (due_after 0) kinds ≡ 1 ∷ [])
    × (filter (due_after 1) kinds ≡ 2 ∷ [])
    × (filter (due_after 2) kinds ≡ 2 ∷ 3 ∷ 7 ∷ [])
    × (filter (due_after 3) kinds ≡ 3 ∷ 4 ∷ 6 ∷ [])
    × (filter (due_after 4) kinds ≡ 5 ∷ [])
    × (filter (due_after 5) kinds ≡ 3 ∷ 4 ∷ 5 ∷ 6 ∷ [])
    × (filter (due_after 7) kinds ≡ 2 ∷ 3 ∷ [])
unfolding due_after
order = (refl, refl, refl, refl, refl, refl, refl)

-- "every record is one byte of kind, then a body whose length the kind fixes"; a byte that is no kind is as long as an End
sizes : map size_of kinds ≡ 1 ∷ 9 ∷ 56 ∷ 19 ∷ 7 ∷ 46 ∷ 1 ∷ 9 ∷ 1 ∷ []
unfolding size_of
sizes = refl
