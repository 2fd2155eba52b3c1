-- A list of which each element is taken as itself is the list. Assumes nothing.
use Rattle.std.proofs.Common.{◌≡◌, List, map, Float}
use Rattle.std.proofs.lemmas.List.{map-id}

pub each_itself : (l : List Float) → map (λ x. x) l ≡ l
each_itself l = map-id l
