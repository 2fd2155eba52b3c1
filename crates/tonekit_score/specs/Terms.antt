-- A component's term in a mixture, apart from the mixture. `mix_turn` says what terms come to.
use Rattle.std.specs.Prelude.{Option, Some, None, cond, Float}
use Rattle.std.specs.Float.{binary64}
use Rattle.std.specs.Float.Ieee.{add, le}
use Rattle.spec_arithmetic.specs.Log.{ln_of}
use Rattle.spec_arithmetic.specs.Constants.{zero32}
use Rattle.spec_judgement.specs.Score.{log_of}
use Rattle.spec_judgement.specs.declared.Scoring.{Scoring}
use Rattle.spec_judgement.specs.declared.Term.{Term}

-- the score and the squared distance, of a component whose weight is above 0
unfoldable pub term_of : Scoring → Float → Float → Option Term
term_of s weight d2 = cond (le weight zero32) None (Some (record { score = add binary64 (ln_of weight) (log_of s d2); distance = d2 }))
