-- The context that a query asks about.
use Rattle.spec_query.specs.declared.Query.{Query}
use Rattle.spec_lookup.specs.declared.Context.{Context}

abbrev pub context_of : Query → Context
context_of q = record { accent = q.accent; tone = q.tone; prev = q.prev; last = q.last }
