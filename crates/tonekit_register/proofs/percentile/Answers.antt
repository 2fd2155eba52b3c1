-- `percentile`: the rank is a share of the last place, so its whole part is a place among the keys.
use Rattle.std.proofs.Common.{◌<◌, ◌∙◌, length, arith, rules}
use Rattle.tonekit_register.proofs.Places.{rank_low, rank_lt, place_lt, by_ranks}
use Rattle.tonekit_register.proofs.percentile.Goals as goal
use Rattle.tonekit_register.proofs.percentile.Goals.{After-floor_index-lo}

pub floor_index-lo-requires-clause-low : goal.floor_index-lo-requires-clause-low
floor_index-lo-requires-clause-low c = rw c.f64_of.ensures (rank_low c.args.keys.now c.requires.some c.requires.few c.args.p c.requires.share)

pub floor_index-lo-requires-clause-high : goal.floor_index-lo-requires-clause-high
floor_index-lo-requires-clause-high c = rw c.f64_of.ensures (rank_lt c.args.keys.now c.requires.some c.requires.few c.args.p c.requires.share)

low_place : (c : After-floor_index-lo) → c.floor_index-lo.result < length c.args.keys.now
low_place c = rw (c.floor_index-lo.ensures, c.f64_of.ensures) (place_lt c.args.keys.now c.requires.some c.requires.few c.args.p c.requires.share)

pub overflow_add-lo : goal.overflow_add-lo
overflow_add-lo c = omega (arith, low_place (goal.at.overflow_add-lo c).After-floor_index-lo, c.requires.few)

pub ranked-requires : goal.ranked-requires
ranked-requires c = record { one_of_them = low_place (goal.at.ranked-requires c).After-floor_index-lo; countable = search rules }

pub returns : goal.returns
returns c =
    by_ranks c.args.keys.now c.args.p c.f64_of.ensures c.floor_index-lo.ensures c.min-hi.ensures c.f64_of-2.ensures (low_place (goal.at.returns c).After-floor_index-lo)
    (c.from-low.ensures ∙ c.ranked.ensures) (c.from-high.ensures ∙ c.ranked-2.ensures)
