-- A turn writes one place more, from what stood there; a list that is written so is mapped.
use Rattle.std.proofs.Common.{ℕ, ◌≡◌, ◌∙◌, List, arith, rules, get_or, Float}
use lib.Ieee.{nan}
use Rattle.spec_shape.specs.Chao.{width_of, st_to_chao}
use Rattle.tonekit_shape.proofs.Fill.{listed_none, listed_more, listed_all, listed_rest, listed_map}
use Rattle.tonekit_shape.proofs.Turns.{chao_of}
use Rattle.tonekit_shape.proofs.curve.chao.Goals as goal

pub loop-value-init : goal.loop-value-init
loop-value-init c = listed_none _ _

turned : {floor width low w v x : Float} (l : List Float) (k : ℕ) → low ≡ floor → w ≡ width → v ≡ get_or l k nan → x ≡ st_to_chao low w v → x ≡ chao_of floor width l k
turned l k low-is width-is value-is x-is = rw (x-is, low-is, width-is, value-is)

pub loop-value-preserved : goal.loop-value-preserved
loop-value-preserved c =
    let l = c.loop-value in
    let k = l.value-index in
    let curve = c.args.curve.now in
    listed_more _ curve _ k _ c.loop-value-test.true l.invariant
    (turned curve k c.from-low.ensures c.width_of-width.ensures (listed_rest _ curve l.curve k k (omega arith) l.invariant) c.st_to_chao.ensures)

pub returns : goal.returns
returns c =
    listed_all _ _ _ _ _ (search rules) (search rules) c.loop-value.invariant ∙ listed_map (st_to_chao c.args.floor (width_of c.args.floor c.args.ceil)) c.args.curve.now
