-- `judge_held` meets its contract, by the ways through its code.
use Rattle.std.proofs.Common.{rules, refl, sym, ◌≡◌, ◌∙◌, ap}
use Rattle.std.specs.Prelude.{Result, Err}
use Rattle.tonekit_core.specs.declared.Rejection.{Rejection}
use Rattle.tonekit_core.proofs.Calls.{delivers_refused, delivers_same}
use Rattle.tonekit_query.proofs.Laws.{load_reads, read_holds}
use Rattle.spec_lookup.specs.Source.{Source}
use Rattle.spec_lookup.specs.declared.Context.{Context}
use Rattle.spec_judgement.specs.Gather.{Gathering, gathered}
use Rattle.spec_judgement.specs.Judgement.{judge_gathered}
use Rattle.tonekit_station.specs.Held.{on_held}
use Rattle.tonekit_station.proofs.Ways.{query_good, query_bad}
use Rattle.tonekit_station.proofs.judge_held.Goals as goal

pub gather-g-requires : goal.gather-g-requires
gather-g-requires g c = search rules

pub judge_gathered-requires : goal.judge_gathered-requires
judge_gathered-requires g c =
    let h = read_holds _ _ (load_reads _ _ (sym c.load_query.ensures ∙ c.in_ok-q.was)) in
    (c.gather-g.ensures.counted, h.count, h.variants)

pub returns-in_err-h : goal.returns-in_err-h
returns-in_err-h g c =
    let e : c.from_residual.result ≡ Err c.in_err-h.field-0.0 = search rules in
    rw (e, c.in_err-h.ensures.refused) (delivers_refused _ _ _ _ refl)

pub returns-in_err-q : goal.returns-in_err-q
returns-in_err-q g c =
    let e : c.from_residual-in_err-q.result ≡ Err c.in_err-q.field-0.0 = search rules in
    rw (e, c.in_ok-h.ensures.held) (delivers_refused _ _ _ _ (query_bad _ _ _ (sym c.load_query.ensures ∙ c.in_err-q.was)))

pub returns : goal.returns
returns g c =
    let s = c.args in
    let q = c.in_ok-q.q in
    let src = g.H.Held.source c.in_ok-h.h in
    delivers_same _ _ _ _ _
    (ap (λ (y : Gathering). judge_gathered y s.query.now q) c.gather-g.ensures.is
    ∙ (ap (λ (y : Context). judge_gathered (gathered src y) s.query.now q) c.context_of.ensures
    ∙ (query_good src s.query.now q (sym c.load_query.ensures ∙ c.in_ok-q.was)
    ∙ sym (ap (λ (r : Result Source Rejection). on_held r s.query.now) c.in_ok-h.ensures.held))))
    c.judge_gathered.ensures
