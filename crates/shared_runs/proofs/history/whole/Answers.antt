use Rattle.std.proofs.Common.{List, sym, subst, take}
use Rattle.std.proofs.lemmas.List.{take_all}
use Rattle.std.proofs.lemmas.List.Elements.{All-more, All-same}
use mathlib.Core.List.{IsPrefix}
use Rattle.route_history.specs.declared.entry.Entry.{Entry}
use Rattle.shared_runs.proofs.HistoryLemmas.{all_saw_more}
use Rattle.shared_runs.specs.Histories.{SawOne}
use Rattle.route_history.specs.History.{History}
use Rattle.shared_runs.proofs.history.whole.Goals as goal

pub loop-end-preserved : goal.loop-end-preserved
loop-end-preserved g c =
    let old : List Entry = (g.P.Prefix.history c.loop-end.longest).entries in
    let new : List Entry = (g.P.Prefix.history c.longer-longest.result).entries in
    let end = c.end-item.result in
    let own = SawOne g.P.Prefix.home g.P.Prefix.opening new in
    let seen = subst (λ (h : History). IsPrefix h.entries new) c.prefix.ensures c.longer-longest.ensures.other in
    let one : own end = record {
      home_is = c.tells_its_home.ensures.home;
      opening_is = c.tells_its_home.ensures.opening;
      seen = seen;
    } in
    All-more own c.args.ends.now c.loop-end.end-index end c.loop-end-test.true
    (all_saw_more g.P.Prefix.home g.P.Prefix.opening old new c.longer-longest.ensures.one (take c.loop-end.end-index c.args.ends.now) c.loop-end.invariant)
    (subst own c.end-item.is one)

pub returns : goal.returns
returns g c =
    let own = SawOne g.P.Prefix.home g.P.Prefix.opening (g.P.Prefix.history c.loop-end.longest).entries in
    All-same own c.args.ends.now (take c.loop-end.end-index c.args.ends.now)
    (sym (take_all c.loop-end.end-index c.args.ends.now c.loop-end-test.false)) c.loop-end.invariant
