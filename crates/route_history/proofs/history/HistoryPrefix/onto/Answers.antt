use Rattle.std.proofs.Common.{◌≤◌, ap, subst, arith, length, List}
use mathlib.Core.List.{IsPrefix}
use Rattle.route_history.specs.declared.entry.Entry.{Entry}
use Rattle.route_history.specs.History.{History}
use Rattle.route_history.proofs.Prefixes.{prefix_shorter}
use Rattle.route_history.proofs.history.HistoryPrefix.onto.Goals as goal

pub returns-clause-begins : goal.returns-clause-begins
returns-clause-begins g c =
    let mine : List Entry = c.self.inside.seen.log in
    let theirs : List Entry = c.other.inside.seen.log in
    let this : IsPrefix mine c.learn.new.self.log = subst (λ (l : List Entry). IsPrefix l c.learn.new.self.log) (ap (λ s. s.log) c.again-both.ensures) c.learn.ensures.2 in
    let less : length mine ≤ length theirs = omega (arith, c.requires, ap (λ (h : History). length h.entries) c.self.view_is, ap (λ (h : History). length h.entries) c.other.view_is) in
    let begins : IsPrefix mine theirs = prefix_shorter mine theirs c.learn.new.self.log this c.learn.ensures.3 less in
    subst (λ (h : History). IsPrefix h.entries c.args.other.now.entries) c.self.view_is (subst (λ (h : History). IsPrefix mine h.entries) c.other.view_is begins)
