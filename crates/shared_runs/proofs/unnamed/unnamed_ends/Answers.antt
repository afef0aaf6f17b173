use Rattle.std.proofs.Common.{rules, ◌≡◌, ◌+◌, true, All, List, [], ◌∷◌, ◌++◌, arith, ap, map, subst, ◌∙◌, length, length-append}
use Rattle.std.proofs.lemmas.List.{length-map}
use Rattle.std.proofs.lemmas.List.Elements.{All-push}
use Rattle.shared_routes.specs.Makers.{AreNumbered, own_count}
use Rattle.shared_runs.specs.Histories.{SawWhole}
use Rattle.shared_runs.specs.Unnamed.{routes_of, unnamed_end}
use Rattle.shared_runs.proofs.EndLemmas.{count_push, numbered_push}
use Rattle.shared_runs.proofs.WalkLemmas.{all_of, image_more, next_whole}
use Rattle.shared_runs.proofs.unnamed.unnamed_ends.Goals as goal

pub loop-end-preserved : goal.loop-end-preserved
loop-end-preserved g c =
    let i = c.loop-end.invariant in
    let before = c.loop-end.yielded in
    let one = c.in-Some.end in
    let saw = SawWhole g.P.Prefix.home g.P.Prefix.opening (g.P.Prefix.history c.args.whole.now).entries in
    let count = ap (λ l. length l) i.left ∙ length-map before unnamed_end in
    let number : c.len-number.result ≡ length before = omega (arith, c.len-number.ensures, count) in
    record {
      walked = next_whole c.args.ends.items before c.loop-end.end-iterator.rest.items c.next.new.self.rest.items one i.walked c.in-Some.ensures.steps.0;
      left = image_more unnamed_end before one c.loop-end.left.items c.push_reserved.new.self.items c.unnamed_end.result i.left c.push_reserved.ensures.items c.unnamed_end.ensures.end;
      room = search (rules, c.push_reserved.ensures.capacity, i.room);
      parts = omega (arith, c.unnamed_end.ensures.parts, i.parts, length-append before (one ∷ []));
      amount = omega (arith, c.unnamed_end.ensures.amount, i.amount, count_push before one);
      numbered = λ fits. let h = c.unnamed_end.ensures.number fits in numbered_push before one c.len-number.result (i.numbered h.0) number h.1;
      within = λ fits. let h = c.unnamed_end.ensures.number fits in All-push saw before one (i.within h.0) (c.unnamed_end.ensures.within fits);
    }

pub returns-clause-items : goal.returns-clause-items
returns-clause-items g c =
    let i = c.loop-end.invariant in
    let z : length c.loop-end.end-iterator.rest.items ≡ 0 = omega (arith, c.loop-end.end-iterator.rest.ok.0, c.in-None.ensures.steps.0) in
    i.left ∙ ap (map unnamed_end) (all_of c.args.ends.items c.loop-end.yielded c.loop-end.end-iterator.rest.items i.walked z)

pub returns-clause-parts : goal.returns-clause-parts
returns-clause-parts g c =
    let i = c.loop-end.invariant in
    let z : length c.loop-end.end-iterator.rest.items ≡ 0 = omega (arith, c.loop-end.end-iterator.rest.ok.0, c.in-None.ensures.steps.0) in
    i.parts ∙ ap (λ l. length l) (all_of c.args.ends.items c.loop-end.yielded c.loop-end.end-iterator.rest.items i.walked z)

pub returns-clause-amount : goal.returns-clause-amount
returns-clause-amount g c =
    let i = c.loop-end.invariant in
    let z : length c.loop-end.end-iterator.rest.items ≡ 0 = omega (arith, c.loop-end.end-iterator.rest.ok.0, c.in-None.ensures.steps.0) in
    i.amount ∙ ap (λ l. own_count (map routes_of l)) (all_of c.args.ends.items c.loop-end.yielded c.loop-end.end-iterator.rest.items i.walked z)

pub returns-clause-numbered : goal.returns-clause-numbered
returns-clause-numbered g c = λ fits.
    let i = c.loop-end.invariant in
    let z : length c.loop-end.end-iterator.rest.items ≡ 0 = omega (arith, c.loop-end.end-iterator.rest.ok.0, c.in-None.ensures.steps.0) in
    subst (λ l. AreNumbered 0 (map routes_of l)) (all_of c.args.ends.items c.loop-end.yielded c.loop-end.end-iterator.rest.items i.walked z)
    (i.numbered fits)

pub returns-clause-within : goal.returns-clause-within
returns-clause-within g c = λ fits.
    let i = c.loop-end.invariant in
    let z : length c.loop-end.end-iterator.rest.items ≡ 0 = omega (arith, c.loop-end.end-iterator.rest.ok.0, c.in-None.ensures.steps.0) in
    subst (λ l. All (SawWhole g.P.Prefix.home g.P.Prefix.opening (g.P.Prefix.history c.args.whole.now).entries) l)
    (all_of c.args.ends.items c.loop-end.yielded c.loop-end.end-iterator.rest.items i.walked z) (i.within fits)
