use Rattle.std.proofs.Common.{rules, ap, ◌∙◌, ◌≤◌, sym, subst, refl, arith, length}
use Rattle.crossbeam_queue.specs.Passes.{view}
use Rattle.shared_queue.specs.declared.views.View.{View}
use Rattle.shared_queue.specs.Homes.{home_of}
use Rattle.shared_queue.specs.Rule.{end_of}
use Rattle.shared_queue.specs.Ends.{AllEnded, EndParts, accepts, lefts}
use Rattle.shared_queue.proofs.Steps.{accounts, merges_outlet}
use Rattle.shared_queue.proofs.Ends.{all_back, parts_of, lefts_within, accepted_back}
use Rattle.shared_queue.proofs.Homes.{one_home}
use Rattle.shared_queue.proofs.finishing.finish.Goals as goal

pub end_lanes-fulls-requires-clause-pass : goal.end_lanes-fulls-requires-clause-pass
end_lanes-fulls-requires-clause-pass g c =
    let o = c.args.outlet in
    (search rules, λ k d lt. (one_home _ _ _ _ _ _ (c.requires.home k d lt)).0 ∙ (o.tied.0 ∙ sym o.maker_tied.0))

pub absorb-requires-clause-rule : goal.absorb-requires-clause-rule
absorb-requires-clause-rule g c = let o = c.args.outlet.pops in merges_outlet _ _ _ _ o.0 o.1 o.2

pub len_as-requires-clause-rule : goal.len_as-requires-clause-rule
len_as-requires-clause-rule g c =
    let o = c.args.outlet in
    let count = c.requires.count ∙ (ap (λ qs. length qs) o.allotments_are ∙ sym o.made_is) in
    let b = all_back (λ l. end_of (view l.pass)) (λ l. l.bay) c.args.lanes.items (view o.pass) (view o.maker) (view c.end_lanes-fulls.new.maker) (view c.absorb.new.pass) o.makes.0 count c.end_lanes-fulls.ensures.maker.2 c.absorb.ensures.rule c.requires.order (λ l. l.bay_is) in
    accounts _ _ b.makes b.pops

pub invariant_of-result : goal.invariant_of-result
invariant_of-result g c =
    let o = c.args.outlet in
    let count = c.requires.count ∙ (ap (λ qs. length qs) o.allotments_are ∙ sym o.made_is) in
    let m = c.end_lanes-fulls.ensures.maker in
    let a = c.absorb.ensures.queue in
    let q = c.len_as.ensures.queue in
    let r = c.len_as.ensures.rule in
    let b = all_back (λ l. end_of (view l.pass)) (λ l. l.bay) c.args.lanes.items (view o.pass) (view o.maker) (view c.end_lanes-fulls.new.maker) (view c.absorb.new.pass) o.makes.0 count m.2 c.absorb.ensures.rule c.requires.order (λ l. l.bay_is) in
    let few = lefts_within (view c.absorb.new.pass) r.1.0 r.1.2 b.in_order in
    let n = r.1.1 in
    let most : c.len_as.result ≤ o.capacity = search (rules, r.0, o.capacity_is) in
    record {
      tied = (q.0.0 ∙ (a.0 ∙ (m.1 ∙ o.maker_tied.0)), q.0.2 ∙ (a.2 ∙ m.0.1));
      ends = (ap (λ (v : View). v.makes) q.1 ∙ b.makes, ap (λ (v : View). v.pops) q.1 ∙ b.pops);
      in_order = subst AllEnded (sym q.1) b.in_order;
      parts = subst (λ (v : View). EndParts (accepts v) v.taken (lefts v) o.capacity) (sym q.1) (parts_of o.capacity (view c.absorb.new.pass) r.1.0 r.1.2 b.in_order (omega (arith, few, n, most)));
    }

pub returns-clause-end : goal.returns-clause-end
returns-clause-end g c =
    let o = c.args.outlet in
    let m = c.end_lanes-fulls.ensures.maker in
    let a = c.absorb.ensures in
    let q = c.len_as.ensures.queue in
    let same = q.1 ∙ a.rule in
    let t = (q.0.0 ∙ (a.queue.0 ∙ (m.1 ∙ o.maker_tied.0))) ∙ sym o.tied.0 in
    let s = (ap (λ (v : View). v.allotments) same ∙ ap (λ (v : View). v.allotments) m.2) ∙ sym o.allotments_are in
    record {
      accepted = ap accepts same ∙ (ap accepts m.2 ∙ accepted_back (λ l. end_of (view l.pass)) c.args.lanes.items);
      taken = ap (λ (v : View). v.taken) same;
      empties = refl;
      fulls = c.end_lanes-fulls.ensures.result;
      home = λ i. home_of (t i) o.capacity (s i);
      capacity = refl;
    }
