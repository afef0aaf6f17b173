use Rattle.request_info.proofs.RequestLemmas.{other_is, no_kind_is, resource_is}
use Rattle.request_info.proofs.request.parts_info.Goals as goal

pub returns-in_default : goal.returns-in_default
returns-in_default c = other_is c.args.method.now c.args.query.now c.args.path.now _ _ c.in_default.ensures c.in_ok-other_info.ensures

pub returns-then-is_empty : goal.returns-then-is_empty
returns-then-is_empty c =
    no_kind_is c.args.method.now c.args.query.now c.args.path.now _ _ c.behind_verb-behind.result.now c.in-Some.ensures c.behind_verb-behind.ensures c.if-is_empty.ensures

pub returns : goal.returns
returns c =
    resource_is c.args.method.now c.args.query.now c.args.path.now _ _ c.behind_verb-behind.result.now _ _ _ c.in-Some.ensures c.behind_verb-behind.ensures c.if-is_empty.ensures
    c.verb_of-verb.ensures c.named_by.ensures c.in_ok-resource_info.ensures
