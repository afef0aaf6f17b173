use Rattle.std.proofs.Common.{◌≡◌, subst, sym, [], IfOk}
use Rattle.std.specs.Prelude.{unwrap_or}
use Rattle.local_replies.proofs.BehindLemmas.{behind_found, behind_missing}
use Rattle.local_replies.proofs.kind.rest_of.Goals as goal

pub returns-in-Some : goal.returns-in-Some
returns-in-Some c =
    let found = behind_found c.args.front.now c.args.text.now c.in-Some.rest.now c.in-Some.ensures.some in
    subst (λ rest. IfOk c.copy_of.result (λ copy. copy ≡ unwrap_or rest [])) (sym found) c.copy_of.ensures

pub returns-in-None : goal.returns-in-None
returns-in-None c =
    let missing = behind_missing c.args.front.now c.args.text.now c.in-None.ensures.none in
    subst (λ rest. IfOk c.copy_of-in-None.result (λ copy. copy ≡ unwrap_or rest [])) (sym missing) c.copy_of-in-None.ensures
