use Rattle.std.proofs.Common.{◌∷◌, sym, ◌∙◌}
use Rattle.apiservice_table.proofs.FindLemmas.{shorter, longer}
use Rattle.apiservice_table.proofs.place.compare_own.Goals as goal

pub returns-then-name-version : goal.returns-then-name-version
returns-then-name-version c =
    c.cmp.ensures ∙ sym (shorter c.args.name.now c.args.version.now (46 ∷ c.args.group.now) c.if-name-version.true)

pub returns : goal.returns
returns c =
    let front = rw c.split_at.ensures.front at c.cmp-first.ensures in
    let rest = rw c.split_at.ensures.back at c.compare_rest.ensures in
    rw (c.then.ensures, front, rest) (sym (longer c.args.name.now c.args.version.now (46 ∷ c.args.group.now) c.if-name-version.false))
