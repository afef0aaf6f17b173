use Rattle.std.proofs.Common.{◌++◌, drop, sym, ap, ◌∙◌}
use Rattle.token_users.specs.Act.{name_in, values}
use Rattle.token_users.proofs.KeptLemmas.{value_kept, value_passed, value_refused, values_kept}
use Rattle.token_users.proofs.impersonation.names.Goals as goal
use Rattle.token_users.proofs.impersonation.names.Goals.{then-is_named+in-Some+in_ok-push_copy-in-Some, else-is_named}

pub loop-header-preserved : goal.loop-header-preserved
loop-header-preserved c =
    let name = c.args.name.now in
    let headers = c.args.headers.now in
    let i = c.loop-header.header-index in
    let inv = c.loop-header.invariant in
    elim c.if-is_named.branch [
      | then-is_named+in-Some+in_ok-push_copy-in-Some w ↦
          let next = value_kept name headers i c.header-item.result c.loop-header.names.items c.if-is_named.names.items w.in-Some.value.now c.loop-header-test.true c.header-item.is (sym w.if-is_named.ensures) (w.in-Some.ensures ∙ ap name_in w.as_slice.ensures) (ap (λ v. v.items) w.names-is ∙ w.in_ok-push_copy-in-Some.ensures) inv.all inv.kept in
          record { all = next.0; kept = next.1 }
      | else-is_named w ↦
          let next = value_passed name headers i c.header-item.result c.if-is_named.names.items c.loop-header-test.true c.header-item.is (sym w.if-is_named.ensures) inv.all (ap (λ v. v.items ++ values name (drop i headers)) w.names-is ∙ inv.kept) in
          record { all = next.0; kept = next.1 }
    ]

pub returns-in-None : goal.returns-in-None
returns-in-None c =
    value_refused c.args.name.now c.args.headers.now c.loop-header.header-index c.header-item.result c.loop-header-test.true c.header-item.is (sym c.if-is_named.ensures) (c.in-None.ensures ∙ ap name_in c.as_slice.ensures) c.loop-header.invariant.all

pub returns : goal.returns
returns c =
    values_kept c.args.name.now c.args.headers.now c.loop-header.header-index c.loop-header.names.items c.new.result c.loop-header-test.false c.new.ensures c.loop-header.invariant.all c.loop-header.invariant.kept
