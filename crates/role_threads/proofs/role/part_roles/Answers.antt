use Rattle.std.proofs.Common.{rules, arith, ap, sym, ◌∙◌, ◌++◌, ◌∷◌, [], None, length}
use Rattle.role_threads.specs.Lists.{last_of, logs_in, hooks_in}
use Rattle.role_threads.proofs.RoleLists.{added_bay, added_log, added_hook, few_bays, last_snoc, next_whole, next_below}
use Rattle.role_threads.proofs.role.part_roles.Goals as goal

pub push_reserved-requires : goal.push_reserved-requires
push_reserved-requires g c =
    let i = c.loop-role.invariant in
    let lt = next_below c.args.all.items c.loop-role.yielded _ _ c.in-Some.role i.whole c.in-Some.ensures.steps.0 in
    let few = few_bays c.loop-role.yielded in
    omega (arith, lt, few, ap length i.bays, i.room, c.loop-role.bays.ok.0)

pub loop-role-preserved-in-Bay : goal.loop-role-preserved-in-Bay
loop-role-preserved-in-Bay g c =
    let i = c.loop-role.invariant in
    let a = added_bay c.loop-role.yielded (c.loop-role.yielded ++ c.in-Some.role ∷ []) c.in-Bay.bay (ap (λ z. c.loop-role.yielded ++ z ∷ []) c.in-Bay.is) in
    record {
      whole = next_whole c.args.all.items c.loop-role.yielded _ _ c.in-Some.role i.whole c.in-Some.ensures.steps.0;
      bays = c.push_reserved.ensures.items ∙ (ap (λ z. z ++ c.in-Bay.bay ∷ []) i.bays ∙ sym a.0);
      log = i.log ∙ ap (last_of None) (sym a.1);
      hook = i.hook ∙ ap (last_of None) (sym a.2);
      room = search (rules, c.push_reserved.ensures.capacity, i.room);
    }

pub loop-role-preserved-in-Log : goal.loop-role-preserved-in-Log
loop-role-preserved-in-Log g c =
    let i = c.loop-role.invariant in
    let a = added_log c.loop-role.yielded (c.loop-role.yielded ++ c.in-Some.role ∷ []) c.in-Log.drain (ap (λ z. c.loop-role.yielded ++ z ∷ []) c.in-Log.is) in
    record {
      whole = next_whole c.args.all.items c.loop-role.yielded _ _ c.in-Some.role i.whole c.in-Some.ensures.steps.0;
      bays = i.bays ∙ sym a.0;
      log = sym (ap (last_of None) a.1 ∙ last_snoc None (logs_in c.loop-role.yielded) c.in-Log.drain);
      hook = i.hook ∙ ap (last_of None) (sym a.2);
      room = i.room;
    }

pub loop-role-preserved : goal.loop-role-preserved
loop-role-preserved g c =
    let i = c.loop-role.invariant in
    let a = added_hook c.loop-role.yielded (c.loop-role.yielded ++ c.in-Some.role ∷ []) c.in-Hook.drain (ap (λ z. c.loop-role.yielded ++ z ∷ []) c.in-Hook.is) in
    record {
      whole = next_whole c.args.all.items c.loop-role.yielded _ _ c.in-Some.role i.whole c.in-Some.ensures.steps.0;
      bays = i.bays ∙ sym a.0;
      log = i.log ∙ ap (last_of None) (sym a.1);
      hook = sym (ap (last_of None) a.2 ∙ last_snoc None (hooks_in c.loop-role.yielded) c.in-Hook.drain);
      room = i.room;
    }
