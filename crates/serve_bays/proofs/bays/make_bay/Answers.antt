use Rattle.std.proofs.Common.{◌∷◌, []}
use Rattle.serve_bays.proofs.CallLemmas.{on_err}
use Rattle.front_plants.specs.declared.call.PlantCall.TheVariants.{Dial, Door, Clock, Diary}
use Rattle.serve_bays.proofs.bays.make_bay.Goals as goal

pub returns-clause-called : goal.returns-clause-called
returns-clause-called g c =
    let join = c.calls_join.ensures.join in
    let o = c.args.options.now in
    join _ _ _ (Dial c.args.lanes.bay ∷ []) (Door o.listen c.args.lanes.bay o.connections ∷ Clock ∷ Diary ∷ []) c.in_ok-dial.ensures.called.made
    (join _ _ _ (Door o.listen c.args.lanes.bay o.connections ∷ []) (Clock ∷ Diary ∷ []) c.in_ok-door.ensures.called.made
    (join _ _ _ (Clock ∷ []) (Diary ∷ []) c.clock-clock.ensures.called.made c.diary-diary.ensures.called.made))

pub returns-in_err-door-clause-stopped : goal.returns-in_err-door-clause-stopped
returns-in_err-door-clause-stopped g c =
    let part = c.calls_in_part.ensures in
    let o = c.args.options.now in
    let door = Door o.listen c.args.lanes.bay o.connections in
    on_err _ _ (part.more _ _ _ (Dial c.args.lanes.bay ∷ []) (door ∷ Clock ∷ Diary ∷ []) c.in_ok-dial.ensures.called.made
    (part.less _ _ (door ∷ []) (Clock ∷ Diary ∷ []) (part.whole _ _ (door ∷ []) c.in_err-door.ensures.called.made)))
