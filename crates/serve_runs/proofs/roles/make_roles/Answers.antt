use Rattle.std.proofs.Common.{arith, ap, sym, subst, ◌∙◌, ◌≤◌, length, slice_get, IfSome}
use Rattle.audit_core.specs.declared.settings.Settings.{Settings}
use Rattle.front_base.specs.declared.line.TheConstants.{MOST_LINE_BYTES}
use Rattle.front_plants.specs.Fresh.{log_opens, hook_opens}
use Rattle.serve_bays.specs.LaneCalls.{CallsPart}
use Rattle.serve_bays.specs.Lanes.{LanesFor}
use Rattle.serve_roles.specs.Doors.{bay_handles}
use Rattle.serve_roles.specs.Ends.{log_lane}
use Rattle.serve_roles.specs.Ready.{TakesLines}
use Rattle.serve_bays.specs.Bays.{IsNewBay}
use Rattle.serve_bays.specs.BayCalls.{bays_calls}
use Rattle.truncate_backend.specs.Told.{Joined}
use Rattle.serve_runs.proofs.CallLemmas.{PartLaws, on_err, boot_calls, log_part, hook_part, bays_part}
use Rattle.serve_runs.proofs.RunLemmas.{lanes_take, lanes_count, image_count}
use Rattle.serve_runs.proofs.roles.make_roles.Goals as goal

pub make_bays-requires-clause-max : goal.make_bays-requires-clause-max
make_bays-requires-clause-max g c =
    subst (λ (z : Settings). z.max_event ≤ MOST_LINE_BYTES) (sym c.in_ok-shared.ensures.settings) c.requires.max

pub make_bays-requires-clause-few : goal.make_bays-requires-clause-few
make_bays-requires-clause-few g c = omega (arith, c.requires.routes, c.requires.options.few)

pub make_bays-requires-clause-counts : goal.make_bays-requires-clause-counts
make_bays-requires-clause-counts g c =
    let o = c.args.options.now in
    let l = c.in_ok-log_side.log_side in
    let h = c.in_ok-hook_side.hook_side in (
      lanes_count g.P.W.BatchSink g.P.K.Clock (log_opens g.P.Plant.opens) c.args.settings.log o.bays o.buffer c.in_ok-log_side.ensures.made.allots o.limits l.lanes.items l.drain c.in_ok-log_side.ensures.made.made ∙ sym c.requires.routes,
      lanes_count g.P.H.BatchSink g.P.K.Clock (hook_opens g.P.Plant.opens o.hook_url) c.args.settings.hook o.bays o.buffer c.in_ok-hook_side.ensures.made.allots o.limits h.lanes.items h.drain c.in_ok-hook_side.ensures.made.made ∙ sym c.requires.routes,
    )

pub make_bays-requires-clause-logs : goal.make_bays-requires-clause-logs
make_bays-requires-clause-logs g c = λ k.
    let o = c.args.options.now in
    let l = c.in_ok-log_side.log_side in
    subst (λ (z : Settings). IfSome (slice_get l.lanes.items k) (TakesLines k z.log)) (sym c.in_ok-shared.ensures.settings)
    (lanes_take g.P.W.BatchSink g.P.K.Clock (log_opens g.P.Plant.opens) c.args.settings.log o.bays o.buffer c.in_ok-log_side.ensures.made.allots o.limits l.lanes.items l.drain c.in_ok-log_side.ensures.made.made k)

pub make_bays-requires-clause-hooks : goal.make_bays-requires-clause-hooks
make_bays-requires-clause-hooks g c = λ k.
    let o = c.args.options.now in
    let h = c.in_ok-hook_side.hook_side in
    subst (λ (z : Settings). IfSome (slice_get h.lanes.items k) (TakesLines k z.hook)) (sym c.in_ok-shared.ensures.settings)
    (lanes_take g.P.H.BatchSink g.P.K.Clock (hook_opens g.P.Plant.opens o.hook_url) c.args.settings.hook o.bays o.buffer c.in_ok-hook_side.ensures.made.allots o.limits h.lanes.items h.drain c.in_ok-hook_side.ensures.made.made k)

pub returns-clause-made : goal.returns-clause-made
returns-clause-made g c =
    let o = c.args.options.now in
    let l = c.in_ok-log_side.log_side in
    let d = c.in_ok-hook_side.hook_side in
    let shared = c.in_ok-shared.shared in
    let bays = c.in_ok-bays.bays.items in
    let says = c.in_ok-bays.ensures in
    let h = bay_handles g.R.Routes g.P.L.Dial g.P.W.BatchSink g.P.H.BatchSink g.P.K.Clock g.P.Y.Diary g.P.D.Door
    g.P.D.C.Source g.P.D.C.ByteSink g.P.D.C.Conn in
    let due = c.in_ok-hook_side.ensures.due ∙ (c.in_ok-log_side.ensures.due ∙ c.in_ok-shared.ensures.plant.1) in
    let lm = c.in_ok-log_side.ensures.made in
    let hm = c.in_ok-hook_side.ensures.made in
    let bc = subst (λ n. Joined (g.P.Plant.tells c.side_lanes-2.new.plant).made (bays_calls o.listen o.connections 0 n) (g.P.Plant.tells c.make_bays.new.plant).made)
    c.requires.routes says.called in
    let join = c.calls_join.ensures.join in
    record {
      boot = shared.boot;
      log_allots = lm.allots;
      hook_allots = hm.allots;
      called = record {
        allotted = (lm.called.count, hm.called.count);
        made = join _ _ _ _ _ c.in_ok-shared.ensures.called (join _ _ _ _ _ lm.called.made (join _ _ _ _ _ hm.called.made bc));
      };
      count = sym (image_count log_lane bays) ∙ (ap length says.lanes.0
          ∙ lanes_count g.P.W.BatchSink g.P.K.Clock (log_opens g.P.Plant.opens) c.args.settings.log o.bays o.buffer c.in_ok-log_side.ensures.made.allots o.limits l.lanes.items l.drain c.in_ok-log_side.ensures.made.made);
      each = λ k.
          subst (λ q. IfSome (slice_get bays k) (λ role. IsNewBay h c.args.settings shared.boot (q k) k role)) due
          (subst (λ z. IfSome (slice_get bays k) (λ role. IsNewBay h z shared.boot ((g.P.Plant.tells c.side_lanes-2.new.plant).due k) k role)) c.in_ok-shared.ensures.settings
          (says.new k));
      routes = says.routes;
      log = subst (λ z. LanesFor g.P.W.BatchSink g.P.K.Clock (log_opens g.P.Plant.opens) c.args.settings.log o.bays o.buffer lm.allots o.limits z l.drain) (sym says.lanes.0) lm.made;
      hook = subst (λ z. LanesFor g.P.H.BatchSink g.P.K.Clock (hook_opens g.P.Plant.opens o.hook_url) c.args.settings.hook o.bays o.buffer hm.allots o.limits z d.drain) (sym says.lanes.1) hm.made;
    }

pub returns-clause-cause : goal.returns-clause-cause
returns-clause-cause g c =
    c.in_ok-bays.ensures.cause
    ∙ (c.in_ok-hook_side.ensures.cause ∙ (c.in_ok-log_side.ensures.cause ∙ c.in_ok-shared.ensures.plant.0))

pub returns-in_err-shared-clause-stopped : goal.returns-in_err-shared-clause-stopped
returns-in_err-shared-clause-stopped g c =
    let says = c.calls_in_part.ensures in
    let law : PartLaws = record { none = says.none; whole = says.whole; less = says.less; more = says.more } in
    let boot = c.in_err-shared.ensures.stopped in
    on_err _ _ (boot_calls law c.args.settings c.args.options.now boot.0 _ _ boot.1)

pub returns-in_err-log_side-clause-stopped : goal.returns-in_err-log_side-clause-stopped
returns-in_err-log_side-clause-stopped g c =
    let says = c.calls_in_part.ensures in
    let law : PartLaws = record { none = says.none; whole = says.whole; less = says.less; more = says.more } in
    on_err _ _ (log_part law c.args.settings c.args.options.now c.in_ok-shared.shared.boot _ _ _ c.in_ok-shared.ensures.called
    c.in_err-log_side.ensures.stopped)

pub returns-in_err-hook_side-clause-stopped : goal.returns-in_err-hook_side-clause-stopped
returns-in_err-hook_side-clause-stopped g c =
    let says = c.calls_in_part.ensures in
    let law : PartLaws = record { none = says.none; whole = says.whole; less = says.less; more = says.more } in
    on_err _ _ (hook_part law c.args.settings c.args.options.now c.in_ok-shared.shared.boot c.in_ok-log_side.ensures.made.allots _ _ _ _
    c.in_ok-shared.ensures.called c.in_ok-log_side.ensures.made.called c.in_err-hook_side.ensures.stopped)

pub returns-in_err-bays-clause-stopped : goal.returns-in_err-bays-clause-stopped
returns-in_err-bays-clause-stopped g c =
    let says = c.calls_in_part.ensures in
    let law : PartLaws = record { none = says.none; whole = says.whole; less = says.less; more = says.more } in
    let o = c.args.options.now in
    on_err _ _ (bays_part law c.args.settings o c.in_ok-shared.shared.boot c.in_ok-log_side.ensures.made.allots c.in_ok-hook_side.ensures.made.allots
    _ _ _ _ _ c.in_ok-shared.ensures.called c.in_ok-log_side.ensures.made.called c.in_ok-hook_side.ensures.made.called
    (subst (λ n. CallsPart (bays_calls o.listen o.connections 0 n) (g.P.Plant.tells c.side_lanes-2.new.plant).made (g.P.Plant.tells c.make_bays.new.plant).made)
    c.requires.routes c.in_err-bays.ensures.stopped))
