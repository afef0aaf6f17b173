use Rattle.std.proofs.Common.{◌≡◌, Err, None, Some, ap, refl}
use Rattle.webhook_sink.specs.Hooks.{hook_named}
use Rattle.serve_config.specs.Serve.{webhook_at}
use Rattle.serve_config.proofs.sinks.check_hook.Goals as goal

pub returns-in-Ok : goal.returns-in-Ok
unfolding webhook_at
returns-in-Ok c =
    let e : hook_named c.args.url.now ≡ Some c.in-Ok.hook = c.in-Ok.ensures.ok in
    rw e c.check_own.ensures

pub returns-in_ok-copy_of-in-Err-BadUrl : goal.returns-in_ok-copy_of-in-Err-BadUrl
unfolding webhook_at
returns-in_ok-copy_of-in-Err-BadUrl c =
    let e : hook_named c.args.url.now ≡ None = c.in-Err-BadUrl.ensures.bad (ap Err c.in-Err-BadUrl.field-0-is) in
    rw (e, c.in_ok-copy_of-in-Err-BadUrl.ensures) refl
