use Rattle.std.proofs.Common.{◌≡◌, Err, None, ap, refl, true, is_some}
use Rattle.webhook_sink.specs.Hooks.{hook_named}
use Rattle.ship_command.specs.Ship.{webhook_at}
use Rattle.ship_command.proofs.ship.hook_url.Goals as goal

pub returns-in_ok-copy_of-in-Ok : goal.returns-in_ok-copy_of-in-Ok
unfolding webhook_at
returns-in_ok-copy_of-in-Ok c =
    let e : is_some (hook_named c.args.url.now) ≡ true = c.in-Ok.ensures.ok in
    rw (e, c.in_ok-copy_of-in-Ok.ensures) refl

pub returns-in_ok-copy_of-in-Err-BadUrl : goal.returns-in_ok-copy_of-in-Err-BadUrl
unfolding webhook_at
returns-in_ok-copy_of-in-Err-BadUrl c =
    let e : hook_named c.args.url.now ≡ None = c.in-Err-BadUrl.ensures.bad (ap Err c.in-Err-BadUrl.field-0-is) in
    rw (e, c.in_ok-copy_of-in-Err-BadUrl.ensures) refl
