use Rattle.std.proofs.Common.{◌≡◌, []}
use Rattle.model_requests.proofs.BeginLemmas.{bare_as}
use Rattle.model_requests.proofs.beginning.bare_open.Goals as goal
use Rattle.model_sinks.specs.Fixed.{setup_of}

pub returns : goal.returns
returns c =
    let judged = rw c.settings.ensures.is at c.in_ok-judged.ensures in
    let none : c.new-2.result ≡ [] = cc in
    λ keep k. bare_as (setup_of c.args.setup.now keep) k c.args.id c.args.peer c.args.request.now c.args.moment
    c.in_ok-judged.judged _ _ none c.requires judged c.in_ok-judged_exchange.ensures
