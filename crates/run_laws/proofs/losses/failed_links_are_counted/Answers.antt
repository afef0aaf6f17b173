use Rattle.std.proofs.Common.{◌∙◌, sym}
use Rattle.run_laws.proofs.LinkLemmas.{dial_counted, link_counted}
use Rattle.run_laws.proofs.losses.failed_links_are_counted.Goals as goal

pub returns-clause-dial : goal.returns-clause-dial
returns-clause-dial c set peer r m text n end x done e = dial_counted _ _ _ m.dial n.dial done.came done.sent (sym done.link_is ∙ e)

pub returns-clause-link : goal.returns-clause-link
returns-clause-link c set peer r m text n end x done e = link_counted _ _ _ m.dial n.dial done.came done.sent (sym done.link_is ∙ e)
