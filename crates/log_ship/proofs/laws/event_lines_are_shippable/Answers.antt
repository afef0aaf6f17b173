use Rattle.std.proofs.Common.{inr, refl}
use Rattle.log_ship.proofs.laws.event_lines_are_shippable.Goals as goal

pub returns : goal.returns
returns c e fits plain = inr (record { event = e; fits = fits; plain = plain; line_is = refl })
