use Rattle.std.proofs.Common.{sym, subst, ◌<◌}
use Rattle.std.specs.Prelude.{IsTrue}
use Rattle.body_frames.specs.Machine.{is_sound, most_left}
use Rattle.body_frames.proofs.MachineLemmas.{sound_step, falls_step, framing_open}
use Rattle.body_frames.proofs.place.step.Goals as goal

pub returns-clause-sound : goal.returns-clause-sound
returns-clause-sound c =
    subst (λ p. IsTrue (is_sound p)) (sym c.move_on.ensures)
    (sound_step c.args.place.now c.args.b c.requires.sound (framing_open c.args.place.now c.requires.framing))

pub returns-clause-falls : goal.returns-clause-falls
returns-clause-falls c =
    subst (λ p. most_left p < most_left c.args.place.now) (sym c.move_on.ensures)
    (falls_step c.args.place.now c.args.b c.requires.sound (framing_open c.args.place.now c.requires.framing))
