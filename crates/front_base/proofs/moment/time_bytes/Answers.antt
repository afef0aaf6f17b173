use Rattle.std.proofs.Common.{refl}
use Rattle.front_base.specs.Moment.{time_text}
use Rattle.front_base.proofs.Padding.{padded_two, padded_six}
use Rattle.front_base.proofs.moment.time_bytes.Goals as goal

pub returns : goal.returns
unfolding time_text
returns c = rw (
  padded_two c.args.hour c.requires.hour,
  padded_two c.args.minute c.requires.minute,
  padded_two c.args.second c.requires.second,
  padded_six c.args.fraction c.requires.fraction,
  c.digit.ensures,
  c.digit-2.ensures,
  c.digit-3.ensures,
  c.digit-4.ensures,
  c.digit-5.ensures,
  c.digit-6.ensures,
  c.digit-7.ensures,
  c.digit-8.ensures,
  c.digit-9.ensures,
  c.digit-10.ensures,
  c.digit-11.ensures,
  c.digit-12.ensures,
) refl
