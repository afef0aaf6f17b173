use Rattle.std.proofs.Common.{refl}
use Rattle.front_base.specs.Moment.{date_text}
use Rattle.front_base.proofs.Padding.{padded_two, padded_four}
use Rattle.front_base.proofs.moment.date_bytes.Goals as goal

pub returns : goal.returns
unfolding date_text
returns c = rw (
  padded_four c.args.year c.requires.year,
  padded_two c.args.month c.requires.month,
  padded_two c.args.day c.requires.day,
  c.digit.ensures,
  c.digit-2.ensures,
  c.digit-3.ensures,
  c.digit-4.ensures,
  c.digit-5.ensures,
  c.digit-6.ensures,
  c.digit-7.ensures,
  c.digit-8.ensures,
) refl
