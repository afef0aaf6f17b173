use Rattle.std.proofs.Common.{refl}
use Rattle.event_members.specs.TextMembers.{user_at}
use Rattle.event_members.proofs.user.user_of.Goals as goal

pub returns : goal.returns
unfolding user_at
returns c =
    rw (c.in_ok-inside.ensures, c.in_ok-name.ensures, c.in_ok-uid.ensures, c.in_ok-groups.ensures, c.in_ok-rest.ensures) refl
