use Rattle.std.proofs.Common.{◌∙◌}
use Rattle.token_users.proofs.rows.fault_of.Goals as goal

pub unreachable-requires : goal.unreachable-requires
unreachable-requires c =
    c.requires (λ e is. c.in_default.not-Io e (c.into_kind.ensures ∙ is)) (λ is. c.in_default.not-OutOfMemory (c.into_kind.ensures ∙ is))
