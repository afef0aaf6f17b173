use Rattle.event_members.proofs.MemberLemmas.{comma_skipped, value_again, value_missed, text_member_again, text_if_again}
use Rattle.event_members.proofs.StringLemmas.{string_again}
use Rattle.event_members.proofs.UserLemmas.{user_again, impersonated_again, object_ref_again}
use Rattle.event_members.proofs.ValueLemmas.{peer_again, code_again, level_member_again, stage_member_again}
use Rattle.event_members.proofs.laws.members_read_back.Goals as goal

pub returns-clause-commas : goal.returns-clause-commas
returns-clause-commas c = record { comma = comma_skipped; value = value_again; missed = value_missed }

pub returns-clause-texts : goal.returns-clause-texts
returns-clause-texts c = record { string = string_again; member = text_member_again; if_any = text_if_again }

pub returns-clause-objects : goal.returns-clause-objects
returns-clause-objects c = record { user = user_again; impersonated = impersonated_again; object_ref = object_ref_again }

pub returns-clause-values : goal.returns-clause-values
returns-clause-values c = record { peer = peer_again; code = code_again; level = level_member_again; stage = stage_member_again }
