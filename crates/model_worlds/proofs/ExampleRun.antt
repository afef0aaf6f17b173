-- The example runs to its end.
use Rattle.std.proofs.Common.{◌≡◌, ℕ, true, List, [], ◌∷◌, map, length, refl}
use lib.Utf8.{encode}
use Rattle.std.specs.Fmt.{digits}
use Rattle.std.specs.Str.{chars, is_utf8}
use Rattle.audit_core.specs.Errand.{act_in, errand_in, info_in, local_in, user_in}
use Rattle.audit_core.specs.Unread.{is_unread}
use Rattle.audit_core.specs.Exchange.{decision_in}
use Rattle.event_text.specs.Line.{line_text, event_members, request_members, reply_members, time_members}
use Rattle.front_base.specs.AuditId.{audit_id_text}
use Rattle.front_base.specs.Civil.{year_from, month_from, year_of_day}
use Rattle.front_base.specs.Ends.{without_end, without_start}
use Rattle.front_base.specs.Info.{is_long_running}
use Rattle.front_base.specs.Moment.{date_text, time_text, moment_text}
use Rattle.local_replies.specs.Paths.{behind, local_of}
use Rattle.percent_encoding.specs.Percent.{percent_decode}
use Rattle.policy_rules.specs.Matching.{matches, matches_resource, matches_url, matches_user, is_url}
use Rattle.policy_rules.specs.Policy.{first, first_from}
use Rattle.http_head.specs.Name.{first_value}
use Rattle.request_info.specs.Parts.{from_first, to_last, parts_of}
use Rattle.request_info.specs.Target.{are_escapes_whole}
use Rattle.service_endpoints.specs.Find.{last_address}
use Rattle.stage_event.specs.Events.{event}
use Rattle.token_users.specs.Act.{act_of}
use Rattle.uuid.specs.Text.{by_index}
use Rattle.model_worlds.specs.Example.{example, example_steps}
use Rattle.model_worlds.specs.Requests.{wish_of}
use Rattle.model_worlds.specs.Steps
use Rattle.model_worlds.specs.Worlds.{is_taken}

pub all_taken : (body : List ℕ)
    → map is_taken (Steps.answers_to example (Steps.start 1) (example_steps body))
    ≡ true ∷ true ∷ true ∷ true ∷ true ∷ true ∷ true ∷ true ∷ []
unfolding encode digits chars is_utf8 without_end without_start percent_decode by_index errand_in local_in is_unread info_in user_in act_in act_of decision_in line_text event_members request_members reply_members time_members audit_id_text year_from month_from year_of_day is_long_running date_text time_text moment_text behind local_of first first_from matches matches_resource matches_url matches_user is_url first_value from_first to_last parts_of are_escapes_whole event last_address wish_of Steps.step Steps.due Steps.row_at Steps.change_refusal Steps.handling_at Steps.own_reply
all_taken body = refl

pub two_lines : (body : List ℕ)
    → map (λ t. length t.lines) (Steps.after_steps example (Steps.start 1) (example_steps body)).shared.log.tries ≡ 2 ∷ []
unfolding encode digits chars is_utf8 without_end without_start percent_decode by_index errand_in local_in is_unread info_in user_in act_in act_of decision_in line_text event_members request_members reply_members time_members audit_id_text year_from month_from year_of_day is_long_running date_text time_text moment_text behind local_of first first_from matches matches_resource matches_url matches_user is_url first_value from_first to_last parts_of are_escapes_whole event last_address wish_of Steps.step Steps.due Steps.row_at Steps.change_refusal Steps.handling_at Steps.own_reply
two_lines body = refl
