-- A request that acts as another user, run to its end.
use Rattle.std.proofs.Common.{◌≡◌, ◌≢◌, ℕ, true, false, List, [], ◌∷◌, map, Option, Some, None, refl, ap}
use Rattle.std.specs.Prelude.{bytes_eq, codes}
use Rattle.std.specs.Str.Iter.{HasSubslice}
use lib.Utf8.{encode}
use Rattle.std.specs.Fmt.{digits}
use Rattle.std.specs.Str.{chars, is_utf8}
use Rattle.audit_core.specs.Errand.{act_in, errand_in, info_in, local_in, user_in}
use Rattle.audit_core.specs.Unread.{is_unread}
use Rattle.audit_core.specs.Exchange.{decision_in}
use Rattle.event_text.specs.Line.{line_text, event_members, request_members, reply_members, time_members}
use Rattle.front_base.specs.AuditId.{audit_id_text}
use Rattle.front_base.specs.Civil.{year_from, month_from, year_of_day}
use Rattle.front_base.specs.Ends.{without_end, without_start}
use Rattle.front_base.specs.Info.{is_long_running}
use Rattle.front_base.specs.Moment.{date_text, time_text, moment_text}
use Rattle.http_head.specs.Name.{first_value}
use Rattle.local_replies.specs.Paths.{behind, local_of}
use Rattle.percent_encoding.specs.Percent.{percent_decode}
use Rattle.policy_rules.specs.Matching.{matches, matches_resource, matches_url, matches_user, is_url, is_resource, element_matches}
use Rattle.policy_rules.specs.Policy.{first, first_from}
use Rattle.request_info.specs.Parts.{from_first, to_last, parts_of}
use Rattle.request_info.specs.Target.{are_escapes_whole}
use Rattle.service_endpoints.specs.Find.{last_address}
use Rattle.stage_event.specs.Events.{event}
use Rattle.token_users.specs.Act.{act_of}
use Rattle.model_worlds.specs.Requests.{wish_of}
use Rattle.model_worlds.specs.Steps
use Rattle.model_worlds.specs.Worlds
use Rattle.uuid.specs.Text.{by_index}
use Rattle.token_users.specs.Places.{last_user}
use Rattle.front_base.specs.declared.user.User.{User}
use Rattle.model_examples.proofs.Texts.{begins_with, has_text, stands_in}
use Rattle.model_examples.specs.Acting.{rooted, acting_steps, acting_log}

pub acting_taken : map Worlds.is_taken (Steps.answers_to rooted (Steps.start 1) (acting_steps (codes "ann")))
    ≡ true ∷ true ∷ true ∷ true ∷ true ∷ true ∷ true ∷ true ∷ []
unfolding encode digits chars is_utf8 without_end without_start percent_decode by_index errand_in local_in is_unread info_in user_in act_in act_of last_user decision_in line_text event_members request_members reply_members time_members audit_id_text year_from month_from year_of_day is_long_running date_text time_text moment_text behind local_of first first_from matches matches_resource matches_url matches_user is_url is_resource element_matches first_value from_first to_last parts_of are_escapes_whole event last_address wish_of Steps.step Steps.due Steps.row_at Steps.change_refusal Steps.handling_at Steps.own_reply Worlds.shown_step
acting_taken = refl

-- ---- the texts of the log

pub user_stands : HasSubslice (acting_log (codes "ann")) (codes "\"user\":{\"username\":\"root\"")
unfolding encode digits chars is_utf8 without_end without_start percent_decode by_index errand_in local_in is_unread info_in user_in act_in act_of last_user decision_in line_text event_members request_members reply_members time_members audit_id_text year_from month_from year_of_day is_long_running date_text time_text moment_text behind local_of first first_from matches matches_resource matches_url matches_user is_url is_resource element_matches first_value from_first to_last parts_of are_escapes_whole event last_address wish_of Steps.step Steps.due Steps.row_at Steps.change_refusal Steps.handling_at Steps.own_reply Worlds.shown_step begins_with has_text
user_stands = stands_in (codes "\"user\":{\"username\":\"root\"") (acting_log (codes "ann")) refl

pub acting_stands : HasSubslice (acting_log (codes "ann")) (codes "\"impersonatedUser\":{\"username\":\"ann\"")
unfolding encode digits chars is_utf8 without_end without_start percent_decode by_index errand_in local_in is_unread info_in user_in act_in act_of last_user decision_in line_text event_members request_members reply_members time_members audit_id_text year_from month_from year_of_day is_long_running date_text time_text moment_text behind local_of first first_from matches matches_resource matches_url matches_user is_url is_resource element_matches first_value from_first to_last parts_of are_escapes_whole event last_address wish_of Steps.step Steps.due Steps.row_at Steps.change_refusal Steps.handling_at Steps.own_reply Worlds.shown_step begins_with has_text
acting_stands = stands_in (codes "\"impersonatedUser\":{\"username\":\"ann\"") (acting_log (codes "ann")) refl

-- ---- another user

name_or : Option User → List ℕ
name_or None = []
name_or (Some user) = user.name

-- as whom the request of a Begin acts
acting_name : Steps.Move → List ℕ
acting_name (Steps.BeginMove bay w moment) = name_or w.acting
acting_name (Steps.FindMove bay seen) = []
acting_name (Steps.OfferMove bay sink works) = []
acting_name (Steps.StartedMove bay status moment) = []
acting_name (Steps.FinishMove bay link reply moment) = []
acting_name (Steps.ChangeMove bay) = []
acting_name (Steps.TakeMove sink) = []
acting_name (Steps.CutMove sink works) = []

not_both : false ≡ true → ⊥
not_both e = cc

other_name : codes "ann" ≡ codes "bob" → ⊥
other_name e = not_both (ap (λ name. bytes_eq name (codes "bob")) e)

pub not_alike : Worlds.Alike rooted (Steps.start 1) (Steps.start 1) (acting_steps (codes "ann")) (acting_steps (codes "bob")) → ⊥
unfolding encode digits chars is_utf8 without_end without_start percent_decode by_index errand_in local_in is_unread info_in user_in act_in act_of last_user decision_in line_text event_members request_members reply_members time_members audit_id_text year_from month_from year_of_day is_long_running date_text time_text moment_text behind local_of first first_from matches matches_resource matches_url matches_user is_url is_resource element_matches first_value from_first to_last parts_of are_escapes_whole event last_address wish_of Steps.step Steps.due Steps.row_at Steps.change_refusal Steps.handling_at Steps.own_reply Worlds.shown_step acting_name name_or
not_alike h = other_name (ap acting_name h.0)

pub other_bytes : acting_log (codes "ann") ≢ acting_log (codes "bob")
unfolding encode digits chars is_utf8 without_end without_start percent_decode by_index errand_in local_in is_unread info_in user_in act_in act_of last_user decision_in line_text event_members request_members reply_members time_members audit_id_text year_from month_from year_of_day is_long_running date_text time_text moment_text behind local_of first first_from matches matches_resource matches_url matches_user is_url is_resource element_matches first_value from_first to_last parts_of are_escapes_whole event last_address wish_of Steps.step Steps.due Steps.row_at Steps.change_refusal Steps.handling_at Steps.own_reply Worlds.shown_step
other_bytes e = not_both (ap (λ log. bytes_eq log (acting_log (codes "bob"))) e)
