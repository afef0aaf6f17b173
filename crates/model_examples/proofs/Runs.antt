-- The examples, run to their ends.
use Rattle.std.proofs.Common.{◌≡◌, ◌≢◌, ℕ, true, false, List, [], ◌∷◌, map, refl, ap, arith}
use Rattle.std.specs.Prelude.{bytes_eq}
use lib.Utf8.{encode}
use Rattle.std.specs.Fmt.{digits}
use Rattle.std.specs.Str.{chars, is_utf8}
use Rattle.audit_core.specs.Answer.{link_status}
use Rattle.audit_core.specs.Errand.{act_in, errand_in, info_in, local_in, user_in}
use Rattle.audit_core.specs.Unread.{is_unread}
use Rattle.audit_core.specs.Exchange.{decision_in}
use Rattle.event_text.specs.Line.{line_text, event_members, request_members, reply_members, time_members}
use Rattle.front_base.specs.AuditId.{audit_id_text}
use Rattle.front_base.specs.Civil.{year_from, month_from, year_of_day}
use Rattle.front_base.specs.Ends.{without_end, without_start}
use Rattle.front_base.specs.Info.{is_long_running}
use Rattle.front_base.specs.Moment.{date_text, time_text, moment_text}
use Rattle.http_head.specs.Name.{first_value}
use Rattle.local_replies.specs.Paths.{behind, local_of}
use Rattle.log_sink.specs.Texts.{log_text}
use Rattle.percent_encoding.specs.Percent.{percent_decode}
use Rattle.policy_rules.specs.Matching.{matches, matches_resource, matches_url, matches_user, is_url, is_resource, element_matches}
use Rattle.policy_rules.specs.Policy.{first, first_from}
use Rattle.request_info.specs.Parts.{from_first, to_last, parts_of}
use Rattle.request_info.specs.Target.{are_escapes_whole}
use Rattle.service_endpoints.specs.Find.{last_address}
use Rattle.stage_event.specs.Events.{event}
use Rattle.stage_event.specs.declared.facts.Kept.{Kept}
use Rattle.token_users.specs.Act.{act_of}
use Rattle.model_worlds.specs.Requests.{wish_of}
use Rattle.model_worlds.specs.Steps
use Rattle.model_worlds.specs.Worlds
use Rattle.uuid.specs.Text.{by_index}
use Rattle.model_examples.specs.Served.{served, served_steps}

pub all_taken : (body : List ℕ) (reply : Kept)
    → map Worlds.is_taken (Steps.answers_to served (Steps.start 1) (served_steps 200 body reply))
    ≡ true ∷ true ∷ true ∷ true ∷ true ∷ true ∷ true ∷ true ∷ []
unfolding encode digits chars is_utf8 without_end without_start percent_decode by_index errand_in local_in is_unread info_in user_in act_in act_of decision_in line_text event_members request_members reply_members time_members audit_id_text year_from month_from year_of_day is_long_running date_text time_text moment_text behind local_of first first_from matches matches_resource matches_url matches_user is_url is_resource element_matches first_value from_first to_last parts_of are_escapes_whole event last_address wish_of Steps.step Steps.due Steps.row_at Steps.change_refusal Steps.handling_at Steps.own_reply Worlds.shown_step
all_taken body reply = refl

pub other_taken : (body : List ℕ) (reply : Kept)
    → map Worlds.is_taken (Steps.answers_to served (Steps.start 1) (served_steps 403 body reply))
    ≡ true ∷ true ∷ true ∷ true ∷ true ∷ true ∷ true ∷ true ∷ []
unfolding encode digits chars is_utf8 without_end without_start percent_decode by_index errand_in local_in is_unread info_in user_in act_in act_of decision_in line_text event_members request_members reply_members time_members audit_id_text year_from month_from year_of_day is_long_running date_text time_text moment_text behind local_of first first_from matches matches_resource matches_url matches_user is_url is_resource element_matches first_value from_first to_last parts_of are_escapes_whole event last_address wish_of Steps.step Steps.due Steps.row_at Steps.change_refusal Steps.handling_at Steps.own_reply Worlds.shown_step
other_taken body reply = refl

pub bodies_alike : (body other : List ℕ) (reply text : Kept)
    → Worlds.Alike served (Steps.start 1) (Steps.start 1) (served_steps 200 body reply) (served_steps 200 other text)
unfolding encode digits chars is_utf8 without_end without_start percent_decode by_index errand_in local_in is_unread info_in user_in act_in act_of decision_in line_text event_members request_members reply_members time_members audit_id_text year_from month_from year_of_day is_long_running date_text time_text moment_text behind local_of first first_from matches matches_resource matches_url matches_user is_url is_resource element_matches first_value from_first to_last parts_of are_escapes_whole event last_address wish_of Steps.step Steps.due Steps.row_at Steps.change_refusal Steps.handling_at Steps.own_reply Worlds.shown_step
bodies_alike body other reply text = (refl, (refl, (refl, (refl, (refl, (refl, (refl, (refl, tt))))))))

-- the status that a Finish shows
shown_status : Steps.Move → ℕ
shown_status (Steps.BeginMove bay w moment) = 0
shown_status (Steps.FindMove bay seen) = 0
shown_status (Steps.OfferMove bay sink works) = 0
shown_status (Steps.StartedMove bay status moment) = 0
shown_status (Steps.FinishMove bay link reply moment) = link_status link
shown_status (Steps.ChangeMove bay) = 0
shown_status (Steps.TakeMove sink) = 0
shown_status (Steps.CutMove sink works) = 0

other_status : ◌≡◌ {A = ℕ} 200 403 → ⊥
other_status e = omega arith

pub not_alike : (body : List ℕ) (reply : Kept)
    → Worlds.Alike served (Steps.start 1) (Steps.start 1) (served_steps 200 body reply) (served_steps 403 body reply) → ⊥
unfolding encode digits chars is_utf8 without_end without_start percent_decode by_index errand_in local_in is_unread info_in user_in act_in act_of decision_in line_text event_members request_members reply_members time_members audit_id_text year_from month_from year_of_day is_long_running date_text time_text moment_text behind local_of first first_from matches matches_resource matches_url matches_user is_url is_resource element_matches first_value from_first to_last parts_of are_escapes_whole event last_address wish_of Steps.step Steps.due Steps.row_at Steps.change_refusal Steps.handling_at Steps.own_reply Worlds.shown_step shown_status
not_alike body reply h = other_status (ap shown_status h.1.1.1.0)

first_bytes : List (List ℕ) → List ℕ
first_bytes [] = []
first_bytes (bytes ∷ rest) = bytes

not_both : false ≡ true → ⊥
not_both e = cc

pub other_bytes : (body : List ℕ) (reply : Kept)
    → Worlds.sink_bytes log_text (Steps.after_steps served (Steps.start 1) (served_steps 200 body reply)).shared.log
    ≢ Worlds.sink_bytes log_text (Steps.after_steps served (Steps.start 1) (served_steps 403 body reply)).shared.log
unfolding encode digits chars is_utf8 without_end without_start percent_decode by_index errand_in local_in is_unread info_in user_in act_in act_of decision_in line_text event_members request_members reply_members time_members audit_id_text year_from month_from year_of_day is_long_running date_text time_text moment_text behind local_of first first_from matches matches_resource matches_url matches_user is_url is_resource element_matches first_value from_first to_last parts_of are_escapes_whole event last_address wish_of Steps.step Steps.due Steps.row_at Steps.change_refusal Steps.handling_at Steps.own_reply Worlds.shown_step first_bytes
other_bytes body reply e =
    not_both
    (ap
    (λ v. bytes_eq (first_bytes v) (first_bytes (Worlds.sink_bytes log_text (Steps.after_steps served (Steps.start 1) (served_steps 403 body reply)).shared.log)))
    e)
