-- Two runs whose bodies differ in managed fields alone, run to their ends.
use Rattle.std.proofs.Common.{◌≡◌, ℕ, Bool, true, List, [], ◌∷◌, map, refl, ap, sym, ◌∙◌, subst}
use lib.Utf8.{encode}
use Rattle.std.specs.Fmt.{digits}
use Rattle.std.specs.Str.{chars, is_utf8}
use Rattle.audit_core.specs.Errand.{act_in, errand_in, info_in, local_in, user_in}
use Rattle.audit_core.specs.Unread.{is_unread}
use Rattle.audit_core.specs.Exchange.{decision_in}
use Rattle.event_text.specs.Line.{line_text, event_members, request_members, reply_members, time_members}
use Rattle.front_base.specs.AuditId.{audit_id_text}
use Rattle.front_base.specs.Civil.{year_from, month_from, year_of_day}
use Rattle.front_base.specs.Ends.{without_end, without_start}
use Rattle.front_base.specs.Info.{is_long_running}
use Rattle.front_base.specs.Moment.{date_text, time_text, moment_text}
use Rattle.http_head.specs.Name.{first_value}
use Rattle.local_replies.specs.Paths.{behind, local_of}
use Rattle.percent_encoding.specs.Percent.{percent_decode}
use Rattle.policy_rules.specs.Matching.{matches, matches_resource, matches_url, matches_user, is_url, is_resource, element_matches}
use Rattle.policy_rules.specs.Policy.{first, first_from}
use Rattle.request_info.specs.Parts.{from_first, to_last, parts_of}
use Rattle.request_info.specs.Target.{are_escapes_whole}
use Rattle.service_endpoints.specs.Find.{last_address}
use Rattle.stage_event.specs.Events.{event}
use Rattle.token_users.specs.Act.{act_of}
use Rattle.model_worlds.specs.Requests.{wish_of}
use Rattle.model_worlds.specs.Steps
use Rattle.model_worlds.specs.Worlds
use Rattle.uuid.specs.Text.{by_index}
use Rattle.stage_event.specs.declared.facts.Kept.{Kept}
use Rattle.stage_event.specs.declared.facts.Kept.TheVariants.{Compact}
use Rattle.model_worlds.specs.Requests.{Wish}
use Rattle.model_worlds.specs.Setup.{Setup}
use Rattle.model_worlds.specs.declared.state.State.{State}
use Rattle.model_worlds.specs.declared.step.Step.{Step}
use Rattle.model_worlds.specs.declared.step.Step.TheVariants as step
use Rattle.model_worlds.specs.declared.step.StepAnswer.{StepAnswer}
use Rattle.std.specs.Str.Iter.{HasSubslice}
use Rattle.model_examples.proofs.Texts.{begins_with, has_text, stands_in}
use Rattle.model_examples.specs.Served.{log_of}
use Rattle.model_examples.proofs.Bodies.{OneKept, with_kept, without_kept}
use Rattle.model_examples.specs.Managed.{KeepsAll, pruned, with_fields, without_fields, object_request, object_steps, shown_body}

abbrev pub peer : List ℕ
peer = 10 ∷ 0 ∷ 0 ∷ 7 ∷ []

-- the steps after the first
tail_of : List Step → List Step
tail_of [] = []
tail_of (own ∷ more) = more

abbrev rest : List Step
rest = tail_of (object_steps [])

-- what is seen of a request of whose body that is kept
wish_with : (Bool → List ℕ → Kept) → List ℕ → Kept → Wish
wish_with keep body kept = record (wish_of (pruned keep) peer (object_request body) 0) { body = kept }

wish_is : (keep : Bool → List ℕ → Kept) (body : List ℕ)
    → wish_of (pruned keep) peer (object_request body) 0 ≡ wish_with keep body (keep true body)
unfolding wish_with encode digits chars is_utf8 without_end without_start percent_decode errand_in local_in is_unread info_in user_in act_in act_of decision_in behind local_of first first_from matches matches_resource matches_url matches_user is_url is_resource element_matches first_value from_first to_last parts_of are_escapes_whole wish_of
wish_is keep body = refl

-- what is left and answered where the first step begins with this
answers_from : (Bool → List ℕ → Kept) → Wish → List StepAnswer
answers_from keep w =
    (Steps.move (pruned keep) (Steps.start 1) (Steps.BeginMove 0 w 0)).answer
    ∷ Steps.answers_to (pruned keep) (Steps.move (pruned keep) (Steps.start 1) (Steps.BeginMove 0 w 0)).state rest

answers_are : (keep : Bool → List ℕ → Kept) (body : List ℕ)
    → Steps.answers_to (pruned keep) (Steps.start 1) (object_steps body)
    ≡ answers_from keep (wish_of (pruned keep) peer (object_request body) 0)
unfolding answers_from tail_of Steps.step
answers_are keep body = refl

answers_with : (keep : Bool → List ℕ → Kept)
    → map Worlds.is_taken (answers_from keep (wish_with keep with_fields (Compact without_fields)))
    ≡ true ∷ true ∷ true ∷ true ∷ true ∷ true ∷ true ∷ true ∷ []
unfolding answers_from tail_of wish_with encode digits chars is_utf8 without_end without_start percent_decode by_index errand_in local_in is_unread info_in user_in act_in act_of decision_in line_text event_members request_members reply_members time_members audit_id_text year_from month_from year_of_day is_long_running date_text time_text moment_text behind local_of first first_from matches matches_resource matches_url matches_user is_url is_resource element_matches first_value from_first to_last parts_of are_escapes_whole event last_address wish_of Steps.step Steps.due Steps.row_at Steps.change_refusal Steps.handling_at Steps.own_reply Worlds.shown_step
answers_with keep = refl

pub managed_taken : OneKept → (keep : Bool → List ℕ → Kept) → KeepsAll keep
    → map Worlds.is_taken (Steps.answers_to (pruned keep) (Steps.start 1) (object_steps with_fields))
    ≡ true ∷ true ∷ true ∷ true ∷ true ∷ true ∷ true ∷ true ∷ []
managed_taken one keep keeps =
    ap (map Worlds.is_taken) (answers_are keep with_fields)
    ∙ ap (λ w. map Worlds.is_taken (answers_from keep w)) (wish_is keep with_fields)
    ∙ ap (λ k. map Worlds.is_taken (answers_from keep (wish_with keep with_fields k))) (with_kept one keep keeps)
    ∙ answers_with keep

-- ---- what is written

state_from : (Bool → List ℕ → Kept) → Wish → State
state_from keep w =
    Steps.after_steps (pruned keep) (Steps.move (pruned keep) (Steps.start 1) (Steps.BeginMove 0 w 0)).state rest

state_is : (keep : Bool → List ℕ → Kept) (body : List ℕ)
    → Steps.after_steps (pruned keep) (Steps.start 1) (object_steps body)
    ≡ state_from keep (wish_of (pruned keep) peer (object_request body) 0)
unfolding state_from tail_of Steps.step
state_is keep body = refl

text_with : (keep : Bool → List ℕ → Kept)
    → HasSubslice (log_of (state_from keep (wish_with keep with_fields (Compact without_fields)))) shown_body
unfolding state_from tail_of wish_with encode digits chars is_utf8 without_end without_start percent_decode by_index errand_in local_in is_unread info_in user_in act_in act_of decision_in line_text event_members request_members reply_members time_members audit_id_text year_from month_from year_of_day is_long_running date_text time_text moment_text behind local_of first first_from matches matches_resource matches_url matches_user is_url is_resource element_matches first_value from_first to_last parts_of are_escapes_whole event last_address wish_of Steps.step Steps.due Steps.row_at Steps.change_refusal Steps.handling_at Steps.own_reply Worlds.shown_step begins_with has_text
text_with keep = stands_in shown_body (log_of (state_from keep (wish_with keep with_fields (Compact without_fields)))) refl

pub body_shown : OneKept → (keep : Bool → List ℕ → Kept) → KeepsAll keep
    → HasSubslice (log_of (Steps.after_steps (pruned keep) (Steps.start 1) (object_steps with_fields))) shown_body
body_shown one keep keeps =
    subst
    (λ (s : State). HasSubslice (log_of s) shown_body)
    (sym (state_is keep with_fields
    ∙ ap (state_from keep) (wish_is keep with_fields ∙ ap (wish_with keep with_fields) (with_kept one keep keeps))))
    (text_with keep)

-- ---- the two runs

same_wish : (keep : Bool → List ℕ → Kept) (kept : Kept) → wish_with keep with_fields kept ≡ wish_with keep without_fields kept
unfolding wish_with encode digits chars is_utf8 without_end without_start percent_decode errand_in local_in is_unread info_in user_in act_in act_of decision_in behind local_of first first_from matches matches_resource matches_url matches_user is_url is_resource element_matches first_value from_first to_last parts_of are_escapes_whole wish_of
same_wish keep kept = refl

same_wishes : OneKept → (keep : Bool → List ℕ → Kept) → KeepsAll keep
    → wish_of (pruned keep) peer (object_request with_fields) 0 ≡ wish_of (pruned keep) peer (object_request without_fields) 0
same_wishes one keep keeps =
    wish_is keep with_fields
    ∙ ap (wish_with keep with_fields) (with_kept one keep keeps)
    ∙ same_wish keep (Compact without_fields)
    ∙ sym (ap (wish_with keep without_fields) (without_kept one keep keeps))
    ∙ sym (wish_is keep without_fields)

abbrev begin_with : List ℕ → Step
begin_with body = step.Begin 0 (object_request body) peer 0

same_states : OneKept → (keep : Bool → List ℕ → Kept) → KeepsAll keep
    → (Steps.step (pruned keep) (Steps.start 1) (begin_with with_fields)).state
    ≡ (Steps.step (pruned keep) (Steps.start 1) (begin_with without_fields)).state
unfolding Steps.step
same_states one keep keeps =
    ap (λ w. (Steps.move (pruned keep) (Steps.start 1) (Steps.BeginMove 0 w 0)).state) (same_wishes one keep keeps)

alike_self : (setup : Setup) (steps : List Step) (s : State) → Worlds.Alike setup s s steps steps
alike_self setup [] s = tt
alike_self setup (own ∷ more) s = (refl, alike_self setup more (Steps.step setup s own).state)

alike_same : (setup : Setup) (steps : List Step) (s t : State) → s ≡ t → Worlds.Alike setup s t steps steps
alike_same setup steps s t e = subst (λ (v : State). Worlds.Alike setup s v steps steps) e (alike_self setup steps s)

pub rest_alike : OneKept → (keep : Bool → List ℕ → Kept) → KeepsAll keep
    → Worlds.shown_step (pruned keep) (Steps.start 1) (begin_with with_fields)
    ≡ Worlds.shown_step (pruned keep) (Steps.start 1) (begin_with without_fields)
    → Worlds.Alike (pruned keep) (Steps.start 1) (Steps.start 1) (object_steps with_fields) (object_steps without_fields)
unfolding tail_of
rest_alike one keep keeps first =
    (first, alike_same (pruned keep) rest _ _ (same_states one keep keeps))

pub same_errand : (keep : Bool → List ℕ → Kept)
    → errand_in (pruned keep).set (object_request with_fields) 0 ≡ errand_in (pruned keep).set (object_request without_fields) 0
unfolding encode digits chars is_utf8 without_end without_start percent_decode errand_in local_in is_unread info_in user_in act_in act_of decision_in behind local_of first first_from matches matches_resource matches_url matches_user is_url is_resource element_matches first_value from_first to_last parts_of are_escapes_whole
same_errand keep = refl

pub omits_managed : (keep : Bool → List ℕ → Kept) → (decision_in (pruned keep).set (object_request with_fields)).omit_managed ≡ true
unfolding encode digits chars is_utf8 without_end without_start percent_decode errand_in local_in is_unread info_in user_in act_in act_of decision_in behind local_of first first_from matches matches_resource matches_url matches_user is_url is_resource element_matches first_value from_first to_last parts_of are_escapes_whole
omits_managed keep = refl
