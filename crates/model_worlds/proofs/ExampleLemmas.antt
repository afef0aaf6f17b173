-- Which steps look the same, and which don't.
use Rattle.std.proofs.Common.{◌≡◌, ◌≢◌, ℕ, ◌≤◌, Bool, true, false, ◌&&◌, ◌||◌, List, [], length, Option, Some, None, refl, ap, sym, ◌∙◌}
use Rattle.std.specs.Prelude.{codes, bytes_eq}
use Rattle.std.specs.List.{list_any}
use Rattle.apiservice_table.specs.declared.change.Change.{Change}
use Rattle.audit_core.specs.Answer.{link_status}
use Rattle.audit_core.specs.Unread.{is_unread}
use Rattle.audit_core.specs.Errand.{errand_in, info_in, user_in, act_in, acting_in, other_of, act_refusal, first_errand, path_errand, route_errand, is_refused, is_unknown, is_upgrade, local_in, narrowed_if_any}
use Rattle.audit_core.specs.Exchange.{decision_in, agent_in}
use Rattle.audit_core.specs.Route.{route_of}
use Rattle.audit_core.specs.declared.errand.Errand.{Errand}
use Rattle.audit_core.specs.declared.errand.Errand.TheVariants as errand
use Rattle.audit_core.specs.declared.link_note.LinkNote.{LinkNote}
use Rattle.audit_core.specs.declared.link_note.LinkNote.TheVariants.{Whole}
use Rattle.audit_core.specs.declared.settings.Settings.{Settings}
use Rattle.front_base.specs.declared.info.Info.{Info}
use Rattle.front_base.specs.declared.level.Level.{Level}
use Rattle.front_base.specs.declared.level.Level.TheVariants as level
use Rattle.front_base.specs.declared.stage.Stage.TheVariants as stage
use Rattle.front_base.specs.declared.user.User.{User}
use Rattle.http_edge.specs.declared.request.Request.{Request}
use Rattle.http_head.specs.declared.request.Head.{Head}
use Rattle.json_prune.specs.Prune.{managed}
use Rattle.json_span.specs.Value.{Value, StandsFor}
use Rattle.local_replies.specs.Paths.{local_of}
use Rattle.local_replies.specs.declared.local.Local.{Local}
use Rattle.policy_rules.specs.Policy.{first}
use Rattle.policy_rules.specs.declared.decision.Decision.{Decision}
use Rattle.request_info.specs.Request.{info_of, audit_info}
use Rattle.stage_event.specs.Due.{request_due, reply_due}
use Rattle.stage_event.specs.Events.{event}
use Rattle.stage_event.specs.Kept.{IsKept}
use Rattle.stage_event.specs.Views.{or_own, shown, shown_if, no_info, no_user}
use Rattle.stage_event.specs.declared.facts.Facts.{Facts}
use Rattle.stage_event.specs.declared.facts.Kept.{Kept}
use Rattle.stage_event.specs.declared.facts.Kept.TheVariants.{NotAsked}
use Rattle.stage_event.specs.declared.keeping.TheConstants.{MOST_KEPT_BYTES}
use Rattle.token_users.specs.Act.{act_of}
use Rattle.token_users.specs.Who.{who, user_of}
use Rattle.token_users.specs.declared.acting.Act.{Act}
use Rattle.model_worlds.proofs.HidingLemmas.{both}
use Rattle.model_worlds.specs.Requests.{Wish, wish_of, kept_if, asked_by}
use Rattle.model_worlds.specs.Setup.{Setup}
use Rattle.model_worlds.specs.Steps.{Move, BeginMove, FindMove, OfferMove, StartedMove, FinishMove, ChangeMove, TakeMove, CutMove}
use Rattle.model_worlds.specs.Worlds
use Rattle.model_worlds.specs.declared.state.Open.{Open}
use Rattle.model_worlds.specs.declared.state.State.{State}
use Rattle.model_worlds.specs.declared.step.Step.TheVariants as step

-- ---- requests at level None

nothing_but : Level → Option Change → Wish
nothing_but l asked =
    record {
      level = l;
      target = [];
      info = no_info;
      user = no_user;
      acting = None;
      peer = [];
      agent = [];
      errand = errand.Refuse 0;
      asked = asked;
      is_head = false;
      managed = false;
      body = NotAsked;
    }

low_none : (w : Wish) → w.level ≡ level.None → Worlds.low_wish w.level w ≡ nothing_but level.None w.asked
unfolding nothing_but
low_none w e = ap (λ l. Worlds.low_wish l w) e ∙ ap (λ l. nothing_but l w.asked) e

pub none_alike : (setup : Setup) (s t : State) (bay moment : ℕ) (peer other : List ℕ) (r q : Request)
    → (decision_in setup.set r).level ≡ level.None → (decision_in setup.set q).level ≡ level.None
    → asked_by (errand_in setup.set r moment) ≡ asked_by (errand_in setup.set q moment)
    → Worlds.shown_step setup s (step.Begin bay r peer moment) ≡ Worlds.shown_step setup t (step.Begin bay q other moment)
unfolding Worlds.shown_step wish_of
none_alike setup s t bay moment peer other r q d e a =
    ap (λ w. BeginMove bay w moment)
    (low_none (wish_of setup peer r moment) d
    ∙ ap (nothing_but level.None) a
    ∙ sym (low_none (wish_of setup other q moment) e))

-- ---- requests with one head

head_user : Settings → Head → User
head_user set head = user_of (who set.tokens head)

head_info : Head → Info
head_info head = audit_info head.method head.target

head_act : Settings → Head → Act
head_act set head = act_of (who set.tokens head) head

head_decision : Settings → Head → Decision
head_decision set head = first set.policy (head_user set head) (head_info head)

head_level : Settings → Head → Level
head_level set head = (head_decision set head).level

-- what a request means that has this head, wants this and of whose body this is kept
wish_at : Setup → List ℕ → Head → Errand → Kept → Wish
wish_at setup peer head own kept =
    record {
      level = head_level setup.set head;
      target = head.target;
      info = head_info head;
      user = head_user setup.set head;
      acting = other_of (head_act setup.set head);
      peer = peer;
      agent = agent_in head.headers;
      errand = own;
      asked = asked_by own;
      is_head = bytes_eq head.method (codes "HEAD");
      managed = (head_decision setup.set head).omit_managed;
      body = kept;
    }

head_kept : Settings → Head → Kept → Kept
head_kept set head kept = kept_if (request_due (head_level set head) (head_info head)) kept

-- what is kept of a body after this head
keeps_after : Setup → Head → List ℕ → Kept
keeps_after setup head body = setup.keep (head_decision setup.set head).omit_managed body

by_head : (setup : Setup) (peer : List ℕ) (r : Request) (moment : ℕ)
    → wish_of setup peer r moment ≡ wish_at setup peer r.head (errand_in setup.set r moment) (head_kept setup.set r.head (keeps_after setup r.head r.body))
unfolding wish_of wish_at head_kept keeps_after head_level head_decision head_info head_user head_act decision_in user_in act_in info_in
by_head setup peer r moment = refl

same_shown : (b : Bool) (k j : Kept) → shown k ≡ shown j → shown_if b (kept_if b k) ≡ shown_if b (kept_if b j)
same_shown true k j e = e
same_shown false k j e = refl

-- two bodies of which events show the same
same_bodies : (l : Level) (w : Wish) (k j : Kept) → shown k ≡ shown j
    → Worlds.low_wish l (record w { level = l; body = kept_if (request_due l w.info) k })
    ≡ Worlds.low_wish l (record w { level = l; body = kept_if (request_due l w.info) j })
same_bodies level.None w k j e = refl
same_bodies level.Metadata w k j e = refl
same_bodies level.Request w k j e =
    ap (λ b. record w { level = level.Request; is_head = false; body = b }) (same_shown w.info.resource_request k j e)
same_bodies level.RequestResponse w k j e =
    ap
    (λ b. record w { level = level.RequestResponse; is_head = w.info.resource_request && w.is_head; body = b })
    (same_shown w.info.resource_request k j e)

-- at Metadata events show none
no_bodies : (l : Level) (w : Wish) (k j : Kept) → l ≡ level.Metadata
    → Worlds.low_wish l (record w { level = l; body = k }) ≡ Worlds.low_wish l (record w { level = l; body = j })
no_bodies l w k j e =
    ap (λ m. Worlds.low_wish m (record w { level = m; body = k })) e
    ∙ sym (ap (λ m. Worlds.low_wish m (record w { level = m; body = j })) e)

shown_wish : Wish → Wish
shown_wish w = Worlds.low_wish w.level w

shown_at : Setup → List ℕ → List ℕ → Head → Errand → Wish
shown_at setup peer body head own = shown_wish (wish_at setup peer head own (head_kept setup.set head (keeps_after setup head body)))

heads_alike : (setup : Setup) (peer : List ℕ) (r q : Request) (moment : ℕ) → r.head ≡ q.head
    → errand_in setup.set r moment ≡ errand_in setup.set q moment
    → shown_at setup peer r.body r.head (errand_in setup.set r moment) ≡ shown_at setup peer q.body r.head (errand_in setup.set r moment)
    → shown_wish (wish_of setup peer r moment) ≡ shown_wish (wish_of setup peer q moment)
unfolding shown_at
heads_alike setup peer r q moment h e b =
    ap shown_wish (by_head setup peer r moment)
    ∙ b
    ∙ both (shown_at setup peer q.body) h e
    ∙ sym (ap shown_wish (by_head setup peer q moment))

bodies_at : (setup : Setup) (peer body text : List ℕ) (head : Head) (own : Errand)
    → shown (keeps_after setup head body) ≡ shown (keeps_after setup head text)
    → shown_at setup peer body head own ≡ shown_at setup peer text head own
unfolding shown_at shown_wish wish_at head_kept
bodies_at setup peer body text head own e =
    same_bodies (head_level setup.set head) (wish_at setup peer head own NotAsked)
    (keeps_after setup head body) (keeps_after setup head text) e

no_bodies_at : (setup : Setup) (peer body text : List ℕ) (head : Head) (own : Errand)
    → head_level setup.set head ≡ level.Metadata
    → shown_at setup peer body head own ≡ shown_at setup peer text head own
unfolding shown_at shown_wish wish_at
no_bodies_at setup peer body text head own e =
    no_bodies (head_level setup.set head) (wish_at setup peer head own NotAsked)
    (head_kept setup.set head (keeps_after setup head body))
    (head_kept setup.set head (keeps_after setup head text))
    e

level_is : (set : Settings) (r : Request) → (decision_in set r).level ≡ head_level set r.head
unfolding head_level head_decision head_user head_info decision_in user_in info_in
level_is set r = refl

keeps_so : (setup : Setup) (r : Request) (body : List ℕ)
    → keeps_after setup r.head body ≡ setup.keep (decision_in setup.set r).omit_managed body
unfolding keeps_after head_decision head_user head_info decision_in user_in info_in
keeps_so setup r body = refl

pub bodies_alike : (setup : Setup) (s t : State) (bay moment : ℕ) (peer : List ℕ) (r q : Request) → r.head ≡ q.head
    → errand_in setup.set r moment ≡ errand_in setup.set q moment
    → shown (setup.keep (decision_in setup.set r).omit_managed r.body)
    ≡ shown (setup.keep (decision_in setup.set r).omit_managed q.body)
    → Worlds.shown_step setup s (step.Begin bay r peer moment) ≡ Worlds.shown_step setup t (step.Begin bay q peer moment)
unfolding Worlds.shown_step shown_wish
bodies_alike setup s t bay moment peer r q h e b =
    ap (λ w. BeginMove bay w moment)
    (heads_alike setup peer r q moment h e
    (bodies_at setup peer r.body q.body r.head (errand_in setup.set r moment)
    (ap shown (keeps_so setup r r.body) ∙ b ∙ sym (ap shown (keeps_so setup r q.body)))))

-- two bodies are kept alike that differ in managed fields alone, where these are omitted
abbrev pub KeptAlike : Type 0
KeptAlike =
    (these those : List ℕ) (v w : Value) (kept other : Kept)
    → length these ≤ MOST_KEPT_BYTES → length those ≤ MOST_KEPT_BYTES
    → StandsFor these v → StandsFor those w → managed v ≡ managed w
    → IsKept true these kept → IsKept true those other → kept ≡ other

same_kept : KeptAlike → (keep : Bool → List ℕ → Kept) → ((omit : Bool) (body : List ℕ) → IsKept omit body (keep omit body))
    → (omit : Bool) (these those : List ℕ) (v w : Value) → omit ≡ true
    → length these ≤ MOST_KEPT_BYTES → length those ≤ MOST_KEPT_BYTES
    → StandsFor these v → StandsFor those w → managed v ≡ managed w → keep omit these ≡ keep omit those
same_kept alike keep keeps omit these those v w o short less stands means same =
    ap (λ x. keep x these) o
    ∙ alike these those v w (keep true these) (keep true those) short less stands means same (keeps true these) (keeps true those)
    ∙ sym (ap (λ x. keep x those) o)

pub managed_alike : KeptAlike → (setup : Setup) (s t : State) (bay moment : ℕ) (peer : List ℕ) (r q : Request) (v w : Value)
    → r.head ≡ q.head → errand_in setup.set r moment ≡ errand_in setup.set q moment
    → (decision_in setup.set r).omit_managed ≡ true
    → ((omit : Bool) (body : List ℕ) → IsKept omit body (setup.keep omit body))
    → length r.body ≤ MOST_KEPT_BYTES → length q.body ≤ MOST_KEPT_BYTES
    → StandsFor r.body v → StandsFor q.body w → managed v ≡ managed w
    → Worlds.shown_step setup s (step.Begin bay r peer moment) ≡ Worlds.shown_step setup t (step.Begin bay q peer moment)
managed_alike alike setup s t bay moment peer r q v w h e o keeps short less stands means same =
    bodies_alike setup s t bay moment peer r q h e
    (ap shown (same_kept alike setup.keep keeps (decision_in setup.set r).omit_managed r.body q.body v w o short less stands means same))

pub metadata_alike : (setup : Setup) (s t : State) (bay moment : ℕ) (peer : List ℕ) (r q : Request) → r.head ≡ q.head
    → errand_in setup.set r moment ≡ errand_in setup.set q moment → (decision_in setup.set r).level ≡ level.Metadata
    → Worlds.shown_step setup s (step.Begin bay r peer moment) ≡ Worlds.shown_step setup t (step.Begin bay q peer moment)
unfolding Worlds.shown_step shown_wish
metadata_alike setup s t bay moment peer r q h e l =
    ap (λ w. BeginMove bay w moment)
    (heads_alike setup peer r q moment h e
    (no_bodies_at setup peer r.body q.body r.head (errand_in setup.set r moment) (sym (level_is setup.set r) ∙ l)))

-- ---- requests that want the same

-- what a request wants whose path isn't a local one
head_errand : Settings → Head → Errand
head_errand set head =
    first_errand
    (is_refused (info_of head.method head.target) || is_unread (head_info head).path head.target)
    (is_unknown (who set.tokens head))
    (list_any is_upgrade head.headers)
    (act_refusal (head_act set head))
    (route_errand (route_of (head_info head).path))

head_local : Head → Option Local
head_local head = local_of (head_info head).path

wants_by_head : (set : Settings) (r : Request) (moment : ℕ) → head_local r.head ≡ None → errand_in set r moment ≡ head_errand set r.head
unfolding errand_in local_in head_errand head_local head_info head_act user_in act_in info_in
wants_by_head set r moment e =
    ap
    (λ local. first_errand (is_refused (info_of r.head.method r.head.target) || is_unread (audit_info r.head.method r.head.target).path r.head.target) (is_unknown (who set.tokens r.head)) (list_any is_upgrade r.head.headers) (act_refusal (head_act set r.head)) (path_errand (audit_info r.head.method r.head.target) r.head moment r.body (or_own (other_of (head_act set r.head)) (user_of (who set.tokens r.head))) (narrowed_if_any r.head.target local)))
    e

pub apis_alike : (setup : Setup) (r q : Request) (moment : ℕ) → r.head ≡ q.head → local_of (info_in r).path ≡ None
    → errand_in setup.set r moment ≡ errand_in setup.set q moment
unfolding head_local head_info info_in
apis_alike setup r q moment h e =
    wants_by_head setup.set r moment e
    ∙ ap (head_errand setup.set) h
    ∙ sym (wants_by_head setup.set q moment (sym (ap head_local h) ∙ e))

-- ---- requests that act as another user

level_left : (l : Level) (w : Wish) → (Worlds.low_wish l w).level ≡ w.level
level_left level.None w = refl
level_left level.Metadata w = refl
level_left level.Request w = refl
level_left level.RequestResponse w = refl

acting_left : (l : Level) (w : Wish) → l ≢ level.None → (Worlds.low_wish l w).acting ≡ w.acting
acting_left level.None w n = absurd (n refl)
acting_left level.Metadata w n = refl
acting_left level.Request w n = refl
acting_left level.RequestResponse w n = refl

-- the wish of a Begin
wish_or : Wish → Move → Wish
wish_or none (BeginMove bay w moment) = w
wish_or none (FindMove bay seen) = none
wish_or none (OfferMove bay sink works) = none
wish_or none (StartedMove bay status moment) = none
wish_or none (FinishMove bay link reply moment) = none
wish_or none (ChangeMove bay) = none
wish_or none (TakeMove sink) = none
wish_or none (CutMove sink works) = none

same_acting : (w v : Wish) → w.level ≢ level.None → Worlds.low_wish w.level w ≡ Worlds.low_wish v.level v → w.acting ≡ v.acting
same_acting w v n e =
    let levels : w.level ≡ v.level = sym (level_left w.level w) ∙ ap (λ (x : Wish). x.level) e ∙ level_left v.level v in
    sym (acting_left w.level w n)
    ∙ ap (λ (x : Wish). x.acting) e
    ∙ acting_left v.level v (λ h. n (levels ∙ h))

pub acting_shows : (setup : Setup) (s t : State) (bay moment : ℕ) (peer other : List ℕ) (r q : Request)
    → (decision_in setup.set r).level ≢ level.None → acting_in setup.set r ≢ acting_in setup.set q
    → Worlds.shown_step setup s (step.Begin bay r peer moment) ≢ Worlds.shown_step setup t (step.Begin bay q other moment)
unfolding Worlds.shown_step wish_or wish_of
acting_shows setup s t bay moment peer other r q n d e =
    d (same_acting (wish_of setup peer r moment) (wish_of setup other q moment) n (ap (wish_or (wish_of setup peer r moment)) e))

-- ---- answers

same_links : (l : Level) (link other : LinkNote) → link_status link ≡ link_status other
    → Worlds.low_link l link ≡ Worlds.low_link l other
same_links level.None link other e = refl
same_links level.Metadata link other e = ap Whole e
same_links level.Request link other e = ap Whole e
same_links level.RequestResponse link other e = ap Whole e

pub replies_alike : (setup : Setup) (s : State) (o : Open) (bay moment : ℕ) (link other : LinkNote) (reply text : Kept)
    → Worlds.current_at s bay ≡ Some o → reply_due o.exchange.level o.exchange.facts.info ≡ false
    → link_status link ≡ link_status other
    → Worlds.shown_step setup s (step.Finish bay link reply moment)
    ≡ Worlds.shown_step setup s (step.Finish bay other text moment)
unfolding Worlds.shown_step
replies_alike setup s o bay moment link other reply text at due e =
    ap (Worlds.low_finish bay link reply moment) at
    ∙ both
    (λ (l : LinkNote) (b : Bool). FinishMove bay l (shown_if b reply) moment)
    (same_links o.exchange.level link other e)
    due
    ∙ sym (ap (λ b. FinishMove bay (Worlds.low_link o.exchange.level other) (shown_if b text) moment) due)
    ∙ sym (ap (Worlds.low_finish bay other text moment) at)

-- the status of the link of a Finish
status_in : Move → ℕ
status_in (BeginMove bay w moment) = 0
status_in (FindMove bay seen) = 0
status_in (OfferMove bay sink works) = 0
status_in (StartedMove bay status moment) = 0
status_in (FinishMove bay link reply moment) = link_status link
status_in (ChangeMove bay) = 0
status_in (TakeMove sink) = 0
status_in (CutMove sink works) = 0

link_shows : (l : Level) (link other : LinkNote) → l ≢ level.None
    → link_status (Worlds.low_link l link) ≡ link_status (Worlds.low_link l other) → link_status link ≡ link_status other
link_shows level.None link other n e = absurd (n refl)
link_shows level.Metadata link other n e = e
link_shows level.Request link other n e = e
link_shows level.RequestResponse link other n e = e

pub status_shows : (setup : Setup) (s : State) (o : Open) (bay moment : ℕ) (link other : LinkNote) (reply text : Kept)
    → Worlds.current_at s bay ≡ Some o → o.exchange.level ≢ level.None → link_status link ≢ link_status other
    → Worlds.shown_step setup s (step.Finish bay link reply moment)
    ≢ Worlds.shown_step setup s (step.Finish bay other text moment)
unfolding Worlds.shown_step status_in
status_shows setup s o bay moment link other reply text at n d e =
    d
    (link_shows o.exchange.level link other n
    (ap status_in
    (sym (ap (Worlds.low_finish bay link reply moment) at) ∙ e ∙ ap (Worlds.low_finish bay other text moment) at)))

some_or : Option ℕ → ℕ
some_or None = 0
some_or (Some n) = n

pub events_show : (l : Level) (these those : Facts) → l ≢ level.None → these.status ≢ those.status
    → event stage.ResponseComplete l these ≢ event stage.ResponseComplete l those
unfolding event some_or
events_show level.None these those n d e = absurd (n refl)
events_show level.Metadata these those n d e = d (ap (λ v. some_or v.code) e)
events_show level.Request these those n d e = d (ap (λ v. some_or v.code) e)
events_show level.RequestResponse these those n d e = d (ap (λ v. some_or v.code) e)

pub sinks_stay : (s t : State) → Worlds.low s ≡ Worlds.low t → s.shared ≡ t.shared
unfolding Worlds.low
sinks_stay s t e = ap (λ v. v.shared) e
