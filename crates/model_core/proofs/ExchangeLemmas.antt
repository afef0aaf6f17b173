-- Each step keeps exchanges that are over settled, and one that isn't so as far as it has come.
use Rattle.std.proofs.Common.{◌≡◌, ◌≢◌, ℕ, ◌≤◌, Bool, true, false, not, ◌&&◌, ◌||◌, List, [], ◌∷◌, ◌++◌, length, take, Option, Some, None, refl, ap, sym, ◌∙◌, subst, append_assoc, length-append, arith}
use Rattle.std.proofs.lemmas.List.{append-nil, take-append-le, take_at, take_all}
use Rattle.std.proofs.lemmas.List.Folds.{list_any-append}
use Rattle.std.specs.Prelude.{if◌then◌else◌, is_none, is_some, nat_le, slice_get, IfSome}
use Rattle.apiservice_table.specs.Changes.{after}
use Rattle.apiservice_table.specs.declared.change.Change.{Change}
use Rattle.apiservice_table.specs.declared.change.ChangeFault.{ChangeFault}
use Rattle.audit_core.specs.Answer.{status_of}
use Rattle.audit_core.specs.Exchange.{decision_in}
use Rattle.audit_core.specs.Offers.{Due, AreNotes, IsOutcome, has_refused, mode_of, refuses, is_first, is_strict, is_failed}
use Rattle.audit_core.specs.Routing.{handling_of}
use Rattle.audit_core.specs.declared.link_note.LinkNote.{LinkNote}
use Rattle.audit_core.specs.declared.link_note.LinkNote.TheVariants.{NotUsed}
use Rattle.audit_core.specs.declared.offers.OfferNote.{OfferNote}
use Rattle.audit_core.specs.declared.offers.Outcome.{Outcome}
use Rattle.audit_core.specs.declared.routed.Handling.{Handling}
use Rattle.audit_core.specs.declared.routed.Handling.TheVariants.{Refused, Served, Proxied}
use Rattle.model_core.proofs.DueLemmas.{with_reply, received_stays, started_stays, due_stays, three_started, three_finished, dues_are, later_due, none_started}
use Rattle.model_core.proofs.LineLemmas.{notes-push}
use Rattle.model_core.proofs.Logic.{both, no_case, and_first, and_second, no_of, or_nothing, or_front, or_first, or_second, le_of, same_number, not_some, get_more, get_last}
use Rattle.model_core.specs.Exchanges.{HasLevel, handled, HasReply, StandsUnless, IsDecided, Settled, AreSettled, AreLater, IsFinished, SettledSoFar}
use Rattle.model_core.specs.Offered.{dues_so_far}
use Rattle.front_base.specs.Info.{is_long_running}
use Rattle.front_base.specs.declared.level.Level.{Level}
use Rattle.front_base.specs.declared.level.Level.TheVariants as level
use Rattle.front_base.specs.declared.stage.Stage.TheVariants.{RequestReceived, ResponseStarted, ResponseComplete}
use Rattle.http_edge.specs.declared.request.Request.{Request}
use Rattle.stage_event.specs.Due.{reply_due}
use Rattle.stage_event.specs.declared.facts.Facts.{Facts}
use Rattle.stage_event.specs.declared.facts.Kept.{Kept}
use Rattle.model_worlds.specs.Requests.{wish_of, kept_if}
use Rattle.model_worlds.specs.Setup.{Setup}
use Rattle.model_worlds.specs.Steps
use Rattle.model_worlds.specs.declared.state.Bay.{Bay}
use Rattle.model_worlds.specs.declared.state.Exchange.{Exchange}
use Rattle.model_worlds.specs.declared.state.Open.{Open}
use Rattle.model_worlds.specs.declared.state.Shared.{Shared}

-- ---- changes that come later

handled-more : (setup : Setup) (ch more : List Change) (x : Exchange) → x.seen ≤ length ch
    → handled setup (ch ++ more) x ≡ handled setup ch x
unfolding Steps.handling_at
handled-more setup ch more x h =
    ap
    (λ t. if has_refused setup.set x.notes then Refused 500 else handling_of setup.set.endpoints (after setup.opening t) x.errand)
    (take-append-le x.seen ch more h)

reply-more : (setup : Setup) (ch more : List Change) (x : Exchange) → x.seen ≤ length ch
    → HasReply setup (handled setup ch x) x → HasReply setup (handled setup (ch ++ more) x) x
reply-more setup ch more x le h = subst (λ k. HasReply setup k x) (sym (handled-more setup ch more x le)) h

seen-more : (n : ℕ) (ch more : List Change) → n ≤ length ch → n ≤ length (ch ++ more)
seen-more n ch more h = omega (arith, length-append ch more)

stands-more : (fault : Option ChangeFault) (ch more : List Change) (seen : ℕ) (change : Change)
    → StandsUnless fault (slice_get ch seen) change → StandsUnless fault (slice_get (ch ++ more) seen) change
stands-more None ch more seen change h = get_more ch more seen change h
stands-more (Some fault) ch more seen change h = tt

decided-more : (setup : Setup) (ch more : List Change) (seen : ℕ) (change : Change) → seen ≤ length ch
    → IsDecided setup ch seen change → IsDecided setup (ch ++ more) seen change
decided-more setup ch more seen change le h =
    subst
    (λ t. StandsUnless (Steps.change_refusal setup t change) (slice_get (ch ++ more) seen) change)
    (sym (take-append-le seen ch more le))
    (stands-more (Steps.change_refusal setup (take seen ch) change) ch more seen change h)

settled-more : (setup : Setup) (ch more : List Change) (x : Exchange) → Settled setup ch x → Settled setup (ch ++ more) x
settled-more setup ch more x h =
    record {
      recorded = h.recorded;
      seen = seen-more x.seen ch more h.seen;
      reply = reply-more setup ch more x h.seen h.reply;
      offers = h.offers;
      decided = λ ok change e. decided-more setup ch more x.seen change h.seen (h.decided ok change e);
      started = h.started;
      complete = h.complete;
    }

pub all-more : (setup : Setup) (ch more : List Change) (xs : List Exchange) → AreSettled setup ch xs
    → AreSettled setup (ch ++ more) xs
all-more setup ch more [] h = tt
all-more setup ch more (x ∷ xs) h = (settled-more setup ch more x h.0, all-more setup ch more xs h.1)

finished-more : (setup : Setup) (ch more : List Change) (o : Open) → o.exchange.seen ≤ length ch
    → IsFinished setup ch o → IsFinished setup (ch ++ more) o
finished-more setup ch more o le h =
    record {
      reply = reply-more setup ch more o.exchange le h.reply;
      decided = h.decided;
      due = h.due;
      complete = h.complete;
    }

pub so_far-more : (setup : Setup) (ch more : List Change) (o : Open) → SettledSoFar setup ch o
    → SettledSoFar setup (ch ++ more) o
so_far-more setup ch more o h =
    record {
      recorded = h.recorded;
      seen = seen-more o.exchange.seen ch more h.seen;
      failed = h.failed;
      offers = h.offers;
      long = h.long;
      begun = h.begun;
      later = h.later;
      looked = h.looked;
      kept = h.kept;
      decided = λ d change e. decided-more setup ch more o.exchange.seen change h.seen (h.decided d change e);
      started = h.started;
      last = h.last;
      finished = λ f. finished-more setup ch more o h.seen (h.finished f);
    }

pub current-more : (setup : Setup) (ch more : List Change) (o : Option Open) → IfSome o (SettledSoFar setup ch)
    → IfSome o (SettledSoFar setup (ch ++ more))
current-more setup ch more None h = tt
current-more setup ch more (Some o) h = so_far-more setup ch more o h

-- ---- what a bay has

pub record BayOk (setup : Setup) (ch : List Change) (b : Bay) : Type 0 where
  pub closed : AreSettled setup ch b.closed
  pub current : IfSome b.current (SettledSoFar setup ch)

pub bay-more : (setup : Setup) (ch more : List Change) (b : Bay) → BayOk setup ch b → BayOk setup (ch ++ more) b
bay-more setup ch more b h =
    record {
      closed = all-more setup ch more b.closed h.closed;
      current = current-more setup ch more b.current h.current;
    }

-- ---- Begin

begun_level : (setup : Setup) (bay n m : ℕ) (peer : List ℕ) (r : Request)
    → HasLevel setup (Steps.begun setup bay n (wish_of setup peer r m) m).exchange
unfolding wish_of decision_in
begun_level setup bay n m peer r = refl

pub begun-ok : (setup : Setup) (ch : List Change) (bay n m : ℕ) (peer : List ℕ) (r : Request)
    → SettledSoFar setup ch (Steps.begun setup bay n (wish_of setup peer r m) m)
begun-ok setup ch bay n m peer r =
    record {
      recorded = begun_level setup bay n m peer r;
      seen = omega arith;
      failed = refl;
      offers = record { made = []; noted = tt; all = sym (append-nil _) };
      long = λ h. no_case false refl h;
      begun = λ ne s h. cc;
      later = λ h. no_case false refl h;
      looked = λ h. no_case false refl h;
      kept = λ h. no_case false refl h;
      decided = λ h. no_case false refl h;
      started = omega arith;
      last = omega arith;
      finished = λ h. no_case false refl h;
    }

-- ---- Find

looked_at : (found failed : Bool) (asked decided : Bool) → found ≡ false → failed ≡ false
    → (failed || (found && (asked || decided))) ≡ true → ⊥
looked_at found true asked decided f g h = no_case true g refl
looked_at true false asked decided f g h = no_case true f refl
looked_at false false asked decided f g h = no_case false refl h

unfound : (setup : Setup) (ch : List Change) (o : Open) → SettledSoFar setup ch o → o.phase.found ≡ false
    → o.phase.failed ≡ false → o.phase.finished ≡ false
unfound setup ch o h f g = unfound_at o.phase.finished refl
  where
    unfound_at : (c : Bool) → o.phase.finished ≡ c → c ≡ false
    unfound_at false q = refl
    unfound_at true q = absurd (looked_at o.phase.found o.phase.failed (is_none o.exchange.asked) o.phase.decided f g (h.finished q).decided)

pub found-ok : (setup : Setup) (ch : List Change) (o : Open) (seen : ℕ) → SettledSoFar setup ch o → seen ≤ length ch
    → o.waiting ≡ [] → o.phase.found ≡ false → o.phase.failed ≡ false → SettledSoFar setup ch (Steps.found_with seen o)
found-ok setup ch o seen h le ws f g =
    record {
      recorded = h.recorded;
      seen = le;
      failed = h.failed;
      offers = record { made = h.offers.made; noted = h.offers.noted; all = h.offers.all };
      long = h.long;
      begun = h.begun;
      later = λ q. subst AreLater (sym ws) tt;
      looked = λ d. refl;
      kept = h.kept;
      decided = λ d. no_case o.phase.found f (h.looked d);
      started = h.started;
      last = h.last;
      finished = λ q. no_case o.phase.finished (unfound setup ch o h f g) q;
    }

-- ---- Change

decided-now : (setup : Setup) (ch : List Change) (change : Change) (fault : Option ChangeFault)
    → Steps.change_refusal setup ch change ≡ fault
    → IsDecided setup (Steps.changes_with ch change fault) (length ch) change
decided-now setup ch change None e =
    subst
    (λ t. StandsUnless (Steps.change_refusal setup t change) (slice_get (ch ++ change ∷ []) (length ch)) change)
    (sym (take_at ch (change ∷ []) (length ch) refl))
    (subst (λ q. StandsUnless q (slice_get (ch ++ change ∷ []) (length ch)) change) (sym e) (get_last ch change))
decided-now setup ch change (Some fault) e =
    subst
    (λ t. StandsUnless (Steps.change_refusal setup t change) (slice_get ch (length ch)) change)
    (sym (take_all (length ch) ch (omega arith)))
    (subst (λ q. StandsUnless q (slice_get ch (length ch)) change) (sym e) tt)

pub changes_more : Option ChangeFault → Change → List Change
changes_more None change = change ∷ []
changes_more (Some fault) change = []

pub changes-grow : (ch : List Change) (change : Change) (fault : Option ChangeFault)
    → Steps.changes_with ch change fault ≡ ch ++ changes_more fault change
unfolding changes_more
changes-grow ch change None = refl
changes-grow ch change (Some fault) = sym (append-nil ch)

undecided_at : (found failed decided : Bool) (asked : Option Change) (change : Change) → asked ≡ Some change
    → failed ≡ false → decided ≡ false → (failed || (found && (is_none asked || decided))) ≡ true → ⊥
undecided_at found true decided asked change e f d h = no_case true f refl
undecided_at found false true asked change e f d h = no_case true d refl
undecided_at found false false None change e f d h = cc
undecided_at true false false (Some c) change e f d h = no_case false refl h
undecided_at false false false (Some c) change e f d h = no_case false refl h

undecided : (setup : Setup) (ch : List Change) (o : Open) (change : Change) → SettledSoFar setup ch o
    → o.exchange.asked ≡ Some change → o.phase.failed ≡ false → o.phase.decided ≡ false → o.phase.finished ≡ false
undecided setup ch o change h e f d = unfinished_at o.phase.finished refl
  where
    unfinished_at : (c : Bool) → o.phase.finished ≡ c → c ≡ false
    unfinished_at false q = refl
    unfinished_at true q = absurd (undecided_at o.phase.found o.phase.failed o.phase.decided o.exchange.asked change e f d (h.finished q).decided)

same_some : (a b : Change) → Some a ≡ Some b → a ≡ b
same_some a b e = cc

pub changed-ok : (setup : Setup) (ch : List Change) (o : Open) (change : Change) → SettledSoFar setup ch o
    → o.exchange.asked ≡ Some change → Steps.can_decide o ≡ true
    → SettledSoFar setup (Steps.changes_with ch change (Steps.change_refusal setup ch change)) (Steps.decided_with (length ch) o)
changed-ok setup ch o change h e c =
    let fault = Steps.change_refusal setup ch change in
    let c1 = and_second (Steps.no_wait o.waiting) (o.phase.found && (not o.phase.failed && not o.phase.decided)) c in
    let c2 = and_second o.phase.found (not o.phase.failed && not o.phase.decided) c1 in
    let g = no_of o.phase.failed (and_first (not o.phase.failed) (not o.phase.decided) c2) in
    let d = no_of o.phase.decided (and_second (not o.phase.failed) (not o.phase.decided) c2) in
    let un = undecided setup ch o change h e g d in
    let grown = changes-grow ch change fault in
    record {
      recorded = h.recorded;
      seen = subst (λ l. length ch ≤ length l) (sym grown) (seen-more (length ch) ch (changes_more fault change) (omega arith));
      failed = h.failed;
      offers = record { made = h.offers.made; noted = h.offers.noted; all = h.offers.all };
      long = h.long;
      begun = h.begun;
      later = h.later;
      kept = λ q. g;
      looked = λ q. and_first o.phase.found (not o.phase.failed && not o.phase.decided) c1;
      decided = λ q other a.
          subst
          (λ v. IsDecided setup (Steps.changes_with ch change fault) (length ch) v)
          (same_some change other (sym e ∙ a))
          (decided-now setup ch change fault refl);
      started = h.started;
      last = h.last;
      finished = λ q. no_case o.phase.finished un q;
    }

-- ---- Offer

refused-push : (setup : Setup) (ns : List OfferNote) (n : OfferNote)
    → has_refused setup.set (ns ++ n ∷ []) ≡ (has_refused setup.set ns || refuses setup.set n)
refused-push setup ns n =
    list_any-append (refuses setup.set) ns (n ∷ [])
    ∙ ap (λ b. has_refused setup.set ns || b) (or_nothing (refuses setup.set n))

refuses_no : (setup : Setup) (w : Due) (own : Outcome) → is_first w.stage ≡ false
    → refuses setup.set (Steps.note_of w own) ≡ false
refuses_no setup w own h = ap (λ b. b && (is_strict (mode_of setup.set w.sink) && is_failed own)) h

still_kept : (setup : Setup) (w : Due) (own : Outcome) (failed : Bool) → failed ≡ false → is_first w.stage ≡ false
    → (failed || refuses setup.set (Steps.note_of w own)) ≡ false
still_kept setup w own failed e h = both (λ a b. a || b) e (refuses_no setup w own h)

refused_later : (setup : Setup) (ns : List OfferNote) (w : Due) (own : Outcome) → is_first w.stage ≡ false
    → has_refused setup.set (ns ++ Steps.note_of w own ∷ []) ≡ has_refused setup.set ns
refused_later setup ns w own h =
    refused-push setup ns (Steps.note_of w own)
    ∙ ap (λ b. has_refused setup.set ns || b) (refuses_no setup w own h)
    ∙ or_nothing (has_refused setup.set ns)

-- an answered exchange is handled the same when another offer is noted
noted-reply : (setup : Setup) (ch : List Change) (x : Exchange) (ns : List OfferNote)
    → has_refused setup.set ns ≡ has_refused setup.set x.notes → HasReply setup (handled setup ch x) x
    → HasReply setup (handled setup ch (record x { notes = ns })) (record x { notes = ns })
noted-reply setup ch x ns e h =
    let same : handled setup ch x ≡ handled setup ch (record x { notes = ns }) =
    ap (λ f. Steps.handling_at setup ch f x.seen x.errand) (sym e) in
    let moved : HasReply setup (handled setup ch x) (record x { notes = ns }) =
    record { status = h.status; link = h.link; reply = h.reply } in
    subst (λ k. HasReply setup k (record x { notes = ns })) same moved

pub noted-ok : (setup : Setup) (ch : List Change) (o : Open) (w : Due) (rest : List Due) (own : Outcome)
    → SettledSoFar setup ch o → o.waiting ≡ w ∷ rest → IsOutcome (mode_of setup.set w.sink) w.fit own
    → SettledSoFar setup ch (Steps.noted setup w rest own o)
noted-ok setup ch o w rest own h ws out =
    let n = Steps.note_of w own in
    let first : (q : (o.phase.found || o.phase.finished) ≡ true) → AreLater (w ∷ rest) = λ q. subst AreLater ws (h.later q) in
    record {
      recorded = h.recorded;
      seen = h.seen;
      failed = ap (λ b. b || refuses setup.set n) h.failed ∙ sym (refused-push setup o.exchange.notes n);
      offers = record {
        made = h.offers.made ++ w ∷ [];
        noted =
            notes-push setup.set h.offers.made o.exchange.notes w n h.offers.noted
            (record { sink_is = refl; stage_is = refl; outcome_is = out });
        all =
            append_assoc h.offers.made (w ∷ []) rest
            ∙ ap (λ vs. h.offers.made ++ vs) (sym ws)
            ∙ h.offers.all;
      };
      long = h.long;
      begun = h.begun;
      later = λ q. (first q).1;
      looked = h.looked;
      kept = λ d.
          still_kept setup w own o.phase.failed (h.kept d) (first (or_first o.phase.found o.phase.finished (h.looked d))).0;
      decided = h.decided;
      started = h.started;
      last = h.last;
      finished = λ q.
          let f = h.finished q in
          record {
            reply =
                noted-reply setup ch o.exchange (o.exchange.notes ++ n ∷ [])
                (refused_later setup o.exchange.notes w own (first (or_second o.phase.found o.phase.finished q)).0)
                f.reply;
            decided = or_front o.phase.failed (refuses setup.set n) (o.phase.found && (is_none o.exchange.asked || o.phase.decided)) f.decided;
            due = f.due;
            complete = f.complete;
          };
    }

-- ---- closing

pub no_waits : (ws : List Due) → Steps.no_wait ws ≡ true → ws ≡ []
no_waits [] h = refl
no_waits (w ∷ ws) h = cc

-- all that is due so far was offered
pub all_made : (setup : Setup) (ch : List Change) (o : Open) (h : SettledSoFar setup ch o) → Steps.no_wait o.waiting ≡ true
    → h.offers.made ≡ dues_so_far setup o
all_made setup ch o h q =
    sym (append-nil h.offers.made) ∙ ap (λ ws. h.offers.made ++ ws) (sym (no_waits o.waiting q)) ∙ h.offers.all

was_decided : (found failed decided : Bool) (asked : Option Change) (change : Change) → asked ≡ Some change
    → failed ≡ false → (failed || (found && (is_none asked || decided))) ≡ true → decided ≡ true
was_decided found true decided asked change e f h = no_case true f refl
was_decided found false decided None change e f h = cc
was_decided true false decided (Some c) change e f h = h
was_decided false false decided (Some c) change e f h = no_case false refl h

not_before : (a b c : ℕ) → a ≤ b → c ≡ b → a ≤ c
not_before a b c h e = omega arith

open_settled : (setup : Setup) (ch : List Change) (o : Open) → SettledSoFar setup ch o → o.phase.finished ≡ true
    → Steps.no_wait o.waiting ≡ true → Settled setup ch o.exchange
open_settled setup ch o h f q =
    let g = h.finished f in
    record {
      recorded = h.recorded;
      seen = h.seen;
      reply = g.reply;
      offers = subst (λ ws. AreNotes setup.set ws o.exchange.notes) (all_made setup ch o h q ∙ g.due) h.offers.noted;
      decided = λ ok change e.
          h.decided
          (was_decided o.phase.found o.phase.failed o.phase.decided o.exchange.asked change e (h.failed ∙ ok) g.decided)
          change
          e;
      started = h.started;
      complete = not_before o.exchange.facts.started o.phase.last o.exchange.facts.complete h.last g.complete;
    }

settled-push : (setup : Setup) (ch : List Change) (xs : List Exchange) (x : Exchange) → AreSettled setup ch xs
    → Settled setup ch x → AreSettled setup ch (xs ++ x ∷ [])
settled-push setup ch [] x h p = (p, tt)
settled-push setup ch (y ∷ xs) x h p = (h.0, settled-push setup ch xs x h.1 p)

closing : (setup : Setup) (ch : List Change) (b : Bay) (o : Open) (c : Bool)
    → (o.phase.finished && Steps.no_wait o.waiting) ≡ c → AreSettled setup ch b.closed → SettledSoFar setup ch o
    → BayOk setup ch (if c then record b { closed = b.closed ++ o.exchange ∷ []; current = None } else record b { current = Some o })
closing setup ch b o true q p h =
    record {
      closed =
          settled-push setup ch b.closed o.exchange p
          (open_settled setup ch o h
          (and_first o.phase.finished (Steps.no_wait o.waiting) q)
          (and_second o.phase.finished (Steps.no_wait o.waiting) q));
      current = tt;
    }
closing setup ch b o false q p h = record { closed = p; current = h }

pub settled-ok : (setup : Setup) (ch : List Change) (b : Bay) (o : Open) → AreSettled setup ch b.closed
    → SettledSoFar setup ch o → BayOk setup ch (Steps.settled b o)
settled-ok setup ch b o p h = closing setup ch b o (o.phase.finished && Steps.no_wait o.waiting) refl p h

-- ---- being ready

pub ready_quiet : (o : Open) (m : ℕ) → Steps.is_ready o m ≡ true → Steps.no_wait o.waiting ≡ true
ready_quiet o m h = and_first (Steps.no_wait o.waiting) (Steps.is_decided o && (not o.phase.finished && nat_le o.phase.last m)) h

ready_rest : (o : Open) (m : ℕ) → Steps.is_ready o m ≡ true
    → (Steps.is_decided o && (not o.phase.finished && nat_le o.phase.last m)) ≡ true
ready_rest o m h = and_second (Steps.no_wait o.waiting) (Steps.is_decided o && (not o.phase.finished && nat_le o.phase.last m)) h

ready_decided : (o : Open) (m : ℕ) → Steps.is_ready o m ≡ true → Steps.is_decided o ≡ true
ready_decided o m h = and_first (Steps.is_decided o) (not o.phase.finished && nat_le o.phase.last m) (ready_rest o m h)

pub ready_unfinished : (o : Open) (m : ℕ) → Steps.is_ready o m ≡ true → o.phase.finished ≡ false
ready_unfinished o m h =
    no_of o.phase.finished
    (and_first (not o.phase.finished) (nat_le o.phase.last m)
    (and_second (Steps.is_decided o) (not o.phase.finished && nat_le o.phase.last m) (ready_rest o m h)))

ready_last : (o : Open) (m : ℕ) → Steps.is_ready o m ≡ true → o.phase.last ≤ m
ready_last o m h =
    le_of o.phase.last m
    (and_second (not o.phase.finished) (nat_le o.phase.last m)
    (and_second (Steps.is_decided o) (not o.phase.finished && nat_le o.phase.last m) (ready_rest o m h)))

-- ---- Started

starts_as : (k : Handling) (o : Open) (status : ℕ) → Steps.starts k o status ≡ true
    → (is_long_running o.exchange.facts.info ≡ true) × (is_some o.phase.started ≡ false)
starts_as k o status h = (
  and_first (is_long_running o.exchange.facts.info) _ h,
  not_some o.phase.started (and_first (is_none o.phase.started) _ (and_second (is_long_running o.exchange.facts.info) _ h)),
)

pub may_start : (l : Level) (k : Handling) (o : Open) (status : ℕ) → Steps.can_start l k o status ≡ true
    → (is_long_running o.exchange.facts.info ≡ true) × (is_some o.phase.started ≡ false)
may_start level.None k o status h = no_case false refl h
may_start level.Metadata k o status h = starts_as k o status h
may_start level.Request k o status h = starts_as k o status h
may_start level.RequestResponse k o status h = starts_as k o status h

-- what is due of the arrival stays
pub arrival_stays : (setup : Setup) (l : Level) (f : Facts) (status : ℕ) (reply : Kept) (started complete : ℕ)
    → Steps.due setup RequestReceived l f ≡ Steps.due setup RequestReceived l (with_reply f status reply started complete)
arrival_stays setup l f status reply started complete =
    due_stays setup RequestReceived l f status reply started complete
    (λ ne. received_stays l f status reply started complete)

pub started_dues : (setup : Setup) (o : Open) (k : Handling) (status m : ℕ) → o.phase.finished ≡ false
    → Steps.can_start o.exchange.level k o status ≡ true
    → dues_so_far setup o ++ Steps.due setup ResponseStarted o.exchange.level (Steps.facts_started status m o.exchange.facts)
    ≡ dues_so_far setup (Steps.started_with setup status m o)
started_dues setup o k status m un c =
    let l = o.exchange.level in
    let f = o.exchange.facts in
    let g = Steps.facts_started status m f in
    three_started (Steps.due setup RequestReceived l f) (Steps.due setup ResponseStarted l f)
    (Steps.due setup ResponseComplete l f) (Steps.due setup RequestReceived l g) (Steps.due setup ResponseStarted l g)
    (Steps.due setup ResponseComplete l g) (is_some o.phase.started) o.phase.finished
    (may_start l k o status c).1
    un
    (arrival_stays setup l f status f.reply m f.complete)

same_status : (a b : ℕ) → Some a ≡ Some b → a ≡ b
same_status a b e = cc

three_moments : (a b c d : ℕ) → a ≤ b → b ≤ c → c ≤ d → a ≤ d
three_moments a b c d h k e = omega arith

pub started-ok : (setup : Setup) (ch : List Change) (o : Open) (k : Handling) (status m : ℕ) → SettledSoFar setup ch o
    → Steps.is_ready o m ≡ true → Steps.can_start o.exchange.level k o status ≡ true
    → SettledSoFar setup ch (Steps.started_with setup status m o)
started-ok setup ch o k status m h q c =
    let un = ready_unfinished o m q in
    record {
      recorded = h.recorded;
      seen = h.seen;
      failed = h.failed;
      offers = record {
        made = h.offers.made;
        noted = h.offers.noted;
        all =
            ap
            (λ v. v ++ Steps.due setup ResponseStarted o.exchange.level (Steps.facts_started status m o.exchange.facts))
            (all_made setup ch o h (ready_quiet o m q))
            ∙ started_dues setup o k status m un c;
      };
      long = λ p. (may_start o.exchange.level k o status c).0;
      begun = λ ne s e. same_status status s e;
      later = λ p. later_due setup ResponseStarted o.exchange.level (Steps.facts_started status m o.exchange.facts) refl;
      looked = h.looked;
      kept = h.kept;
      decided = h.decided;
      started = three_moments o.exchange.facts.received o.exchange.facts.started o.phase.last m h.started h.last (ready_last o m q);
      last = omega arith;
      finished = λ p. no_case o.phase.finished un p;
    }

-- ---- Finish

-- a long-running request was started with that status
started_status : (long : Bool) (st : Option ℕ) (status code : ℕ) → (not long || Steps.has_started st status) ≡ true
    → is_some st ≡ true → (is_some st ≡ true → long ≡ true) → ((s : ℕ) → st ≡ Some s → code ≡ s) → code ≡ status
started_status false st status code h e k b = no_case false refl (k e)
started_status true None status code h e k b = no_case false refl e
started_status true (Some s) status code h e k b = b s refl ∙ same_number s status h

status_at : (o : Open) (l : Level) (status : ℕ) → l ≢ level.None → Steps.can_finish l o status ≡ true
    → is_some o.phase.started ≡ true → (is_some o.phase.started ≡ true → is_long_running o.exchange.facts.info ≡ true)
    → ((s : ℕ) → o.phase.started ≡ Some s → o.exchange.facts.status ≡ s) → o.exchange.facts.status ≡ status
status_at o level.None status ne h e k b = absurd (ne refl)
status_at o level.Metadata status ne h e k b =
    started_status (is_long_running o.exchange.facts.info) o.phase.started status o.exchange.facts.status h e k b
status_at o level.Request status ne h e k b =
    started_status (is_long_running o.exchange.facts.info) o.phase.started status o.exchange.facts.status h e k b
status_at o level.RequestResponse status ne h e k b =
    started_status (is_long_running o.exchange.facts.info) o.phase.started status o.exchange.facts.status h e k b

-- it was started where it is long-running
as_due : (long : Bool) (st : Option ℕ) (status : ℕ) (ws : List Due) → (not long || Steps.has_started st status) ≡ true
    → (is_some st ≡ true → long ≡ true) → (if is_some st then ws else []) ≡ (if long then ws else [])
as_due true None status ws h k = no_case false refl h
as_due true (Some s) status ws h k = refl
as_due false None status ws h k = refl
as_due false (Some s) status ws h k = no_case false refl (k refl)

nothing_if : (a b : Bool) (ws : List Due) → ws ≡ [] → (if a then ws else []) ≡ (if b then ws else [])
nothing_if true true ws e = refl
nothing_if true false ws e = e
nothing_if false true ws e = sym e
nothing_if false false ws e = refl

start_due : (setup : Setup) (o : Open) (g : Facts) (l : Level) (status : ℕ) → Steps.can_finish l o status ≡ true
    → (is_some o.phase.started ≡ true → is_long_running o.exchange.facts.info ≡ true)
    → (if is_some o.phase.started then Steps.due setup ResponseStarted l g else [])
    ≡ (if is_long_running o.exchange.facts.info then Steps.due setup ResponseStarted l g else [])
start_due setup o g level.None status h k =
    nothing_if (is_some o.phase.started) (is_long_running o.exchange.facts.info) _ (none_started setup g)
start_due setup o g level.Metadata status h k =
    as_due (is_long_running o.exchange.facts.info) o.phase.started status _ h k
start_due setup o g level.Request status h k =
    as_due (is_long_running o.exchange.facts.info) o.phase.started status _ h k
start_due setup o g level.RequestResponse status h k =
    as_due (is_long_running o.exchange.facts.info) o.phase.started status _ h k

same_link : (k : Handling) (link : LinkNote) → status_of k link ≡ status_of k (Steps.link_in k link)
same_link (Refused code) link = refl
same_link (Served local reply change) link = refl
same_link (Proxied target) link = refl

pub finished_dues : (setup : Setup) (ch : List Change) (o : Open) (k : Handling) (link : LinkNote) (reply : Kept) (m : ℕ)
    → SettledSoFar setup ch o → o.phase.finished ≡ false
    → Steps.can_finish o.exchange.level o (status_of k link) ≡ true
    → dues_so_far setup o
    ++ Steps.due setup ResponseComplete o.exchange.level (Steps.facts_finished setup k link reply m o)
    ≡ dues_so_far setup (Steps.finished_with setup k link reply m o)
finished_dues setup ch o k link reply m h un c =
    let l = o.exchange.level in
    let f = o.exchange.facts in
    let g = Steps.facts_finished setup k link reply m o in
    three_finished (Steps.due setup RequestReceived l f) (Steps.due setup ResponseStarted l f)
    (Steps.due setup ResponseComplete l f) (Steps.due setup RequestReceived l g) (Steps.due setup ResponseStarted l g)
    (Steps.due setup ResponseComplete l g) (is_some o.phase.started) o.phase.finished
    un
    (arrival_stays setup l f g.status g.reply f.started m)
    (λ e. due_stays setup ResponseStarted l f g.status g.reply f.started m
    (λ ne. started_stays l f g.status g.reply m
    (status_at o l g.status ne c e h.long (h.begun ne))))

finished_reply : (setup : Setup) (k : Handling) (link : LinkNote) (reply : Kept) (m : ℕ) (o : Open)
    → HasReply setup k (Steps.finished_with setup k link reply m o).exchange
finished_reply setup k link reply m o =
    record {
      status = same_link k link;
      link = λ e. ap (λ b. if b then link else NotUsed) e;
      reply = λ e.
          ap
          (λ b. kept_if (reply_due o.exchange.level o.exchange.facts.info) (if b then reply else Steps.own_reply setup k o.exchange.managed o.exchange.is_head))
          e;
    }

pub finished-ok : (setup : Setup) (sh : Shared) (o : Open) (link : LinkNote) (reply : Kept) (m : ℕ)
    → SettledSoFar setup sh.changes o → Steps.is_ready o m ≡ true
    → Steps.can_finish o.exchange.level o (status_of (Steps.handling_in setup sh o) link) ≡ true
    → SettledSoFar setup sh.changes (Steps.finished_with setup (Steps.handling_in setup sh o) link reply m o)
finished-ok setup sh o link reply m h q c =
    let k = Steps.handling_in setup sh o in
    let l = o.exchange.level in
    let f = o.exchange.facts in
    let g = Steps.facts_finished setup k link reply m o in
    let p = Steps.finished_with setup k link reply m o in
    let un = ready_unfinished o m q in
    record {
      recorded = h.recorded;
      seen = h.seen;
      failed = h.failed;
      offers = record {
        made = h.offers.made;
        noted = h.offers.noted;
        all =
            ap (λ v. v ++ Steps.due setup ResponseComplete l g) (all_made setup sh.changes o h (ready_quiet o m q))
            ∙ finished_dues setup sh.changes o k link reply m h un c;
      };
      long = h.long;
      begun = λ ne s e.
          sym (status_at o l g.status ne c (ap is_some e) h.long (h.begun ne)) ∙ h.begun ne s e;
      later = λ done. later_due setup ResponseComplete l g refl;
      looked = h.looked;
      kept = h.kept;
      decided = h.decided;
      started = h.started;
      last = three_moments f.started f.started o.phase.last m (omega arith) h.last (ready_last o m q);
      finished = λ done. record {
        reply =
            subst
            (λ v. HasReply setup v p.exchange)
            (ap (λ b. Steps.handling_at setup sh.changes b o.exchange.seen o.exchange.errand) h.failed)
            (finished_reply setup k link reply m o);
        decided = ready_decided o m q;
        due =
            ap
            (λ v. Steps.due setup RequestReceived l g ++ (v ++ Steps.due setup ResponseComplete l g))
            (start_due setup o g l (status_of k link) c h.long)
            ∙ dues_are setup p.exchange h.recorded;
        complete = refl;
      };
    }
