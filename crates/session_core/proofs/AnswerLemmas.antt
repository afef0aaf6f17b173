-- A request that was sent on and answered.
use Rattle.std.proofs.Common.{◌≡◌, ◌≤◌, ◌⊎◌, ℕ, Bool, List, [], ◌++◌, Option, refl, sym, ap, subst, ◌∙◌, arith, inl, inr}
use Rattle.std.specs.Prelude.{Result, Ok, Err, OnErr, OnOk, IfOk}
use Rattle.audit_core.specs.declared.link_note.LinkNote.{LinkNote}
use Rattle.audit_core.specs.declared.routed.Handling.{Handling}
use Rattle.audit_core.specs.declared.settings.Settings.{Settings}
use Rattle.event_offers.specs.Offering.{Noted}
use Rattle.exchange_replies.specs.Sent.{DialState, is_head}
use Rattle.exchange_replies.specs.Streams.{Came, once, streamed, Forwards, Replies, WritesPart, link_of, note_of_sent}
use Rattle.exchange_replies.specs.declared.reply_tag.ReplyTag.{ReplyTag}
use Rattle.exchange_replies.specs.declared.sent_on.SentOn.{SentOn}
use Rattle.forward_link.specs.Exchange.{LinkState}
use Rattle.front_base.specs.Info.{is_long_running}
use Rattle.front_base.specs.declared.memory.NoMemory.{NoMemory}
use Rattle.front_ports.specs.Cause.{Rose}
use Rattle.front_ports.specs.Side.{Side}
use Rattle.front_ports.specs.Wishes.{GivesWish}
use Rattle.http_edge.specs.declared.request.Request.{Request}
use Rattle.session_core.specs.Bays.{Recording}
use Rattle.session_core.specs.Closing.{IsAside, MayWish, tag_by}
use Rattle.session_core.specs.Parts.{sending, end_due, start_due, known_facts, HaltsBeforeEnd, ReplyHaltsAt, Replied, ReplyHalts, AnsweredTo, AnswerHalts, AnswerHaltsAt}
use Rattle.session_core.specs.Steps.{WorkState, linked, tag_in, with_start}
use Rattle.stream_relay.specs.declared.stream.Relayed.{Relayed}
use Rattle.stream_relay.specs.declared.stream.Relayed.TheVariants as relayed

-- ---- a link that failed later failed

replies_later : (r : Request) (tag : ReplyTag) (handling : Handling) (rose later : Type 0) (came : Came) (end : Relayed) (text : List ℕ)
    → (rose → later) → Replies r tag handling rose came end text → Replies r tag handling later came end text
replies_later r tag handling rose later (once reached) end text go h = h
replies_later r tag handling rose later (streamed head frame after) relayed.Done text go h = h
replies_later r tag handling rose later (streamed head frame after) relayed.StreamSpent text go h = h
replies_later r tag handling rose later (streamed head frame after) relayed.WriteFault text go h = h
replies_later r tag handling rose later (streamed head frame after) relayed.BackendCut text go (inl h) = inl h
replies_later r tag handling rose later (streamed head frame after) relayed.BackendCut text go (inr h) =
    inr (record { seen = h.seen; more = h.more; split = h.split; text_is = h.text_is; failed = go h.failed })

part_later : (r : Request) (tag : ReplyTag) (handling : Handling) (rose later : Type 0) (came : Came) (w0 w1 : Option (List ℕ))
    → (rose → later) → WritesPart r tag handling rose came w0 w1 → WritesPart r tag handling later came w0 w1
part_later r tag handling rose later came w0 w1 go (inl e) = inl e
part_later r tag handling rose later came w0 w1 go (inr h) =
    inr (h.0, h.1, replies_later r tag handling rose later came h.1 h.0 go h.2, h.3)

module _ (set : Settings) (r : Request) (handling : Handling) (came : Came) (faulty later : Type 0) (go : faulty → later) (m : Recording) (w : WorkState)
    (n : Recording) (v : WorkState) (w0 w1 : Option (List ℕ)) (rose : Type 0) where
  before_later : HaltsBeforeEnd set r handling came faulty m w n v w0 w1 → HaltsBeforeEnd set r handling came later m w n v w0 w1
  before_later h = record {
    started = h.started;
    due = h.due;
    noted = h.noted;
    written = by h.written;
    timed = h.timed;
    work_is = h.work_is;
  }
    where
      by : ((h.due ≡ []) × (w1 ≡ w0)) ⊎ ((h.due ≡ start_due set w.decision (with_start h.started w.facts)) × WritesPart r (tag_in r w) handling faulty came w0 w1)
          → ((h.due ≡ []) × (w1 ≡ w0)) ⊎ ((h.due ≡ start_due set w.decision (with_start h.started w.facts)) × WritesPart r (tag_in r w) handling later came w0 w1)
      by (inl q) = inl q
      by (inr q) = inr (q.0, part_later r (tag_in r w) handling faulty later came w0 w1 go q.1)

  halts_later : ReplyHaltsAt set r handling came faulty m w n v w0 w1 rose → ReplyHaltsAt set r handling came later m w n v w0 w1 rose
  halts_later (e, inl h) = (e, inl (before_later h))
  halts_later (e, inr h) = (
    e,
    inr (record {
      end = h.end;
      text = h.text;
      replies = replies_later r (tag_in r w) handling faulty later came h.end h.text go h.replies;
      writes = h.writes;
      kept = h.kept;
      kept_is = h.kept_is;
      started = h.started;
      complete = h.complete;
      noted = h.noted;
      timed = h.timed;
      work_is = h.work_is;
    }),
  )

-- ---- after it was sent on

module _ {K : Type 0} (state : K → LinkState) (set : Settings) (r : Request) (handling : Handling) (sent : SentOn K) (d0 d1 d2 : DialState)
    (m : Recording) (w b : WorkState) (n : Recording) (v : WorkState) (w0 w1 : Option (List ℕ)) (f0 f1 : ℕ) (note : LinkNote) (wished : Bool)
    (forwards : Forwards state (is_head r) (is_long_running w.facts.info) (sending r handling w) d0 d1 sent)
    (le : d0.link_faults ≤ d1.link_faults) (note_is : note ≡ note_of_sent sent) (linked_is : b ≡ linked handling note wished w) where
  -- a write failed
  abbrev pub rose : Type 0
  rose = Rose f0 f1

  -- how its link is noted by what came
  b_is : b ≡ linked handling (note_of_sent sent) wished w
  b_is = linked_is ∙ ap (λ y. linked handling y wished w) note_is

  earlier : Rose d1.link_faults d2.link_faults → Rose d0.link_faults d2.link_faults
  earlier rose = omega (arith, le, rose)

  answered : (end : Relayed) → Replied state set r handling sent d1 d2 m b n v w0 w1 rose end → AnsweredTo set r handling d0 d2 m w n v w0 w1 rose end
  answered end g =
      let p : Replied state set r handling sent d1 d2 m (linked handling (note_of_sent sent) wished w) n v w0 w1 rose end =
      subst (λ (t : WorkState). Replied state set r handling sent d1 d2 m t n v w0 w1 rose end) b_is g in
      let is : note_of_sent sent ≡ link_of p.to.came = sym p.to.link_is in
      record {
        came = p.to.came;
        comes = p.to.comes (is_long_running w.facts.info) (sending r handling w) d0 forwards;
        text = p.to.text;
        wished = wished;
        replies = replies_later r (tag_by r w.facts.id wished) handling (Rose d1.link_faults d2.link_faults) (Rose d0.link_faults d2.link_faults) p.to.came end p.to.text
            earlier p.to.replies;
        writes = p.to.writes;
        kept = p.kept;
        kept_is = p.to.kept;
        started = p.started;
        complete = p.complete;
        noted = subst (λ (y : LinkNote). Noted (start_due set w.decision (known_facts p.kept p.started p.complete (linked handling y wished w).facts)
            ++ end_due set w.decision (known_facts p.kept p.started p.complete (linked handling y wished w).facts)) m.lanes w.notes n.lanes v.notes) is p.noted;
        refuses = p.refuses;
        timed = p.timed;
        work_is = p.work_is ∙ ap (λ (y : LinkNote). let t : WorkState = record (linked handling y wished w) {
          facts = known_facts p.kept p.started p.complete (linked handling y wished w).facts;
          notes = v.notes;
        } in t) is;
      }

  halted : ReplyHalts state set r handling sent d1 d2 m b n v w0 w1 rose → AnswerHaltsAt set r handling d0 d2 m w n v w0 w1 rose
  halted g =
      let p : ReplyHalts state set r handling sent d1 d2 m (linked handling (note_of_sent sent) wished w) n v w0 w1 rose =
      subst (λ (t : WorkState). ReplyHalts state set r handling sent d1 d2 m t n v w0 w1 rose) b_is g in
      record {
        came = p.came;
        comes = p.comes (is_long_running w.facts.info) (sending r handling w) d0 forwards;
        wished = wished;
        halts = halts_later set r handling p.came (Rose d1.link_faults d2.link_faults) (Rose d0.link_faults d2.link_faults) earlier m
            (linked handling (link_of p.came) wished w) n v w0 w1 rose
            (subst (λ (y : LinkNote). ReplyHaltsAt set r handling p.came (Rose d1.link_faults d2.link_faults) m (linked handling y wished w) n v w0 w1 rose)
            (sym p.link_is) p.halts);
      }

  -- what the connection wished is kept
  wished_of : (t : WorkState) → v.wished ≡ t.wished → t.wished ≡ b.wished → v.wished ≡ wished
  wished_of t e f = e ∙ f ∙ ap (λ (y : WorkState). y.wished) linked_is

  halts_wished : (came : Came) (faulty : Type 0) → ReplyHaltsAt set r handling came faulty m b n v w0 w1 rose → v.wished ≡ b.wished
  halts_wished came faulty (e, inl h) = ap (λ (y : WorkState). y.wished) h.work_is
  halts_wished came faulty (e, inr h) = ap (λ (y : WorkState). y.wished) h.work_is

  -- since the connection was asked, nothing was written before the reply
  module _ (wa : Option (List ℕ)) (fa : ℕ) (wa_is : wa ≡ w0) (fa_is : fa ≡ f0) where
    replied_since : (end : Relayed) → Replied state set r handling sent d1 d2 m b n v wa w1 (Rose fa f1) end
        → Replied state set r handling sent d1 d2 m b n v w0 w1 rose end
    replied_since end g =
        subst (λ (o : Option (List ℕ)). Replied state set r handling sent d1 d2 m b n v o w1 rose end) wa_is
        (subst (λ (f : ℕ). Replied state set r handling sent d1 d2 m b n v wa w1 (Rose f f1) end) fa_is g)

    halts_since : ReplyHalts state set r handling sent d1 d2 m b n v wa w1 (Rose fa f1)
        → ReplyHalts state set r handling sent d1 d2 m b n v w0 w1 rose
    halts_since g =
        subst (λ (o : Option (List ℕ)). ReplyHalts state set r handling sent d1 d2 m b n v o w1 rose) wa_is
        (subst (λ (f : ℕ). ReplyHalts state set r handling sent d1 d2 m b n v wa w1 (Rose f f1)) fa_is g)

    pub answered_by : (res : Result Relayed NoMemory) → IfOk res (Replied state set r handling sent d1 d2 m b n v wa w1 (Rose fa f1))
        → IfOk res (AnsweredTo set r handling d0 d2 m w n v w0 w1 rose)
    answered_by (Ok end) g = answered end (replied_since end g)
    answered_by (Err e) g = tt

    pub halted_by : (res : Result Relayed NoMemory) → OnErr res (ReplyHalts state set r handling sent d1 d2 m b n v wa w1 (Rose fa f1))
        → OnErr res (AnswerHalts set r handling d0 d2 m w n v w0 w1 rose)
    halted_by (Ok end) g = tt
    halted_by (Err e) g = inr (halted (halts_since g))

    -- what it wished before the reply is what is known of it after that, since no write changes it
    module _ (v0 va v1 : Option (List Bool)) (gives : GivesWish v0 va wished) (same : v1 ≡ va) where
      gives_by : v.wished ≡ wished → GivesWish v0 v1 v.wished
      gives_by e = subst (GivesWish v0 v1) (sym e) (subst (λ (o : Option (List Bool)). GivesWish v0 o wished) (sym same) gives)

      pub wished_ok : (res : Result Relayed NoMemory) → IfOk res (Replied state set r handling sent d1 d2 m b n v wa w1 (Rose fa f1))
          → OnOk res (GivesWish v0 v1 v.wished)
      wished_ok (Ok end) g = gives_by (wished_of b (ap (λ (y : WorkState). y.wished) g.work_is) refl)
      wished_ok (Err e) g = tt

      pub wished_err : (res : Result Relayed NoMemory) → OnErr res (ReplyHalts state set r handling sent d1 d2 m b n v wa w1 (Rose fa f1))
          → OnErr res (MayWish v0 v1 w.wished v.wished)
      wished_err (Ok end) g = tt
      wished_err (Err e) g =
          let h = halts_since g in
          inr (gives_by (wished_of b (halts_wished h.came (Rose d1.link_faults d2.link_faults) h.halts) refl))

-- a write leaves the other side, and asking left it before
pub aside_by : (fa fb fc : List ℕ) (la lb lc : Option (List ℕ)) (ra rb rc : ℕ) (x y : Side) → fb ≡ fa → lb ≡ la → rb ≡ ra → y ≡ x
    → x.mark ≡ fb → y.mark ≡ fc → x.told ≡ lb → y.told ≡ lc → x.faults ≡ rb → y.faults ≡ rc → IsAside fa fc la lc ra rc
aside_by fa fb fc la lb lc ra rb rc x y ef el er e xm ym xt yt xf yf = (
  sym ym ∙ ap (λ (s : Side). s.mark) e ∙ xm ∙ ef,
  sym yt ∙ ap (λ (s : Side). s.told) e ∙ xt ∙ el,
  sym yf ∙ ap (λ (s : Side). s.faults) e ∙ xf ∙ er,
)
