-- Events of a request that was read fit a line of `line_limit` bytes.
use Rattle.std.proofs.Common.{◌≡◌, ℕ, ◌<◌, ◌≤◌, ◌^◌, length, List, take, Some, subst, sym, arith}
use Rattle.std.specs.List.{AllByRecursion}
use Rattle.std.proofs.lemmas.List.{length-take-le}
use Rattle.audit_core.specs.Answer.{status_of}
use Rattle.audit_core.specs.Errand.{attributes_in, user_in}
use Rattle.audit_core.specs.Exchange.{facts_by, IsAnswered}
use Rattle.audit_core.specs.Offers.{AreNotes, offers_due}
use Rattle.audit_core.specs.Owed.{owed}
use Rattle.audit_core.specs.declared.answered.Answered.{Answered}
use Rattle.audit_core.specs.declared.link_note.LinkNote.{LinkNote}
use Rattle.audit_core.specs.declared.offers.OfferNote.{OfferNote}
use Rattle.audit_core.specs.declared.routed.Handling.{Handling}
use Rattle.audit_core.specs.declared.settings.Settings.{Settings}
use Rattle.audit_core.specs.declared.stamp.Stamp.{Stamp}
use Rattle.event_text.specs.Line.{line_text, stripped}
use Rattle.front_base.specs.declared.level.Level.{Level}
use Rattle.front_base.specs.declared.stage.Stage.{Stage}
use Rattle.http_edge.specs.Requests.{StartsWith}
use Rattle.http_edge.specs.declared.request.Request.{Request}
use Rattle.http_head.specs.Block.{block_in}
use Rattle.http_head.specs.Request.{IsHeadOf}
use Rattle.http_head.specs.declared.block.TheConstants.{MOST_HEAD_BYTES}
use Rattle.stage_event.specs.Events.{event}
use Rattle.stage_event.specs.declared.event.Event.{Event}
use Rattle.stage_event.specs.declared.facts.Facts.{Facts}
use Rattle.stage_event.specs.declared.facts.Kept.{Kept}
use Rattle.truncate_backend.specs.Fits.{fitted}
use Rattle.request_bounds.specs.Bounds.{user_length, longest_asker, most_line_bytes, line_limit, IsStamp, IsWritten, IsOffered}
use Rattle.request_bounds.proofs.BoundLemmas.{written, all-owed, none-too-large}
use Rattle.request_bounds.proofs.UserLemmas.{asker-most}

abbrev pub BlocksAreBounded : Type 0
BlocksAreBounded = (bytes : List ℕ) (len : ℕ) → block_in bytes ≡ Some len → (len ≤ length bytes) × (len ≤ MOST_HEAD_BYTES)

abbrev pub HeadsBoundLines : Type 0
HeadsBoundLines =
    (set : Settings) (stamp : Stamp) (r : Request) (status : ℕ) (request reply : Kept) (stage : Stage) (level : Level) (block : List ℕ)
    → IsHeadOf block r.head → IsStamp stamp → status < 2 ^ 16
    → length (line_text (stripped (event stage level (facts_by stamp r (attributes_in set r) status request reply))))
    ≤ most_line_bytes (length block) (user_length (user_in set r))

user-most : (set : Settings) (r : Request) → user_length (user_in set r) ≤ longest_asker set.tokens
unfolding user_in
user-most set r = asker-most set.tokens r.head

pub event-fits : BlocksAreBounded → HeadsBoundLines → (set : Settings) (stamp : Stamp) (r : Request) (status : ℕ) (request reply : Kept)
    (stage : Stage) (level : Level) (bytes after : List ℕ) (max : ℕ) → StartsWith bytes r after → IsStamp stamp → status < 2 ^ 16 →
    line_limit set.tokens ≤ max → IsWritten (fitted (event stage level (facts_by stamp r (attributes_in set r) status request reply)) max)
event-fits blocks heads set stamp r status request reply stage level bytes after max starts ranges few limit =
    let head = starts.head_is in
    let bound = blocks bytes head.len head.block.found in
    let size = length-take-le head.len bytes bound.0 in
    let user = user-most set r in
    let line = heads set stamp r status request reply stage level (take head.len bytes) head.is ranges few in
    written (event stage level (facts_by stamp r (attributes_in set r) status request reply)) max (omega arith)

pub owed-fits : BlocksAreBounded → HeadsBoundLines → (set : Settings) (stamp : Stamp) (r : Request) (handling : Handling) (note : LinkNote)
    (body : List ℕ) (x : Answered) (bytes after : List ℕ) (max : ℕ) → StartsWith bytes r after → IsStamp stamp →
    status_of handling note < 2 ^ 16 → IsAnswered set stamp r handling note body x → line_limit set.tokens ≤ max →
    AllByRecursion (λ (e : Event). IsWritten (fitted e max)) (owed x.decision x.facts)
owed-fits blocks heads set stamp r handling note body x bytes after max starts ranges few answered limit =
    let P : Facts → Type 0 = λ f. AllByRecursion (λ (e : Event). IsWritten (fitted e max)) (owed x.decision f) in
    subst P (sym answered.facts_are.facts_are)
    (all-owed (λ (e : Event). IsWritten (fitted e max)) x.decision.level x.decision.omit
    (facts_by stamp r (attributes_in set r) (status_of handling note) x.facts.request x.facts.reply)
    (λ stage level. event-fits blocks heads set stamp r (status_of handling note) x.facts.request x.facts.reply stage level bytes after max starts ranges few limit))

pub noted-fits : BlocksAreBounded → HeadsBoundLines → (set : Settings) (stamp : Stamp) (r : Request) (handling : Handling) (note : LinkNote)
    (body : List ℕ) (x : Answered) (bytes after : List ℕ) (notes : List OfferNote) → StartsWith bytes r after → IsStamp stamp →
    status_of handling note < 2 ^ 16 → IsAnswered set stamp r handling note body x → line_limit set.tokens ≤ set.max_event →
    AreNotes set (offers_due set (owed x.decision x.facts)) notes → AllByRecursion (λ (n : OfferNote). IsOffered n.outcome) notes
noted-fits blocks heads set stamp r handling note body x bytes after notes starts ranges few answered limit h =
    none-too-large set (owed x.decision x.facts) notes
    (owed-fits blocks heads set stamp r handling note body x bytes after set.max_event starts ranges few answered limit) h
