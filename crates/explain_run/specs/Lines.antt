-- The lines of the requests of a run.
use Rattle.std.specs.Prelude.{◌≡◌, ℕ, ◌+◌, if◌then◌else◌, List, [], ◌∷◌, ◌++◌}
use Rattle.apiservice_rows.specs.Row.{Row}
use Rattle.audit_core.specs.Errand.{errand_in}
use Rattle.audit_core.specs.Exchange.{IsAnswered}
use Rattle.audit_core.specs.Owed.{owed, fitted_lines, ended}
use Rattle.audit_core.specs.Routing.{handling_of, rows_by}
use Rattle.audit_core.specs.declared.answered.Answered.{Answered}
use Rattle.audit_core.specs.declared.link_note.LinkNote.{LinkNote}
use Rattle.audit_core.specs.declared.link_note.LinkNote.TheVariants.{Whole}
use Rattle.audit_core.specs.declared.stamp.Stamp.{Stamp}
use Rattle.front_base.specs.AuditId.{AuditId}
use Rattle.http_edge.specs.declared.request.Request.{Request}
use Rattle.explain_run.specs.Pushing.{too_large}
use Rattle.explain_run.specs.RouteLines.{route_line}
use Rattle.explain_run.specs.declared.setup.Setup.{Setup}

-- the address of all requests of a run over an input, which come over no connection
abbrev pub own_address : List ℕ
own_address = 127 ∷ 0 ∷ 0 ∷ 1 ∷ []

abbrev pub id_of : ℕ → AuditId
id_of number = record { boot = 0; bay = 0; number = number }

-- what the request with that number is stamped with, at a clock that always shows that moment
abbrev pub stamp_of : ℕ → ℕ → Stamp
stamp_of moment number = record {
  id = id_of number;
  peer = own_address;
  received = moment;
  started = moment;
  complete = moment;
}

-- the rows after a request
unfoldable pub rows_after : Setup → List Row → Request → List Row
rows_after set rows r = rows_by rows (errand_in set.settings r set.moment)

-- the rows after requests, one after another
abbrev pub rows_after_all : Setup → List Row → List Request → List Row
rows_after_all set rows [] = rows
rows_after_all set rows (r ∷ rs) = rows_after_all set (rows_after set rows r) rs

-- a request that would be sent on counts as answered by an empty reply with status 200
abbrev pub empty_reply : LinkNote
empty_reply = Whole 200

-- the lines of the events of a request, each with a line feed
abbrev pub audit_lines : Setup → Answered → List ℕ
audit_lines set x = ended 10 (fitted_lines set.settings.max_event (owed x.decision x.facts))

-- what is written of the request with that number: the line that says where it goes, where routes are asked for, and
-- otherwise its audit lines
abbrev pub text_of : Setup → ℕ → Answered → List ℕ
text_of set number x = if set.routes then route_line number x.handling else audit_lines set x

-- how many of its events are too large for a line; where routes are asked for, none
abbrev pub too_large_of : Setup → Answered → ℕ
too_large_of set x = if set.routes then 0 else too_large set.settings.max_event (owed x.decision x.facts)

-- this is added for the request with that number, and so many of its events are too large
abbrev pub Writes : Setup → ℕ → Answered → List ℕ → List ℕ → ℕ → Type 0
Writes set number x old new large = (new ≡ old ++ text_of set number x) × (large ≡ too_large_of set x)

-- this is what is written of the request with that number, which is handled by these rows, and so many of its events are
-- too large
pub record IsLines (set : Setup) (rows : List Row) (number : ℕ) (r : Request) (text : List ℕ) (large : ℕ) : Type 0 where
  pub answered : Answered
  pub is : IsAnswered set.settings (stamp_of set.moment number) r
      (handling_of set.settings.endpoints rows (errand_in set.settings r set.moment)) empty_reply [] answered
  pub text_is : text ≡ text_of set number answered
  pub large_is : large ≡ too_large_of set answered

-- the text of the lines of these requests, the first of which has this number and is answered by these rows, and how many
-- of their events are too large
abbrev pub AreLines : Setup → ℕ → List Row → List Request → List ℕ → ℕ → Type 0
AreLines set n rows [] text large = (text ≡ []) × (large ≡ 0)
AreLines set n rows (r ∷ rs) text large =
    (own : List ℕ) × (others : List ℕ) × (few : ℕ) × (more : ℕ) × IsLines set rows n r own few
    × AreLines set (n + 1) (rows_after set rows r) rs others more × (text ≡ own ++ others) × (large ≡ few + more)

-- the lines of a request are added, which these rows answer, and these are the rows after it; so many of its events are too
-- large
abbrev pub Adds : Setup → ℕ → Request → List Row → List Row → List ℕ → List ℕ → ℕ → Type 0
Adds set n r rows rows_now old new large =
    (own : List ℕ) × IsLines set rows n r own large × (new ≡ old ++ own) × (rows_now ≡ rows_after set rows r)
