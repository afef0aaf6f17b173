-- What a request on a local path is answered, and which change it makes of the table of APIs (Kubernetes, "API
-- conventions": status codes).
use Rattle.std.specs.Prelude.{◌≡◌, ℕ, List, [], Option, Some, None, unwrap_or}
use Rattle.apiservice_rows.specs.Row.{Row}
use Rattle.apiservice_table.specs.Changes.{after, changed, left_by, Took}
use Rattle.apiservice_table.specs.Changes as table
use Rattle.apiservice_table.specs.declared.change.Change.{Change}
use Rattle.apiservice_table.specs.declared.change.Change.TheVariants.{Create, Replace, Delete, Patch}
use Rattle.apiservice_table.specs.declared.change.ChangeFault.{ChangeFault}
use Rattle.apiservice_table.specs.declared.change.ChangeFault.TheVariants.{Exists, Missing, Full, Invalid, NoMemory}
use Rattle.local_replies.specs.Looked.{looked}
use Rattle.local_replies.specs.Status.{conflict, json_reply, refusal, success}
use Rattle.local_replies.specs.Tabulated.{tabulated}
use Rattle.local_replies.specs.declared.errand.LocalErrand.{LocalErrand}
use Rattle.local_replies.specs.declared.errand.LocalErrand.TheVariants.{Deny, Conflict, Look, Tabulate, Write, Try}
use Rattle.local_replies.specs.declared.local.Local.{Local}
use Rattle.local_replies.specs.declared.reply.LocalReply.{LocalReply}

-- a change that was made, and that left that object where it is a patch
abbrev pub done : Change → Option (List ℕ) → LocalReply
done (Create row) left = json_reply 201 row.object
done (Replace row) left = json_reply 200 row.object
done (Delete name) left = success
done (Patch name patch) left = json_reply 200 (unwrap_or left [])

-- a change that these are the rows after
abbrev pub done_in : List Row → Change → LocalReply
done_in rows change = done change (left_by change rows)

-- a change that the rows don't take; they never lack memory, and no reply says so
abbrev pub refused : ChangeFault → LocalReply
refused Exists = refusal 409
refused Missing = refusal 404
refused Full = refusal 422
refused Invalid = refusal 422
refused NoMemory = refusal 500

-- the reply to a change: it is made, unless a refusal is due
abbrev pub change_reply : List Row → Change → Option ChangeFault → LocalReply
change_reply rows change None = done_in (changed rows change) change
change_reply rows change (Some fault) = refused fault

-- the rows after a change that is asked for, unless a refusal is due
abbrev pub rows_with : List Row → Change → Option ChangeFault → List Row
rows_with rows change None = changed rows change
rows_with rows change (Some fault) = rows

-- what an errand is answered by the rows as they stand
abbrev pub local_reply : List Row → Local → LocalErrand → LocalReply
local_reply rows local (Deny code) = refusal code
local_reply rows local (Conflict name) = conflict name
local_reply rows local Look = looked local rows
local_reply rows local (Tabulate include moment) = tabulated local include moment rows
local_reply rows local (Write change) = change_reply rows change (table.refusal rows change)
local_reply rows local (Try change) = change_reply rows change (table.refusal rows change)

-- the rows after it
abbrev pub rows_after : List Row → LocalErrand → List Row
rows_after rows (Deny code) = rows
rows_after rows (Conflict name) = rows
rows_after rows Look = rows
rows_after rows (Tabulate include moment) = rows
rows_after rows (Write change) = rows_with rows change (table.refusal rows change)
rows_after rows (Try change) = rows

-- what became of a change: the routes took it, or they refused it by the rows that were seen, and took none
abbrev pub IsDecided : Change → List Row → List Change → List (ℕ × Change) → List Change → List (ℕ × Change)
    → LocalReply → Option Change → Type 0
IsDecided change opening seen own new_seen new_own reply (Some made) =
    (made ≡ change) × (reply ≡ done_in (after opening new_seen) change) × Took opening seen own change new_seen new_own
IsDecided change opening seen own new_seen new_own reply None =
    (fault : ChangeFault) × (table.refusal (after opening new_seen) change ≡ Some fault) × (reply ≡ refused fault)
    × (new_own ≡ own)

-- the reply to an errand and the change that was made, over routes that had seen so much, and have seen so much then:
-- a denial touches no routes; a look is answered by the rows that are seen then, and so is a change that is tried only
abbrev pub IsServed : Local → LocalErrand → List Row → List Change → List (ℕ × Change) → List Change → List (ℕ × Change)
    → LocalReply → Option Change → Type 0
IsServed local (Deny code) opening seen own new_seen new_own reply change =
    (reply ≡ refusal code) × (change ≡ None) × (new_seen ≡ seen) × (new_own ≡ own)
IsServed local (Conflict name) opening seen own new_seen new_own reply change =
    (reply ≡ conflict name) × (change ≡ None) × (new_seen ≡ seen) × (new_own ≡ own)
IsServed local Look opening seen own new_seen new_own reply change =
    (reply ≡ looked local (after opening new_seen)) × (change ≡ None) × (new_own ≡ own)
IsServed local (Tabulate include moment) opening seen own new_seen new_own reply change =
    (reply ≡ tabulated local include moment (after opening new_seen)) × (change ≡ None) × (new_own ≡ own)
IsServed local (Write asked) opening seen own new_seen new_own reply change =
    IsDecided asked opening seen own new_seen new_own reply change
IsServed local (Try asked) opening seen own new_seen new_own reply change =
    (reply ≡ change_reply (after opening new_seen) asked (table.refusal (after opening new_seen) asked))
    × (change ≡ None) × (new_own ≡ own)
