-- The reply to a change that was made, from what is known before it is.
use Rattle.std.proofs.Common.{◌≡◌, ℕ, List, [], Option, Some, None, refl, sym, ap, ◌∙◌}
use Rattle.std.specs.Prelude.{unwrap_or}
use Rattle.apiservice_rows.specs.Row.{Row}
use Rattle.apiservice_table.specs.Changes as table
use Rattle.apiservice_table.specs.Changes.{changed, left_by}
use Rattle.apiservice_table.specs.Services.{object_named}
use Rattle.apiservice_table.specs.declared.change.Change.{Change}
use Rattle.apiservice_table.specs.declared.change.Change.TheVariants.{Create, Replace, Delete, Patch}
use Rattle.apiservice_table.specs.declared.change.ChangeFault.{ChangeFault}
use Rattle.local_replies.specs.Serve.{change_reply, done, done_in, refused}
use Rattle.local_replies.specs.Status.{json_reply}
use Rattle.local_replies.specs.declared.reply.LocalReply.{LocalReply}

-- a reply, with the object of a patch in the place of its body
abbrev pub with_left : LocalReply → Option (List ℕ) → LocalReply
with_left reply None = reply
with_left reply (Some object) = json_reply 200 object

pub left_told : (change : Change) (rows : List Row) → with_left (done change None) (left_by change rows) ≡ done_in rows change
left_told (Create row) rows = refl
left_told (Replace row) rows = refl
left_told (Delete name) rows = refl
left_told (Patch name patch) rows = by_object (object_named name rows)
  where
    by_object : (left : Option (List ℕ)) → with_left (json_reply 200 []) left ≡ json_reply 200 (unwrap_or left [])
    by_object None = refl
    by_object (Some object) = refl

pub done_left : (reply : LocalReply) (left : Option (List ℕ)) (change : Change) (rows : List Row) → reply ≡ done change None
    → left ≡ left_by change rows → with_left reply left ≡ done_in rows change
done_left reply left change rows r l =
    ap (λ x. with_left x left) r ∙ ap (with_left (done change None)) l ∙ left_told change rows

-- ---- a change that is tried only

pub tried_taken : (rows : List Row) (change : Change) (reply : LocalReply) → table.refusal rows change ≡ None
    → reply ≡ done_in (changed rows change) change → reply ≡ change_reply rows change (table.refusal rows change)
tried_taken rows change reply due e = e ∙ sym (ap (change_reply rows change) due)

pub tried_refused : (rows : List Row) (change : Change) (fault : ChangeFault) (reply : LocalReply)
    → table.refusal rows change ≡ Some fault → reply ≡ refused fault → reply ≡ change_reply rows change (table.refusal rows change)
tried_refused rows change fault reply due e = e ∙ sym (ap (change_reply rows change) due)
