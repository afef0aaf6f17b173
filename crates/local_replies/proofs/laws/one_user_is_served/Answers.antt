use Rattle.std.proofs.Common.{◌≡◌, List, Option, Some, None, sym, ap, subst, ◌∙◌}
use Rattle.apiservice_rows.specs.Row.{Row}
use Rattle.apiservice_table.specs.Changes as table
use Rattle.apiservice_table.specs.Changes.{after, changed, placed, rows_of, IsLater, Story, Took}
use Rattle.apiservice_table.specs.declared.change.Change.{Change}
use Rattle.local_replies.specs.Looked.{looked}
use Rattle.local_replies.specs.Serve.{change_reply, done_in, local_reply, rows_after, rows_with, IsServed}
use Rattle.local_replies.specs.Tabulated.{tabulated}
use Rattle.local_replies.specs.declared.errand.LocalErrand.{LocalErrand}
use Rattle.local_replies.specs.declared.errand.LocalErrand.TheVariants.{Deny, Conflict, Look, Tabulate, Write, Try}
use Rattle.local_replies.specs.declared.local.Local.{Local}
use Rattle.local_replies.specs.declared.reply.LocalReply.{LocalReply}
use Rattle.local_replies.proofs.laws.one_user_is_served.Goals as goal

-- what the table's law says
abbrev Stands : Type 0
Stands = (old new : Story) → IsLater old.seen new.seen → new.opening ≡ old.opening → placed 0 new.seen ≡ placed 0 old.seen
    → rows_of new ≡ rows_of old

abbrev Takes : Type 0
Takes = (old new : Story) (change : Change) → new.opening ≡ old.opening
    → Took old.opening old.seen (placed 0 old.seen) change new.seen (placed 0 new.seen)
    → (table.refusal (rows_of old) change ≡ None) × (rows_of new ≡ changed (rows_of old) change)

-- what is served by one user
abbrev Serves : Story → Story → Local → LocalErrand → LocalReply → Type 0
Serves old new local errand reply =
    (reply ≡ local_reply (rows_of old) local errand) × (rows_of new ≡ rows_after (rows_of old) errand)

module _ (stands : Stands) (takes : Takes) (local : Local) (old new : Story) (reply : LocalReply)
    (later : IsLater old.seen new.seen) (fixed : new.opening ≡ old.opening) where
  -- the rows that were seen then, of the opening ones
  abbrev seen_then : List Row
  seen_then = after old.opening new.seen

  same_then : placed 0 new.seen ≡ placed 0 old.seen → seen_then ≡ rows_of old
  same_then own = ap (λ opening. after opening new.seen) (sym fixed) ∙ stands old new later fixed own

  served : (errand : LocalErrand) (change : Option Change)
      → IsServed local errand old.opening old.seen (placed 0 old.seen) new.seen (placed 0 new.seen) reply change
      → Serves old new local errand reply
  served (Deny code) change h = (h.0, stands old new later fixed h.3)
  served (Conflict name) change h = (h.0, stands old new later fixed h.3)
  served Look change h =
      (h.0 ∙ ap (looked local) (same_then h.2), stands old new later fixed h.2)
  served (Tabulate include moment) change h =
      (h.0 ∙ ap (tabulated local include moment) (same_then h.2), stands old new later fixed h.2)
  served (Try c) change h = (
    h.0 ∙ ap (λ (rows : List Row). change_reply rows c (table.refusal rows c)) (same_then h.2),
    stands old new later fixed h.2,
  )
  served (Write c) None h =
      let due : table.refusal (rows_of old) c ≡ Some h.0 =
      subst (λ rows. table.refusal rows c ≡ Some h.0) (same_then h.3) h.1 in (
        h.2 ∙ sym (ap (change_reply (rows_of old) c) due),
        stands old new later fixed h.3 ∙ sym (ap (rows_with (rows_of old) c) due),
      )
  served (Write c) (Some made) h =
      let took = takes old new c fixed h.2 in
      let left : seen_then ≡ changed (rows_of old) c = ap (λ opening. after opening new.seen) (sym fixed) ∙ took.1 in (
        h.1 ∙ ap (λ (rows : List Row). done_in rows c) left ∙ sym (ap (change_reply (rows_of old) c) took.0),
        took.1 ∙ sym (ap (rows_with (rows_of old) c) took.0),
      )

pub returns : goal.returns
returns c = λ local errand old new reply change later fixed h.
    served c.one_user_knows_the_rows.ensures.same c.one_user_knows_the_rows.ensures.more local old new reply later fixed
    errand change h
