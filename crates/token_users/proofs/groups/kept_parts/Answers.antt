use Rattle.std.proofs.Common.{◌+◌, ◌++◌, drop, sym, ap, ◌∙◌}
use Rattle.std.specs.Prelude.{filter, not}
use Rattle.token_users.specs.File.{is_some_text, texts_of}
use Rattle.token_users.proofs.KeptLemmas.{part_kept, part_left_out}
use Rattle.token_users.proofs.groups.kept_parts.Goals as goal
use Rattle.token_users.proofs.groups.kept_parts.Goals.{then-not-is_empty+in_ok-push_copy, else-not-is_empty}

pub loop-part-preserved : goal.loop-part-preserved
loop-part-preserved c =
    let parts = c.args.parts.now in
    let i = c.loop-part.part-index in
    elim c.if-not-is_empty.branch [
      | then-not-is_empty+in_ok-push_copy w ↦
          ap (λ v. v.items ++ filter is_some_text (texts_of (drop (i + 1) parts))) w.groups-is
          ∙ (ap (λ l. l ++ filter is_some_text (texts_of (drop (i + 1) parts))) w.in_ok-push_copy.ensures
          ∙ part_kept parts i _ c.loop-part.groups.items _ c.loop-part-test.true (ap not (sym w.if-not-is_empty.ensures)) c.loop-part.invariant)
      | else-not-is_empty w ↦
          ap (λ v. v.items ++ filter is_some_text (texts_of (drop (i + 1) parts))) w.groups-is
          ∙ part_left_out parts i _ c.loop-part.groups.items _ c.loop-part-test.true (ap not (sym w.if-not-is_empty.ensures)) c.loop-part.invariant
    ]
