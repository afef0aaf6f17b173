use Rattle.std.proofs.Common.{◌≡◌, ◌+◌, ◌*◌, ◌≤◌}
use Rattle.json_value.specs.Size.{inside, inside_members}
use Rattle.serde_json.specs.View.{view, members_view}
use Rattle.json_patch.specs.Merge.{merged_members}
use Rattle.json_patch.proofs.merge.+merge.Given as goal

abbrev pub decreases-merge_patch : goal.decreases-merge_patch
decreases-merge_patch l = 3 * inside (view l.patch) + 1

abbrev pub decreases-merge_members : goal.decreases-merge_members
decreases-merge_members l = 3 * inside_members (members_view l.changes.entries)

abbrev pub decreases-merge_member : goal.decreases-merge_member
decreases-merge_member l = 3 * inside (view l.change) + 2

abbrev pub invariant-merge_members-loop-name : goal.invariant-merge_members-loop-name
invariant-merge_members-loop-name l = record {
  size : inside_members (members_view l.name-iterator) ≤ inside_members (members_view l.fn.changes.entries);
  rest : merged_members (members_view l.members.entries) (members_view l.name-iterator)
      ≡ merged_members (members_view l.fn.target.entries) (members_view l.fn.changes.entries);
}
