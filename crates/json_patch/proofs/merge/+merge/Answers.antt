use Rattle.std.proofs.Common.{◌≡◌, ◌∷◌, true, false, string_bytes, sym, ap, ◌∙◌, arith, rules}
use Rattle.std.proofs.lemmas.Grind.{common_steps}
use Rattle.std.specs.Prelude.{is_some, if◌then◌else◌}
use Rattle.json_value.specs.Size.{inside, inside_members}
use Rattle.serde_json.proofs.Views.{Entry, view-Object}
use Rattle.serde_json.specs.Data.{put}
use Rattle.serde_json.specs.Find.{as_null}
use Rattle.serde_json.specs.View.{view, members_view}
use Rattle.json_patch.specs.Merge.{without, value_at, merged, merged_members}
use Rattle.json_patch.proofs.Entries.{removed, replaced, taken}
use Rattle.json_patch.proofs.merge.+merge.Goals as goal

pub merge_member-returns-then-is_null : goal.merge_member-returns-then-is_null
merge_member-returns-then-is_null t c =
    let old = c.args.members.now.entries in
    let name = string_bytes c.args.name in
    let same : c.as_str.result.now ≡ name = search rules in
    let yes : is_some (as_null (view c.args.change)) ≡ true = search rules in
    ap members_view c.remove-old.ensures.entries ∙ removed c.as_str.result.now old c.names_ascend.ensures
    ∙ ap (λ k. without k (members_view old)) same
    ∙ sym (ap (λ b. if b then without name (members_view old) else put name (merged (value_at name (members_view old)) (view c.args.change)) (members_view old)) yes)

pub merge_member-merge_patch-requires : goal.merge_member-merge_patch-requires
merge_member-merge_patch-requires t c = (omega (arith, c.decreases), tt)

pub merge_member-returns : goal.merge_member-returns
merge_member-returns t c =
    let old = c.args.members.now.entries in
    let name = string_bytes c.args.name in
    let same : c.as_str.result.now ≡ name = search rules in
    let no : is_some (as_null (view c.args.change)) ≡ false = search rules in
    let gone : members_view c.remove-old.new.self.entries ≡ without name (members_view old) =
    ap members_view c.remove-old.ensures.entries ∙ removed c.as_str.result.now old c.names_ascend.ensures
    ∙ ap (λ k. without k (members_view old)) same in
    let before : view c.unwrap_or.result ≡ value_at name (members_view old) =
    ap view c.unwrap_or.ensures ∙ taken c.as_str.result.now old c.remove-old.result c.remove-old.ensures.value
    ∙ ap (λ k. value_at k (members_view old)) same in
    let value : view c.in_ok-merged.merged ≡ merged (value_at name (members_view old)) (view c.args.change) =
    c.in_ok-merged.ensures ∙ ap (λ d. merged d (view c.args.change)) before in
    replaced c.args.name c.in_ok-merged.merged old c.remove-old.new.self.entries c.insert.new.self.entries c.names_ascend.ensures gone c.in_ok-insert.ensures.entries
    ∙ ap (λ d. put name d (members_view old)) value
    ∙ sym (ap (λ b. if b then without name (members_view old) else put name (merged (value_at name (members_view old)) (view c.args.change)) (members_view old)) no)

pub merge_members-merge_member-requires : goal.merge_members-merge_member-requires
merge_members-merge_member-requires t c =
    let e : Entry = (c.in-Some.name, c.in-Some.change) in
    let iter : c.loop-name.name-iterator ≡ e ∷ c.next.new.self = grind (arith, common_steps) in
    (omega (arith, c.decreases, c.loop-name.invariant.size, ap (λ es. inside_members (members_view es)) iter), tt)

pub merge_members-loop-name-preserved : goal.merge_members-loop-name-preserved
merge_members-loop-name-preserved t c =
    let e : Entry = (c.in-Some.name, c.in-Some.change) in
    let iter : c.loop-name.name-iterator ≡ e ∷ c.next.new.self = grind (arith, common_steps) in
    record {
      size = omega (arith, c.loop-name.invariant.size, ap (λ es. inside_members (members_view es)) iter);
      rest = ap (λ ms. merged_members ms (members_view c.next.new.self)) c.in_ok-merge_member.ensures
          ∙ ap (λ es. merged_members (members_view c.loop-name.members.entries) (members_view es)) (sym iter)
          ∙ c.loop-name.invariant.rest;
    }

pub merge_patch-merge_members-requires : goal.merge_patch-merge_members-requires
merge_patch-merge_members-requires t c =
    let size : inside (view c.args.patch) ≡ inside_members (members_view c.in-Object.changes.entries) = rw (c.in-Object.is, view-Object c.in-Object.changes) in
    (omega (arith, c.decreases, size), tt)
