use Rattle.std.proofs.Common.{◌≡◌, ◌+◌, ◌≤◌, length, ap, ◌∙◌, sym, arith, Some, None, cond, true, inl, inr}
use Rattle.std.proofs.lemmas.Bool.Decides.{nat_tests}
use Rattle.json_span.specs.Value.{flat, flat_members}
use Rattle.json_span.specs.Member.{span_from}
use Rattle.json_span.proofs.SpanLemmas.{all_left, brace_of, no_name, next_of, none_left, others_end, named_so, behind_next, last_span, next_left, ends_are, not_none}
use Rattle.json_span.proofs.members.member.Goals as goal
use Rattle.json_span.proofs.members.member.Goals.{then-to-text-via-then-to-text, then-to-text-via-else-to-text+then-text-to-ne44}

pub loop-at-init : goal.loop-at-init
loop-at-init c =
    let some : 1 ≤ length c.args.text.now = grind (arith, nat_tests, c.if-is_empty.ensures) in
    let brace = brace_of c.args.text.now some c.if-text-ne123.false in
    (some, λ v h e. all_left c.args.name.now c.args.text.now brace.0 v h e brace.1)

pub returns-then-text-at-ne34-clause-found : goal.returns-then-text-at-ne34-clause-found
returns-then-text-at-ne34-clause-found c = λ v h e. sym (no_name c.args.name.now c.args.text.now c.loop-at.at v c.loop-at-test.true c.if-text-at-ne34.true (c.loop-at.invariant.1 v h e))

pub returns-in_err-colon-clause-found : goal.returns-in_err-colon-clause-found
returns-in_err-colon-clause-found c = λ v h e.
    let next = next_of c.args.name.now c.args.text.now c.loop-at.at v c.loop-at-test.true c.if-text-at-ne34.false (c.loop-at.invariant.1 v h e) in
    let entry = c.entry_at.ensures.entry next.string next.value (flat_members true next.others) next.is next.entry (others_end next.others) in
    absurd (not_none c.entry_at.result (c.loop-at.at + length next.string) (c.loop-at.at + length next.string + 1 + length (flat next.value)) c.in_err-colon.was entry)

pub returns-then-is_name-clause-found : goal.returns-then-is_name-clause-found
returns-then-is_name-clause-found c = λ v h e.
    let name = c.args.name.now in
    let text = c.args.text.now in
    let at = c.loop-at.at in
    let colon = c.in_ok-colon.colon in
    let to = c.in_ok-colon.to in
    let next = next_of name text at v c.loop-at-test.true c.if-text-at-ne34.false (c.loop-at.invariant.1 v h e) in
    let entry = c.entry_at.ensures.entry next.string next.value (flat_members true next.others) next.is next.entry (others_end next.others) in
    let ends = ends_are c.entry_at.result colon to (at + length next.string) (at + length next.string + 1 + length (flat next.value)) c.in_ok-colon.was entry in
    sym (named_so name text at colon to v next c.is_name.result c.is_name.ensures ends.0 ends.1 ∙ ap (λ b. cond b (Some (colon + 1, to)) (span_from (to + 1) name next.others)) c.if-is_name.true)

pub returns-then-to-text-clause-found : goal.returns-then-to-text-clause-found
returns-then-to-text-clause-found c = λ v h e.
    let name = c.args.name.now in
    let text = c.args.text.now in
    let at = c.loop-at.at in
    let colon = c.in_ok-colon.colon in
    let to = c.in_ok-colon.to in
    let next = next_of name text at v c.loop-at-test.true c.if-text-at-ne34.false (c.loop-at.invariant.1 v h e) in
    let entry = c.entry_at.ensures.entry next.string next.value (flat_members true next.others) next.is next.entry (others_end next.others) in
    let ends = ends_are c.entry_at.result colon to (at + length next.string) (at + length next.string + 1 + length (flat next.value)) c.in_ok-colon.was entry in
    let span = named_so name text at colon to v next c.is_name.result c.is_name.ensures ends.0 ends.1 ∙ ap (λ b. cond b (Some (colon + 1, to)) (span_from (to + 1) name next.others)) c.if-is_name.false in
    let last : span_from (to + 1) name next.others ≡ None = elim c.then-to-text.branch [
      | then-to-text-via-then-to-text w ↦ last_span name text to next.others c.in_ok-colon.ensures.within.2 (inl w.if-to-text.true) (behind_next name text at to v next ends.1)
      | then-to-text-via-else-to-text+then-text-to-ne44 w ↦ last_span name text to next.others c.in_ok-colon.ensures.within.2 (inr w.if-text-to-ne44.true) (behind_next name text at to v next ends.1)
    ] in
    sym (span ∙ last)

pub loop-at-preserved : goal.loop-at-preserved
loop-at-preserved c =
    let name = c.args.name.now in
    let text = c.args.text.now in
    let at = c.loop-at.at in
    let colon = c.in_ok-colon.colon in
    let to = c.in_ok-colon.to in
    let more : to + 1 ≤ length text = omega (arith, c.in_ok-colon.ensures.within.2, c.if-to-text.false) in (
      more,
      λ v h e.
          let next = next_of name text at v c.loop-at-test.true c.if-text-at-ne34.false (c.loop-at.invariant.1 v h e) in
          let entry = c.entry_at.ensures.entry next.string next.value (flat_members true next.others) next.is next.entry (others_end next.others) in
          let ends = ends_are c.entry_at.result colon to (at + length next.string) (at + length next.string + 1 + length (flat next.value)) c.in_ok-colon.was entry in
          let span = named_so name text at colon to v next c.is_name.result c.is_name.ensures ends.0 ends.1 ∙ ap (λ b. cond b (Some (colon + 1, to)) (span_from (to + 1) name next.others)) c.if-is_name.false in
          (next.others, next.entries, next_left text to next.others (omega (arith, more)) c.if-text-to-ne44.false (behind_next name text at to v next ends.1), span),
    )

pub returns-clause-found : goal.returns-clause-found
returns-clause-found c = λ v h e. sym (none_left c.args.name.now c.args.text.now c.loop-at.at v c.loop-at-test.false (c.loop-at.invariant.1 v h e))
