use Rattle.std.proofs.Common.{◌≡◌, ℕ, List, ◌++◌, map, Bor, sym, ap, ◌∙◌, arith, rules}
use Rattle.std.proofs.lemmas.List.{take_all}
use Rattle.std.specs.List.{join_with_byte}
use Rattle.apiservice_rows.specs.Row.{Row}
use Rattle.discovery_merge.specs.Documents.{version_text}
use Rattle.discovery_merge.proofs.JoinLemmas.{joined_first, joined_more, map_twice}
use Rattle.discovery_merge.proofs.documents.push_versions.Goals as goal
use Rattle.discovery_merge.proofs.documents.push_versions.Goals.{then-i-gt0+in_ok-push, else-i-gt0}

pub loop-i-preserved : goal.loop-i-preserved
loop-i-preserved c =
    let f : Bor Row → List ℕ = λ r. version_text c.args.group.now r.now.version in
    let x = c.index-rows-i.result in
    let version : c.as_str.result.now ≡ x.now.version = search rules in
    let now : c.push_version.new.out.items ≡ c.if-i-gt0.out.items ++ f x =
    c.in_ok-push_version.ensures ∙ ap (λ v. c.if-i-gt0.out.items ++ version_text c.args.group.now v) version in
    elim c.if-i-gt0.branch [
      | then-i-gt0+in_ok-push w ↦
          joined_more f c.args.rows.now x c.args.out.now.items c.loop-i.i c.loop-i.out.items c.if-i-gt0.out.items
          c.push_version.new.out.items w.if-i-gt0.true c.loop-i-test.true c.index-rows-i.is c.loop-i.invariant
          (ap (λ v. v.items) w.out-is ∙ w.in_ok-push.ensures.items) now
      | else-i-gt0 w ↦
          joined_first f c.args.rows.now x c.args.out.now.items c.loop-i.i c.if-i-gt0.out.items
          c.push_version.new.out.items w.if-i-gt0.false c.loop-i-test.true c.index-rows-i.is
          (ap (λ v. v.items) w.out-is ∙ c.loop-i.invariant) now
    ]

pub returns : goal.returns
returns c =
    let f = version_text c.args.group.now in
    c.loop-i.invariant
    ∙ ap (λ l. c.args.out.now.items ++ join_with_byte 44 l) (
    ap (map (λ (r : Bor Row). f r.now.version)) (take_all c.loop-i.i c.args.rows.now (omega arith))
    ∙ sym (map_twice f (λ (r : Row). r.version) (map (λ (r : Bor Row). r.now) c.args.rows.now)
    ∙ map_twice (λ (r : Row). f r.version) (λ (r : Bor Row). r.now) c.args.rows.now)
    )
