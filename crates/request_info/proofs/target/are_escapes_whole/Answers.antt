use Rattle.std.proofs.Common.{rules, ◌≡◌, ◌<◌, length, false, nat_eq, [], drop, sym, ◌∙◌, arith}
use Rattle.std.proofs.lemmas.List.{drop_all}
use Rattle.std.proofs.lemmas.Bool.Decides.{nat_tests}
use Rattle.request_info.proofs.EscapeLemmas.{whole_plain, whole_digit, whole_bad, whole_end}
use Rattle.request_info.proofs.target.are_escapes_whole.Goals as goal
use Rattle.request_info.proofs.target.are_escapes_whole.Goals.{then-owed-eq0+then-b-eq37, then-owed-eq0+else-b-eq37, else-owed-eq0+then-is_ascii_hexdigit}

pub returns-else-is_ascii_hexdigit : goal.returns-else-is_ascii_hexdigit
returns-else-is_ascii_hexdigit c =
    let lt : c.loop-b.b-index < length c.args.text.now = omega arith in
    let o : nat_eq c.loop-b.owed 0 ≡ false = grind (arith, nat_tests) in
    sym (whole_bad _ c.loop-b.owed c.args.text.now lt o (sym c.is_ascii_hexdigit.ensures.value ∙ c.if-is_ascii_hexdigit.false)) ∙ c.loop-b.invariant

pub loop-b-preserved : goal.loop-b-preserved
loop-b-preserved c =
    let lt : c.loop-b.b-index < length c.args.text.now = omega arith in
    elim c.if-owed-eq0.branch [
      | then-owed-eq0+then-b-eq37 w ↦ whole_plain _ c.loop-b.owed _ c.args.text.now lt (search rules) (grind (arith, nat_tests)) ∙ c.loop-b.invariant
      | then-owed-eq0+else-b-eq37 w ↦ whole_plain _ c.loop-b.owed _ c.args.text.now lt (search rules) (grind (arith, nat_tests)) ∙ c.loop-b.invariant
      | else-owed-eq0+then-is_ascii_hexdigit w ↦ whole_digit _ c.loop-b.owed _ c.args.text.now lt (grind (arith, nat_tests)) (sym w.is_ascii_hexdigit.ensures.value ∙ w.if-is_ascii_hexdigit.true) (search rules) ∙ c.loop-b.invariant
    ]

pub returns : goal.returns
returns c =
    let e : drop c.loop-b.b-index c.args.text.now ≡ [] = drop_all _ _ c.loop-b-test.false in
    sym (whole_end c.loop-b.owed) ∙ rw (← e) c.loop-b.invariant
