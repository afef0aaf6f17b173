use Rattle.std.proofs.Common.{◌≡◌, ℕ, List, ◌++◌, ◌∙◌, append_assoc}
use Rattle.std.specs.Prelude.{codes}
use Rattle.std.proofs.lemmas.Result.{on_ok_weaker}
use Rattle.json_span.specs.Quote.{quoted}
use Rattle.group_resources.specs.Lines.{line_of, state_word}
use Rattle.group_resources.specs.declared.line.State.{State}
use Rattle.group_resources.proofs.line.push_line.Goals as goal

joined : (out one two version word resources : List ℕ) (own : State) → one ≡ out ++ (codes "{\"groupVersion\":" ++ quoted version)
    → two ≡ one ++ (codes ",\"state\":" ++ quoted word) → word ≡ state_word own
    → two ++ (codes ",\"resources\":" ++ (resources ++ codes "}\n")) ≡ out ++ line_of version own resources
unfolding line_of
joined out one two version word resources own e f g = rw (f, e, g) (simp append_assoc)

pub returns : goal.returns
returns c =
    on_ok_weaker c.push_resources.result
    (λ e. e ∙ joined c.args.out.now.items c.push_member.new.out.items c.push_member-2.new.out.items c.args.version.now c.word_of.result.now
    c.args.resources.now c.args.state c.in_ok-push_member.ensures c.in_ok-push_member-2.ensures c.word_of.ensures)
    c.push_resources.ensures
