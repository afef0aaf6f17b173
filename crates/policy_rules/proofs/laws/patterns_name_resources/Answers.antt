use Rattle.std.proofs.Common.{◌≡◌, ◌∷◌, ◌++◌, [], Bool, true, false, refl}
use Rattle.std.specs.Prelude.{if◌then◌else◌}
use Rattle.std.specs.Str.{bytes_eq}
use Rattle.policy_rules.specs.Matching.{is_resource}
use Rattle.policy_rules.proofs.MatchLemmas.{is_itself, or_first, or_last, is_longer, is_no_asterisk}
use Rattle.policy_rules.proofs.laws.patterns_name_resources.Goals as goal

-- one of the names with a subresource is enough
by_name : (star lone own named : Bool) → lone ≡ false → named ≡ true
    → (if star then true else if lone then own else named) ≡ true
by_name true lone own named h k = refl
by_name false lone own named h k = rw h k

pub returns : goal.returns
unfolding is_resource
returns c = record {
  all = λ info. refl;
  below = λ info more. by_name _ _ _ _ more (or_last _ _ (is_itself (info.resource ++ 47 ∷ 42 ∷ [])));
  not_itself = λ info none. rw (is_no_asterisk info.resource, none) (is_longer info.resource);
  of_any = λ info more.
      let named = 42 ∷ 47 ∷ info.subresource in
      by_name false _ (bytes_eq named info.resource) _ more
      (or_first _ (bytes_eq named (info.resource ++ 47 ∷ 42 ∷ [])) (or_last (bytes_eq named (info.resource ++ 47 ∷ info.subresource)) _ (is_itself named)));
}
