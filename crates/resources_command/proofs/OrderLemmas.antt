-- Groups pushed one after another.
use Rattle.std.proofs.Common.{◌≡◌, ℕ, ◌+◌, ◌<◌, ◌≤◌, List, [], ◌∷◌, ◌++◌, length, drop, get_or, sym, ap, ◌∙◌, append_assoc, append-nil}
use Rattle.std.proofs.lemmas.List.{drop_all, drop_more}
use Rattle.discovery_merge.specs.declared.groups.Group.{Group}
use Rattle.resources_command.specs.Order.{all_versions, versions_of}
use Rattle.resources_command.specs.declared.group_versions.GroupVersion.{GroupVersion}

pub next_group : (o p all : List GroupVersion) (groups : List Group) (i : ℕ) (g : Group) → i < length groups → g ≡ get_or groups i g
    → p ≡ o ++ versions_of g → o ++ all_versions (drop i groups) ≡ all → p ++ all_versions (drop (i + 1) groups) ≡ all
next_group o p all groups i g lt is e so_far =
    let here : drop i groups ≡ g ∷ drop (i + 1) groups = drop_more groups i g lt ∙ ap (λ (x : Group). x ∷ drop (i + 1) groups) (sym is) in
    ap (λ (l : List GroupVersion). l ++ all_versions (drop (i + 1) groups)) e
    ∙ append_assoc o (versions_of g) (all_versions (drop (i + 1) groups))
    ∙ ap (λ (l : List Group). o ++ all_versions l) (sym here)
    ∙ so_far

pub last_group : (o all : List GroupVersion) (groups : List Group) (i : ℕ) → length groups ≤ i → o ++ all_versions (drop i groups) ≡ all → o ≡ all
last_group o all groups i le so_far =
    let none : drop i groups ≡ [] = drop_all i groups le in
    sym (append-nil o) ∙ ap (λ (l : List Group). o ++ all_versions l) (sym none) ∙ so_far
