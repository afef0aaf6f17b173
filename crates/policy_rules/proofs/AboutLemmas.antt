-- What the tests of a rule's lists tell.
use Rattle.std.proofs.Common.{◌≡◌, ◌≢◌, ◌⊎◌, ℕ, ◌∷◌, ◌++◌, [], List, length, take, drop, slice_index_or, Bool, true, false, true≢false, inl, inr, refl, sym, ap, subst, ◌∙◌, arith}
use Rattle.std.specs.Prelude.{◌-◌, ◌==◌, ◌&&◌, ◌||◌, not, nat_eq, bytes_eq, codes, if◌then◌else◌, Any, Contains}
use Rattle.std.specs.Bool.{Decides}
use Rattle.std.specs.List.{list_any, starts_with, ends_with}
use Rattle.std.proofs.lemmas.Bool.Decides.{Decides-eqb, Decides-and, Decides-or, Decides-not, Decides-like}
use Rattle.std.proofs.lemmas.List.{take_at, drop_at, take-append-drop}
use Rattle.std.proofs.lemmas.List.Folds.{Any-from_list_any, list_any-from_Any}
use Rattle.std.proofs.lemmas.Slice.Eq.{bytes_eq-Decides}
use Rattle.front_base.specs.declared.info.Info.{Info}
use Rattle.front_base.specs.declared.user.User.{User}
use Rattle.policy_rules.specs.About.{NamesResource, HasResource, IsAboutResource, NamesPath, IsAboutPath, IsAbout}
use Rattle.policy_rules.specs.Matching.{is_empty, has, admits, shares, admits_one, is_resource, is_subresource, admits_resource, element_matches, has_element, admits_element, is_about_resources, matches_resource, front, is_url, has_url, matches_url, matches_user, matches}
use Rattle.policy_rules.specs.declared.rule.GroupResources.{GroupResources}
use Rattle.policy_rules.specs.declared.rule.Rule.{Rule}
use Rattle.policy_rules.proofs.MatchLemmas.{is_itself, before_last}

-- ---- tests

empty_tells : {A : Type 0} (xs : List A) → Decides (is_empty xs) (xs ≡ [])
empty_tells [] = (λ _. refl, λ _. refl)
empty_tells (x ∷ xs) = (
  λ e.
      let none : length (x ∷ xs) ≡ 0 = (Decides-eqb (length (x ∷ xs)) 0).0 e in
      absurd (omega (arith, none)),
  λ e. absurd (cc e),
)

any_tells : {A : Type 0} (p : A → Bool) (P : A → Type 0) → ((x : A) → Decides (p x) (P x)) → (xs : List A) → Decides (list_any p xs) (Any P xs)
any_tells p P each xs = (
  λ e.
      let a = Any-from_list_any p xs e in
      (a.0, a.1, a.2, a.3, (each a.1).0 a.4),
  λ a. list_any-from_Any p xs (a.0, a.1, a.2, a.3, (each a.1).1 a.4),
)

has_tells : (text : List ℕ) (texts : List (List ℕ)) → Decides (has text texts) (Contains texts text)
has_tells text texts = (
  λ e.
      let a = (any_tells (λ own. bytes_eq own text) (λ own. own ≡ text) (λ own. bytes_eq-Decides own text) texts).0 e in
      (a.0, a.2, subst (λ t. slice_index_or texts a.0 t ≡ t) a.4 a.3),
  λ h. (any_tells (λ own. bytes_eq own text) (λ own. own ≡ text) (λ own. bytes_eq-Decides own text) texts).1 (h.0, text, h.1, h.2, refl),
)

-- an empty list, or another test
or_empty : {A P : Type 0} (xs : List A) (b : Bool) → Decides b P → Decides (is_empty xs || b) ((xs ≡ []) ⊎ P)
or_empty xs b d = Decides-or (is_empty xs) b (empty_tells xs) d

admits_tells : (texts : List (List ℕ)) (text : List ℕ) → Decides (admits texts text) ((texts ≡ []) ⊎ Contains texts text)
admits_tells texts text = or_empty texts (has text texts) (has_tells text texts)

one_tells : (texts others : List (List ℕ)) → Decides (admits_one texts others) ((texts ≡ []) ⊎ Any (Contains others) texts)
one_tells texts others = or_empty texts (shares texts others) (any_tells (λ text. has text others) (Contains others) (λ text. has_tells text others) texts)

or_true : {P Q : Type 0} (b c : Bool) → Decides b P → Decides c Q → Decides (if b then true else c) (P ⊎ Q)
or_true true c p q = (λ _. inl (p.0 refl), λ _. refl)
or_true false c p q = Decides-or false c p q

by_test : {P Q R : Type 0} (b c d : Bool) → Decides b P → Decides c Q → Decides d R → Decides (if b then c else d) ((P × Q) ⊎ ((¬ P) × R))
by_test {P = P} {Q = Q} {R = R} true c d p q r = (λ e. inl (p.0 refl, q.0 e), λ h. one h)
  where
    one : (P × Q) ⊎ ((¬ P) × R) → c ≡ true
    one (inl h) = q.1 h.1
    one (inr h) = absurd (h.0 (p.0 refl))
by_test {P = P} {Q = Q} {R = R} false c d p q r = (λ e. inr (λ x. absurd (true≢false (sym (p.1 x))), r.0 e), λ h. one h)
  where
    one : (P × Q) ⊎ ((¬ P) × R) → d ≡ true
    one (inl h) = absurd (true≢false (sym (p.1 h.0)))
    one (inr h) = r.1 h.1

one_of_three : {P Q R : Type 0} (b c d : Bool) → Decides b P → Decides c Q → Decides d R → Decides (b || c || d) (P ⊎ Q ⊎ R)
one_of_three true c d p q r = (λ _. inl (p.0 refl), λ _. refl)
one_of_three {P = P} {Q = Q} {R = R} false c d p q r = (λ e. inr ((Decides-or c d q r).0 e), λ h. one h)
  where
    one : P ⊎ Q ⊎ R → (c || d) ≡ true
    one (inl h) = absurd (true≢false (sym (p.1 h)))
    one (inr h) = (Decides-or c d q r).1 h

-- ---- resources

pub resource_tells : (info : Info) (named : List ℕ) → Decides (is_resource info named) (NamesResource info named)
unfolding is_resource
resource_tells info named =
    or_true (bytes_eq named (codes "*")) _ (bytes_eq-Decides named (codes "*"))
    (by_test (is_empty info.subresource) (bytes_eq named info.resource) (is_subresource named info.resource info.subresource)
    (empty_tells info.subresource) (bytes_eq-Decides named info.resource)
    (one_of_three _ _ _ (bytes_eq-Decides named (info.resource ++ 47 ∷ info.subresource)) (bytes_eq-Decides named (42 ∷ 47 ∷ info.subresource))
    (bytes_eq-Decides named (info.resource ++ 47 ∷ 42 ∷ []))))

pub element_tells : (info : Info) (element : GroupResources) → Decides (element_matches info element) (HasResource info element)
unfolding element_matches
element_tells info element =
    Decides-like _ (λ h. record { group = h.0.0; names = h.0.1; resources = h.1 }) (λ h. ((h.group, h.names), h.resources))
    (Decides-and _ _ (Decides-and _ _ (bytes_eq-Decides element.group info.group) (admits_tells element.resource_names info.name))
    (or_empty element.resources (list_any (is_resource info) element.resources) (any_tells (is_resource info) (NamesResource info) (resource_tells info) element.resources)))

same_tells : (b : Bool) → Decides b (b ≡ true)
same_tells b = (λ e. e, λ e. e)

not_tells : (b : Bool) → Decides (not b) (b ≡ false)
not_tells true = (λ e. absurd (cc e), λ e. absurd (cc e))
not_tells false = (λ _. refl, λ _. refl)

-- both lists are empty, or something holds
unless_both : {P Q R : Type 0} (b c d : Bool) → Decides b P → Decides c Q → Decides d R → Decides (if not (not b || not c) then true else d) ((P × Q) ⊎ R)
unless_both true true d p q r = (λ _. inl (p.0 refl, q.0 refl), λ _. refl)
unless_both {P = P} {Q = Q} {R = R} true false d p q r = (λ e. inr (r.0 e), λ h. one h)
  where
    one : (P × Q) ⊎ R → d ≡ true
    one (inl h) = absurd (true≢false (sym (q.1 h.1)))
    one (inr h) = r.1 h
unless_both {P = P} {Q = Q} {R = R} false c d p q r = (λ e. inr (r.0 e), λ h. one h)
  where
    one : (P × Q) ⊎ R → d ≡ true
    one (inl h) = absurd (true≢false (sym (p.1 h.0)))
    one (inr h) = r.1 h

about_resource : (rule : Rule) (info : Info)
    → Decides (matches_resource rule info) (((rule.resources ≡ []) × (rule.namespaces ≡ [])) ⊎ IsAboutResource rule info)
unfolding matches_resource
about_resource rule info =
    unless_both (is_empty rule.resources) (is_empty rule.namespaces) _ (empty_tells rule.resources) (empty_tells rule.namespaces)
    (Decides-like _ (λ h. record { request = h.0.0; namespaces = h.0.1; resources = h.1 }) (λ h. ((h.request, h.namespaces), h.resources))
    (Decides-and _ _ (Decides-and _ _ (same_tells info.resource_request) (admits_tells rule.namespaces info.namespace))
    (or_empty rule.resources (has_element info rule.resources) (any_tells (element_matches info) (HasResource info) (element_tells info) rule.resources))))

-- ---- other paths

-- the last byte is an asterisk, and the path begins with the bytes before it
prefix_is : (path url : List ℕ) → (ends_with nat_eq url (codes "*") && starts_with nat_eq path (front url)) ≡ true
    → (start : List ℕ) × (rest : List ℕ) × (url ≡ start ++ codes "*") × (path ≡ start ++ rest)
prefix_is path url e =
    let both = (Decides-and (ends_with nat_eq url (codes "*")) (starts_with nat_eq path (front url)) (bytes_eq-Decides (codes "*") (drop (length url - 1) url)) (bytes_eq-Decides (front url) (take (length (front url)) path))).0 e in (
      front url,
      drop (length (front url)) path,
      sym (ap (λ last. front url ++ last) both.0 ∙ take-append-drop (length url - 1) url),
      sym (ap (λ start. start ++ drop (length (front url)) path) both.1 ∙ take-append-drop (length (front url)) path),
    )

begins : (start rest : List ℕ)
    → (ends_with nat_eq (start ++ 42 ∷ []) (42 ∷ []) && starts_with nat_eq (start ++ rest) (front (start ++ 42 ∷ []))) ≡ true
begins start rest =
    let len = before_last start 42 in
    let last : drop (length (start ++ 42 ∷ []) - 1) (start ++ 42 ∷ []) ≡ 42 ∷ [] = drop_at start (42 ∷ []) _ (sym len) in
    let before : take (length (start ++ 42 ∷ []) - 1) (start ++ 42 ∷ []) ≡ start = take_at start (42 ∷ []) _ (sym len) in
    let same : take (length start) (start ++ rest) ≡ start = take_at start rest (length start) refl in
    rw (last, before, same) (is_itself start)

is_prefix : (path url start rest : List ℕ) → url ≡ start ++ codes "*" → path ≡ start ++ rest
    → (ends_with nat_eq url (codes "*") && starts_with nat_eq path (front url)) ≡ true
is_prefix path url start rest e f = rw (e, f) (begins start rest)

pub url_tells : (path url : List ℕ) → Decides (is_url path url) (NamesPath path url)
unfolding is_url
url_tells path url = Decides-or _ _ (bytes_eq-Decides url path) (prefix_is path url, λ h. is_prefix path url h.0 h.1 h.2 h.3)

about_path : (rule : Rule) (info : Info) → Decides (matches_url rule info) ((rule.non_resource_urls ≡ []) ⊎ IsAboutPath rule info)
unfolding matches_url
about_path rule info =
    or_true (is_empty rule.non_resource_urls) _ (empty_tells rule.non_resource_urls)
    (Decides-and _ _ (not_tells info.resource_request) (any_tells (is_url info.path) (NamesPath info.path) (url_tells info.path) rule.non_resource_urls))

-- ---- the whole

pub rule_tells : (rule : Rule) (user : User) (info : Info) → Decides (matches rule user info) (IsAbout rule user info)
unfolding matches matches_user
rule_tells rule user info =
    Decides-like _ (λ h. record { users = h.0.0.0.0; groups = h.0.0.0.1; verbs = h.0.0.1; resources = h.0.1; urls = h.1 })
    (λ h. ((((h.users, h.groups), h.verbs), h.resources), h.urls))
    (Decides-and _ _ (Decides-and _ _ (Decides-and _ _
    (Decides-and _ _ (admits_tells rule.users user.name) (one_tells rule.user_groups user.groups))
    (admits_tells rule.verbs info.verb)) (about_resource rule info)) (about_path rule info))
