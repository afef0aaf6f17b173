-- Users and objects that were written are read again.
use Rattle.std.proofs.Common.{◌≡◌, ◌≢◌, ℕ, true, List, [], ◌∷◌, ◌++◌, map, Option, Some, None, refl, ap, sym, ◌∙◌}
use Rattle.std.specs.Prelude.{codes}
use Rattle.std.specs.Prelude.{IfSome}
use Rattle.std.specs.Str.{is_utf8}
use Rattle.std.proofs.lemmas.List.{append-nil}
use Rattle.front_base.specs.declared.user.User.{User}
use Rattle.stage_event.specs.declared.event.ObjectRef.{ObjectRef}
use Rattle.json_span.specs.Quote.{quoted}
use Rattle.event_text.specs.Members.{member, joined, after_commas, object, text_if_any, list_if_any, object_if_any}
use Rattle.event_text.specs.Line.{user_members, reference_members, impersonated_members, object_ref_members}
use Rattle.event_members.specs.TextMembers.{after_word, skip_comma, texts_if_at, user_at, three_at, reference_at, impersonated_at, object_ref_at, one_if}
use Rattle.event_members.specs.Ranges.{IsUser, IsReference}
use Rattle.event_members.specs.ReadBack.{Names, Misses}
use Rattle.event_members.proofs.MemberLemmas.{AreUtf8, text_if_again, texts_if_again, lacks_text, lacks_list, object_inside, object_end_again, value_again}

groups_again : (vs : List (List ℕ)) (rest : List ℕ) → AreUtf8 vs → skip_comma (125 ∷ rest) ≡ 125 ∷ rest →
    texts_if_at (codes "\"groups\":") (joined (list_if_any (codes "groups") (map quoted vs)) ++ 125 ∷ rest) ≡ Some (vs, 125 ∷ rest)
groups_again vs rest valid ends =
    ap (λ (l : List (List ℕ)). texts_if_at (codes "\"groups\":") (joined l ++ 125 ∷ rest)) (sym (append-nil (list_if_any (codes "groups") (map quoted vs))))
    ∙ texts_if_again (codes "\"groups\":") (codes "groups") vs [] (125 ∷ rest) (λ x. refl) ends valid refl

lacks_groups : (label : List ℕ) (vs : List (List ℕ)) (rest : List ℕ) → Misses label (codes "groups") → after_word label (125 ∷ rest) ≡ None →
    after_word label (joined (list_if_any (codes "groups") (map quoted vs)) ++ 125 ∷ rest) ≡ None
lacks_groups label vs rest misses lacks =
    ap (λ (l : List (List ℕ)). after_word label (joined l ++ 125 ∷ rest)) (sym (append-nil (list_if_any (codes "groups") (map quoted vs))))
    ∙ lacks_list label (codes "groups") (map quoted vs) [] (125 ∷ rest) misses lacks

pub user_again : (u : User) (ms : List (List ℕ)) (t : List ℕ) → skip_comma t ≡ t → IsUser u →
    user_at (object (user_members u) ++ (after_commas ms ++ t)) ≡ Some (u, joined ms ++ t)
unfolding user_at
user_again u ms t ends valid =
    let after = after_commas ms ++ t in
    let rest = 125 ∷ after in
    let groups = list_if_any (codes "groups") (map quoted u.groups) in
    let uid = text_if_any (codes "uid") u.uid ++ groups in
    ap user_at (object_inside (user_members u) ms t)
    ∙ rw (
      text_if_again (codes "\"username\":") (codes "username") u.name uid rest (λ x. refl) refl valid.name
          (lacks_text (codes "\"username\":") (codes "uid") u.uid groups rest (λ x. refl) (lacks_groups (codes "\"username\":") u.groups after (λ x. refl) refl)),
      text_if_again (codes "\"uid\":") (codes "uid") u.uid groups rest (λ x. refl) refl valid.uid (lacks_groups (codes "\"uid\":") u.groups after (λ x. refl) refl),
      groups_again u.groups after valid.groups refl,
      object_end_again ms t ends,
    ) refl

pub three_again : (l1 l2 l3 n1 n2 n3 v1 v2 v3 : List ℕ) (ms : List (List ℕ)) (t : List ℕ) → Names l1 n1 → Names l2 n2 → Names l3 n3 → Misses l1 n2 → Misses l1 n3 → Misses l2 n3 →
    skip_comma t ≡ t → is_utf8 v1 ≡ true → is_utf8 v2 ≡ true → is_utf8 v3 ≡ true →
    after_word l1 (joined ms ++ t) ≡ None → after_word l2 (joined ms ++ t) ≡ None → after_word l3 (joined ms ++ t) ≡ None →
    three_at l1 l2 l3 (joined (text_if_any n1 v1 ++ (text_if_any n2 v2 ++ (text_if_any n3 v3 ++ ms))) ++ t) ≡ Some ((v1, v2, v3), joined ms ++ t)
unfolding three_at
three_again l1 l2 l3 n1 n2 n3 v1 v2 v3 ms t k1 k2 k3 d12 d13 d23 ends u1 u2 u3 a1 a2 a3 =
    let m3 = text_if_any n3 v3 ++ ms in
    let m2 = text_if_any n2 v2 ++ m3 in
    rw (
      text_if_again l1 n1 v1 m2 t k1 ends u1 (lacks_text l1 n2 v2 m3 t d12 (lacks_text l1 n3 v3 ms t d13 a1)),
      text_if_again l2 n2 v2 m3 t k2 ends u2 (lacks_text l2 n3 v3 ms t d23 a2),
      text_if_again l3 n3 v3 ms t k3 ends u3 a3,
    ) refl

pub reference_again : (o : ObjectRef) (ms : List (List ℕ)) (t : List ℕ) → skip_comma t ≡ t → IsReference o →
    reference_at (object (reference_members o) ++ (after_commas ms ++ t)) ≡ Some (o, joined ms ++ t)
unfolding reference_at
reference_again o ms t ends valid =
    let after = after_commas ms ++ t in
    let rest = 125 ∷ after in
    let last = text_if_any (codes "subresource") o.subresource in
    let kind = text_if_any (codes "apiGroup") o.group ++ (text_if_any (codes "apiVersion") o.version ++ last) in
    let more : last ++ [] ≡ last = append-nil last in
    let kinds : three_at (codes "\"apiGroup\":") (codes "\"apiVersion\":") (codes "\"subresource\":") (joined kind ++ rest) ≡ Some ((o.group, o.version, o.subresource), rest) =
    ap (λ (l : List (List ℕ)). three_at (codes "\"apiGroup\":") (codes "\"apiVersion\":") (codes "\"subresource\":") (joined (text_if_any (codes "apiGroup") o.group ++ (text_if_any (codes "apiVersion") o.version ++ l)) ++ rest)) (sym more)
    ∙ three_again (codes "\"apiGroup\":") (codes "\"apiVersion\":") (codes "\"subresource\":") (codes "apiGroup") (codes "apiVersion") (codes "subresource") o.group o.version o.subresource [] rest
    (λ x. refl) (λ x. refl) (λ x. refl) (λ x. refl) (λ x. refl) (λ x. refl) refl valid.group valid.version valid.subresource refl refl refl in
    let lacks = λ (label : List ℕ) (g : Misses label (codes "apiGroup")) (v : Misses label (codes "apiVersion")) (s : Misses label (codes "subresource")) (e : after_word label rest ≡ None).
    lacks_kind label o.group o.version o.subresource rest g v s e in
    ap reference_at (object_inside (reference_members o) ms t)
    ∙ rw (
      three_again (codes "\"resource\":") (codes "\"namespace\":") (codes "\"name\":") (codes "resource") (codes "namespace") (codes "name") o.resource o.namespace o.name kind rest
          (λ x. refl) (λ x. refl) (λ x. refl) (λ x. refl) (λ x. refl) (λ x. refl) refl valid.resource valid.namespace valid.name
          (lacks (codes "\"resource\":") (λ x. refl) (λ x. refl) (λ x. refl) refl) (lacks (codes "\"namespace\":") (λ x. refl) (λ x. refl) (λ x. refl) refl) (lacks (codes "\"name\":") (λ x. refl) (λ x. refl) (λ x. refl) refl),
      kinds,
      object_end_again ms t ends,
    ) refl
  where
    lacks_kind : (label g v s rest : List ℕ) → Misses label (codes "apiGroup") → Misses label (codes "apiVersion") → Misses label (codes "subresource") → after_word label rest ≡ None →
        after_word label (joined (text_if_any (codes "apiGroup") g ++ (text_if_any (codes "apiVersion") v ++ text_if_any (codes "subresource") s)) ++ rest) ≡ None
    lacks_kind label g v s rest mg mv ms e =
        ap (λ (l : List (List ℕ)). after_word label (joined (text_if_any (codes "apiGroup") g ++ (text_if_any (codes "apiVersion") v ++ l)) ++ rest)) (sym (append-nil (text_if_any (codes "subresource") s)))
        ∙ lacks_text label (codes "apiGroup") g (text_if_any (codes "apiVersion") v ++ (text_if_any (codes "subresource") s ++ [])) rest mg
        (lacks_text label (codes "apiVersion") v (text_if_any (codes "subresource") s ++ []) rest mv
        (lacks_text label (codes "subresource") s [] rest ms e))

-- ---- where they may be left out

pub impersonated_again : (o : Option User) (ms : List (List ℕ)) (t : List ℕ) → skip_comma t ≡ t → IfSome o (λ u. IsUser u × (user_members u ≢ [])) →
    after_word (codes "\"impersonatedUser\":") (joined ms ++ t) ≡ None → impersonated_at (joined (impersonated_members o ++ ms) ++ t) ≡ Some (o, joined ms ++ t)
unfolding impersonated_at
impersonated_again None ms t ends valid lacks = rw lacks refl
impersonated_again (Some u) ms t ends valid lacks = there (user_members u) refl
  where
    there : (inner : List (List ℕ)) → user_members u ≡ inner →
        one_if user_at (after_word (codes "\"impersonatedUser\":") (joined (object_if_any (codes "impersonatedUser") (user_members u) ++ ms) ++ t)) (joined (object_if_any (codes "impersonatedUser") (user_members u) ++ ms) ++ t) ≡ Some (Some u, joined ms ++ t)
    there [] e = absurd (valid.1 e)
    there (m ∷ more) e =
        let named : object_if_any (codes "impersonatedUser") (user_members u) ≡ member (codes "impersonatedUser") (object (user_members u)) ∷ [] = rw e refl in
        ap (λ (l : List (List ℕ)). one_if user_at (after_word (codes "\"impersonatedUser\":") (joined (l ++ ms) ++ t)) (joined (l ++ ms) ++ t)) named
        ∙ rw (value_again (codes "\"impersonatedUser\":") (codes "impersonatedUser") (object (user_members u)) ms t (λ x. refl), user_again u ms t ends valid.0) refl

pub object_ref_again : (o : Option ObjectRef) (ms : List (List ℕ)) (t : List ℕ) → skip_comma t ≡ t → IfSome o (λ r. IsReference r × (reference_members r ≢ [])) →
    after_word (codes "\"objectRef\":") (joined ms ++ t) ≡ None → object_ref_at (joined (object_ref_members o ++ ms) ++ t) ≡ Some (o, joined ms ++ t)
unfolding object_ref_at
object_ref_again None ms t ends valid lacks = rw lacks refl
object_ref_again (Some r) ms t ends valid lacks = there (reference_members r) refl
  where
    there : (inner : List (List ℕ)) → reference_members r ≡ inner →
        one_if reference_at (after_word (codes "\"objectRef\":") (joined (object_if_any (codes "objectRef") (reference_members r) ++ ms) ++ t)) (joined (object_if_any (codes "objectRef") (reference_members r) ++ ms) ++ t) ≡ Some (Some r, joined ms ++ t)
    there [] e = absurd (valid.1 e)
    there (m ∷ more) e =
        let named : object_if_any (codes "objectRef") (reference_members r) ≡ member (codes "objectRef") (object (reference_members r)) ∷ [] = rw e refl in
        ap (λ (l : List (List ℕ)). one_if reference_at (after_word (codes "\"objectRef\":") (joined (l ++ ms) ++ t)) (joined (l ++ ms) ++ t)) named
        ∙ rw (value_again (codes "\"objectRef\":") (codes "objectRef") (object (reference_members r)) ms t (λ x. refl), reference_again r ms t ends valid.0) refl
