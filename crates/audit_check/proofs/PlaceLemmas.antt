-- Whether an event agrees with its request, as a test and as what holds.
use Rattle.std.proofs.Common.{◌≡◌, ℕ, Bool, true, false, List, Option, Some, None, refl, sym, ap, ◌∙◌}
use Rattle.std.specs.Prelude.{◌&&◌, bytes_eq}
use Rattle.std.proofs.lemmas.Slice.Eq.{bytes_eq-Decides}
use Rattle.front_base.specs.declared.info.Info.{Info}
use Rattle.stage_event.specs.Events.{object_ref}
use Rattle.stage_event.specs.declared.event.Event.{Event}
use Rattle.stage_event.specs.declared.event.ObjectRef.{ObjectRef}
use Rattle.audit_check.specs.Agreement.{IsInPlace, is_in_place, is_same_object, is_same_reference, status_in_place, request_in_place, response_in_place, truncated_in_place, bodies_in_place, user_in_place, acting_in_place, users_in_place}

both : (a b : Bool) → (a && b) ≡ true → (a ≡ true) × (b ≡ true)
both true b e = (refl, e)
both false b e = absurd (cc e)

and_true : (a b : Bool) → a ≡ true → b ≡ true → (a && b) ≡ true
and_true true b p q = q
and_true false b p q = absurd (cc p)

same_bytes : (a b : List ℕ) → bytes_eq a b ≡ true → a ≡ b
same_bytes a b e = (bytes_eq-Decides a b).0 e

self_bytes : (a : List ℕ) → bytes_eq a a ≡ true
self_bytes a = (bytes_eq-Decides a a).1 refl

one_reference : (a b : ObjectRef) → is_same_reference a b ≡ true → a ≡ b
one_reference a b h =
    let p5 = both _ (bytes_eq a.subresource b.subresource) h in
    let p4 = both _ (bytes_eq a.version b.version) p5.0 in
    let p3 = both _ (bytes_eq a.group b.group) p4.0 in
    let p2 = both _ (bytes_eq a.name b.name) p3.0 in
    let p1 = both (bytes_eq a.resource b.resource) (bytes_eq a.namespace b.namespace) p2.0 in
    let resource : a.resource ≡ b.resource = same_bytes _ _ p1.0 in
    let namespace : a.namespace ≡ b.namespace = same_bytes _ _ p1.1 in
    let name : a.name ≡ b.name = same_bytes _ _ p2.1 in
    let group : a.group ≡ b.group = same_bytes _ _ p3.1 in
    let version : a.version ≡ b.version = same_bytes _ _ p4.1 in
    let subresource : a.subresource ≡ b.subresource = same_bytes _ _ p5.1 in
    λ i. record { resource = resource i; namespace = namespace i; name = name i; group = group i; version = version i; subresource = subresource i }

self_reference : (a : ObjectRef) → is_same_reference a a ≡ true
self_reference a = rw (self_bytes a.resource, self_bytes a.namespace, self_bytes a.name, self_bytes a.group, self_bytes a.version, self_bytes a.subresource) refl

one_object : (a b : Option ObjectRef) → is_same_object a b ≡ true → a ≡ b
one_object None None h = refl
one_object None (Some b) h = absurd (cc h)
one_object (Some a) None h = absurd (cc h)
one_object (Some a) (Some b) h = ap Some (one_reference a b h)

self_object : (a : Option ObjectRef) → is_same_object a a ≡ true
self_object None = refl
self_object (Some a) = self_reference a

pub in_place : (info : Info) (e : Event) → is_in_place info e ≡ true → IsInPlace info e
in_place info e h =
    let p = both (is_same_object e.object_ref (object_ref info)) _ h in
    let q = both (status_in_place e) _ p.1 in
    let r = both (bodies_in_place info e) (users_in_place e) q.1 in
    let s = both (request_in_place info e) _ r.0 in
    let t = both (response_in_place info e) (truncated_in_place info e) s.1 in
    let u = both (user_in_place e.user) (acting_in_place e.user e.impersonated) r.1 in
    record {
      object_ref = one_object e.object_ref (object_ref info) p.0;
      status = q.0;
      request = s.0;
      response = t.0;
      truncated = t.1;
      user = u.0;
      acting = u.1;
    }

pub not_in_place : (info : Info) (e : Event) → is_in_place info e ≡ false → IsInPlace info e → ⊥
not_in_place info e h p =
    let object : is_same_object e.object_ref (object_ref info) ≡ true = ap (is_same_object e.object_ref) (sym p.object_ref) ∙ self_object e.object_ref in
    let bodies : bodies_in_place info e ≡ true = and_true _ _ p.request (and_true _ _ p.response p.truncated) in
    let users : users_in_place e ≡ true = and_true _ _ p.user p.acting in
    let all : is_in_place info e ≡ true = and_true _ _ object (and_true _ _ p.status (and_true _ _ bodies users)) in
    cc (h, all)
