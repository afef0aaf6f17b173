-- Calls of a dial, one list of them after another.
use Rattle.std.proofs.Common.{◌≡◌, ℕ, ◌+◌, ◌&&◌, Bool, true, false, List, [], ◌∷◌, ◌++◌, Option, None, Some, refl, sym, ap, subst, ◌∙◌, append_assoc, append-nil, add_assoc, zero-add, arith}
use Rattle.service_calls.specs.Calls.{DialState}
use Rattle.std.proofs.lemmas.List.{map-append}
use Rattle.std.specs.List.{AllByRecursion}
use Rattle.front_ports.specs.declared.dial.Call.{Call}
use Rattle.service_calls.specs.Contacts.{Contact, IsContact, Joined, Left, Makes, MakesPart, RoseBy, all_dialed, answers, dial_failures, dues, left_noted, link_failures, noted, one_if_broken, one_if_not_dialed, was_dialed}

and_false : (b : Bool) → (b && false) ≡ false
and_false true = refl
and_false false = refl

and_assoc : (a b c : Bool) → ((a && b) && c) ≡ (a && (b && c))
and_assoc true b c = refl
and_assoc false b c = refl

joined_lists : (a b c : Option (List Call)) (d e : Bool) (xs ys : List Call) → Joined d a b xs → Joined e b c ys
    → Joined (d && e) a c (xs ++ ys)
joined_lists None b c d e xs ys h k = subst (λ o. Joined e o c ys) h k
joined_lists (Some first) None c d e xs ys h k =
    subst (λ o. Joined (d && e) (Some first) o (xs ++ ys)) (sym k) (ap (λ t. t && e) h)
joined_lists (Some first) (Some bs) None d e xs ys h k = ap (λ t. d && t) k ∙ and_false d
joined_lists (Some first) (Some bs) (Some cs) d e xs ys h k = k ∙ ap (λ l. l ++ ys) h ∙ append_assoc first xs ys

pub dues_join : (xs ys : List Contact) → dues (xs ++ ys) ≡ dues xs ++ dues ys
dues_join xs ys = map-append (λ (c : Contact). c.due) xs ys

pub answers_join : (xs ys : List Contact) → answers (xs ++ ys) ≡ answers xs ++ answers ys
answers_join xs ys = map-append (λ (c : Contact). c.answer) xs ys

noted_join : (xs ys : List Contact) → noted (xs ++ ys) ≡ noted xs ++ noted ys
noted_join xs ys = map-append _ xs ys

dialed_join : (xs ys : List Contact) → all_dialed (xs ++ ys) ≡ (all_dialed xs && all_dialed ys)
dialed_join [] ys = refl
dialed_join (c ∷ xs) ys =
    ap (λ t. was_dialed c.went && t) (dialed_join xs ys) ∙ sym (and_assoc (was_dialed c.went) (all_dialed xs) (all_dialed ys))

dial_failures_join : (xs ys : List Contact) → dial_failures (xs ++ ys) ≡ dial_failures xs + dial_failures ys
dial_failures_join [] ys = sym (zero-add (dial_failures ys))
dial_failures_join (c ∷ xs) ys =
    ap (λ n. one_if_not_dialed c.went + n) (dial_failures_join xs ys)
    ∙ sym (add_assoc (one_if_not_dialed c.went) (dial_failures xs) (dial_failures ys))

link_failures_join : (xs ys : List Contact) → link_failures (xs ++ ys) ≡ link_failures xs + link_failures ys
link_failures_join [] ys = sym (zero-add (link_failures ys))
link_failures_join (c ∷ xs) ys =
    ap (λ n. one_if_broken c.went + n) (link_failures_join xs ys)
    ∙ sym (add_assoc (one_if_broken c.went) (link_failures xs) (link_failures ys))

each_join : (xs ys : List Contact) → AllByRecursion IsContact xs → AllByRecursion IsContact ys → AllByRecursion IsContact (xs ++ ys)
each_join [] ys h k = k
each_join (c ∷ xs) ys h k = (h.0, each_join xs ys h.1 k)

rose_join : (m n a b c : ℕ) → RoseBy m a b → RoseBy n b c → RoseBy (m + n) a c
rose_join m n a b c h k = omega (arith, h, k)

-- calls that were all made, and then some of which the last may have been left off
pub makes_part : (xs ys : List Contact) (left : Option Left) (p m q : DialState) → Makes xs p m → MakesPart ys left m q
    → MakesPart (xs ++ ys) left p q
makes_part xs ys left p m q h k =
    let calls : Joined (all_dialed xs && all_dialed ys) p.calls q.calls (noted xs ++ (noted ys ++ left_noted left)) =
    joined_lists p.calls m.calls q.calls (all_dialed xs) (all_dialed ys) (noted xs) (noted ys ++ left_noted left) h.calls k.calls in
    let list : noted xs ++ (noted ys ++ left_noted left) ≡ noted (xs ++ ys) ++ left_noted left =
    sym (append_assoc (noted xs) (noted ys) (left_noted left)) ∙ ap (λ l. l ++ left_noted left) (sym (noted_join xs ys)) in
    record {
      each = each_join xs ys h.each k.each;
      last = k.last;
      calls = subst (λ d. Joined d p.calls q.calls (noted (xs ++ ys) ++ left_noted left)) (sym (dialed_join xs ys))
          (subst (Joined (all_dialed xs && all_dialed ys) p.calls q.calls) list calls);
      dials = subst (λ n. RoseBy n p.faults q.faults) (sym (dial_failures_join xs ys))
          (rose_join (dial_failures xs) (dial_failures ys) p.faults m.faults q.faults h.dials k.dials);
      links = subst (λ n. RoseBy n p.link_faults q.link_faults) (sym (link_failures_join xs ys))
          (rose_join (link_failures xs) (link_failures ys) p.link_faults m.link_faults q.link_faults h.links k.links);
    }

-- none of which was
pub part_of : (xs : List Contact) (p q : DialState) → Makes xs p q → MakesPart xs None p q
part_of xs p q h = record {
  each = h.each;
  last = tt;
  calls = subst (Joined (all_dialed xs) p.calls q.calls) (sym (append-nil (noted xs))) h.calls;
  dials = h.dials;
  links = h.links;
}

pub whole_of : (xs : List Contact) (p q : DialState) → MakesPart xs None p q → Makes xs p q
whole_of xs p q h = record {
  each = h.each;
  calls = subst (Joined (all_dialed xs) p.calls q.calls) (append-nil (noted xs)) h.calls;
  dials = h.dials;
  links = h.links;
}

pub makes_join : (xs ys : List Contact) (p m q : DialState) → Makes xs p m → Makes ys m q → Makes (xs ++ ys) p q
makes_join xs ys p m q h k = whole_of (xs ++ ys) p q (makes_part xs ys None p m q h (part_of ys m q k))

joined_same : (a : Option (List Call)) → Joined true a a []
joined_same None = refl
joined_same (Some first) = sym (append-nil first)

pub makes_none : (p : DialState) → Makes [] p p
makes_none p = record { each = tt; calls = joined_same p.calls; dials = omega arith; links = omega arith }
