-- What is left where a member is put or taken away.
use Rattle.std.proofs.Common.{◌≡◌, ℕ, List, Bool, true, false, Some, None, Ordering, Less, Equal, Greater, nat_cmp, refl, sym, ap, ◌∙◌, subst}
use Rattle.std.specs.Cmp.Lexicographic.{slice_cmp}
use Rattle.std.specs.Ordering.{match_ordering}
use Rattle.std.specs.Prelude.{if◌then◌else◌}
use Rattle.serde_json.specs.Data.{Data, Members, no_members, member, put}
use Rattle.serde_json.specs.Find.{get_member}
use Rattle.serde_json.proofs.Views.{get_member-put, get_member-put_other}
use Rattle.json_patch.specs.Merge.{without}
use Rattle.json_patch.specs.Order.{AllAfter, Ascend}
use Rattle.json_patch.proofs.Names.{same_name, turned, all_later, skips}

abbrev Kept : Ordering → List ℕ → Data → Members → Members
Kept o k d rest = match_ordering o (member k d rest) rest (member k d rest)

-- ---- taken away

gone_at : (o : Ordering) (name k : List ℕ) (d : Data) (rest : Members) → slice_cmp nat_cmp name k ≡ o → get_member name rest ≡ None
    → get_member name (Kept o k d rest) ≡ None
gone_at Less name k d rest is later = rw is later
gone_at Equal name k d rest is later = later
gone_at Greater name k d rest is later = rw is later

pub gone : (name : List ℕ) (ms : Members) → get_member name (without name ms) ≡ None
gone name no_members = refl
gone name (member k d ms) = gone_at _ name k d (without name ms) refl (gone name ms)

others_at : (o : Ordering) (q name k : List ℕ) (d : Data) (ms rest : Members) → slice_cmp nat_cmp name k ≡ o → (q ≡ name → ⊥)
    → get_member q rest ≡ get_member q ms → get_member q (Kept o k d rest) ≡ get_member q (member k d ms)
others_at Less q name k d ms rest is apart later = ap (λ r. match_ordering (slice_cmp nat_cmp q k) r (Some d) r) later
others_at Equal q name k d ms rest is apart later =
    later ∙ sym (skips q k d ms (λ (e : q ≡ k). apart (e ∙ sym (same_name name k is))))
others_at Greater q name k d ms rest is apart later = ap (λ r. match_ordering (slice_cmp nat_cmp q k) r (Some d) r) later

pub others : (q name : List ℕ) (ms : Members) → (q ≡ name → ⊥) → get_member q (without name ms) ≡ get_member q ms
others q name no_members apart = refl
others q name (member k d ms) apart = others_at _ q name k d ms (without name ms) refl apart (others q name ms apart)

after_without_at : (o : Ordering) (a k : List ℕ) (d : Data) (rest : Members) → slice_cmp nat_cmp a k ≡ Less → AllAfter a rest
    → AllAfter a (Kept o k d rest)
after_without_at Less a k d rest is later = (is, later)
after_without_at Equal a k d rest is later = later
after_without_at Greater a k d rest is later = (is, later)

pub after_without : (a name : List ℕ) (ms : Members) → AllAfter a ms → AllAfter a (without name ms)
after_without a name no_members h = tt
after_without a name (member k d ms) h = after_without_at (slice_cmp nat_cmp name k) a k d (without name ms) h.0 (after_without a name ms h.1)

ascend_without_at : (o : Ordering) (k : List ℕ) (d : Data) (rest : Members) → AllAfter k rest → Ascend rest → Ascend (Kept o k d rest)
ascend_without_at Less k d rest after later = (after, later)
ascend_without_at Equal k d rest after later = later
ascend_without_at Greater k d rest after later = (after, later)

pub ascend_without : (name : List ℕ) (ms : Members) → Ascend ms → Ascend (without name ms)
ascend_without name no_members h = tt
ascend_without name (member k d ms) h =
    ascend_without_at (slice_cmp nat_cmp name k) k d (without name ms) (after_without k name ms h.0) (ascend_without name ms h.1)

-- nothing is taken away where no member has the name
pub nothing_gone : (name : List ℕ) (ms : Members) → AllAfter name ms → without name ms ≡ ms
nothing_gone name no_members h = refl
nothing_gone name (member k d ms) h = rw h.0 (ap (member k d) (nothing_gone name ms h.1))

-- ---- put

abbrev Placed : Ordering → List ℕ → Data → List ℕ → Data → Members → Members → Members
Placed o name x k d ms rest = match_ordering o (member name x (member k d ms)) (member k x ms) (member k d rest)

after_put_at : (o : Ordering) (a name : List ℕ) (x : Data) (k : List ℕ) (d : Data) (ms rest : Members) → slice_cmp nat_cmp a name ≡ Less
    → AllAfter a (member k d ms) → AllAfter a rest → AllAfter a (Placed o name x k d ms rest)
after_put_at Less a name x k d ms rest is h later = (is, h)
after_put_at Equal a name x k d ms rest is h later = h
after_put_at Greater a name x k d ms rest is h later = (h.0, later)

pub after_put : (a name : List ℕ) (x : Data) (ms : Members) → slice_cmp nat_cmp a name ≡ Less → AllAfter a ms → AllAfter a (put name x ms)
after_put a name x no_members is h = (is, tt)
after_put a name x (member k d ms) is h = after_put_at (slice_cmp nat_cmp name k) a name x k d ms (put name x ms) is h (after_put a name x ms is h.1)

ascend_put_at : (o : Ordering) (name : List ℕ) (x : Data) (k : List ℕ) (d : Data) (ms : Members) → slice_cmp nat_cmp name k ≡ o
    → Ascend (member k d ms) → Ascend (put name x ms) → Ascend (Placed o name x k d ms (put name x ms))
ascend_put_at Less name x k d ms is h later = ((is, all_later name k ms is h.0), h)
ascend_put_at Equal name x k d ms is h later = h
ascend_put_at Greater name x k d ms is h later = (after_put k name x ms (turned name k is) h.0, later)

pub ascend_put : (name : List ℕ) (x : Data) (ms : Members) → Ascend ms → Ascend (put name x ms)
ascend_put name x no_members h = (tt, tt)
ascend_put name x (member k d ms) h = ascend_put_at _ name x k d ms refl h (ascend_put name x ms h.1)

put_first : (name : List ℕ) (x : Data) (ms : Members) → AllAfter name ms → put name x ms ≡ member name x ms
put_first name x no_members h = refl
put_first name x (member k d ms) h = rw h.0

put_again_at : (o : Ordering) (name : List ℕ) (x : Data) (k : List ℕ) (d : Data) (ms : Members) → slice_cmp nat_cmp name k ≡ o → AllAfter k ms
    → put name x (without name ms) ≡ put name x ms
    → put name x (Kept o k d (without name ms)) ≡ Placed o name x k d ms (put name x ms)
put_again_at Less name x k d ms is after later = rw is (ap (λ rest. member name x (member k d rest)) (nothing_gone name ms (all_later name k ms is after)))
put_again_at Equal name x k d ms is after later =
    let same : name ≡ k = same_name name k is in
    let free : AllAfter name ms = subst (λ n. AllAfter n ms) (sym same) after in
    ap (put name x) (nothing_gone name ms free) ∙ put_first name x ms free ∙ ap (λ n. member n x ms) same
put_again_at Greater name x k d ms is after later = rw is (ap (member k d) later)

-- what is put takes the place of what was taken away
pub put_again : (name : List ℕ) (x : Data) (ms : Members) → Ascend ms → put name x (without name ms) ≡ put name x ms
put_again name x no_members h = refl
put_again name x (member k d ms) h = put_again_at _ name x k d ms refl h.0 (put_again name x ms h.1)

-- ---- either, by a test

pub changed_here : (b : Bool) (name : List ℕ) (x : Data) (ms : Members)
    → get_member name (if b then without name ms else put name x ms) ≡ (if b then None else Some x)
changed_here true name x ms = gone name ms
changed_here false name x ms = get_member-put name x ms

pub changed_others : (b : Bool) (q name : List ℕ) (x : Data) (ms : Members) → (q ≡ name → ⊥)
    → get_member q (if b then without name ms else put name x ms) ≡ get_member q ms
changed_others true q name x ms apart = others q name ms apart
changed_others false q name x ms apart = get_member-put_other q name x ms apart

pub ascend_changed : (b : Bool) (name : List ℕ) (x : Data) (ms : Members) → Ascend ms → Ascend (if b then without name ms else put name x ms)
ascend_changed true name x ms h = ascend_without name ms h
ascend_changed false name x ms h = ascend_put name x ms h
