-- What a patch makes of each member, that it does the same again, and how deep it nests.
use Rattle.std.proofs.Common.{◌≡◌, ℕ, suc, ◌-◌, ◌≤◌, List, Bool, true, false, Option, Some, None, Ordering, Less, Equal, Greater, nat_cmp, refl, sym, ap, ◌∙◌, subst, arith}
use Rattle.std.specs.Prelude.{⊤, max, is_some, unwrap_or, if◌then◌else◌}
use Rattle.std.specs.Cmp.Lexicographic.{slice_cmp}
use Rattle.std.specs.Ordering.{match_ordering}
use Rattle.serde_json.specs.Data.{Data, null, boolean, number, string, array, object, Members, no_members, member, put, depth, members_depth}
use Rattle.serde_json.specs.Find.{get, get_member, as_null}
use Rattle.json_patch.specs.Merge.{members_in, without, changed, value_at, merged, merged_members}
use Rattle.json_patch.specs.Order.{AllAfter, Ascend, IsOrdered, AreOrdered}
use Rattle.json_patch.specs.Patched.{patched}
use Rattle.json_patch.proofs.Names.{same_name, less_apart, greater_apart, absent}
use Rattle.json_patch.proofs.Changes.{changed_here, changed_others, ascend_changed}
use Rattle.json_patch.proofs.Same.{same_members}

-- ---- at each name

found_here : (name : List ℕ) (d : Data) (ms changes : Members) → AllAfter name changes
    → patched (get_member name (changed ms name d (merged (value_at name ms) d))) (get_member name changes) ≡ patched (get_member name ms) (Some d)
found_here name d ms changes after = rw (absent name changes after) (changed_here (is_some (as_null d)) name (merged (value_at name ms) d) ms)

found_at : (o : Ordering) (q name : List ℕ) (d : Data) (ms changes : Members) → slice_cmp nat_cmp q name ≡ o → AllAfter name changes
    → patched (get_member q (changed ms name d (merged (value_at name ms) d))) (get_member q changes)
    ≡ patched (get_member q ms) (match_ordering o (get_member q changes) (Some d) (get_member q changes))
found_at Less q name d ms changes is after =
    ap (λ r. patched r (get_member q changes)) (changed_others (is_some (as_null d)) q name (merged (value_at name ms) d) ms (less_apart q name is))
found_at Equal q name d ms changes is after =
    subst (λ n. patched (get_member n (changed ms name d (merged (value_at name ms) d))) (get_member n changes) ≡ patched (get_member n ms) (Some d))
    (sym (same_name q name is)) (found_here name d ms changes after)
found_at Greater q name d ms changes is after =
    ap (λ r. patched r (get_member q changes)) (changed_others (is_some (as_null d)) q name (merged (value_at name ms) d) ms (greater_apart q name is))

pub found : (q : List ℕ) (changes ms : Members) → Ascend changes → get_member q (merged_members ms changes) ≡ patched (get_member q ms) (get_member q changes)
found q no_members ms h = refl
found q (member name d changes) ms h = found q changes (changed ms name d (merged (value_at name ms) d)) h.1 ∙ found_at _ q name d ms changes refl h.0

get_in : (q : List ℕ) (d : Data) → get_member q (members_in d) ≡ get q d
get_in q null = refl
get_in q (boolean b) = refl
get_in q (number n) = refl
get_in q (string s) = refl
get_in q (array ds) = refl
get_in q (object ms) = refl

pub found_in : (q : List ℕ) (target : Data) (changes : Members) → Ascend changes → get q (merged target (object changes)) ≡ patched (get q target) (get_member q changes)
found_in q target changes h = found q changes (members_in target) h ∙ ap (λ r. patched r (get_member q changes)) (get_in q target)

-- ---- twice

pub ascend_merged : (changes ms : Members) → Ascend ms → Ascend (merged_members ms changes)
ascend_merged no_members ms h = h
ascend_merged (member name d changes) ms h =
    ascend_merged changes (changed ms name d (merged (value_at name ms) d)) (ascend_changed (is_some (as_null d)) name (merged (value_at name ms) d) ms h)

ascend_in : (d : Data) → IsOrdered d → Ascend (members_in d)
ascend_in null h = tt
ascend_in (boolean b) h = tt
ascend_in (number n) h = tt
ascend_in (string s) h = tt
ascend_in (array ds) h = tt
ascend_in (object ms) h = h.0

ordered_in : (d : Data) → IsOrdered d → AreOrdered (members_in d)
ordered_in null h = tt
ordered_in (boolean b) h = tt
ordered_in (number n) h = tt
ordered_in (string s) h = tt
ordered_in (array ds) h = tt
ordered_in (object ms) h = h.1

ordered_pick : (o : Ordering) (d : Data) (r : Option Data) → IsOrdered d → IsOrdered (unwrap_or r null) → IsOrdered (unwrap_or (match_ordering o r (Some d) r) null)
ordered_pick Less d r x y = y
ordered_pick Equal d r x y = x
ordered_pick Greater d r x y = y

ordered_at : (q : List ℕ) (ms : Members) → AreOrdered ms → IsOrdered (value_at q ms)
ordered_at q no_members h = tt
ordered_at q (member k d ms) h = ordered_pick (slice_cmp nat_cmp q k) d (get_member q ms) h.0 (ordered_at q ms h.1)

-- a change that does the same again to this value
abbrev Settles : Data → Option Data → Type 0
Settles old None = ⊤
Settles old (Some d) = merged (merged old d) d ≡ merged old d

settles_pick : (o : Ordering) (old d : Data) (r : Option Data) → Settles old (Some d) → Settles old r → Settles old (match_ordering o r (Some d) r)
settles_pick Less old d r x y = y
settles_pick Equal old d r x y = x
settles_pick Greater old d r x y = y

again_if : (b : Bool) (old : Option Data) (d : Data) → Settles (unwrap_or old null) (Some d)
    → (if b then None else Some (merged (unwrap_or (if b then None else Some (merged (unwrap_or old null) d)) null) d)) ≡ (if b then None else Some (merged (unwrap_or old null) d))
again_if true old d h = refl
again_if false old d h = ap Some h

again : (old change : Option Data) → Settles (unwrap_or old null) change → patched (patched old change) change ≡ patched old change
again old None h = refl
again old (Some d) h = again_if (is_some (as_null d)) old d h

mutual
  pub twice : (patch target : Data) → IsOrdered target → IsOrdered patch → merged (merged target patch) patch ≡ merged target patch
  twice null target t p = refl
  twice (boolean b) target t p = refl
  twice (number n) target t p = refl
  twice (string s) target t p = refl
  twice (array ds) target t p = refl
  twice (object changes) target t p =
      let ms = members_in target in
      let once = merged_members ms changes in
      let before : Ascend once = ascend_merged changes ms (ascend_in target t) in
      ap object (same_members (merged_members once changes) once (ascend_merged changes once before) before (λ q.
      found q changes once p.0
      ∙ ap (λ r. patched r (get_member q changes)) (found q changes ms p.0)
      ∙ again (get_member q ms) (get_member q changes) (settles changes q (value_at q ms) (ordered_at q ms (ordered_in target t)) p.1)
      ∙ sym (found q changes ms p.0)))

  settles : (changes : Members) (q : List ℕ) (old : Data) → IsOrdered old → AreOrdered changes → Settles old (get_member q changes)
  settles no_members q old t p = tt
  settles (member name d changes) q old t p = settles_pick (slice_cmp nat_cmp q name) old d (get_member q changes) (twice d old t p.0) (settles changes q old t p.1)

-- ---- depth

depth_pick : (o : Ordering) (d : Data) (r : Option Data) (n : ℕ) → depth d ≤ n → depth (unwrap_or r null) ≤ n → depth (unwrap_or (match_ordering o r (Some d) r) null) ≤ n
depth_pick Less d r n x y = y
depth_pick Equal d r n x y = x
depth_pick Greater d r n x y = y

depth_at : (q : List ℕ) (ms : Members) (n : ℕ) → members_depth ms ≤ n → depth (value_at q ms) ≤ n
depth_at q no_members n h = omega arith
depth_at q (member k d ms) n h = depth_pick (slice_cmp nat_cmp q k) d (get_member q ms) n (omega arith) (depth_at q ms n (omega arith))

depth_of : (o : Ordering) (a b c : Members) (n : ℕ) → members_depth a ≤ n → members_depth b ≤ n → members_depth c ≤ n → members_depth (match_ordering o a b c) ≤ n
depth_of Less a b c n x y z = x
depth_of Equal a b c n x y z = y
depth_of Greater a b c n x y z = z

depth_put : (k : List ℕ) (x : Data) (ms : Members) (n : ℕ) → depth x ≤ n → members_depth ms ≤ n → members_depth (put k x ms) ≤ n
depth_put k x no_members n h i = omega arith
depth_put k x (member l d ms) n h i =
    let rest : members_depth (put k x ms) ≤ n = depth_put k x ms n h (omega arith) in
    depth_of (slice_cmp nat_cmp k l) (member k x (member l d ms)) (member l x ms) (member l d (put k x ms)) n (omega arith) (omega arith) (omega arith)

depth_without : (k : List ℕ) (ms : Members) (n : ℕ) → members_depth ms ≤ n → members_depth (without k ms) ≤ n
depth_without k no_members n h = omega arith
depth_without k (member l d ms) n h =
    let rest : members_depth (without k ms) ≤ n = depth_without k ms n (omega arith) in
    depth_of (slice_cmp nat_cmp k l) (member l d (without k ms)) (without k ms) (member l d (without k ms)) n (omega arith) rest (omega arith)

depth_changed : (b : Bool) (k : List ℕ) (x : Data) (ms : Members) (n : ℕ) → depth x ≤ n → members_depth ms ≤ n → members_depth (if b then without k ms else put k x ms) ≤ n
depth_changed true k x ms n h i = depth_without k ms n i
depth_changed false k x ms n h i = depth_put k x ms n h i

depth_in : (d : Data) (n : ℕ) → depth d ≤ suc n → members_depth (members_in d) ≤ n
depth_in null n h = omega arith
depth_in (boolean b) n h = omega arith
depth_in (number m) n h = omega arith
depth_in (string s) n h = omega arith
depth_in (array ds) n h = omega arith
depth_in (object ms) n h = omega arith

mutual
  deep : (patch target : Data) (n : ℕ) → depth target ≤ n → depth patch ≤ n → depth (merged target patch) ≤ n
  deep null target n h i = omega arith
  deep (boolean b) target n h i = omega arith
  deep (number m) target n h i = omega arith
  deep (string s) target n h i = omega arith
  deep (array ds) target n h i = i
  deep (object changes) target n h i =
      let inner : members_depth (merged_members (members_in target) changes) ≤ n - 1 =
      deep_members changes (members_in target) (n - 1) (depth_in target (n - 1) (omega arith)) (omega arith) in
      omega arith

  deep_members : (changes ms : Members) (n : ℕ) → members_depth ms ≤ n → members_depth changes ≤ n → members_depth (merged_members ms changes) ≤ n
  deep_members no_members ms n h i = h
  deep_members (member name d changes) ms n h i =
      let x = merged (value_at name ms) d in
      deep_members changes (changed ms name d x) n
      (depth_changed (is_some (as_null d)) name x ms n (deep d (value_at name ms) n (depth_at name ms n h) (omega arith)) h)
      (omega arith)

pub no_deeper : (target patch : Data) → depth (merged target patch) ≤ max (depth target) (depth patch)
no_deeper target patch = deep patch target (max (depth target) (depth patch)) (omega arith) (omega arith)
