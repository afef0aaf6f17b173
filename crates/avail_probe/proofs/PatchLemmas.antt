-- Patches of conditions.
use Rattle.std.proofs.Common.{◌≡◌, ℕ, ◌+◌, ◌<◌, ◌≤◌, length, drop, get_or, Bool, true, false, not, ◌&&◌, ◌||◌, List, [], ◌∷◌, ◌++◌, Option, Some, None, option_and_then, unwrap_or, Result, Ok, codes, refl, sym, ap, subst, ◌∙◌}
use Rattle.std.proofs.lemmas.List.{drop_all, drop_more}
use Rattle.std.specs.Prelude.{if◌then◌else◌}
use Rattle.apiservice_rows.specs.Object.{are_objects, available_by, available_of, conditions_in, some_status, status_in}
use Rattle.json_patch.specs.Merge.{merged}
use Rattle.json_patch.specs.Order.{Ascend}
use Rattle.json_patch.specs.Patched.{patched}
use Rattle.json_value.specs.Members.{is_object, not_null, present}
use Rattle.serde_json.specs.Data.{Data, null, array, object, Items, item, no_items, Members, member, no_members}
use Rattle.serde_json.specs.Find.{get, get_member}
use Rattle.serde_json.specs.Written.{has_float, items_have_float}
use Rattle.serde_json.specs.View.{items_view, view}
use Rattle.serde_json.specs.declared.value.Value.{Value}
use Rattle.serde_json.proofs.Views.{get_member-put, get_member-put_other}
use Rattle.avail_probe.specs.Status.{Report, condition_of, is_available, is_other, joined, one_if, others, patch_of, with_others}

abbrev pub Found : Type 0
Found = (target : Data) (changes : Members) (name : List ℕ) → Ascend changes
    → get name (merged target (object changes)) ≡ patched (get name target) (get_member name changes)

-- ---- one member

one_other : (name own : List ℕ) (d : Data) → (name ≡ own → ⊥) → get_member name (member own d no_members) ≡ None
one_other name own d other = get_member-put_other name own d no_members other

one_own : (own : List ℕ) (d : Data) → get_member own (member own d no_members) ≡ Some d
one_own own d = get_member-put own d no_members

pub other_members : Found → (target : Data) (ds : Items) (name : List ℕ) → (name ≡ codes "status" → ⊥)
    → get name (merged target (patch_of ds)) ≡ get name target
other_members found target ds name other =
    found target (member (codes "status") (object (member (codes "conditions") (array ds) no_members)) no_members) name (tt, tt)
    ∙ ap (patched (get name target)) (one_other name (codes "status") (object (member (codes "conditions") (array ds) no_members)) other)

-- ---- the conditions

one_object : (d : Data) (o a : Bool) → is_object d ≡ o → (es : Items) → are_objects es ≡ true → are_objects (joined (one_if (o && not a) d) es) ≡ true
one_object d true true is es h = h
one_object d true false is es h = rw is h
one_object d false a is es h = h

all_objects : (ds : Items) → are_objects (others ds) ≡ true
all_objects no_items = refl
all_objects (item d ds) = one_object d (is_object d) (is_available d) refl (others ds) (all_objects ds)

kept_objects : (b : Bool) (ds : Items) → are_objects (if b then no_items else others ds) ≡ true
kept_objects true ds = refl
kept_objects false ds = all_objects ds

says_up : (place : Option ℕ) (r : Report) (ds : Items) → available_by place (with_others (condition_of r) ds) ≡ Ok r.up
says_up place r ds = by_up r.up refl
  where
    by_up : (up : Bool) → r.up ≡ up → available_by place (with_others (condition_of r) ds) ≡ Ok r.up
    by_up true is = rw (kept_objects (items_have_float (others ds)) ds, is) refl
    by_up false is = rw (kept_objects (items_have_float (others ds)) ds, is) refl

-- a member that is patched by an object is one
pub says : Found → (target : Data) (known : Items) (r : Report) (place : Option ℕ)
    → available_of place (merged target (patch_of (with_others (condition_of r) known))) ≡ Ok r.up
unfolding available_of
says found target known r place =
    let ds = with_others (condition_of r) known in
    let change = member (codes "conditions") (array ds) no_members in
    let old = unwrap_or (get (codes "status") target) null in
    let status : get (codes "status") (merged target (patch_of ds)) ≡ Some (merged old (object change)) =
    found target (member (codes "status") (object change) no_members) (codes "status") (tt, tt)
    ∙ ap (patched (get (codes "status") target)) (one_own (codes "status") (object change)) in
    let conditions : get (codes "conditions") (merged old (object change)) ≡ Some (array ds) =
    found old change (codes "conditions") (tt, tt)
    ∙ ap (patched (get (codes "conditions") old)) (one_own (codes "conditions") (array ds)) in
    ap (λ o. status_in place (option_and_then not_null o)) status
    ∙ ap (λ o. conditions_in place (option_and_then not_null o)) conditions
    ∙ says_up place r known

-- ---- no fraction

kept_whole : (b : Bool) (ds : Items) → items_have_float ds ≡ b → items_have_float (if b then no_items else ds) ≡ false
kept_whole true ds e = refl
kept_whole false ds e = e

pub patch_whole : (r : Report) (ds : Items) → has_float (patch_of (with_others (condition_of r) ds)) ≡ false
patch_whole r ds = rw (kept_whole (items_have_float (others ds)) (others ds) refl) refl

-- ---- lists of values

joined_assoc : (ds es fs : Items) → joined (joined ds es) fs ≡ joined ds (joined es fs)
joined_assoc no_items es fs = refl
joined_assoc (item d ds) es fs = ap (item d) (joined_assoc ds es fs)

joined_none : (ds : Items) → joined ds no_items ≡ ds
joined_none no_items = refl
joined_none (item d ds) = ap (item d) (joined_none ds)

pub one_more : (vs : List Value) (v : Value) → items_view (vs ++ v ∷ []) ≡ joined (items_view vs) (item (view v) no_items)
one_more [] v = refl
one_more (u ∷ vs) v = ap (item (view u)) (one_more vs v)

pub none_more : (ds : Items) → ds ≡ joined ds no_items
none_more ds = sym (joined_none ds)

pub next_passed : (conditions : List Value) (i : ℕ) (c : Value) (old new : List Value) (whole : Items) → i < length conditions
    → c ≡ get_or conditions i c → items_view new ≡ joined (items_view old) (one_if (is_other (view c)) (view c))
    → joined (items_view old) (others (items_view (drop i conditions))) ≡ whole
    → joined (items_view new) (others (items_view (drop (i + 1) conditions))) ≡ whole
next_passed conditions i c old new whole lt is one so_far =
    let rest = drop (i + 1) conditions in
    let here : drop i conditions ≡ c ∷ rest = drop_more conditions i c lt ∙ ap (λ (x : Value). x ∷ rest) (sym is) in
    ap (λ ds. joined ds (others (items_view rest))) one
    ∙ joined_assoc (items_view old) (one_if (is_other (view c)) (view c)) (others (items_view rest))
    ∙ ap (λ (l : List Value). joined (items_view old) (others (items_view l))) (sym here)
    ∙ so_far

pub all_passed : (conditions : List Value) (i : ℕ) (now : List Value) (whole : Items) → length conditions ≤ i
    → joined (items_view now) (others (items_view (drop i conditions))) ≡ whole → items_view now ≡ whole
all_passed conditions i now whole le so_far =
    let none : drop i conditions ≡ [] = drop_all i conditions le in
    sym (joined_none (items_view now)) ∙ ap (λ (l : List Value). joined (items_view now) (others (items_view l))) (sym none) ∙ so_far
