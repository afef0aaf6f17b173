-- A map's entries beside the members that they stand for.
use Rattle.std.proofs.Common.{◌≡◌, ℕ, List, [], ◌∷◌, Option, Some, None, option_map, String, Global, Ordering, Less, Equal, Greater, string_bytes, string_cmp, nat_cmp, is_eq, cond, unwrap_or, refl, sym, ap, ◌∙◌, subst, rules}
use Rattle.std.specs.BTreeMap.{insert_entry, is_at}
use Rattle.std.specs.Cmp.Lexicographic.{slice_cmp}
use Rattle.std.specs.List.{AllByRecursion}
use Rattle.std.specs.List.Sorted.{IsStrictlySortedBy}
use Rattle.std.specs.Map.{keys_of, lookup, remove_entry}
use Rattle.std.specs.Ordering.{match_ordering}
use Rattle.serde_json.proofs.Views.{Entry, members_view-insert_entry, view-lookup}
use Rattle.serde_json.specs.Data.{null, member, put}
use Rattle.serde_json.specs.View.{view, members_view}
use Rattle.serde_json.specs.declared.value.Value.{Value, Null, the_lemmas}
use Rattle.json_patch.specs.Merge.{without, value_at}
use Rattle.json_patch.specs.Order.{AllAfter, Ascend}
use Rattle.json_patch.proofs.Names.{same_name}
use Rattle.json_patch.proofs.Changes.{nothing_gone, put_again}

all_after : (k : String Global) (es : List Entry) → AllByRecursion (λ y. string_cmp k y ≡ Less) (keys_of es) → AllAfter (string_bytes k) (members_view es)
all_after k [] h = tt
all_after k (e ∷ es) h = (h.0, all_after k es h.1)

pub ascend_entries : (es : List Entry) → IsStrictlySortedBy string_cmp (keys_of es) → Ascend (members_view es)
unfolding IsStrictlySortedBy
ascend_entries [] h = tt
ascend_entries (e ∷ es) h = (all_after e.0 es h.0, ascend_entries es h.1)

removed_at : (o : Ordering) (name : List ℕ) (e : Entry) (es rest : List Entry) → slice_cmp nat_cmp name (string_bytes e.0) ≡ o
    → AllAfter (string_bytes e.0) (members_view es) → members_view rest ≡ without name (members_view es)
    → members_view (cond (is_eq o) es (e ∷ rest))
    ≡ match_ordering o (member (string_bytes e.0) (view e.1) (without name (members_view es))) (without name (members_view es)) (member (string_bytes e.0) (view e.1) (without name (members_view es)))
removed_at Less name e es rest is after later = ap (member (string_bytes e.0) (view e.1)) later
removed_at Equal name e es rest is after later =
    sym (nothing_gone name (members_view es) (subst (λ n. AllAfter n (members_view es)) (sym (same_name name (string_bytes e.0) is)) after))
removed_at Greater name e es rest is after later = ap (member (string_bytes e.0) (view e.1)) later

-- what `remove` leaves
pub removed : (name : List ℕ) (es : List Entry) → Ascend (members_view es)
    → members_view (remove_entry (is_at (λ k. slice_cmp nat_cmp name (string_bytes k))) es) ≡ without name (members_view es)
removed name [] h = refl
removed name (e ∷ es) h = removed_at _ name e es (remove_entry (is_at (λ k. slice_cmp nat_cmp name (string_bytes k))) es) refl h.0 (removed name es h.1)

-- what `insert` makes of it
pub replaced : (name : String Global) (v : Value) (es left made : List Entry) → Ascend (members_view es)
    → members_view left ≡ without (string_bytes name) (members_view es) → made ≡ insert_entry string_cmp left name v
    → members_view made ≡ put (string_bytes name) (view v) (members_view es)
replaced name v es left made h l m =
    ap members_view m ∙ members_view-insert_entry left name v ∙ ap (put (string_bytes name) (view v)) l ∙ put_again (string_bytes name) (view v) (members_view es) h

view-Null : view Null ≡ null
view-Null = search (rules, the_lemmas)

or_null : (old : Option Value) → view (unwrap_or old Null) ≡ unwrap_or (option_map view old) null
or_null None = view-Null
or_null (Some v) = refl

-- what `remove` gives
pub taken : (name : List ℕ) (es : List Entry) (old : Option Value) → old ≡ lookup (is_at (λ k. slice_cmp nat_cmp name (string_bytes k))) es
    → view (unwrap_or old Null) ≡ value_at name (members_view es)
taken name es old is = or_null old ∙ ap (λ r. unwrap_or r null) (ap (option_map view) is ∙ view-lookup name es)
