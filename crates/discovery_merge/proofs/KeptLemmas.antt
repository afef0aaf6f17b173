-- Documents that are kept under the names of their groups.
use Rattle.std.proofs.Common.{arith, ◌≡◌, ℕ, ◌+◌, ◌<◌, Bool, true, false, cond, not, ◌||◌, ◌==◌, List, [], ◌∷◌, ◌++◌, map, filter, length, take, get_or, Option, Some, None, refl, sym, ap, ◌∙◌, inl, inr}
use Rattle.std.proofs.lemmas.Bool.{false≢true, cond-true, cond-false, cases_Bool}
use Rattle.std.proofs.lemmas.Bool.Decides.{nat_tests}
use Rattle.std.proofs.lemmas.List.{take_more, map-append}
use Rattle.std.proofs.lemmas.List.Folds.{list_any-append}
use Rattle.std.proofs.lemmas.Map.Text.{is_eq-slice_cmp, text_cmp}
use Rattle.std.proofs.lemmas.Slice.Eq.{bytes_eq-Decides}
use Rattle.std.specs.BTreeMap.{is_at}
use Rattle.std.specs.List.{list_any}
use Rattle.std.specs.Map.{lookup}
use Rattle.std.specs.Str.{bytes_eq}
use Rattle.std.specs.Prelude.{String}
use Rattle.std.specs.String.{string_bytes}
use Rattle.apiservice_rows.specs.Row.{Row}
use Rattle.discovery_merge.specs.Documents.{group_document, group_text}
use Rattle.discovery_merge.specs.Groups.{group_of, is_named, is_of, names_in_order, once, sorted_groups}
use Rattle.discovery_merge.specs.Kept.{core_groups, last_document, text_of}
use Rattle.discovery_merge.specs.Lent.{lent_view}
use Rattle.discovery_merge.specs.Order.{group_order, sorted}
use Rattle.discovery_merge.specs.declared.groups.Group.{Group}
use Rattle.discovery_merge.specs.declared.lent.LentGroup.{LentGroup}
use Rattle.discovery_merge.proofs.GroupLemmas.{among, once-nil, once-cons}
use Rattle.discovery_merge.proofs.SortLemmas.{list_any-sorted}

-- ---- a text more

last-push : (name : List ℕ) (found : Option (List ℕ)) (groups : List Group) (g : Group)
    → last_document name found (groups ++ g ∷ [])
    ≡ cond (bytes_eq g.name name) (Some (group_document g)) (last_document name found groups)
last-push name found [] g = refl
last-push name found (first ∷ groups) g =
    last-push name (cond (bytes_eq first.name name) (Some (group_document first)) found) groups g

pub one_text_more : (name : List ℕ) (groups : List LentGroup) (i : ℕ) (x : LentGroup) → i < length groups
    → x ≡ get_or groups i x
    → last_document name None (map lent_view (take (i + 1) groups))
    ≡ cond (bytes_eq x.name.now name) (Some (group_document (lent_view x))) (last_document name None (map lent_view (take i groups)))
one_text_more name groups i x less is =
    ap (λ l. last_document name None (map lent_view l)) (take_more groups i x less ∙ ap (λ y. take i groups ++ y ∷ []) (sym is))
    ∙ ap (last_document name None) (map-append lent_view (take i groups) (x ∷ []))
    ∙ last-push name None (map lent_view (take i groups)) (lent_view x)

-- ---- the texts of groups of rows

same : (a b : List ℕ) → bytes_eq a b ≡ true → a ≡ b
same a b e = (bytes_eq-Decides a b).0 e

-- the groups of some names
pub last_of_names : (rows : List Row) (name : List ℕ) (found : Option (List ℕ)) (names : List (List ℕ))
    → last_document name found (map (group_of rows) names)
    ≡ cond (among name names) (Some (group_document (group_of rows name))) found
last_of_names rows name found [] = refl
last_of_names rows name found (own ∷ names) =
    last_of_names rows name (cond (bytes_eq own name) (Some (group_document (group_of rows own))) found) names
    ∙ elim (cases_Bool (bytes_eq own name)) [
      | inl e ↦
          ap (λ k. cond (among name names) (Some (group_document (group_of rows name))) k)
          (cond-true _ _ _ e ∙ ap (λ k. Some (group_document (group_of rows k))) (same own name e))
          ∙ one (among name names) (Some (group_document (group_of rows name)))
          ∙ sym (ap (λ b. cond (b || among name names) (Some (group_document (group_of rows name))) found) e)
      | inr e ↦
          ap (cond (among name names) (Some (group_document (group_of rows name)))) (cond-false _ _ _ e)
          ∙ sym (ap (λ b. cond (b || among name names) (Some (group_document (group_of rows name))) found) e)
    ]
  where
    one : (b : Bool) (o : Option (List ℕ)) → cond b o o ≡ o
    one true o = refl
    one false o = refl

-- ---- which names have a text

-- a filter that keeps all that pass a test
any-filtered : {X : Type 0} (p q : X → Bool) (xs : List X) → ((x : X) → p x ≡ true → q x ≡ true)
    → list_any p (filter q xs) ≡ list_any p xs
any-filtered p q [] h = refl
any-filtered p q (x ∷ xs) h =
    elim (cases_Bool (q x)) [
      | inl kept ↦ ap (list_any p) (cond-true _ _ _ kept) ∙ ap (λ b. p x || b) (any-filtered p q xs h)
      | inr dropped ↦
          ap (list_any p) (cond-false _ _ _ dropped) ∙ any-filtered p q xs h
          ∙ sym (ap (λ b. b || list_any p xs) (not_there (p x) dropped (h x)))
    ]
  where
    not_there : (b : Bool) → q x ≡ false → (b ≡ true → q x ≡ true) → b ≡ false
    not_there true dropped k = absurd (false≢true (sym dropped ∙ k refl))
    not_there false dropped k = refl

among-once : (name : List ℕ) (names : List (List ℕ)) → among name (once names) ≡ among name names
among-once name [] = ap (among name) once-nil
among-once name (own ∷ names) =
    ap (among name) (once-cons own names)
    ∙ elim (cases_Bool (bytes_eq own name)) [
      | inl here ↦
          ap (λ b. b || list_any (λ k. bytes_eq k name) (filter (λ y. not (bytes_eq own y)) (once names))) here
          ∙ sym (ap (λ b. b || among name names) here)
      | inr apart ↦
          ap (λ b. bytes_eq own name || b)
          (any-filtered (λ k. bytes_eq k name) (λ y. not (bytes_eq own y)) (once names)
          (λ k e. ap (λ y. not (bytes_eq own y)) (same k name e) ∙ ap not apart)
          ∙ among-once name names)
    ]

among-groups : (name : List ℕ) (rows : List Row) → among name (map (λ (r : Row). r.group) rows) ≡ list_any (is_of name) rows
among-groups name [] = refl
among-groups name (r ∷ rows) = ap (λ b. bytes_eq r.group name || b) (among-groups name rows)

-- the names of the groups in order
among-order : (name : List ℕ) (rows : List Row) → among name (names_in_order rows) ≡ list_any (is_of name) (filter is_named rows)
among-order name rows =
    among-once name (map (λ (r : Row). r.group) (sorted group_order (filter is_named rows)))
    ∙ among-groups name (sorted group_order (filter is_named rows))
    ∙ list_any-sorted group_order (is_of name) (filter is_named rows)

-- a name that isn't empty, and one that is
apart_from_none : (group : List ℕ) → not (length group == 0) ≡ true → bytes_eq group [] ≡ false
apart_from_none [] e = absurd (false≢true e)
apart_from_none (b ∷ group) e = refl

some_name : (b : ℕ) (group : List ℕ) → not (length (b ∷ group) == 0) ≡ true
some_name b group =
    let more : 0 < length (b ∷ group) = omega arith in
    ap not (not_zero (length (b ∷ group)) more)
  where
    not_zero : (n : ℕ) → 0 < n → (n == 0) ≡ false
    not_zero n less = grind (arith, nat_tests, less)

-- the core group is none of them
core_apart : (rows : List Row) → list_any (is_of []) (filter is_named rows) ≡ false
core_apart [] = refl
core_apart (r ∷ rows) =
    elim (cases_Bool (is_named r)) [
      | inl kept ↦
          ap (list_any (is_of [])) (cond-true _ _ _ kept)
          ∙ ap (λ b. b || list_any (is_of []) (filter is_named rows)) (apart_from_none r.group kept) ∙ core_apart rows
      | inr dropped ↦ ap (list_any (is_of [])) (cond-false _ _ _ dropped) ∙ core_apart rows
    ]

-- all others are among them
others_kept : (b : ℕ) (name : List ℕ) (rows : List Row)
    → list_any (is_of (b ∷ name)) (filter is_named rows) ≡ list_any (is_of (b ∷ name)) rows
others_kept b name rows =
    any-filtered (is_of (b ∷ name)) is_named rows
    (λ r e. ap (λ group. not (length group == 0)) (same r.group (b ∷ name) e) ∙ some_name b name)

abbrev core_names : List Row → List (List ℕ)
core_names rows = cond (list_any (is_of []) rows) ([] ∷ []) []

abbrev all_names : List Row → List (List ℕ)
all_names rows = names_in_order rows ++ core_names rows

among-core : (b : Bool) → among [] (cond b ([] ∷ []) []) ≡ b
among-core true = refl
among-core false = refl

others-core : (c : ℕ) (name : List ℕ) (b : Bool) → among (c ∷ name) (cond b ([] ∷ []) []) ≡ false
others-core c name true = refl
others-core c name false = refl

or_nothing : (b : Bool) → (b || false) ≡ b
or_nothing true = refl
or_nothing false = refl

-- each group of a row has a name there
among-all : (name : List ℕ) (rows : List Row) → among name (all_names rows) ≡ list_any (is_of name) rows
among-all [] rows =
    list_any-append (λ k. bytes_eq k []) (names_in_order rows) (core_names rows)
    ∙ ap (λ b. b || among [] (core_names rows)) (among-order [] rows ∙ core_apart rows)
    ∙ among-core (list_any (is_of []) rows)
among-all (b ∷ name) rows =
    list_any-append (λ k. bytes_eq k (b ∷ name)) (names_in_order rows) (core_names rows)
    ∙ ap (λ c. c || among (b ∷ name) (core_names rows)) (among-order (b ∷ name) rows ∙ others_kept b name rows)
    ∙ ap (λ c. list_any (is_of (b ∷ name)) rows || c) (others-core b name (list_any (is_of []) rows))
    ∙ or_nothing (list_any (is_of (b ∷ name)) rows)

core_is : (rows : List Row) (b : Bool)
    → cond b (group_of rows [] ∷ []) [] ≡ map (group_of rows) (cond b ([] ∷ []) [])
core_is rows true = refl
core_is rows false = refl

-- the groups of the list and the core group have the texts of all groups
pub all_texts : (name : List ℕ) (rows : List Row)
    → last_document name None (sorted_groups rows ++ core_groups rows) ≡ group_text name rows
unfolding group_text
all_texts name rows =
    ap (λ l. last_document name None (sorted_groups rows ++ l)) (core_is rows (list_any (is_of []) rows))
    ∙ ap (last_document name None) (sym (map-append (group_of rows) (names_in_order rows) (core_names rows)))
    ∙ last_of_names rows name None (all_names rows)
    ∙ ap (λ b. cond b (Some (group_document (group_of rows name))) None) (among-all name rows)

-- ---- texts by their names, as a tree keeps them

abbrev pub entry : {Y : Type 0} → String Y × List ℕ → List ℕ × List ℕ
entry e = (string_bytes e.0, e.1)

pub text_by_tree : {Y : Type 0} (name : List ℕ) (entries : List (String Y × List ℕ))
    → text_of name (map entry entries) ≡ lookup (is_at (text_cmp name)) entries
text_by_tree name [] = refl
text_by_tree name ((own, text) ∷ others) =
    ap (cond (bytes_eq name (string_bytes own)) (Some text)) (text_by_tree name others)
    ∙ ap (λ b. cond b (Some text) (lookup (is_at (text_cmp name)) others)) (sym (is_eq-slice_cmp name (string_bytes own)))
