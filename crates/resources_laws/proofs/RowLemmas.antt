-- What the rows of a text are spelled with, and that no two have one name.
use Rattle.std.proofs.Common.{◌≡◌, ℕ, ◌+◌, Bool, true, false, List, [], ◌∷◌, length, Option, Some, None, Result, Ok, Err, refl, subst, sym}
use Rattle.std.specs.Cmp.Lexicographic.{slice_cmp}
use Rattle.std.specs.List.{AllByRecursion}
use Rattle.std.specs.Ordering.{match_ordering, nat_cmp}
use Rattle.std.specs.Prelude.{◌&&◌, codes, if◌then◌else◌, nat_lt, bytes_eq}
use Rattle.std.specs.declared.cmp.Ordering.{Ordering}
use Rattle.std.specs.declared.cmp.Ordering.TheVariants.{Less, Equal, Greater}
use Rattle.serde_json.specs.Data.{Data, Items, no_items, item}
use Rattle.serde_json.specs.Find.{as_array, as_str}
use Rattle.json_value.specs.Members.{inner, present, text_in}
use Rattle.json_value.specs.Read.{value_of}
use Rattle.json_value.specs.Results.{◌>>=◌, found_or}
use Rattle.apiservice_rows.specs.Object.{are_name_bytes, are_version_bytes, available_of, begins_with_letter, group_in, group_number_of, group_of, group_ranged, head_of, is_group, is_version, kept, name_check, name_of, ranged_service, row_of, service_of, some_group, version_number_of, version_of, version_ranged}
use Rattle.apiservice_rows.specs.Row.{Row, own_name}
use Rattle.apiservice_rows.specs.RowList.{distinct, few, is_list, item_rows, items_in, list_rows, names_of, one_row, read_rows}
use Rattle.apiservice_rows.specs.declared.fault.RowFault.{RowFault}
use Rattle.apiservice_rows.specs.declared.fault.RowFault.TheVariants.{BadField, Full, NameMismatch, NotJson}
use Rattle.apiservice_rows.specs.declared.row_list.TheConstants.{MOST_ROWS}
use Rattle.apiservice_table.specs.Table.{HasDistinctNames, row_named, with_row, with_rows}
use Rattle.resources_laws.proofs.ListLemmas.{Apart, Differ, all_both, all_weaker, differ, equal_texts}

-- lower-case letters, digits, `-` and, in the group, `.`; and the name is that of both
pub record IsSpelled (r : Row) : Type 0 where
  pub group : are_name_bytes r.group ≡ true
  pub version : are_version_bytes r.version ≡ true
  pub name : r.name ≡ own_name r.version r.group

-- ---- what is read, if anything is

abbrev pub IfRead : {A : Type 0} → (A → Type 0) → Result A RowFault → Type 0
IfRead P (Ok a) = P a
IfRead P (Err fault) = Unit {0}

after : {A B : Type 0} (first : Result A RowFault) (next : A → Result B RowFault) (P : A → Type 0) (Q : B → Type 0) → IfRead P first
    → ((a : A) → P a → IfRead Q (next a)) → IfRead Q (first >>= next)
after (Ok a) next P Q h f = f a h
after (Err fault) next P Q h f = tt

after_any : {A B : Type 0} (first : Result A RowFault) (next : A → Result B RowFault) (Q : B → Type 0) → ((a : A) → IfRead Q (next a))
    → IfRead Q (first >>= next)
after_any (Ok a) next Q f = f a
after_any (Err fault) next Q f = tt

right_of : (a b : Bool) → (a && b) ≡ true → b ≡ true
right_of true b e = e
right_of false b e = absurd (cc e)

kept_is : (test : List ℕ → Bool) (fault : RowFault) (found : Option (List ℕ)) → IfRead (λ text. test text ≡ true) (found_or fault (kept test found))
kept_is test fault None = tt
kept_is test fault (Some text) = by_test (test text) (λ e. e)
  where
    by_test : (b : Bool) → (b ≡ true → test text ≡ true) → IfRead (λ text. test text ≡ true) (found_or fault (if b then Some text else None))
    by_test true passes = passes refl
    by_test false passes = tt

read_weaker : {A : Type 0} (P Q : A → Type 0) (r : Result A RowFault) → ((a : A) → P a → Q a) → IfRead P r → IfRead Q r
read_weaker P Q (Ok a) f h = f a h
read_weaker P Q (Err fault) f h = tt

-- ---- one row

group_is : (text : List ℕ) → is_group text ≡ true → are_name_bytes text ≡ true
group_is text e = right_of (nat_lt (length text) 254) (are_name_bytes text) e

version_is : (text : List ℕ) → is_version text ≡ true → are_version_bytes text ≡ true
version_is text e =
    right_of (begins_with_letter text) (are_version_bytes text)
    (right_of (nat_lt (length text) 64) (begins_with_letter text && are_version_bytes text) e)

some_group_is : (place : Option ℕ) (d : Data) → IfRead (λ text. are_name_bytes text ≡ true) (some_group place d)
some_group_is place d =
    read_weaker (λ text. is_group text ≡ true) (λ text. are_name_bytes text ≡ true)
    (found_or (BadField place (codes "spec.group")) (kept is_group (as_str d))) group_is
    (kept_is is_group (BadField place (codes "spec.group")) (as_str d))

group_in_is : (place : Option ℕ) (found : Option Data) → IfRead (λ text. are_name_bytes text ≡ true) (group_in place found)
group_in_is place None = refl
group_in_is place (Some d) = some_group_is place d

group_of_is : (place : Option ℕ) (d : Data) → IfRead (λ text. are_name_bytes text ≡ true) (group_of place d)
unfolding group_of
group_of_is place d = group_in_is place (inner (codes "spec") (codes "group") d)

version_of_is : (place : Option ℕ) (d : Data) → IfRead (λ text. are_version_bytes text ≡ true) (version_of place d)
unfolding version_of
version_of_is place d =
    read_weaker (λ text. is_version text ≡ true) (λ text. are_version_bytes text ≡ true)
    (found_or (BadField place (codes "spec.version")) (kept is_version (text_in (inner (codes "spec") (codes "version") d)))) version_is
    (kept_is is_version (BadField place (codes "spec.version")) (text_in (inner (codes "spec") (codes "version") d)))

named_is : (place : Option ℕ) (name version group : List ℕ) → IfRead (λ u. name ≡ own_name version group) (name_check place name version group)
unfolding name_check
named_is place name version group = by_test (bytes_eq name (own_name version group)) (λ e. equal_texts name (own_name version group) e)
  where
    by_test : (b : Bool) → (b ≡ true → name ≡ own_name version group)
        → IfRead (λ (u : Unit {0}). name ≡ own_name version group) (if b then Ok tt else Err (NameMismatch place))
    by_test true same = same refl
    by_test false same = tt

row_is : (place : Option ℕ) (d : Data) → IfRead IsSpelled (row_of place d)
unfolding row_of
row_is place d =
    after_any (head_of place d) _ IsSpelled (λ head.
    after_any (name_of place d) _ IsSpelled (λ name.
    after (group_of place d) _ (λ text. are_name_bytes text ≡ true) IsSpelled (group_of_is place d) (λ group g.
    after (version_of place d) _ (λ text. are_version_bytes text ≡ true) IsSpelled (version_of_is place d) (λ version v.
    after_any (group_number_of place d) _ IsSpelled (λ group_number.
    after_any (version_number_of place d) _ IsSpelled (λ version_number.
    after_any (service_of place d) _ IsSpelled (λ found.
    after_any (available_of place d) _ IsSpelled (λ available.
    after (name_check place name version group) _ (λ u. name ≡ own_name version group) IsSpelled (named_is place name version group) (λ same n.
    after_any (group_ranged place group_number) _ IsSpelled (λ group_priority.
    after_any (version_ranged place version_number) _ IsSpelled (λ version_priority.
    after_any (ranged_service place found) _ IsSpelled (λ service. record { group = g; version = v; name = n }))))))))))))

-- ---- the rows of a text

abbrev pub AreSpelled : List Row → Type 0
AreSpelled rows = AllByRecursion IsSpelled rows

items_are : (place : ℕ) (ds : Items) → IfRead AreSpelled (item_rows place ds)
unfolding item_rows
items_are place no_items = tt
items_are place (item d ds) =
    after (row_of (Some place) d) _ IsSpelled AreSpelled (row_is (Some place) d) (λ first f.
    after (item_rows (place + 1) ds) _ AreSpelled AreSpelled (items_are (place + 1) ds) (λ others o. (f, o)))

items_in_are : (found : Option Data) → IfRead AreSpelled (items_in found)
items_in_are None = tt
items_in_are (Some d) =
    after_any (found_or (BadField None (codes "items")) (as_array d)) (item_rows 0) AreSpelled (λ ds. items_are 0 ds)

few_are : (rows : List Row) → AreSpelled rows → IfRead AreSpelled (few rows)
unfolding few
few_are rows h = by_test (nat_lt MOST_ROWS (length rows))
  where
    by_test : (b : Bool) → IfRead AreSpelled (if b then Err Full else Ok rows)
    by_test true = tt
    by_test false = h

list_is : (d : Data) → IfRead AreSpelled (list_rows d)
unfolding list_rows
list_is d =
    after (items_in (present (codes "items") d)) _ AreSpelled AreSpelled (items_in_are (present (codes "items") d)) (λ rows h.
    after_any (distinct (names_of rows)) _ AreSpelled (λ each. few_are rows h))

one_is : (d : Data) → IfRead AreSpelled (one_row d)
unfolding one_row
one_is d = after (row_of None d) _ IsSpelled AreSpelled (row_is None d) (λ row h. (h, tt))

text_is : (bytes : List ℕ) → IfRead AreSpelled (read_rows bytes)
unfolding read_rows
text_is bytes =
    after_any (found_or NotJson (value_of bytes)) _ AreSpelled (λ d. by_kind (is_list d) d)
  where
    by_kind : (b : Bool) (d : Data) → IfRead AreSpelled (if b then list_rows d else one_row d)
    by_kind true d = list_is d
    by_kind false d = one_is d

pub read_are : (bytes : List ℕ) (rows : List Row) → read_rows bytes ≡ Ok rows → AreSpelled rows
read_are bytes rows e = subst (λ (r : Result (List Row) RowFault). IfRead AreSpelled r) e (text_is bytes)

-- ---- in a table

abbrev pub NamesDiffer : Row → Row → Type 0
NamesDiffer a b = Differ a.name b.name

pub swapped : (a b : Row) → NamesDiffer a b → NamesDiffer b a
swapped a b h = λ e. h (sym e)

none_named : (own : Row) (rows : List Row) → row_named own.name rows ≡ None → AllByRecursion (NamesDiffer own) rows
none_named own [] e = tt
none_named own (r ∷ rows) e = by_test (none_named own rows) (bytes_eq r.name own.name) refl
  where
    by_test : (row_named own.name rows ≡ None → AllByRecursion (NamesDiffer own) rows) → (b : Bool) → bytes_eq r.name own.name ≡ b
        → AllByRecursion (NamesDiffer own) (r ∷ rows)
    by_test others true k = absurd (cc (rw k at e))
    by_test others false k = (λ same. differ r.name own.name k (sym same), others (rw k at e))

pub names_apart : (rows : List Row) → HasDistinctNames rows → Apart NamesDiffer rows
names_apart [] h = tt
names_apart (r ∷ rows) h = (none_named r rows h.0, names_apart rows h.1)

all_with : (P : Row → Type 0) (new : Row) (rows : List Row) → P new → AllByRecursion P rows → AllByRecursion P (with_row new rows)
all_with P new [] p h = (p, tt)
all_with P new (r ∷ rows) p h = by_order (slice_cmp nat_cmp r.name new.name) (all_with P new rows p h.1)
  where
    by_order : (o : Ordering) → AllByRecursion P (with_row new rows)
        → AllByRecursion P (match_ordering o (r ∷ with_row new rows) (new ∷ rows) (new ∷ r ∷ rows))
    by_order Less others = (h.0, others)
    by_order Equal others = (p, h.1)
    by_order Greater others = (p, h)

apart_with : (new : Row) (rows : List Row) → AllByRecursion (NamesDiffer new) rows → Apart NamesDiffer rows → Apart NamesDiffer (with_row new rows)
apart_with new [] h a = (tt, tt)
apart_with new (r ∷ rows) h a = by_order (slice_cmp nat_cmp r.name new.name) (apart_with new rows h.1 a.1)
  where
    by_order : (o : Ordering) → Apart NamesDiffer (with_row new rows)
        → Apart NamesDiffer (match_ordering o (r ∷ with_row new rows) (new ∷ rows) (new ∷ r ∷ rows))
    by_order Less others = (all_with (NamesDiffer r) new rows (swapped new r h.0) a.0, others)
    by_order Equal others = (h.1, a.1)
    by_order Greater others = (h, a)

pub spelled_with : (others rows : List Row) → AreSpelled others → AreSpelled rows → AreSpelled (with_rows others rows)
spelled_with [] rows h k = k
spelled_with (new ∷ others) rows h k = spelled_with others (with_row new rows) h.1 (all_with IsSpelled new rows h.0 k)

-- each of the others differs from one row more
differ_more : (new : Row) (others rows : List Row) → AllByRecursion (NamesDiffer new) others
    → AllByRecursion (λ other. AllByRecursion (NamesDiffer other) rows) others
    → AllByRecursion (λ other. AllByRecursion (NamesDiffer other) (with_row new rows)) others
differ_more new others rows h k =
    all_weaker (λ other. NamesDiffer new other × AllByRecursion (NamesDiffer other) rows) (λ other. AllByRecursion (NamesDiffer other) (with_row new rows))
    (λ other both. all_with (NamesDiffer other) new rows (swapped new other both.0) both.1) others
    (all_both (NamesDiffer new) (λ other. AllByRecursion (NamesDiffer other) rows) others h k)

pub apart_with_rows : (others rows : List Row) → Apart NamesDiffer others → AllByRecursion (λ other. AllByRecursion (NamesDiffer other) rows) others
    → Apart NamesDiffer rows → Apart NamesDiffer (with_rows others rows)
apart_with_rows [] rows h k a = a
apart_with_rows (new ∷ others) rows h k a =
    apart_with_rows others (with_row new rows) h.1 (differ_more new others rows h.0 k.1) (apart_with new rows k.0 a)

pub from_none : (others : List Row) → AllByRecursion (λ other. AllByRecursion (NamesDiffer other) []) others
from_none [] = tt
from_none (other ∷ others) = (tt, from_none others)
