-- The group versions of a table: their names differ.
use Rattle.std.proofs.Common.{◌≡◌, ℕ, ◌==◌, true, not, List, [], ◌∷◌, ◌++◌, filter, length, map, Option, Some, None, refl, ap, sym, ◌∙◌}
use Rattle.std.specs.List.{AllByRecursion}
use Rattle.std.specs.Prelude.{codes}
use Rattle.std.specs.Str.{is_utf8}
use Rattle.apiservice_rows.specs.Object.{are_name_bytes, are_version_bytes}
use Rattle.apiservice_rows.specs.Row.{Row, own_name}
use Rattle.apiservice_table.specs.Table.{row}
use Rattle.discovery_merge.specs.Groups.{group_of, is_named, is_of, names_in_order, rows_of, sorted_groups}
use Rattle.discovery_merge.specs.Order.{group_order, preference_order, sorted}
use Rattle.resource_fetch.specs.Version.{group_version}
use Rattle.resources_command.specs.Order.{all_versions, core_of, name_of, one_of, order_of, versions_of}
use Rattle.resources_command.specs.declared.group_versions.GroupVersion.{GroupVersion}
use Rattle.resources_laws.proofs.ListLemmas.{Apart, Differ, all_append, all_map, all_once, all_passing, all_sorted, all_weaker, apart_append, apart_filter, apart_map, apart_once, apart_sorted, apart_weaker, equal_texts}
use Rattle.resources_laws.proofs.NameLemmas.{core_apart, named_apart, named_utf8}
use Rattle.resources_laws.proofs.RowLemmas.{AreSpelled, IsSpelled, NamesDiffer, swapped}

-- a group other than the core group, by its name
pub record IsGroupName (name : List ℕ) : Type 0 where
  pub some : not (length name == 0) ≡ true
  pub bytes : are_name_bytes name ≡ true

-- one of such a group
pub record IsOfGroup (own : GroupVersion) : Type 0 where
  pub group : IsGroupName own.group
  pub version : are_version_bytes own.version ≡ true

abbrev pub AreApart : GroupVersion → GroupVersion → Type 0
AreApart a b = a.group ≡ b.group → a.version ≡ b.version → ⊥

abbrev pub NamesApart : GroupVersion → GroupVersion → Type 0
NamesApart a b = Differ (name_of a) (name_of b)

-- ---- the versions of one group

abbrev pub IsRowOf : List ℕ → Row → Type 0
IsRowOf name r = IsSpelled r × (is_of name r ≡ true)

rows_of_are : (name : List ℕ) (rows : List Row) → AreSpelled rows → AllByRecursion (IsRowOf name) (rows_of name rows)
rows_of_are name rows h =
    all_sorted preference_order (IsRowOf name) (filter (is_of name) rows) (all_passing (is_of name) IsSpelled rows h)

rows_of_apart : (name : List ℕ) (rows : List Row) → Apart NamesDiffer rows → Apart NamesDiffer (rows_of name rows)
rows_of_apart name rows a =
    apart_sorted preference_order NamesDiffer swapped (filter (is_of name) rows) (apart_filter (is_of name) NamesDiffer rows a)

-- rows of one group differ in their versions
versions_differ : (name : List ℕ) (a b : Row) → IsRowOf name a → IsRowOf name b → NamesDiffer a b → Differ a.version b.version
versions_differ name a b h k differ = λ same.
    let left : a.group ≡ name = equal_texts a.group name h.1 in
    let right : b.group ≡ name = equal_texts b.group name k.1 in
    differ (h.0.name
    ∙ ap (λ (v : List ℕ). own_name v a.group) same
    ∙ ap (λ (g : List ℕ). own_name b.version g) (left ∙ sym right)
    ∙ sym k.0.name)

module _ (name : List ℕ) (rows : List Row) (spelled : AreSpelled rows) (apart : Apart NamesDiffer rows) where
  versions_apart : Apart Differ (group_of rows name).versions
  versions_apart =
      apart_map (λ (r : Row). r.version) Differ (rows_of name rows)
      (apart_weaker (IsRowOf name) NamesDiffer (λ a b. Differ a.version b.version) (λ a b h k d. versions_differ name a b h k d) (rows_of name rows)
      (rows_of_are name rows spelled) (rows_of_apart name rows apart))

  pub group_apart : Apart AreApart (versions_of (group_of rows name))
  group_apart =
      apart_map (one_of name) AreApart (group_of rows name).versions
      (apart_weaker (λ (v : List ℕ). Unit {0}) Differ (λ v w. AreApart (one_of name v) (one_of name w)) (λ v w h k d g same. d same)
      (group_of rows name).versions (all_of (group_of rows name).versions) versions_apart)
    where
      all_of : (versions : List (List ℕ)) → AllByRecursion (λ (v : List ℕ). Unit {0}) versions
      all_of [] = tt
      all_of (v ∷ versions) = (tt, all_of versions)

  pub group_is : IsGroupName name → AllByRecursion IsOfGroup (versions_of (group_of rows name))
  group_is g =
      all_map (one_of name) IsOfGroup (group_of rows name).versions
      (all_map (λ (r : Row). r.version) (λ v. IsOfGroup (one_of name v)) (rows_of name rows)
      (all_weaker (IsRowOf name) (λ (r : Row). IsOfGroup (one_of name r.version)) (λ r h. record { group = g; version = h.0.version }) (rows_of name rows)
      (rows_of_are name rows spelled)))

-- all versions of a group have its name
versions_have : (name : List ℕ) (P : List ℕ → Type 0) (versions : List (List ℕ)) → P name
    → AllByRecursion (λ (own : GroupVersion). P own.group) (map (one_of name) versions)
versions_have name P [] p = tt
versions_have name P (v ∷ versions) p = (p, versions_have name P versions p)

-- those of other groups are apart from all of them
from_others : (name : List ℕ) (others : List GroupVersion) → AllByRecursion (λ (own : GroupVersion). Differ name own.group) others
    → (versions : List (List ℕ)) → AllByRecursion (λ (own : GroupVersion). AllByRecursion (AreApart own) others) (map (one_of name) versions)
from_others name others h [] = tt
from_others name others h (v ∷ versions) = (
  all_weaker (λ (own : GroupVersion). Differ name own.group) (AreApart (one_of name v)) (λ own d same other. d same) others h,
  from_others name others h versions,
)

-- ---- the versions of all groups

module _ (rows : List Row) (spelled : AreSpelled rows) (apart : Apart NamesDiffer rows) where
  groups_have : (P : List ℕ → Type 0) (names : List (List ℕ)) → AllByRecursion P names
      → AllByRecursion (λ (own : GroupVersion). P own.group) (all_versions (map (group_of rows) names))
  groups_have P [] h = tt
  groups_have P (name ∷ names) h =
      all_append (λ (own : GroupVersion). P own.group) (versions_of (group_of rows name)) (all_versions (map (group_of rows) names))
      (versions_have name P (group_of rows name).versions h.0) (groups_have P names h.1)

  groups_are : (names : List (List ℕ)) → AllByRecursion IsGroupName names → AllByRecursion IsOfGroup (all_versions (map (group_of rows) names))
  groups_are [] h = tt
  groups_are (name ∷ names) h =
      all_append IsOfGroup (versions_of (group_of rows name)) (all_versions (map (group_of rows) names))
      (group_is name rows spelled apart h.0) (groups_are names h.1)

  groups_apart : (names : List (List ℕ)) → Apart Differ names → Apart AreApart (all_versions (map (group_of rows) names))
  groups_apart [] a = tt
  groups_apart (name ∷ names) a =
      apart_append AreApart (versions_of (group_of rows name)) (all_versions (map (group_of rows) names))
      (group_apart name rows spelled apart) (groups_apart names a.1)
      (from_others name (all_versions (map (group_of rows) names)) (groups_have (Differ name) names a.0) (group_of rows name).versions)

  -- ---- the names of the groups

  name_is : (r : Row) → IsSpelled r × (is_named r ≡ true) → IsGroupName r.group
  name_is r h = record { some = h.1; bytes = h.0.group }

  names_are : AllByRecursion IsGroupName (names_in_order rows)
  names_are =
      all_once IsGroupName (map (λ (r : Row). r.group) (sorted group_order (filter is_named rows)))
      (all_map (λ (r : Row). r.group) IsGroupName (sorted group_order (filter is_named rows))
      (all_sorted group_order (λ (r : Row). IsGroupName r.group) (filter is_named rows)
      (all_weaker (λ r. IsSpelled r × (is_named r ≡ true)) (λ (r : Row). IsGroupName r.group) name_is (filter is_named rows)
      (all_passing is_named IsSpelled rows spelled))))

  pub others_are : AllByRecursion IsOfGroup (all_versions (sorted_groups rows))
  others_are = groups_are (names_in_order rows) names_are

  pub others_apart : Apart AreApart (all_versions (sorted_groups rows))
  others_apart = groups_apart (names_in_order rows) (apart_once (map (λ (r : Row). r.group) (sorted group_order (filter is_named rows))))

-- ---- their names

group_names_apart : (a b : GroupVersion) → IsOfGroup a → IsOfGroup b → AreApart a b → NamesApart a b
group_names_apart a b h k d = λ e. by_group a.group b.group a.version b.version h.group k.group d e
  where
    by_group : (x y v w : List ℕ) → IsGroupName x → IsGroupName y → (x ≡ y → v ≡ w → ⊥) → group_version x v ≡ group_version y w → ⊥
    by_group [] y v w h k d e = let n = h.some in absurd (cc n)
    by_group (g ∷ x) [] v w h k d e = let n = k.some in absurd (cc n)
    by_group (g ∷ x) (i ∷ y) v w h k d e =
        let same = named_apart g i x y v w h.bytes k.bytes e in
        d same.0 same.1

-- v1 of the core group
core_is_apart : (own : GroupVersion) → IsOfGroup own → NamesApart (one_of [] (codes "v1")) own
core_is_apart own h = λ e. by_group own.group own.version h.group e
  where
    by_group : (x v : List ℕ) → IsGroupName x → codes "v1" ≡ group_version x v → ⊥
    by_group [] v h e = let n = h.some in absurd (cc n)
    by_group (g ∷ x) v h e = core_apart g x v e

core_names_apart : (found : Option Row) (others : List GroupVersion) → AllByRecursion IsOfGroup others → Apart NamesApart others
    → Apart NamesApart (core_of found ++ others)
core_names_apart None others h a = a
core_names_apart (Some r) others h a = (all_weaker IsOfGroup (NamesApart (one_of [] (codes "v1"))) core_is_apart others h, a)

-- a name is UTF-8
abbrev pub IsText : GroupVersion → Type 0
IsText own = is_utf8 (name_of own) ≡ true

core_names_are : (found : Option Row) (others : List GroupVersion) → AllByRecursion IsText others → AllByRecursion IsText (core_of found ++ others)
core_names_are None others h = h
core_names_are (Some r) others h = (named_utf8 [] [] refl refl, h)

module _ (rows : List Row) (spelled : AreSpelled rows) (apart : Apart NamesDiffer rows) where
  pub order_apart : Apart NamesApart (order_of rows)
  unfolding order_of
  order_apart =
      core_names_apart (row [] (codes "v1") rows) (all_versions (sorted_groups rows)) (others_are rows spelled apart)
      (apart_weaker IsOfGroup AreApart NamesApart group_names_apart (all_versions (sorted_groups rows)) (others_are rows spelled apart)
      (others_apart rows spelled apart))

  pub order_is_text : AllByRecursion IsText (order_of rows)
  unfolding order_of
  order_is_text =
      core_names_are (row [] (codes "v1") rows) (all_versions (sorted_groups rows))
      (all_weaker IsOfGroup IsText (λ own h. named_utf8 own.group own.version h.group.bytes h.version) (all_versions (sorted_groups rows))
      (others_are rows spelled apart))
