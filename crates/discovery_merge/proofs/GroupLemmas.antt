-- Groups of rows, one row after another.
use Rattle.std.proofs.Common.{Bor, arith, ◌≡◌, ℕ, ◌+◌, ◌<◌, Bool, true, false, cond, not, ◌||◌, List, [], ◌∷◌, ◌++◌, map, filter, length, take, get_or, Option, Some, None, option_map, unwrap_or, refl, sym, ap, ◌∙◌, inl, inr}
use Rattle.std.proofs.lemmas.Bool.{false≢true, cond-true, cond-false, cases_Bool, or_parts, or_left, or_right}
use Rattle.std.proofs.lemmas.List.{take_more, append-nil, map-append, length-map, get_or-map}
use Rattle.std.proofs.lemmas.List.Elements.{filter-append}
use Rattle.std.proofs.lemmas.List.Folds.{list_any_at, list_any-append}
use Rattle.std.proofs.lemmas.Slice.Eq.{bytes_eq-Decides}
use Rattle.std.specs.List.{list_any}
use Rattle.std.specs.Str.{bytes_eq}
use Rattle.apiservice_rows.specs.Row.{Row}
use Rattle.discovery_merge.specs.Groups.{group_of, is_named, is_of, once, rows_of}
use Rattle.discovery_merge.specs.Order.{group_order, preference_order, sorted}
use Rattle.discovery_merge.specs.declared.groups.Group.{Group}
use Rattle.discovery_merge.proofs.SortLemmas.{list_any-sorted}
use Rattle.discovery_merge.specs.Lent.{unless_empty, told}

-- a row more in a list of rows that isn't told where it is empty
unless_empty-push : (rows : List Row) (r : Row) → unless_empty (rows ++ r ∷ [])
    ≡ Some (unwrap_or (unless_empty rows) [] ++ r ∷ [])
unless_empty-push [] r = refl
unless_empty-push (x ∷ rows) r = refl

one_row_more : (name : List ℕ) (rows : List Row) (r : Row) → unless_empty (filter (is_of name) (rows ++ r ∷ []))
    ≡ cond (is_of name r) (Some (unwrap_or (unless_empty (filter (is_of name) rows)) [] ++ r ∷ []))
    (unless_empty (filter (is_of name) rows))
one_row_more name rows r =
    let p = is_of name in
    let before = filter p rows in
    ap unless_empty (filter-append p rows (r ∷ []))
    ∙ elim (cases_Bool (p r)) [
      | inl own ↦
          ap (λ b. unless_empty (before ++ cond b (r ∷ []) [])) own ∙ unless_empty-push before r
          ∙ sym (cond-true _ _ _ own)
      | inr other ↦
          ap (λ b. unless_empty (before ++ cond b (r ∷ []) [])) other ∙ ap unless_empty (append-nil before)
          ∙ sym (cond-false _ _ _ other)
    ]

-- a name more among names, each of which is told once
abbrev pub among : List ℕ → List (List ℕ) → Bool
among name names = list_any (λ own. bytes_eq own name) names

pub once-nil : once [] ≡ []
unfolding once
once-nil = refl

pub once-cons : (x : List ℕ) (xs : List (List ℕ)) → once (x ∷ xs) ≡ x ∷ filter (λ y. not (bytes_eq x y)) (once xs)
unfolding once
once-cons x xs = refl

abbrev others : List ℕ → List (List ℕ) → List (List ℕ)
others x xs = filter (λ y. not (bytes_eq x y)) xs

-- a new name stands behind the others
pub once-new : (xs : List (List ℕ)) (x : List ℕ) → among x xs ≡ false → once (xs ++ x ∷ []) ≡ once xs ++ x ∷ []
once-new [] x h = once-cons x [] ∙ ap (λ l. x ∷ others x l) once-nil ∙ ap (λ l. l ++ x ∷ []) (sym once-nil)
once-new (y ∷ ys) x h =
    let parts = or_parts (bytes_eq y x) (among x ys) h in
    once-cons y (ys ++ x ∷ [])
    ∙ ap (λ l. y ∷ l) (
    ap (others y) (once-new ys x parts.1) ∙ filter-append (λ z. not (bytes_eq y z)) (once ys) (x ∷ [])
    ∙ ap (λ b. others y (once ys) ++ cond (not b) (x ∷ []) []) parts.0
    )
    ∙ ap (λ l. l ++ x ∷ []) (sym (once-cons y ys))

or_false : (b : Bool) → (b || false) ≡ b
or_false true = refl
or_false false = refl

-- a name that was there changes nothing
pub once-again : (xs : List (List ℕ)) (x : List ℕ) → among x xs ≡ true → once (xs ++ x ∷ []) ≡ once xs
once-again [] x h = absurd (false≢true h)
once-again (y ∷ ys) x h =
    once-cons y (ys ++ x ∷ [])
    ∙ ap (λ l. y ∷ l) (elim (cases_Bool (among x ys)) [
      | inl there ↦ ap (others y) (once-again ys x there)
      | inr new ↦
          let own : bytes_eq y x ≡ true = sym (or_false (bytes_eq y x)) ∙ ap (λ b. bytes_eq y x || b) (sym new) ∙ h in
          ap (others y) (once-new ys x new) ∙ filter-append (λ z. not (bytes_eq y z)) (once ys) (x ∷ [])
          ∙ ap (λ b. others y (once ys) ++ cond (not b) (x ∷ []) []) own ∙ append-nil _
    ])
    ∙ sym (once-cons y ys)

-- a row among those in order is among the rows
any-filter : (p q : Row → Bool) (rows : List Row) → list_any p (filter q rows) ≡ true → list_any p rows ≡ true
any-filter p q [] h = h
any-filter p q (r ∷ rows) h =
    elim (cases_Bool (q r)) [
      | inl kept ↦
          let both : (p r || list_any p (filter q rows)) ≡ true = sym (ap (list_any p) (cond-true _ _ _ kept)) ∙ h in
          elim (cases_Bool (p r)) [
            | inl here ↦ or_left (p r) (list_any p rows) here
            | inr apart ↦
                or_right (p r) (list_any p rows)
                (any-filter p q rows (sym (ap (λ b. b || list_any p (filter q rows)) apart) ∙ both))
          ]
      | inr dropped ↦
          or_right (p r) (list_any p rows) (any-filter p q rows (sym (ap (list_any p) (cond-false _ _ _ dropped)) ∙ h))
    ]

some-rows : (p : Row → Bool) (rows : List Row) → list_any p rows ≡ true
    → unless_empty (filter p rows) ≡ Some (filter p rows)
some-rows p [] h = absurd (false≢true h)
some-rows p (r ∷ rows) h =
    elim (cases_Bool (p r)) [
      | inl kept ↦ rw kept refl
      | inr dropped ↦
          let rest : list_any p rows ≡ true = sym (ap (λ b. b || list_any p rows) dropped) ∙ h in
          ap unless_empty (cond-false _ _ _ dropped) ∙ some-rows p rows rest ∙ ap Some (sym (cond-false _ _ _ dropped))
    ]

-- a row in order has rows of its group
pub has_rows : (rows : List Row) (i : ℕ) (r : Row) → i < length (sorted group_order (filter is_named rows))
    → r ≡ get_or (sorted group_order (filter is_named rows)) i r
    → unless_empty (filter (is_of r.group) rows) ≡ Some (filter (is_of r.group) rows)
has_rows rows i r less is =
    let p = is_of r.group in
    let own : p r ≡ true = (bytes_eq-Decides r.group r.group).1 refl in
    some-rows p rows (any-filter p is_named rows (
    sym (list_any-sorted group_order p (filter is_named rows))
    ∙ list_any_at p (sorted group_order (filter is_named rows)) i r less (ap p (sym is) ∙ own)
    ))

-- the groups behind some rows in order, with one row more: its group is new, or was told before
module _ (rows before : List Row) (r : Row) (groups : List Group) (found : Option (List Row))
    (done : groups ≡ map (group_of rows) (once (map (λ (x : Row). x.group) before)))
    (left : found ≡ cond (among r.group (map (λ (x : Row). x.group) before)) None (unless_empty (filter (is_of r.group) rows)))
    (has : unless_empty (filter (is_of r.group) rows) ≡ Some (filter (is_of r.group) rows)) where
  abbrev names : List (List ℕ)
  names = map (λ (x : Row). x.group) before

  one_more : once (map (λ (x : Row). x.group) (before ++ r ∷ [])) ≡ once (names ++ r.group ∷ [])
  one_more = ap once (map-append (λ (x : Row). x.group) before (r ∷ []))

  pub told_some : (g : Group) → Some g ≡ option_map (told r.group) found
      → groups ++ g ∷ [] ≡ map (group_of rows) (once (map (λ (x : Row). x.group) (before ++ r ∷ [])))
  told_some g is =
      elim (cases_Bool (among r.group names)) [
        | inl there ↦
            let none : Some g ≡ None = is ∙ ap (option_map (told r.group)) (left ∙ cond-true _ _ _ there) in absurd (cc none)
        | inr new ↦
            let same : Some g ≡ Some (group_of rows r.group) =
            is ∙ ap (option_map (told r.group)) (left ∙ cond-false _ _ _ new ∙ has) in
            let own : g ≡ group_of rows r.group = cc same in
            ap (λ x. x ++ g ∷ []) done ∙ ap (λ x. map (group_of rows) (once names) ++ x ∷ []) own
            ∙ sym (
            ap (map (group_of rows)) (one_more ∙ once-new names r.group new)
            ∙ map-append (group_of rows) (once names) (r.group ∷ [])
            )
      ]

  pub told_none : None ≡ option_map (told r.group) found
      → groups ≡ map (group_of rows) (once (map (λ (x : Row). x.group) (before ++ r ∷ [])))
  told_none is =
      elim (cases_Bool (among r.group names)) [
        | inl there ↦ done ∙ sym (ap (map (group_of rows)) (one_more ∙ once-again names r.group there))
        | inr new ↦
            let some : None ≡ Some (group_of rows r.group) =
            is ∙ ap (option_map (told r.group)) (left ∙ cond-false _ _ _ new ∙ has) in absurd (cc some)
      ]

-- what the tree has left
pub left_more : (rows before : List Row) (r : Row) (name : List ℕ) (had : Option (List Row))
    → had ≡ cond (among name (map (λ (x : Row). x.group) before)) None (unless_empty (filter (is_of name) rows))
    → cond (bytes_eq r.group name) None had
    ≡ cond (among name (map (λ (x : Row). x.group) (before ++ r ∷ []))) None (unless_empty (filter (is_of name) rows))
left_more rows before r name had h =
    let names = map (λ (x : Row). x.group) before in
    let own = λ (x : List ℕ). bytes_eq x name in
    let rest = unless_empty (filter (is_of name) rows) in
    ap (cond (bytes_eq r.group name) None) h
    ∙ either (bytes_eq r.group name) (among name names) rest
    ∙ sym (ap (λ b. cond b None rest) (
    ap (among name) (map-append (λ (x : Row). x.group) before (r ∷ [])) ∙ list_any-append own names (r.group ∷ [])
    ))
  where
    either : (a b : Bool) (o : Option (List Row)) → cond a None (cond b None o) ≡ cond (b || (a || false)) None o
    either true true o = refl
    either true false o = refl
    either false true o = refl
    either false false o = refl

-- a borrowed row by its place
pub borrowed_at : (items : List (Bor Row)) (i : ℕ) (x : Bor Row) → i < length items → x ≡ get_or items i x
    → (i < length (map (λ r. r.now) items)) × (x.now ≡ get_or (map (λ r. r.now) items) i x.now)
    × (take (i + 1) (map (λ r. r.now) items) ≡ take i (map (λ r. r.now) items) ++ x.now ∷ [])
borrowed_at items i x less is =
    let now = λ (r : Bor Row). r.now in
    let long = length-map items now in
    let within : i < length (map now items) = omega arith in
    let at : x.now ≡ get_or (map now items) i x.now = ap now is ∙ sym (get_or-map now items i x x.now less) in
    (within, at, take_more (map now items) i x.now within ∙ ap (λ r. take i (map now items) ++ r ∷ []) (sym at))

-- the same of borrowed rows
pub of_group_lent : (name : List ℕ) (rows : List (Bor Row)) (i : ℕ) (x : Bor Row) → i < length rows → x ≡ get_or rows i x
    → unless_empty (filter (is_of name) (map (λ r. r.now) (take (i + 1) rows)))
    ≡ cond (is_of name x.now)
    (Some (unwrap_or (unless_empty (filter (is_of name) (map (λ r. r.now) (take i rows)))) [] ++ x.now ∷ []))
    (unless_empty (filter (is_of name) (map (λ r. r.now) (take i rows))))
of_group_lent name rows i x less is =
    let now = λ (r : Bor Row). r.now in
    let before = filter (is_of name) (map now (take i rows)) in
    ap (λ l. unless_empty (filter (is_of name) (map now l))) (take_more rows i x less ∙ ap (λ y. take i rows ++ y ∷ []) (sym is))
    ∙ ap (λ l. unless_empty (filter (is_of name) l)) (map-append now (take i rows) (x ∷ []))
    ∙ one_row_more name (map now (take i rows)) x.now

any_kept : (p : Row → Bool) (rows : List Row) → list_any (λ _. true) (filter p rows) ≡ list_any p rows
any_kept p [] = refl
any_kept p (r ∷ rows) = by (p r) (any_kept p rows)
  where
    by : (b : Bool) → list_any (λ _. true) (filter p rows) ≡ list_any p rows
        → list_any (λ _. true) (cond b (r ∷ filter p rows) (filter p rows)) ≡ (b || list_any p rows)
    by true rest = refl
    by false rest = rest

any_found : (name : List ℕ) (rows : List Row) (found : List (Bor Row)) → map (λ r. r.now) found ≡ rows_of name rows
    → list_any (λ _. true) (map (λ (r : Bor Row). r.now) found) ≡ list_any (is_of name) rows
any_found name rows found is =
    ap (list_any (λ _. true)) is ∙ list_any-sorted preference_order (λ _. true) (filter (is_of name) rows)
    ∙ any_kept (is_of name) rows

-- a group has no rows where none was found
pub none_found : (name : List ℕ) (rows : List Row) (found : List (Bor Row)) → map (λ r. r.now) found ≡ rows_of name rows
    → length found ≡ 0 → list_any (is_of name) rows ≡ false
none_found name rows [] is none = sym (any_found name rows [] is)
none_found name rows (r ∷ found) is none = absurd (omega arith)

pub some_found : (name : List ℕ) (rows : List Row) (found : List (Bor Row)) → map (λ r. r.now) found ≡ rows_of name rows
    → (length found ≡ 0 → ⊥) → list_any (is_of name) rows ≡ true
some_found name rows [] is some = absurd (some refl)
some_found name rows (r ∷ found) is some = sym (any_found name rows (r ∷ found) is)
