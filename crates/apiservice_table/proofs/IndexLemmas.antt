-- What links say of the row of a group and a version.
use Rattle.std.proofs.Common.{◌≡◌, ◌≢◌, ℕ, suc, ◌+◌, ◌<◌, ◌≤◌, ◌==◌, Bool, true, false, List, [], ◌∷◌, length, get_or, set, drop, Option, Some, None, refl, sym, ap, ◌∙◌, arith}
use Rattle.std.specs.Prelude.{◌&&◌, if◌then◌else◌}
use Rattle.std.specs.Str.{bytes_eq}
use Rattle.std.proofs.lemmas.Bool.Decides.{Decides-eqb}
use Rattle.std.proofs.lemmas.List.{drop-drop, drop_more, length-drop, get_or-set_same, get_or-set_other, get_or-drop, get_or_default}
use Rattle.apiservice_rows.specs.Row.{Row}
use Rattle.apiservice_rows.specs.declared.row_list.TheConstants.{MOST_ROWS}
use Rattle.apiservice_table.specs.Index.{Links, LinksAll, LinksFrom, first_in, slot_of}
use Rattle.apiservice_table.specs.Table.{row}
use Rattle.apiservice_table.specs.declared.index.TheConstants.{SLOTS}
use Rattle.apiservice_table.proofs.FindLemmas.{both, equal_texts}

-- ---- a walk from row to row of a slot

abbrev pub fits : List ℕ → List ℕ → Row → Bool
fits group version r = bytes_eq r.group group && bytes_eq r.version version

-- a row of another slot is of another group or version
other : (group version : List ℕ) (r : Row) → (slot_of r.group r.version == slot_of group version) ≡ false
    → fits group version r ≡ false
other group version r e = by_cases (fits group version r) refl
  where
    by_cases : (b : Bool) → fits group version r ≡ b → fits group version r ≡ false
    by_cases false k = k
    by_cases true k =
        let h = both (bytes_eq r.group group) (bytes_eq r.version version) k in
        let g : r.group ≡ group = equal_texts r.group group h.0 in
        let v : r.version ≡ version = equal_texts r.version version h.1 in
        let equal : slot_of r.group r.version ≡ slot_of group version =
        ap (λ y. slot_of y r.version) g ∙ ap (λ y. slot_of group y) v in
        absurd (cc (sym e ∙ (Decides-eqb (slot_of r.group r.version) (slot_of group version)).1 equal))

-- a slot with no row
row_of_none : (group version : List ℕ) (at : ℕ) (rows : List Row) → first_in (slot_of group version) at rows ≡ None
    → row group version rows ≡ None
row_of_none group version at [] e = refl
row_of_none group version at (r ∷ rows) e =
    by_cases (row_of_none group version (at + 1) rows) (slot_of r.group r.version == slot_of group version) refl
  where
    by_cases : (first_in (slot_of group version) (at + 1) rows ≡ None → row group version rows ≡ None)
        → (b : Bool) → (slot_of r.group r.version == slot_of group version) ≡ b → row group version (r ∷ rows) ≡ None
    by_cases ih true k = absurd (cc (rw k at e))
    by_cases ih false k = rw (other group version r k) (ih (rw k at e))

-- the first row of a slot: the rows before it are of another one
abbrev pub IsFirst : List ℕ → List ℕ → List Row → ℕ → Type 0
IsFirst group version rows i =
    (i < length rows) × (row group version rows ≡ row group version (drop i rows))
    × ((d : Row) → slot_of (get_or rows i d).group (get_or rows i d).version ≡ slot_of group version)

row_of_some : (group version : List ℕ) (at p : ℕ) (rows : List Row) → first_in (slot_of group version) at rows ≡ Some p
    → (i : ℕ) × (p ≡ at + i) × IsFirst group version rows i
row_of_some group version at p [] e = absurd (cc e)
row_of_some group version at p (r ∷ rows) e =
    by_cases (row_of_some group version (at + 1) p rows) (slot_of r.group r.version == slot_of group version) refl
  where
    by_cases : (first_in (slot_of group version) (at + 1) rows ≡ Some p → (i : ℕ) × (p ≡ at + 1 + i) × IsFirst group version rows i)
        → (b : Bool) → (slot_of r.group r.version == slot_of group version) ≡ b
        → (i : ℕ) × (p ≡ at + i) × IsFirst group version (r ∷ rows) i
    by_cases ih true k =
        let here : at ≡ p = cc (rw k at e) in
        (0, omega (arith, here), (omega arith, refl, λ (d : Row). (Decides-eqb (slot_of r.group r.version) (slot_of group version)).0 k))
    by_cases ih false k =
        let h = ih (rw k at e) in
        let place = h.1 in
        let within = h.2.0 in
        (suc h.0, omega (arith, place), (omega (arith, within), rw (other group version r k) h.2.1, h.2.2))

-- the place of a row, or of none, behind which the row of the group and version stands if it is there
abbrev pub Leads : List ℕ → List ℕ → List Row → Option ℕ → Type 0
Leads group version rows next =
    (k : ℕ) × (next ≡ first_in (slot_of group version) k (drop k rows)) × (row group version rows ≡ row group version (drop k rows))

pub leads_none : (group version : List ℕ) (rows : List Row) (next : Option ℕ) → Leads group version rows next → next ≡ None
    → row group version rows ≡ None
leads_none group version rows next h e = h.2 ∙ row_of_none group version h.0 (drop h.0 rows) (sym h.1 ∙ e)

pub leads_some : (group version : List ℕ) (rows : List Row) (next : Option ℕ) (p : ℕ) → Leads group version rows next → next ≡ Some p
    → IsFirst group version rows p
leads_some group version rows next p h e =
    let f = row_of_some group version h.0 p (drop h.0 rows) (sym h.1 ∙ e) in
    let i = f.0 in
    let n = f.2.0 in
    let len = length-drop h.0 rows in (
      (let place = f.1 in omega (arith, place, n, len)),
      h.2 ∙ f.2.1 ∙ ap (row group version) (drop-drop i h.0 rows ∙ ap (λ y. drop y rows) (sym f.1)),
      λ (d : Row). ap (λ (y : Row). slot_of y.group y.version)
          (ap (λ y. get_or rows y d) f.1 ∙ sym (get_or-drop h.0 rows i d)) ∙ f.2.2 d,
    )

-- the row at a place, and the ones behind it
pub row_there : (group version : List ℕ) (rows : List Row) (p : ℕ) (r : Row) → IsFirst group version rows p → r ≡ get_or rows p r
    → row group version rows ≡ (if fits group version r then Some r else row group version (drop (p + 1) rows))
row_there group version rows p r first is =
    first.1 ∙ ap (row group version) (drop_more rows p r first.0 ∙ ap (λ (y : Row). y ∷ drop (p + 1) rows) (sym is))

-- where the row at a place isn't it, the next of its slot leads on
pub leads_on : (group version : List ℕ) (rows : List Row) (links : Links) (p : ℕ) (r : Row) (next : Option ℕ)
    → LinksAll rows links → IsFirst group version rows p → r ≡ get_or rows p r → false ≡ fits group version r
    → next ≡ get_or links.next p next → Leads group version rows next
leads_on group version rows links p r next linked first is differs get =
    let slot : slot_of r.group r.version ≡ slot_of group version = ap (λ (y : Row). slot_of y.group y.version) is ∙ first.2 r in (
      p + 1,
      get ∙ linked.1 p r next (omega arith) first.0 is ∙ ap (λ s. first_in s (p + 1) (drop (p + 1) rows)) slot,
      row_there group version rows p r first is ∙ rw (sym differs) refl,
    )

pub leads_first : (group version : List ℕ) (rows : List Row) (links : Links) (next : Option ℕ) → LinksAll rows links
    → slot_of group version < SLOTS → next ≡ get_or links.first (slot_of group version) next → Leads group version rows next
leads_first group version rows links next linked lt get = (0, get ∙ linked.0 (slot_of group version) next lt, refl)

-- ---- links of a row more

pub linked : (rows : List Row) (at : ℕ) (r : Row) (head : Option ℕ) (old new : Links) → at < length rows → length rows ≤ MOST_ROWS
    → r ≡ get_or rows at r → length old.first ≡ SLOTS → length old.next ≡ MOST_ROWS → slot_of r.group r.version < SLOTS
    → LinksFrom (at + 1) rows old → head ≡ get_or old.first (slot_of r.group r.version) head
    → new.next ≡ set old.next at head → new.first ≡ set old.first (slot_of r.group r.version) (Some at)
    → LinksFrom at rows new
linked rows at r head old new lt few is slots places within h get next first = (firsts, nexts)
  where
    slot : ℕ
    slot = slot_of r.group r.version

    rest : drop at rows ≡ r ∷ drop (at + 1) rows
    rest = drop_more rows at r lt ∙ ap (λ (y : Row). y ∷ drop (at + 1) rows) (sym is)

    firsts : (s : ℕ) (d : Option ℕ) → s < SLOTS → get_or new.first s d ≡ first_in s at (drop at rows)
    firsts s d less = ap (λ ys. get_or ys s d) first ∙ by_cases (slot_of r.group r.version == s) refl ∙ sym (ap (first_in s at) rest)
      where
        by_cases : (b : Bool) → (slot_of r.group r.version == s) ≡ b
            → get_or (set old.first (slot_of r.group r.version) (Some at)) s d ≡ first_in s at (r ∷ drop (at + 1) rows)
        by_cases true k =
            let e : slot_of r.group r.version ≡ s = (Decides-eqb (slot_of r.group r.version) s).0 k in
            rw k (ap (λ y. get_or (set old.first (slot_of r.group r.version) (Some at)) y d) (sym e)
            ∙ get_or-set_same old.first (slot_of r.group r.version) (Some at) d (rw slots within))
        by_cases false k =
            rw k (get_or-set_other old.first (slot_of r.group r.version) s (Some at) d
            (λ e. cc (sym k ∙ (Decides-eqb (slot_of r.group r.version) s).1 (sym e))) ∙ h.0 s d less)

    nexts : (i : ℕ) (x : Row) (d : Option ℕ) → at ≤ i → i < length rows → x ≡ get_or rows i x
        → get_or new.next i d ≡ first_in (slot_of x.group x.version) (i + 1) (drop (i + 1) rows)
    nexts i x d le less there = ap (λ ys. get_or ys i d) next ∙ by_cases (i == at) refl
      where
        by_cases : (b : Bool) → (i == at) ≡ b
            → get_or (set old.next at head) i d ≡ first_in (slot_of x.group x.version) (i + 1) (drop (i + 1) rows)
        by_cases true k =
            let e : i ≡ at = (Decides-eqb i at).0 k in
            let same : x ≡ r = there ∙ ap (λ y. get_or rows y x) e ∙ get_or_default rows at x r lt ∙ sym is in
            rw (e, same) (get_or-set_same old.next at head d (rw places (omega (arith, lt, few)))
            ∙ get ∙ h.0 (slot_of r.group r.version) head within)
        by_cases false k =
            let n : i ≢ at = λ e. cc (sym k ∙ (Decides-eqb i at).1 e) in
            get_or-set_other old.next at i head d n ∙ h.1 i x d (omega (arith, le, n)) less there
