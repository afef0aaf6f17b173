-- A tree of rows by group, with a row more.
use Rattle.std.proofs.Common.{Bor, ◌≡◌, ℕ, Bool, true, false, cond, List, [], ◌∷◌, ◌++◌, map, Option, Some, None, Vec, unwrap_or, option_map, refl, sym, ap, ◌∙◌, inl, inr}
use Rattle.std.proofs.lemmas.Bool.{cond-true, cond-false, cases_Bool}
use Rattle.std.proofs.lemmas.Map.Text.{btree_map_updates_str}
use Rattle.std.proofs.lemmas.Slice.Eq.{bytes_eq-Decides}
use Rattle.std.specs.BTreeMap.{BTreeMap, UpdatesBy}
use Rattle.std.specs.Cmp.Lexicographic.{slice_cmp}
use Rattle.std.specs.Ordering.{nat_cmp}
use Rattle.std.specs.Str.{bytes_eq}
use Rattle.apiservice_rows.specs.Row.{Row}
use Rattle.discovery_merge.specs.Groups.{is_of}
use Rattle.discovery_merge.specs.Lent.{rows_for}

abbrev seen : {A : Type 0} → Vec (Bor Row) A → List Row
seen v = map (λ r. r.now) v.items

option_map-cond : {A B : Type 0} (f : A → B) (b : Bool) (x : A) (o : Option A)
    → option_map f (cond b (Some x) o) ≡ cond b (Some (f x)) (option_map f o)
option_map-cond f true x o = refl
option_map-cond f false x o = refl

module _ {A : Type 0} (key : List ℕ) (m n : BTreeMap (Bor (List ℕ)) (Vec (Bor Row) A)) (v : Vec (Bor Row) A)
    (updates : UpdatesBy (λ x y. slice_cmp nat_cmp x.now y.now) (λ k. slice_cmp nat_cmp key k.now) m n (Some v)) where
  rows_now : (name : List ℕ) → rows_for name n ≡ cond (bytes_eq key name) (Some (seen v)) (rows_for name m)
  rows_now name =
      ap (option_map seen) (btree_map_updates_str key m n (Some v) updates name)
      ∙ option_map-cond seen (bytes_eq key name) v _

  -- the row stands behind those that the tree had for its group
  pub row_added : (r : Row) → key ≡ r.group → seen v ≡ unwrap_or (rows_for key m) [] ++ r ∷ []
      → (name : List ℕ)
      → rows_for name n ≡ cond (is_of name r) (Some (unwrap_or (rows_for name m) [] ++ r ∷ [])) (rows_for name m)
  row_added r own behind name =
      rows_now name
      ∙ elim (cases_Bool (bytes_eq key name)) [
        | inl same ↦
            let e = (bytes_eq-Decides key name).0 same in
            cond-true _ _ _ same ∙ ap Some behind ∙ ap (λ k. Some (unwrap_or (rows_for k m) [] ++ r ∷ [])) e
            ∙ sym (cond-true _ _ _ (ap (λ k. bytes_eq k name) (sym own) ∙ same))
        | inr other ↦
            cond-false _ _ _ other ∙ sym (cond-false _ _ _ (ap (λ k. bytes_eq k name) (sym own) ∙ other))
      ]

-- the rows of a group were taken
pub rows_left : {A : Type 0} (key : List ℕ) (m n : BTreeMap (Bor (List ℕ)) (Vec (Bor Row) A))
    → UpdatesBy (λ x y. slice_cmp nat_cmp x.now y.now) (λ k. slice_cmp nat_cmp key k.now) m n None
    → (name : List ℕ) → rows_for name n ≡ cond (bytes_eq key name) None (rows_for name m)
rows_left {A} key m n updates name =
    ap (option_map seen) (btree_map_updates_str key m n None updates name)
    ∙ none (bytes_eq key name) _
  where
    none : (b : Bool) (o : Option (Vec (Bor Row) A)) → option_map seen (cond b None o) ≡ cond b None (option_map seen o)
    none true o = refl
    none false o = refl
