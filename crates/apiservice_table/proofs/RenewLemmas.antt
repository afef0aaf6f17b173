-- A row in the place of another one of its name keeps its links.
use Rattle.std.proofs.Common.{◌≡◌, ℕ, zero, suc, ◌+◌, ◌<◌, ◌==◌, Bool, true, false, List, [], ◌∷◌, ◌++◌, length, get_or, drop, Option, Some, None, Err, refl, sym, ap, ◌∙◌, arith}
use Rattle.std.specs.Prelude.{⊤, ◌||◌, if◌then◌else◌, is_some}
use Rattle.std.specs.Cmp.Lexicographic.{slice_cmp}
use Rattle.std.specs.Ordering.{nat_cmp}
use Rattle.std.specs.Str.{bytes_eq}
use Rattle.std.specs.declared.cmp.Ordering.{Ordering}
use Rattle.std.specs.declared.cmp.Ordering.TheVariants.{Less, Equal, Greater}
use Rattle.std.proofs.lemmas.List.{get_or_default}
use Rattle.apiservice_rows.specs.Row.{Row, IsRowName, has_dot, own_name}
use Rattle.apiservice_table.specs.Changes.{changed, moves_rows, refusal, IsNamed, IsPlain}
use Rattle.apiservice_table.specs.Index.{Links, LinksAll, first_in, slot_of}
use Rattle.apiservice_table.specs.Order.{AllNamed, IsInOrder, place_of}
use Rattle.apiservice_table.specs.Table.{row_named, with_row}
use Rattle.apiservice_table.specs.declared.change.Change.{Change}
use Rattle.apiservice_table.specs.declared.change.Change.TheVariants.{Create, Replace, Delete, Patch}
use Rattle.apiservice_table.specs.declared.change.ChangeFault.TheVariants.{Missing}
use Rattle.apiservice_table.proofs.OrderLemmas.{row_named-err, same, tells}

-- ---- a name tells its version and its group

suc_apart : {A : Type 0} (x : A) (xs : List A) → [] ≡ x ∷ xs → ⊥
suc_apart x xs e = cc e

-- two versions without a dot, before a dot and a group
pub one_key : (v w g h : List ℕ) → has_dot v ≡ false → has_dot w ≡ false → own_name v g ≡ own_name w h → (v ≡ w) × (g ≡ h)
one_key [] [] g h nv nw e = (refl, cc e)
one_key [] (b ∷ w) g h nv nw e = let dot : 46 ≡ b = cc e in absurd (no_dot b w nw (sym dot))
  where
    no_dot : (b : ℕ) (w : List ℕ) → (b == 46 || has_dot w) ≡ false → b ≡ 46 → ⊥
    no_dot b w n e = cc (sym n ∙ ap (λ k. k == 46 || has_dot w) e)
one_key (a ∷ v) [] g h nv nw e = let dot : a ≡ 46 = cc e in absurd (no_dot a v nv dot)
  where
    no_dot : (b : ℕ) (w : List ℕ) → (b == 46 || has_dot w) ≡ false → b ≡ 46 → ⊥
    no_dot b w n e = cc (sym n ∙ ap (λ k. k == 46 || has_dot w) e)
one_key (a ∷ v) (b ∷ w) g h nv nw e =
    let first : a ≡ b = cc e in
    let rest : v ++ 46 ∷ g ≡ w ++ 46 ∷ h = cc e in
    let more = one_key v w g h (later a v nv) (later b w nw) rest in
    (ap (λ k. k ∷ v) first ∙ ap (λ l. b ∷ l) more.0, more.1)
  where
    later : (a : ℕ) (v : List ℕ) → (a == 46 || has_dot v) ≡ false → has_dot v ≡ false
    later a v n = by_cases (a == 46) (has_dot v) n
      where
        by_cases : (p q : Bool) → (p || q) ≡ false → q ≡ false
        by_cases true q e = absurd (cc e)
        by_cases false q e = e

-- ---- rows of the same groups and versions, place by place

abbrev pub SameKeys : List Row → List Row → Type 0
SameKeys [] [] = ⊤
SameKeys [] (r ∷ rows) = ⊥
SameKeys (r ∷ rows) [] = ⊥
SameKeys (r ∷ rows) (x ∷ others) = (r.group ≡ x.group) × (r.version ≡ x.version) × SameKeys rows others

keys_themselves : (rows : List Row) → SameKeys rows rows
keys_themselves [] = tt
keys_themselves (r ∷ rows) = (refl, refl, keys_themselves rows)

module _ (new : Row) (named : IsRowName new.name new.version new.group) where
  -- a row over another one of its name has its group and version
  pub keys_over : (rows : List Row) → IsInOrder rows → AllNamed rows → is_some (row_named new.name rows) ≡ true
      → SameKeys rows (with_row new rows)
  keys_over [] h n some = absurd (cc some)
  keys_over (r ∷ rows) h n some =
      by_cases (keys_over rows h.1 n.1) (slice_cmp nat_cmp r.name new.name) refl
    where
      by_cases : (is_some (row_named new.name rows) ≡ true → SameKeys rows (with_row new rows)) → (o : Ordering)
          → slice_cmp nat_cmp r.name new.name ≡ o → SameKeys (r ∷ rows) (with_row new (r ∷ rows))
      by_cases ih Less k =
          let differs : bytes_eq r.name new.name ≡ false = tells r.name new.name Less k in
          rw k (refl, refl, ih (rw differs at some))
      by_cases ih Equal k =
          let names : own_name r.version r.group ≡ own_name new.version new.group =
          sym n.0.1 ∙ same r.name new.name k ∙ named.1 in
          let keys = one_key r.version new.version r.group new.group n.0.0 named.0 names in
          rw k (keys.1, keys.0, keys_themselves rows)
      by_cases ih Greater k =
          let place : place_of new.name (r ∷ rows) ≡ Err 0 = rw k refl in
          absurd (cc (sym some ∙ ap is_some (row_named-err new.name (r ∷ rows) 0 h place)))

-- ---- links see groups and versions alone

keys_length : (rows others : List Row) → SameKeys rows others → length rows ≡ length others
keys_length [] [] h = refl
keys_length [] (x ∷ others) h = absurd h
keys_length (r ∷ rows) [] h = absurd h
keys_length (r ∷ rows) (x ∷ others) h = let ih = keys_length rows others h.2 in omega (arith, ih)

keys_drop : (n : ℕ) (rows others : List Row) → SameKeys rows others → SameKeys (drop n rows) (drop n others)
keys_drop zero rows others h = h
keys_drop (suc n) [] [] h = tt
keys_drop (suc n) [] (x ∷ others) h = absurd h
keys_drop (suc n) (r ∷ rows) [] h = absurd h
keys_drop (suc n) (r ∷ rows) (x ∷ others) h = keys_drop n rows others h.2

keys_at : (i : ℕ) (d : Row) (rows others : List Row) → SameKeys rows others
    → slot_of (get_or rows i d).group (get_or rows i d).version ≡ slot_of (get_or others i d).group (get_or others i d).version
keys_at i d [] [] h = refl
keys_at i d [] (x ∷ others) h = absurd h
keys_at i d (r ∷ rows) [] h = absurd h
keys_at zero d (r ∷ rows) (x ∷ others) h =
    ap (λ g. slot_of g r.version) h.0 ∙ ap (λ v. slot_of x.group v) h.1
keys_at (suc i) d (r ∷ rows) (x ∷ others) h = keys_at i d rows others h.2

first_same : (slot at : ℕ) (rows others : List Row) → SameKeys rows others → first_in slot at rows ≡ first_in slot at others
first_same slot at [] [] h = refl
first_same slot at [] (x ∷ others) h = absurd h
first_same slot at (r ∷ rows) [] h = absurd h
first_same slot at (r ∷ rows) (x ∷ others) h =
    let own : slot_of r.group r.version ≡ slot_of x.group x.version =
    ap (λ g. slot_of g r.version) h.0 ∙ ap (λ v. slot_of x.group v) h.1 in
    ap (λ k. if k == slot then Some at else first_in slot (at + 1) rows) own
    ∙ ap (λ (o : Option ℕ). if slot_of x.group x.version == slot then Some at else o) (first_same slot (at + 1) rows others h.2)

links_same : (rows others : List Row) (links : Links) → SameKeys rows others → LinksAll rows links → LinksAll others links
links_same rows others links h linked =
    let long = keys_length rows others h in (
      λ slot d lt. linked.0 slot d lt ∙ first_same slot 0 (drop 0 rows) (drop 0 others) (keys_drop 0 rows others h),
      λ i r d le lt is.
          let within : i < length rows = omega (arith, lt, long) in
          let own : Row = get_or rows i r in
          linked.1 i own d le within (get_or_default rows i r own within)
          ∙ ap (λ slot. first_in slot (i + 1) (drop (i + 1) rows))
          (keys_at i r rows others h ∙ ap (λ (x : Row). slot_of x.group x.version) (sym is))
          ∙ first_same (slot_of r.group r.version) (i + 1) (drop (i + 1) rows) (drop (i + 1) others) (keys_drop (i + 1) rows others h),
    )

replaced : (there : Bool) → (if there then None else Some Missing) ≡ None → there ≡ true
replaced true e = refl
replaced false e = absurd (cc e)

-- a change that moves no row and is no patch leaves the links right
pub links_stay : (rows : List Row) (change : Change) (links : Links) → IsPlain change → IsInOrder rows → AllNamed rows → IsNamed change
    → refusal rows change ≡ None → LinksAll rows links → moves_rows change ≡ false → LinksAll (changed rows change) links
links_stay rows (Create r) links plain h n named due linked still = absurd (cc still)
links_stay rows (Replace r) links plain h n named due linked still =
    links_same rows (with_row r rows) links
    (keys_over r named rows h n (replaced (is_some (row_named r.name rows)) due)) linked
links_stay rows (Delete name) links plain h n named due linked still = absurd (cc still)
links_stay rows (Patch name patch) links plain h n named due linked still = absurd plain
