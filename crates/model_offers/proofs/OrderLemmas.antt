-- Rows in order, put in one after another, stay as they are.
use Rattle.std.proofs.Common.{◌≡◌, ℕ, List, [], ◌∷◌, ◌++◌, refl, ap, sym, ◌∙◌}
use Rattle.std.specs.Prelude.{⊤}
use Rattle.std.proofs.lemmas.List.{append-nil, append_assoc}
use Rattle.std.specs.Cmp.Lexicographic.{slice_cmp}
use Rattle.std.specs.Ordering.{nat_cmp}
use Rattle.std.specs.declared.cmp.Ordering.TheVariants.{Less}
use Rattle.apiservice_rows.specs.Row.{Row}
use Rattle.apiservice_table.specs.Order.{AllAfter, IsInOrder}
use Rattle.apiservice_table.specs.Table.{with_row, with_rows}

-- each name comes before that one
abbrev AllBefore : List Row → List ℕ → Type 0
AllBefore [] name = ⊤
AllBefore (r ∷ rows) name = (slice_cmp nat_cmp r.name name ≡ Less) × AllBefore rows name

-- each name of the first comes before each of the others
abbrev AllApart : List Row → List Row → Type 0
AllApart rows [] = ⊤
AllApart rows (r ∷ more) = AllBefore rows r.name × AllApart rows more

put-last : (rows : List Row) (new : Row) → AllBefore rows new.name → with_row new rows ≡ rows ++ new ∷ []
put-last [] new h = refl
put-last (r ∷ rows) new h = rw h.0 (ap (λ rest. r ∷ rest) (put-last rows new h.1))

before-more : (rows : List Row) (new r : Row) → AllBefore rows r.name → slice_cmp nat_cmp new.name r.name ≡ Less
    → AllBefore (rows ++ new ∷ []) r.name
before-more [] new r h e = (e, tt)
before-more (x ∷ rows) new r h e = (h.0, before-more rows new r h.1 e)

apart-more : (rows : List Row) (new : Row) (more : List Row) → AllApart rows more → AllAfter new.name more
    → AllApart (rows ++ new ∷ []) more
apart-more rows new [] h e = tt
apart-more rows new (r ∷ more) h e = (before-more rows new r h.0 e.0, apart-more rows new more h.1 e.1)

put-all : (rows more : List Row) → AllApart rows more → IsInOrder more → with_rows more rows ≡ rows ++ more
put-all rows [] h o = sym (append-nil rows)
put-all rows (new ∷ more) h o =
    ap (with_rows more) (put-last rows new h.0)
    ∙ put-all (rows ++ new ∷ []) more (apart-more rows new more h.1 o.0) o.1
    ∙ append_assoc rows (new ∷ []) more

apart-none : (more : List Row) → AllApart [] more
apart-none [] = tt
apart-none (r ∷ more) = (tt, apart-none more)

pub in_order : (rows : List Row) → IsInOrder rows → with_rows rows [] ≡ rows
in_order rows o = put-all [] rows (apart-none rows) o
