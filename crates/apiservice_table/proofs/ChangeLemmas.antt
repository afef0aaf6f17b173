-- What each change that is no patch keeps of a table.
use Rattle.std.proofs.Common.{◌≡◌, ℕ, ◌+◌, ◌<◌, ◌≤◌, Bool, true, false, List, length, Some, None, refl, arith}
use Rattle.std.specs.Prelude.{is_some, nat_lt, if◌then◌else◌}
use Rattle.std.proofs.lemmas.Bool.Decides.{nat_tests}
use Rattle.apiservice_rows.specs.Row.{Row}
use Rattle.apiservice_rows.specs.declared.row_list.TheConstants.{MOST_ROWS}
use Rattle.apiservice_table.specs.Changes.{changed, refusal, IsNamed, IsPlain}
use Rattle.apiservice_table.specs.Order.{AllNamed, IsInOrder}
use Rattle.apiservice_table.specs.Table.{row_named, with_row}
use Rattle.apiservice_table.specs.declared.change.Change.{Change}
use Rattle.apiservice_table.specs.declared.change.Change.TheVariants.{Create, Replace, Delete, Patch}
use Rattle.apiservice_table.specs.declared.change.ChangeFault.TheVariants.{Exists, Missing, Full}
use Rattle.apiservice_table.proofs.OrderLemmas.{order_with, order_without, named_with, named_without, length_with, length_without, length_over}

pub order_after : (rows : List Row) (change : Change) → IsPlain change → IsInOrder rows → IsInOrder (changed rows change)
order_after rows (Create r) plain h = order_with r rows h
order_after rows (Replace r) plain h = order_with r rows h
order_after rows (Delete name) plain h = order_without name rows h
order_after rows (Patch name patch) plain h = absurd plain

pub named_after : (rows : List Row) (change : Change) → IsPlain change → IsNamed change → AllNamed rows
    → AllNamed (changed rows change)
named_after rows (Create r) plain n h = named_with r rows n h
named_after rows (Replace r) plain n h = named_with r rows n h
named_after rows (Delete name) plain n h = named_without name rows h
named_after rows (Patch name patch) plain n h = absurd plain

room : (there few : Bool) → (if there then Some Exists else if few then None else Some Full) ≡ None → few ≡ true
room true few e = absurd (cc e)
room false true e = refl
room false false e = absurd (cc e)

held : (there : Bool) → (if there then None else Some Missing) ≡ None → there ≡ true
held true e = refl
held false e = absurd (cc e)

fewer : (n : ℕ) → nat_lt n MOST_ROWS ≡ true → n < MOST_ROWS
fewer n e = grind (arith, nat_tests, e)

-- no more rows than a table holds
pub few_after : (rows : List Row) (change : Change) → IsPlain change → IsInOrder rows → refusal rows change ≡ None
    → length rows ≤ MOST_ROWS → length (changed rows change) ≤ MOST_ROWS
few_after rows (Create r) plain h e few =
    let less : length rows < MOST_ROWS = fewer (length rows) (room (is_some (row_named r.name rows)) (nat_lt (length rows) MOST_ROWS) e) in
    let more : length (with_row r rows) ≤ length rows + 1 = length_with r rows in
    omega (arith, less, more)
few_after rows (Replace r) plain h e few =
    let equal : length (with_row r rows) ≡ length rows = length_over r rows h (held (is_some (row_named r.name rows)) e) in
    rw equal few
few_after rows (Delete name) plain h e few =
    let less = length_without name rows in omega (arith, less, few)
few_after rows (Patch name patch) plain h e few = absurd plain
