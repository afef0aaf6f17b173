-- The rows of a list, one item after another.
use Rattle.std.proofs.Common.{◌≡◌, ℕ, ◌+◌, Bool, true, false, ◌∷◌, [], ◌++◌, List, Some, Result, Ok, Err, refl, sym, ap, ◌∙◌, append_assoc}
use Rattle.serde_json.specs.Data.{Data, Items, no_items, item}
use Rattle.json_value.specs.Results.{◌>>=◌, fault_of, Unless}
use Rattle.apiservice_rows.specs.Fault.{is_memory, Fails}
use Rattle.apiservice_rows.specs.Object.{row_of}
use Rattle.apiservice_rows.specs.Row.{Row}
use Rattle.apiservice_rows.specs.RowList.{item_rows}
use Rattle.apiservice_rows.specs.declared.fault.RowFault.{RowFault}

-- the rows that were read, and then those of the others
abbrev pub with_front : List Row → Result (List Row) RowFault → Result (List Row) RowFault
with_front front read = read >>= (λ x. Ok (front ++ x))

with_front-front : (a b : List Row) (r : Result (List Row) RowFault)
    → with_front (a ++ b) r ≡ with_front a (r >>= (λ x. Ok (b ++ x)))
with_front-front a b (Ok x) = ap Ok (append_assoc a b x)
with_front-front a b (Err e) = refl

-- one item more was read
pub rows_more : (done : List Row) (place : ℕ) (d : Data) (ds : Items) (r : Row) → row_of (Some place) d ≡ Ok r
    → with_front (done ++ r ∷ []) (item_rows (place + 1) ds) ≡ with_front done (item_rows place (item d ds))
unfolding item_rows
rows_more done place d ds r e = with_front-front done (r ∷ []) (item_rows (place + 1) ds) ∙ rw e refl

-- an item that is refused refuses the list
pub rows_stop : (done : List Row) (place : ℕ) (d : Data) (ds : Items) (f : RowFault) → row_of (Some place) d ≡ Err f
    → with_front done (item_rows place (item d ds)) ≡ Err f
unfolding item_rows
rows_stop done place d ds f e = rw e refl

pub rows_end : (done : List Row) (place : ℕ) → with_front done (item_rows place no_items) ≡ Ok (done ++ [])
unfolding item_rows
rows_end done place = refl

fault_is : {A : Type 0} (r : Result A RowFault) (f : RowFault) → fault_of r ≡ Some f → r ≡ Err f
fault_is (Ok x) f e = absurd (cc e)
fault_is (Err g) f e = cc e

stops : {A B : Type 0} (b : Bool) (r : Result A RowFault) (all : Result B RowFault) (f : RowFault) → (r ≡ Err f → all ≡ Err f)
    → Unless b (fault_of r ≡ Some f) → Unless b (fault_of all ≡ Some f)
stops true r all f h e = tt
stops false r all f h e = ap fault_of (h (fault_is r f e))

-- the fault of an item is that of the list
pub fault_stops : (done : List Row) (place : ℕ) (d : Data) (ds : Items) (all : Result (List Row) RowFault) (f : RowFault)
    → Fails f (fault_of (row_of (Some place) d)) → with_front done (item_rows place (item d ds)) ≡ all → Fails f (fault_of all)
fault_stops done place d ds all f fails is =
    stops (is_memory f) (row_of (Some place) d) all f (λ e. sym is ∙ rows_stop done place d ds f e) fails
