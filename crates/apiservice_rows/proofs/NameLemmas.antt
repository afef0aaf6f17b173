-- The first name that stood before, and the names that are among others.
use Rattle.std.proofs.Common.{◌≡◌, ℕ, Bool, true, false, cond, List, [], ◌∷◌, ◌++◌, length, Some, None, Ok, refl, ap, ◌∙◌}
use Rattle.std.specs.Prelude.{not, ◌||◌}
use Rattle.std.specs.Str.{bytes_eq}
use Rattle.std.proofs.lemmas.List.{map-append}
use Rattle.json_value.specs.Results.{fault_of}
use Rattle.apiservice_rows.specs.Row.{Row}
use Rattle.apiservice_rows.specs.RowList.{is_among, names_of, repeated, distinct}
use Rattle.apiservice_rows.specs.declared.fault.RowFault.{RowFault}
use Rattle.apiservice_rows.specs.declared.fault.RowFault.TheVariants.{Repeated}

or_cases : (a b : Bool) → (a || b) ≡ cond a true b
or_cases true b = refl
or_cases false b = refl

cond_swap : (a b : Bool) (c : Bool) → (a || cond b true c) ≡ cond b true (a || c)
cond_swap true true c = refl
cond_swap true false c = refl
cond_swap false true c = refl
cond_swap false false c = refl

pub among-push : (q name : List ℕ) (names : List (List ℕ))
    → is_among q (names ++ name ∷ []) ≡ cond (bytes_eq name q) true (is_among q names)
among-push q name [] = or_cases (bytes_eq name q) false
among-push q name (own ∷ names) =
    ap (λ b. bytes_eq own q || b) (among-push q name names)
    ∙ cond_swap (bytes_eq own q) (bytes_eq name q) (is_among q names)

pub names-push : (rows : List Row) (r : Row) → names_of (rows ++ r ∷ []) ≡ names_of rows ++ r.name ∷ []
names-push rows r = map-append (λ (r : Row). r.name) rows (r ∷ [])

-- a name that is new goes to those before
pub repeated_more : (before : List (List ℕ)) (name : List ℕ) (names : List (List ℕ)) → is_among name before ≡ false
    → repeated (before ++ name ∷ []) names ≡ repeated before (name ∷ names)
unfolding repeated
repeated_more before name names e = rw e refl

-- a name that stood before ends the search
pub repeated_here : (before : List (List ℕ)) (name : List ℕ) (names : List (List ℕ)) → is_among name before ≡ true
    → repeated before (name ∷ names) ≡ Some (Repeated (length before) name)
unfolding repeated
repeated_here before name names e = rw e refl

pub repeated_end : (before : List (List ℕ)) → repeated before [] ≡ None
unfolding repeated
repeated_end before = refl

pub distinct_stops : (names : List (List ℕ)) (fault : RowFault) → repeated [] names ≡ Some fault
    → fault_of (distinct names) ≡ Some fault
unfolding distinct
distinct_stops names fault e = rw e refl

pub distinct_ends : (names : List (List ℕ)) → repeated [] names ≡ None → distinct names ≡ Ok tt
unfolding distinct
distinct_ends names e = rw e refl

pub from_not : (b : Bool) → not b ≡ false → b ≡ true
from_not true e = refl
from_not false e = absurd (cc e)

pub to_not : (b : Bool) → not b ≡ true → b ≡ false
to_not true e = absurd (cc e)
to_not false e = refl
