-- The records of a file, row by row.
use Rattle.std.proofs.Common.{◌≡◌, ℕ, zero, suc, ◌+◌, ◌≤◌, ◌∷◌, [], ◌++◌, List, length, Bool, true, false, cond, Option, Some, None, Result, Ok, Err, refl, sym, ap, ◌∙◌, append_assoc, arith}
use Rattle.std.specs.Prelude.{◌==◌, if◌then◌else◌}
use Rattle.csv.specs.Machine.{Read, next_record}
use Rattle.csv.specs.Reading as csv
use Rattle.csv.specs.Reading.{default_config, is_bom, records_next, strip_bom}
use Rattle.csv.specs.declared.parser.Config.{Config}
use Rattle.csv.specs.declared.parser.State.{State}
use Rattle.csv.specs.declared.parser.State.TheVariants as st
use Rattle.json_value.specs.Results.{◌>>=◌, fault_of, Unless}
use Rattle.token_users.specs.Fault.{is_free, Fails}
use Rattle.token_users.specs.File.{record_of, records_from, rows_of, with_record}
use Rattle.token_users.specs.declared.record.Record.{Record}
use Rattle.token_users.specs.declared.fault.TokenFault.{TokenFault}

-- the records that were read, and then those of the rows that are left
abbrev pub with_records : List Record → Result (List Record) TokenFault → Result (List Record) TokenFault
with_records done left = left >>= (λ rs. Ok (done ++ rs))

with_records-append : (a b : List Record) (r : Result (List Record) TokenFault) → with_records (a ++ b) r ≡ with_records a (r >>= (λ rs. Ok (b ++ rs)))
with_records-append a b (Ok rs) = ap Ok (append_assoc a b rs)
with_records-append a b (Err e) = refl

-- a record that is read, which may have no token
pub records_more : (done next : List Record) (i : ℕ) (row : List (List ℕ)) (rows : List (List (List ℕ))) (r : Record) → record_of i row ≡ Ok r → next ≡ done ++ with_record r []
    → with_records next (records_from (i + 1) rows) ≡ with_records done (records_from i (row ∷ rows))
unfolding records_from
records_more done next i row rows r is added =
    ap (λ l. with_records l (records_from (i + 1) rows)) added
    ∙ (with_records-append done (with_record r []) (records_from (i + 1) rows) ∙ rw is (ap (with_records done) (later (length r.token == 0) (records_from (i + 1) rows))))
  where
    later : (b : Bool) (q : Result (List Record) TokenFault) → (q >>= (λ rs. Ok ((if b then [] else r ∷ []) ++ rs))) ≡ (q >>= (λ rs. Ok (if b then rs else r ∷ rs)))
    later true (Ok rs) = refl
    later false (Ok rs) = refl
    later b (Err e) = refl

records_stop : (done : List Record) (i : ℕ) (row : List (List ℕ)) (rows : List (List (List ℕ))) (f : TokenFault) → record_of i row ≡ Err f → with_records done (records_from i (row ∷ rows)) ≡ Err f
unfolding records_from
records_stop done i row rows f e = rw e refl

pub records_end : (done : List Record) (i : ℕ) → with_records done (records_from i []) ≡ Ok (done ++ [])
unfolding records_from
records_end done i = refl

fault_is : {A : Type 0} (r : Result A TokenFault) (f : TokenFault) → fault_of r ≡ Some f → r ≡ Err f
fault_is (Ok x) f e = absurd (cc e)
fault_is (Err g) f e = cc e

stops : {A B : Type 0} (b : Bool) (r : Result A TokenFault) (all : Result B TokenFault) (f : TokenFault) → (r ≡ Err f → all ≡ Err f)
    → Unless b (fault_of r ≡ Some f) → Unless b (fault_of all ≡ Some f)
stops true r all f h e = tt
stops false r all f h e = ap fault_of (h (fault_is r f e))

-- the fault of a row is that of the file
pub fault_stops : (done : List Record) (i : ℕ) (row : List (List ℕ)) (rows : List (List (List ℕ))) (all : Result (List Record) TokenFault) (f : TokenFault)
    → Fails f (fault_of (record_of i row)) → with_records done (records_from i (row ∷ rows)) ≡ all → Fails f (fault_of all)
fault_stops done i row rows all f fails is = stops (is_free f) (record_of i row) all f (λ e. sym is ∙ records_stop done i row rows f e) fails

-- there are at most as many rows as bytes, and one
some_rows : (more : State → List ℕ → List (List (List ℕ))) (n : ℕ) (read : Option Read) → ((s : State) (xs : List ℕ) → length (more s xs) ≤ n) → length (records_next more read) ≤ suc n
some_rows more n None h = omega arith
some_rows more n (Some p) h = omega (arith, h p.1 p.2)

at_most : (cfg : Config) (n : ℕ) (s : State) (xs : List ℕ) → length (csv.records_from cfg n s xs) ≤ n
unfolding csv.records_from
at_most cfg zero s xs = omega arith
at_most cfg (suc n) s xs = some_rows (csv.records_from cfg n) n (next_record cfg s [] [] xs) (at_most cfg n)

stripped : (xs : List ℕ) → length (strip_bom xs) ≤ length xs
unfolding strip_bom
stripped [] = omega arith
stripped (a ∷ []) = omega arith
stripped (a ∷ b ∷ []) = omega arith
stripped (a ∷ b ∷ c ∷ rest) = either (is_bom a b c)
  where
    either : (t : Bool) → length (cond t rest (a ∷ b ∷ c ∷ rest)) ≤ length (a ∷ b ∷ c ∷ rest)
    either true = omega arith
    either false = omega arith

pub few_rows : (bytes : List ℕ) → length (rows_of bytes) ≤ length bytes + 1
few_rows bytes = omega (arith, at_most default_config (length (strip_bom bytes) + 1) st.StartRecord (strip_bom bytes), stripped bytes)
