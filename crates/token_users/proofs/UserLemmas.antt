-- What is true of each text that passes the checks of a token file, of the users of the file.
use Rattle.std.proofs.Common.{◌≡◌, ℕ, ◌+◌, List, [], ◌∷◌, ◌++◌, length, Bool, true, false, Option, Some, None, Result, Ok, Err, refl, subst}
use Rattle.std.specs.Prelude.{◌==◌, ◌&&◌, not, bytes_eq, codes, if◌then◌else◌, nat_le, All}
use Rattle.std.specs.List.{AllByRecursion, list_all, list_any, onto_first, slice_split}
use Rattle.std.proofs.lemmas.List.Elements.{All-filter, All-from_recursion, All-nil, All-push}
use Rattle.front_base.specs.declared.user.User.{User}
use Rattle.http_head.specs.Name.{first_value}
use Rattle.http_head.specs.declared.request.Head.{Head}
use Rattle.json_value.specs.Results.{◌>>=◌, faultless}
use Rattle.token_users.specs.Carried.{has_blank_ends, is_plain}
use Rattle.token_users.specs.File.{RowTexts, comma_parts, earlier_or, file_records, groups_fault, has_blank_group, is_some_text, record_in, record_of, records_from, row_fault, row_of, rows_of, user_fault, user_in, with_record}
use Rattle.token_users.specs.Places.{last_user, later_or}
use Rattle.token_users.specs.Who.{anonymous, authenticated, is_settled, nobody, owner, token_in, unauthenticated, user_of, who, who_by}
use Rattle.token_users.specs.declared.asker.Who.TheVariants.{Anonymous}
use Rattle.token_users.specs.declared.fault.BadRecord.{BadRecord}
use Rattle.token_users.specs.declared.fault.TokenFault.{TokenFault}
use Rattle.token_users.specs.declared.fault.TokenFault.TheVariants.{BadRow}
use Rattle.token_users.specs.declared.record.Record.{Record}
use Rattle.token_users.proofs.CarriedLemmas.{and_parts, and_true, or_parts}

-- ---- a row without a fault

user_passes : (empty plain blank : Bool) (x y z : BadRecord)
    → (if empty then Some x else if not plain then Some y else if blank then Some z else None) ≡ None → (plain ≡ true) × (blank ≡ false)
user_passes true plain blank x y z h = absurd (cc h)
user_passes false false blank x y z h = absurd (cc h)
user_passes false true true x y z h = absurd (cc h)
user_passes false true false x y z h = (refl, refl)

groups_pass : (plain blank : Bool) (x y : BadRecord)
    → (if not plain then Some x else if blank then Some y else None) ≡ None → (plain ≡ true) × (blank ≡ false)
groups_pass false blank x y h = absurd (cc h)
groups_pass true true x y h = absurd (cc h)
groups_pass true false x y h = (refl, refl)

both_none : (a b : Option BadRecord) → earlier_or a b ≡ None → (a ≡ None) × (b ≡ None)
both_none None b h = (refl, h)
both_none (Some x) b h = absurd (cc h)

record Passes (row : RowTexts) (made : Record) : Type 0 where
  fine : row_fault row ≡ None
  made_is : record_in row ≡ made

passes_by : (number : ℕ) (row : RowTexts) (made : Record) (o : Option BadRecord) → row_fault row ≡ o
    → (faultless (BadRow number) o >>= (λ fine. Ok (record_in row))) ≡ Ok made → Passes row made
passes_by number row made None e h = record { fine = e; made_is = cc h }
passes_by number row made (Some why) e h = absurd (cc h)

passes_if : (number : ℕ) (read : Result RowTexts TokenFault) (made : Record)
    → (read >>= (λ row. faultless (BadRow number) (row_fault row) >>= (λ fine. Ok (record_in row)))) ≡ Ok made
    → (row : RowTexts) × Passes row made
passes_if number (Err e) made h = absurd (cc h)
passes_if number (Ok row) made h = (row, passes_by number row made (row_fault row) refl h)

passes : (number : ℕ) (fields : List (List ℕ)) (made : Record) → record_of number fields ≡ Ok made → (row : RowTexts) × Passes row made
unfolding record_of
passes number fields made h = passes_if number (row_of number fields) made h

-- ---- the parts of a field

onto_passes : (p : ℕ → Bool) (b : ℕ) (parts : List (List ℕ)) → p b ≡ true → list_all (list_all p) parts ≡ true
    → list_all (list_all p) (onto_first b parts) ≡ true
onto_passes p b [] h k = and_true (p b && true) true (and_true (p b) true h refl) refl
onto_passes p b (part ∷ parts) h k =
    let rest = and_parts (list_all p part) (list_all (list_all p) parts) k in
    and_true (p b && list_all p part) _ (and_true (p b) (list_all p part) h rest.0) rest.1

parts_pass : (p q : ℕ → Bool) (text : List ℕ) → list_all p text ≡ true → list_all (list_all p) (slice_split q text) ≡ true
parts_pass p q [] h = refl
parts_pass p q (b ∷ bs) h =
    let rest = and_parts (p b) (list_all p bs) h in
    by_cut (q b) rest.0 (parts_pass p q bs rest.1)
  where
    by_cut : (cut : Bool) → p b ≡ true → list_all (list_all p) (slice_split q bs) ≡ true
        → list_all (list_all p) (if cut then [] ∷ slice_split q bs else onto_first b (slice_split q bs)) ≡ true
    by_cut true one more = more
    by_cut false one more = onto_passes p b (slice_split q bs) one more

-- ---- users

-- the name and each group
pub record OfUser (P : List ℕ → Type 0) (user : User) : Type 0 where
  pub name : P user.name
  pub groups : All P user.groups

abbrev pub OfRecord : (List ℕ → Type 0) → Record → Type 0
OfRecord P made = OfUser P made.user

pub all_weaker : (P Q : Record → Type 0) → ((made : Record) → P made → Q made) → (all : List Record) → AllByRecursion P all → AllByRecursion Q all
all_weaker P Q weaker [] h = tt
all_weaker P Q weaker (first ∷ others) h = (weaker first h.0, all_weaker P Q weaker others h.1)

abbrev IfUser : (List ℕ → Type 0) → Option User → Type 0
IfUser P None = Unit {0}
IfUser P (Some user) = OfUser P user

module _ (P : List ℕ → Type 0) (make : (text : List ℕ) → is_plain text ≡ true → has_blank_ends text ≡ false → P text) where
  each_part : (parts : List (List ℕ)) → list_all is_plain parts ≡ true → list_any has_blank_ends parts ≡ false → AllByRecursion P parts
  each_part [] h k = tt
  each_part (part ∷ parts) h k =
      let plain = and_parts (is_plain part) (list_all is_plain parts) h in
      let ends = or_parts (has_blank_ends part) (list_any has_blank_ends parts) k in
      (make part plain.0 ends.0, each_part parts plain.1 ends.1)

  of_row : (row : RowTexts) → row_fault row ≡ None → OfUser P (user_in row)
  of_row row h =
      let faults = both_none (user_fault row.user) (groups_fault row.groups) h in
      let name = user_passes (length row.user == 0) (is_plain row.user) (has_blank_ends row.user) _ _ _ faults.0 in
      let field = groups_pass (is_plain row.groups) (has_blank_group row.groups) _ _ faults.1 in
      let parts = parts_pass (λ b. nat_le 32 b && not (b == 127)) (λ b. b == 44) row.groups field.0 in
      let all : All P (comma_parts row.groups) =
      All-from_recursion P (comma_parts row.groups) (each_part (comma_parts row.groups) parts field.1) in
      record { name = make row.user name.0 name.1; groups = All-filter is_some_text P (comma_parts row.groups) all }

  of_passed : (row : RowTexts) (made : Record) → Passes row made → OfRecord P made
  of_passed row made h = subst (OfRecord P) h.made_is (of_row row h.fine)

  of_kept : (empty : Bool) (first : Record) (others : List Record) → OfRecord P first → AllByRecursion (OfRecord P) others
      → AllByRecursion (OfRecord P) (if empty then others else first ∷ others)
  of_kept true first others h k = k
  of_kept false first others h k = (h, k)

  of_both : (read : Result Record TokenFault) (rest : Result (List Record) TokenFault) (all : List Record)
      → ((first : Record) → read ≡ Ok first → OfRecord P first)
      → ((others : List Record) → rest ≡ Ok others → AllByRecursion (OfRecord P) others)
      → (read >>= (λ first. rest >>= (λ others. Ok (with_record first others)))) ≡ Ok all → AllByRecursion (OfRecord P) all
  of_both (Err e) rest all one more h = absurd (cc h)
  of_both (Ok first) (Err e) all one more h = absurd (cc h)
  of_both (Ok first) (Ok others) all one more h =
      let is : with_record first others ≡ all = cc h in
      subst (AllByRecursion (OfRecord P)) is (of_kept (length first.token == 0) first others (one first refl) (more others refl))

  of_rows : (number : ℕ) (rows : List (List (List ℕ))) (all : List Record) → records_from number rows ≡ Ok all → AllByRecursion (OfRecord P) all
  unfolding records_from
  of_rows number [] all h =
      let is : [] ≡ all = cc h in
      subst (AllByRecursion (OfRecord P)) is tt
  of_rows number (row ∷ rows) all h =
      of_both (record_of number row) (records_from (number + 1) rows) all
      (λ first e. let read = passes number row first e in of_passed read.0 first read.1)
      (λ others e. of_rows (number + 1) rows others e) h

  -- the users of a file
  pub of_file : (bytes : List ℕ) (all : List Record) → file_records bytes ≡ Ok all → AllByRecursion (OfRecord P) all
  of_file bytes all h = of_rows 0 (rows_of bytes) all h

  later_of : (later : Option User) (same : Bool) (first : Record) → IfUser P later → OfRecord P first
      → IfUser P (later_or later (if same then Some first.user else None))
  later_of None true first h k = k
  later_of None false first h k = tt
  later_of (Some user) same first h k = h

  found_of : (token : List ℕ) (all : List Record) → AllByRecursion (OfRecord P) all → IfUser P (last_user token all)
  unfolding last_user
  found_of token [] h = tt
  found_of token (first ∷ others) h =
      later_of (last_user token others) (bytes_eq first.token token) first (found_of token others h.1) h.0

  of_known : (settled : Bool) (user : User) → OfUser P user → All P (if settled then user.groups else user.groups ++ authenticated ∷ [])
  of_known true user h = h.groups
  of_known false user h = All-push P user.groups authenticated h.groups (make authenticated refl refl)

  of_nobody : OfUser P nobody
  of_nobody = record {
    name = make anonymous refl refl;
    groups = All-push P [] unauthenticated (All-nil P) (make unauthenticated refl refl);
  }

  of_owner : (found : Option User) → IfUser P found → OfUser P (user_of (owner found))
  of_owner None h = record { name = make [] refl refl; groups = All-nil P }
  of_owner (Some user) h = record { name = h.name; groups = of_known (is_settled user) user h }

  of_sender : (all : List Record) (value : List ℕ) (empty : Bool) → AllByRecursion (OfRecord P) all
      → OfUser P (user_of (if empty then Anonymous else owner (last_user (token_in value) all)))
  of_sender all value true h = of_nobody
  of_sender all value false h = of_owner (last_user (token_in value) all) (found_of (token_in value) all h)

  of_value : (all : List Record) (value : Option (List ℕ)) → AllByRecursion (OfRecord P) all → OfUser P (user_of (who_by all value))
  of_value all None h = of_nobody
  of_value all (Some value) h = of_sender all value (length (token_in value) == 0) h

  -- the user that a request counts as
  pub of_asker : (all : List Record) (head : Head) → AllByRecursion (OfRecord P) all → OfUser P (user_of (who all head))
  of_asker all head h = of_value all (first_value (codes "authorization") head.headers) h
