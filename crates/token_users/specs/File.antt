-- The records of a token file (Kubernetes, "Authenticating": static token file).
use Rattle.std.specs.Prelude.{◌≢◌, ℕ, ◌+◌, ◌==◌, List, [], ◌∷◌, length, Bool, not, Option, Some, None, option_and_then, Result, Ok, Err, nat_lt, filter, map, if◌then◌else◌}
use Rattle.std.specs.Borrow.{Bor}
use Rattle.std.specs.List.{list_any, slice_split}
use Rattle.std.specs.Str.{is_utf8}
use Rattle.csv.specs.Reading.{default_config, records, strip_bom}
use Rattle.csv.specs.Records.{field_at}
use Rattle.csv.specs.declared.error.Error.{Error}
use Rattle.csv.specs.declared.error.ErrorKind.TheVariants as kind
use Rattle.json_value.specs.Results.{◌>>=◌, faultless, found_or}
use Rattle.front_base.specs.declared.user.User.{User}
use Rattle.token_users.specs.Carried.{has_blank_ends, is_plain}
use Rattle.token_users.specs.declared.fault.BadRecord.{BadRecord}
use Rattle.token_users.specs.declared.fault.BadRecord.TheVariants.{FewFields, NotUtf8, EmptyUser, Control, BlankEnds}
use Rattle.token_users.specs.declared.fault.Field.TheVariants as field
use Rattle.token_users.specs.declared.fault.TokenFault.{TokenFault}
use Rattle.token_users.specs.declared.fault.TokenFault.TheVariants.{BadRow}
use Rattle.token_users.specs.declared.record.Record.{Record}
use Rattle.token_users.specs.declared.record.Row.{Row}

abbrev pub is_some_text : List ℕ → Bool
is_some_text text = not (length text == 0)

-- the parts of a field between its commas
abbrev pub comma_parts : List ℕ → List (List ℕ)
comma_parts field = slice_split (λ b. b == 44) field

-- the groups in a field: its parts, without the empty ones
abbrev pub groups_in : List ℕ → List (List ℕ)
groups_in field = filter is_some_text (comma_parts field)

abbrev pub if_text : List ℕ → Option (List ℕ)
if_text bytes = if is_utf8 bytes then Some bytes else None

-- the field at a place, where it is there and is text
abbrev pub text_at : List (List ℕ) → ℕ → Option (List ℕ)
text_at fields i = option_and_then if_text (field_at fields i)

-- the field of the groups, which may be left out
abbrev pub groups_at : List (List ℕ) → Option (List ℕ)
groups_at fields = if nat_lt (length fields) 4 then Some [] else text_at fields 3

abbrev pub all_fields : ℕ → List (List ℕ) → Result (Unit {0}) TokenFault
all_fields number fields = if nat_lt (length fields) 3 then Err (BadRow number FewFields) else Ok tt

-- the fields of a row that count
pub record RowTexts : Type 0 where
  pub token : List ℕ
  pub user : List ℕ
  pub uid : List ℕ
  pub groups : List ℕ

-- the texts of borrowed fields
abbrev pub texts_in : Row → RowTexts
texts_in row = record { token = row.token.now; user = row.user.now; uid = row.uid.now; groups = row.groups.now }

-- the fields of the row with this number, all text: token, user, uid and groups; fields after the fourth say nothing
unfoldable pub row_of : ℕ → List (List ℕ) → Result RowTexts TokenFault
row_of number fields = do
  enough ← all_fields number fields
  token ← found_or (BadRow number (NotUtf8 field.Token)) (text_at fields 0)
  user ← found_or (BadRow number (NotUtf8 field.User)) (text_at fields 1)
  uid ← found_or (BadRow number (NotUtf8 field.Uid)) (text_at fields 2)
  groups ← found_or (BadRow number (NotUtf8 field.Groups)) (groups_at fields)
  Ok (record { token = token; user = user; uid = uid; groups = groups })

-- why no header can carry the name of a user
abbrev pub user_fault : List ℕ → Option BadRecord
user_fault name =
    if length name == 0 then Some EmptyUser
    else if not (is_plain name) then Some (Control field.User)
    else if has_blank_ends name then Some (BlankEnds field.User)
    else None

abbrev pub has_blank_group : List ℕ → Bool
has_blank_group groups = list_any has_blank_ends (comma_parts groups)

-- why no header can carry one of the groups
abbrev pub groups_fault : List ℕ → Option BadRecord
groups_fault groups =
    if not (is_plain groups) then Some (Control field.Groups)
    else if has_blank_group groups then Some (BlankEnds field.Groups)
    else None

abbrev pub earlier_or : Option BadRecord → Option BadRecord → Option BadRecord
earlier_or None later = later
earlier_or (Some why) later = Some why

-- the first fault of the user, and then of the groups
abbrev pub row_fault : RowTexts → Option BadRecord
row_fault row = earlier_or (user_fault row.user) (groups_fault row.groups)

abbrev pub user_in : RowTexts → User
user_in row = record { name = row.user; uid = row.uid; groups = groups_in row.groups }

abbrev pub record_in : RowTexts → Record
record_in row = record { token = row.token; user = user_in row }

-- what the row with this number says. The first check that fails says why it is refused
unfoldable pub record_of : ℕ → List (List ℕ) → Result Record TokenFault
record_of number fields = do
  row ← row_of number fields
  fine ← faultless (BadRow number) (row_fault row)
  Ok (record_in row)

-- a record without a token is none
abbrev pub with_record : Record → List Record → List Record
with_record first others = if length first.token == 0 then others else first ∷ others

-- the records of rows, of which the first has this number
unfoldable pub records_from : ℕ → List (List (List ℕ)) → Result (List Record) TokenFault
records_from number [] = Ok []
records_from number (row ∷ rows) = do
  first ← record_of number row
  others ← records_from (number + 1) rows
  Ok (with_record first others)

-- the rows of a file, as `csv` reads them without headers and with any number of fields
abbrev pub rows_of : List ℕ → List (List (List ℕ))
rows_of bytes = records default_config (strip_bom bytes)

-- the reader failed for want of memory, or of its input
abbrev pub IsNotOfRow : Error → Type 0
IsNotOfRow error = ((e : _) → error.kind ≢ kind.Io e) → error.kind ≢ kind.OutOfMemory → ⊥

-- the records of a file in their order, or the first fault
abbrev pub file_records : List ℕ → Result (List Record) TokenFault
file_records bytes = records_from 0 (rows_of bytes)

-- the texts of borrowed parts
abbrev pub texts_of : List (Bor (List ℕ)) → List (List ℕ)
texts_of parts = map (λ part. part.now) parts
