-- Reading an event's text from left to right. More texts are read than events have: which text an event has is said by
-- its line.
use Rattle.std.specs.Prelude.{◌≡◌, ℕ, zero, suc, ◌+◌, ◌-◌, ◌==◌, nat_lt, if◌then◌else◌, Bool, true, false, List, [], ◌∷◌, length, codes, Option, Some, None, Result, Ok, Err}
use Rattle.std.specs.Borrow.{Bor}
use Rattle.std.specs.Str.{is_utf8}
use Rattle.front_base.specs.declared.user.User.{User}
use Rattle.stage_event.specs.declared.event.ObjectRef.{ObjectRef}
use Rattle.event_members.specs.declared.fault.EventFault.{EventFault}
use Rattle.event_members.specs.declared.fault.EventFault.TheVariants.{NotAnEvent, NoMemory}

infixl 10 ◌>>=◌
abbrev pub ◌>>=◌ : {A B : Type 0} → Option A → (A → Option B) → Option B
None >>= f = None
(Some x) >>= f = f x

-- What a function returned, seen by view, is what reading gives, unless memory ran out.
abbrev pub Fails : {Y : Type 0} → EventFault → Option Y → Type 0
Fails NoMemory read = Unit {0}
Fails NotAnEvent read = read ≡ None

abbrev pub Gives : {X Y : Type 0} → (X → Y) → Result X EventFault → Option Y → Type 0
Gives view (Ok x) read = read ≡ Some (view x)
Gives view (Err e) read = Fails e read

-- what stands after a word
abbrev pub after_word : List ℕ → List ℕ → Option (List ℕ)
after_word [] bytes = Some bytes
after_word (w ∷ ws) [] = None
after_word (w ∷ ws) (b ∷ bs) = if w == b then after_word ws bs else None

-- ---- texts between quotation marks

-- the value of a hexadecimal digit in lower case
abbrev pub hex_value : ℕ → ℕ
hex_value digit = if nat_lt digit 58 then digit - 48 else digit - 87

-- a control character, after `\u`
abbrev pub control_at : List ℕ → Option (ℕ × List ℕ)
control_at (a ∷ b ∷ high ∷ low ∷ rest) =
    Some (if high == 49 then 16 + hex_value low else hex_value low, rest)
control_at [] = None
control_at (a ∷ []) = None
control_at (a ∷ b ∷ []) = None
control_at (a ∷ b ∷ c ∷ []) = None

-- what a letter after the backslash stands for
abbrev pub unescaped : ℕ → ℕ
unescaped letter =
    if letter == 98 then 8 else if letter == 116 then 9 else if letter == 110 then 10
    else if letter == 102 then 12 else if letter == 114 then 13 else letter

-- an escape, after its backslash
abbrev pub escape_at : List ℕ → Option (ℕ × List ℕ)
escape_at [] = None
escape_at (letter ∷ rest) = if letter == 117 then control_at rest else Some (unescaped letter, rest)

-- a byte, or the escape that stands for it
abbrev pub piece_at : List ℕ → Option (ℕ × List ℕ)
piece_at [] = None
piece_at (b ∷ rest) = if b == 92 then escape_at rest else Some (b, rest)

-- the mark comes next
abbrev pub is_closed : ℕ → List ℕ → Bool
is_closed mark [] = false
is_closed mark (b ∷ rest) = b == mark

abbrev pub rest_of : List ℕ → List ℕ
rest_of [] = []
rest_of (b ∷ rest) = rest

-- what is read one after the other up to a mark, of which there are fewer than `most`
unfoldable pub up_to : {A : Type 0} → ℕ → (List ℕ → Option (A × List ℕ)) → ℕ → List ℕ → Option (List A × List ℕ)
up_to mark one zero bytes = None
up_to mark one (suc most) bytes =
    if is_closed mark bytes then Some ([], rest_of bytes)
    else (do
      first ← one bytes
      others ← up_to mark one most first.1
      Some (first.0 ∷ others.0, others.1))

-- a string
unfoldable pub string_at : List ℕ → Option (List ℕ × List ℕ)
string_at bytes = do
  inside ← after_word (34 ∷ []) bytes
  up_to 34 piece_at (length inside) inside

-- a string in UTF-8
unfoldable pub text_at : List ℕ → Option (List ℕ × List ℕ)
text_at bytes = do
  string ← string_at bytes
  if is_utf8 string.0 then Some string else None

-- ---- members of an object, each with the comma after it

abbrev pub skip_comma : List ℕ → List ℕ
skip_comma [] = []
skip_comma (b ∷ rest) = if b == 44 then rest else b ∷ rest

abbrev pub comma_after : {A : Type 0} → Option (A × List ℕ) → Option (A × List ℕ)
comma_after None = None
comma_after (Some read) = Some (read.0, skip_comma read.1)

-- a text with its comma
abbrev pub item_at : List ℕ → Option (List ℕ × List ℕ)
item_at bytes = comma_after (text_at bytes)

-- a member that is always there
unfoldable pub text_member_at : List ℕ → List ℕ → Option (List ℕ × List ℕ)
text_member_at label bytes = after_word label bytes >>= item_at

-- one that may be left out, where its text is empty
abbrev pub text_if : Option (List ℕ) → List ℕ → Option (List ℕ × List ℕ)
text_if None bytes = Some ([], bytes)
text_if (Some value) bytes = item_at value

unfoldable pub text_if_at : List ℕ → List ℕ → Option (List ℕ × List ℕ)
text_if_at label bytes = text_if (after_word label bytes) bytes

-- a list of texts with its comma
unfoldable pub texts_at : List ℕ → Option (List (List ℕ) × List ℕ)
texts_at bytes = comma_after (after_word (91 ∷ []) bytes >>= λ inside. up_to 93 item_at (length inside) inside)

abbrev pub texts_if : Option (List ℕ) → List ℕ → Option (List (List ℕ) × List ℕ)
texts_if None bytes = Some ([], bytes)
texts_if (Some value) bytes = texts_at value

unfoldable pub texts_if_at : List ℕ → List ℕ → Option (List (List ℕ) × List ℕ)
texts_if_at label bytes = texts_if (after_word label bytes) bytes

-- ---- users and objects

-- the end of an object, with the comma after it
unfoldable pub object_end : List ℕ → Option (List ℕ)
object_end bytes = after_word (codes "}") bytes >>= λ rest. Some (skip_comma rest)

unfoldable pub user_at : List ℕ → Option (User × List ℕ)
user_at bytes = do
  inside ← after_word (codes "{") bytes
  name ← text_if_at (codes "\"username\":") inside
  uid ← text_if_at (codes "\"uid\":") name.1
  groups ← texts_if_at (codes "\"groups\":") uid.1
  rest ← object_end groups.1
  Some (record { name = name.0; uid = uid.0; groups = groups.0 }, rest)

-- three texts that may be left out
unfoldable pub three_at : List ℕ → List ℕ → List ℕ → List ℕ → Option ((List ℕ × List ℕ × List ℕ) × List ℕ)
three_at one two three bytes = do
  first ← text_if_at one bytes
  second ← text_if_at two first.1
  third ← text_if_at three second.1
  Some ((first.0, second.0, third.0), third.1)

unfoldable pub reference_at : List ℕ → Option (ObjectRef × List ℕ)
reference_at bytes = do
  inside ← after_word (codes "{") bytes
  place ← three_at (codes "\"resource\":") (codes "\"namespace\":") (codes "\"name\":") inside
  kind ← three_at (codes "\"apiGroup\":") (codes "\"apiVersion\":") (codes "\"subresource\":") place.1
  rest ← object_end kind.1
  Some (
    record {
      resource = place.0.0;
      namespace = place.0.1;
      name = place.0.2;
      group = kind.0.0;
      version = kind.0.1;
      subresource = kind.0.2;
    },
    rest,
  )

abbrev pub some_first : {A : Type 0} → Option (A × List ℕ) → Option (Option A × List ℕ)
some_first None = None
some_first (Some read) = Some (Some read.0, read.1)

abbrev pub one_if : {A : Type 0} → (List ℕ → Option (A × List ℕ)) → Option (List ℕ) → List ℕ → Option (Option A × List ℕ)
one_if one None bytes = Some (None, bytes)
one_if one (Some value) bytes = some_first (one value)

unfoldable pub impersonated_at : List ℕ → Option (Option User × List ℕ)
impersonated_at bytes = one_if user_at (after_word (codes "\"impersonatedUser\":") bytes) bytes

unfoldable pub object_ref_at : List ℕ → Option (Option ObjectRef × List ℕ)
object_ref_at bytes = one_if reference_at (after_word (codes "\"objectRef\":") bytes) bytes

-- ---- for private clauses

-- what stands after a mark or a word, where it comes next
abbrev pub IsClosed : ℕ → Option (Bor (List ℕ)) → List ℕ → Type 0
IsClosed mark None bytes = is_closed mark bytes ≡ false
IsClosed mark (Some after) bytes = (is_closed mark bytes ≡ true) × (rest_of bytes ≡ after.now)

abbrev pub IsAfter : Option (Bor (List ℕ)) → Option (List ℕ) → Type 0
IsAfter None read = read ≡ None
IsAfter (Some after) read = read ≡ Some after.now
