-- How the bytes of a text are passed one after another, for private clauses.
use Rattle.std.specs.Prelude.{ℕ, ◌==◌, ◌||◌, not, nat_lt, Bool, true, false, List, [], ◌∷◌, length, Option, Some, None, option_map, if◌then◌else◌}
use Rattle.json_span.specs.Number.{is_digit, is_nonzero_digit, is_mark, is_sign}
use Rattle.json_span.specs.Strings.{is_blank, within, tail, is_hex, is_plain, is_short_escape}
use Rattle.json_span.specs.declared.number.Last.{Last}
use Rattle.json_span.specs.declared.number.Last.TheVariants as last
use Rattle.json_span.specs.declared.string.Inside.{Inside}
use Rattle.json_span.specs.declared.string.Inside.TheVariants as inside
use Rattle.json_span.specs.declared.literal.Letters.{Letters}
use Rattle.json_span.specs.declared.literal.Letters.TheVariants as letters
use Rattle.json_span.specs.declared.token.Token.{Token}
use Rattle.json_span.specs.declared.token.Token.TheVariants as token
use Rattle.json_span.specs.declared.nesting.Kind.{Kind}
use Rattle.json_span.specs.declared.nesting.Kind.TheVariants as kind
use Rattle.json_span.specs.Nesting.{is_empty}
use Rattle.json_span.specs.declared.place.Mode.{Mode}
use Rattle.json_span.specs.declared.place.Mode.TheVariants as mode
use Rattle.json_span.specs.declared.place.Place.{Place}

-- ---- numbers

abbrev pub number_step : Last → ℕ → Option Last
number_step last.Nothing b =
    if b == 45 then Some last.Minus else if b == 48 then Some last.Zero
    else if is_nonzero_digit b then Some last.Whole else None
number_step last.Minus b = if b == 48 then Some last.Zero else if is_nonzero_digit b then Some last.Whole else None
number_step last.Zero b = if b == 46 then Some last.Point else if is_mark b then Some last.Mark else None
number_step last.Whole b =
    if is_digit b then Some last.Whole else if b == 46 then Some last.Point
    else if is_mark b then Some last.Mark else None
number_step last.Point b = if is_digit b then Some last.Fraction else None
number_step last.Fraction b = if is_digit b then Some last.Fraction else if is_mark b then Some last.Mark else None
number_step last.Mark b = if is_sign b then Some last.Sign else if is_digit b then Some last.Exponent else None
number_step last.Sign b = if is_digit b then Some last.Exponent else None
number_step last.Exponent b = if is_digit b then Some last.Exponent else None

abbrev pub number_ends : Last → Bool
number_ends last.Nothing = false
number_ends last.Minus = false
number_ends last.Zero = true
number_ends last.Whole = true
number_ends last.Point = false
number_ends last.Fraction = true
number_ends last.Mark = false
number_ends last.Sign = false
number_ends last.Exponent = true

-- ---- strings

abbrev pub string_step : Inside → ℕ → Option Inside
string_step inside.Start b = if b == 34 then Some inside.Plain else None
string_step inside.Plain b =
    if b == 34 then Some inside.Closed else if b == 92 then Some inside.Escape else if is_plain b then Some inside.Plain
    else if within 194 223 b then Some inside.Tail1 else if b == 224 then Some inside.AfterE0
    else if within 225 236 b then Some inside.Tail2
    else if b == 237 then Some inside.AfterEd else if within 238 239 b then Some inside.Tail2
    else if b == 240 then Some inside.AfterF0
    else if within 241 243 b then Some inside.Tail3 else if b == 244 then Some inside.AfterF4 else None
string_step inside.Escape b =
    if is_short_escape b then Some inside.Plain else if b == 117 then Some inside.Hex4 else None
string_step inside.Hex4 b = if is_hex b then Some inside.Hex3 else None
string_step inside.Hex3 b = if is_hex b then Some inside.Hex2 else None
string_step inside.Hex2 b = if is_hex b then Some inside.Hex1 else None
string_step inside.Hex1 b = if is_hex b then Some inside.Plain else None
string_step inside.Tail1 b = if tail b then Some inside.Plain else None
string_step inside.Tail2 b = if tail b then Some inside.Tail1 else None
string_step inside.Tail3 b = if tail b then Some inside.Tail2 else None
string_step inside.AfterE0 b = if within 160 191 b then Some inside.Tail1 else None
string_step inside.AfterEd b = if within 128 159 b then Some inside.Tail1 else None
string_step inside.AfterF0 b = if within 144 191 b then Some inside.Tail2 else None
string_step inside.AfterF4 b = if within 128 143 b then Some inside.Tail2 else None
string_step inside.Closed b = None

abbrev pub string_ends : Inside → Bool
string_ends inside.Closed = true
string_ends inside.Start = false
string_ends inside.Plain = false
string_ends inside.Escape = false
string_ends inside.Hex4 = false
string_ends inside.Hex3 = false
string_ends inside.Hex2 = false
string_ends inside.Hex1 = false
string_ends inside.Tail1 = false
string_ends inside.Tail2 = false
string_ends inside.Tail3 = false
string_ends inside.AfterE0 = false
string_ends inside.AfterEd = false
string_ends inside.AfterF0 = false
string_ends inside.AfterF4 = false

-- plain characters follow one another
abbrev pub stays_inside : Inside → ℕ → Bool
stays_inside inside.Plain b = is_plain b
stays_inside inside.Start b = false
stays_inside inside.Escape b = false
stays_inside inside.Hex4 b = false
stays_inside inside.Hex3 b = false
stays_inside inside.Hex2 b = false
stays_inside inside.Hex1 b = false
stays_inside inside.Tail1 b = false
stays_inside inside.Tail2 b = false
stays_inside inside.Tail3 b = false
stays_inside inside.AfterE0 b = false
stays_inside inside.AfterEd b = false
stays_inside inside.AfterF0 b = false
stays_inside inside.AfterF4 b = false
stays_inside inside.Closed b = false

-- ---- literals: the letters that are still to come

abbrev pub letter : ℕ → Letters → ℕ → Option Letters
letter a next b = if b == a then Some next else None

abbrev pub letters_step : Letters → ℕ → Option Letters
letters_step letters.Rue b = letter 114 letters.Ue b
letters_step letters.Ue b = letter 117 letters.E b
letters_step letters.E b = letter 101 letters.Done b
letters_step letters.Alse b = letter 97 letters.Lse b
letters_step letters.Lse b = letter 108 letters.Se b
letters_step letters.Se b = letter 115 letters.E b
letters_step letters.Ull b = letter 117 letters.Ll b
letters_step letters.Ll b = letter 108 letters.L b
letters_step letters.L b = letter 108 letters.Done b
letters_step letters.Done b = None

abbrev pub letters_end : Letters → Bool
letters_end letters.Rue = false
letters_end letters.Ue = false
letters_end letters.E = false
letters_end letters.Alse = false
letters_end letters.Lse = false
letters_end letters.Se = false
letters_end letters.Ull = false
letters_end letters.Ll = false
letters_end letters.L = false
letters_end letters.Done = true

-- ---- tokens

abbrev pub token_first : ℕ → Option Token
token_first b =
    if b == 34 then Some (token.Text inside.Plain) else if b == 116 then Some (token.Literal letters.Rue)
    else if b == 102 then Some (token.Literal letters.Alse) else if b == 110 then Some (token.Literal letters.Ull)
    else option_map token.Number (number_step last.Nothing b)

abbrev pub token_step : Token → ℕ → Option Token
token_step (token.Number l) b = option_map token.Number (number_step l b)
token_step (token.Text i) b = option_map token.Text (string_step i b)
token_step (token.Literal l) b = option_map token.Literal (letters_step l b)

abbrev pub stays_in_token : Token → ℕ → Bool
stays_in_token (token.Number l) b = false
stays_in_token (token.Text i) b = stays_inside i b
stays_in_token (token.Literal l) b = false

abbrev pub token_ends : Token → Bool
token_ends (token.Number l) = number_ends l
token_ends (token.Text i) = string_ends i
token_ends (token.Literal l) = letters_end l

-- ---- values: the kinds of what is open, innermost first, and what may come next

abbrev pub at : List Kind → Mode → Place
at kinds m = record { nesting = kinds; mode = m }

abbrev pub opens : List Kind → Kind → Mode → Option Place
opens kinds k m = if nat_lt (length kinds) 128 then Some (at (k ∷ kinds) m) else None

abbrev pub closes : Kind → List Kind → Option Place
closes k [] = None
closes kind.Array (kind.Array ∷ kinds) = Some (at kinds mode.After)
closes kind.Array (kind.Object ∷ kinds) = None
closes kind.Object (kind.Array ∷ kinds) = None
closes kind.Object (kind.Object ∷ kinds) = Some (at kinds mode.After)

abbrev pub separates : List Kind → Option Place
separates [] = None
separates (kind.Array ∷ kinds) = Some (at (kind.Array ∷ kinds) mode.Before)
separates (kind.Object ∷ kinds) = Some (at (kind.Object ∷ kinds) mode.Name)

-- a byte after a value
abbrev pub follows : List Kind → ℕ → Option Place
follows kinds b =
    if is_blank b then Some (at kinds mode.After) else if b == 44 then separates kinds
    else if b == 93 then closes kind.Array kinds else if b == 125 then closes kind.Object kinds else None

-- a byte where a value begins
abbrev pub begins : List Kind → Mode → ℕ → Option Place
begins kinds m b =
    if is_blank b then Some (at kinds m) else if b == 91 then opens kinds kind.Array mode.FirstItem
    else if b == 123 then opens kinds kind.Object mode.FirstName
    else option_map (λ t. at kinds (mode.InToken t)) (token_first b)

-- a byte where a name begins
abbrev pub names : List Kind → Mode → ℕ → Option Place
names kinds m b =
    if is_blank b then Some (at kinds m) else if b == 34 then Some (at kinds (mode.InName inside.Plain)) else None

-- a byte after a name
abbrev pub colon : List Kind → ℕ → Option Place
colon kinds b =
    if is_blank b then Some (at kinds mode.Colon) else if b == 58 then Some (at kinds mode.Before) else None

-- the token goes on, or has ended
abbrev pub in_token : List Kind → Bool → ℕ → Option Token → Option Place
in_token kinds ended b (Some t) = Some (at kinds (mode.InToken t))
in_token kinds ended b None = if ended then follows kinds b else None

abbrev pub in_name : List Kind → Bool → ℕ → Option Inside → Option Place
in_name kinds ended b (Some i) = Some (at kinds (mode.InName i))
in_name kinds ended b None = if ended then colon kinds b else None

abbrev pub mode_step : List Kind → Mode → ℕ → Option Place
mode_step kinds mode.Before b = begins kinds mode.Before b
mode_step kinds mode.FirstItem b = if b == 93 then closes kind.Array kinds else begins kinds mode.FirstItem b
mode_step kinds mode.FirstName b = if b == 125 then closes kind.Object kinds else names kinds mode.FirstName b
mode_step kinds mode.Name b = names kinds mode.Name b
mode_step kinds (mode.InName i) b = in_name kinds (string_ends i) b (string_step i b)
mode_step kinds mode.Colon b = colon kinds b
mode_step kinds (mode.InToken t) b = in_token kinds (token_ends t) b (token_step t b)
mode_step kinds mode.After b = follows kinds b

abbrev pub place_step : Place → ℕ → Option Place
place_step p b = mode_step p.nesting p.mode b

abbrev pub mode_ends : Mode → Bool
mode_ends mode.Before = false
mode_ends mode.FirstItem = false
mode_ends mode.FirstName = false
mode_ends mode.Name = false
mode_ends (mode.InName i) = false
mode_ends mode.Colon = false
mode_ends (mode.InToken t) = token_ends t
mode_ends mode.After = true

abbrev pub place_ends : Place → Bool
place_ends p = if is_empty p.nesting then mode_ends p.mode else false

-- ---- what compact text keeps

abbrev pub is_inside : Mode → Bool
is_inside mode.Before = false
is_inside mode.FirstItem = false
is_inside mode.FirstName = false
is_inside mode.Name = false
is_inside (mode.InName i) = true
is_inside mode.Colon = false
is_inside (mode.InToken t) = true
is_inside mode.After = false

-- a byte that leads to the place is kept
abbrev pub keeps : Place → ℕ → Bool
keeps p b = is_inside p.mode || not (is_blank b)

abbrev pub start : Place
start = at [] mode.Before

-- ---- runs: bytes that leave the place as it is

-- plain characters in a string, and blanks between tokens
abbrev pub stays : Mode → ℕ → Bool
stays mode.Before b = is_blank b
stays mode.FirstItem b = is_blank b
stays mode.FirstName b = is_blank b
stays mode.Name b = is_blank b
stays (mode.InName i) b = stays_inside i b
stays mode.Colon b = is_blank b
stays (mode.InToken t) b = stays_in_token t b
stays mode.After b = is_blank b
