-- What a line on a refusal says.
use Rattle.std.specs.Prelude.{◌≡◌, ℕ, ◌==◌, ◌||◌, nat_eq, nat_lt, Bool, false, if◌then◌else◌, List, [], ◌++◌, drop, length, Option, Some, None, is_some, codes}
use Rattle.std.specs.Fmt.{decimal}
use Rattle.std.specs.List.{starts_with}
use Rattle.front_base.specs.Address.{◌>>=◌, address_of}
use Rattle.front_base.specs.Cut.{cut_at}
use Rattle.front_base.specs.Number.{number_of}
use Rattle.front_config.specs.Load.{name_for}
use Rattle.command_options.specs.Options.{ranged_name, least, most}
use Rattle.command_options.specs.declared.files.FileNames.{FileNames}
use Rattle.command_options.specs.declared.ranged.Ranged.{Ranged}
use Rattle.front_config.specs.declared.fault.LoadFault.{LoadFault}
use Rattle.front_config.specs.declared.fault.LoadFault.TheVariants.{ReadFault, BadFile, NoMemory}
use Rattle.front_config.specs.declared.fault.Which.{Which}
use Rattle.front_config.specs.declared.fault.Which.TheVariants as file
use Rattle.refusal_text.specs.Place.{place_of}
use Rattle.refusal_text.specs.declared.refusal.Refusal.{Refusal}
use Rattle.refusal_text.specs.declared.refusal.Refusal.TheVariants.{Words, NotUtf8, Limits, Listen, Webhook, OwnWebhook, Front, Token, UnreadToken, BadToken, Files, Request, Input, Output}

-- the option that names a file
abbrev pub option_of : Which → List ℕ
option_of file.Tokens = codes "--token-auth-file"
option_of file.Policy = codes "--audit-policy-file"
option_of file.Services = codes "--apiservices"
option_of file.Endpoints = codes "--endpoints"

abbrev pub name_or_none : Option (List ℕ) → List ℕ
name_or_none None = []
name_or_none (Some name) = name

-- `--OPTION=FILE: `, with the file's name as it was given
abbrev pub file_head : FileNames → Which → List ℕ
file_head names which = option_of which ++ (codes "=" ++ (name_or_none (name_for names which) ++ codes ": "))

-- `--OPTION=NUMBER: must be LEAST to MOST`
abbrev pub range_line : Ranged → ℕ → List ℕ
range_line option n =
    codes "--" ++ (ranged_name option ++ (codes "=" ++ (decimal n ++ (codes ": must be " ++ (decimal (least option) ++ (codes " to " ++ decimal (most option)))))))

-- ---- addresses

-- the text up to its first colon is a host: with port 1 it is an address
abbrev pub has_host : Option (List ℕ × List ℕ) → Bool
has_host None = false
has_host (Some parts) = is_some (address_of (parts.0 ++ codes ":1"))

-- why a text is no address: its port, where it has a host, and else its form
abbrev pub listen_why : List ℕ → List ℕ
listen_why text = if has_host (cut_at 58 text) then codes "port: not 1 to 65535" else codes "not A.B.C.D:PORT or localhost:PORT"

-- `--listen=TEXT: ..`, with the text as it was given
abbrev pub listen_line : List ℕ → List ℕ
listen_line text = codes "--listen=" ++ (text ++ (codes ": " ++ listen_why text))

-- the same of `--front`
abbrev pub front_line : List ℕ → List ℕ
front_line text = codes "--front=" ++ (text ++ (codes ": " ++ listen_why text))

-- ---- URLs

-- what stands before the first slash, or all
abbrev pub before_slash : List ℕ → Option (List ℕ × List ℕ) → List ℕ
before_slash text None = text
before_slash text (Some parts) = parts.0

-- the text after a prefix
abbrev pub after : List ℕ → List ℕ → Option (List ℕ)
after prefix text = if starts_with nat_eq text prefix then Some (drop (length prefix) text) else None

-- the number between the colon of an http URL's host and the path
unfoldable pub port_number : List ℕ → Option ℕ
port_number url = do
  rest ← after (codes "http://") url
  parts ← cut_at 58 (before_slash rest (cut_at 47 rest))
  number_of parts.1

abbrev pub is_no_port : Option ℕ → Bool
is_no_port None = false
is_no_port (Some n) = n == 0 || nat_lt 65535 n

abbrev pub is_https : List ℕ → Bool
is_https url = starts_with nat_eq url (codes "https://")

-- why a webhook can't have a URL: its scheme is https, its port is a number that no port has, or its form
abbrev pub webhook_why : List ℕ → List ℕ
webhook_why url =
    if is_https url then codes "https is not supported"
    else if is_no_port (port_number url) then codes "port: not 1 to 65535"
    else codes "not http with an IPv4 address or localhost, and no user or fragment"

-- `--audit-webhook-url=URL: ..`, with the URL as it was given
abbrev pub webhook_line : List ℕ → List ℕ
webhook_line url = codes "--audit-webhook-url=" ++ (url ++ (codes ": " ++ webhook_why url))

-- the same of a URL that leads to the door itself
abbrev pub own_webhook_line : List ℕ → List ℕ
own_webhook_line url = codes "--audit-webhook-url=" ++ (url ++ codes ": the address of --listen")

-- ---- files, the input, the output and requests

-- the system's reason, or else these words
abbrev pub reason_or : List ℕ → Option (List ℕ) → List ℕ
reason_or words None = words
reason_or words (Some reason) = reason

-- `--token-file=FILE: `, with the file's name as it was given
abbrev pub token_head : List ℕ → List ℕ
token_head name = codes "--token-file=" ++ (name ++ codes ": ")

-- `request NUMBER, at byte BYTE: `
abbrev pub request_head : ℕ → ℕ → List ℕ
request_head number byte = codes "request " ++ (decimal number ++ (codes ", at byte " ++ (decimal byte ++ codes ": ")))

abbrev pub Begins : List ℕ → List ℕ → Type 0
Begins line head = (rest : List ℕ) × (line ≡ head ++ rest)

-- the option and the file, and why it could not be read, or the place
abbrev pub SaysFile : FileNames → LoadFault → Option (List ℕ) → List ℕ → Type 0
SaysFile names (ReadFault which) reason line = line ≡ file_head names which ++ reason_or (codes "could not be read") reason
SaysFile names (BadFile which fault) reason line = Begins line (file_head names which ++ place_of fault)
SaysFile names NoMemory reason line = Unit {0}

-- what a line says of a refusal, the system having given this reason: its parts that are no words
abbrev pub Says : Refusal → Option (List ℕ) → List ℕ → Type 0
Says (Words bad) reason line = Unit {0}
Says NotUtf8 reason line = Unit {0}
Says (Limits option n) reason line = line ≡ range_line option n
Says (Listen text) reason line = line ≡ listen_line text
Says (Webhook url) reason line = line ≡ webhook_line url
Says (OwnWebhook url) reason line = line ≡ own_webhook_line url
Says (Front text) reason line = line ≡ front_line text
Says Token reason line = line ≡ codes "--token: not of the characters '!' to '~'"
Says (UnreadToken name) reason line = line ≡ token_head name ++ reason_or (codes "could not be read") reason
Says (BadToken name) reason line = line ≡ token_head name ++ codes "not of the characters '!' to '~'"
Says (Files names fault) reason line = SaysFile names fault reason line
Says (Request number byte end) reason line = Begins line (request_head number byte)
Says Input reason line = line ≡ codes "standard input: " ++ reason_or (codes "could not be read") reason
Says Output reason line = line ≡ codes "standard output: " ++ reason_or (codes "could not be written") reason
