-- How heads are written (RFC 9112, sections 2.1, 3, 4 and 5): a start line, header lines and an empty line.
use Rattle.std.specs.Prelude.{ℕ, List, [], ◌++◌, codes, unwrap_or}
use Rattle.std.specs.List.{flat_map}
use Rattle.http.specs.StatusCode.{code_digits, reason_phrase}
use Rattle.http_head.specs.declared.header.Header.{Header}
use Rattle.http_head.specs.declared.reply.ReplyHead.{ReplyHead}
use Rattle.http_head.specs.declared.request.Head.{Head}

-- a header of that name and value
abbrev pub named : List ℕ → List ℕ → Header
named name value = record { name = name; value = value }

-- a header's line
unfoldable pub line : Header → List ℕ
line header = header.name ++ (codes ": " ++ (header.value ++ codes "\r\n"))

-- headers' lines in their order
unfoldable pub header_lines : List Header → List ℕ
header_lines headers = flat_map line headers

-- the line that begins a request
abbrev pub request_line : List ℕ → List ℕ → List ℕ
request_line method target = method ++ (codes " " ++ (target ++ codes " HTTP/1.1\r\n"))

-- the canonical phrase of a status, or nothing
unfoldable pub phrase : ℕ → List ℕ
phrase status = unwrap_or (reason_phrase status) []

-- the line that begins a reply: the status in three digits, and its phrase
abbrev pub status_line : ℕ → List ℕ
status_line status = codes "HTTP/1.1 " ++ (code_digits status ++ (codes " " ++ (phrase status ++ codes "\r\n")))

-- a head of a request, always in version 1.1
abbrev pub request_text : Head → List ℕ
request_text head = request_line head.method head.target ++ (header_lines head.headers ++ codes "\r\n")

-- a head of a reply, likewise
abbrev pub reply_text : ReplyHead → List ℕ
reply_text head = status_line head.status ++ (header_lines head.headers ++ codes "\r\n")
