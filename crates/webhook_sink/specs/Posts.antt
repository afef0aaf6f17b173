-- The post of a try (RFC 9112, sections 3 and 5; RFC 9110, section 9.3.3).
use Rattle.std.specs.Prelude.{ℕ, List, [], ◌∷◌, ◌++◌, length, codes, decimal}
use Rattle.front_base.specs.Line.{Line}
use Rattle.http_head.specs.Written.{named, request_line, header_lines, request_text}
use Rattle.http_head.specs.declared.header.Header.{Header}
use Rattle.webhook_sink.specs.Lists.{list_text}
use Rattle.webhook_sink.specs.declared.hook_url.HookUrl.{HookUrl}

-- the host, always with its port (RFC 9110, section 7.2)
abbrev pub host_of : HookUrl → List ℕ
host_of hook = hook.host ++ (codes ":" ++ decimal hook.address.port)

abbrev pub host_header : HookUrl → Header
host_header hook = named (codes "Host") (host_of hook)

abbrev pub type_header : Header
type_header = named (codes "Content-Type") (codes "application/json")

-- the head of a post whose body has so many bytes
unfoldable pub post_head : HookUrl → ℕ → List ℕ
post_head hook size = request_text (record {
  method = codes "POST";
  target = hook.target;
  minor = 1;
  headers = host_header hook ∷ type_header ∷ named (codes "Content-Length") (decimal size)
      ∷ named (codes "Connection") (codes "close") ∷ [];
})

-- the text of a try: the head, and the list of its lines
unfoldable pub post_text : HookUrl → List Line → List ℕ
post_text hook lines = post_head hook (length (list_text lines)) ++ list_text lines

-- what stands before the length in the head, and after it
unfoldable pub before_length : HookUrl → List ℕ
before_length hook =
    ((request_line (codes "POST") hook.target ++ header_lines (host_header hook ∷ []))
    ++ header_lines (type_header ∷ [])) ++ codes "Content-Length: "

unfoldable pub after_length : List ℕ
after_length = codes "\r\nConnection: close\r\n\r\n"

-- the post, from what stands before the length in its head
abbrev pub post_from : List ℕ → List Line → List ℕ
post_from before lines = (before ++ (decimal (length (list_text lines)) ++ after_length)) ++ list_text lines
