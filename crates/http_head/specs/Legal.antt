-- Which heads are read back as they were written (RFC 9112, sections 3, 4 and 5; RFC 9110, section 5.5).
use Rattle.std.specs.Prelude.{◌≡◌, ◌<◌, ◌≤◌, List, length, reverse, All, IsUtf8}
use Rattle.httparse.specs.Grammar.{AllPass, IsToken, is_uri_byte, is_value_byte, skip_ows}
use Rattle.http_head.specs.declared.block.TheConstants.{MOST_HEADERS}
use Rattle.http_head.specs.declared.header.Header.{Header}
use Rattle.http_head.specs.declared.reply.ReplyHead.{ReplyHead}
use Rattle.http_head.specs.declared.request.Head.{Head}

-- the name is a token, and the value has no control byte but the tab, and no space or tab at its ends
pub record IsLegalHeader (header : Header) : Type 0 where
  pub name : IsToken header.name
  pub value : AllPass is_value_byte header.value
  pub begins : skip_ows header.value ≡ header.value
  pub ends : skip_ows (reverse header.value) ≡ reverse header.value

-- no more headers than a head may have, each of them legal
pub record AreLegalHeaders (headers : List Header) : Type 0 where
  pub legal : All IsLegalHeader headers
  pub few : length headers ≤ MOST_HEADERS

-- the method is a token, and the target is text that isn't empty, without blanks and control bytes
pub record IsLegalRequest (head : Head) : Type 0 where
  pub method : IsToken head.method
  pub target : (0 < length head.target) × AllPass is_uri_byte head.target
  pub text : IsUtf8 head.target
  pub headers : AreLegalHeaders head.headers

-- the status has three digits, the first not 0
pub record IsLegalReply (head : ReplyHead) : Type 0 where
  pub status : (100 ≤ head.status) × (head.status < 1000)
  pub headers : AreLegalHeaders head.headers

-- a head in version 1.1, in which all heads are written
abbrev pub request_1_1 : Head → Head
request_1_1 head = record { method = head.method; target = head.target; minor = 1; headers = head.headers }

abbrev pub reply_1_1 : ReplyHead → ReplyHead
reply_1_1 head = record { status = head.status; minor = 1; headers = head.headers }
