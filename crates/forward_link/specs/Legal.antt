-- What makes a head that is sent on legal (RFC 9112, section 2.2; RFC 9110, section 5.5).
use Rattle.std.specs.Prelude.{◌≡◌, ℕ, ◌<◌, true, List, length, All, IsUtf8}
use Rattle.apiservice_rows.specs.Object.{is_service_name}
use Rattle.httparse.specs.Grammar.{AllPass, IsToken, is_uri_byte}
use Rattle.http_head.specs.Legal.{IsLegalHeader}
use Rattle.http_head.specs.declared.header.Header.{Header}
use Rattle.http_head.specs.declared.request.Head.{Head}
use Rattle.forward_link.specs.declared.target.Target.{Target}
use Rattle.forward_link.specs.declared.target.Target.TheVariants.{Service, Delegate}

-- each part of the head is legal, however many headers it has
pub record HasLegalParts (head : Head) : Type 0 where
  pub method : IsToken head.method
  pub target : (0 < length head.target) × AllPass is_uri_byte head.target
  pub text : IsUtf8 head.target
  pub headers : All IsLegalHeader head.headers

-- a legal header stays legal with that value
abbrev pub IsCarried : List ℕ → Type 0
IsCarried text = (header : Header) → IsLegalHeader header → IsLegalHeader (record { name = header.name; value = text })

-- a service has names that an APIService may give it
abbrev pub IsNamed : Target → Type 0
IsNamed (Service to address) = (is_service_name to.namespace ≡ true) × (is_service_name to.name ≡ true)
IsNamed (Delegate address) = Unit {0}
