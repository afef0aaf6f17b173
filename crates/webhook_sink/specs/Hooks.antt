-- The URLs that a webhook can have (URL Standard, section 4).
use Rattle.std.specs.Prelude.{ℕ, Bool, not, ◌&&◌, List, [], ◌∷◌, ◌++◌, Option, Some, None, is_some, unwrap_or, nat_eq, codes, bytes_eq, Result, Ok, Err, if◌then◌else◌}
use Rattle.std.specs.Option.{option_eq}
use Rattle.std.specs.Net.Addr.{ipv4_octets}
use Rattle.url.specs.declared.host.Host.{Host}
use Rattle.url.specs.declared.host.Host.TheVariants.{Domain, Ipv4, Ipv6}
use Rattle.url.specs.declared.error.ParseError.{ParseError}
use Rattle.url.specs.Host.{host_text}
use Rattle.url.specs.Parts.{Parts, has_credentials, nonempty_host}
use Rattle.url.specs.Parser.{parse_url}
use Rattle.webhook_sink.specs.declared.hook_url.HookUrl.{HookUrl}

-- the four bytes of a host that is an IPv4 address or `localhost`
abbrev pub ip_of : Host (List ℕ) → Option (List ℕ)
ip_of (Domain name) = if bytes_eq name (codes "localhost") then Some (127 ∷ 0 ∷ 0 ∷ 1 ∷ []) else None
ip_of (Ipv4 address) = Some (ipv4_octets address)
ip_of (Ipv6 address) = None

-- http, a port other than 0, and neither a user nor a password nor a fragment
abbrev pub is_plain : Parts → Bool
is_plain url =
    bytes_eq url.scheme (codes "http") && not (option_eq nat_eq url.port (Some 0))
    && not (has_credentials url) && not (is_some url.fragment)

-- the path, and the query after a question mark where there is one, also an empty one
abbrev pub target_with : List ℕ → Option (List ℕ) → List ℕ
target_with path None = path
target_with path (Some query) = path ++ (codes "?" ++ query)

-- whom such a URL names, and what it asks for there
abbrev pub hook_at : Parts → Host (List ℕ) → Option (List ℕ) → Option HookUrl
hook_at url host None = None
hook_at url host (Some ip) = Some (record {
  host = host_text host;
  address = record { ip = ip; port = unwrap_or url.port 80 };
  target = target_with url.path url.query;
})

abbrev pub hook_on : Parts → Option (Host (List ℕ)) → Option HookUrl
hook_on url None = None
hook_on url (Some host) = hook_at url host (ip_of host)

abbrev pub hook_of : Parts → Option HookUrl
hook_of url = if is_plain url then hook_on url (nonempty_host url) else None

-- what the crate `url` reads, if it is such a URL
abbrev pub hook_if_read : Result Parts ParseError → Option HookUrl
hook_if_read (Ok url) = hook_of url
hook_if_read (Err e) = None

-- the webhook that a text names
abbrev pub hook_named : List ℕ → Option HookUrl
hook_named text = hook_if_read (parse_url None text)
