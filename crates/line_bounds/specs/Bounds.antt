-- How many bytes the line of an audit event without its objects has at most, by its texts.
use Rattle.std.specs.Prelude.{◌≡◌, ℕ, ◌+◌, ◌<◌, ◌^◌, ⊤, List, [], ◌∷◌, length, Option, Some, None}
use Rattle.std.specs.List.{All, flat_map}
use Rattle.front_base.specs.declared.moment.TheConstants.{MOMENT_END}
use Rattle.front_base.specs.declared.user.User.{User}
use Rattle.json_span.specs.Quote.{escaped}
use Rattle.stage_event.specs.declared.event.Event.{Event}
use Rattle.stage_event.specs.declared.event.ObjectRef.{ObjectRef}
use Rattle.line_bounds.specs.declared.TheConstants.{OTHER_BYTES}

-- ---- how many bytes texts have in a line

-- between the quotation marks of a JSON string, each escape counted (RFC 8259, section 7)
unfoldable pub text_size : List ℕ → ℕ
text_size text = length (flat_map escaped text)

-- in a list, with two quotation marks and a comma for each
abbrev pub texts_size : List (List ℕ) → ℕ
texts_size [] = 0
texts_size (text ∷ texts) = text_size text + 3 + texts_size texts

abbrev pub user_size : User → ℕ
user_size user = text_size user.name + text_size user.uid + texts_size user.groups

abbrev pub acting_size : Option User → ℕ
acting_size None = 0
acting_size (Some user) = user_size user

abbrev pub reference_size : ObjectRef → ℕ
reference_size object =
    text_size object.resource + text_size object.namespace + text_size object.name
    + text_size object.group + text_size object.version + text_size object.subresource

abbrev pub named_size : Option ObjectRef → ℕ
named_size None = 0
named_size (Some object) = reference_size object

-- the most bytes of the event's line without its objects
abbrev pub line_bound : Event → ℕ
line_bound e =
    text_size e.target + text_size e.verb + user_size e.user + acting_size e.impersonated + text_size e.agent
    + named_size e.object_ref + OTHER_BYTES

-- ---- the ranges of numbers

-- four bytes
abbrev pub IsAddress : List ℕ → Type 0
IsAddress ip = (length ip ≡ 4) × All (λ b. b < 256) ip

-- sixteen bits, once it is known
abbrev pub IsCode : Option ℕ → Type 0
IsCode None = ⊤
IsCode (Some code) = code < 2 ^ 16

-- the numbers of an event are values of their types
pub record HasRanges (e : Event) : Type 0 where
  pub peer : IsAddress e.peer
  pub code : IsCode e.code
  pub received : e.received < MOMENT_END
  pub at : e.at < MOMENT_END
