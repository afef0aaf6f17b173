-- Values whose tokens are tokens of JSON (RFC 8259), however deep they are.
use Rattle.json_span.specs.Strings.{IsString}
use Rattle.json_span.specs.Value.{Value, token, array, object, Items, no_items, item, Members, no_members, member, IsToken}

abbrev mutual
  pub HasTokens : Value → Type 0
  HasTokens (token t) = IsToken t
  HasTokens (array vs) = ItemsHaveTokens vs
  HasTokens (object ms) = MembersHaveTokens ms

  pub ItemsHaveTokens : Items → Type 0
  ItemsHaveTokens no_items = Unit {0}
  ItemsHaveTokens (item v vs) = HasTokens v × ItemsHaveTokens vs

  pub MembersHaveTokens : Members → Type 0
  MembersHaveTokens no_members = Unit {0}
  MembersHaveTokens (member n v ms) = IsString n × HasTokens v × MembersHaveTokens ms
