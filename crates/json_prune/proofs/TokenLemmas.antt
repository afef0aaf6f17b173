-- Values of texts have tokens, and such values are those of their own compact texts.
use Rattle.std.proofs.Common.{◌≡◌, ℕ, ◌≤◌, [], List, true, false, refl, sym}
use Rattle.std.proofs.lemmas.List.{append-nil}
use Rattle.json_span.specs.Value.{Value, token, array, object, Items, no_items, item, Members, no_members, member, flat, flat_items, flat_members, depth, Padded, Spells, SpellsItems, SpellsMembers, StandsFor, max_depth}
use Rattle.json_prune.specs.Tokens.{HasTokens, ItemsHaveTokens, MembersHaveTokens}

mutual
  spelled_tokens : (v : Value) (t : List ℕ) → Spells v t → HasTokens v
  spelled_tokens (token s) t h = h.0
  spelled_tokens (array vs) t h = first_items vs h.0 h.1
  spelled_tokens (object ms) t h = first_members ms h.0 h.1

  first_items : (vs : Items) (t : List ℕ) → SpellsItems false vs t → ItemsHaveTokens vs
  first_items no_items t h = tt
  first_items (item v vs) t h = (spelled_tokens v h.2.1 h.2.4, more_items vs h.1 h.3)

  more_items : (vs : Items) (t : List ℕ) → SpellsItems true vs t → ItemsHaveTokens vs
  more_items no_items t h = tt
  more_items (item v vs) t h = (spelled_tokens v h.2.1 h.2.4, more_items vs h.1 h.3)

  first_members : (ms : Members) (t : List ℕ) → SpellsMembers false ms t → MembersHaveTokens ms
  first_members no_members t h = tt
  first_members (member n v ms) t h = (h.3, spelled_tokens v h.5.1 h.5.4, more_members ms h.2 h.6)

  more_members : (ms : Members) (t : List ℕ) → SpellsMembers true ms t → MembersHaveTokens ms
  more_members no_members t h = tt
  more_members (member n v ms) t h = (h.3, spelled_tokens v h.5.1 h.5.4, more_members ms h.2 h.6)

pub has_tokens : (text : List ℕ) (v : Value) → StandsFor text v → HasTokens v
has_tokens text v h = spelled_tokens v h.0.1 h.0.4

bare : (P : List ℕ → Type 0) (t : List ℕ) → P t → Padded P t
bare P t h = ([], t, [], tt, h, tt, sym (append-nil t))

mutual
  flat_spells : (v : Value) → HasTokens v → Spells v (flat v)
  flat_spells (token s) h = (h, refl)
  flat_spells (array vs) h = (flat_items false vs, items_spell vs h, refl)
  flat_spells (object ms) h = (flat_members false ms, members_spell ms h, refl)

  items_spell : (vs : Items) → ItemsHaveTokens vs → SpellsItems false vs (flat_items false vs)
  items_spell no_items h = ([], tt, refl)
  items_spell (item v vs) h = (flat v, flat_items true vs, bare (Spells v) (flat v) (flat_spells v h.0), more_spell vs h.1, refl)

  more_spell : (vs : Items) → ItemsHaveTokens vs → SpellsItems true vs (flat_items true vs)
  more_spell no_items h = refl
  more_spell (item v vs) h = (flat v, flat_items true vs, bare (Spells v) (flat v) (flat_spells v h.0), more_spell vs h.1, refl)

  members_spell : (ms : Members) → MembersHaveTokens ms → SpellsMembers false ms (flat_members false ms)
  members_spell no_members h = ([], tt, refl)
  members_spell (member n v ms) h = (n, flat v, flat_members true ms, h.0, bare (λ x. x ≡ n) n refl, bare (Spells v) (flat v) (flat_spells v h.1), others_spell ms h.2, refl)

  others_spell : (ms : Members) → MembersHaveTokens ms → SpellsMembers true ms (flat_members true ms)
  others_spell no_members h = refl
  others_spell (member n v ms) h = (n, flat v, flat_members true ms, h.0, bare (λ x. x ≡ n) n refl, bare (Spells v) (flat v) (flat_spells v h.1), others_spell ms h.2, refl)

pub tokens_stand : (v : Value) → HasTokens v → depth v ≤ max_depth → StandsFor (flat v) v
tokens_stand v h fits = (bare (Spells v) (flat v) (flat_spells v h), fits)
