-- Compact text is a spelling of its value.
use Rattle.std.proofs.Common.{◌≡◌, ℕ, [], List, true, false, refl, sym}
use Rattle.std.proofs.lemmas.List.{append-nil}
use Rattle.json_span.specs.Value.{Value, token, array, object, Items, no_items, item, Members, no_members, member, flat, flat_items, flat_members, Padded, Spells, SpellsItems, SpellsMembers, StandsFor}

pub bare : (P : List ℕ → Type 0) (t : List ℕ) → P t → Padded P t
bare P t h = ([], t, [], tt, h, tt, sym (append-nil t))

mutual
  pub flat_spells : (v : Value) (t : List ℕ) → Spells v t → Spells v (flat v)
  flat_spells (token s) t h = (h.0, refl)
  flat_spells (array vs) t h = (flat_items false vs, items_spell vs h.0 h.1, refl)
  flat_spells (object ms) t h = (flat_members false ms, members_spell ms h.0 h.1, refl)

  items_spell : (vs : Items) (t : List ℕ) → SpellsItems false vs t → SpellsItems false vs (flat_items false vs)
  items_spell no_items t h = ([], tt, refl)
  items_spell (item v vs) t h = (flat v, flat_items true vs, bare (Spells v) (flat v) (flat_spells v h.2.1 h.2.4), more_spell vs h.1 h.3, refl)

  pub more_spell : (vs : Items) (t : List ℕ) → SpellsItems true vs t → SpellsItems true vs (flat_items true vs)
  more_spell no_items t h = refl
  more_spell (item v vs) t h = (flat v, flat_items true vs, bare (Spells v) (flat v) (flat_spells v h.2.1 h.2.4), more_spell vs h.1 h.3, refl)

  members_spell : (ms : Members) (t : List ℕ) → SpellsMembers false ms t → SpellsMembers false ms (flat_members false ms)
  members_spell no_members t h = ([], tt, refl)
  members_spell (member n v ms) t h = (n, flat v, flat_members true ms, h.3, bare (λ x. x ≡ n) n refl, bare (Spells v) (flat v) (flat_spells v h.5.1 h.5.4), other_spell ms h.2 h.6, refl)

  other_spell : (ms : Members) (t : List ℕ) → SpellsMembers true ms t → SpellsMembers true ms (flat_members true ms)
  other_spell no_members t h = refl
  other_spell (member n v ms) t h = (n, flat v, flat_members true ms, h.3, bare (λ x. x ≡ n) n refl, bare (Spells v) (flat v) (flat_spells v h.5.1 h.5.4), other_spell ms h.2 h.6, refl)

pub flat_stands : (t : List ℕ) (v : Value) → StandsFor t v → StandsFor (flat v) v
flat_stands t v h = (bare (Spells v) (flat v) (flat_spells v h.0.1 h.0.4), h.1)
