-- The places of the members that nobody reads, since the type of their object has no member of that name.
use Rattle.std.specs.Prelude.{ℕ, ◌+◌, List, [], ◌∷◌, ◌++◌}
use Rattle.serde_json.specs.Data.{Data, null, boolean, number, string, array, object, Items, no_items, item, Members, no_members, member}
use Rattle.warned_files.specs.Known.{member_of}
use Rattle.warned_files.specs.Places.{member_place, item_place}
use Rattle.warned_files.specs.declared.kind.Kind.{Kind}
use Rattle.warned_files.specs.declared.kind.Member.{Member}
use Rattle.warned_files.specs.declared.kind.Member.TheVariants.{Unknown, Leaf, Part}

-- a member that is unknown is a place; one that has a part has the places of its part
abbrev pub by_member : Member → List ℕ → (Kind → List (List ℕ)) → List (List ℕ)
by_member Unknown place inside = place ∷ []
by_member Leaf place inside = []
by_member (Part kind) place inside = inside kind

-- the places in a value of that type, or in a list of such values, that stands at that place
abbrev mutual
  pub unread : Kind → List ℕ → Data → List (List ℕ)
  unread kind at null = []
  unread kind at (boolean b) = []
  unread kind at (number n) = []
  unread kind at (string s) = []
  unread kind at (array ds) = items_unread kind at 0 ds
  unread kind at (object ms) = members_unread kind at ms

  -- the first item has that number
  pub items_unread : Kind → List ℕ → ℕ → Items → List (List ℕ)
  items_unread kind at i no_items = []
  items_unread kind at i (item d ds) = unread kind (item_place at i) d ++ items_unread kind at (i + 1) ds

  pub members_unread : Kind → List ℕ → Members → List (List ℕ)
  members_unread kind at no_members = []
  members_unread kind at (member name d ms) =
      by_member (member_of kind name) (member_place at name) (λ part. unread part (member_place at name) d)
      ++ members_unread kind at ms
