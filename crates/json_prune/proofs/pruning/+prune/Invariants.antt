use Rattle.std.proofs.Common.{◌≡◌, ℕ, ◌+◌, ◌-◌, ◌*◌, ◌≤◌, ◌++◌, List, length, drop, get_or, true, false}
use Rattle.json_span.specs.Value.{Items, Members, flat_items, flat_members}
use Rattle.json_prune.specs.Names.{names_from}
use Rattle.json_prune.specs.Tokens.{ItemsHaveTokens, MembersHaveTokens}
use Rattle.json_prune.specs.Walk.{items_left, members_left, written}
use Rattle.json_prune.proofs.WalkLemmas.{ItemsLeft}
use Rattle.json_prune.proofs.MemberLemmas.{MembersLeft}
use Rattle.json_prune.proofs.pruning.+prune.Given as goal

-- what is written, with what is left of the items from here on, is all
abbrev pub invariant-prune_items-loop-at : goal.invariant-prune_items-loop-at
invariant-prune_items-loop-at l =
    let p = names_from l.path l.first in
    let q = names_from l.path l.second in
    record {
      order : l.copied.from ≤ l.at;
      start : l.start ≤ l.at;
      within : l.at ≤ length l.text;
      left : (vs : Items) (rest : List ℕ) → drop l.start l.text ≡ flat_items false vs ++ rest → ItemsHaveTokens vs →
          ItemsLeft l.text p q l.at (written l.text l.copied.out.items l.copied.from l.at) rest
          (written l.text l.fn.copied.out.items l.fn.copied.from l.start ++ flat_items false (items_left p q vs)) (l.start + length (flat_items false vs));
    }

-- the same of members, where what is written goes up to the end of the last one
abbrev pub invariant-prune_members-loop-at : goal.invariant-prune_members-loop-at
invariant-prune_members-loop-at l =
    let p = names_from l.path l.first in
    let q = names_from l.path l.second in
    record {
      order : l.copied.from ≤ l.end;
      start : l.start ≤ l.end;
      near : l.end ≤ l.at;
      within : l.at ≤ length l.text;
      comma : l.kept ≡ true → (l.at ≡ l.end + 1) × (get_or l.text l.end 0 ≡ 44);
      left : (ms : Members) (rest : List ℕ) → drop l.start l.text ≡ flat_members false ms ++ rest → MembersHaveTokens ms →
          MembersLeft l.text p q l.at l.kept (written l.text l.copied.out.items l.copied.from l.end) rest
          (written l.text l.fn.copied.out.items l.fn.copied.from l.start ++ flat_members false (members_left p q ms)) (l.start + length (flat_members false ms));
    }

abbrev pub decreases-prune_items-loop-at : goal.decreases-prune_items-loop-at
decreases-prune_items-loop-at l = length l.text - l.at

abbrev pub decreases-prune_members-loop-at : goal.decreases-prune_members-loop-at
decreases-prune_members-loop-at l = length l.text - l.at

-- what is left of both paths; a value comes before what its brackets hold
abbrev pub decreases-prune_value : goal.decreases-prune_value
decreases-prune_value l = 2 * (2 * (length l.path.now + 1) - (l.first + l.second)) + 1

abbrev pub decreases-prune_items : goal.decreases-prune_items
decreases-prune_items l = 2 * (2 * (length l.path.now + 1) - (l.first + l.second))

abbrev pub decreases-prune_members : goal.decreases-prune_members
decreases-prune_members l = 2 * (2 * (length l.path.now + 1) - (l.first + l.second))
