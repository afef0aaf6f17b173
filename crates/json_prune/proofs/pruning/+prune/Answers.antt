use Rattle.std.proofs.Common.{◌≡◌, ℕ, ◌+◌, ◌≤◌, ◌∷◌, [], ◌++◌, List, length, true, false, ap, ◌∙◌, refl, arith}
use Rattle.json_span.specs.Value.{flat, flat_items, flat_members}
use Rattle.json_prune.specs.Names.{names_from}
use Rattle.json_prune.specs.declared.copied.Copied.{Copied}
use Rattle.json_prune.specs.Walk.{into_member, into_items, if_both, prune_both, items_left, members_left, written}
use Rattle.json_prune.proofs.WalkLemmas.{copied_whole, token_stays, object_copied, array_copied, items_begin, items_empty, items_end, items_passed, items_done, items_next, string_within, value_within}
use Rattle.json_prune.proofs.MemberLemmas.{MembersBehind, members_begin, members_empty, members_end, inner_of, name_ends, name_is, colon_within, behind_colon, member_dropped, member_kept, members_done, members_next}
use Rattle.json_prune.proofs.pruning.+prune.Goals as goal
use Rattle.json_prune.proofs.pruning.+prune.Goals.{prune_members-in-Some+in_ok-cut_comma-in-Some+in_ok-end-in-Some, prune_members-in-None+in_ok-cut-in-None}

-- ---- values

pub prune_value-returns-then-none_left-clause-copies : goal.prune_value-returns-then-none_left-clause-copies
prune_value-returns-then-none_left-clause-copies t c = λ v rest e h ends.
    let none = c.none_left.ensures.none c.if-none_left.true in
    copied_whole c.args.text.now v rest c.args.at c.value_len.result c.args.copied.now _ c.requires.order e h ends c.value_len.ensures.size
    (ap (λ p. flat (prune_both p (names_from c.args.path.now c.args.second) v)) none.0 ∙ ap (λ q. flat (prune_both [] q v)) none.1)

pub prune_value-returns-then-stands-clause-copies : goal.prune_value-returns-then-stands-clause-copies
prune_value-returns-then-stands-clause-copies t c = λ v rest e h ends.
    let brace = c.stands.ensures.yes c.if-stands.true in
    object_copied c.args.text.now v rest c.args.at (names_from c.args.path.now c.args.first) (names_from c.args.path.now c.args.second) c.args.copied.now c.prune_members.new.copied c.prune_members.result c.requires.order brace.0 brace.1 e h ends c.prune_members.ensures.copies

pub prune_value-returns-then-stands-2-clause-copies : goal.prune_value-returns-then-stands-2-clause-copies
prune_value-returns-then-stands-2-clause-copies t c = λ v rest e h ends.
    let bracket = c.stands-2.ensures.yes c.if-stands-2.true in
    array_copied c.args.text.now v rest c.args.at (names_from c.args.path.now c.args.first) (names_from c.args.path.now c.args.second) c.args.copied.now c.prune_items.new.copied c.prune_items.result c.requires.order bracket.0 bracket.1 e h ends c.prune_items.ensures.copies

pub prune_value-returns-clause-copies : goal.prune_value-returns-clause-copies
prune_value-returns-clause-copies t c = λ v rest e h ends.
    copied_whole c.args.text.now v rest c.args.at c.value_len-2.result c.args.copied.now _ c.requires.order e h ends c.value_len-2.ensures.size
    (token_stays c.args.text.now v rest c.args.at (names_from c.args.path.now c.args.first) (names_from c.args.path.now c.args.second) c.requires.within e (c.stands.ensures.no c.if-stands.false) (c.stands-2.ensures.no c.if-stands-2.false))

-- ---- items

pub prune_items-returns-then-stands-clause-copies : goal.prune_items-returns-then-stands-clause-copies
prune_items-returns-then-stands-clause-copies t c = λ vs rest e h.
    let bracket = c.stands.ensures.yes c.if-stands.true in
    items_empty c.args.text.now (names_from c.args.path.now c.args.first) (names_from c.args.path.now c.args.second) c.args.start c.args.copied.now.out.items c.args.copied.now.from vs rest c.requires.order bracket.0 bracket.1 e h

pub prune_items-loop-at-init : goal.prune_items-loop-at-init
prune_items-loop-at-init t c = record {
  order = c.requires.order;
  start = omega arith;
  within = c.requires.within;
  left = λ vs rest e h. items_begin c.args.text.now (names_from c.args.path.now c.args.first) (names_from c.args.path.now c.args.second) c.args.start (written c.args.text.now c.args.copied.now.out.items c.args.copied.now.from c.args.start) rest vs c.requires.within (c.stands.ensures.no c.if-stands.false) e h;
}

pub prune_items-returns-then-not-stands-clause-copies : goal.prune_items-returns-then-not-stands-clause-copies
prune_items-returns-then-not-stands-clause-copies t c = λ vs rest e h.
    let text = c.args.text.now in
    let path = c.args.path.now in
    let p = names_from path c.args.first in
    let q = names_from path c.args.second in
    let end = c.in_ok-end.end in
    let whole : List ℕ = written text c.args.copied.now.out.items c.args.copied.now.from c.args.start ++ flat_items false (items_left p q vs) in
    let last : ℕ = c.args.start + length (flat_items false vs) in
    let left = c.loop-at.invariant.left vs rest e h in
    let copies = c.in_ok-end.ensures.copies left.value (flat_items true left.others ++ rest) left.is left.tokens.0 (items_end left.others rest) in
    let before : List ℕ = written text c.loop-at.copied.out.items c.loop-at.copied.from c.loop-at.at in
    let those : flat (prune_both (names_from path c.into_items-one.result) (names_from path c.into_items-other.result) left.value) ≡ flat (prune_both (into_items p) (into_items q) left.value) =
    ap (λ x. flat (prune_both x (names_from path c.into_items-other.result) left.value)) c.into_items-one.ensures.names ∙ ap (λ x. flat (prune_both (into_items p) x left.value)) c.into_items-other.ensures.names in
    let behind = items_passed text p q c.loop-at.at end before (written text c.prune_value.new.copied.out.items c.prune_value.new.copied.from end) rest whole last left (copies.0, copies.1 ∙ ap (λ l. before ++ l) those) in
    items_done text p q end c.prune_value.new.copied.out.items c.prune_value.new.copied.from rest whole last c.in_ok-end.ensures.within.2 c.in_ok-end.ensures.within.0 (c.stands-in-loop-at.ensures.no c.if-not-stands.true) behind c.min.result c.min.ensures

pub prune_items-loop-at-preserved : goal.prune_items-loop-at-preserved
prune_items-loop-at-preserved t c =
    let text = c.args.text.now in
    let path = c.args.path.now in
    let p = names_from path c.args.first in
    let q = names_from path c.args.second in
    let end = c.in_ok-end.end in
    let within = c.in_ok-end.ensures.within in
    let comma = c.stands-in-loop-at.ensures.yes c.if-not-stands.false in
    record {
      order = omega (arith, within.0);
      start = omega (arith, within.1, c.loop-at.invariant.start);
      within = omega (arith, comma.0);
      left = λ vs rest e h.
          let whole : List ℕ = written text c.args.copied.now.out.items c.args.copied.now.from c.args.start ++ flat_items false (items_left p q vs) in
          let last : ℕ = c.args.start + length (flat_items false vs) in
          let left = c.loop-at.invariant.left vs rest e h in
          let copies = c.in_ok-end.ensures.copies left.value (flat_items true left.others ++ rest) left.is left.tokens.0 (items_end left.others rest) in
          let before : List ℕ = written text c.loop-at.copied.out.items c.loop-at.copied.from c.loop-at.at in
          let those : flat (prune_both (names_from path c.into_items-one.result) (names_from path c.into_items-other.result) left.value) ≡ flat (prune_both (into_items p) (into_items q) left.value) =
          ap (λ x. flat (prune_both x (names_from path c.into_items-other.result) left.value)) c.into_items-one.ensures.names ∙ ap (λ x. flat (prune_both (into_items p) x left.value)) c.into_items-other.ensures.names in
          let behind = items_passed text p q c.loop-at.at end before (written text c.prune_value.new.copied.out.items c.prune_value.new.copied.from end) rest whole last left (copies.0, copies.1 ∙ ap (λ l. before ++ l) those) in
          items_next text p q end c.prune_value.new.copied.out.items c.prune_value.new.copied.from rest whole last comma.0 within.0 comma.1 behind;
    }

-- ---- members

pub prune_members-returns-then-stands-clause-copies : goal.prune_members-returns-then-stands-clause-copies
prune_members-returns-then-stands-clause-copies t c = λ ms rest e h.
    let brace = c.stands.ensures.yes c.if-stands.true in
    members_empty c.args.text.now (names_from c.args.path.now c.args.first) (names_from c.args.path.now c.args.second) c.args.start c.args.copied.now.out.items c.args.copied.now.from ms rest c.requires.order brace.0 brace.1 e h

pub prune_members-loop-at-init : goal.prune_members-loop-at-init
prune_members-loop-at-init t c = record {
  order = c.requires.order;
  start = omega arith;
  near = omega arith;
  within = c.requires.within;
  comma = λ k. absurd (cc k);
  left = λ ms rest e h. members_begin c.args.text.now (names_from c.args.path.now c.args.first) (names_from c.args.path.now c.args.second) c.args.start (written c.args.text.now c.args.copied.now.out.items c.args.copied.now.from c.args.start) rest ms c.requires.within (c.stands.ensures.no c.if-stands.false) e h;
}

pub prune_members-returns-then-colon-text-clause-copies : goal.prune_members-returns-then-colon-text-clause-copies
prune_members-returns-then-colon-text-clause-copies t c = λ ms rest e h.
    let text = c.args.text.now in
    let at = c.loop-at.at in
    let left = c.loop-at.invariant.left ms rest e h in
    let more : List ℕ = flat left.value ++ (flat_members true left.others ++ rest) in
    let name = name_ends text left.name (58 ∷ more) at c.string_len.result left.is left.string c.string_len.ensures.size in
    let within = colon_within text left.name more at (at + 1 + c.string_len.result) c.loop-at.invariant.within left.is name in
    absurd (omega (arith, within, c.if-colon-text.true))

pub prune_members-returns-then-not-stands-clause-copies : goal.prune_members-returns-then-not-stands-clause-copies
prune_members-returns-then-not-stands-clause-copies t c = λ ms rest e h.
    let text = c.args.text.now in
    let path = c.args.path.now in
    let p = names_from path c.args.first in
    let q = names_from path c.args.second in
    let at = c.loop-at.at in
    let colon = at + 1 + c.string_len.result in
    let now = c.match-into_member.copied in
    let end = c.match-into_member.end in
    let bounds : (now.from ≤ end) × (c.args.start ≤ end) × (end ≤ length text) =
    elim c.match-into_member.branch [
      | prune_members-in-Some+in_ok-cut_comma-in-Some+in_ok-end-in-Some w ↦
          let within = w.in_ok-end-in-Some.ensures.within in
          (omega (arith, ap (λ (x : Copied). x.from) w.copied-is, w.end-is, within.0), omega (arith, w.end-is, within.1, c.loop-at.invariant.start, c.loop-at.invariant.near), omega (arith, w.end-is, within.2))
      | prune_members-in-None+in_ok-cut-in-None w ↦ (
        omega (arith, ap (λ (x : Copied). x.from) w.copied-is, w.in_ok-cut-in-None.ensures.0, w.end-is),
        omega (arith, w.end-is, c.loop-at.invariant.start, c.loop-at.invariant.near),
        value_within text (colon + 1) w.value_len.result end (omega (arith, string_within text (at + 1) c.string_len.result (omega (arith, c.loop-at-test.true)) c.string_len.ensures.within, c.if-colon-text.false)) w.value_len.ensures.within w.end-is,
      )
    ] in
    let whole : List ℕ = written text c.args.copied.now.out.items c.args.copied.now.from c.args.start ++ flat_members false (members_left p q ms) in
    let last : ℕ = c.args.start + length (flat_members false ms) in
    let out : List ℕ = written text c.loop-at.copied.out.items c.loop-at.copied.from c.loop-at.end in
    let left = c.loop-at.invariant.left ms rest e h in
    let more : List ℕ = flat left.value ++ (flat_members true left.others ++ rest) in
    let name = name_ends text left.name (58 ∷ more) at c.string_len.result left.is left.string c.string_len.ensures.size in
    let same = name_is text left.name (58 ∷ more) at colon left.is name in
    let inner = inner_of left.name left.string in
    let value = behind_colon text left.name more at colon left.is name in
    let behind : MembersBehind text p q end c.match-into_member.kept (written text now.out.items now.from end) rest whole last =
    elim c.match-into_member.branch [
      | prune_members-in-Some+in_ok-cut_comma-in-Some+in_ok-end-in-Some w ↦
          let next = w.in-Some.next in
          let some = w.in-Some.ensures.names inner.0 (same ∙ inner.1) ∙ ap (λ n. if_both (into_member p n) (into_member q n)) same in
          let copies = w.in_ok-end-in-Some.ensures.copies left.value (flat_members true left.others ++ rest) value left.has (members_end left.others rest) in
          member_kept text p q (names_from path next.0) (names_from path next.1) at colon w.in_ok-end-in-Some.end end c.loop-at.kept c.match-into_member.kept out rest whole last w.cut_comma.new.self w.prune_value.new.copied now left name w.in_ok-cut_comma-in-Some.ensures.within w.in_ok-cut_comma-in-Some.ensures.comma some copies w.copied-is w.end-is w.kept-is
      | prune_members-in-None+in_ok-cut-in-None w ↦
          let none = w.in-None.ensures.names inner.0 (same ∙ inner.1) ∙ ap (λ n. if_both (into_member p n) (into_member q n)) same in
          member_dropped text p q at colon (colon + 1 + w.value_len.result) end c.loop-at.kept c.match-into_member.kept out rest whole last w.value_len.result w.cut.new.self now left name w.value_len.ensures.size refl none w.in_ok-cut-in-None.ensures w.copied-is w.end-is w.kept-is
    ] in
    members_done text p q end c.match-into_member.kept now.out.items now.from rest whole last bounds.2 bounds.0 (c.stands-in-loop-at.ensures.no c.if-not-stands.true) behind c.min.result c.min.ensures

pub prune_members-loop-at-preserved : goal.prune_members-loop-at-preserved
prune_members-loop-at-preserved t c =
    let text = c.args.text.now in
    let path = c.args.path.now in
    let p = names_from path c.args.first in
    let q = names_from path c.args.second in
    let at = c.loop-at.at in
    let colon = at + 1 + c.string_len.result in
    let now = c.match-into_member.copied in
    let end = c.match-into_member.end in
    let bounds : (now.from ≤ end) × (c.args.start ≤ end) × (end ≤ length text) =
    elim c.match-into_member.branch [
      | prune_members-in-Some+in_ok-cut_comma-in-Some+in_ok-end-in-Some w ↦
          let within = w.in_ok-end-in-Some.ensures.within in
          (omega (arith, ap (λ (x : Copied). x.from) w.copied-is, w.end-is, within.0), omega (arith, w.end-is, within.1, c.loop-at.invariant.start, c.loop-at.invariant.near), omega (arith, w.end-is, within.2))
      | prune_members-in-None+in_ok-cut-in-None w ↦ (
        omega (arith, ap (λ (x : Copied). x.from) w.copied-is, w.in_ok-cut-in-None.ensures.0, w.end-is),
        omega (arith, w.end-is, c.loop-at.invariant.start, c.loop-at.invariant.near),
        value_within text (colon + 1) w.value_len.result end (omega (arith, string_within text (at + 1) c.string_len.result (omega (arith, c.loop-at-test.true)) c.string_len.ensures.within, c.if-colon-text.false)) w.value_len.ensures.within w.end-is,
      )
    ] in
    let comma = c.stands-in-loop-at.ensures.yes c.if-not-stands.false in
    record {
      order = bounds.0;
      start = bounds.1;
      near = omega arith;
      within = omega (arith, comma.0);
      comma = λ k. (refl, comma.1);
      left = λ ms rest e h.
          let whole : List ℕ = written text c.args.copied.now.out.items c.args.copied.now.from c.args.start ++ flat_members false (members_left p q ms) in
          let last : ℕ = c.args.start + length (flat_members false ms) in
          let out : List ℕ = written text c.loop-at.copied.out.items c.loop-at.copied.from c.loop-at.end in
          let left = c.loop-at.invariant.left ms rest e h in
          let more : List ℕ = flat left.value ++ (flat_members true left.others ++ rest) in
          let name = name_ends text left.name (58 ∷ more) at c.string_len.result left.is left.string c.string_len.ensures.size in
          let same = name_is text left.name (58 ∷ more) at colon left.is name in
          let inner = inner_of left.name left.string in
          let value = behind_colon text left.name more at colon left.is name in
          let behind : MembersBehind text p q end c.match-into_member.kept (written text now.out.items now.from end) rest whole last =
          elim c.match-into_member.branch [
            | prune_members-in-Some+in_ok-cut_comma-in-Some+in_ok-end-in-Some w ↦
                let next = w.in-Some.next in
                let some = w.in-Some.ensures.names inner.0 (same ∙ inner.1) ∙ ap (λ n. if_both (into_member p n) (into_member q n)) same in
                let copies = w.in_ok-end-in-Some.ensures.copies left.value (flat_members true left.others ++ rest) value left.has (members_end left.others rest) in
                member_kept text p q (names_from path next.0) (names_from path next.1) at colon w.in_ok-end-in-Some.end end c.loop-at.kept c.match-into_member.kept out rest whole last w.cut_comma.new.self w.prune_value.new.copied now left name w.in_ok-cut_comma-in-Some.ensures.within w.in_ok-cut_comma-in-Some.ensures.comma some copies w.copied-is w.end-is w.kept-is
            | prune_members-in-None+in_ok-cut-in-None w ↦
                let none = w.in-None.ensures.names inner.0 (same ∙ inner.1) ∙ ap (λ n. if_both (into_member p n) (into_member q n)) same in
                member_dropped text p q at colon (colon + 1 + w.value_len.result) end c.loop-at.kept c.match-into_member.kept out rest whole last w.value_len.result w.cut.new.self now left name w.value_len.ensures.size refl none w.in_ok-cut-in-None.ensures w.copied-is w.end-is w.kept-is
          ] in
          members_next text p q end c.match-into_member.kept (written text now.out.items now.from end) rest whole last comma.0 comma.1 behind;
    }
