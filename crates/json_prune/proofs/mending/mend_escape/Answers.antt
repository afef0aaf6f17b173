use Rattle.std.proofs.Common.{◌≡◌, ◌+◌, ◌-◌, List, ℕ, codes, ap, ◌∙◌, arith}
use borrow.Rule.Slice.PartMut.{put_mid}
use Rattle.json_prune.proofs.MendLemmas.{pair_stays, half_written, other_stays}
use Rattle.json_prune.proofs.mending.mend_escape.Goals as goal

pub returns-then-is_pair-clause-further : goal.returns-then-is_pair-clause-further
returns-then-is_pair-clause-further c =
    let pair = pair_stays c.args.text.now c.args.at c.is_pair.result c.requires.within c.requires.backslash c.is_pair.ensures.tests c.if-is_pair.true in (omega arith, pair.0)

pub returns-then-is_pair-clause-mended : goal.returns-then-is_pair-clause-mended
returns-then-is_pair-clause-mended c =
    (pair_stays c.args.text.now c.args.at c.is_pair.result c.requires.within c.requires.backslash c.is_pair.ensures.tests c.if-is_pair.true).1

pub returns-then-is_half-clause-mended : goal.returns-then-is_half-clause-mended
returns-then-is_half-clause-mended c =
    let at = c.args.at in
    let text = c.args.text.now in
    let size : at + 6 - (at + 2) ≡ 4 = omega arith in
    let new : List ℕ = put_mid (at + 2) (at + 6 - (at + 2)) text c.copy_from_slice.new.self in
    let wrote : new ≡ put_mid (at + 2) 4 text (codes "fffd") = ap (λ k. put_mid (at + 2) k text c.copy_from_slice.new.self) size ∙ ap (put_mid (at + 2) 4 text) c.copy_from_slice.ensures.after in
    (half_written text new at c.is_pair.result c.is_half.result c.requires.within c.requires.backslash c.is_pair.ensures.tests c.if-is_pair.false c.is_half.ensures.tests c.if-is_half.true wrote).1

pub returns-then-is_half-clause-rest : goal.returns-then-is_half-clause-rest
returns-then-is_half-clause-rest c =
    let at = c.args.at in
    let text = c.args.text.now in
    let size : at + 6 - (at + 2) ≡ 4 = omega arith in
    let new : List ℕ = put_mid (at + 2) (at + 6 - (at + 2)) text c.copy_from_slice.new.self in
    let wrote : new ≡ put_mid (at + 2) 4 text (codes "fffd") = ap (λ k. put_mid (at + 2) k text c.copy_from_slice.new.self) size ∙ ap (put_mid (at + 2) 4 text) c.copy_from_slice.ensures.after in
    (half_written text new at c.is_pair.result c.is_half.result c.requires.within c.requires.backslash c.is_pair.ensures.tests c.if-is_pair.false c.is_half.ensures.tests c.if-is_half.true wrote).2

pub returns-clause-mended : goal.returns-clause-mended
returns-clause-mended c =
    other_stays c.args.text.now c.args.at c.min.result c.is_pair.result c.is_half.result c.requires.within c.requires.backslash c.is_pair.ensures.tests c.if-is_pair.false c.is_half.ensures.tests c.if-is_half.false c.min.ensures
