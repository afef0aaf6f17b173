-- A text is written piece after piece.
use Rattle.std.proofs.Common.{ℕ, ◌+◌, List, take, drop, Option, sym, subst}
use Rattle.std.proofs.KnownBytes.{Appends-trans}
use Rattle.std.proofs.Math.Seq.{take-add}
use Rattle.std.specs.Io.KnownBytes.{Appends}

-- the next n bytes of the text follow those that were written
pub appends_more : (a b c : Option (List ℕ)) (at n : ℕ) (text : List ℕ) → Appends a b (take at text) → Appends b c (take n (drop at text)) → Appends a c (take (at + n) text)
appends_more a b c at n text first next = subst (Appends a c) (sym (take-add at n text)) (Appends-trans a b c _ _ first next)
