use Rattle.std.proofs.Common.{◌≡◌, ◌+◌, ◌-◌, ◌++◌, ◌∷◌, [], List, ℕ, length, take, drop, ap, sym, subst, ◌∙◌, arith, length-drop}
use Rattle.std.proofs.lemmas.List.{take_all}
use Rattle.group_resources.specs.Reading.{Stands}
use Rattle.group_resources.specs.Lines.{AreLines, document, has_version}
use Rattle.group_resources.specs.declared.line.MergedLine.{MergedLine}
use Rattle.group_resources.proofs.DocumentLemmas.{lines_more}
use Rattle.group_resources.proofs.ReadingLemmas.{split_more}
use Rattle.group_resources.proofs.merged.read_merged.Goals as goal

pub reading-preserved : goal.reading-preserved
reading-preserved c =
    let i = c.reading.invariant in
    let lines = c.reading.lines.items in
    let line = c.in-Ok.line in
    let more : c.push.new.self.items ≡ lines ++ line ∷ [] = c.in-Ok-push.ensures.items in
    let slice : take (length c.args.bytes.now - c.reading.at) (drop c.reading.at c.args.bytes.now) ≡ drop c.reading.at c.args.bytes.now =
    take_all (length c.args.bytes.now - c.reading.at) (drop c.reading.at c.args.bytes.now) (omega (arith, length-drop c.reading.at c.args.bytes.now)) in
    let stands = subst (λ (b : List ℕ). Stands b line c.in-Ok.size) slice c.in-Ok.ensures.ok in
    let fits = stands.within in
    record {
      good = subst AreLines (sym more)
          (lines_more lines line i.good stands.is (ap (has_version line.group_version) (sym c.as_slice.ensures.value) ∙ c.in-Ok.ensures.fresh));
      split = split_more c.args.bytes.now lines line c.reading.at c.in-Ok.size i.split stands
          ∙ ap (λ (l : List MergedLine). document l ++ drop (c.reading.at + c.in-Ok.size) c.args.bytes.now) (sym more);
      within = omega (arith, fits, i.within, length-drop c.reading.at c.args.bytes.now);
    }
