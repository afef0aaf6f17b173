use Rattle.std.proofs.Common.{◌≡◌, None, true≢false, sym, ◌∙◌}
use Rattle.serde_json.specs.Read.{read}
use Rattle.json_value.proofs.ReadLemmas.{not_text, text_is}
use Rattle.json_value.proofs.SizeLemmas.{few_inside}
use Rattle.json_value.proofs.read.read_value.Goals as goal

pub returns-in_default-clause-value : goal.returns-in_default-clause-value
returns-in_default-clause-value c = not_text c.args.bytes.now c.in_default.ensures.cases.0

pub returns-in-Ok-from_str : goal.returns-in-Ok-from_str
returns-in-Ok-from_str c =
    let h = c.in-Ok.ensures.cases in
    let is = text_is c.args.bytes.now h.1 ∙ (rw h.0 at c.in-Ok-from_str.ensures.ok) in
    record { value = is; few = few_inside c.args.bytes.now _ is }

pub returns-else-is_memory-clause-value : goal.returns-else-is_memory-clause-value
returns-else-is_memory-clause-value c =
    let h = c.in-Ok.ensures.cases in
    let none : read c.in-Ok.text.now ≡ None = c.in-Err.ensures.err (λ memory. true≢false (sym (c.is_memory.ensures.1 memory) ∙ c.if-is_memory.false)) in
    text_is c.args.bytes.now h.1 ∙ (rw h.0 at none)
