use Rattle.std.proofs.Common.{arith, ◌≡◌, ap, map, string_bytes, ℕ, ◌≤◌, length, List, [], ◌∷◌, slice_index_or, String, Global, ◌∙◌}
use Rattle.command_options.specs.Asked.{asked, command_of}
use Rattle.command_options.proofs.asked.Asked.of.Goals as goal

many : (word : String Global) (words : List (String Global)) → 3 ≤ length words → word ≡ slice_index_or words 0 word
    → command_of (string_bytes word) ≡ asked (map string_bytes words)
many word [] h e = grind (arith, h)
many word (a ∷ []) h e = grind (arith, h)
many word (a ∷ b ∷ []) h e = grind (arith, h)
many word (a ∷ b ∷ c ∷ words) h e = ap (λ own. command_of (string_bytes own)) e

pub returns-in-len3-up : goal.returns-in-len3-up
returns-in-len3-up c =
    c.command_of.ensures ∙ ap command_of c.as_str-in-len3-up.ensures.value
    ∙ many c.word-item-2.result c.args.words.now c.in-len3-up.len_at_least c.word-item-2.is
