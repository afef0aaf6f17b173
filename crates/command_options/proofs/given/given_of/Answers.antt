use Rattle.std.proofs.Common.{◌∙◌, ap, map, string_bytes, sym}
use Rattle.clap.specs.Words.{found_of, rows_of}
use Rattle.json_value.specs.Results.{fault_of}
use Rattle.command_options.proofs.ClapLemmas.{doubts, gives, keeps, refuses, texts}
use Rattle.command_options.proofs.given.given_of.Goals as goal

pub returns-then-has_doubtful : goal.returns-then-has_doubtful
returns-then-has_doubtful c =
    ap fault_of (doubts (map (λ own. own.now) c.args.names.now) (map string_bytes c.args.words.now) c.requires.named (sym c.has_doubtful.ensures ∙ c.if-has_doubtful.true))

pub invariant_of-result : goal.invariant_of-result
invariant_of-result c =
    keeps (map (λ own. own.now) c.args.names.now) (map string_bytes c.args.words.now) (sym c.has_doubtful.ensures ∙ c.if-has_doubtful.false) (texts c.args.words.now)
    (rows_of (found_of c.in-Some.matches)) (rw c.in-Some.is at c.in_ok-matches.ensures.taken) (rw c.in-Some.is at c.in_ok-matches.ensures.rows)

pub returns-in-Some : goal.returns-in-Some
returns-in-Some c =
    gives (map (λ own. own.now) c.args.names.now) (map string_bytes c.args.words.now) (sym c.has_doubtful.ensures ∙ c.if-has_doubtful.false) (texts c.args.words.now)
    (rows_of (found_of c.in-Some.matches)) (rw c.in-Some.is at c.in_ok-matches.ensures.taken) (rw c.in-Some.is at c.in_ok-matches.ensures.rows)

pub returns-in-None : goal.returns-in-None
returns-in-None c =
    ap fault_of (refuses (map (λ own. own.now) c.args.names.now) (map string_bytes c.args.words.now) (sym c.has_doubtful.ensures ∙ c.if-has_doubtful.false) (texts c.args.words.now)
    (c.in_ok-matches.ensures.refused c.in-None.is))
