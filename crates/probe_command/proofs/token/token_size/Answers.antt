use Rattle.std.proofs.Common.{◌≡◌, ◌+◌, ◌∷◌, ◌∙◌, drop, refl, sym, ap, arith, zero-add}
use Rattle.std.proofs.lemmas.List.{drop_all, drop_more}
use Rattle.probe_command.specs.Token.{token_size}
use Rattle.probe_command.proofs.TokenLemmas.{ends_at, ends_past, one_more}
use Rattle.probe_command.proofs.token.token_size.Goals as goal

pub loop-byte-init : goal.loop-byte-init
loop-byte-init c = record { size = sym (zero-add (token_size c.args.bytes.now)); at = refl; within = omega arith }

pub loop-byte-preserved : goal.loop-byte-preserved
loop-byte-preserved c =
    let all = c.args.bytes.now in
    let at = c.loop-byte.byte-index in
    record {
      size = one_more all at _ (drop_more all at _ c.loop-byte-test.true) (sym c.is_token_byte.ensures ∙ c.if-not-is_token_byte.false)
          c.loop-byte.invariant.size;
      at = omega (arith, c.loop-byte.invariant.at);
      within = omega (arith, c.loop-byte-test.true);
    }

pub returns-then-not-is_token_byte-clause-size : goal.returns-then-not-is_token_byte-clause-size
returns-then-not-is_token_byte-clause-size c =
    let all = c.args.bytes.now in
    let at = c.loop-byte.byte-index in
    c.loop-byte.invariant.at
    ∙ ends_at all at _ (drop_more all at _ c.loop-byte-test.true) (sym c.is_token_byte.ensures ∙ c.if-not-is_token_byte.true)
    c.loop-byte.invariant.size

pub returns-clause-size : goal.returns-clause-size
returns-clause-size c =
    let all = c.args.bytes.now in
    ends_past all c.loop-byte.byte-index _ (drop_all c.loop-byte.byte-index all (omega (arith, c.loop-byte-test.false)))
    (sym c.loop-byte.invariant.at) c.loop-byte.invariant.size
