use Rattle.std.proofs.Common.{◌<◌, ◌≤◌, ◌+◌, ◌*◌, ◌^◌, arith}
use Rattle.std.proofs.lemmas.Bool.Decides.{nat_tests}
use Rattle.body_frames.proofs.MachineLemmas.{size_more, size_fits}
use Rattle.body_frames.proofs.place.after_size.Goals as goal

pub overflow_mul-result : goal.overflow_mul-result
overflow_mul-result c =
    let small : c.args.size < 16 ^ c.args.line = grind (arith, nat_tests, c.requires) in
    let more : c.args.size * 16 + 0 < 16 ^ (c.args.line + 1) =
    size_more c.args.line c.args.size 0 small (omega arith) in
    let fits : 16 ^ (c.args.line + 1) ≤ 2 ^ 64 = size_fits (c.args.line + 1) (omega arith) in
    omega arith

pub overflow_add-result-then-line-lt16 : goal.overflow_add-result-then-line-lt16
overflow_add-result-then-line-lt16 c =
    let small : c.args.size < 16 ^ c.args.line = grind (arith, nat_tests, c.requires) in
    let more : c.args.size * 16 + c.digit_value-digit.result < 16 ^ (c.args.line + 1) =
    size_more c.args.line c.args.size c.digit_value-digit.result small (omega arith) in
    let fits : 16 ^ (c.args.line + 1) ≤ 2 ^ 64 = size_fits (c.args.line + 1) (omega arith) in
    omega arith
