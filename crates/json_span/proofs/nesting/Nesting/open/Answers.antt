use Rattle.std.proofs.Common.{length, nat_lt, ap, ◌∙◌, arith}
use Rattle.json_span.proofs.NestingLemmas.{opened_array, opened_object, double_fits, has_room}
use Rattle.json_span.proofs.nesting.Nesting.open.Goals as goal
use Rattle.json_span.proofs.nesting.Nesting.open.Goals.{in-Array, in-Object}

pub overflow_mul-self : goal.overflow_mul-self
overflow_mul-self c = omega (arith, double_fits c.self.inside.bits c.self.inside.count c.self.invariant.0 c.self.invariant.1 c.if-self-eq-MOST_DEPTH.false)

pub overflow_add-self : goal.overflow_add-self
overflow_add-self c = let room = double_fits c.self.inside.bits c.self.inside.count c.self.invariant.0 c.self.invariant.1 c.if-self-eq-MOST_DEPTH.false in elim c.match-kind.branch [
  | in-Array w ↦ omega (arith, room, w.bit-is)
  | in-Object w ↦ omega (arith, room, w.bit-is)
]

pub returns-clause-room : goal.returns-clause-room
returns-clause-room c = has_room c.self.inside.count c.self.inside.bits c.self.invariant.1 c.if-self-eq-MOST_DEPTH.false ∙ ap (λ kinds. nat_lt (length kinds) 128) c.self.view_is

pub returns-clause-opened : goal.returns-clause-opened
returns-clause-opened c = elim c.match-kind.branch [
  | in-Array w ↦ opened_array c.self.inside.count c.self.inside.bits c.match-kind.bit c.args.kind c.args.self.now w.bit-is w.in-Array.is c.self.view_is
  | in-Object w ↦ opened_object c.self.inside.count c.self.inside.bits c.match-kind.bit c.args.kind c.args.self.now w.bit-is w.in-Object.is c.self.view_is
]
