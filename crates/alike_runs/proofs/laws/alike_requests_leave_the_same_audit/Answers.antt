use Rattle.alike_runs.proofs.laws.alike_requests_leave_the_same_audit.Goals as goal

pub returns-clause-batch : goal.returns-clause-batch
returns-clause-batch g c sink set options one other runs mode opened alike cut =
    c.same_audit.ensures sink set options one other runs mode opened
    (c.alike_requests_make_alike_bays.ensures set options one other runs alike) cut

pub returns-clause-at_once : goal.returns-clause-at_once
returns-clause-at_once g c sink set options one other runs mode opened alike cut =
    c.same_audit_at_once.ensures sink set options one other runs mode opened
    (c.alike_requests_make_alike_bays.ensures set options one other runs alike) cut
