use Rattle.std.proofs.Common.{Err, refl}
use Rattle.std.proofs.lemmas.Result.{err_from_is_err_and}
use Rattle.front_ports.specs.declared.files.FileFail.TheVariants as fail
use Rattle.front_config.specs.Load.{is_memory, tokens_of, policy_of, table_of, endpoints_of, load_of}
use Rattle.front_config.proofs.FaultLemmas.{fails_first}
use Rattle.front_config.proofs.LoadLemmas.{fault_may_be_read, read_kept}
use Rattle.front_config.proofs.files.load.Goals as goal

pub returns-in_err-tokens-clause-loaded : goal.returns-in_err-tokens-clause-loaded
unfolding load_of
returns-in_err-tokens-clause-loaded g c =
    let p = err_from_is_err_and c.from_residual.result c.from_residual.ensures.1 in
    let tokens = c.in_err-tokens.ensures.loaded in
    let names = c.args.names.now in
    let fault = c.in_err-tokens.field-0.0 in (
      record { tokens = tokens.0; policy = Err fail.Fault; services = Err fail.Fault; endpoints = Err fail.Fault },
      record {
        tokens = tokens.1;
        policy = fault_may_be_read _ names.policy;
        services = fault_may_be_read _ names.services;
        endpoints = fault_may_be_read _ names.endpoints;
      },
      rw (p.1, p.2) (fails_first is_memory fault (tokens_of names.tokens tokens.0) _ tokens.2),
    )

pub returns-in_err-policy-clause-loaded : goal.returns-in_err-policy-clause-loaded
unfolding load_of
returns-in_err-policy-clause-loaded g c =
    let p = err_from_is_err_and c.from_residual-in_err-policy.result c.from_residual-in_err-policy.ensures.1 in
    let tokens = c.in_ok-tokens.ensures.loaded in
    let policy = c.in_err-policy.ensures.loaded in
    let names = c.args.names.now in
    let fault = c.in_err-policy.field-0.0 in (
      record { tokens = tokens.0; policy = policy.0; services = Err fail.Fault; endpoints = Err fail.Fault },
      record {
        tokens = tokens.1;
        policy = read_kept _ _ names.policy policy.0 c.in_ok-tokens.ensures.kept policy.1;
        services = fault_may_be_read _ names.services;
        endpoints = fault_may_be_read _ names.endpoints;
      },
      rw (p.1, p.2, tokens.2) (fails_first is_memory fault (policy_of names.policy policy.0) _ policy.2),
    )

pub returns-in_err-table-clause-loaded : goal.returns-in_err-table-clause-loaded
unfolding load_of
returns-in_err-table-clause-loaded g c =
    let p = err_from_is_err_and c.from_residual-in_err-table.result c.from_residual-in_err-table.ensures.1 in
    let tokens = c.in_ok-tokens.ensures.loaded in
    let policy = c.in_ok-policy.ensures.loaded in
    let table = c.in_err-table.ensures.loaded in
    let fault = c.in_err-table.field-0.0 in
    let names = c.args.names.now in (
      record { tokens = tokens.0; policy = policy.0; services = table.0; endpoints = Err fail.Fault },
      record {
        tokens = tokens.1;
        policy = read_kept _ _ names.policy policy.0 c.in_ok-tokens.ensures.kept policy.1;
        services =
            read_kept _ _ names.services table.0 c.in_ok-tokens.ensures.kept (read_kept _ _ names.services table.0 c.in_ok-policy.ensures.kept table.1);
        endpoints = fault_may_be_read _ names.endpoints;
      },
      rw (p.1, p.2, tokens.2, policy.2) (fails_first is_memory fault (table_of names.services table.0) _ table.2),
    )

pub returns-in_err-endpoints-clause-loaded : goal.returns-in_err-endpoints-clause-loaded
unfolding load_of
returns-in_err-endpoints-clause-loaded g c =
    let p = err_from_is_err_and c.from_residual-in_err-endpoints.result c.from_residual-in_err-endpoints.ensures.1 in
    let tokens = c.in_ok-tokens.ensures.loaded in
    let policy = c.in_ok-policy.ensures.loaded in
    let table = c.in_ok-table.ensures.loaded in
    let endpoints = c.in_err-endpoints.ensures.loaded in
    let fault = c.in_err-endpoints.field-0.0 in
    let names = c.args.names.now in (
      record { tokens = tokens.0; policy = policy.0; services = table.0; endpoints = endpoints.0 },
      record {
        tokens = tokens.1;
        policy = read_kept _ _ names.policy policy.0 c.in_ok-tokens.ensures.kept policy.1;
        services =
            read_kept _ _ names.services table.0 c.in_ok-tokens.ensures.kept (read_kept _ _ names.services table.0 c.in_ok-policy.ensures.kept table.1);
        endpoints =
            read_kept _ _ names.endpoints endpoints.0 c.in_ok-tokens.ensures.kept
            (read_kept _ _ names.endpoints endpoints.0 c.in_ok-policy.ensures.kept
            (read_kept _ _ names.endpoints endpoints.0 c.in_ok-table.ensures.kept endpoints.1));
      },
      rw (p.1, p.2, tokens.2, policy.2, table.2) (fails_first is_memory fault (endpoints_of names.endpoints endpoints.0) _ endpoints.2),
    )

pub returns-clause-loaded : goal.returns-clause-loaded
unfolding load_of
returns-clause-loaded g c =
    let tokens = c.in_ok-tokens.ensures.loaded in
    let policy = c.in_ok-policy.ensures.loaded in
    let table = c.in_ok-table.ensures.loaded in
    let endpoints = c.in_ok-endpoints.ensures.loaded in
    let names = c.args.names.now in (
      record { tokens = tokens.0; policy = policy.0; services = table.0; endpoints = endpoints.0 },
      record {
        tokens = tokens.1;
        policy = read_kept _ _ names.policy policy.0 c.in_ok-tokens.ensures.kept policy.1;
        services =
            read_kept _ _ names.services table.0 c.in_ok-tokens.ensures.kept (read_kept _ _ names.services table.0 c.in_ok-policy.ensures.kept table.1);
        endpoints =
            read_kept _ _ names.endpoints endpoints.0 c.in_ok-tokens.ensures.kept
            (read_kept _ _ names.endpoints endpoints.0 c.in_ok-policy.ensures.kept
            (read_kept _ _ names.endpoints endpoints.0 c.in_ok-table.ensures.kept endpoints.1));
      },
      rw (tokens.2, policy.2, table.2, endpoints.2) refl,
    )
