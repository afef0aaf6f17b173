use Rattle.std.proofs.Common.{◌≡◌, ◌++◌, drop}
use Rattle.std.specs.List.{list_all}
use Rattle.token_users.specs.Act.{is_name, values}
use Rattle.token_users.proofs.impersonation.names.Given as goal

-- the values that were passed are names, and are kept
abbrev pub invariant-loop-header : goal.invariant-loop-header
invariant-loop-header l = record {
  all : list_all is_name (values l.name (drop l.header-index l.headers)) ≡ list_all is_name (values l.name l.headers);
  kept : l.names.items ++ values l.name (drop l.header-index l.headers) ≡ values l.name l.headers;
}
