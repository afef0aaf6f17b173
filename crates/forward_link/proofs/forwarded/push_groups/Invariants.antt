use Rattle.std.proofs.Common.{◌≡◌, ◌++◌, take, map, codes}
use Rattle.http_head.specs.Written.{named, header_lines}
use Rattle.forward_link.proofs.forwarded.push_groups.Given as goal

abbrev pub invariant-loop-group : goal.invariant-loop-group
invariant-loop-group l =
    l.out.items ≡ l.fn.out.items ++ header_lines (map (named (codes "X-Remote-Group")) (take l.group-index l.groups))
