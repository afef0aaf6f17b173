use Rattle.std.proofs.Common.{[], ◌∷◌, ◌++◌, ◌∙◌, ap, sym, map, codes}
use Rattle.front_base.specs.AuditId.{audit_id_text}
use Rattle.http_head.specs.Written.{named, header_lines}
use Rattle.forward_link.specs.Forwarded.{length_header}
use Rattle.forward_link.proofs.LineLemmas.{own_lines}
use Rattle.forward_link.proofs.forwarded.push_own.Goals as goal

pub returns : goal.returns
returns c =
    let user = codes "X-Remote-User" in
    let group = codes "X-Remote-Group" in
    let audit = codes "Audit-ID" in
    own_lines c.args.out.now.items c.push_header.new.out.items c.push_groups.new.out.items c.push_header-2.new.out.items c.push_length.new.out.items c.push_header-3.new.out.items
    (named user c.args.user.now.name) (named audit (audit_id_text c.args.id)) (named (codes "Connection") (codes "close"))
    (map (named group) c.args.user.now.groups) (length_header c.args.length)
    (c.in_ok-push_header.ensures ∙ ap (λ v. c.args.out.now.items ++ header_lines (named user v ∷ [])) (c.as_bytes.ensures.value ∙ c.as_str.ensures))
    (c.in_ok-push_groups.ensures ∙ ap (λ gs. c.push_header.new.out.items ++ header_lines (map (named group) gs)) c.as_slice.ensures)
    (c.in_ok-push_header-2.ensures ∙ ap (λ v. c.push_groups.new.out.items ++ header_lines (named audit v ∷ [])) (c.as_bytes-2.ensures.value ∙ c.as_str-2.ensures ∙ c.in_ok-id.ensures))
    c.in_ok-push_length.ensures
    c.in_ok-push_header-3.ensures
