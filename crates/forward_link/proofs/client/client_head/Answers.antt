use Rattle.std.proofs.Common.{◌++◌, [], ◌∷◌, ◌∙◌, ap, codes, filter}
use Rattle.front_base.specs.AuditId.{audit_id_text}
use Rattle.http_head.specs.Written.{named}
use Rattle.forward_link.specs.Client as spec
use Rattle.forward_link.specs.Client.{keeps_length, frame_headers, close_header}
use Rattle.forward_link.proofs.LineLemmas.{client_list}
use Rattle.http_head.specs.declared.header.Header.{Header}
use Rattle.http_head.specs.declared.reply.ReplyHead.{ReplyHead}
use Rattle.forward_link.proofs.client.client_head.Goals as goal

pub returns : goal.returns
returns c =
    let head = c.args.head.now in
    let audit = codes "Audit-ID" in
    let all = client_list (filter (spec.returns head.headers (keeps_length head c.args.frame.now)) head.headers) c.push_named.new.headers.items c.push_frame.new.headers.items c.push_close.new.headers.items
    (named audit (audit_id_text c.args.id)) (frame_headers c.args.frame.now c.args.old_client) (close_header c.args.closing)
    (c.in_ok-push_named.ensures ∙ ap (λ v. c.in_ok-headers.headers.items ++ named audit v ∷ []) (c.as_bytes.ensures.value ∙ c.as_str.ensures ∙ c.in_ok-id.ensures)
    ∙ ap (λ hs. hs ++ named audit (audit_id_text c.args.id) ∷ []) (c.in_ok-headers.ensures ∙ ap (λ k. filter (spec.returns head.headers k) head.headers) c.keeps_length.ensures)) c.in_ok-push_frame.ensures c.in_ok-push_close.ensures in
    ap (λ hs. let h : ReplyHead = record { status = head.status; minor = 1; headers = hs } in h) (c.new.ensures ∙ all)
