use Rattle.std.proofs.Common.{◌≡◌, ◌≤◌, ◌+◌, ◌∙◌, sym, length, vec_len, arith}
use Rattle.std.proofs.lemmas.List.{drop_all}
use Rattle.front_ports.proofs.ReadLemmas.{gives_front, cut_to-≤, cut_to_none}
use Rattle.front_ports.proofs.mem_stream.MemStream.read.Goals as goal

pub returns-clause-bytes : goal.returns-clause-bytes
returns-clause-bytes c =
    let at = c.args.self.now.at in
    let items = c.args.self.now.input.items in
    let most = c.min-most.result in
    let n = c.next_size-n.result in
    let size : vec_len c.args.self.now.input ≡ length items = c.args.self.now.input.ok.0 in
    let bound : n ≤ most = rw c.next_size-n.ensures (cut_to-≤ _ most) in (
      gives_front items c.fill_front.new.buf _ at n (omega arith) (rw c.as_slice-2.ensures.value at c.fill_front.ensures),
      λ none room.
          let end : most ≡ 0 = cut_to_none _ most (sym c.next_size-n.ensures ∙ none) in
          drop_all (at + n) items (omega arith),
    )
