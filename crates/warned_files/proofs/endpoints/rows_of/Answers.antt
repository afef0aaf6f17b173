use Rattle.std.proofs.Common.{Bor, List, ℕ, ◌∙◌, sym, refl, inl, inr, map, Some, ◌∷◌, []}
use Rattle.std.proofs.lemmas.List.{map-append}
use Rattle.csv.specs.Reading.{Reached, default_config, strip_bom}
use Rattle.csv.specs.Records.{fields_of}
use Rattle.csv.specs.declared.parser.State.TheVariants as st
use Rattle.csv.proofs.ReadFacts.{rows-end, rows-more}
use Rattle.warned_files.proofs.endpoints.rows_of.Goals as goal

pub loop-row-init : goal.loop-row-init
unfolding Reached
loop-row-init c =
    let fr = c.from_reader-rdr.ensures in
    let n = c.new.ensures in
    let start = c.into_iter-row-iterator.ensures.into_iter_gives in
    let rdr = c.into_byte_records-row-items.ensures.rdr in
    let left = c.into_byte_records-row-items.ensures.left in
    rw (start, rdr, c.new-rows.ensures.items) (record {
      plain = rw (c.flexible.ensures, c.has_headers.ensures) at fr.trim ∙ n.trim;
      flexible = rw c.flexible.ensures at fr.flexible;
      ready = inr (inr (rw (c.flexible.ensures, c.has_headers.ensures) at fr.has_headers, fr.headers));
      turns = left;
      config = rw (c.flexible.ensures, c.has_headers.ensures) at fr.config ∙ n.config;
      left = (strip_bom c.args.bytes.now, fr.source, (sym fr.state, refl));
    })

pub loop-row-preserved : goal.loop-row-preserved
loop-row-preserved c =
    let inv = c.loop-row.invariant in
    let all = c.next.ensures.steps inv.turns inv.plain in
    let s = rw (c.in-Some.is, c.in-Ok.is) at (all.0 inv.ready) in
    let keeps = rw (c.in-Some.is, c.in-Ok.is) at all.3 in
    let m = rows-more (λ (s : Bor (List ℕ)). Some s.now) c.loop-row.row-iterator.rdr c.next.new.self.rdr (fields_of c.in-Ok.row) default_config st.StartRecord (strip_bom c.args.bytes.now) inv.left.0 (map fields_of c.loop-row.rows.items) inv.config inv.left.1 inv.left.2 s.0 in
    record {
      plain = s.0.3 ∙ inv.plain;
      flexible = keeps ∙ inv.flexible;
      ready = inl s.1;
      turns = s.2;
      config = s.0.2 ∙ inv.config;
      left = (m.0, m.1, rw (c.in_ok-push-in-Ok.ensures.items, map-append fields_of c.loop-row.rows.items (c.in-Ok.row ∷ [])) m.2);
    }

pub returns : goal.returns
returns c =
    let inv = c.loop-row.invariant in
    let s = rw c.in-None.is at ((c.next.ensures.steps inv.turns inv.plain).0 inv.ready) in
    let end = rows-end (λ (s : Bor (List ℕ)). Some s.now) c.loop-row.row-iterator.rdr c.next.new.self.rdr [] default_config inv.left.0 inv.config inv.left.1 s in
    (c.loop-row.row-iterator.rdr.state, inv.left.0, inv.left.2, end)
