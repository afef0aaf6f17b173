use Rattle.std.proofs.Common.{◌≡◌, List, [], ◌∷◌, ◌++◌, ◌+◌, arith, None, length, sym, ap, subst, ◌∙◌}
use Rattle.std.proofs.lemmas.List.{append-nil}
use Rattle.apiservice_rows.specs.Row.{Row}
use Rattle.apiservice_table.specs.Changes.{after, changed, left_by, refusal, placed, Story, Took}
use Rattle.apiservice_table.specs.Table.{Table}
use Rattle.apiservice_table.specs.declared.change.Change.{Change}
use Rattle.apiservice_table.proofs.StoryLemmas.{after_push, placed_push}
use Rattle.apiservice_table.proofs.table_routes.TableRoutesRoutes.change.Goals as goal

pub invariant_of-self-2 : goal.invariant_of-self-2
invariant_of-self-2 c =
    let opening = c.self.inside.opening.items in
    let seen = c.self.inside.seen.items in
    let done = c.in_ok-left.ensures.done in
    ap (λ (t : Table). t.rows) done
    ∙ ap (λ (rows : List Row). changed rows c.args.change) c.self.invariant
    ∙ sym (after_push opening seen c.args.change)
    ∙ ap (after opening) (sym c.in_ok-left.ensures.noted)

pub returns-clause-left : goal.returns-clause-left
returns-clause-left c =
    let opening = c.self.inside.opening.items in
    let seen = c.self.inside.seen.items in
    c.in_ok-left.ensures.left
    ∙ ap (λ (rows : List Row). left_by c.args.change (changed rows c.args.change)) c.self.invariant
    ∙ ap (left_by c.args.change)
    (sym (after_push opening seen c.args.change) ∙ ap (after opening) (sym c.in_ok-left.ensures.noted))

-- a change that was taken behind the others
took : (s : Story) (change : Change) (new : List Change) → new ≡ s.seen ++ change ∷ []
    → refusal (after s.opening s.seen) change ≡ None → Took s.opening s.seen (placed 0 s.seen) change new (placed 0 new)
took s change new noted due =
    let n : 0 + length s.seen ≡ length s.seen = omega arith in (
      s.seen,
      ([], sym (append-nil s.seen)),
      noted,
      due,
      ap (placed 0) noted ∙ placed_push 0 s.seen change
          ∙ ap (λ y. placed 0 s.seen ++ (y, change) ∷ []) n,
    )

pub returns-clause-took : goal.returns-clause-took
returns-clause-took c =
    let opening = c.self.inside.opening.items in
    let seen = c.self.inside.seen.items in
    let due : refusal (after opening seen) c.args.change ≡ None =
    ap (λ (rows : List Row). refusal rows c.args.change) (sym c.self.invariant) ∙ c.in_ok-left.ensures.due in
    subst (λ (s : Story). Took s.opening s.seen (placed 0 s.seen) c.args.change c.keep_change.new.seen.items (placed 0 c.keep_change.new.seen.items))
    c.self.view_is
    (took (record { opening = opening; seen = seen }) c.args.change c.keep_change.new.seen.items
    c.in_ok-left.ensures.noted due)
