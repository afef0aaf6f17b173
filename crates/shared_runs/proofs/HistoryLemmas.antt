-- What is the beginning of a list is the beginning of what that is the beginning of.
use Rattle.std.proofs.Common.{◌++◌, List, All, ap, sym, ◌∙◌, append_assoc}
use Rattle.std.proofs.lemmas.List.Elements.{All-weaker}
use mathlib.Core.List.{IsPrefix}
use Rattle.apiservice_rows.specs.Row.{Row}
use Rattle.logbook.specs.Pages.{Book}
use Rattle.route_history.specs.declared.entry.Entry.{Entry}
use Rattle.shared_runs.specs.Histories.{SawOne}
use Rattle.serve_roles.specs.declared.bay_end.BayEnd.{BayEnd}
use Rattle.shared_routes.specs.Shared.{Shared}

pub prefix_trans : (xs ys zs : List Entry) → IsPrefix xs ys → IsPrefix ys zs → IsPrefix xs zs
prefix_trans xs ys zs p q = (p.0 ++ q.0, sym (append_assoc xs p.0 q.0) ∙ (ap (λ w. w ++ q.0) p.1 ∙ q.1))

module _ {L K Y D : Type 0} (home : Book) (opening : List Row) where
  pub saw_more : (xs ys : List Entry) → IsPrefix xs ys → (end : BayEnd Shared L K Y D) → SawOne home opening xs end → SawOne home opening ys end
  saw_more xs ys h end s = record {
    home_is = s.home_is;
    opening_is = s.opening_is;
    seen = prefix_trans end.routes.entries xs ys s.seen h;
  }

  pub all_saw_more : (xs ys : List Entry) → IsPrefix xs ys → (ends : List (BayEnd Shared L K Y D)) → All (SawOne home opening xs) ends
      → All (SawOne home opening ys) ends
  all_saw_more xs ys h ends all = All-weaker (SawOne home opening xs) (SawOne home opening ys) (saw_more xs ys h) ends all
