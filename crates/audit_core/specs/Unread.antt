-- Which requests ask for less than is read of them here. Who lists APIServices by a selector, and deletes each that came back, would
-- delete all of them if the selector were taken for none; and a dry run of a kind that isn't known might be taken for another one.
use Rattle.std.specs.Prelude.{ℕ, eqb, Bool, ◌&&◌, List, codes, bytes_eq, if◌then◌else◌}
use Rattle.std.specs.List.{starts_with}
use Rattle.front_base.specs.Ends.{trimmed}
use Rattle.request_info.specs.Selection.{asks_else, asks_selection}

-- the text is the path of the list of APIServices
abbrev pub is_list : List ℕ → Bool
is_list text = bytes_eq text (codes "apis/apiregistration.k8s.io/v1/apiservices")

-- it stands below it
abbrev pub is_below : List ℕ → Bool
is_below text = starts_with eqb text (codes "apis/apiregistration.k8s.io/v1/apiservices/")

-- a selector on APIServices, or a dry run of another kind than `All`: of the list, a selector of one name is read, and elsewhere none is
abbrev pub is_unread_at : List ℕ → List ℕ → Bool
is_unread_at text target =
    if is_list text then asks_else target else is_below text && asks_selection target

unfoldable pub is_unread : List ℕ → List ℕ → Bool
is_unread path target = is_unread_at (trimmed path) target
