-- What the router answers is what the table says.
use Rattle.std.proofs.Common.{◌≡◌, ℕ, Bool, true, false, cond, ◌&&◌, eq-eqb, List, [], ◌∷◌, ◌++◌, Option, Some, None, codes, nat_eq, refl, ap, sym, subst, ◌∙◌, ⊎_elim}
use Rattle.std.proofs.lemmas.Bool.{cond-true, cond-false, cases_Bool}
use Rattle.std.specs.Prelude.{option_map, unwrap_or, bytes_eq}
use Rattle.matchit.specs.Rows.{RowsOf}
use Rattle.matchit.specs.Router.{RouteOf, rename, map_key}
use Rattle.matchit.specs.Seek as seek
use Rattle.matchit.proofs.RenameLemmas.{first-rename}
use Rattle.local_replies.specs.Kind.{found_at, local_at}
use Rattle.local_replies.specs.Paths.{behind, has_slash, one_part, any_text, exactly, with_part, with_rest, or_else, first_of, table}
use Rattle.local_replies.specs.Router.{IsLocalRouter}
use Rattle.local_replies.specs.declared.kind.Kind.{Kind}
use Rattle.local_replies.specs.declared.kind.Kind.TheVariants as kind
use Rattle.local_replies.specs.declared.local.Local.{Local}
use Rattle.local_replies.specs.declared.local.Local.TheVariants.{Health, GroupList, OneGroup, ResourceList, AllServices, OneService, Unserved}
use Rattle.local_replies.proofs.BehindLemmas.{same_or_apart, apart_test, behind_same, behind_apart, behind_nothing, behind_all}
use Rattle.local_replies.proofs.RouteLemmas.{services_path, below_version, version_path, below_apis, apis_path, local_path, local_rows, local_is}
use Rattle.local_replies.proofs.SeekLemmas.{on_rest, at_end, at_part, at_more}

-- what stands behind a further front
abbrev lower : Option (List ℕ) → List ℕ → Option (List ℕ)
lower rest front = on_rest rest (behind front) None

behind_both : (front more text : List ℕ) → behind (front ++ more) text ≡ lower (behind front text) more
behind_both [] more text = ap (λ o. lower o more) (sym (behind_all text))
behind_both (x ∷ front) more [] = behind_nothing x (front ++ more) ∙ ap (λ o. lower o more) (sym (behind_nothing x front))
behind_both (x ∷ front) more (b ∷ text) =
    ⊎_elim
    (λ (e : x ≡ b). behind_same x b (front ++ more) text e ∙ behind_both front more text
    ∙ ap (λ o. lower o more) (sym (behind_same x b front text e)))
    (λ (apart : x ≡ b → ⊥). behind_apart x b (front ++ more) text apart
    ∙ ap (λ o. lower o more) (sym (behind_apart x b front text apart)))
    (same_or_apart x b)

-- nothing stands behind
abbrev ended : Local → Option (List ℕ) → Option Local
ended local rest = on_rest rest (at_end local) None

exactly_is : (name text : List ℕ) (local : Local) → exactly name local text ≡ ended local (behind name text)
exactly_is [] [] local = ap (ended local) (sym (behind_all []))
exactly_is [] (b ∷ text) local = ap (ended local) (sym (behind_all (b ∷ text)))
exactly_is (x ∷ name) [] local = ap (ended local) (sym (behind_nothing x name))
exactly_is (x ∷ name) (b ∷ text) local =
    ⊎_elim
    (λ (e : x ≡ b). ap (λ t. cond (t && bytes_eq text name) (Some local) None) (eq-eqb b x (sym e)) ∙ exactly_is name text local ∙ ap (ended local) (sym (behind_same x b name text e)))
    (λ (apart : x ≡ b → ⊥). ap (λ t. cond (t && bytes_eq text name) (Some local) None) (apart_test b x (λ e. apart (sym e))) ∙ ap (ended local) (sym (behind_apart x b name text apart)))
    (same_or_apart x b)

slash_same : (text : List ℕ) → has_slash text ≡ seek.has_slash text
slash_same [] = refl
slash_same (b ∷ text) = ap (λ t. cond (nat_eq b 47) true t) (slash_same text)

or_none : (o : Option Local) → or_else o None ≡ o
or_none None = refl
or_none (Some local) = refl

-- the local path of a kind, by what stands behind `apis/` and `apis/apiregistration.k8s.io/v1/apiservices/`
abbrev local_by : Option (List ℕ) → Option (List ℕ) → Kind → Local
local_by group service kind.Health = Health
local_by group service kind.GroupList = GroupList
local_by group service kind.OneGroup = OneGroup (unwrap_or group [])
local_by group service kind.ResourceList = ResourceList
local_by group service kind.AllServices = AllServices
local_by group service kind.OneService = OneService (unwrap_or service [])
local_by group service kind.Unserved = Unserved

abbrev named : Option (List ℕ) → Option (List ℕ) → Option Kind → Option Local
named group service found = option_map (local_by group service) found

named-or : (group service : Option (List ℕ)) (a b : Option Kind) → named group service (seek.or_else a b) ≡ or_else (named group service a) (named group service b)
named-or group service None b = refl
named-or group service (Some k) b = refl

part_by : (slash : Bool) (f : List ℕ → Local) (g : Kind → Local) (k : Kind) (text : List ℕ) → g k ≡ f text → cond slash None (Some (f text)) ≡ option_map g (cond slash None (Some k))
part_by true f g k text e = refl
part_by false f g k text e = ap Some (sym e)

part_is : (f : List ℕ → Local) (g : Kind → Local) (k : Kind) (text : List ℕ) → g k ≡ f text → one_part f (Some text) ≡ option_map g (at_part k text)
part_is f g k [] e = refl
part_is f g k (b ∷ text) e =
    ap (λ slash. cond slash None (Some (f (b ∷ text)))) (slash_same (b ∷ text))
    ∙ part_by (seek.has_slash (b ∷ text)) f g k (b ∷ text) e

more_is : (group service : Option (List ℕ)) (text : List ℕ) → any_text Unserved (Some text) ≡ named group service (at_more kind.Unserved text)
more_is group service [] = refl
more_is group service (b ∷ text) = refl

-- what follows `apis/apiregistration.k8s.io/v1/apiservices`
service_is : (group service : Option (List ℕ)) (other : Option Local) → or_else (one_part OneService service) other ≡ or_else (named group service (on_rest service (at_part kind.OneService) None)) other
service_is group None other = refl
service_is group (Some name) other =
    ap (λ o. or_else o other) (part_is OneService (local_by group (Some name)) kind.OneService name refl)

services_is : (group : Option (List ℕ)) (text : List ℕ) (other : Option Local) → or_else (at_end AllServices text) (or_else (one_part OneService (behind (codes "/") text)) other) ≡ or_else (named group (behind (codes "/") text) (services_path text)) other
unfolding behind
services_is group [] other = refl
services_is group (b ∷ text) other = service_is group (behind (codes "/") (b ∷ text)) other

-- what the rows say of what stands behind `apis/apiregistration.k8s.io/v1/`
abbrev under_version : Option (List ℕ) → Option Local
under_version rest =
    or_else (ended AllServices (lower rest (codes "apiservices")))
    (or_else (one_part OneService (lower (lower rest (codes "apiservices")) (codes "/"))) (or_else (any_text Unserved rest) None))

under_version_by : (group services : Option (List ℕ)) (text : List ℕ) → or_else (ended AllServices services) (or_else (one_part OneService (lower services (codes "/"))) (or_else (any_text Unserved (Some text)) None)) ≡ named group (lower services (codes "/")) (seek.or_else (on_rest services services_path None) (at_more kind.Unserved text))
under_version_by group None text = or_none _ ∙ more_is group None text
under_version_by group (Some rest) text =
    services_is group rest (or_else (any_text Unserved (Some text)) None)
    ∙ ap (or_else (named group (behind (codes "/") rest) (services_path rest))) (or_none _ ∙ more_is group (behind (codes "/") rest) text)
    ∙ sym (named-or group (behind (codes "/") rest) (services_path rest) (at_more kind.Unserved text))

-- what the rows say of what stands behind `apis/apiregistration.k8s.io/v1`
abbrev at_version : Option (List ℕ) → Option Local
at_version rest = or_else (ended ResourceList rest) (under_version (lower rest (codes "/")))

-- the name of the service, in what stands behind a slash behind the version
abbrev service_in : Option (List ℕ) → Option (List ℕ)
service_in rest = lower (lower rest (codes "apiservices")) (codes "/")

version_by : (group rest : Option (List ℕ)) → under_version rest ≡ named group (service_in rest) (on_rest rest below_version None)
version_by group None = refl
version_by group (Some text) = under_version_by group (behind (codes "apiservices") text) text

version_is : (group : Option (List ℕ)) (text : List ℕ) → at_version (Some text) ≡ named group (service_in (behind (codes "/") text)) (version_path text)
unfolding behind
version_is group [] = refl
version_is group (b ∷ text) = version_by group (behind (codes "/") (b ∷ text))

-- what the rows say of what stands behind `apis/`
abbrev under_apis : Option (List ℕ) → Option Local
under_apis rest = or_else (one_part OneGroup rest) (at_version (lower rest (codes "apiregistration.k8s.io/v1")))

-- the name of the service, in what stands behind `apis/`
abbrev service_under : Option (List ℕ) → Option (List ℕ)
service_under rest = service_in (lower (lower rest (codes "apiregistration.k8s.io/v1")) (codes "/"))

true_or_slash : (slash : Bool) → cond slash true true ≡ true
true_or_slash true = refl
true_or_slash false = refl

slash_step : (x b : ℕ) (front text : List ℕ) → x ≡ b → has_slash (x ∷ front) ≡ true → (has_slash front ≡ true → has_slash text ≡ true) → has_slash (b ∷ text) ≡ true
slash_step x b front text e slash later =
    ⊎_elim
    (λ (here : nat_eq x 47 ≡ true). cond-true _ _ _ (ap (λ z. nat_eq z 47) (sym e) ∙ here))
    (λ (not_here : nat_eq x 47 ≡ false).
    let there = later (sym (cond-false _ _ _ not_here) ∙ slash) in
    ap (cond (nat_eq b 47) true) there ∙ true_or_slash (nat_eq b 47))
    (cases_Bool (nat_eq x 47))

-- a text that begins with a front with a slash has one
has_slash_behind : (front text rest : List ℕ) → behind front text ≡ Some rest → has_slash front ≡ true → has_slash text ≡ true
has_slash_behind [] text rest e slash = absurd (cc)
has_slash_behind (x ∷ front) [] rest e slash = let bad : None ≡ Some rest = sym (behind_nothing x front) ∙ e in absurd (cc)
has_slash_behind (x ∷ front) (b ∷ text) rest e slash =
    ⊎_elim
    (λ (same : x ≡ b). slash_step x b front text same slash
    (has_slash_behind front text rest (sym (behind_same x b front text same) ∙ e)))
    (λ (apart : x ≡ b → ⊥). let bad : None ≡ Some rest = sym (behind_apart x b front text apart) ∙ e in absurd (cc))
    (same_or_apart x b)

no_part : (f : List ℕ → Local) (text : List ℕ) → has_slash text ≡ true → one_part f (Some text) ≡ None
no_part f [] e = refl
no_part f (b ∷ text) e = cond-true _ _ _ e

no_part_at : (k : Kind) (text : List ℕ) → has_slash text ≡ true → at_part k text ≡ None
no_part_at k [] e = refl
no_part_at k (b ∷ text) e = cond-true _ _ _ (sym (slash_same (b ∷ text)) ∙ e)

no_other : (found : Option Kind) → seek.or_else found None ≡ found
no_other None = refl
no_other (Some k) = refl

under_apis_of : (text : List ℕ) (rest : Option (List ℕ)) → behind (codes "apiregistration.k8s.io/v1") text ≡ rest → or_else (one_part OneGroup (Some text)) (at_version rest) ≡ named (Some text) (service_in (lower rest (codes "/"))) (seek.or_else (on_rest rest version_path None) (at_part kind.OneGroup text))
under_apis_of text None e =
    or_none (one_part OneGroup (Some text)) ∙ part_is OneGroup (local_by (Some text) None) kind.OneGroup text refl
under_apis_of text (Some rest) e =
    let slash = has_slash_behind (codes "apiregistration.k8s.io/v1") text rest e refl in
    ap (λ o. or_else o (at_version (Some rest))) (no_part OneGroup text slash)
    ∙ version_is (Some text) rest
    ∙ ap (named (Some text) (service_in (behind (codes "/") rest)))
    (sym (ap (seek.or_else (version_path rest)) (no_part_at kind.OneGroup text slash) ∙ no_other (version_path rest)))

under_apis_is : (text : List ℕ) → under_apis (Some text) ≡ named (Some text) (service_under (Some text)) (below_apis text)
under_apis_is text = under_apis_of text (behind (codes "apiregistration.k8s.io/v1") text) refl

under_apis_by : (rest : Option (List ℕ)) → under_apis rest ≡ named rest (service_under rest) (on_rest rest below_apis None)
under_apis_by None = refl
under_apis_by (Some text) = under_apis_is text

-- what the rows say of what stands behind `apis`
abbrev at_apis : Option (List ℕ) → Option Local
at_apis rest = or_else (ended GroupList rest) (under_apis (lower rest (codes "/")))

apis_is : (text : List ℕ) → at_apis (Some text) ≡ named (behind (codes "/") text) (service_under (behind (codes "/") text)) (apis_path text)
unfolding behind
apis_is [] = refl
apis_is (b ∷ text) = under_apis_by (behind (codes "/") (b ∷ text))

at_apis_by : (rest : Option (List ℕ)) → at_apis rest ≡ named (lower rest (codes "/")) (service_under (lower rest (codes "/"))) (on_rest rest apis_path None)
at_apis_by None = refl
at_apis_by (Some text) = apis_is text

-- the rows that begin with `apis`
abbrev api_rows : List ℕ → Option Local
api_rows text =
    or_else (exactly (codes "apis") GroupList text)
    (or_else (with_part (codes "apis/") OneGroup text)
    (or_else (exactly (codes "apis/apiregistration.k8s.io/v1") ResourceList text)
    (or_else (exactly (codes "apis/apiregistration.k8s.io/v1/apiservices") AllServices text)
    (or_else (with_part (codes "apis/apiregistration.k8s.io/v1/apiservices/") OneService text)
    (or_else (with_rest (codes "apis/apiregistration.k8s.io/v1/") Unserved text) None)))))

group_rest : (text : List ℕ) → behind (codes "apis/") text ≡ lower (behind (codes "apis") text) (codes "/")
group_rest text = behind_both (codes "apis") (codes "/") text

version_rest : (text : List ℕ) → behind (codes "apis/apiregistration.k8s.io/v1") text ≡ lower (lower (behind (codes "apis") text) (codes "/")) (codes "apiregistration.k8s.io/v1")
version_rest text =
    behind_both (codes "apis/") (codes "apiregistration.k8s.io/v1") text
    ∙ ap (λ o. lower o (codes "apiregistration.k8s.io/v1")) (group_rest text)

under_rest : (text : List ℕ) → behind (codes "apis/apiregistration.k8s.io/v1/") text ≡ lower (lower (lower (behind (codes "apis") text) (codes "/")) (codes "apiregistration.k8s.io/v1")) (codes "/")
under_rest text =
    behind_both (codes "apis/apiregistration.k8s.io/v1") (codes "/") text ∙ ap (λ o. lower o (codes "/")) (version_rest text)

services_rest : (text : List ℕ) → behind (codes "apis/apiregistration.k8s.io/v1/apiservices") text ≡ lower (lower (lower (lower (behind (codes "apis") text) (codes "/")) (codes "apiregistration.k8s.io/v1")) (codes "/")) (codes "apiservices")
services_rest text =
    behind_both (codes "apis/apiregistration.k8s.io/v1/") (codes "apiservices") text
    ∙ ap (λ o. lower o (codes "apiservices")) (under_rest text)

service_rest : (text : List ℕ) → behind (codes "apis/apiregistration.k8s.io/v1/apiservices/") text ≡ service_under (lower (behind (codes "apis") text) (codes "/"))
service_rest text =
    behind_both (codes "apis/apiregistration.k8s.io/v1/apiservices") (codes "/") text
    ∙ ap (λ o. lower o (codes "/")) (services_rest text)

api_rows_by : (text : List ℕ) → api_rows text ≡ at_apis (behind (codes "apis") text)
api_rows_by text =
    rw (
      exactly_is (codes "apis") text GroupList,
      exactly_is (codes "apis/apiregistration.k8s.io/v1") text ResourceList,
      exactly_is (codes "apis/apiregistration.k8s.io/v1/apiservices") text AllServices,
      group_rest text,
      version_rest text,
      services_rest text,
      service_rest text,
      under_rest text,
    ) refl

local_by_is : (text : List ℕ) (k : Kind) → local_at k text ≡ local_by (behind (codes "apis/") text) (behind (codes "apis/apiregistration.k8s.io/v1/apiservices/") text) k
local_by_is text kind.Health = refl
local_by_is text kind.GroupList = refl
local_by_is text kind.OneGroup = refl
local_by_is text kind.ResourceList = refl
local_by_is text kind.AllServices = refl
local_by_is text kind.OneService = refl
local_by_is text kind.Unserved = refl

found_by : (text : List ℕ) (found : Option Kind) → found_at text found ≡ named (behind (codes "apis/") text) (behind (codes "apis/apiregistration.k8s.io/v1/apiservices/") text) found
found_by text None = refl
found_by text (Some k) = ap Some (local_by_is text k)

api_rows_are : (text : List ℕ) → api_rows text ≡ found_at text (on_rest (behind (codes "apis") text) apis_path None)
api_rows_are text =
    api_rows_by text ∙ at_apis_by (behind (codes "apis") text)
    ∙ ap (λ o. named o (service_under (lower (behind (codes "apis") text) (codes "/"))) (on_rest (behind (codes "apis") text) apis_path None)) (sym (group_rest text))
    ∙ ap (λ o. named (behind (codes "apis/") text) o (on_rest (behind (codes "apis") text) apis_path None)) (sym (service_rest text))
    ∙ sym (found_by text (on_rest (behind (codes "apis") text) apis_path None))

-- one of the texts that ask for health
health_by : (text : List ℕ) (rest : Option (List ℕ)) → or_else (ended Health rest) None ≡ found_at text (on_rest rest (at_end kind.Health) None)
health_by text None = refl
health_by text (Some []) = refl
health_by text (Some (b ∷ rest)) = refl

health_is : (name text : List ℕ) → or_else (exactly name Health text) None ≡ found_at text (on_rest (behind name text) (at_end kind.Health) None)
health_is name text = ap (λ o. or_else o None) (exactly_is name text Health) ∙ health_by text (behind name text)

-- texts by their first byte
with_a : (text : List ℕ) → found_at (97 ∷ text) (local_path (97 ∷ text)) ≡ first_of table (97 ∷ text)
unfolding behind
with_a text = sym (api_rows_are (97 ∷ text))

with_h : (text : List ℕ) → found_at (104 ∷ text) (local_path (104 ∷ text)) ≡ first_of table (104 ∷ text)
unfolding behind
with_h text = sym (health_is (codes "healthz") (104 ∷ text))

with_l : (text : List ℕ) → found_at (108 ∷ text) (local_path (108 ∷ text)) ≡ first_of table (108 ∷ text)
unfolding behind
with_l text = sym (health_is (codes "livez") (108 ∷ text))

with_r : (text : List ℕ) → found_at (114 ∷ text) (local_path (114 ∷ text)) ≡ first_of table (114 ∷ text)
unfolding behind
with_r text = sym (health_is (codes "readyz") (114 ∷ text))

exactly_apart : (x b : ℕ) (name text : List ℕ) (local : Local) → (x ≡ b → ⊥) → exactly (x ∷ name) local (b ∷ text) ≡ None
exactly_apart x b name text local apart =
    ap (λ t. cond (t && bytes_eq text name) (Some local) None) (apart_test b x (λ e. apart (sym e)))

no_api_row : (b : ℕ) (text : List ℕ) → (97 ≡ b → ⊥) → api_rows (b ∷ text) ≡ None
no_api_row b text apart =
    api_rows_by (b ∷ text) ∙ ap at_apis (behind_apart 97 b (codes "pis") text apart)

with_other : (b : ℕ) (text : List ℕ) → (97 ≡ b → ⊥) → (104 ≡ b → ⊥) → (108 ≡ b → ⊥) → (114 ≡ b → ⊥) → found_at (b ∷ text) (local_path (b ∷ text)) ≡ first_of table (b ∷ text)
with_other b text a h l r =
    rw (
      behind_apart 97 b (codes "pis") text a,
      behind_apart 104 b (codes "ealthz") text h,
      behind_apart 108 b (codes "ivez") text l,
      behind_apart 114 b (codes "eadyz") text r,
    )
    (sym (ap (λ o. or_else o (or_else (exactly (codes "livez") Health (b ∷ text)) (or_else (exactly (codes "readyz") Health (b ∷ text)) (api_rows (b ∷ text))))) (exactly_apart 104 b (codes "ealthz") text Health h)
    ∙ ap (λ o. or_else o (or_else (exactly (codes "readyz") Health (b ∷ text)) (api_rows (b ∷ text)))) (exactly_apart 108 b (codes "ivez") text Health l)
    ∙ ap (λ o. or_else o (api_rows (b ∷ text))) (exactly_apart 114 b (codes "eadyz") text Health r)
    ∙ no_api_row b text a))

abbrev IsFound : List ℕ → Type 0
IsFound text = found_at text (local_path text) ≡ first_of table text

nothing_is : IsFound []
unfolding behind
nothing_is = refl

pub table_is : (text : List ℕ) → found_at text (local_path text) ≡ first_of table text
table_is [] = nothing_is
table_is (b ∷ text) =
    ⊎_elim (λ (e : 97 ≡ b). subst (λ z. IsFound (z ∷ text)) e (with_a text))
    (λ (a : 97 ≡ b → ⊥). ⊎_elim (λ (e : 104 ≡ b). subst (λ z. IsFound (z ∷ text)) e (with_h text))
    (λ (h : 104 ≡ b → ⊥). ⊎_elim (λ (e : 108 ≡ b). subst (λ z. IsFound (z ∷ text)) e (with_l text))
    (λ (l : 108 ≡ b → ⊥). ⊎_elim (λ (e : 114 ≡ b). subst (λ z. IsFound (z ∷ text)) e (with_r text))
    (λ (r : 114 ≡ b → ⊥). with_other b text a h l r)
    (same_or_apart 114 b)) (same_or_apart 108 b)) (same_or_apart 104 b)) (same_or_apart 97 b)

kind_by : (found : Option (RouteOf Kind)) → option_map (λ r. r.value) found ≡ map_key (λ r. r.value) found
kind_by None = refl
kind_by (Some r) = refl

pub is_local_router : (router : RowsOf (RouteOf Kind)) → rename (λ r. r.value) router ≡ local_rows → IsLocalRouter router
is_local_router router e = record {
  answers = λ text small.
      ap (found_at text) (kind_by (seek.first router text) ∙ sym (first-rename (λ r. r.value) router text)
      ∙ ap (λ rs. seek.seek 0 rs text) e ∙ local_is text small)
      ∙ table_is text;
}
