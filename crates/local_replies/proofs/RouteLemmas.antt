-- The rows of the router, and what they answer.
use Rattle.std.proofs.Common.{◌≡◌, ℕ, ◌<◌, Bool, true, false, List, [], ◌∷◌, ◌++◌, Option, None, codes, refl, ap, sym, ◌∙◌, ⊎_elim, arith, All, cond, nat_lt, lit<}
use Rattle.std.proofs.lemmas.Bool.{cond-true, cond-false, cases_Bool}
use Rattle.std.proofs.lemmas.Bool.Decides.{nat_tests}
use Rattle.std.proofs.lemmas.List.Elements.{All-nil, All-cons}
use Rattle.matchit.specs.Rows.{RowsOf}
use Rattle.matchit.specs.Seek.{seek, or_else}
use Rattle.local_replies.specs.Paths.{behind}
use Rattle.local_replies.specs.Router.{IsByte}
use Rattle.local_replies.specs.declared.kind.Kind.{Kind}
use Rattle.local_replies.specs.declared.kind.Kind.TheVariants.{Health, GroupList, OneGroup, ResourceList, AllServices, OneService, Unserved}
use Rattle.local_replies.proofs.SeekLemmas.{on_rest, at_end, at_part, at_more, fronted_by, IsStatic, seek_split, seek-fronted_by, seek_end, seek_part, seek_more, seek-nil, on_rest_same, front_is_static}

-- what follows `apis/apiregistration.k8s.io/v1/apiservices`
abbrev pub services_path : List ℕ → Option Kind
services_path text = on_rest (behind (codes "/") text) (at_part OneService) (at_end AllServices text)

-- what follows `apis/apiregistration.k8s.io/v1/`
abbrev pub below_version : List ℕ → Option Kind
below_version text = or_else (on_rest (behind (codes "apiservices") text) services_path None) (at_more Unserved text)

-- what follows `apis/apiregistration.k8s.io/v1`
abbrev pub version_path : List ℕ → Option Kind
version_path text = on_rest (behind (codes "/") text) below_version (at_end ResourceList text)

-- what follows `apis/`
abbrev pub below_apis : List ℕ → Option Kind
below_apis text =
    or_else (on_rest (behind (codes "apiregistration.k8s.io/v1") text) version_path None) (at_part OneGroup text)

-- what follows `apis`
abbrev pub apis_path : List ℕ → Option Kind
apis_path text = on_rest (behind (codes "/") text) below_apis (at_end GroupList text)

-- the kind of a text, byte by byte as the router goes
abbrev pub local_path : List ℕ → Option Kind
local_path text =
    on_rest (behind (codes "apis") text) apis_path
    (on_rest (behind (codes "healthz") text) (at_end Health)
    (on_rest (behind (codes "livez") text) (at_end Health)
    (on_rest (behind (codes "readyz") text) (at_end Health) None)))

abbrev one : List ℕ → Kind → RowsOf Kind
one pattern path = (pattern, path) ∷ []

abbrev services_rows : RowsOf Kind
services_rows = fronted_by (codes "/") (one (256 ∷ []) OneService) ++ one [] AllServices

abbrev below_version_rows : RowsOf Kind
below_version_rows = fronted_by (codes "apiservices") services_rows ++ one (257 ∷ []) Unserved

abbrev version_rows : RowsOf Kind
version_rows = fronted_by (codes "/") below_version_rows ++ one [] ResourceList

abbrev below_apis_rows : RowsOf Kind
below_apis_rows = fronted_by (codes "apiregistration.k8s.io/v1") version_rows ++ one (256 ∷ []) OneGroup

abbrev apis_rows : RowsOf Kind
apis_rows = fronted_by (codes "/") below_apis_rows ++ one [] GroupList

abbrev pub local_rows : RowsOf Kind
local_rows =
    fronted_by (codes "apis") apis_rows ++ (fronted_by (codes "healthz") (one [] Health)
    ++ (fronted_by (codes "livez") (one [] Health) ++ (fronted_by (codes "readyz") (one [] Health) ++ [])))

abbrev all_small : List ℕ → Bool
all_small [] = true
all_small (x ∷ xs) = cond (nat_lt x 256) (all_small xs) false

small_byte : (x : ℕ) → nat_lt x 256 ≡ true → x < 256
small_byte x e = grind (arith, nat_tests)

small_from : (xs : List ℕ) → all_small xs ≡ true → All IsByte xs
small_from [] e = All-nil IsByte
small_from (x ∷ xs) e =
    ⊎_elim
    (λ (yes : nat_lt x 256 ≡ true). All-cons IsByte x xs (small_byte x yes) (small_from xs (sym (cond-true (nat_lt x 256) (all_small xs) false yes) ∙ e)))
    (λ (no : nat_lt x 256 ≡ false). let bad : false ≡ true = sym (cond-false (nat_lt x 256) (all_small xs) false no) ∙ e in absurd (cc))
    (cases_Bool (nat_lt x 256))

plain : (path : Kind) → IsStatic (one [] path)
plain path = record { no_param = refl; no_catch_all = refl }

nothing : IsStatic {K = Kind} []
nothing = record { no_param = refl; no_catch_all = refl }

or_else-nil : (text : List ℕ) (other : Option Kind) → or_else (seek 0 [] text) other ≡ other
or_else-nil text other = ap (λ o. or_else o other) (seek-nil 0 text)

slash_small : All IsByte (codes "/")
slash_small = small_from (codes "/") refl

services_is : (text : List ℕ) → All IsByte text → seek 0 services_rows text ≡ services_path text
services_is text small =
    seek_split 47 [] (one (256 ∷ []) OneService) (one [] AllServices) text slash_small (plain AllServices) refl
    ∙ on_rest_same (codes "/") text (seek 0 (one (256 ∷ []) OneService)) (at_part OneService) (seek 0 (one [] AllServices) text) small
    (λ rest s. seek_part [] OneService rest s nothing ∙ or_else-nil rest (at_part OneService rest))
    ∙ ap (λ o. on_rest (behind (codes "/") text) (at_part OneService) o) (seek_end AllServices text)

below_version_is : (text : List ℕ) → All IsByte text → seek 0 below_version_rows text ≡ below_version text
below_version_is text small =
    let front = codes "apiservices" in
    let low : All IsByte front = small_from front refl in
    seek_more (fronted_by front services_rows) Unserved text small (front_is_static 97 (fronted_by (codes "piservices") services_rows) (lit< tt))
    ∙ ap (λ o. or_else o (at_more Unserved text))
    (seek-fronted_by front services_rows text low ∙ on_rest_same front text (seek 0 services_rows) services_path None small services_is)

version_is : (text : List ℕ) → All IsByte text → seek 0 version_rows text ≡ version_path text
version_is text small =
    seek_split 47 [] below_version_rows (one [] ResourceList) text slash_small (plain ResourceList) refl
    ∙ on_rest_same (codes "/") text (seek 0 below_version_rows) below_version (seek 0 (one [] ResourceList) text) small below_version_is
    ∙ ap (λ o. on_rest (behind (codes "/") text) below_version o) (seek_end ResourceList text)

below_apis_is : (text : List ℕ) → All IsByte text → seek 0 below_apis_rows text ≡ below_apis text
below_apis_is text small =
    let front = codes "apiregistration.k8s.io/v1" in
    let low : All IsByte front = small_from front refl in
    seek_part (fronted_by front version_rows) OneGroup text small (front_is_static 97 (fronted_by (codes "piregistration.k8s.io/v1") version_rows) (lit< tt))
    ∙ ap (λ o. or_else o (at_part OneGroup text))
    (seek-fronted_by front version_rows text low ∙ on_rest_same front text (seek 0 version_rows) version_path None small version_is)

apis_is : (text : List ℕ) → All IsByte text → seek 0 apis_rows text ≡ apis_path text
apis_is text small =
    seek_split 47 [] below_apis_rows (one [] GroupList) text slash_small (plain GroupList) refl
    ∙ on_rest_same (codes "/") text (seek 0 below_apis_rows) below_apis (seek 0 (one [] GroupList) text) small below_apis_is
    ∙ ap (λ o. on_rest (behind (codes "/") text) below_apis o) (seek_end GroupList text)

abbrev from_r : RowsOf Kind
from_r = fronted_by (codes "readyz") (one [] Health) ++ []

abbrev from_l : RowsOf Kind
from_l = fronted_by (codes "livez") (one [] Health) ++ from_r

abbrev from_h : RowsOf Kind
from_h = fronted_by (codes "healthz") (one [] Health) ++ from_l

r_static : IsStatic from_r
r_static = record { no_param = refl; no_catch_all = refl }

l_static : IsStatic from_l
l_static = record { no_param = refl; no_catch_all = refl }

h_static : IsStatic from_h
h_static = record { no_param = refl; no_catch_all = refl }

health_is : (front text : List ℕ) (other : Option Kind) → All IsByte text → on_rest (behind front text) (seek 0 (one [] Health)) other ≡ on_rest (behind front text) (at_end Health) other
health_is front text other small = on_rest_same front text (seek 0 (one [] Health)) (at_end Health) other small (λ rest s. seek_end Health rest)

pub local_is : (text : List ℕ) → All IsByte text → seek 0 local_rows text ≡ local_path text
local_is text small =
    seek_split 97 (codes "pis") apis_rows from_h text (small_from (codes "apis") refl) h_static refl
    ∙ on_rest_same (codes "apis") text (seek 0 apis_rows) apis_path (seek 0 from_h text) small apis_is
    ∙ ap (λ o. on_rest (behind (codes "apis") text) apis_path o)
    (seek_split 104 (codes "ealthz") (one [] Health) from_l text (small_from (codes "healthz") refl) l_static refl
    ∙ health_is (codes "healthz") text (seek 0 from_l text) small
    ∙ ap (λ o. on_rest (behind (codes "healthz") text) (at_end Health) o)
    (seek_split 108 (codes "ivez") (one [] Health) from_r text (small_from (codes "livez") refl) r_static refl
    ∙ health_is (codes "livez") text (seek 0 from_r text) small
    ∙ ap (λ o. on_rest (behind (codes "livez") text) (at_end Health) o)
    (seek_split 114 (codes "eadyz") (one [] Health) [] text (small_from (codes "readyz") refl) nothing refl
    ∙ health_is (codes "readyz") text (seek 0 [] text) small
    ∙ ap (λ o. on_rest (behind (codes "readyz") text) (at_end Health) o) (seek-nil 0 text))))
