-- What a request asks for, by the API that its path is in.
use Rattle.std.proofs.Common.{◌≡◌, ◌==◌, ℕ, true, false, List, length, Option, Some, None, Ok, Err, sym, ap, ◌∙◌, Bor}
use Rattle.std.proofs.lemmas.Bool.{cond-true, cond-false}
use Rattle.std.proofs.lemmas.List.{length-map}
use Rattle.front_base.specs.declared.info.Info.{Info}
use Rattle.request_info.specs.Parts.{texts_of}
use Rattle.request_info.specs.Request.{other_info, path_info, resource_info, verb_of}
use Rattle.request_info.specs.Resource.{Api, Named, behind_verb, named_by}
use Rattle.request_info.specs.declared.fault.InfoFault.TheVariants.{NoKind}

pub other_is : (method query path : List ℕ) (found : Option Api) (info : Info) → None ≡ found → info ≡ other_info method path → Ok info ≡ path_info method query path found
other_is method query path found info none is = ap Ok is ∙ ap (path_info method query path) none

counted : (xs : List (Bor (List ℕ))) (ys : List (List ℕ)) → texts_of xs ≡ ys → (length ys == 0) ≡ (length xs == 0)
counted xs ys e = ap (λ n. n == 0) (ap length (sym e) ∙ length-map xs (λ part. part.now))

pub no_kind_is : (method query path : List ℕ) (found : Option Api) (api : Api) (xs : List (Bor (List ℕ)))
    → Some api ≡ found → texts_of xs ≡ behind_verb api.parts → true ≡ (length xs == 0) → Err NoKind ≡ path_info method query path found
no_kind_is method query path found api xs some behind none =
    sym (cond-true _ _ _ (counted xs (behind_verb api.parts) behind ∙ sym none)) ∙ ap (path_info method query path) some

pub resource_is : (method query path : List ℕ) (found : Option Api) (api : Api) (xs : List (Bor (List ℕ))) (verb : List ℕ) (named : Named) (info : Info)
    → Some api ≡ found → texts_of xs ≡ behind_verb api.parts → false ≡ (length xs == 0) → verb ≡ verb_of method api.parts → named ≡ named_by (texts_of xs)
    → info ≡ resource_info query path api verb named → Ok info ≡ path_info method query path found
resource_is method query path found api xs verb named info some behind any by names is =
    ap Ok (is ∙ ap (λ v. resource_info query path api v named) by ∙ ap (resource_info query path api (verb_of method api.parts)) (names ∙ ap named_by behind))
    ∙ sym (cond-false _ _ _ (counted xs (behind_verb api.parts) behind ∙ sym any))
    ∙ ap (path_info method query path) some
