-- What two sinks were sent.
use Rattle.std.proofs.Common.{◌≡◌, ℕ, List, [], Option, Some, IfSome, All, sym, ap, ◌∙◌, subst}
use Rattle.alike_exchanges.specs.Cuts.{bays_of, breaks, cuts}
use Rattle.front_base.specs.Line.{Line}
use Rattle.front_plants.specs.Fresh.{SinkOpens, SentAll}
use Rattle.alike_runs.specs.AlikeSinks.{AlikeBreaks, AlikeTries, AlikeTurns, SameBytes}
use Rattle.shared_queue.specs.Bays.{of_bay}
use Rattle.truncate_backend.specs.Tries.{IsNoted, IsSingle, SentAfter, SinkTells, Try, lines_of, sent_bytes}

-- the laws that are called
abbrev pub Cuts : Type 0
Cuts = (text : List Line → List ℕ) (these those : List Try) → All (IsNoted text) these → All (IsNoted text) those → cuts these ≡ cuts those
    → lines_of these ≡ lines_of those → sent_bytes text these ≡ sent_bytes text those

abbrev pub Singles : Type 0
Singles = (these those : List Try) → All IsSingle these → All IsSingle those → breaks these ≡ breaks those → cuts these ≡ cuts those

abbrev pub Parts : Type 0
Parts = (these those : List Line) → bays_of these ≡ bays_of those
    → ((bay : ℕ) → of_bay bay these ≡ of_bay bay those) → these ≡ those

-- a sink that told its bytes and its tries from the beginning sent what its tries say
sent_is : (opens : SinkOpens) (sink : SinkTells) (tries : List Try) (bytes : List ℕ) → opens.sent ≡ Some (Some []) → SentAll opens sink
    → sink.tries ≡ Some tries → sink.sent ≡ Some (Some bytes) → bytes ≡ sent_bytes opens.text tries
sent_is opens sink tries bytes o s t b =
    subst (λ z. SentAfter [] opens.text z (Some tries)) b (subst (λ z. SentAfter [] opens.text sink.sent z) t (s.bytes o))

-- what holds of tries that are told
of_told : (told : Option (List Try)) (P : List Try → Type 0) (tries : List Try) → IfSome told P → told ≡ Some tries → P tries
of_told told P tries h e = subst (λ z. IfSome z P) e h

pub same_bytes : (sent : Cuts) (opens : SinkOpens) (sink other : SinkTells) → opens.sent ≡ Some (Some []) → SentAll opens sink → SentAll opens other
    → (a : AlikeTries sink other) → lines_of a.these ≡ lines_of a.those → SameBytes sink other
same_bytes sent opens sink other o s t a e = λ these those p q.
    sent_is opens sink a.these these o s a.told p
    ∙ sent opens.text a.these a.those (of_told sink.tries (All (IsNoted opens.text)) a.these s.noted a.told)
    (of_told other.tries (All (IsNoted opens.text)) a.those t.noted a.other_told) a.cut e
    ∙ sym (sent_is opens other a.those those o t a.other_told q)

-- tries of one line each, whose ports failed alike, were cut alike
pub cut_of_breaks : (singles : Singles) (sink other : SinkTells) → IfSome sink.tries (All IsSingle) → IfSome other.tries (All IsSingle)
    → (a : AlikeBreaks sink other) → cuts a.these ≡ cuts a.those
cut_of_breaks singles sink other p q a =
    singles a.these a.those (of_told sink.tries (All IsSingle) a.these p a.told) (of_told other.tries (All IsSingle) a.those q a.other_told) a.broke

-- tries that are told
pub tries_are : (told : Option (List Try)) (tries own : List Try) → IfSome told (λ these. these ≡ own) → told ≡ Some tries → tries ≡ own
tries_are told tries own h e = subst (λ z. IfSome z (λ these. these ≡ own)) e h

-- the lines of each bay and the turns tell the lines of all
pub same_lines : (parts : Parts) (sink other : SinkTells) (a : AlikeTurns sink other) (these those : List Try)
    → IfSome sink.tries (λ own. own ≡ these) → IfSome other.tries (λ own. own ≡ those)
    → ((bay : ℕ) → of_bay bay (lines_of these) ≡ of_bay bay (lines_of those)) → lines_of a.tried.these ≡ lines_of a.tried.those
same_lines parts sink other a these those h g each =
    let e = tries_are sink.tries a.tried.these these h a.tried.told in
    let f = tries_are other.tries a.tried.those those g a.tried.other_told in
    parts (lines_of a.tried.these) (lines_of a.tried.those) a.turns
    (λ bay. ap (λ ts. of_bay bay (lines_of ts)) e ∙ each bay ∙ sym (ap (λ ts. of_bay bay (lines_of ts)) f))
