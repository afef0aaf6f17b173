-- A connection that wishes nothing.
use Rattle.std.proofs.Common.{◌≡◌, ℕ, Bool, true, false, List, [], ◌∷◌, ◌++◌, map, Option, None, Some, ap, subst, sym, ◌∙◌, inl, inr}
use Rattle.std.specs.Prelude.{IfSome}
use Rattle.audit_core.specs.declared.settings.Settings.{Settings}
use Rattle.connection_laws.specs.Whole.{requests_in}
use Rattle.front_ports.specs.Wishes.{GaveWishes, GivesWish}
use Rattle.http_edge.specs.Requests.{IsRequests}
use Rattle.http_edge.specs.declared.request.End.{End}
use Rattle.http_edge.specs.declared.request.Request.{Request}
use Rattle.session_core.specs.Bays.{BayState}
use Rattle.session_core.specs.Closing.{NoneWished, wishes_of}
use Rattle.session_core.specs.Connection.{AreServed, ConnState, Ran, ServedAll}
use Rattle.session_core.specs.declared.exchange.Exchange.{Exchange}

none_wished : (xs : List Exchange) (old new : Option (List Bool)) → old ≡ Some [] → GaveWishes old (wishes_of xs) new → NoneWished xs
none_wished [] old new e h = tt
none_wished (x ∷ xs) old new e h =
    let g : GivesWish (Some []) h.0 x.wished = subst (λ (o : Option (List Bool)). GivesWish o h.0 x.wished) e h.1 in
    (g.0, none_wished xs h.0 new g.1 h.2)

last_none : (before : List Exchange) (x : Exchange) → NoneWished (before ++ x ∷ []) → x.wished ≡ false
last_none [] x h = h.0
last_none (y ∷ ys) x h = last_none ys x h.1

-- the exchanges have these requests
have_requests : (set : Settings) (peer : List ℕ) (m n : BayState) (rs : List Request) (out : List ℕ) (xs : List Exchange)
    → Ran set peer m rs out n xs → requests_in xs ≡ rs
have_requests set peer m n [] out xs h = ap requests_in h.2
have_requests set peer m n (r ∷ rs) out xs h =
    ap requests_in h.7
    ∙ ap (λ (q : Request). q ∷ requests_in h.4) h.5.request_is
    ∙ ap (λ l. r ∷ l) (have_requests set peer h.2 n rs h.1 h.4 h.8)

if_some : (o : Option (List ℕ)) (P Q : List ℕ → Type 0) → ((l : List ℕ) → P l → Q l) → IfSome o P → IfSome o Q
if_some None P Q f h = tt
if_some (Some l) P Q f h = f l h

pub served_whole : (set : Settings) (peer : List ℕ) (m n : BayState) (c d : ConnState) (end : End) (xs : List Exchange)
    → ServedAll set peer m n c d end xs → c.wishes ≡ Some [] → IfSome c.left (λ input. IsRequests input (requests_in xs) end)
served_whole set peer m n c d end xs h e =
    if_some c.left (λ input. AreServed input h.requests end xs) (λ input. IsRequests input (requests_in xs) end)
    (λ input q. subst (λ (rs : List Request). IsRequests input rs end) (sym (have_requests set peer m n h.requests h.out xs h.ran)) (by input q)) h.whole
  where
    none : NoneWished xs
    none = none_wished xs c.wishes d.wishes e h.gave

    by : (input : List ℕ) → AreServed input h.requests end xs → IsRequests input h.requests end
    by input (inl q) = q.1
    by input (inr q) =
        let f : q.last.last.wished ≡ false = last_none q.last.before q.last.last (subst NoneWished q.last.exchanges_are none) in
        absurd (cc (f, q.last.wished))
