-- The calls of tries, one after another.
use Rattle.std.proofs.Common.{◌≡◌, ℕ, inl, inr, List, [], ◌∷◌, ◌++◌, length, take, Option, Some, None, Bool, true, false, refl, sym, ap, ◌∙◌, subst, arith, append_assoc, append-nil}
use Rattle.std.specs.Prelude.{Result, Ok, Err, ⊤, option_map}
use Rattle.std.specs.List.{flat_map}
use Rattle.std.proofs.Math.Seq.{take-length}
use Rattle.std.proofs.lemmas.List.Concat.{flat_map-append, flat_map-cons}
use Rattle.front_base.specs.Line.{Line}
use Rattle.front_base.specs.declared.address.Address.{Address}
use Rattle.front_ports.specs.Dials.{failed_call}
use Rattle.front_ports.specs.Told.{Adds, Grows}
use Rattle.front_ports.specs.declared.dial.Call.{Call}
use Rattle.truncate_backend.specs.Tries.{Try, SinkTells, SentFor, Sends, try_of, answer_of}
use Rattle.truncate_backend.specs.declared.tries.SinkFault.{SinkFault}
use Rattle.truncate_backend.specs.declared.tries.SinkFault.TheVariants as faults
use Rattle.truncate_backend.specs.declared.tries.TryAnswer.TheVariants as answers
use Rattle.webhook_sink.specs.Accounts.{AnswerFor, IsCallOf, AreCallsOf, Accounts, sent_bytes, posted_bytes}
use Rattle.webhook_sink.specs.Exchanges.{ExchangedBy, Answered, Broken, NotDialed}
use Rattle.webhook_sink.specs.Hooked.{answer_by, calls_sent, Posted, NotPosted}
use Rattle.webhook_sink.specs.Posts.{post_text}
use Rattle.webhook_sink.specs.Replies.{Replies, result_of}
use Rattle.webhook_sink.specs.declared.hook_url.HookUrl.{HookUrl}
use Rattle.webhook_sink.specs.declared.reply.Reply.{Reply}
use Rattle.webhook_sink.specs.declared.reply.TheConstants.{MOST_INTERIM}

-- ---- the call of one try

all_sent : (r : Result ⊤ SinkFault) (sent whole : ℕ) → sent ≡ whole → SentFor (answer_of r) sent whole
all_sent (Ok u) sent whole e = e
all_sent (Err faults.Port) sent whole e = omega (arith, e)
all_sent (Err (faults.Refused code)) sent whole e = e
all_sent (Err faults.BadAnswer) sent whole e = e

exchange_sent : (calls0 calls : Option (List Call)) (to : Address) (text : List ℕ) (dial_rose link_rose : Type 0) (sent : ℕ) (reply : Option Reply)
    → ExchangedBy calls0 calls to text dial_rose link_rose sent reply → SentFor (answer_of (answer_by reply)) sent (length text)
exchange_sent calls0 calls to text dial_rose link_rose sent None (inl d) = omega (arith, d.none)
exchange_sent calls0 calls to text dial_rose link_rose sent None (inr b) = b.within
exchange_sent calls0 calls to text dial_rose link_rose sent (Some reply) a = all_sent (result_of reply) sent (length text) a.all

-- how much was sent, by the answer of an exchange
pub sent-for : (calls0 calls : Option (List Call)) (to : Address) (text : List ℕ) (dial_rose link_rose : Type 0) (sent : ℕ) (reply : Option Reply)
    (result : Result ⊤ SinkFault) → ExchangedBy calls0 calls to text dial_rose link_rose sent reply → result ≡ answer_by reply
    → SentFor (answer_of result) sent (length text)
sent-for calls0 calls to text dial_rose link_rose sent reply result h e =
    subst (λ (r : Result ⊤ SinkFault). SentFor (answer_of r) sent (length text)) (sym e)
    (exchange_sent calls0 calls to text dial_rose link_rose sent reply h)

says_answer : (r : Result ⊤ SinkFault) (held : List ℕ) (reply : Reply) → r ≡ result_of reply → Replies MOST_INTERIM held reply → AnswerFor (answer_of r) held
says_answer (Ok u) held reply e p = (reply, p, ap answer_of e)
says_answer (Err faults.Port) held reply e p = tt
says_answer (Err (faults.Refused code)) held reply e p = (reply, p, ap answer_of e)
says_answer (Err faults.BadAnswer) held reply e p = (reply, p, ap answer_of e)

adds_grows : (a b : Option (List Call)) (more : List Call) → Adds a b more → Grows a b more
adds_grows None b more e = e
adds_grows (Some before) None more e = tt
adds_grows (Some before) (Some after) more e = cc

-- one more call, which is the try's
abbrev OneCall : HookUrl → Option (List Call) → Option (List Call) → Try → Type 0
OneCall url calls0 calls t = (call : Call) × Grows calls0 calls (call ∷ []) × IsCallOf url t call

answered : (url : HookUrl) (lines : List Line) (calls0 calls : Option (List Call)) (sent : ℕ) (reply : Reply)
    → Answered calls0 calls url.address (post_text url lines) sent reply → OneCall url calls0 calls (try_of lines sent (answer_of (result_of reply)))
answered url lines calls0 calls sent reply a =
    let text = post_text url lines in
    let call : Call = record { to = url.address; sent = text; held = a.held } in
    let whole : text ≡ take sent text = sym (ap (λ n. take n text) a.all ∙ take-length text) in (
      call,
      adds_grows calls0 calls (call ∷ []) a.noted,
      record {
        to = refl;
        bytes = whole;
        sent = all_sent (result_of reply) sent (length text) a.all;
        answer = says_answer (result_of reply) a.held reply refl a.replies;
      },
    )

broken : (url : HookUrl) (lines : List Line) (calls0 calls : Option (List Call)) (rose : Type 0) (sent : ℕ)
    → Broken calls0 calls url.address (post_text url lines) rose sent → OneCall url calls0 calls (try_of lines sent answers.Port)
broken url lines calls0 calls rose sent b =
    let call : Call = record { to = url.address; sent = take sent (post_text url lines); held = b.held } in
    (call, adds_grows calls0 calls (call ∷ []) b.noted, record { to = refl; bytes = refl; sent = b.within; answer = tt })

not_dialed : (url : HookUrl) (lines : List Line) (calls0 calls : Option (List Call)) (rose : Type 0) (sent : ℕ)
    → NotDialed calls0 calls url.address rose sent → OneCall url calls0 calls (try_of lines sent answers.Port)
not_dialed url lines calls0 calls rose sent d =
    let text = post_text url lines in
    let none = d.none in
    let nothing : [] ≡ take sent text = ap (λ (n : ℕ). take n text) (sym none) in
    (failed_call url.address, d.noted, record { to = refl; bytes = nothing; sent = omega (arith, none); answer = tt })

one_call : (url : HookUrl) (lines : List Line) (calls0 calls : Option (List Call)) (dial_rose link_rose : Type 0) (sent : ℕ) (reply : Option Reply)
    → ExchangedBy calls0 calls url.address (post_text url lines) dial_rose link_rose sent reply
    → OneCall url calls0 calls (try_of lines sent (answer_of (answer_by reply)))
one_call url lines calls0 calls dial_rose link_rose sent None (inl d) = not_dialed url lines calls0 calls dial_rose sent d
one_call url lines calls0 calls dial_rose link_rose sent None (inr b) = broken url lines calls0 calls link_rose sent b
one_call url lines calls0 calls dial_rose link_rose sent (Some reply) a = answered url lines calls0 calls sent reply a

-- ---- the bytes of one try

call_bytes : (a b : Option (List Call)) (call : Call) (bytes : List ℕ) → Grows a b (call ∷ []) → call.sent ≡ bytes
    → Sends (Some (option_map calls_sent a)) bytes (Some (option_map calls_sent b))
call_bytes None b call bytes g e = ap (λ (z : Option (List Call)). Some (option_map calls_sent z)) g
call_bytes (Some x) None call bytes g e = tt
call_bytes (Some x) (Some y) call bytes g e =
    ap calls_sent g ∙ flat_map-append (λ (c : Call). c.sent) x (call ∷ [])
    ∙ ap (λ (z : List ℕ). calls_sent x ++ z) (append-nil call.sent ∙ e)

pub sends-for : (url : HookUrl) (lines : List Line) (calls0 calls new : Option (List Call)) (dial_rose link_rose : Type 0) (sent : ℕ) (reply : Option Reply)
    → ExchangedBy calls0 calls url.address (post_text url lines) dial_rose link_rose sent reply → new ≡ calls
    → Sends (Some (option_map calls_sent calls0)) (take sent (post_text url lines)) (Some (option_map calls_sent new))
sends-for url lines calls0 calls new dial_rose link_rose sent reply h e =
    let one = one_call url lines calls0 calls dial_rose link_rose sent reply h in
    subst (λ (z : Option (List Call)). Sends (Some (option_map calls_sent calls0)) (take sent (post_text url lines)) (Some (option_map calls_sent z))) (sym e)
    (call_bytes calls0 calls one.0 (take sent (post_text url lines)) one.1 one.2.bytes)

-- ---- one try more

calls_push : (url : HookUrl) (ts : List Try) (calls : List Call) (t : Try) (call : Call) → AreCallsOf url ts calls → IsCallOf url t call
    → AreCallsOf url (ts ++ t ∷ []) (calls ++ call ∷ [])
calls_push url [] [] t call a k = (k, tt)
calls_push url [] (c ∷ calls) t call a k = absurd a
calls_push url (u ∷ ts) [] t call a k = absurd a
calls_push url (u ∷ ts) (c ∷ calls) t call a k = (a.0, calls_push url ts calls t call a.1 k)

accounts_more : (url : HookUrl) (before : List Call) (a b : Option (List Call)) (ts us : Option (List Try)) (t : Try) (call : Call)
    → Grows a b (call ∷ []) → Grows ts us (t ∷ []) → IsCallOf url t call → Accounts url before a ts → Accounts url before b us
accounts_more url before a None ts us t call g h k acc = tt
accounts_more url before a (Some y) ts None t call g h k acc = tt
accounts_more url before None (Some y) ts (Some us) t call g h k acc = absurd (cc g)
accounts_more url before (Some x) (Some y) None (Some us) t call g h k acc = absurd (cc h)
accounts_more url before (Some x) (Some y) (Some ts) (Some us) t call g h k acc =
    let own = acc.0 in (
      own ++ call ∷ [],
      g ∙ ap (λ (l : List Call). l ++ call ∷ []) acc.1 ∙ append_assoc before own (call ∷ []),
      subst (λ (l : List Try). AreCallsOf url l (own ++ call ∷ [])) (sym h) (calls_push url ts own t call acc.2 k),
    )

accounts_posted : (url : HookUrl) (before : List Call) (m n : SinkTells) (a b : Option (List Call)) (lines : List Line) (dial_rose link_rose : Type 0)
    (result : Result ⊤ SinkFault) → Posted m a b url lines dial_rose link_rose result n → Accounts url before a m.tries → Accounts url before b n.tries
accounts_posted url before m n a b lines dial_rose link_rose result p acc =
    let one = one_call url lines a b dial_rose link_rose p.sent p.reply p.exchanged in
    let same : try_of lines p.sent (answer_of result) ≡ try_of lines p.sent (answer_of (answer_by p.reply)) =
    ap (λ (r : Result ⊤ SinkFault). try_of lines p.sent (answer_of r)) p.is in
    let grows = subst (λ (t : Try). Grows m.tries n.tries (t ∷ [])) same p.tried.tries.grows in
    accounts_more url before a b m.tries n.tries (try_of lines p.sent (answer_of (answer_by p.reply))) one.0 one.1 grows one.2 acc

-- a try that is told no longer
accounts_untold : (url : HookUrl) (before : List Call) (b : Option (List Call)) (us : Option (List Try)) → us ≡ None → Accounts url before b us
accounts_untold url before None us e = tt
accounts_untold url before (Some y) None e = tt
accounts_untold url before (Some y) (Some us) e = absurd (cc e)

-- a try with room for its note, or without
pub accounts-put : (url new_url : HookUrl) (before : List Call) (m n : SinkTells) (a b : Option (List Call)) (lines : List Line) (dial_rose link_rose : Type 0)
    (result : Result ⊤ SinkFault) (room : Bool) → (room ≡ true → Posted m a b url lines dial_rose link_rose result n)
    → (room ≡ false → NotPosted a b result n) → new_url ≡ url → Accounts url before a m.tries → Accounts new_url before b n.tries
accounts-put url new_url before m n a b lines dial_rose link_rose result true p q e acc =
    subst (λ (u : HookUrl). Accounts u before b n.tries) (sym e) (accounts_posted url before m n a b lines dial_rose link_rose result (p refl) acc)
accounts-put url new_url before m n a b lines dial_rose link_rose result false p q e acc = accounts_untold new_url before b n.tries (q refl).2

-- ---- what calls sent in all

pub sent-in-all : (url : HookUrl) (ts : List Try) (calls : List Call) → AreCallsOf url ts calls → flat_map (λ (c : Call). c.sent) calls ≡ posted_bytes url ts
sent-in-all url [] [] a = refl
sent-in-all url [] (c ∷ calls) a = absurd a
sent-in-all url (t ∷ ts) [] a = absurd a
sent-in-all url (t ∷ ts) (c ∷ calls) a =
    flat_map-cons (λ (c : Call). c.sent) c calls ∙ ap (λ (l : List ℕ). l ++ flat_map (λ (c : Call). c.sent) calls) a.0.bytes
    ∙ ap (λ (l : List ℕ). sent_bytes url t ++ l) (sent-in-all url ts calls a.1)
