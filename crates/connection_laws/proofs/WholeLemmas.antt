-- The exchanges of a connection.
use Rattle.std.proofs.Common.{◌≡◌, ℕ, ◌+◌, List, [], ◌∷◌, ◌++◌, length, take, Option, None, Some, refl, sym, ap, subst, ◌∙◌, append_assoc, append-nil, inl, inr, arith}
use Rattle.std.proofs.Math.Seq.{take-append_seam}
use Rattle.audit_core.specs.Offers.{Due, offers_due}
use Rattle.audit_core.specs.Owed.{owed}
use Rattle.audit_core.specs.declared.offers.OfferNote.{OfferNote}
use Rattle.audit_core.specs.declared.settings.Settings.{Settings}
use Rattle.connection_laws.specs.Whole.{AreNotesOf, CanLeave, EachOffered, IsOffered, Tells, due_in, offered_in, offered_of, offers_in}
use Rattle.event_offers.specs.Lanes.{LanesState}
use Rattle.event_offers.specs.Offering.{OffersAll}
use Rattle.front_ports.specs.Cause.{Rose}
use Rattle.front_ports.specs.Told.{Adds}
use Rattle.http_edge.specs.declared.request.Request.{Request}
use Rattle.session_core.specs.Bays.{BayState}
use Rattle.session_core.specs.Connection.{ConnState, Ran, Serves, ServedBroken, HaltsAt}
use Rattle.session_core.specs.Exchange.{ExchangedTo, Unbegun}
use Rattle.session_core.specs.declared.conn_end.ConnEnd.{ConnEnd}
use Rattle.session_core.specs.declared.conn_end.ConnEnd.TheVariants as conn_end
use Rattle.session_core.specs.declared.exchange.Exchange.{Exchange}
use Rattle.stream_relay.specs.declared.stream.Relayed.{Relayed}
use Rattle.stream_relay.specs.declared.stream.Relayed.TheVariants as relayed

abbrev pub Join : Type 0
Join = (these those : List Due) (m k n : LanesState) (notes more : List OfferNote)
    → OffersAll these m notes k → OffersAll those k more n → OffersAll (these ++ those) m (notes ++ more) n

adds_join : {T : Type 0} (a b c : Option (List T)) (xs ys : List T) → Adds a b xs → Adds b c ys → Adds a c (xs ++ ys)
adds_join None b c xs ys h k = subst (λ o. Adds o c ys) h k
adds_join (Some l) b c xs ys h k =
    (subst (λ o. Adds o c ys) h k) ∙ ap Some (append_assoc l xs ys)

adds_none : {T : Type 0} (a : Option (List T)) → Adds a a []
adds_none None = refl
adds_none (Some xs) = ap Some (sym (append-nil xs))

due_append : (set : Settings) (xs ys : List Exchange) → due_in set (xs ++ ys) ≡ due_in set xs ++ due_in set ys
due_append set [] ys = refl
due_append set (x ∷ xs) ys =
    ap (λ l. offers_due set (owed x.decision x.facts) ++ l) (due_append set xs ys)
    ∙ sym (append_assoc (offers_due set (owed x.decision x.facts)) (due_in set xs) (due_in set ys))

offered_append : (set : Settings) (xs ys : List Exchange) → offered_in set (xs ++ ys) ≡ offered_in set xs ++ offered_in set ys
offered_append set [] ys = refl
offered_append set (x ∷ xs) ys =
    ap (λ l. offered_of set x ++ l) (offered_append set xs ys)
    ∙ sym (append_assoc (offered_of set x) (offered_in set xs) (offered_in set ys))

-- something became of each offer that was made
all_noted : (dues : List Due) (m : LanesState) (notes : List OfferNote) (n : LanesState) → OffersAll dues m notes n → length notes ≡ length dues
all_noted [] m notes n h = ap length h.0
all_noted (due ∷ dues) m notes n h = let later = all_noted dues h.2 h.1 n h.5 in let e = ap length h.4 in omega (arith, e, later)

-- so what was offered of what is due is its first part of that length
first_offered : (all due rest : List Due) (m : LanesState) (notes : List OfferNote) (n : LanesState) → all ≡ due ++ rest → OffersAll due m notes n
    → due ≡ take (length notes) all
first_offered all due rest m notes n e h =
    sym (take-append_seam due rest) ∙ (ap (λ l. take (length due) l) (sym e) ∙ ap (λ k. take k all) (sym (all_noted due m notes n h)))

offers_append : (xs ys : List Exchange) → offers_in (xs ++ ys) ≡ offers_in xs ++ offers_in ys
offers_append [] ys = refl
offers_append (x ∷ xs) ys =
    ap (λ l. x.offers ++ l) (offers_append xs ys) ∙ sym (append_assoc x.offers (offers_in xs) (offers_in ys))

length_append : (xs ys : List Exchange) → length (xs ++ ys) ≡ length xs + length ys
length_append [] ys = omega arith
length_append (x ∷ xs) ys = omega (arith, length_append xs ys)

-- and it is noted what became of each
all_notes : (dues : List Due) (m : LanesState) (notes : List OfferNote) (n : LanesState) → OffersAll dues m notes n → AreNotesOf dues notes
all_notes [] m notes n h = h.0
all_notes (due ∷ dues) m notes n h = (h.0, h.1, h.4, all_notes dues h.2 h.1 n h.5)

-- ---- one after another

each_join : (set : Settings) (xs ys : List Exchange) (rest : List Due) → EachOffered set xs [] → EachOffered set ys rest
    → EachOffered set (xs ++ ys) rest
each_join set [] ys rest h k = k
each_join set (x ∷ []) [] rest h k = subst (λ r. IsOffered set x r) (sym k) h
each_join set (x ∷ []) (y ∷ ys) rest h k = (h, k)
each_join set (x ∷ z ∷ more) ys rest h k = (h.0, each_join set (z ∷ more) ys rest h.1 k)

tells_none : (set : Settings) (m : BayState) → Tells set m m [] []
tells_none set m = record {
  due_is = refl;
  each = refl;
  offered = (refl, refl);
  noted = adds_none m.notes;
  number_is = omega arith;
}

tells_join : Join → (set : Settings) (m k n : BayState) (xs ys : List Exchange) (rest : List Due)
    → Tells set m k xs [] → Tells set k n ys rest → Tells set m n (xs ++ ys) rest
tells_join join set m k n xs ys rest h j = record {
  due_is = due_append set xs ys
      ∙ ap (λ l. l ++ due_in set ys) (h.due_is ∙ append-nil (offered_in set xs))
      ∙ ap (λ l. offered_in set xs ++ l) j.due_is
      ∙ sym (append_assoc (offered_in set xs) (offered_in set ys) rest)
      ∙ ap (λ l. l ++ rest) (sym (offered_append set xs ys));
  each = each_join set xs ys rest h.each j.each;
  offered = subst (λ l. OffersAll (offered_in set (xs ++ ys)) m.lanes l n.lanes) (sym (offers_append xs ys))
      (subst (λ d. OffersAll d m.lanes (offers_in xs ++ offers_in ys) n.lanes) (sym (offered_append set xs ys))
      (join (offered_in set xs) (offered_in set ys) m.lanes k.lanes n.lanes (offers_in xs) (offers_in ys) h.offered j.offered));
  noted = adds_join m.notes k.notes n.notes xs ys h.noted j.noted;
  number_is = omega (arith, h.number_is, j.number_is, length_append xs ys);
}

tells_one : (set : Settings) (m n : BayState) (x : Exchange) (due rest : List Due)
    → offers_due set (owed x.decision x.facts) ≡ due ++ rest → OffersAll due m.lanes x.offers n.lanes
    → Adds m.notes n.notes (x ∷ []) → n.number ≡ m.number + 1 → Tells set m n (x ∷ []) rest
tells_one set m n x due rest e h noted number =
    let is = first_offered (offers_due set (owed x.decision x.facts)) due rest m.lanes x.offers n.lanes e h in
    record {
      due_is = append-nil (offers_due set (owed x.decision x.facts))
          ∙ (e ∙ ap (λ l. l ++ rest) (is ∙ sym (append-nil (offered_of set x))));
      each = record {
        due_is = e ∙ ap (λ l. l ++ rest) is;
        notes = subst (λ d. AreNotesOf d x.offers) is (all_notes due m.lanes x.offers n.lanes h);
      };
      offered = subst (λ l. OffersAll (offered_in set (x ∷ [])) m.lanes l n.lanes) (sym (append-nil x.offers))
          (subst (λ d. OffersAll d m.lanes x.offers n.lanes) (is ∙ sym (append-nil (offered_of set x))) h);
      noted = noted;
      number_is = number;
    }

tells_exchanged : (set : Settings) (peer : List ℕ) (r : Request) (m : BayState) (text : List ℕ) (n : BayState) (end : Relayed) (x : Exchange)
    → ExchangedTo set peer r m text n end x → Tells set m n (x ∷ []) []
tells_exchanged set peer r m text n end x h =
    tells_one set m n x (offers_due set (owed x.decision x.facts)) []
    (sym (append-nil (offers_due set (owed x.decision x.facts)))) h.offered h.noted h.number_is

ran_tells : Join → (set : Settings) (peer : List ℕ) (m : BayState) (rs : List Request) (out : List ℕ) (n : BayState) (xs : List Exchange)
    → Ran set peer m rs out n xs → Tells set m n xs []
ran_tells join set peer m [] out n xs h =
    subst (λ ys. Tells set m n ys []) (sym h.2) (subst (λ s. Tells set m s [] []) (sym h.1) (tells_none set m))
ran_tells join set peer m (r ∷ rs) out n xs h =
    subst (λ zs. Tells set m n zs []) (sym h.7)
    (tells_join join set m h.2 n (h.3 ∷ []) h.4 [] (tells_exchanged set peer r m h.0 h.2 relayed.Done h.3 h.5)
    (ran_tells join set peer h.2 rs h.1 n h.4 h.8))

-- ---- how it ends

abbrev pub Told : Settings → BayState → BayState → ConnEnd → List Exchange → Type 0
Told set m n end xs = (rest : List Due) × Tells set m n xs rest × CanLeave end rest

unbegun_tells : (set : Settings) (m n : BayState) (w0 w : Option (List ℕ)) → Unbegun m n w0 w → Tells set m n [] []
unbegun_tells set m n w0 w h = record {
  due_is = refl;
  each = refl;
  offered = (refl, ap (λ (s : BayState). s.lanes) h.same);
  noted = subst (λ o. Adds m.notes o []) (sym (ap (λ (s : BayState). s.notes) h.same)) (adds_none m.notes);
  number_is = omega (arith, ap (λ (s : BayState). s.number) h.same);
}

halts_tell : (set : Settings) (peer : List ℕ) (left : Option (List ℕ)) (rs : List Request) (m n : BayState) (w0 w : Option (List ℕ))
    (rose : Type 0) (xs : List Exchange) → HaltsAt set peer left rs m n w0 w rose xs → (rest : List Due) × Tells set m n xs rest
halts_tell set peer left rs m n w0 w rose xs (inl h) =
    ([], subst (λ ys. Tells set m n ys []) (sym h.0) (unbegun_tells set m n w0 w h.1))
halts_tell set peer left rs m n w0 w rose xs (inr h) =
    let halted = h.4 in (
      halted.rest,
      subst (λ ys. Tells set m n ys halted.rest) (sym h.2)
          (tells_one set m n h.1 halted.due halted.rest halted.due_is halted.offered halted.noted halted.number_is),
    )

-- the first ones, and one more
last_tells : Join → (set : Settings) (peer : List ℕ) (m k n : BayState) (rs : List Request) (out : List ℕ) (before : List Exchange) (r : Request)
    (text : List ℕ) (end : Relayed) (x : Exchange) (xs : List Exchange) → Ran set peer m rs out k before → ExchangedTo set peer r k text n end x
    → xs ≡ before ++ x ∷ [] → Tells set m n xs []
last_tells join set peer m k n rs out before r text end x xs h own e =
    subst (λ ys. Tells set m n ys []) (sym e)
    (tells_join join set m k n before (x ∷ []) [] (ran_tells join set peer m rs out k before h) (tells_exchanged set peer r k text n end x own))

broken : Join → (set : Settings) (peer : List ℕ) (m n : BayState) (c d : ConnState) (end : Relayed) (xs : List Exchange)
    → ServedBroken set peer m n c d end xs → Tells set m n xs []
broken join set peer m n c d end xs h =
    last_tells join set peer m h.middle n h.requests h.out h.before h.last h.text end h.x xs h.ran h.broken h.exchanges_are

pub told_whole : Join → (set : Settings) (peer : List ℕ) (m n : BayState) (c d : ConnState) (end : ConnEnd) (xs : List Exchange)
    → Serves set peer m n c d end xs → Told set m n end xs
told_whole join set peer m n c d (conn_end.Stopped end) xs h = ([], ran_tells join set peer m h.requests h.out n xs h.ran, refl)
told_whole join set peer m n c d conn_end.ReadFault xs h = ([], ran_tells join set peer m h.0.requests h.0.out n xs h.0.ran, refl)
told_whole join set peer m n c d conn_end.WriteFault xs h = (
  [],
  last_tells join set peer m h.0.middle n h.0.requests h.0.out h.0.before h.0.last h.0.text relayed.WriteFault h.0.x xs h.0.ran h.0.cut
      h.0.exchanges_are,
  refl,
)
told_whole join set peer m n c d conn_end.BackendCut xs h = ([], broken join set peer m n c d relayed.BackendCut xs h, refl)
told_whole join set peer m n c d conn_end.StreamSpent xs h = ([], broken join set peer m n c d relayed.StreamSpent xs h, refl)
told_whole join set peer m n c d conn_end.NumbersSpent xs h = ([], ran_tells join set peer m h.requests h.out n xs h.ran, refl)
told_whole join set peer m n c d conn_end.NoMemory xs h =
    let end = halts_tell set peer c.left h.requests h.middle n h.so_far d.written (Rose c.write_faults d.write_faults) h.last h.halts in (
      end.0,
      subst (λ ys. Tells set m n ys end.0) (sym h.exchanges_are)
          (tells_join join set m h.middle n h.before h.last end.0 (ran_tells join set peer m h.requests h.out h.middle h.before h.ran) end.1),
      tt,
    )
