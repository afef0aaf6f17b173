-- Each step keeps the rule.
use Rattle.std.proofs.Common.{◌≡◌, ◌≢◌, ◌⊎◌, inl, inr, cond, not, Bool, ◌==◌, ◌-◌, ℕ, zero, suc, ◌+◌, ◌≤◌, ◌<◌, true, false, true≢false, List, [], ◌∷◌, ◌++◌, length, set, sym, refl, ap, ◌∙◌, subst, ⊎_elim, append_assoc, append-nil, length-append, get_or, sum, arith, lt_of_not-le}
use Rattle.std.specs.List.{filter}
use Rattle.std.proofs.lemmas.List.Elements.{filter-append}
use Rattle.std.proofs.lemmas.Bool.Decides.{nat_tests}
use Rattle.std.proofs.lemmas.Bool.{eq-eqb, ne_eqb}
use Rattle.std.proofs.lemmas.List.Filters.{length-filter_both}
use Rattle.std.proofs.lemmas.List.Sums.{sum_by-cons}
use mathlib.Core.Option.{Option, some, none, some-ne-none, some-injective}
use lib.ListN.{get_elem?}
use native.Mathlib.Decide.{ℕ_discrete, dec_le}
use Rattle.crossbeam_queue.specs.Fifo.{Pushes, Pops, Forks, Merges, Learns}
use Rattle.crossbeam_queue.proofs.Lists.{at_set, set_here, set_else, at_longer, at_last}
use Rattle.front_base.specs.Line.{Line}
use Rattle.shared_queue.specs.declared.views.EndedLane.{EndedLane}
use Rattle.shared_queue.specs.declared.views.View.{View}
use Rattle.shared_queue.specs.Bays.{of_bay}
use Rattle.shared_queue.specs.Rule.{opening, spent, pushed, popped, with_lane, new_lane, without_outlet, new_outlet, end_of, with_ended, with_outlet, FitsLane, FitsEnded, FitsMaker, Fits, Alive, Kept, Accounts, MayPush, Crowded, with_allotments}

-- a line of the bay joins its lines
pub of_same : (b : ℕ) (xs : List Line) (x : Line) → x.bay ≡ b → of_bay b (xs ++ x ∷ []) ≡ of_bay b xs ++ x ∷ []
of_same b xs x e = grind (arith, nat_tests, filter-append)

-- and a line of another bay does not
pub of_other : (b : ℕ) (xs : List Line) (x : Line) → x.bay ≢ b → of_bay b (xs ++ x ∷ []) ≡ of_bay b xs
of_other b xs x e = grind (arith, nat_tests, filter-append, append-nil)

-- what holds of each view
abbrev All : (ℕ → View → Type 0) → List View → Type 0
All F views = (pass : ℕ) (v : View) → get_elem? views pass ≡ some v → F pass v

all_set : (F : ℕ → View → Type 0) (views : List View) (port : ℕ) (w : View) → F port w → ((j : ℕ) (u : View) → j ≢ port → get_elem? views j ≡ some u → F j u) → All F (set views port w)
all_set F views port w mine others j u e = ⊎_elim (λ (x : (j ≡ port) × (w ≡ u)). subst (λ (y : ℕ × View). F y.0 y.1) (λ i. (sym x.0 i, x.1 i)) mine)
    (λ (x : (j ≢ port) × (get_elem? views j ≡ some u)). others j u x.0 x.1) (at_set views port j w u e)

-- a place that is there
there : (l : List View) (i : ℕ) (a : View) → get_elem? l i ≡ some a → i < length l
there [] i a e = absurd (some-ne-none a (sym e))
there (x ∷ xs) zero a e = omega arith
there (x ∷ xs) (suc i) a e = omega (arith, there xs i a e)

here_now : (l : List View) (i : ℕ) (a w : View) → get_elem? l i ≡ some a → get_elem? (set l i w) i ≡ some w
here_now l i a w e = set_here l i w (there l i a e)

-- the seats stay alive where a view changes and still pushes for the same bay
alive_set : (seat : ℕ → Option ℕ) (views : List View) (port : ℕ) (v w : View) → get_elem? views port ≡ some v → ((b : ℕ) → seat b ≡ some port → v.pushes ≡ true → v.bay ≡ b → (w.pushes ≡ true) × (w.bay ≡ b)) → Alive seat views → Alive seat (set views port w)
alive_set seat views port v w at keeps alive b p e = let a = alive b p e in elim (ℕ_discrete p port) [
  | yes is ↦ let same : v ≡ a.0 = some-injective v a.0 (sym at ∙ (ap (λ q. get_elem? views q) (sym is) ∙ a.1)) in
      let k = keeps b (e ∙ ap some is) (ap (λ (y : View). y.pushes) same ∙ a.2) (ap (λ (y : View). y.bay) same ∙ a.3) in
      (w, ap (λ q. get_elem? (set views port w) q) is ∙ here_now views port v w at, k.0, k.1)
  | no other ↦ (a.0, set_else views port p w other ∙ a.1, a.2, a.3)
]

at_end : (l : List View) (a b : View) (j : ℕ) → get_elem? l j ≢ some b → get_elem? (l ++ a ∷ []) j ≡ some b → j ≡ length l
at_end [] a b zero n e = refl
at_end [] a b (suc j) n e = absurd (some-ne-none b (sym e))
at_end (x ∷ xs) a b zero n e = absurd (n e)
at_end (x ∷ xs) a b (suc j) n e = ap suc (at_end xs a b j n e)

-- the lines of a bay that no pass with that seat pushes are as before
others_same : (seat : ℕ → Option ℕ) (all : List Line) (x : Line) (port b : ℕ) → seat x.bay ≡ some port → seat b ≢ some port → of_bay b (all ++ x ∷ []) ≡ of_bay b all
others_same seat all x port b here other = of_other b all x (λ e. other (ap seat (sym e) ∙ here))

is_some : (a b : ℕ) → some a ≡ some b → a ≡ b
is_some a b e = some-injective a b e

lane_on : (allotments : List ℕ) (seat : ℕ → Option ℕ) (all : List Line) (x : Line) (port j : ℕ) (u : View) → seat x.bay ≡ some port → j ≢ port → FitsLane allotments seat all j u → FitsLane allotments seat (all ++ x ∷ []) j u
lane_on allotments seat all x port j u here other f = record {
  same = f.same;
  seated = f.seated;
  accepted = f.accepted ∙ sym (others_same seat all x port u.bay here (λ e. other (is_some j port (sym f.seated ∙ e))));
}

ended_on : (seat : ℕ → Option ℕ) (all : List Line) (x : Line) (port : ℕ) (e : EndedLane) → seat x.bay ≡ some port → FitsEnded seat all e → FitsEnded seat (all ++ x ∷ []) e
ended_on seat all x port e here f = record {
  unseated = f.unseated;
  accepted = f.accepted ∙ sym (others_same seat all x port e.bay here (λ h. some-ne-none port (sym h ∙ f.unseated)));
}

maker_on : (allotments : List ℕ) (maker : ℕ) (seat : ℕ → Option ℕ) (all : List Line) (x : Line) (port j : ℕ) (u w : View) → seat x.bay ≡ some port → w.allotments ≡ u.allotments → w.made ≡ u.made → w.ended ≡ u.ended → FitsMaker allotments maker seat all j u → FitsMaker allotments maker seat (all ++ x ∷ []) j w
maker_on allotments maker seat all x port j u w here same made ended f = record {
  same = same ∙ f.same;
  makes = f.makes;
  later = λ b le. let l = f.later b (subst (λ n. n ≤ b) made le) in (l.0, others_same seat all x port b here (λ h. some-ne-none port (sym h ∙ l.0)) ∙ l.1);
  given = λ b lt. let P : ℕ → List EndedLane → Type 0 = λ n es. b < n → ((p : ℕ) × (seat b ≡ some p)) ⊎ ((k : ℕ) × (e : EndedLane) × (get_elem? es k ≡ some e) × (e.bay ≡ b)) in
      subst (λ (y : ℕ × List EndedLane). P y.0 y.1) (λ i. (sym made i, sym ended i)) (f.given b) lt;
  each = λ k e at. let old = f.each k e (subst (λ es. get_elem? es k ≡ some e) ended at) in
      (subst (λ n. e.bay < n) (sym made) old.0, ended_on seat all x port e here old.1);
}

within_push : (allotments : List ℕ) (all : List Line) (v : View) (x : Line) → x.bay ≡ v.bay → v.allotments ≡ allotments → v.accepted ≡ of_bay v.bay all → MayPush v → ((b : ℕ) → length (of_bay b all) ≤ get_or allotments b 0) → (b : ℕ) → length (of_bay b (all ++ x ∷ [])) ≤ get_or allotments b 0
within_push allotments all v x mine same acc room within b = elim (ℕ_discrete x.bay b) [
  | yes is ↦ let e : v.bay ≡ b = sym mine ∙ is in
      let n : length (of_bay b (all ++ x ∷ [])) ≡ length (of_bay b all) + 1 = ap length (of_same b all x is) ∙ length-append (of_bay b all) (x ∷ []) in
      let a : length v.accepted ≡ length (of_bay b all) = ap length (acc ∙ ap (λ k. of_bay k all) e) in
      let g : get_or v.allotments v.bay 0 ≡ get_or allotments b 0 = (λ i. get_or (same i) (e i) 0) in
      omega (arith, room, n, a, g)
  | no other ↦ subst (λ (ys : List Line). length ys ≤ get_or allotments b 0) (sym (of_other b all x other)) (within b)
]

pub pushes : (n port : ℕ) (v : View) (x : Line) → v.pushes ≡ true → x.bay ≡ v.bay → MayPush v → Pushes Kept n port v x (λ w. w ≡ pushed v x)
pushes n port v x may mine room items views _ h at =
    let w : View = pushed v x in
    let f = h.fits port v at in
    let all : List Line = h.got ++ items in
    let l = f.lane may in
    let here : h.seat x.bay ≡ some port = ap h.seat mine ∙ l.seated in
    let next : (h.got ++ (items ++ x ∷ [])) ≡ all ++ x ∷ [] = sym (append_assoc h.got items (x ∷ [])) in
    let F : ℕ → View → Type 0 = Fits h.allotments h.maker h.reader h.seat h.got (all ++ x ∷ []) in
    let own : F port w = record {
      lane = λ _. record { same = l.same; seated = l.seated; accepted = ap (λ (ys : List Line). ys ++ x ∷ []) l.accepted ∙ sym (of_same v.bay all x mine) };
      outlet = λ p. record { reads = (f.outlet p).reads; taken = (f.outlet p).taken };
      maker_is = λ p. maker_on h.allotments h.maker h.seat all x port port v w here refl refl refl (f.maker_is p);
    } in
    let rest : (j : ℕ) (u : View) → j ≢ port → get_elem? views j ≡ some u → F j u = λ j u other e. let g = h.fits j u e in record {
      lane = λ p. lane_on h.allotments h.seat all x port j u here other (g.lane p);
      outlet = g.outlet;
      maker_is = λ p. maker_on h.allotments h.maker h.seat all x port j u u here refl refl refl (g.maker_is p);
    } in (
      w,
      record {
        allotments = h.allotments;
        maker = h.maker;
        reader = h.reader;
        seat = h.seat;
        got = h.got;
        fits = subst (λ ys. All (Fits h.allotments h.maker h.reader h.seat h.got ys) (set views port w)) (sym next) (all_set F views port w own rest);
        within = λ b. subst (λ ys. length (of_bay b ys) ≤ get_or h.allotments b 0) (sym next) (within_push h.allotments all v x mine l.same l.accepted room h.within b);
        alive = alive_set h.seat views port v w at (λ b _ p e. (p, e)) h.alive;
      },
      refl,
    )

pub begins : Kept [] (opening ∷ [])
begins = record {
  allotments = [];
  maker = 0;
  reader = 0;
  seat = λ _. none;
  got = [];
  fits = all_set (Fits [] 0 0 (λ _. none) [] []) (opening ∷ []) 0 opening
      (record {
        lane = λ p. absurd (true≢false (sym p));
        outlet = λ _. record { reads = refl; taken = refl };
        maker_is = λ _. record { same = refl; makes = refl; later = λ b le. (refl, refl); given = λ b lt. absurd (omega arith); each = λ k e at. absurd (some-ne-none e (sym at)) };
      })
      (λ j u other e. absurd (other (at_end [] opening u j (λ x. some-ne-none u (sym x)) e)));
  alive = λ b p e. absurd (some-ne-none p (sym e));
  within = λ b. omega arith;
}

pub pops : (port : ℕ) (v : View) → v.pops ≡ true → Pops Kept port v (λ x w. w ≡ popped v x)
pops port v may x items views h at =
    let w : View = popped v x in
    let f = h.fits port v at in
    let got : List Line = h.got ++ x ∷ [] in
    let next : (h.got ++ (x ∷ items)) ≡ got ++ items = sym (append_assoc h.got (x ∷ []) items) in
    let F : ℕ → View → Type 0 = Fits h.allotments h.maker h.reader h.seat got (h.got ++ (x ∷ items)) in
    let o = f.outlet may in
    let own : F port w = record {
      lane = λ p. record { same = (f.lane p).same; seated = (f.lane p).seated; accepted = (f.lane p).accepted };
      outlet = λ _. record { reads = o.reads; taken = ap (λ (ys : List Line). ys ++ x ∷ []) o.taken };
      maker_is = λ p. record { same = (f.maker_is p).same; makes = (f.maker_is p).makes; later = (f.maker_is p).later; given = (f.maker_is p).given; each = (f.maker_is p).each };
    } in
    let rest : (j : ℕ) (u : View) → j ≢ port → get_elem? views j ≡ some u → F j u = λ j u other e. let g = h.fits j u e in record {
      lane = g.lane;
      outlet = λ p. absurd (other ((g.outlet p).reads ∙ sym o.reads));
      maker_is = g.maker_is;
    } in (
      w,
      record {
        allotments = h.allotments;
        maker = h.maker;
        reader = h.reader;
        seat = h.seat;
        got = got;
        fits = subst (λ ys. All (Fits h.allotments h.maker h.reader h.seat got ys) (set views port w)) next (all_set F views port w own rest);
        within = λ b. subst (λ ys. length (of_bay b ys) ≤ get_or h.allotments b 0) next (h.within b);
        alive = alive_set h.seat views port v w at (λ b _ p e. (p, e)) h.alive;
      },
      refl,
    )

pub accounts : (port : ℕ) (v : View) → v.makes ≡ true → v.pops ≡ true → Learns Kept port v (Accounts v)
accounts port v makes may items views h at =
    let f = h.fits port v at in
    let taken = (f.outlet may).taken in
    let m = f.maker_is makes in
    record {
      ended = λ k e ek. (m.each k e ek).1.accepted ∙ ap (λ ys. of_bay e.bay (ys ++ items)) (sym taken);
      later = λ b le. ap (λ ys. of_bay b (ys ++ items)) taken ∙ (m.later b le).1;
    }

-- a seat given, or taken away
abbrev put_seat : (ℕ → Option ℕ) → ℕ → Option ℕ → ℕ → Option ℕ
put_seat seat m o b = cond (b == m) o (seat b)

put_here : (seat : ℕ → Option ℕ) (m : ℕ) (o : Option ℕ) (b : ℕ) → b ≡ m → put_seat seat m o b ≡ o
put_here seat m o b e = grind (arith, nat_tests)

put_else : (seat : ℕ → Option ℕ) (m : ℕ) (o : Option ℕ) (b : ℕ) → b ≢ m → put_seat seat m o b ≡ seat b
put_else seat m o b e = grind (arith, nat_tests)

-- a place in a longer list is an old one or the last
at_split : {A : Type 0} (l : List A) (a b : A) (j : ℕ) → get_elem? (l ++ a ∷ []) j ≡ some b → (get_elem? l j ≡ some b) ⊎ ((j ≡ length l) × (a ≡ b))
at_split [] a b zero e = inr (refl, some-injective a b e)
at_split [] a b (suc j) e = absurd (some-ne-none b (sym e))
at_split (x ∷ xs) a b zero e = inl e
at_split (x ∷ xs) a b (suc j) e = ⊎_elim (λ h. inl h) (λ h. inr (ap suc h.0, h.1)) (at_split xs a b j e)

all_snoc : (F : ℕ → View → Type 0) (views : List View) (w : View) → All F views → F (length views) w → All F (views ++ w ∷ [])
all_snoc F views w old new j u e = ⊎_elim (λ (h : get_elem? views j ≡ some u). old j u h)
    (λ (h : (j ≡ length views) × (w ≡ u)). subst (λ (y : ℕ × View). F y.0 y.1) (λ i. (sym h.0 i, h.1 i)) new) (at_split views w u j e)

lane_seat : (seat : ℕ → Option ℕ) (m b j : ℕ) (o : Option ℕ) → seat b ≡ some j → seat m ≡ none → put_seat seat m o b ≡ some j
lane_seat seat m b j o e n = put_else seat m o b (λ is. some-ne-none j (sym e ∙ (ap seat is ∙ n))) ∙ e

put_none : (seat : ℕ → Option ℕ) (m b : ℕ) → seat b ≡ none → put_seat seat m none b ≡ none
put_none seat m b e = elim (ℕ_discrete b m) [ yes is ↦ put_here seat m none b is | no other ↦ put_else seat m none b other ∙ e ]

pub forks_lane : (port : ℕ) (v : View) → v.makes ≡ true → Forks Kept port v (with_lane v) (new_lane v)
forks_lane port v makes items views h at =
    let l : View = with_lane v in
    let r : View = new_lane v in
    let vs : List View = set views port l in
    let n : ℕ = length vs in
    let all : List Line = h.got ++ items in
    let f = h.fits port v at in
    let m = f.maker_is makes in
    let free = m.later v.made (omega arith) in
    let seat' : ℕ → Option ℕ = put_seat h.seat v.made (some n) in
    let F : ℕ → View → Type 0 = Fits h.allotments h.maker h.reader seat' h.got all in
    let keep : (u : View) (j : ℕ) → FitsLane h.allotments h.seat all j u → FitsLane h.allotments seat' all j u = λ u j t. record { same = t.same; seated = lane_seat h.seat v.made u.bay j (some n) t.seated free.0; accepted = t.accepted } in
    let own : F port l = record {
      lane = λ p. record { same = (keep v port (f.lane p)).same; seated = (keep v port (f.lane p)).seated; accepted = (f.lane p).accepted };
      outlet = λ p. record { reads = (f.outlet p).reads; taken = (f.outlet p).taken };
      maker_is = λ _. record {
        same = m.same;
        makes = m.makes;
        later = λ b le. let old = m.later b (omega arith) in (put_else h.seat v.made (some n) b (λ e. omega arith) ∙ old.0, old.1);
        given = λ b lt. elim (ℕ_discrete b v.made) [
          | yes is ↦ inl (n, put_here h.seat v.made (some n) b is)
          | no other ↦ ⊎_elim (λ (x : (p : ℕ) × (h.seat b ≡ some p)). inl (x.0, put_else h.seat v.made (some n) b other ∙ x.1)) (λ x. inr x) (m.given b (omega arith))
        ];
        each = λ k e ek. let old = m.each k e ek in (omega arith, record { unseated = put_else h.seat v.made (some n) e.bay (λ is. omega arith) ∙ old.1.unseated; accepted = old.1.accepted });
      };
    } in
    let rest : (j : ℕ) (u : View) → j ≢ port → get_elem? views j ≡ some u → F j u = λ j u other e. let g = h.fits j u e in record {
      lane = λ p. keep u j (g.lane p);
      outlet = g.outlet;
      maker_is = λ p. absurd (other ((g.maker_is p).makes ∙ sym m.makes));
    } in
    let new : F n r = record {
      lane = λ _. record { same = m.same; seated = put_here h.seat v.made (some n) v.made refl; accepted = sym free.1 };
      outlet = λ p. absurd (true≢false (sym p));
      maker_is = λ p. absurd (true≢false (sym p));
    } in
    record {
      allotments = h.allotments;
      maker = h.maker;
      reader = h.reader;
      seat = seat';
      got = h.got;
      fits = all_snoc F vs r (all_set F views port l own rest) new;
      within = h.within;
      alive = λ b p e. elim (ℕ_discrete b v.made) [
        | yes is ↦ let same : n ≡ p = some-injective n p (sym (put_here h.seat v.made (some n) b is) ∙ e) in
            (r, ap (λ q. get_elem? (vs ++ r ∷ []) q) (sym same) ∙ at_last vs r n refl, refl, sym is)
        | no other ↦ let a = alive_set h.seat views port v l at (λ b _ p e. (p, e)) h.alive b p (sym (put_else h.seat v.made (some n) b other) ∙ e) in
            (a.0, at_longer vs (r ∷ []) p a.0 a.1, a.2, a.3)
      ];
    }

pub forks_outlet : (port : ℕ) (v : View) → v.pops ≡ true → Forks Kept port v (without_outlet v) (new_outlet v)
forks_outlet port v may items views h at =
    let l : View = without_outlet v in
    let r : View = new_outlet v in
    let vs : List View = set views port l in
    let n : ℕ = length vs in
    let all : List Line = h.got ++ items in
    let f = h.fits port v at in
    let o = f.outlet may in
    let F : ℕ → View → Type 0 = Fits h.allotments h.maker n h.seat h.got all in
    let own : F port l = record {
      lane = λ p. record { same = (f.lane p).same; seated = (f.lane p).seated; accepted = (f.lane p).accepted };
      outlet = λ p. absurd (true≢false (sym p));
      maker_is = λ p. record { same = (f.maker_is p).same; makes = (f.maker_is p).makes; later = (f.maker_is p).later; given = (f.maker_is p).given; each = (f.maker_is p).each };
    } in
    let rest : (j : ℕ) (u : View) → j ≢ port → get_elem? views j ≡ some u → F j u = λ j u other e. let g = h.fits j u e in record {
      lane = g.lane;
      outlet = λ p. absurd (other ((g.outlet p).reads ∙ sym o.reads));
      maker_is = g.maker_is;
    } in
    let new : F n r = record {
      lane = λ p. absurd (true≢false (sym p));
      outlet = λ _. record { reads = refl; taken = o.taken };
      maker_is = λ p. absurd (true≢false (sym p));
    } in
    record {
      allotments = h.allotments;
      maker = h.maker;
      reader = n;
      seat = h.seat;
      got = h.got;
      fits = all_snoc F vs r (all_set F views port l own rest) new;
      within = h.within;
      alive = λ b p e. let a = alive_set h.seat views port v l at (λ b _ p e. (p, e)) h.alive b p e in (a.0, at_longer vs (r ∷ []) p a.0 a.1, a.2, a.3);
    }

pub below_or : (a b : ℕ) → (a < b) ⊎ (b ≤ a)
below_or a b = elim (dec_le b a) [ yes le ↦ inr le | no n ↦ inl (lt_of_not-le n) ]

pub merges_lane : (port : ℕ) (v : View) (other : ℕ) (w : View) → v.makes ≡ true → w.pushes ≡ true → Merges Kept port v other w (with_ended v w) spent
merges_lane port v other w makes pushes items views h at two at' =
    let both : View = with_ended v w in
    let vs : List View = set views port both in
    let all : List Line = h.got ++ items in
    let was : get_elem? views other ≡ some w = ⊎_elim (λ (x : (other ≡ port) × (both ≡ w)). absurd (two x.0)) (λ x. x.1) (at_set views port other both w at') in
    let f = h.fits port v at in
    let m = f.maker_is makes in
    let t = (h.fits other w was).lane pushes in
    let seat' : ℕ → Option ℕ = put_seat h.seat w.bay none in
    let below : w.bay < v.made = ⊎_elim (λ x. x) (λ le. absurd (some-ne-none other (sym t.seated ∙ (m.later w.bay le).0))) (below_or w.bay v.made) in
    let apart : (b j : ℕ) → h.seat b ≡ some j → j ≢ other → b ≢ w.bay = λ b j e not is. not (some-injective j other (sym e ∙ (ap h.seat is ∙ t.seated))) in
    let F : ℕ → View → Type 0 = Fits h.allotments h.maker h.reader seat' h.got all in
    let keep : (u : View) (j : ℕ) → j ≢ other → FitsLane h.allotments h.seat all j u → FitsLane h.allotments seat' all j u = λ u j not x. record { same = x.same; seated = put_else h.seat w.bay none u.bay (apart u.bay j x.seated not) ∙ x.seated; accepted = x.accepted } in
    let own : F port both = record {
      lane = λ p. let k = keep v port (λ e. two (sym e)) (f.lane p) in record { same = k.same; seated = k.seated; accepted = k.accepted };
      outlet = λ p. record { reads = (f.outlet p).reads; taken = (f.outlet p).taken };
      maker_is = λ _. record {
        same = m.same;
        makes = m.makes;
        later = λ b le. let old = m.later b le in (put_none h.seat w.bay b old.0, old.1);
        given = λ b lt. elim (ℕ_discrete b w.bay) [
          | yes is ↦ inr (length v.ended, end_of w, at_last v.ended (end_of w) (length v.ended) refl, sym is)
          | no not ↦ ⊎_elim (λ (x : (p : ℕ) × (h.seat b ≡ some p)). inl (x.0, put_else h.seat w.bay none b not ∙ x.1))
              (λ (x : (k : ℕ) × (e : EndedLane) × (get_elem? v.ended k ≡ some e) × (e.bay ≡ b)). inr (x.0, x.1, at_longer v.ended (end_of w ∷ []) x.0 x.1 x.2, x.3)) (m.given b lt)
        ];
        each = λ k e ek. ⊎_elim (λ (x : get_elem? v.ended k ≡ some e). let old = m.each k e x in (old.0, record { unseated = put_none h.seat w.bay e.bay old.1.unseated; accepted = old.1.accepted }))
            (λ (x : (k ≡ length v.ended) × (end_of w ≡ e)). subst (λ (y : EndedLane). (y.bay < v.made) × FitsEnded seat' all y) x.1 (below, record { unseated = put_here h.seat w.bay none w.bay refl; accepted = t.accepted }))
            (at_split v.ended (end_of w) e k ek);
      };
    } in
    let G : ℕ → View → Type 0 = λ j y. j ≢ other → F j y in
    let now : All G vs = all_set G views port both (λ _. own) (λ j y far e not. let g = h.fits j y e in record {
      lane = λ p. keep y j not (g.lane p);
      outlet = g.outlet;
      maker_is = λ p. absurd (far ((g.maker_is p).makes ∙ sym m.makes));
    }) in
    let gone : F other spent = record { lane = λ p. absurd (true≢false (sym p)); outlet = λ p. absurd (true≢false (sym p)); maker_is = λ p. absurd (true≢false (sym p)) } in
    record {
      allotments = h.allotments;
      maker = h.maker;
      reader = h.reader;
      seat = seat';
      got = h.got;
      fits = all_set F vs other spent gone (λ j y not e. now j y e not);
      within = h.within;
      alive = λ b p e. elim (ℕ_discrete b w.bay) [
        | yes is ↦ absurd (some-ne-none p (sym e ∙ put_here h.seat w.bay none b is))
        | no not ↦ let e' : h.seat b ≡ some p = sym (put_else h.seat w.bay none b not) ∙ e in
            let a = alive_set h.seat views port v both at (λ b _ p e. (p, e)) h.alive b p e' in
            let far : p ≢ other = λ is. let same : w ≡ a.0 = some-injective w a.0 (sym at' ∙ (ap (λ q. get_elem? vs q) (sym is) ∙ a.1)) in not (sym a.3 ∙ ap (λ (y : View). y.bay) (sym same)) in
            (a.0, set_else vs other p spent far ∙ a.1, a.2, a.3)
      ];
    }

-- the outlet's pass is no lane
pub merges_outlet : (port : ℕ) (v : View) (other : ℕ) (w : View) → w.pops ≡ true → w.pushes ≡ false → w.makes ≡ false → Merges Kept port v other w (with_outlet v w) spent
merges_outlet port v other w pops idle small items views h at two at' =
    let both : View = with_outlet v w in
    let vs : List View = set views port both in
    let all : List Line = h.got ++ items in
    let was : get_elem? views other ≡ some w = ⊎_elim (λ (x : (other ≡ port) × (both ≡ w)). absurd (two x.0)) (λ x. x.1) (at_set views port other both w at') in
    let f = h.fits port v at in
    let o = (h.fits other w was).outlet pops in
    let F : ℕ → View → Type 0 = Fits h.allotments h.maker port h.seat h.got all in
    let own : F port both = record {
      lane = λ p. record { same = (f.lane p).same; seated = (f.lane p).seated; accepted = (f.lane p).accepted };
      outlet = λ _. record { reads = refl; taken = o.taken };
      maker_is = λ p. record { same = (f.maker_is p).same; makes = (f.maker_is p).makes; later = (f.maker_is p).later; given = (f.maker_is p).given; each = (f.maker_is p).each };
    } in
    let G : ℕ → View → Type 0 = λ j y. j ≢ other → F j y in
    let now : All G vs = all_set G views port both (λ _. own) (λ j y far e not. let g = h.fits j y e in record {
      lane = g.lane;
      outlet = λ p. absurd (not ((g.outlet p).reads ∙ sym o.reads));
      maker_is = g.maker_is;
    }) in
    let gone : F other spent = record { lane = λ p. absurd (true≢false (sym p)); outlet = λ p. absurd (true≢false (sym p)); maker_is = λ p. absurd (true≢false (sym p)) } in
    record {
      allotments = h.allotments;
      maker = h.maker;
      reader = port;
      seat = h.seat;
      got = h.got;
      fits = all_set F vs other spent gone (λ j y not e. now j y e not);
      within = h.within;
      alive = λ b p e. let a = alive_set h.seat views port v both at (λ b _ p e. (p, e)) h.alive b p e in
          let far : p ≢ other = λ is. let same : w ≡ a.0 = some-injective w a.0 (sym at' ∙ (ap (λ q. get_elem? vs q) (sym is) ∙ a.1)) in
          true≢false (sym a.2 ∙ (ap (λ (y : View). y.pushes) (sym same) ∙ idle)) in
          (a.0, set_else vs other p spent far ∙ a.1, a.2, a.3);
    }

-- the maker sets all allotments, before it made a lane
pub sets_allotments : (allotments : List ℕ) (port : ℕ) (v : View) → v.makes ≡ true → v.pops ≡ true → v.pushes ≡ false → v.made ≡ 0 → Forks Kept port v (with_allotments allotments v) spent
sets_allotments allotments port v makes may idle none_made items views h at =
    let l : View = with_allotments allotments v in
    let vs : List View = set views port l in
    let all : List Line = h.got ++ items in
    let f = h.fits port v at in
    let m = f.maker_is makes in
    let empty : (b : ℕ) → (h.seat b ≡ none) × (of_bay b all ≡ []) = λ b. m.later b (omega arith) in
    let F : ℕ → View → Type 0 = Fits allotments h.maker h.reader h.seat h.got all in
    let own : F port l = record {
      lane = λ p. absurd (true≢false (sym p ∙ idle));
      outlet = λ p. record { reads = (f.outlet p).reads; taken = (f.outlet p).taken };
      maker_is = λ p. record { same = refl; makes = m.makes; later = m.later; given = m.given; each = m.each };
    } in
    let rest : (j : ℕ) (u : View) → j ≢ port → get_elem? views j ≡ some u → F j u = λ j u other e. let g = h.fits j u e in record {
      lane = λ p. absurd (some-ne-none j (sym (g.lane p).seated ∙ (empty u.bay).0));
      outlet = g.outlet;
      maker_is = λ p. absurd (other ((g.maker_is p).makes ∙ sym m.makes));
    } in
    let gone : F (length vs) spent = record { lane = λ p. absurd (true≢false (sym p)); outlet = λ p. absurd (true≢false (sym p)); maker_is = λ p. absurd (true≢false (sym p)) } in
    record {
      allotments = allotments;
      maker = h.maker;
      reader = h.reader;
      seat = h.seat;
      got = h.got;
      fits = all_snoc F vs spent (all_set F views port l own rest) gone;
      alive = λ b p e. absurd (some-ne-none p (sym e ∙ (empty b).0));
      within = λ b. let z : length (of_bay b all) ≡ 0 = ap length (empty b).1 in omega arith;
    }

skip_one : (b : ℕ) (x : Line) (xs : List Line) → x.bay ≢ b → of_bay b (x ∷ xs) ≡ of_bay b xs
skip_one b x xs e = grind (arith, nat_tests)

first_one : (b : ℕ) (x : Line) (xs : List Line) → x.bay ≡ b → of_bay b (x ∷ xs) ≡ x ∷ of_bay b xs
first_one b x xs e = grind (arith, nat_tests)

keep_one : (b : ℕ) (x : Line) (xs ys : List Line) → of_bay b xs ≡ of_bay b ys → of_bay b (x ∷ xs) ≡ of_bay b (x ∷ ys)
keep_one b x xs ys e = elim (ℕ_discrete x.bay b) [
  | yes is ↦ first_one b x xs is ∙ (ap (λ (l : List Line). x ∷ l) e ∙ sym (first_one b x ys is))
  | no other ↦ skip_one b x xs other ∙ (e ∙ sym (skip_one b x ys other))
]

none_here : (x : Line) (xs : List Line) (o : ℕ) → ((b : ℕ) → b < o → of_bay b (x ∷ xs) ≡ []) → ((b : ℕ) → length (of_bay (b + o) (x ∷ xs)) ≤ 0) → ⊥
none_here x xs o low part = ⊎_elim
    (λ (lt : x.bay < o). let e : x ∷ of_bay x.bay xs ≡ [] = sym (first_one x.bay x xs refl) ∙ low x.bay lt in cc)
    (λ (le : o ≤ x.bay). let k : (x.bay - o) + o ≡ x.bay = omega arith in
    let n : length (of_bay x.bay (x ∷ xs)) ≤ 0 = subst (λ b. length (of_bay b (x ∷ xs)) ≤ 0) k (part (x.bay - o)) in
    let m : length (of_bay x.bay (x ∷ xs)) ≡ suc (length (of_bay x.bay xs)) = ap length (first_one x.bay x xs refl) in omega arith)
    (below_or x.bay o)

-- the lines of a bay, among those of other bays than o
pub part_other : (b o : ℕ) (items : List Line) → b ≢ o → of_bay b (filter (λ (x : Line). not (x.bay == o)) items) ≡ of_bay b items
part_other b o [] n = refl
part_other b o (x ∷ xs) n = elim (ℕ_discrete x.bay o) [
  | yes is ↦ let t : (x.bay == o) ≡ true = eq-eqb x.bay o is in
      let m : x.bay ≢ b = (λ e. n (sym e ∙ is)) in
      (ap (λ (c : Bool). of_bay b (cond (not c) (x ∷ filter (λ (x : Line). not (x.bay == o)) xs) (filter (λ (x : Line). not (x.bay == o)) xs))) t ∙ part_other b o xs n) ∙ sym (skip_one b x xs m)
  | no other ↦ let t : (x.bay == o) ≡ false = ne_eqb x.bay o other in
      ap (λ (c : Bool). of_bay b (cond (not c) (x ∷ filter (λ (x : Line). not (x.bay == o)) xs) (filter (λ (x : Line). not (x.bay == o)) xs))) t ∙ keep_one b x (filter (λ (x : Line). not (x.bay == o)) xs) xs (part_other b o xs n)
]

part_own : (o : ℕ) (items : List Line) → of_bay o (filter (λ (x : Line). not (x.bay == o)) items) ≡ []
part_own o [] = refl
part_own o (x ∷ xs) = elim (ℕ_discrete x.bay o) [
  | yes is ↦ let t : (x.bay == o) ≡ true = eq-eqb x.bay o is in
      ap (λ (c : Bool). of_bay o (cond (not c) (x ∷ filter (λ (x : Line). not (x.bay == o)) xs) (filter (λ (x : Line). not (x.bay == o)) xs))) t ∙ part_own o xs
  | no other ↦ let t : (x.bay == o) ≡ false = ne_eqb x.bay o other in
      (ap (λ (c : Bool). of_bay o (cond (not c) (x ∷ filter (λ (x : Line). not (x.bay == o)) xs) (filter (λ (x : Line). not (x.bay == o)) xs))) t ∙ skip_one o x (filter (λ (x : Line). not (x.bay == o)) xs) other) ∙ part_own o xs
]

low_more : (b o : ℕ) (items : List Line) → b < o + 1 → (b < o → of_bay b items ≡ []) → of_bay b (filter (λ (x : Line). not (x.bay == o)) items) ≡ []
low_more b o items lt low = elim (ℕ_discrete b o) [
  | yes is ↦ rw is (part_own o items)
  | no other ↦ part_other b o items other ∙ low (omega arith)
]

sum_cons : (q : ℕ) (qs : List ℕ) → sum (q ∷ qs) ≡ q + sum qs
sum_cons q qs = sum_by-cons (λ x. x) q qs

-- a list of lines of bays from o on is no longer than the allotments of its parts together
pub counted : (qs : List ℕ) (o : ℕ) (items : List Line) → ((b : ℕ) → b < o → of_bay b items ≡ []) → ((b : ℕ) → length (of_bay (b + o) items) ≤ get_or qs b 0) → length items ≤ sum qs
counted [] o [] low part = omega arith
counted [] o (x ∷ xs) low part = absurd (none_here x xs o low (λ b. part b))
counted (a ∷ qs) o items low part =
    let f : Line → Bool = λ x. x.bay == o in
    let g : Line → Bool = λ x. not (x.bay == o) in
    let others : List Line = filter g items in
    let both = length-filter_both f g (λ x. refl) items in
    let rest : length others ≤ sum qs = counted qs (o + 1) others
    (λ b lt. low_more b o items lt (low b))
    (λ b. let e : b + (o + 1) ≡ suc b + o = omega arith in let n : b + (o + 1) ≢ o = (λ z. omega arith) in
    subst (λ (ys : List Line). length ys ≤ get_or qs b 0) (sym (part_other (b + (o + 1)) o items n)) (subst (λ k. length (of_bay k items) ≤ get_or qs b 0) (sym e) (part (suc b)))) in
    let own : length (of_bay o items) ≤ a = let z : 0 + o ≡ o = omega arith in subst (λ k. length (of_bay k items) ≤ a) z (part 0) in
    omega (arith, sum_cons a qs, both, rest, own)

part_set : (qs : List ℕ) (k a b n : ℕ) → (b ≡ k → n ≤ a) → n ≤ get_or qs b 0 → n ≤ get_or (set qs k a) b 0
part_set [] k a b n here every = every
part_set (q ∷ qs) zero a zero n here every = here refl
part_set (q ∷ qs) zero a (suc b) n here every = every
part_set (q ∷ qs) (suc k) a zero n here every = every
part_set (q ∷ qs) (suc k) a (suc b) n here every = part_set qs k a b n (λ e. here (ap suc e)) every

sum_set : (qs : List ℕ) (k a : ℕ) → sum (set qs k a) + get_or qs k 0 ≤ a + sum qs
sum_set [] k a = omega arith
sum_set (q ∷ qs) zero a = omega (arith, sum_cons a qs, sum_cons q qs)
sum_set (q ∷ qs) (suc k) a = omega (arith, sum_cons q (set qs k a), sum_cons q qs, sum_set qs k a)

pub crowds : (port : ℕ) (v : View) → v.pushes ≡ true → Learns Kept port v (Crowded v)
crowds port v may items views h at =
    let l = (h.fits port v at).lane may in
    let a : ℕ = length v.accepted in
    let qs : List ℕ = set h.allotments v.bay a in
    let part : (b : ℕ) → length (of_bay b items) ≤ length (of_bay b (h.got ++ items)) = λ b. omega (arith, ap length (filter-append (λ (x : Line). x.bay == b) h.got items), length-append (of_bay b h.got) (of_bay b items)) in
    let each : (b : ℕ) → length (of_bay (b + 0) items) ≤ get_or qs b 0 = λ b. let z : b + 0 ≡ b = omega arith in
    subst (λ k. length (of_bay k items) ≤ get_or qs b 0) (sym z) (part_set h.allotments v.bay a b (length (of_bay b items)) (λ e. let p = part b in omega (arith, ap length (l.accepted ∙ ap (λ k. of_bay k (h.got ++ items)) (sym e)))) (let p = part b in let w = h.within b in omega arith)) in
    let n : length items ≤ sum qs = counted qs 0 items (λ b lt. absurd (omega arith)) each in
    let c : sum qs + get_or h.allotments v.bay 0 ≤ a + sum h.allotments = sum_set h.allotments v.bay a in
    subst (λ (bs : List ℕ). length items + get_or bs v.bay 0 ≤ a + sum bs) (sym l.same) (omega arith)
