-- What a session leaves, by the law of its walk.
use Rattle.std.proofs.Common.{◌≡◌, ℕ, Bool, true, false, List, [], ◌∷◌, ◌++◌, length, Some, None, Option, sym, refl, ap, ◌∙◌, subst, inl, inr, zero-add, arith}
use Rattle.formula.specs.Trees.{Sheet}
use Rattle.marks.specs.Sets.{Marks}
use Rattle.meaning.specs.Reading.{Allowed}
use Rattle.meaning.specs.Walks.{WholeWalk}
use Rattle.walk.specs.declared.answer.Tallies.{Tallies}
use Rattle.run.specs.declared.lists.Lists.{Lists as Borrowed}
use Rattle.walk.specs.declared.state.Walk.{Walk}
use Rattle.walk.specs.Watching.{Watched, Fresh}
use Rattle.walk.specs.Lending.{watch_over}
use Rattle.walk.specs.Calls.{Reply, gives, finished}
use Rattle.walk.specs.Law as law
use Rattle.walk.specs.Law.{Law, History, Stage, running, closed, Among}
use Rattle.client.specs.declared.call.Call.{Call}
use Rattle.client.specs.declared.call.Taken.{Taken}
use Rattle.client.specs.Sessions.{ended, numbers_in, put_at, Served, served, Takes, FiguresAre, CallsMade, Conducted}
use Rattle.client.proofs.Taking.{takes_none}

-- nothing taken yet
abbrev pub nothing : Taken
nothing = record { entries = 0; finished = false }

abbrev took : ℕ → Bool → Taken
took k b = record { entries = k; finished = b }

-- no call takes a session from nothing to what has no entry and is not finished
pub takes_nothing :
    (s : Sheet) (n : ℕ) (u : Served) (v : Watched) (t : Taken) (list ns : List ℕ)
    → t.entries ≡ 0
    → t.finished ≡ false
    → Takes s n u (running v) nothing list ns [] (running v) t list ns v.picks v.widths
takes_nothing s n u v t list ns e f =
    subst (λ (x : Taken). Takes s n u (running v) nothing list ns [] (running v) x list ns v.picks v.widths)
    (sym (ap (λ k. took k t.finished) e ∙ ap (λ b. took 0 b) f)) (takes_none s n u v nothing list ns)

among_ended : (rs : List Reply) → Among finished rs → ended rs ≡ true
among_ended [] h = elim h [ ]
among_ended (gives a ∷ rs) (inl e) = let z : ◌≡◌ {A = ℕ} 0 1 = cc in absurd (omega arith)
among_ended (gives a ∷ rs) (inr h) = among_ended rs h
among_ended (finished ∷ rs) h = refl

ended_among : (rs : List Reply) → ended rs ≡ true → Among finished rs
ended_among [] e = let z : ◌≡◌ {A = ℕ} 0 1 = cc in omega arith
ended_among (gives a ∷ rs) e = inr (ended_among rs e)
ended_among (finished ∷ rs) e = inl refl

-- a session whose calls led to the stage z
conducted :
    (s : Sheet) (n fuel : ℕ) (S : Marks) (w : Walk) (asked : List ℕ) (cs given : List Call) (z : Stage) (t : Taken)
    (figures : Option Tallies) (before after : Borrowed) (ns ns' : List ℕ)
    → Law s n (watch_over w S before)
    → Fresh (watch_over w S before)
    → w.fuel ≡ fuel
    → (k :
    Takes s n (served asked before) (running (watch_over w S before)) nothing before.mark.now ns cs z t
    after.mark.now ns' after.picks.now after.widths.now)
    → CallsMade figures cs given
    → FiguresAre figures (law.replies (k.leads_on (watch_over w S before) ns law.none refl refl).0)
    → Conducted s n fuel S asked given before ns (record { taken = t; figures = figures }) after ns'
conducted s n fuel S w asked cs given z t figures before after ns ns' l fresh f k called figured =
    let led = k.leads_on (watch_over w S before) ns law.none refl refl in
    let h = led.0 in
    let all : law.replies h ≡ k.replies = led.2 in
    record {
      walk = w;
      fuel_is = f;
      fresh = fresh;
      stage = z;
      history = h;
      called = subst (λ (q : List Call). CallsMade figures q given) (sym led.1) called;
      given = led.3;
      stands = led.4;
      entries = k.entries ∙ zero-add _ ∙ ap (λ q. length (numbers_in q)) (sym all);
      listed = k.listed ∙ ap (λ q. put_at 0 (numbers_in q) before.mark.now) (sym all);
      finished = k.finished ∙ ap ended (sym all);
      figures = figured;
      as_defined = λ o walked i h'.
          l.as_defined o (subst (λ q. WholeWalk s q S o) (sym f) walked) h i h';
      differ = l.no_mark_twice h;
      allowed = λ m a.
          let p = l.each_allowed h m a in
          (p.0, subst (λ q. Allowed s q m) f p.1);
      complete = λ d m i a.
          l.none_missing h
          (ended_among (law.replies h) (ap ended all ∙ sym k.finished ∙ d)) m
          i (subst (λ q. Allowed s q m) (sym f) a);
    }

-- a session that made all its calls
pub conducted_all :
    (s : Sheet) (n fuel : ℕ) (S : Marks) (w v : Walk) (P : Marks) (asked : List ℕ) (cs given : List Call) (t : Taken)
    (before after : Borrowed) (ns ns' : List ℕ)
    → Law s n (watch_over w S before)
    → Fresh (watch_over w S before)
    → w.fuel ≡ fuel
    → cs ≡ given
    → Takes s n (served asked before) (running (watch_over w S before)) nothing before.mark.now ns cs
    (running (watch_over v P after)) t after.mark.now ns' after.picks.now after.widths.now
    → Conducted s n fuel S asked given before ns (record { taken = t; figures = None }) after ns'
conducted_all s n fuel S w v P asked cs given t before after ns ns' l fresh f called k =
    conducted s n fuel S w asked cs given (running (watch_over v P after)) t None before after ns ns' l fresh f k
    called tt

-- a session that closed its walk
pub conducted_closed :
    (s : Sheet) (n fuel : ℕ) (S : Marks) (w : Walk) (asked : List ℕ) (cs rest given : List Call) (t : Taken)
    (figures : Tallies) (before after : Borrowed) (ns ns' : List ℕ)
    → Law s n (watch_over w S before)
    → Fresh (watch_over w S before)
    → w.fuel ≡ fuel
    → Takes s n (served asked before) (running (watch_over w S before)) nothing before.mark.now ns cs
    (closed figures) t after.mark.now ns' after.picks.now after.widths.now
    → given ≡ cs ++ rest
    → Conducted s n fuel S asked given before ns (record { taken = t; figures = Some figures }) after ns'
conducted_closed s n fuel S w asked cs rest given t figures before after ns ns' l fresh f k called =
    let h = (k.leads_on (watch_over w S before) ns law.none refl refl).0 in
    conducted s n fuel S w asked cs given (closed figures) t (Some figures) before after ns ns' l fresh f k
    (rest, called) (l.tallied h, among_ended (law.replies h) (l.closed_finished h))
