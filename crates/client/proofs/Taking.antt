-- Calls that take a session on: none, one call, and calls after calls.
use Rattle.std.proofs.Common.{◌≡◌, ℕ, ◌+◌, ◌-◌, ◌<◌, ◌≤◌, ◌||◌, List, [], ◌∷◌, ◌++◌, length, get_or, take, drop, Ok, Err, Result, sym, refl, ap, ◌∙◌, subst, append_assoc, append-nil, add-zero, add_assoc, arith, length-append, length-drop, length-take-le}
use mathlib.Core.Bool.{or-false, or-true, or_assoc}
use Rattle.std.proofs.lemmas.List.{take_more}
use Rattle.std.proofs.lemmas.Slice.{between_to_end}
use borrow.Rule.Slice.PartMut.{put_mid, same_len_mid}
use Rattle.formula.specs.Trees.{Sheet}
use Rattle.refusal.specs.declared.Refusal.{Refusal}
use Rattle.meaning.specs.Terms.{fields_of}
use Rattle.reading.specs.declared.Reading.{Reading}
use Rattle.reading.specs.Answers.{answer_of, Right}
use Rattle.walk.specs.declared.answer.Tallies.{Tallies}
use Rattle.walk.specs.declared.answer.Answer.{Answer}
use Rattle.walk.specs.declared.answer.Answer.TheVariants as answer
use Rattle.walk.specs.Watching.{Watched}
use Rattle.walk.specs.Calls.{Lent, Nexts, Reads, Keeps, Closes}
use Rattle.walk.specs.Law as law
use Rattle.walk.specs.Law.{History, Stage, running, closed, replied}
use Rattle.client.specs.declared.call.Call.{Call}
use Rattle.client.specs.declared.call.Call.TheVariants as call
use Rattle.client.specs.declared.call.Taken.{Taken}
use Rattle.client.specs.Sessions.{calls_of, ended, numbers_in, put_at, Served, Stands, LeadsOn, Takes, noted, Draws}
use Rattle.client.proofs.Lists.{numbers_append, ended_append, put_none, put_more, put_part}

-- calls that reply nothing and fill nothing
pub takes_silent :
    (s : Sheet) (n : ℕ) (u : Served) (z : Stage) (t : Taken) (list ns : List ℕ) (cs : List Call) (z' : Stage)
    (ns' ps ws : List ℕ)
    → LeadsOn s n u z t.entries ns cs [] z' ns' ps ws
    → Takes s n u z t list ns cs z' t list ns' ps ws
takes_silent s n u z t list ns cs z' ns' ps ws leads = record {
  replies = [];
  leads_on = leads;
  entries = sym (add-zero t.entries);
  listed = sym (put_none t.entries list);
  finished = sym (or-false t.finished);
}

-- a walk that runs stands over its own trace lists
stands_running :
    {s : Sheet} {n : ℕ} {w v : Watched} (h : History s n w (running v))
    → Stands h v.picks v.widths
stands_running law.none = (refl, refl)
stands_running (law.next h x r marks p) = (refl, refl)
stands_running (law.draw h fuel waiting rest own own' r p e) = (refl, refl)
stands_running (law.check h m fuel r p) = (refl, refl)
stands_running (law.tally h k p) = (refl, refl)
stands_running (law.kept h e p) = (refl, refl)

pub takes_none :
    (s : Sheet) (n : ℕ) (u : Served) (v : Watched) (t : Taken) (list ns : List ℕ)
    → Takes s n u (running v) t list ns [] (running v) t list ns v.picks v.widths
takes_none s n u v t list ns =
    takes_silent s n u (running v) t list ns [] (running v) ns v.picks v.widths
    (λ w f h g e. (h, sym (append-nil (calls_of h)), sym (append-nil (law.replies h)), g, stands_running h))

pub takes_more :
    {s : Sheet} {n : ℕ} {u : Served} {z z₁ z₂ : Stage} {t t₁ t₂ : Taken} {list list₁ list₂ ns ns₁ ns₂ ps₁ ws₁ ps₂ ws₂ : List ℕ}
    {cs ds : List Call}
    → t.entries ≤ length list
    → Takes s n u z t list ns cs z₁ t₁ list₁ ns₁ ps₁ ws₁
    → Takes s n u z₁ t₁ list₁ ns₁ ds z₂ t₂ list₂ ns₂ ps₂ ws₂
    → Takes s n u z t list ns (cs ++ ds) z₂ t₂ list₂ ns₂ ps₂ ws₂
takes_more {s} {n} {u} {z} {z₁} {z₂} {t} {t₁} {t₂} {list} {list₁} {list₂} {ns} {ns₁} {ns₂} {ps₁} {ws₁} {ps₂} {ws₂} {cs} {ds} h a b =
    let xs = numbers_in a.replies in
    let ys = numbers_in b.replies in
    let both = numbers_append a.replies b.replies in
    record {
      replies = a.replies ++ b.replies;
      leads_on = λ w f g given k.
          let one = a.leads_on w f g given k in
          let k₁ : length (numbers_in (law.replies one.0)) ≡ t₁.entries =
          ap (λ q. length (numbers_in q)) one.2 ∙ ap length (numbers_append (law.replies g) a.replies)
          ∙ length-append (numbers_in (law.replies g)) xs ∙ ap (λ q. q + length xs) k ∙ sym a.entries in
          let two = b.leads_on w f one.0 one.3 k₁ in (
            two.0,
            two.1 ∙ ap (λ q. q ++ ds) one.1 ∙ append_assoc (calls_of g) cs ds,
            two.2 ∙ ap (λ q. q ++ b.replies) one.2 ∙ append_assoc (law.replies g) a.replies b.replies,
            two.3,
            two.4,
          );
      entries =
          b.entries ∙ ap (λ q. q + length ys) a.entries ∙ add_assoc t.entries (length xs) (length ys)
          ∙ ap (λ q. t.entries + q) (sym (ap length both ∙ length-append xs ys));
      listed =
          b.listed ∙ ap (λ q. put_at q ys list₁) a.entries
          ∙ ap (λ q. put_at (t.entries + length xs) ys q) a.listed
          ∙ put_more t.entries xs ys list h
          ∙ ap (λ q. put_at t.entries q list) (sym both);
      finished =
          b.finished ∙ ap (λ q. q || ended b.replies) a.finished
          ∙ or_assoc t.finished (ended a.replies) (ended b.replies)
          ∙ ap (λ q. t.finished || q) (sym (ended_append a.replies b.replies));
    }

-- a next is lent the lists of goals and of frames, and the list of marks past its first k entries
abbrev LentOf : Served → ℕ → Lent → Type 0
LentOf u k x = (x.goals ≡ u.goals) × (x.frames ≡ u.frames) × (k + length x.marks ≡ u.marks)

leads_next :
    (s : Sheet) (n : ℕ) (u : Served) (v v' : Watched) (k : ℕ) (ns : List ℕ) (x : Lent) (r : Result Answer Refusal)
    (marks : List ℕ)
    → LentOf u k x
    → Nexts s n v x r v' marks
    → LeadsOn s n u (running v) k ns (call.Next ∷ []) (replied n r marks) (running v') ns v'.picks v'.widths
leads_next s n u v v' k ns x r marks l p = λ w f h g e.
    (law.next h x r marks p, refl, refl, (g, l.0, l.1, ap (λ q. q + length x.marks) e ∙ l.2), (refl, refl))

-- what is lent of a list from a place on is as long as the list past it
part_long : (k : ℕ) (list part : List ℕ) → k ≤ length list → part ≡ drop k list → k + length part ≡ length list
part_long k list part h e =
    let long : length part ≡ length list - k = ap length e ∙ length-drop k list in
    omega arith

-- a next whose mark list is the list of marks from the filled entries on, with a sheet of f fields
takes_next :
    (s : Sheet) (n f : ℕ) (u : Served) (v v' : Watched) (x : Lent) (r : Result Answer Refusal) (t : Taken)
    (list marks ns : List ℕ)
    → LentOf u t.entries x
    → fields_of s ≡ f
    → t.entries ≤ length list
    → x.marks ≡ drop t.entries list
    → length marks ≡ length x.marks
    → Nexts s n v x r v' marks
    → Takes s n u (running v) t list ns (call.Next ∷ []) (running v') (noted f r t)
    (put_mid t.entries (length list - t.entries) list marks) ns v'.picks v'.widths
takes_next s n f u v v' x (Ok answer.Mark) t list marks ns lends d h e l p =
    let m = take n marks in
    let wide : length m ≡ n = length-take-le n marks (let room = p.roomy.mark in omega (arith, l)) in
    record {
      replies = replied n (Ok answer.Mark) marks;
      leads_on = leads_next s n u v v' t.entries ns x (Ok answer.Mark) marks lends p;
      entries = ap (λ q. t.entries + q) (sym d ∙ sym p.agree ∙ sym (ap length (append-nil m) ∙ wide));
      listed =
          put_part t.entries list x.marks marks m h e p.fills
          ∙ ap (λ q. put_at t.entries q list) (sym (append-nil m));
      finished = sym (or-false t.finished);
    }
takes_next s n f u v v' x (Ok answer.DeadEnd) t list marks ns lends d h e l p = record {
  replies = replied n (Ok answer.DeadEnd) marks;
  leads_on = leads_next s n u v v' t.entries ns x (Ok answer.DeadEnd) marks lends p;
  entries = sym (add-zero t.entries);
  listed = put_part t.entries list x.marks marks [] h e p.fills;
  finished = sym (or-false t.finished);
}
takes_next s n f u v v' x (Ok answer.Spent) t list marks ns lends d h e l p = record {
  replies = replied n (Ok answer.Spent) marks;
  leads_on = leads_next s n u v v' t.entries ns x (Ok answer.Spent) marks lends p;
  entries = sym (add-zero t.entries);
  listed = put_part t.entries list x.marks marks [] h e p.fills;
  finished = sym (or-false t.finished);
}
takes_next s n f u v v' x (Ok answer.Finished) t list marks ns lends d h e l p = record {
  replies = replied n (Ok answer.Finished) marks;
  leads_on = leads_next s n u v v' t.entries ns x (Ok answer.Finished) marks lends p;
  entries = sym (add-zero t.entries);
  listed = put_part t.entries list x.marks marks [] h e p.fills;
  finished = sym (or-true t.finished);
}
takes_next s n f u v v' x (Err refusal) t list marks ns lends d h e l p = record {
  replies = replied n (Err refusal) marks;
  leads_on = leads_next s n u v v' t.entries ns x (Err refusal) marks lends p;
  entries = sym (add-zero t.entries);
  listed = put_part t.entries list x.marks marks [] h e p.same_marks;
  finished = sym (or-false t.finished);
}

-- the same of what was noted
pub takes_noted :
    (s : Sheet) (n f : ℕ) (u : Served) (v v' : Watched) (x : Lent) (r : Result Answer Refusal) (t t' : Taken)
    (list marks ns : List ℕ)
    → x.goals ≡ u.goals
    → x.frames ≡ u.frames
    → length list ≡ u.marks
    → fields_of s ≡ f
    → t.entries ≤ length list
    → x.marks ≡ drop t.entries list
    → length marks ≡ length x.marks
    → Nexts s n v x r v' marks
    → t' ≡ noted f r t
    → Takes s n u (running v) t list ns (call.Next ∷ []) (running v') t'
    (put_mid t.entries (length list - t.entries) list marks) ns v'.picks v'.widths
takes_noted s n f u v v' x r t t' list marks ns goals frames wide d h e l p is =
    subst
    (λ (q : Taken). Takes s n u (running v) t list ns (call.Next ∷ []) (running v') q
    (put_mid t.entries (length list - t.entries) list marks) ns v'.picks v'.widths) (sym is)
    (takes_next s n f u v v' x r t list marks ns (goals, frames, part_long t.entries list x.marks h e ∙ wide) d h e l
    p)

-- a next that issues a mark found room for it
room_for :
    (s : Sheet) (n : ℕ) (v v' : Watched) (x : Lent) (r : Result Answer Refusal) (marks : List ℕ)
    → Nexts s n v x r v' marks
    → r ≡ Ok answer.Mark
    → fields_of s ≤ length x.marks
room_for s n v v' x r marks p is =
    let q = subst (λ (z : Result Answer Refusal). Nexts s n v x z v' marks) is p in
    let e = q.agree in
    let room = q.roomy.mark in
    omega arith

-- and in the list of marks, whose rest it was lent, for a sheet of f fields
pub room_left :
    (s : Sheet) (n f : ℕ) (v v' : Watched) (x : Lent) (r : Result Answer Refusal) (marks list : List ℕ) (k : ℕ)
    → Nexts s n v x r v' marks
    → fields_of s ≡ f
    → x.marks ≡ take (length list - k) (drop k list)
    → k ≤ length list
    → r ≡ Ok answer.Mark
    → k + f ≤ length list
room_left s n f v v' x r marks list k p fields lent h is =
    let wide : length x.marks ≡ length list - k =
    ap length lent ∙ ap length (between_to_end list k (length list) (omega arith)) ∙ length-drop k list in
    let room = room_for s n v v' x r marks p is in
    omega arith

-- so the entries that are filled afterwards stand in the list
pub noted_within :
    (f : ℕ) (r : Result Answer Refusal) (t : Taken) (k : ℕ)
    → t.entries ≤ k
    → (r ≡ Ok answer.Mark → t.entries + f ≤ k)
    → (noted f r t).entries ≤ k
noted_within f (Ok answer.Mark) t k h g = g refl
noted_within f (Ok answer.DeadEnd) t k h g = h
noted_within f (Ok answer.Spent) t k h g = h
noted_within f (Ok answer.Finished) t k h g = h
noted_within f (Err e) t k h g = h

-- also in a list whose lent part came back
pub noted_room :
    (f : ℕ) (r : Result Answer Refusal) (t t' : Taken) (list back : List ℕ)
    → t' ≡ noted f r t
    → length back ≡ length (take (length list - t.entries) (drop t.entries list))
    → t.entries ≤ length list
    → (r ≡ Ok answer.Mark → t.entries + f ≤ length list)
    → t'.entries ≤ length (put_mid t.entries (length list - t.entries) list back)
noted_room f r t t' list back is long h fits =
    let k = t.entries in
    let m = length list - k in
    let all : length (put_mid k m list back) ≡ length list = same_len_mid k m list back long in
    subst (λ (q : ℕ). q ≤ length (put_mid k m list back)) (sym (ap (λ q. q.entries) is))
    (subst (λ (q : ℕ). (noted f r t).entries ≤ q) (sym all) (noted_within f r t (length list) h fits))

-- a draw, over a store that keeps its starting set
pub takes_draw :
    (s : Sheet) (n : ℕ) (u : Served) (v v' : Watched) (t : Taken) (list ns ns' : List ℕ) (fuel : ℕ) (c : Call)
    → c ≡ call.Draw fuel
    → Draws s n v.starting fuel u.goals u.frames ns ns'
    → v' ≡ v
    → Takes s n u (running v) t list ns (c ∷ []) (running v') t list ns' v'.picks v'.widths
takes_draw s n u v v' t list ns ns' fuel c is d same =
    subst (λ (q : Call). Takes s n u (running v) t list ns (q ∷ []) (running v') t list ns' v'.picks v'.widths) (sym is)
    (takes_silent s n u (running v) t list ns (call.Draw fuel ∷ []) (running v') ns' v'.picks v'.widths
    (λ w f h g e. (
      law.draw h fuel ns ns' d.own d.own' d.result d.answers same,
      refl,
      sym (append-nil (law.replies h)),
      (g, refl, d.lists),
      (refl, refl),
    )))

-- a check of the mark asked for
pub takes_check :
    (s : Sheet) (n : ℕ) (u : Served) (v : Watched) (t : Taken) (list ns m : List ℕ) (fuel : ℕ)
    (r : Result Reading Refusal) (c : Call)
    → c ≡ call.Check fuel
    → m ≡ u.asked
    → Right s m fuel (answer_of r)
    → Takes s n u (running v) t list ns (c ∷ []) (running v) t list ns v.picks v.widths
takes_check s n u v t list ns m fuel r c is asked p =
    subst (λ (q : Call). Takes s n u (running v) t list ns (q ∷ []) (running v) t list ns v.picks v.widths) (sym is)
    (takes_silent s n u (running v) t list ns (call.Check fuel ∷ []) (running v) ns v.picks v.widths
    (λ w f h g e. (law.check h m fuel r p, refl, sym (append-nil (law.replies h)), (g, asked), (refl, refl))))

-- a tally
pub takes_tally :
    (s : Sheet) (n : ℕ) (u : Served) (v : Watched) (t : Taken) (list ns : List ℕ) (k : Tallies) (c : Call)
    → c ≡ call.Tally
    → Reads v k
    → Takes s n u (running v) t list ns (c ∷ []) (running v) t list ns v.picks v.widths
takes_tally s n u v t list ns k c is p =
    subst (λ (q : Call). Takes s n u (running v) t list ns (q ∷ []) (running v) t list ns v.picks v.widths) (sym is)
    (takes_silent s n u (running v) t list ns (call.Tally ∷ []) (running v) ns v.picks v.widths
    (λ w f h g e. (law.tally h k p, refl, sym (append-nil (law.replies h)), g, (refl, refl))))

-- a close that is refused
pub takes_kept :
    (s : Sheet) (n : ℕ) (u : Served) (v v' : Watched) (t : Taken) (list ns : List ℕ) (e : Refusal)
    → Keeps v e v'
    → Takes s n u (running v) t list ns (call.Close ∷ []) (running v') t list ns v'.picks v'.widths
takes_kept s n u v v' t list ns e p =
    takes_silent s n u (running v) t list ns (call.Close ∷ []) (running v') ns v'.picks v'.widths
    (λ w f h g k. (law.kept h e p, refl, sym (append-nil (law.replies h)), g, (refl, refl)))

-- a close that is not
pub takes_close :
    (s : Sheet) (n : ℕ) (u : Served) (v : Watched) (t : Taken) (list ns : List ℕ) (k : Tallies)
    → Closes v k
    → Takes s n u (running v) t list ns (call.Close ∷ []) (closed k) t list ns v.picks v.widths
takes_close s n u v t list ns k p =
    takes_silent s n u (running v) t list ns (call.Close ∷ []) (closed k) ns v.picks v.widths
    (λ w f h g e. (law.close h k p, refl, sym (append-nil (law.replies h)), g, (refl, refl)))

-- one call more of those that are given
pub takes_on :
    {s : Sheet} {n : ℕ} (n₁ : ℕ) {u : Served} (u₁ : Served) {z z₁ z₂ : Stage} {t t₁ t₂ : Taken}
    {list list₁ list₂ ns ns₁ ns₂ ps₁ ws₁ ps₂ ws₂ : List ℕ} (given : List Call) (i : ℕ) (c : Call)
    → n₁ ≡ n
    → u₁ ≡ u
    → i < length given
    → get_or given i call.Next ≡ c
    → t.entries ≤ length list
    → Takes s n u z t list ns (take i given) z₁ t₁ list₁ ns₁ ps₁ ws₁
    → Takes s n₁ u₁ z₁ t₁ list₁ ns₁ (c ∷ []) z₂ t₂ list₂ ns₂ ps₂ ws₂
    → Takes s n u z t list ns (take (i + 1) given) z₂ t₂ list₂ ns₂ ps₂ ws₂
takes_on {s} {n} n₁ {u} u₁ {z} {z₁} {z₂} {t} {t₁} {t₂} {list} {list₁} {list₂} {ns} {ns₁} {ns₂} {ps₁} {ws₁} {ps₂} {ws₂} given i c same
    served h is room a b =
    let more : take i given ++ (c ∷ []) ≡ take (i + 1) given =
    ap (λ (q : Call). take i given ++ (q ∷ [])) (sym is) ∙ sym (take_more given i call.Next h) in
    subst (λ (q : List Call). Takes s n u z t list ns q z₂ t₂ list₂ ns₂ ps₂ ws₂) more
    (takes_more room a
    (subst (λ (q : Served). Takes s n q z₁ t₁ list₁ ns₁ (c ∷ []) z₂ t₂ list₂ ns₂ ps₂ ws₂) served
    (subst (λ (q : ℕ). Takes s q u₁ z₁ t₁ list₁ ns₁ (c ∷ []) z₂ t₂ list₂ ns₂ ps₂ ws₂) same b)))
