-- The lines of a listing so far, and the whole listing once finished is answered.
use Rattle.std.proofs.Common.{◌≡◌, ℕ, zero, suc, ◌<◌, ◌≤◌, List, [], ◌∷◌, ◌++◌, length, take, get_or, Ok, Option, sym, refl, ap, ◌∙◌, subst, inl, inr, append_assoc, append-nil, not-suc-le-zero, arith}
use Rattle.std.specs.Io.KnownBytes.{Appends}
use Rattle.formula.specs.Trees.{Sheet}
use Rattle.marks.specs.Sets.{Marks}
use Rattle.meaning.specs.Terms.{fields_of}
use Rattle.meaning.specs.Runs.{Outcome, mark, dead_end, spent_run}
use Rattle.lines.specs.Lines.{mark_text}
use Rattle.walk.specs.declared.answer.Answer.{Answer}
use Rattle.walk.specs.declared.answer.Answer.TheVariants as answer
use Rattle.walk.specs.declared.answer.Tallies.{Tallies}
use Rattle.walk.specs.Watching.{Watched}
use Rattle.walk.specs.Calls.{Reply, gives, finished, Lent, Nexts}
use Rattle.walk.specs.Law as law
use Rattle.walk.specs.Law.{Law, History, running, outcomes, counts, made, replied, defined, Among}
use Rattle.walk.proofs.Telling.{outcomes_append, among_back}
use Rattle.streams.proofs.Appending.{nothing_more, and_more}
use Rattle.list.specs.Listings.{mark_lines, figures_line, Listed}
use Rattle.list.specs.Steps.{NextLine, answer_text}

-- lines of marks

lines_append : (l k : List Outcome) → mark_lines (l ++ k) ≡ mark_lines l ++ mark_lines k
lines_append [] k = refl
lines_append (mark m ∷ l) k =
    ap (λ q. mark_text m ++ q) (lines_append l k) ∙ sym (append_assoc (mark_text m) (mark_lines l) (mark_lines k))
lines_append (dead_end ∷ l) k = lines_append l k
lines_append (spent_run ∷ l) k = lines_append l k

answer_lines :
    (n : ℕ) (a : Answer) (marks : List ℕ)
    → answer_text a (take n marks) ≡ mark_lines (outcomes (replied n (Ok a) marks))
answer_lines n answer.Mark marks = sym (append-nil (mark_text (take n marks)))
answer_lines n answer.DeadEnd marks = refl
answer_lines n answer.Spent marks = refl
answer_lines n answer.Finished marks = refl

-- nexts led the walk w to v, and the lines of the marks that they issued were written
pub record SoFar (s : Sheet) (n : ℕ) (w v : Watched) (before after : Option (List ℕ)) : Type 0 where
  pub history : History s n w (running v)
  pub appends : Appends before after (mark_lines (made history))

pub none_yet : (s : Sheet) (n : ℕ) (w : Watched) (before : Option (List ℕ)) → SoFar s n w w before before
none_yet s n w before = record { history = law.none; appends = nothing_more before }

pub one_more :
    {s : Sheet} {n n₁ : ℕ} {w v v' : Watched} {before between after : Option (List ℕ)} {a : Answer}
    → n₁ ≡ n
    → SoFar s n w v before between
    → NextLine s n₁ v between a v' after
    → SoFar s n w v' before after
one_more {s} {n} {n₁} {w} {v} {v'} {before} {between} {after} {a} same so more =
    let line = subst (λ (k : ℕ). NextLine s k v between a v' after) same more in
    let told = replied n (Ok a) line.marks in
    let lines : mark_lines (outcomes (law.replies so.history ++ told))
    ≡ mark_lines (made so.history) ++ answer_text a (take n line.marks) =
    ap mark_lines (outcomes_append (law.replies so.history) told)
    ∙ lines_append (made so.history) (outcomes told)
    ∙ ap (λ q. mark_lines (made so.history) ++ q) (sym (answer_lines n a line.marks)) in
    record {
      history = law.next so.history line.lent (Ok a) line.marks line.next;
      appends = subst (Appends before after) (sym lines) (and_more before between after _ _ so.appends line.appends);
    }

-- a next whose line was written from the first f numbers of the mark list, with a sheet of f fields
pub line_told :
    {s : Sheet} {n f g : ℕ} {v v' : Watched} {x : Lent} {a : Answer} {marks : List ℕ}
    (before after : Option (List ℕ))
    → fields_of s ≡ g
    → f ≡ g
    → Nexts s n v x (Ok a) v' marks
    → Appends before after (answer_text a (take f marks))
    → NextLine s n v before a v' after
line_told {s} {n} {f} {g} {v} {v'} {x} {a} {marks} before after d e p line = record {
  lent = x;
  marks = marks;
  next = p;
  appends = subst (λ k. Appends before after (answer_text a (take k marks))) (e ∙ sym d ∙ sym p.agree) line;
}

none_at : {A : Type 0} (xs : List A) → length xs ≤ 0 → xs ≡ []
none_at [] h = refl
none_at (x ∷ xs) h = absurd (not-suc-le-zero h)

-- replies that follow a list of outcomes, with finished among them and no more outcomes than that list, tell all of it
all_told :
    (rs : List Reply) (l : List Outcome)
    → ((k : ℕ) → k < length rs → get_or rs k finished ≡ defined l k)
    → Among finished rs
    → length (outcomes rs) ≤ length l
    → outcomes rs ≡ l
all_told [] l h m few = absurd m
all_told (gives a ∷ rs) [] h m few = absurd (not-suc-le-zero few)
all_told (gives a ∷ rs) (b ∷ l) h (inl e) few = let z : ◌≡◌ {A = ℕ} 0 1 = cc in absurd (omega arith)
all_told (gives a ∷ rs) (b ∷ l) h (inr m) few =
    let e : gives a ≡ gives b = h zero (omega arith) in
    let same : a ≡ b = cc in
    ap (λ (q : Outcome). q ∷ outcomes rs) same
    ∙ ap (λ (q : List Outcome). b ∷ q) (all_told rs l (λ k i. h (suc k) (omega (arith, i))) m (omega (arith, few)))
all_told (finished ∷ rs) [] h m few = none_at (outcomes rs) few
all_told (finished ∷ rs) (b ∷ l) h m few =
    let e : finished ≡ gives b = h zero (omega arith) in
    let z : ◌≡◌ {A = ℕ} 0 1 = cc in absurd (omega arith)

-- the walk finished: what was written is the listing of the whole walk
finished_listing :
    (s : Sheet) (n : ℕ) (w v v' : Watched) (before between after end : Option (List ℕ))
    → Law s n w
    → SoFar s n w v before between
    → NextLine s n v between answer.Finished v' after
    → Appends after end (figures_line v'.tallies)
    → Listed s w.fuel w.starting before end
unfolding one_more
finished_listing s n w v v' before between after end l so line figures =
    let all = one_more refl so line in
    let h = all.history in
    let one = l.one_walk line.next.agree in
    let last : Among finished (law.replies h) = among_back finished (law.replies so.history) (finished ∷ []) (inl refl) in
    let whole : made h ≡ one.0 = all_told (law.replies h) one.0 (l.as_defined one.0 one.1 h) last (l.no_more_runs one.0 one.1 h) in
    let text : mark_lines (made h) ++ figures_line v'.tallies ≡ mark_lines one.0 ++ figures_line (counts one.0) =
    ap (λ (k : Tallies). mark_lines (made h) ++ figures_line k) (l.tallied h)
    ∙ ap (λ (q : List Outcome). mark_lines q ++ figures_line (counts q)) whole in
    (one.0, one.1, subst (Appends before end) text (and_more before after end _ _ all.appends figures))

-- the same of an answer, figures, a fuel and a starting set that are told by equations
pub listed :
    {s : Sheet} {n n₁ fuel : ℕ} {S : Marks} {w v v' : Watched} {before between after : Option (List ℕ)}
    {a : Answer} {k : Tallies} (end : Option (List ℕ))
    → Law s n w
    → w.fuel ≡ fuel
    → w.starting ≡ S
    → n₁ ≡ n
    → SoFar s n w v before between
    → NextLine s n₁ v between a v' after
    → a ≡ answer.Finished
    → k ≡ v'.tallies
    → Appends after end (figures_line k)
    → Listed s fuel S before end
listed {s} {n} {n₁} {fuel} {S} {w} {v} {v'} {before} {between} {after} {a} {k} end l f e same so line is told figures =
    let ended =
    subst (λ (q : Answer). NextLine s n v between q v' after) is
    (subst (λ (q : ℕ). NextLine s q v between a v' after) same line) in
    let closing = subst (λ (q : Tallies). Appends after end (figures_line q)) told figures in
    subst (λ q. Listed s q S before end) f
    (subst (λ (q : Marks). Listed s w.fuel q before end) e
    (finished_listing s n w v v' before between after end l so ended closing))
