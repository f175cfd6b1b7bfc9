-- The draws of a series so far, and the whole series once one is the last.
use Rattle.std.proofs.Common.{◌≡◌, ℕ, Bool, true, false, List, [], ◌∷◌, ◌++◌, length, Some, None, Option, sym, ◌∙◌, subst, append_assoc, arith}
use Rattle.std.specs.Io.KnownBytes.{Appends}
use Rattle.std.proofs.lemmas.List.{flat_map_more}
use Rattle.std.proofs.lemmas.Bool.{eqb-true}
use Rattle.formula.specs.Trees.{Sheet}
use Rattle.marks.specs.Sets.{Marks}
use Rattle.meaning.specs.Traces.{Trace}
use Rattle.meaning.specs.Draws.{Drawn, Draws}
use Rattle.run.specs.declared.answer.Ended.{Ended}
use Rattle.run.specs.Answering.{drawn_of}
use Rattle.streams.proofs.Appending.{nothing_more, and_more}
use Rattle.draws.specs.Drawing.{Series, runs_dry, without_choice, goes_on, drawn_text, series_text, ListedDraws}
use Rattle.draws.specs.Steps.{is_last, DrawLine}

-- draws led from the numbers ns to ms, each with another to follow, and their lines were written
pub record SoFar (s : Sheet) (fuel : ℕ) (S : Marks) (ns ms : List ℕ) (before after : Option (List ℕ)) : Type 0 where
  pub drawn : List Drawn
  pub leads :
      (ds : List Drawn) (ls : List ℕ)
      → Series s fuel S ms ds ls
      → Series s fuel S ns (drawn ++ ds) ls
  pub appends : Appends before after (series_text drawn)

pub none_yet :
    {s : Sheet} {fuel : ℕ} {S : Marks} {ns : List ℕ} {before : Option (List ℕ)}
    → SoFar s fuel S ns ns before before
none_yet {before = before} = record { drawn = []; leads = λ ds ls h. h; appends = nothing_more before }

-- a draw that another follows
going :
    {s : Sheet} {fuel : ℕ} {S : Marks} {ns ms ls : List ℕ} {ds : List Drawn}
    (o : Option Ended) (f : ℕ) (m : List ℕ) (t : Trace)
    → Draws s fuel S ns (drawn_of o f m) t ms
    → false ≡ is_last o (length t)
    → Series s fuel S ms ds ls
    → Series s fuel S ns (drawn_of o f m ∷ ds) ls
going None f m t d e h = let z : ◌≡◌ {A = Bool} false true = e in cc
going (Some a) f m [] d e h = let z : ◌≡◌ {A = Bool} false true = e in cc
going (Some a) f m (x ∷ t) d e h = goes_on d h

-- a draw that none follows
ending :
    {s : Sheet} {fuel : ℕ} {S : Marks} {ns ls : List ℕ}
    (o : Option Ended) (f : ℕ) (m : List ℕ) (t : Trace)
    → Draws s fuel S ns (drawn_of o f m) t ls
    → true ≡ is_last o (length t)
    → Series s fuel S ns (drawn_of o f m ∷ []) ls
ending None f m t d e = runs_dry d
ending (Some a) f m [] d e = without_choice d
ending (Some a) f m (x ∷ t) d e =
    let none : length (x ∷ t) ≡ 0 = eqb-true (length (x ∷ t)) 0 (sym e) in absurd (omega (arith, none))

-- the lines so far, and the line of one draw more
and_line :
    {s : Sheet} {fuel : ℕ} {S : Marks} {ns ms : List ℕ} {before between : Option (List ℕ)}
    (after : Option (List ℕ)) (d : Drawn) (so : SoFar s fuel S ns ms before between)
    → Appends between after (drawn_text d)
    → Appends before after (series_text (so.drawn ++ d ∷ []))
and_line {before = before} {between} after d so line =
    subst (Appends before after) (flat_map_more drawn_text [] so.drawn d)
    (and_more before between after _ _ so.appends line)

pub one_more :
    {s : Sheet} {fuel : ℕ} {S S₁ : Marks} {ns ms ls : List ℕ} {before between after : Option (List ℕ)} {last : Bool}
    → S₁ ≡ S
    → SoFar s fuel S ns ms before between
    → DrawLine s fuel S₁ ms between last ls after
    → last ≡ false
    → SoFar s fuel S ns ls before after
one_more {s} {fuel} {S} {S₁} {ns} {ms} {ls} {before} {between} {after} {last} same so more on =
    let line = subst (λ (q : Marks). DrawLine s fuel q ms between last ls after) same more in
    let d = drawn_of line.ended line.fields line.marks in
    record {
      drawn = so.drawn ++ d ∷ [];
      leads = λ ds end h.
          subst (λ (q : List Drawn). Series s fuel S ns q end) (sym (append_assoc so.drawn (d ∷ []) ds))
          (so.leads (d ∷ ds) end (going line.ended line.fields line.marks line.trace line.draw (sym on ∙ line.ends) h));
      appends = and_line after d so line.appends;
    }

-- the last draw: what was written is the lines of the whole series
pub listed :
    {s : Sheet} {fuel : ℕ} {S S₁ : Marks} {ns ms ls : List ℕ} {before between after : Option (List ℕ)} {last : Bool}
    → S₁ ≡ S
    → SoFar s fuel S ns ms before between
    → DrawLine s fuel S₁ ms between last ls after
    → last ≡ true
    → ListedDraws s fuel S ns ls before after
listed {s} {fuel} {S} {S₁} {ns} {ms} {ls} {before} {between} {after} {last} same so more on =
    let line = subst (λ (q : Marks). DrawLine s fuel q ms between last ls after) same more in
    let d = drawn_of line.ended line.fields line.marks in (
      so.drawn ++ d ∷ [],
      so.leads (d ∷ []) ls (ending line.ended line.fields line.marks line.trace line.draw (sym on ∙ line.ends)),
      and_line after d so line.appends,
    )

-- a draw whose line was written from the first f numbers of the mark list, with a sheet of f fields
pub line_told :
    {s : Sheet} {fuel n f g : ℕ} {S : Marks} {ns ls : List ℕ} {count : ℕ}
    {last : Bool} {d : Drawn} {t : Trace} {k : ℕ}
    (before after : Option (List ℕ)) (o : Option Ended) (marks : List ℕ)
    → k ≡ g
    → f ≡ g
    → n ≡ k
    → Draws s fuel S ns d t ls
    → count ≡ length t
    → drawn_of o n marks ≡ d
    → last ≡ is_last o count
    → Appends before after (drawn_text (drawn_of o f marks))
    → DrawLine s fuel S ns before last ls after
line_told {s} {fuel} {n} {f} {g} {S} {ns} {ls} {count} {last} {d} {t} {k} before after o marks e i fields draw long told ends line =
    record {
      ended = o;
      fields = n;
      marks = marks;
      trace = t;
      draw = subst (λ (q : Drawn). Draws s fuel S ns q t ls) (sym told) draw;
      ends = subst (λ (q : ℕ). last ≡ is_last o q) long ends;
      appends = subst (λ q. Appends before after (drawn_text (drawn_of o q marks))) (i ∙ sym e ∙ sym fields) line;
    }
