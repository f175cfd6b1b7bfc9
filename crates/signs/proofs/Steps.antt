-- From what stands at a place to what comes next in the text.
use Rattle.std.proofs.Common.{◌≡◌, ℕ, ◌+◌, ◌-◌, ◌<◌, ◌≤◌, List, [], ◌∷◌, ◌++◌, length, get_or, take, drop, false, Ok, Err, sym, ap, ◌∙◌, subst, arith}
use Rattle.std.proofs.lemmas.List.{drop_all, drop-drop, get_or-drop, length-drop, length-take-le}
use Rattle.std.specs.List.{take_while}
use Rattle.refusal.specs.declared.Fault.{Fault}
use Rattle.refusal.specs.declared.Refusal.{Refusal}
use Rattle.refusal.specs.Table as table
use Rattle.signs.specs.declared.cut.Leading.{Leading}
use Rattle.signs.specs.Bytes.{blank, Only}
use Rattle.signs.specs.Tokens.{TokAt, at, Spells, Takes}
use Rattle.signs.specs.Cutting.{Cut, stop, gap, token, FaultHere}
use Rattle.signs.specs.Answers.{spelt, NextToken, NoToken, NextFault}
use Rattle.signs.specs.Scanning.{part, Leads}
use Rattle.signs.proofs.Scans.{front_at, front_long, part_last}
use Rattle.signs.proofs.Once.{Ends, at_end, at_fault, gap_back, token_back, cut_once, fault_some}

moved : {p q : ℕ} {bytes rest : List ℕ} {ts : List TokAt} → p ≡ q → Cut p bytes ts rest → Cut q bytes ts rest
moved {bytes = bytes} {rest} {ts} e c = subst (λ k. Cut k bytes ts rest) e c

gaps_on :
    (g : List ℕ) {p : ℕ} {bytes rest : List ℕ} {ts : List TokAt}
    → Only blank g
    → Cut (p + length g) bytes ts rest
    → Cut p (g ++ bytes) ts rest
gaps_on [] {p} o c = moved (omega arith) c
gaps_on (b ∷ g) {p} o c = gap o.0 (gaps_on g o.1 (moved (omega arith) c))

gaps_back :
    (g : List ℕ) {p : ℕ} {bytes rest : List ℕ} {ts : List TokAt}
    → Only blank g
    → Ends rest
    → Cut p (g ++ bytes) ts rest
    → Cut (p + length g) bytes ts rest
gaps_back [] {p} o e c = moved (omega arith) c
gaps_back (b ∷ g) {p} o e c = moved (omega arith) (gaps_back g o.1 e (gap_back o.0 e c))

-- only blanks stand between the places p and b
pub record Reached (text : List ℕ) (p b : ℕ) : Type 0 where
  pub from : p ≤ b
  pub on : (ts : List TokAt) (rest : List ℕ) → Cut b (drop b text) ts rest → Cut p (drop p text) ts rest
  pub back : (ts : List TokAt) (rest : List ℕ) → Ends rest → Cut p (drop p text) ts rest → Cut b (drop b text) ts rest

pub reached :
    (text : List ℕ) (p n : ℕ)
    → p ≤ length text
    → n ≡ length (take_while blank (part text p (length text)))
    → Reached text p (p + n)
reached text p n h counted =
    let bytes = drop p text in
    let here = counted ∙ ap (λ l. length (take_while blank l)) (part_last text p) in
    let f = front_at blank bytes n here in
    let gap = take n bytes in
    let after = drop-drop n p text in
    let far : p + length gap ≡ p + n = omega (arith, front_long blank bytes n here) in
    record {
      from = omega arith;
      on = λ ts rest c.
          let d = subst (λ l. Cut (p + n) l ts rest) (sym after) c in
          subst (λ l. Cut p l ts rest) (sym f.split) (gaps_on gap f.all (moved (sym far) d));
      back = λ ts rest e c.
          let d = moved far (gaps_back gap f.all e (subst (λ l. Cut p l ts rest) f.split c)) in
          subst (λ l. Cut (p + n) l ts rest) after d;
    }

-- the byte that blanks lead to is none
pub solid_there :
    (text : List ℕ) (p n : ℕ)
    → n ≡ length (take_while blank (part text p (length text)))
    → p + n < length text
    → blank (get_or (part text (p + n) (length text)) 0 0) ≡ false
solid_there text p n counted more =
    let bytes = drop p text in
    let here = counted ∙ ap (λ l. length (take_while blank l)) (part_last text p) in
    let long = front_long blank bytes n here in
    let at_n : n + 0 ≡ length (take n bytes) = omega (arith, long) in
    ap (λ l. blank (get_or l 0 0)) (part_last text (p + n) ∙ sym (drop-drop n p text))
    ∙ ap blank (get_or-drop n bytes 0 0 ∙ ap (λ k. get_or bytes k 0) at_n)
    ∙ (front_at blank bytes n here).stops (omega (arith, long, length-drop p text))

-- the end of the text
pub no_token : (text : List ℕ) (p b : ℕ) → Reached text p b → length text ≤ b → NoToken text p
no_token text p b r h =
    let nil = drop_all b text h in
    let cut = r.on [] [] (subst (λ l. Cut b l [] []) (sym nil) stop) in
    record { cut = cut; only = λ ts c. (cut_once c at_end cut at_end).0 }

here : (text : List ℕ) (p : ℕ) → length text ≤ p → Reached text p p
here text p h = record { from = omega arith; on = λ ts rest c. c; back = λ ts rest e c. c }

pub past_end : (text : List ℕ) (p : ℕ) → length text ≤ p → NoToken text p
past_end text p h = no_token text p p (here text p h) h

-- what stands at the place that blanks lead to
pub token_follows :
    (text : List ℕ) (p b : ℕ) (l : Leading)
    → Reached text p b
    → b ≤ length text
    → Leads (part text b (length text)) (Ok l)
    → NextToken text p (record { token = l.token; place = b; end = b + l.size })
token_follows text p b l r h leads =
    let k = subst (λ x. Leads x (Ok l)) (part_last text b) leads in
    let bytes = drop b text in
    let end = b + l.size in
    let here = at (spelt l.token) b in
    let takes = subst (λ x. Takes bytes (spelt l.token) (take l.size bytes) x) (drop-drop l.size b text) k.2 in
    let n : b + length (take l.size bytes) ≡ end = omega (arith, length-take-le l.size bytes k.0) in
    let many : l.size ≡ end - b = omega arith in
    let put :
    (ts : List TokAt) (rest : List ℕ) → Cut end (drop end text) ts rest → Cut p (drop p text) (here ∷ ts) rest =
    λ ts rest c. r.on (here ∷ ts) rest (token takes k.3 (moved (sym n) c)) in
    record {
      after = r.from;
      some = omega (arith, k.1);
      inside = omega (arith, length-drop b text, k.0);
      spells = subst (λ m. Spells (spelt l.token) (take m bytes)) many takes.spells;
      onward = λ ts c. put ts [] c;
      only = λ ts c.
          let back = token_back takes k.3 at_end (r.back ts [] at_end c) in (back.0, back.1, moved n back.2);
      refused = λ m q x. record { before = here ∷ x.before; cut = put x.before (drop q text) x.cut; fault = x.fault };
    }

pub fault_follows :
    (text : List ℕ) (p b : ℕ) (f : Fault) (e : Refusal)
    → f ≡ record { place = b; refusal = e }
    → Reached text p b
    → Leads (part text b (length text)) (Err e)
    → NextFault text p f
fault_follows text p b f e is r leads =
    let m = table.number e in
    let fault = subst (λ x. FaultHere x m) (part_last text b) leads in
    let cut = r.on [] (drop b text) stop in
    rw is (record {
      refused = record { before = []; cut = cut; fault = fault };
      uncut = λ ts c. omega (arith, ap length (cut_once c at_end cut (at_fault fault)).1, fault_some fault);
    })
