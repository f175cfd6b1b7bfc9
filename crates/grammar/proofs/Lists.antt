-- Lists of which four items are kept and all are counted.
use Rattle.std.proofs.Common.{◌≡◌, ◌+◌, ◌<◌, ◌≤◌, List, [], ◌∷◌, ◌++◌, length, set, sym, ap, ◌∙◌, subst, arith, length-append, length-set}
use Rattle.std.proofs.lemmas.List.{take_all, take-append-le, take_more_set}
use Rattle.grammar.specs.declared.few.Few.{Few}
use Rattle.grammar.specs.Parsing.{Holds4}

module _ (X : Type 0) (list : Few X) (x : X) (all : List X) (h : Holds4 X list all) where
  longer : length (all ++ x ∷ []) ≡ length all + 1
  longer = length-append all (x ∷ [])

  kept :
      list.count < 4
      → Holds4 X (record { items = set list.items list.count x; count = list.count + 1 }) (all ++ x ∷ [])
  kept lt =
      let c = h.counts in
      let r = h.room in
      let n = longer in
      record {
        room = length-set list.items list.count x ∙ r;
        counts = omega arith;
        holds =
            take_more_set list.items list.count x (omega arith)
            ∙ ap (λ l. l ++ x ∷ []) (h.holds ∙ take_all 4 all (omega arith))
            ∙ sym (take_all 4 (all ++ x ∷ []) (omega arith));
      }

  counted :
      4 ≤ list.count
      → Holds4 X (record { items = list.items; count = list.count + 1 }) (all ++ x ∷ [])
  counted le =
      let c = h.counts in
      let r = h.room in
      let n = longer in
      record {
        room = r;
        counts = omega arith;
        holds =
            take_all (list.count + 1) list.items (omega arith)
            ∙ sym (take_all list.count list.items (omega arith))
            ∙ h.holds
            ∙ sym (take-append-le 4 all (x ∷ []) (omega arith));
      }

pub kept_more :
    (X : Type 0) (list now : Few X) (x : X)
    → list.count < 4
    → now ≡ record { items = set list.items list.count x; count = list.count }
    → (all : List X)
    → Holds4 X list all
    → Holds4 X (record { items = now.items; count = now.count + 1 }) (all ++ x ∷ [])
kept_more X list now x lt e all h =
    subst (λ l. Holds4 X (record { items = l.items; count = l.count + 1 }) (all ++ x ∷ [])) (sym e)
    (kept X list x all h lt)

pub counted_more :
    (X : Type 0) (list now : Few X) (x : X)
    → 4 ≤ list.count
    → now ≡ list
    → (all : List X)
    → Holds4 X list all
    → Holds4 X (record { items = now.items; count = now.count + 1 }) (all ++ x ∷ [])
counted_more X list now x le e all h =
    subst (λ l. Holds4 X (record { items = l.items; count = l.count + 1 }) (all ++ x ∷ [])) (sym e)
    (counted X list x all h le)
