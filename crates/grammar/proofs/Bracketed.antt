-- Items in brackets, one by one: what is read of the list, and what is due.
use Rattle.std.proofs.Common.{◌≡◌, ℕ, ◌+◌, ◌≤◌, List, [], ◌∷◌, ◌++◌, map, length, Ok, Err, sym, subst, append_assoc, arith}
use Rattle.refusal.specs.declared.Fault.{Fault}
use Rattle.grammar.specs.declared.token.Class.{Class}
use Rattle.grammar.specs.declared.token.Class.TheVariants as class
use Rattle.grammar.specs.declared.token.Ahead.{Ahead}
use Rattle.grammar.specs.declared.few.Few.{Few}
use Rattle.grammar.specs.Grammar.{Tokens, Parted, last, next, Listed, none, some}
use Rattle.grammar.specs.Moves.{State, Halts, goes_on}
use Rattle.grammar.specs.Parsing.{Left, says_closing, says_comma, Seen, a_token, Peeked, Stopped, Came, Holds4, Listing, Brackets, ItemRead, ItemsRead, Begun}
use Rattle.grammar.proofs.Leaves.{no, refused_at, stops, real, seen_as}

-- items that are read as entries of a text
pub listed_as :
    {X A : Type 0} (of : X → A) {Item : Tokens → Tokens → A → Type 0} {xs us : Tokens} {all : List X}
    → Listed X (λ ys zs v. Item ys zs (of v)) xs us all
    → Listed A Item xs us (map of all)
listed_as of none = none
listed_as {X} {A} of {Item} (some p) = some (parted p)
  where
    parted :
        {xs us : Tokens} {all : List X}
        → Parted X (λ ys zs v. Item ys zs (of v)) xs us all
        → Parted A Item xs us (map of all)
    parted (last i) = last i
    parted (next i k) = next i (parted k)

module _
    (text : List ℕ) (X : Type 0) (Item : List ℕ → Tokens → Tokens → X → Type 0) (g : Listing) where
  -- the list that xs begins with is read up to place q
  abbrev ListCame : Tokens → Few X → ℕ → Type 0
  ListCame xs list q =
      Came text State g.before (λ s. s) xs q (λ us. (all : List X) × Holds4 X list all
      × Listed X (Item text) xs us all)

  -- and so far with one more due
  abbrev Due : Tokens → Few X → ℕ → Type 0
  Due xs list q = Begun text X (Item text) g.before (λ s. g.due (g.after s)) xs list q

  -- from place p on the items of the list are read, and one more is due at place q
  abbrev pub Reading : ℕ → Few X → ℕ → Type 0
  Reading p list q =
      (p + list.count ≤ q) × (q ≤ length text) × ((xs : Tokens) → Left text p xs → Due xs list q)

  module _ (moves : Brackets g) where
    pub none_came :
        (list : Few X) {q e : ℕ} {xs : Tokens}
        → Holds4 X list []
        → Seen text xs class.Closing q e
        → ListCame xs list e
    none_came list h (a_token says_closing l) = record {
      rest = _;
      remains = l;
      goes = λ s n r k. goes_on (moves.ends_first s) tt k;
      item = ([], h, none);
    }

    pub first_due :
        (list : Few X) (k : Class) (p q e : ℕ) (xs : Tokens)
        → Holds4 X list []
        → Left text p xs
        → (k ≡ class.Closing → ⊥)
        → Seen text xs k q e
        → Due xs list p
    first_due list k p q e xs h l z s = record {
      rest = xs;
      remains = l;
      goes = moves.begins text k q e xs z s;
      all = [];
      held = h;
      joins = λ r bs i. i;
    }

    module _
        (list then : Few X) (x : X) (p : ℕ)
        (keeps : (all : List X) → Holds4 X list all → Holds4 X then (all ++ x ∷ [])) where
      again :
          {xs zs : Tokens} {q e : ℕ} (b : Due xs list p)
          → ((s : State) (n : ℕ) (r : Tokens) → Halts s zs n r → Halts (g.due s) b.rest n r)
          → Item text b.rest zs x
          → Seen text zs class.Comma q e
          → Due xs then e
      again b goes i (a_token says_comma l) = record {
        rest = _;
        remains = l;
        goes = λ s n r k. b.goes s n r (goes (g.after s) n r (goes_on (moves.goes_more s) tt k));
        all = b.all ++ x ∷ [];
        held = keeps b.all b.held;
        joins =
            λ r bs k. subst (Parted X (Item text) _ r) (sym (append_assoc b.all (x ∷ []) bs))
            (b.joins r (x ∷ bs) (next i k));
      }

      ended :
          {xs zs : Tokens} {q e : ℕ} (b : Due xs list p)
          → ((s : State) (n : ℕ) (r : Tokens) → Halts s zs n r → Halts (g.due s) b.rest n r)
          → Item text b.rest zs x
          → Seen text zs class.Closing q e
          → ListCame xs then e
      ended b goes i (a_token says_closing l) = record {
        rest = _;
        remains = l;
        goes = λ s n r k. b.goes s n r (goes (g.after s) n r (goes_on (moves.ends_more s) tt k));
        item = (
          b.all ++ x ∷ [],
          keeps b.all b.held,
          some (b.joins _ (x ∷ []) (last i)),
        );
      }

      pub due_again :
          {xs : Tokens} (q : ℕ) (a : Ahead)
          → Due xs list p
          → ((ys : Tokens) → Left text p ys → Came text State g.due (λ s. s) ys q (λ us. Item text ys us x))
          → Peeked text q a
          → a.class ≡ class.Comma
          → Due xs then a.end
      due_again q a b h k is =
          let v = h b.rest b.remains in
          again b v.goes v.item (seen_as text q a k is v.rest v.remains)

      pub list_came :
          {xs : Tokens} (q : ℕ) (a : Ahead)
          → Due xs list p
          → ((ys : Tokens) → Left text p ys → Came text State g.due (λ s. s) ys q (λ us. Item text ys us x))
          → Peeked text q a
          → a.class ≡ class.Closing
          → ListCame xs then a.end
      list_came q a b h k is =
          let v = h b.rest b.remains in
          ended b v.goes v.item (seen_as text q a k is v.rest v.remains)

      pub after_item :
          {xs : Tokens} (q : ℕ) (a : Ahead) (f : Fault)
          → Due xs list p
          → ((ys : Tokens) → Left text p ys → Came text State g.due (λ s. s) ys q (λ us. Item text ys us x))
          → Peeked text q a
          → (a.class ≡ class.Comma → ⊥)
          → (a.class ≡ class.Closing → ⊥)
          → f ≡ refused_at a.place
          → Stopped text State g.before xs f
      after_item q a f b h k y z e =
          let v = h b.rest b.remains in
          let t = stops g.after f e (k.seen v.rest v.remains) moves.unfinished
          (moves.stuck text a.class y z) in
          record {
            rest = t.rest;
            there = t.there;
            halts = λ s. b.goes s _ _ (v.goes (g.after s) _ _ (t.halts s));
          }

    pub no_item :
        {xs : Tokens} (list : Few X) (p : ℕ) (f : Fault)
        → Due xs list p
        → ((ys : Tokens) → Left text p ys → Stopped text State g.due ys f)
        → Stopped text State g.before xs f
    no_item list p f b h =
        let t = h b.rest b.remains in
        record { rest = t.rest; there = t.there; halts = λ s. b.goes s _ _ (t.halts (g.after s)) }

    pub none_read :
        (p : ℕ) (a : Ahead) (list : Few X)
        → Peeked text p a
        → Holds4 X list []
        → a.class ≡ class.Closing
        → ItemsRead g Item text p (Ok (record { value = list; end = a.end }))
    none_read p a list k h is =
        let r = real text p a k (λ e. no (cc)) in
        (r.0, r.1, λ xs l. none_came list h (seen_as text p a k is xs l))

    pub reading_first :
        (p : ℕ) (a : Ahead) (list : Few X)
        → Peeked text p a
        → p ≤ length text
        → Holds4 X list []
        → (a.class ≡ class.Closing → ⊥)
        → Reading p list p
    reading_first p a list k le h z =
        let c = h.counts in
        (omega arith, le, λ xs l. first_due list a.class p a.place a.end xs h l z (k.seen xs l))

    module _
        (p q e : ℕ) (list then : Few X) (x : X) (d : Reading p list q)
        (o : ItemRead g Item text q (Ok (record { value = x; end = e })))
        (grows : then.count ≡ list.count + 1)
        (keeps : (all : List X) → Holds4 X list all → Holds4 X then (all ++ x ∷ []))
        (a : Ahead) (k : Peeked text e a) where
      pub reading_again : a.class ≡ class.Comma → Reading p then a.end
      reading_again is =
          let r = real text e a k (λ z. no (cc)) in (
            omega (arith, d.0, o.0, r.0),
            r.1,
            λ xs l. due_again list then x q keeps e a (d.2 xs l) o.2 k
                is,
          )

      pub list_read :
          a.class ≡ class.Closing
          → ItemsRead g Item text p (Ok (record { value = then; end = a.end }))
      list_read is =
          let r = real text e a k (λ z. no (cc)) in (
            omega (arith, d.0, o.0, r.0),
            r.1,
            λ xs l. list_came list then x q keeps e a (d.2 xs l) o.2 k
                is,
          )

      pub list_stops :
          (f : Fault)
          → f ≡ refused_at a.place
          → (a.class ≡ class.Comma → ⊥)
          → (a.class ≡ class.Closing → ⊥)
          → ItemsRead g Item text p (Err f)
      list_stops f is y z xs l = after_item list then x q keeps e a f (d.2 xs l) o.2 k y z is

    pub item_stops :
        (p q : ℕ) (list : Few X) (f : Fault)
        → Reading p list q
        → ItemRead g Item text q (Err f)
        → ItemsRead g Item text p (Err f)
    item_stops p q list f d o xs l = no_item list q f (d.2 xs l) o
