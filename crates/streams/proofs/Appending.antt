-- Bytes that a writer holds, and what follows where a call answers Ok.
use Rattle.std.proofs.Common.{ℕ, List, [], ◌++◌, Ok, Err, Some, None, Option, Result, OnOk, sym, ap, ◌∙◌, append_assoc, append-nil}
use Rattle.std.specs.Io.KnownBytes.{Appends}

pub nothing_more : (a : Option (List ℕ)) → Appends a a []
nothing_more None = tt
nothing_more (Some x) = sym (append-nil x)

pub and_more : (a b c : Option (List ℕ)) (xs ys : List ℕ) → Appends a b xs → Appends b c ys → Appends a c (xs ++ ys)
and_more None b c xs ys h k = tt
and_more (Some x) None c xs ys h k = absurd h
and_more (Some x) (Some y) None xs ys h k = absurd k
and_more (Some x) (Some y) (Some z) xs ys h k = k ∙ ap (λ l. l ++ ys) h ∙ append_assoc x xs ys

pub on_ok : {E P Q : Type 0} (r : Result (Unit {0}) E) → (P → Q) → OnOk r P → OnOk r Q
on_ok (Ok x) f p = f p
on_ok (Err e) f p = tt
