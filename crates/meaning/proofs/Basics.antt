-- Tests, signs and arguments.
use Rattle.std.proofs.Common.{◌≡◌, ℕ, Bool, true, false, not, ◌≢◌, List, map, get_or, sym, refl, ap, ◌∙◌, rules}
use Rattle.std.proofs.Math.ListN.{get_or-map}
use borrow.Author.Tests.{not-true, clash}
use Rattle.formula.specs.Trees.{Name, field, param}
use Rattle.formula.specs.Comparing.{holds, opposite}
use Rattle.formula.specs.declared.Comparison.{Comparison}
use Rattle.meaning.specs.Terms.{named, aimed}
use Rattle.meaning.specs.Matching.{Argument, the_number, at, argument}

pub other : (b c : Bool) → b ≢ c → not b ≡ c
other = search rules

pub not_self : (b : Bool) → not b ≢ b
not_self true h = clash h
not_self false h = clash (sym h)

pub holds_opposite : (s : Comparison) (x y : ℕ) → holds (opposite s) x y ≡ not (holds s x y)
holds_opposite = search rules

pub aimed_holds : (b : Bool) (s : Comparison) (x y : ℕ) → holds (aimed b s) x y ≡ true → holds s x y ≡ b
aimed_holds true s x y h = h
aimed_holds false s x y h = not-true _ (sym (holds_opposite s x y) ∙ h)

pub holds_aimed : (b : Bool) (s : Comparison) (x y : ℕ) → holds s x y ≡ b → holds (aimed b s) x y ≡ true
holds_aimed true s x y h = h
holds_aimed false s x y h = holds_opposite s x y ∙ ap not h

pub at_get_or :
    (m : List ℕ) (e : List Argument) (p : ℕ) → at m (get_or e p (the_number 0)) ≡ get_or (map (at m) e) p 0
at_get_or m e p = sym (get_or-map (at m) e p (the_number 0))

pub at_arg : (m : List ℕ) (e : List Argument) (x : Name) → at m (argument e x) ≡ named m (map (at m) e) x
at_arg m e (field f) = refl
at_arg m e (param p) = at_get_or m e p
