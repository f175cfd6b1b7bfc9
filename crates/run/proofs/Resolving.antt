-- Terms, from what settling comes to.
use Rattle.std.proofs.Common.{◌≡◌, ℕ, ◌<◌, true, List, [], Ok, Err, sym, subst}
use Rattle.marks.specs.Sets.{Marks}
use Rattle.marks.specs.Counted.{some}
use Rattle.formula.specs.Trees.{Name, Shift, num, bare, moved}
use Rattle.meaning.specs.Terms.{shifted}
use Rattle.meaning.specs.Matching.{Settles, Resolves, numeral, as_it_is, settled, the_number}
use Rattle.meaning.specs.Matching.{Argument, argument as named}
use Rattle.run.specs.declared.goal.Argument.{Argument as Held}
use Rattle.run.specs.declared.goal.Argument.TheVariants.{Number}
use Rattle.run.specs.declared.stop.Stop.{Stop}
use Rattle.run.specs.Ways.{Way, Fits}
use Rattle.run.specs.Frames.{argument_of, Okay}
use Rattle.run.specs.Settling.{Settled, Settling}
use Rattle.run.specs.Comparing.{Resolved, Resolving}
use Rattle.run.proofs.Ways.{took_map, took_none, halts_map}

module _ (w : ℕ) (e : List Argument) (S : Marks) (z : Way) where
  pub resolve_number : (n : ℕ) → n < 1024 → some w S ≡ true → Resolved w e S (num n) z (Ok (Number n)) S z
  resolve_number n h x = record { took = took_none numeral; okay = h; alive = x }

  pub resolve_bare :
      (x : Name) (a : Held) → argument_of a ≡ named e x → Okay w a → some w S ≡ true
      → Resolved w e S (bare x) z (Ok a) S z
  resolve_bare x a q ok l = record {
    took = took_none
        (subst (λ b. Resolves e S (bare x) [] S b) (sym q) as_it_is);
    okay = ok;
    alive = l;
  }

  module _ (x : Name) (d : Shift) (a : Held) (q : argument_of a ≡ named e x) where
    pub resolve_moved :
        (v r : ℕ) (P : Marks) (y : Way)
        → Settled w S a z (Ok v) P y
        → r ≡ shifted d v
        → r < 1024
        → Resolved w e S (moved x d) z (Ok (Number r)) P y
    resolve_moved v r P y s p l =
        record {
          took = took_map (λ t m. subst (λ n. Resolves e S (moved x d) t P (the_number n)) (sym p)
              (settled (subst (λ b. Settles S b t P v) q m))) s.took;
          okay = l;
          alive = s.alive;
        }

    pub resolve_halt :
        (s : Stop) (P : Marks) (y : Way) → Settled w S a z (Err s) P y → Resolved w e S (moved x d) z (Err s) P y
    resolve_halt s P y h = halts_map (λ t m. (
      m.0,
      the_number (shifted d m.1),
      settled
          (subst (λ b. Settles S b t m.0 m.1) q m.2),
    )) h

    pub resolve_fits : Fits z (Resolving e S (moved x d)) → Fits z (Settling S (argument_of a))
    resolve_fits h = record {
      room = λ t m. h.room t
          (m.0, the_number (shifted d m.1), settled (subst (λ b. Settles S b t m.0 m.1) q m.2));
    }
