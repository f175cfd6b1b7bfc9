-- Traces taken one after the other.
use Rattle.std.proofs.Common.{◌≡◌, ℕ, ◌+◌, [], ◌∷◌, ◌++◌, length, sym, refl, ap, ◌∙◌, subst, append_assoc, arith, length-append, length-set}
use Rattle.meaning.specs.Traces.{width, took, Trace}
use Rattle.run.specs.Ways.{Trail, Room, put, written, Way, SameTrail, Took, Fits, Halt, Halts}
use Rattle.run.specs.declared.stop.Stop.{Stop}
use Rattle.run.specs.declared.trail.Trail.{Trail as TrailKept}
use Rattle.run.proofs.Guides.{guided_join}

-- the same lists after two calls, one after the other
pub trails_join :
    {G : Type 0} (fixed : G → ℕ) (a b c : TrailKept G)
    → SameTrail fixed a b
    → SameTrail fixed b c
    → SameTrail fixed a c
trails_join fixed a b c p q = (q.0 ∙ p.0, q.1 ∙ p.1, q.2 ∙ p.2, q.3 ∙ p.3, q.4 ∙ p.4, q.5 ∙ p.5)

pub written_join : (z : Trail) (t u : Trace) → written z (t ++ u) ≡ written (written z t) u
written_join z [] u = refl
written_join z (took p c ∷ t) u = written_join (put z p (width c)) t u

pub written_at : (z : Trail) (t : Trace) → (written z t).at ≡ z.at + length t
written_at z [] = omega arith
written_at z (took p c ∷ t) = let h = written_at (put z p (width c)) t in omega arith

pub written_picks : (z : Trail) (t : Trace) → length (written z t).picks ≡ length z.picks
written_picks z [] = refl
written_picks z (took p c ∷ t) = written_picks (put z p (width c)) t ∙ length-set z.picks z.at p

pub written_widths : (z : Trail) (t : Trace) → length (written z t).widths ≡ length z.widths
written_widths z [] = refl
written_widths z (took p c ∷ t) = written_widths (put z p (width c)) t ∙ length-set z.widths z.at
    (width c)

module _ {z : Way} where
  pub took_map : {M N : Trace → Type 0} {y : Way} → ((t : Trace) → M t → N t) → Took z M y → Took z N y
  took_map f k = record { trace = k.trace; does = f k.trace k.does; guided = k.guided; end = k.end }

  pub took_none : {M : Trace → Type 0} → M [] → Took z M z
  took_none m = record { trace = []; does = m; guided = refl; end = refl }

  -- one trace after another
  pub took_join :
      {M N L : Trace → Type 0} {y x : Way}
      → ((t u : Trace) → M t → N u → L (t ++ u)) → Took z M y → Took y N x → Took z L x
  took_join {M} {N} {L} {y} {x} f a b =
      record {
        trace = a.trace ++ b.trace;
        does = f a.trace b.trace a.does b.does;
        guided = guided_join z.guide y.guide x.guide a.trace b.trace a.guided b.guided;
        end = b.end ∙ ap (λ q. written q b.trace) a.end ∙ sym
            (written_join z.trail a.trace b.trace);
      }

  pub halt_map : {M N : Trace → Type 0} {y : Way} → ((t : Trace) → M t → N t) → Halt z M y → Halt z N y
  halt_map f h =
      record {
        before = h.before;
        choice = h.choice;
        after = h.after;
        does = f _ h.does;
        guided = h.guided;
        stuck = h.stuck;
        end = h.end;
      }

  -- the way goes on
  pub halt_on :
      {M N : Trace → Type 0} {y : Way}
      → ((t : Trace) → M t → (u : Trace) × N (t ++ u)) → Halt z M y → Halt z N y
  halt_on {M} {N} {y} f h =
      let r = f _ h.does in
      record {
        before = h.before;
        choice = h.choice;
        after = h.after ++ r.0;
        does = subst N (append_assoc h.before (took 0 h.choice ∷ h.after) r.0) r.1;
        guided = h.guided;
        stuck = h.stuck;
        end = h.end;
      }

  -- a trace was taken before
  pub halt_after :
      {M N L : Trace → Type 0} {y x : Way}
      → ((t u : Trace) → M t → N u → L (t ++ u)) → Took z M y → Halt y N x → Halt z L x
  halt_after {M} {N} {L} {y} {x} f a h =
      record {
        before = a.trace ++ h.before;
        choice = h.choice;
        after = h.after;
        does = subst L (sym (append_assoc a.trace h.before (took 0 h.choice ∷ h.after)))
            (f _ _ a.does h.does);
        guided = guided_join z.guide y.guide x.guide a.trace h.before a.guided h.guided;
        stuck = h.stuck;
        end = h.end ∙ ap (λ q. written q h.before) a.end ∙ sym
            (written_join z.trail a.trace h.before);
      }

-- the same of a run that stops
module _ {z : Way} where
  pub halts_map :
      {M N : Trace → Type 0} {s : Stop} {y : Way} → ((t : Trace) → M t → N t) → Halts z M s y → Halts z N s y
  halts_map f h = record { is = h.is; at = halt_map f h.at }

  pub halts_on :
      {M N : Trace → Type 0} {s : Stop} {y : Way}
      → ((t : Trace) → M t → (u : Trace) × N (t ++ u)) → Halts z M s y → Halts z N s y
  halts_on f h = record { is = h.is; at = halt_on f h.at }

  pub halts_after :
      {M N L : Trace → Type 0} {s : Stop} {y x : Way}
      → ((t u : Trace) → M t → N u → L (t ++ u)) → Took z M y → Halts y N s x → Halts z L s x
  halts_after f a h = record { is = h.is; at = halt_after f a h.at }

pub fits_on :
    {z : Way} {M N : Trace → Type 0}
    → ((t : Trace) → M t → (u : Trace) × N (t ++ u)) → Fits z N → Fits z M
fits_on f h =
    record {
      room = λ t m.
          let r = f t m in
          let k = h.room (t ++ r.0) r.1 in
          let l = length-append t r.0 in
          record { picks_hold = omega (arith, k.picks_hold); widths_hold = omega (arith, k.widths_hold) };
    }

pub fits_after :
    {z y : Way} {M N L : Trace → Type 0}
    → ((t u : Trace) → M t → N u → L (t ++ u)) → Took z M y → Fits z L → Fits y N
fits_after {z} {y} {M} {N} {L} f a h =
    record {
      room = λ u n.
          subst (Room (length u)) (sym a.end)
          (let k = h.room (a.trace ++ u) (f _ u a.does n) in
          let l = length-append a.trace u in
          let p = written_picks z.trail a.trace in
          let w = written_widths z.trail a.trace in
          let i = written_at z.trail a.trace in
          record { picks_hold = omega (arith, k.picks_hold); widths_hold = omega (arith, k.widths_hold) });
    }
