-- An entry written changes nothing that a guide tells past it.
use Rattle.std.proofs.Common.{◌≡◌, ℕ, zero, suc, ◌-◌, ◌<◌, ◌≢◌, List, ◌∷◌, set, refl, ap, arith, get_or-set_other}
use Rattle.run.specs.Guides.{noted, recorded, entries}
use Rattle.run.specs.Ahead.{recorded_ahead, drawn_ahead}

-- a write at a place leaves the entries past it
pub entries_set :
    (ps ws : List ℕ) (k p w j n : ℕ)
    → k < j → entries (set ps k p) (set ws k w) j n ≡ entries ps ws j n
entries_set ps ws k p w j zero h = refl
entries_set ps ws k p w j (suc n) h =
    let ne : j ≢ k = omega arith in
    (λ i. noted (get_or-set_other ps k j p 0 ne i) (get_or-set_other ws k j w 0 ne i) ∷ entries_set ps ws k p w
    (suc j) n (omega arith) i)

-- to what recorded entries tell
pub recorded_past :
    (given : ℕ) (ps ws : List ℕ) (k p w : ℕ)
    → recorded_ahead given (set ps k p) (set ws k w) (suc k) ≡ recorded_ahead given ps ws (suc k)
recorded_past given ps ws k p w = ap recorded (entries_set ps ws k p w (suc k) (given - suc k) (omega arith))

-- to what the numbers of a source tell
pub drawn_past :
    (ns ps ws : List ℕ) (k p w : ℕ)
    → drawn_ahead ns (set ps k p) (set ws k w) (suc k) ≡ drawn_ahead ns ps ws (suc k)
drawn_past ns ps ws k p w = refl
