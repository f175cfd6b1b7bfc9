-- What calls are served by lists that stay the caller's own.
use Rattle.std.proofs.Common.{◌≡◌, ℕ, List, length, ap, ◌∙◌}
use Rattle.run.specs.declared.lists.Lists.{Lists as Borrowed}
use Rattle.run.specs.Lists.{SameLists}
use Rattle.client.specs.Sessions.{Served, served}

abbrev served_by : List ℕ → ℕ → ℕ → ℕ → Served
served_by m g f k = record { asked = m; goals = g; frames = f; marks = k }

-- so the calls are served the same
pub same_served : (m : List ℕ) {a b : Borrowed} → SameLists a b → served m b ≡ served m a
same_served m {a} {b} h =
    ap (λ q. served_by m q (length b.frames.now) (length b.mark.now)) h.goals_long
    ∙ ap (λ q. served_by m (length a.goals.now) q (length b.mark.now)) h.frames_long
    ∙ ap (λ q. served_by m (length a.goals.now) (length a.frames.now) q) h.mark_long
