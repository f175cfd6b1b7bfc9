use Rattle.std.proofs.Common.{◌≡◌, ℕ, ◌+◌, ◌-◌, length, take, drop, replicate, ap, ◌∙◌, arith, rules, length-drop, length-take}
use lib.ListN.{length-replicate}
use Rattle.lines.proofs.Putting.{put_part}
use Rattle.lines.proofs.cursor.Cursor.blanks.Goals as goal

pub returns : goal.returns
returns c =
    let out = c.args.self.now.out.now in
    let at = c.args.self.now.at in
    let n = c.args.count in
    let size : length (take (at + n - at) (drop at out)) ≡ n =
    simp (length-take, length-drop) (omega (arith, c.requires)) in
    record {
      put =
          put_part _ (c.fill.ensures.after (λ y same. same) ∙ ap (λ k. replicate {A = ℕ} k 32) size)
          (omega (arith, length-replicate {A = ℕ} n 32)) c.requires;
      same_buffer = search rules;
    }
