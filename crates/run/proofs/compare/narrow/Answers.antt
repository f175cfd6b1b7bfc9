use Rattle.std.proofs.Common.{subst}
use Rattle.run.specs.Comparing.{Lives}
use Rattle.run.proofs.Settling.{keeps_kept, kept_inside}
use Rattle.run.proofs.compare.narrow.Goals as goal

pub returns : goal.returns
returns g c =
    let st = g.S.Store in
    let s = c.args.store.now in
    let t = c.keep.new.self in
    let S = st.current s in
    let P = st.current t in
    let same = c.keep.ensures.same in
    let is = keeps_kept (st.width s) S P c.args.field c.args.sign c.args.number c.keep.result
    c.keep.ensures.left
    c.requires.field c.requires.number in
    record {
      same = (same.0, same.1, kept_inside S P c.args.field c.args.sign c.args.number is);
      left = record {
        is = is;
        lives = subst (λ w. Lives w P c.alive.result) same.0 c.alive.ensures;
      };
    }
