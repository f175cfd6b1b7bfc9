-- `row` lends one element of the array in the store, and the store follows it, for every type of rows:
-- the walk through its five steps, over `Lending`.
use Rattle.std.proofs.Common.{◌≡◌, ℕ, ◌+◌, ◌*◌, ◌^◌, ◌<◌, ◌≤◌, max, List, [], ◌∷◌, length, get_or, set, sym, refl, subst, mul-le-mul_right, arith, w64, MutBor}
use seplogic.Ra.Ura.{Ura}
use base.Fraction.{full_share}
use mir.Syntax.{Fn, named, a_type}
use mir.MapTy.{inst_fn}
use mir.Val.{Val, vint, vptr}
use base.Logic.{SProp, ent, sep}
use base.Fml.{Fml, Lft, GName, Share, ftrue, flft}
use prog.Memory.{Memory, size, align, up}
use prog.Routine.{Routine}
use contract.Monad.{Fun}
use prog.Align.{up-ge}
use prog.Wp.{Calls, Loops, WpFn, Tables}
use types.Logic.{Logic, sem}
use contract.BorrowLft.{◌⊑◌}
use contract.Lifetimes.{AllOutlive}
use contract.Running.{tables, tables_of}
use sound.WpLaws.{WpFn-mono}
use types.Kit.{Item, mean, ‵, ◌⊛◌, raw, some, given, later, ◌$◌, ◌∵◌, !, qed, by, move, keep, use1, drop, split3, join, pick, learn, group, await, fsplit, fsplit3, fjoin, suffices, frame, done}
use types.Run.{size_lit, stop, fld, bin, addr, returns, enter}
use types.ByLocal.{alloc_all, pass_all, free_all, look_at, get, through, sets}
use denote.Exit.{yes, no}
use denote.RattleType.{RattleType, owns}
use denote.Memory.{part_at}
use denote.Array.{Array}
use denote.Plain.{uint_vals, uint_Tells}
use denote.Param.{param, layout, layouts}
use denote.Param.Laws.{Laws, param_laws}
use denote.Ref.{MutRef, mut_vals, mut_Tells}
use denote.Builtin.{usize}
use denote.Signature.{plain, mut_ref_to}
use denote.Steps.{nothing}
use denote.Follow.{follows}
use denote.Triple.Clauses.{closing}
use denote.Triple.Entry.{on_entry}
use denote.Triple.Spec.{Meets, triple_of}
use denote.Triple.Table.{entered}
use denote.Triple.Walked.{says, Stays, stay_dropped, walk_of, ends_at, walked, Goes-dropped, Goes-spent_ref, walk_Meets}
use borrow.Struct.Apart.{part_apart}
use borrow.Struct.Lend.{kept_field, field_apart, field_fill}
use Rattle.store.specs.contracts.open.OpenStore as O
use Rattle.store.specs.contracts.open.OpenStore.row as F
use Rattle.store.specs.contracts.open.OpenStore.row.Key.{name as #self}
use Rattle.store.proofs.open.OpenStore.TheLaws as laws
use Rattle.store.proofs.open.OpenStore.row.Statement as stated
use Rattle.store.proofs.open.OpenStore.row.Code as code
use Rattle.store.proofs.Lending.{lends_element}

module _ (Y : RattleType) (L : Laws Y) where
  abbrev P : RattleType
  P = param 0 Y

  abbrev R : RattleType
  R = O.the_row P

  abbrev s : ℕ
  s = size (layout Y)

  abbrev d : ℕ
  d = up (align (layout Y)) 8

  abbrev with_rows : R.Denot → List Y.Denot → R.Denot
  with_rows h ys = record { width = h.width; rows = ys; few = h.few }

  module _ {M : Type 1} {𝓤 : Ura M} (𝓛 : Logic 𝓤) (h : R.Denot)
      (b o : ℕ) where
    abbrev Kept : Item 𝓤
    Kept = kept_field (O.the_type P) (laws.the_loose P (param_laws 0 Y L)) 1 d M 𝓤 𝓛
        ((O.struct P).as_values h) b o

    cut : ent 𝓤 (sem 𝓛 (part_at R full_share h b o))
        (sep 𝓤 (sem 𝓛 (part_at (Array P 8) full_share h.rows b (o + d))) (mean 𝓛 Kept))
    cut = subst (λ (X : Fml). ent 𝓤 (sem 𝓛 X)
        (sep 𝓤 (sem 𝓛 (part_at (Array P 8) full_share h.rows b (o + d))) (mean 𝓛 Kept)))
        (sym (part_apart (O.the_type P) full_share h ((O.struct P).as_values h) refl b o))
        (field_apart (O.the_type P) (laws.the_loose P (param_laws 0 Y L)) 1 d 𝓛 refl refl
        ((O.struct P).as_values h) b o)

    fill : (ys : List Y.Denot)
        → ent 𝓤 (sep 𝓤 (sem 𝓛 (part_at (Array P 8) full_share ys b (o + d))) (mean 𝓛 Kept))
        (sem 𝓛 (part_at R full_share (with_rows h ys) b o))
    fill ys = subst (λ (X : Fml). ent 𝓤
        (sep 𝓤 (sem 𝓛 (part_at (Array P 8) full_share ys b (o + d))) (mean 𝓛 Kept)) (sem 𝓛 X))
        (sym (part_apart (O.the_type P) full_share (with_rows h ys)
        ((O.struct P).as_values (with_rows h ys)) refl b o))
        (field_fill (O.the_type P) (laws.the_loose P (param_laws 0 Y L)) 1 d refl (λ x. x)
        (λ f. refl) M 𝓤 𝓛 ((O.struct P).as_values h) ys b o)

module _ (Y : RattleType) (L : Laws Y) where
  abbrev fn' : Fn
  fn' = inst_fn (layouts (a_type ∷ []) (Y, tt)) code.function

  abbrev stayed : Stays (F.signature Y).params (F.ended Y).kept
  stayed = (
    stay_dropped (mut_ref_to (0 ∷ []) tt (plain (λ _. R Y L))) no,
    (stay_dropped (plain (λ _. usize)) yes, tt),
  )

  small : (i : ℕ) → i < 8 → up (max 8 (max (align (layout Y)) 1)) (d Y L + 8 * s Y L) < 2 ^ 63
      → (s Y L < 2 ^ 64) × (i * s Y L < 2 ^ 64)
  small i li fit =
      let ge = up-ge (max 8 (max (align (layout Y)) 1)) (d Y L + 8 * s Y L) in
      let big : 8 * s Y L < 2 ^ 63 = omega (arith, ge, fit) in
      let at : i * s Y L ≤ 8 * s Y L = mul-le-mul_right {m = i} {n = 8} (s Y L) (omega arith) in
      (omega (arith, big), omega (arith, big, at))

  module _ {M : Type 1} {𝓤 : Ura M} (𝓛 : Logic 𝓤) (at_mem : Memory → SProp 𝓤)
      (run : Routine → Fun 𝓤) (κ κ₁ : Lft) (q q₁ : Share)
      (lives : AllOutlive 2 (F.signature Y).outlives (κ, (κ₁, tt))) (rb ro : ℕ) (γ : GName)
      (h : (R Y L).Denot) (i : ℕ) (fi : i < 2 ^ 64) (li : i < 8) (fs : s Y L < 2 ^ 64)
      (fm : i * s Y L < 2 ^ 64) where
    open 𝓛 use {H, A}

    abbrev bound : (walk_of 𝓛 (F.ended Y) stayed (F.clauses Y 𝓛 at_mem run)).Ghost
    bound = (
      (
        (κ, (κ₁, tt)),
        (q, (q₁, tt)),
        lives,
        (record { ref_ptr = (rb, ro); ghost_name = γ; now = h }, (i, tt)),
        (vptr rb ro ∷ [], (vint w64 i ∷ [], tt)),
      ),
      tt,
    )

    abbrev Post : Val → SProp 𝓤
    Post = (walk_of 𝓛 (F.ended Y) stayed (F.clauses Y 𝓛 at_mem run)).post bound

    abbrev off : ℕ
    off = i * s Y L + (ro + d Y L)

    exits : (x : Y.Denot) (γ' : GName) → ((length h.rows ≡ 8) × ((z : Y.Denot) → x ≡ get_or h.rows i z))
        → ent 𝓤 (sep 𝓤 (sep 𝓤
        (sem 𝓛 ((MutRef (named 0) κ (P Y L)).own_val (record { ref_ptr = (rb, off); ghost_name = γ'; now = x })
        (vptr rb off ∷ []))) (sep 𝓤 (A.lft κ q)
        (sem 𝓛 (follows (R Y L) (P Y L) γ γ' (λ w. with_rows Y L h (set h.rows i w))))))
        (A.lft κ₁ q₁)) (Post (vptr rb off))
    exits x γ' e =
        let r : MutBor Y.Denot = record { ref_ptr = (rb, off); ghost_name = γ'; now = x } in
        qed 𝓛 ((‵ ((MutRef (named 0) κ (P Y L)).own_val r (vptr rb off ∷ [])) ⊛ ‵ (flft κ q) ⊛ ‵ (follows (R Y L)
        (P Y L) γ γ' (λ w. with_rows Y L h (set h.rows i w)))) ∷ ‵ (flft κ₁ q₁) ∷ []) ∵ split3 ! $
        suffices ! _ (ends_at 𝓛 (F.ended Y) stayed (F.clauses Y 𝓛 at_mem run) bound (vptr rb off) r
        (tt, (tt, tt)) (tt, (tt, tt))) $
        -- [the reference; κ; what follows; κ₁]
        nothing ! $ nothing ! $ fjoin ! $ nothing ! $ fjoin ! $ join ! $ nothing ! $ move ! (4 ∷ 0 ∷ []) $
        join ! $ move ! (2 ∷ 0 ∷ []) $ join ! $ join ! $ frame ! $ says ! e $ done !

    module _ (C : Calls 𝓤 H) (Λ : Loops 𝓤 H) where
      walk : ent 𝓤 (on_entry 𝓛 (F.signature Y) (κ, (κ₁, tt)) (q, (q₁, tt))
          (record { ref_ptr = (rb, ro); ghost_name = γ; now = h }, (i, tt)) (vptr rb ro ∷ [], (vint w64 i ∷ [], tt)))
          (WpFn 𝓤 H C Λ fn' (vptr rb ro ∷ vint w64 i ∷ []) Post)
      walk =
          qed 𝓛 ((‵ (flft κ q) ⊛ ‵ (flft κ₁ q₁) ⊛ ‵ ftrue) ∷ ‵ (owns
          (MutRef (named 0) κ (R Y L) ∷ usize ∷ [])
          (record { ref_ptr = (rb, ro); ghost_name = γ; now = h }, (i, tt))
          (vptr rb ro ∷ [], (vint w64 i ∷ [], tt))) ∷ []) ∵
          enter ! C Λ fn' (vptr rb ro ∷ vint w64 i ∷ []) _ $
          alloc_all ! (λ l. pass_all ! refl ((tt, tt), ((tt, record { fits = fi }), tt)) $
          move ! (1 ∷ []) $ fsplit ! $ fsplit3 ! $ drop ! $ move ! (3 ∷ []) $ split3 ! $
          move ! (3 ∷ 4 ∷ 0 ∷ []) $
          sets ! (bin ! (get ! refl) (size_lit ! (record { fits = fs })) (record { fits = fm })) refl
          (tt, record { fits = fm }) $
          sets ! (addr ! (through ! refl (fld ! refl (stop !)))) refl (tt, tt) $
          sets ! (bin ! (get ! refl) (get ! refl) tt) refl (tt, tt) $
          sets ! (addr ! (through ! refl (stop !))) refl (tt, tt) $
          group ! 3 $ use1 𝓛 (later
          (some (λ (p : Y.Denot × GName). given
          ((length h.rows ≡ 8) × ((z : Y.Denot) → p.0 ≡ get_or h.rows i z))
          (raw (sep 𝓤 (sem 𝓛
          ((MutRef (named 0) κ (P Y L)).own_val (record { ref_ptr = (rb, off); ghost_name = p.1; now = p.0 })
          (vptr rb off ∷ []))) (sep 𝓤 (A.lft κ q)
          (sem 𝓛 (follows (R Y L) (P Y L) γ p.1 (λ w. with_rows Y L h (set h.rows i w))))))))))
          (lends_element (R Y L) (P Y L) 8 (d Y L) h h.rows (with_rows Y L h) i 𝓛 tt li rb ro
          (Kept Y L 𝓛 h rb ro) (cut Y L 𝓛 h rb ro) (fill Y L 𝓛 h rb ro) κ q γ) $
          await ! tt $ pick ! (λ p. learn ! (λ e.
          returns ! (look_at ! 0 refl) $ free_all ! refl $ keep ! (0 ∷ 1 ∷ []) $
          by ! (exits p.0 p.1 e))))

  meets : {M : Type 1} {𝓤 : Ura M} (𝓛 : Logic 𝓤) (at_mem : Memory → SProp 𝓤)
      (run : Routine → Fun 𝓤) (𝓣 : Tables 𝓤 𝓛.H)
      → Meets 𝓛 (F.signature Y) (WpFn 𝓤 𝓛.H 𝓣.C 𝓣.Λ fn')
      (closing 𝓛 (F.ended Y) (F.clauses Y 𝓛 at_mem run))
  meets {𝓤 = 𝓤} 𝓛 at_mem run 𝓣 =
      walk_Meets 𝓛 (F.ended Y) stayed (
        Goes-spent_ref 𝓛 2 (0 ∷ []) tt (plain (λ _. R Y L)),
        (Goes-dropped 𝓛 2 (plain (λ _. usize)) yes (λ κs x f. refl), tt),
      )
      (F.clauses Y 𝓛 at_mem run) (WpFn 𝓤 𝓛.H 𝓣.C 𝓣.Λ fn') (WpFn-mono 𝓤 𝓛.H 𝓛.laws 𝓣 fn')
      (walked 𝓛 (F.ended Y) stayed (F.clauses Y 𝓛 at_mem run) (WpFn 𝓤 𝓛.H 𝓣.C 𝓣.Λ fn')
      (λ κs. (mut_vals, (uint_vals w64, tt)))
      (λ κs. (mut_Tells (named 0) κs.0 (R Y L), (uint_Tells w64, tt)))
      (λ κs qs bounds a g are.
      qed 𝓛 (raw (on_entry 𝓛 (F.signature Y) κs qs a (mut_vals a.0, (uint_vals w64 a.1.0, tt))) ∷
      (given (κs.1.0 ⊑ Y.lives) (‵ ftrue) ⊛ given (size (layout (R Y L)) < 2 ^ 63) (‵ ftrue) ⊛ given
      (a.1.0 < 8) (‵ ftrue)) ∷ []) ∵
      move ! (1 ∷ []) $ split3 ! $ learn ! (λ inT. drop ! $ learn ! (λ fit. drop ! $ learn ! (λ li. drop ! $
      let fits = small a.1.0 li fit in
      by ! (walk 𝓛 at_mem run κs.0 κs.1.0 qs.0 qs.1.0 bounds a.0.ref_ptr.0
      a.0.ref_ptr.1 a.0.ghost_name a.0.now a.1.0 are.1.0.1 li fits.0
      fits.1 𝓣.C 𝓣.Λ))))))

pub row_spec : {M : Type 1} → stated.statement M
unfolding tables_of
row_spec 𝓤 𝓛 𝓜 𝓡 wired Y L =
    let A = 𝓛.A in
    let 𝓣 : Tables 𝓤 𝓛.H = tables_of 𝓤 𝓛.H 𝓜 (tables 𝓤 𝓛.H 𝓜 𝓡 𝓡.env) in
    entered 𝓤 𝓛.H (triple_of 𝓛 (F.signature Y) (F.spec Y 𝓛 𝓜.mem 𝓡.returns)) 𝓣.C 𝓣.Λ
    (#self (layouts (a_type ∷ []) (Y, tt))) (fn' Y L) (code.unfolded 𝓤 𝓛.H 𝓜 𝓡 wired (Y, tt))
    (meets Y L 𝓛 𝓜.mem 𝓡.returns 𝓣)
