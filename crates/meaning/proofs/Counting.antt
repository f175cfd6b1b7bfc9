-- Each field of a part of a set of marks has its list of numbers.
use Rattle.std.proofs.Common.{◌≡◌, ℕ, ◌<◌, ◌≤◌, true, false, ◌⊎◌, List, [], ◌∷◌, get_or, ◌∙◌, inl, inr, arith}
use Rattle.std.proofs.lemmas.Bool.{cases_Bool, cases_lt}
use Rattle.std.proofs.lemmas.List.{get_or_past}
use Rattle.marks.specs.Sets.{Marks, Values, MarksOf}
use Rattle.marks.specs.Counted.{some, values}
use Rattle.marks.proofs.Counted.{some_sound, none_empty, values_are}
use Rattle.meaning.proofs.Values.{in_one}

-- every part of S has its fields' numbers
abbrev pub Counted : Marks → Type 0
Counted S = (P : Marks) → ((m : List ℕ) → P m ≡ true → S m ≡ true) → (f : ℕ) → (vs : List ℕ) × Values P f vs

pub counted : (w : ℕ) (S : Marks) → MarksOf w S → Counted S
counted w S B P s f = go (cases_lt f w) (cases_Bool (some w P))
  where
    of_w : MarksOf w P
    of_w m h = B m (s m h)

    past : w ≤ f → (m : List ℕ) → P m ≡ true → get_or m f 0 ≡ 0
    past l m h = let e = (of_w m h).0 in get_or_past m f 0 (omega arith)

    go : (f < w) ⊎ (w ≤ f) → (some w P ≡ true) ⊎ (some w P ≡ false) → (vs : List ℕ) × Values P f vs
    go (inl l) d = (values w P f, values_are w P f of_w l)
    go (inr l) (inl e) =
        let r = some_sound w P e in (
          0 ∷ [],
          record {
            ascending = (λ y i. absurd i, tt);
            all = λ m h. inl (past l m h);
            only = λ v i n. n r.0 r.2 (past l r.0 r.2 ∙ in_one 0 v i);
          },
        )
    go (inr l) (inr e) = (
      [],
      record {
        ascending = tt;
        all = λ m h. absurd (none_empty w P of_w e m h);
        only = λ v i n. absurd i;
      },
    )

unfoldable pub counted_part : (S P : Marks) → Counted S → ((m : List ℕ) → P m ≡ true → S m ≡ true) → Counted P
counted_part S P C s = λ Q r f. C Q (λ m h. s m (r m h)) f
