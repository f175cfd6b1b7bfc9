-- Line and column name one place, and the mark stands under it.
use Rattle.std.proofs.Common.{◌≡◌, ℕ, ◌+◌, ◌-◌, ◌<◌, ◌≤◌, min, cond, List, [], ◌∷◌, map, length, get_or, take, replicate, count_by, sym, ap, ◌∙◌, ⊎_elim, arith, length-take, eq-eqb}
use lib.ListN.{length-map, length-replicate}
use Rattle.std.proofs.lemmas.List.Edits.{length-between, get_or-between}
use Rattle.std.proofs.lemmas.List.{get_or_append_left, get_or_at, get_or-map, take-take}
use Rattle.std.proofs.lemmas.List.Sums.{count_by_more_yes, sum_by-take-le}
use Rattle.std.proofs.lemmas.Bool.{cases_lt}
use Rattle.lines.specs.Lines.{line_feed}
use Rattle.advice.specs.Laws.{OnePlace, StandsUnder}
use Rattle.lines.specs.Pieces.{shown}
use Rattle.advice.specs.Places.{is_line_feed, number_of_line, start_of_line, end_of_line, line_of, column, LineAt}
use Rattle.advice.proofs.Places.{line_at, one_line}

count_mono :
    (text : List ℕ) (p q : ℕ)
    → p ≤ q
    → count_by is_line_feed (take p text) ≤ count_by is_line_feed (take q text)
count_mono text p q more =
    let weight : ℕ → ℕ = λ b. cond (is_line_feed b) 1 0 in
    omega (arith, sum_by-take-le weight (take q text) p, ap (count_by is_line_feed) (take-take p q text more))

-- a line feed between two places parts their lines
parted :
    (text : List ℕ) (p q k : ℕ)
    → p ≤ k
    → k < q
    → k < length text
    → get_or text k 0 ≡ 10
    → number_of_line text p < number_of_line text q
parted text p q k from to inside feed =
    let step = count_by_more_yes is_line_feed text k 0 inside (eq-eqb _ 10 feed) in
    omega (arith, count_mono text p k from, count_mono text (k + 1) q (omega arith))

-- of two places with one line number, the later lies in the line of the earlier
same_line :
    (text : List ℕ) (p q : ℕ)
    → p ≤ q
    → number_of_line text p ≡ number_of_line text q
    → LineAt text q (start_of_line text p) (end_of_line text p)
same_line text p q later same =
    let line = line_at text p in
    let here = length-take p text in
    let there = length-take q text in
    let reaches : min q (length text) ≤ end_of_line text p =
    ⊎_elim
    (λ short. absurd (omega (
      arith,
      parted text p q (end_of_line text p) (omega arith) (omega arith) (omega arith) (line.ends (omega arith)),
    )))
    (λ so. so)
    (cases_lt (end_of_line text p) (min q (length text))) in
    record {
      holds = (omega arith, reaches, omega arith);
      unbroken = line.unbroken;
      begins = line.begins;
      ends = line.ends;
    }

-- so a place with the same column is the same place
one_place_on :
    (text : List ℕ) (p q : ℕ)
    → p ≤ q
    → number_of_line text p ≡ number_of_line text q
    → column text p ≡ column text q
    → min p (length text) ≡ min q (length text)
one_place_on text p q order numbers columns =
    let start = ((one_line text q).1 _ _ (same_line text p q order numbers)).0 in
    let earlier = (line_at text p).holds in
    let later = (line_at text q).holds in
    omega (arith, length-take p text, length-take q text)

pub one_place : (text : List ℕ) (place : ℕ) → OnePlace text place
one_place text place other numbers columns =
    ⊎_elim
    (λ less. one_place_on text other place (omega arith) numbers columns)
    (λ more. sym (one_place_on text place other more (sym numbers) (sym columns)))
    (cases_lt other place)

pub stands_under : (text : List ℕ) (place : ℕ) → StandsUnder text place
stands_under text place =
    let line = line_at text place in
    let s = start_of_line text place in
    let e = end_of_line text place in
    let k = column text place - 1 in
    record {
      mark = get_or_at (replicate {A = ℕ} k 32) 94 (10 ∷ []) 0 k (length-replicate {A = ℕ} k 32);
      above = λ inside byte.
          let here = length-take place text in
          let before : place < e =
          ⊎_elim
          (λ so. so)
          (λ past. absurd (byte (ap (λ i. get_or text i 0) (omega arith) ∙ line.ends (omega arith))))
          (cases_lt place e) in
          let there : s + k ≡ place = omega arith in
          let long = length-between text s e line.holds.2 in
          get_or_append_left (map shown (line_of text place)) line_feed 0 k
          (omega (arith, length-map (line_of text place) shown))
          ∙ get_or-map shown (line_of text place) k 0 0 (omega arith)
          ∙ ap shown (get_or-between text s e k 0 (omega arith) ∙ ap (λ i. get_or text i 0) there);
    }
