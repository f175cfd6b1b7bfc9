-- A list changed in place, item by item.
use Rattle.std.proofs.Common.{◌≡◌, ℕ, ◌+◌, ◌<◌, List, [], ◌∷◌, ◌++◌, map, length, get_or, set, take, drop, sym, ap, ◌∙◌, append_assoc, arith, length-take}
use lib.ListN.{length-map}
use Rattle.std.proofs.lemmas.List.{set_at, get_or_at, drop_more, map_more}

pub map_in_place :
    (f : ℕ → ℕ) (xs ys : List ℕ) (i y : ℕ)
    → i < length xs
    → ys ≡ map f (take i xs) ++ drop i xs
    → y ≡ f (get_or ys i 0)
    → set ys i y ≡ map f (take (i + 1) xs) ++ drop (i + 1) xs
map_in_place f xs ys i y inside so_far new =
    let done = map f (take i xs) in
    let x = get_or xs i 0 in
    let rest = drop (i + 1) xs in
    let long : length done ≡ i = omega (arith, length-map (take i xs) f, length-take i xs) in
    let here : ys ≡ done ++ x ∷ rest = so_far ∙ ap (λ l. done ++ l) (drop_more xs i 0 inside) in
    let is : y ≡ f x = new ∙ ap (λ l. f (get_or l i 0)) here ∙ ap f (get_or_at done x rest 0 i long) in
    ap (λ l. set l i y) here ∙ set_at done x rest y i long
    ∙ ap (λ z. done ++ z ∷ rest) is
    ∙ sym (ap (λ l. l ++ rest) (map_more f xs i 0 inside) ∙ append_assoc done (f x ∷ []) rest)
