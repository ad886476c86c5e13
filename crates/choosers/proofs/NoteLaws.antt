-- What a note writes is a row more.
use Rattle.std.proofs.Common.{◌≡◌, ℕ, ◌+◌, ◌<◌, List, [], ◌∷◌, ◌++◌, map, length, get_or, take, set, Some, None, Option, sym, refl, ap, ◌∙◌, subst, length-set, arith}
use mathlib.Core.Logic.{∥∥₁_elim, ∥∥₁_prop}
use denote.Struct.Props.{props}
use Rattle.std.proofs.Math.Seq.{take-set-lt, map-set_same}
use Rattle.std.proofs.lemmas.List.{map-append, length-map, length-take-le, get_or-take, take_more_set}
use Rattle.std.proofs.lemmas.Bool.{cond-true, lt-ltb}
use Rattle.choosers.specs.declared.row.Row.{Row}
use Rattle.choosers.specs.declared.chains.Link.{Link}
use Rattle.choosers.specs.declared.chains.Ends.{Ends}
use Rattle.choosers.specs.Chained.{link_at, Chained}
use Rattle.choosers.specs.Rows.{noted}
use Rattle.choosers.proofs.ChainLaws.{unlinked, last_link, last_is, chained_first, chained_linked}

abbrev pub rows : List Link → List Row
rows xs = map (λ (l : Link). l.row) xs

-- the first n links are those told
module _ (xs : List Link) (ends : List (Option Ends)) (r : Row) (n : ℕ) (room : n < length xs) where
  told : length (take n xs) ≡ n
  told = length-take-le n xs (omega arith)

  -- one link more
  abbrev pub longer : List Link → List Link
  longer ys = take (n + 1) (set ys n (last_link r))

  abbrev pub linked : ℕ → List Link
  linked b = set xs b (record { row = (link_at xs b).row; next = Some n })

  one_more : longer xs ≡ take n xs ++ last_link r ∷ []
  one_more = take_more_set xs n (last_link r) room

  front : (b : ℕ) → b < n → take n (linked b) ≡ set (take n xs) b (record { row = (link_at (take n xs) b).row; next = Some n })
  front b lt = take-set-lt n xs b (record { row = (link_at xs b).row; next = Some n }) lt ∙ ap (λ (l : Link). set (take n xs) b (record { row = l.row; next = Some n })) (sym (get_or-take n xs b unlinked lt))

  one_linked : (b : ℕ) → b < n → longer (linked b) ≡ set (take n xs) b (record { row = (link_at (take n xs) b).row; next = Some n }) ++ last_link r ∷ []
  one_linked b lt =
      take_more_set (linked b) n (last_link r) (omega (arith, length-set xs b (record { row = (link_at xs b).row; next = Some n })))
      ∙ ap (λ (ys : List Link). ys ++ last_link r ∷ []) (front b lt)

  noted_more : n < 256 → rows (take n xs) ++ r ∷ [] ≡ noted (rows (take n xs)) r
  noted_more few = sym (cond-true _ _ _ (lt-ltb (length (rows (take n xs))) 256 (omega (arith, told, length-map (take n xs) (λ (l : Link). l.row)))))

  pub rows_more : n < 256 → rows (longer xs) ≡ noted (rows (take n xs)) r
  rows_more few = ap rows one_more ∙ map-append (λ (l : Link). l.row) (take n xs) (last_link r ∷ []) ∙ noted_more few

  module _ (long : length ends ≡ 256) (small : r.symbol < 256) (t : ∥ Chained (take n xs) ends ∥₁) where
    pub chain_first : get_or ends r.symbol None ≡ None → ∥ Chained (longer xs) (set ends r.symbol (Some (record { first = n; last = n }))) ∥₁
    chain_first none =
        ∥∥₁_elim t ∥∥₁_prop (λ c.
        ∣ subst (λ (ys : List Link). Chained ys (set ends r.symbol (Some (record { first = n; last = n })))) (sym one_more)
        (subst (λ k. Chained (take n xs ++ last_link r ∷ []) (set ends r.symbol (Some (record { first = k; last = k })))) told (chained_first (take n xs) ends r long small c none)) ∣₁)

    module _ (e : Ends) (some : get_or ends r.symbol None ≡ Some e) where
      before : e.last < n
      before = ∥∥₁_elim t (hlevel props) (λ c. subst (λ k. e.last < k) told (last_is (take n xs) ends r long small c e some).0)

      pub chain_linked : ∥ Chained (longer (linked e.last)) (set ends r.symbol (Some (record { first = e.first; last = n }))) ∥₁
      chain_linked =
          ∥∥₁_elim t ∥∥₁_prop (λ c.
          ∣ subst (λ (ys : List Link). Chained ys (set ends r.symbol (Some (record { first = e.first; last = n })))) (sym (one_linked e.last before))
          (subst (λ k. Chained (set (take n xs) e.last (record { row = (link_at (take n xs) e.last).row; next = Some k }) ++ last_link r ∷ []) (set ends r.symbol (Some (record { first = e.first; last = k })))) told
          (chained_linked (take n xs) ends r long small c e some)) ∣₁)

      pub rows_linked : n < 256 → rows (longer (linked e.last)) ≡ noted (rows (take n xs)) r
      rows_linked few =
          ap rows (one_linked e.last before)
          ∙ map-append (λ (l : Link). l.row) (set (take n xs) e.last (record { row = (link_at (take n xs) e.last).row; next = Some n })) (last_link r ∷ [])
          ∙ ap (λ (ys : List Row). ys ++ r ∷ []) (map-set_same (λ (l : Link). l.row) (take n xs) e.last (record { row = (link_at (take n xs) e.last).row; next = Some n }) unlinked refl)
          ∙ noted_more few
