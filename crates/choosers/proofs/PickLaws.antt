-- A walk along a chain.
use Rattle.std.proofs.Common.{◌≡◌, ℕ, ◌+◌, ◌-◌, ◌<◌, ◌≤◌, List, map, length, get_or, take, Some, None, Option, sym, ap, ◌∙◌, subst, ⊎_elim, arith}
use mathlib.Core.Logic.{∥∥₁_elim}
use denote.Struct.Props.{props}
use Rattle.std.proofs.lemmas.List.{get_or-map, get_or-take, length-map, length-take}
use Rattle.std.proofs.lemmas.Bool.{cases_lt, cases_eq}
use Rattle.choosers.specs.declared.row.Row.{Row}
use Rattle.choosers.specs.declared.chains.Link.{Link}
use Rattle.choosers.specs.declared.chains.Ends.{Ends}
use Rattle.choosers.specs.Chained.{link_at, symbol_at, key_at, Least, Spans, Chained, Starts}
use Rattle.choosers.specs.Picks.{Passed, Picks, Finds}
use Rattle.choosers.specs.Rows.{blank, Clash, row_of}

-- the rows from `after` on that stand before `at` are passed, and `at` has the symbol; all are, where there is no `at`
abbrev pub Walked : List Link → ℕ → ℕ → ℕ → Option ℕ → Type 0
Walked links s key after None = (i : ℕ) → (after ≤ i) × (i < length links) × (symbol_at links i ≡ s) → Clash key (key_at links i)
Walked links s key after (Some n) = (n < length links) × (symbol_at links n ≡ s) × ((i : ℕ) → (after ≤ i) × (i < n) × (symbol_at links i ≡ s) → Clash key (key_at links i))

-- a link of those told stands in the array at its place
pub told_at : (links : List Link) (len n : ℕ) → n < length (take len links) → link_at (take len links) n ≡ link_at links n
told_at links len n lt = get_or-take len links n (record { row = blank; next = None }) (omega (arith, lt, length-take len links))

-- how many rows may still be walked to
abbrev pub ahead : ℕ → Option ℕ → ℕ
ahead len None = 0
ahead len (Some n) = len - n

pub walk_start : (links : List Link) (s key after : ℕ) (o : Option ℕ) → Starts links s after o → Walked links s key after o
walk_start links s key after None h = λ i p. absurd (h i p)
walk_start links s key after (Some n) h = (h.0, h.1, λ i p. absurd (h.2 i p))

-- where row `after` has the symbol
begin_next : (links : List Link) (s after : ℕ) (o : Option ℕ) → 0 < after → Least (length links) (symbol_at links) s (after - 1 + 1) o → Starts links s after o
begin_next links s after None low h = λ i p. h i (omega (arith, p.0), p.1, p.2)
begin_next links s after (Some n) low h = (h.1, h.2, λ i p. h.3 i (omega (arith, p.0), p.1, p.2))

begin_first : (links : List Link) (s after : ℕ) (o : Option ℕ) → Least (length links) (symbol_at links) s 0 o → Starts links s after o
begin_first links s after None h = λ i p. h i (omega arith, p.1, p.2)
begin_first links s after (Some n) h = (h.1, h.2, λ i p. h.3 i (omega arith, p.1, p.2))

abbrev pub head_of : Option Ends → Option ℕ
head_of None = None
head_of (Some e) = Some e.first

head_least : (len : ℕ) (sym : ℕ → ℕ) (s : ℕ) (o : Option Ends) → Spans len sym s o → Least len sym s 0 (head_of o)
head_least len sym s None h = h
head_least len sym s (Some e) h = h.0

starts_prop : (links : List Link) (s after : ℕ) (o : Option ℕ) → IsProp (Starts links s after o)
starts_prop links s after None = hlevel props
starts_prop links s after (Some n) = hlevel props

walked_prop : (links : List Link) (s key after : ℕ) (o : Option ℕ) → IsProp (Walked links s key after o)
walked_prop links s key after None = hlevel props
walked_prop links s key after (Some n) = hlevel props

module _ (links : List Link) (ends : List (Option Ends)) (s after : ℕ) (t : ∥ Chained links ends ∥₁) where
  pub start_next : 0 < after → after ≤ length links → symbol_at links (after - 1) ≡ s → Starts links s after (link_at links (after - 1)).next
  start_next low within e =
      ∥∥₁_elim t (starts_prop links s after (link_at links (after - 1)).next) (λ h.
      begin_next links s after (link_at links (after - 1)).next low
      (subst (λ k. Least (length links) (symbol_at links) k (after - 1 + 1) (link_at links (after - 1)).next) e (h.steps (after - 1) (omega arith))))

  pub start_first : s < 256 → Starts links s after (head_of (get_or ends s None))
  start_first small =
      ∥∥₁_elim t (starts_prop links s after (head_of (get_or ends s None))) (λ h.
      begin_first links s after (head_of (get_or ends s None)) (head_least (length links) (symbol_at links) s (get_or ends s None) (h.spans s small)))

-- the walk goes on to o
module _ (links : List Link) (s key after n : ℕ) (here : after ≤ n → Clash key (key_at links n)) (w : Walked links s key after (Some n)) where
  walk_on : (o : Option ℕ) → Least (length links) (symbol_at links) s (n + 1) o → Walked links s key after o
  walk_on o h = go o h
    where
      at : (i : ℕ) → after ≤ i → symbol_at links i ≡ s → (n < i → ⊥) → Clash key (key_at links i)
      at i low e up =
          ⊎_elim (λ (below : i < n). w.2 i (low, below, e))
          (λ (above : n ≤ i).
          ⊎_elim (λ (q : n ≡ i). subst (λ k. Clash key (key_at links k)) q (here (omega arith)))
          (λ (ne : n ≡ i → ⊥). let b : n < i = omega arith in absurd (up b)) (cases_eq n i))
          (cases_lt i n)

      go : (o : Option ℕ) → Least (length links) (symbol_at links) s (n + 1) o → Walked links s key after o
      go None h = λ i p. at i p.0 p.2 (λ b. h i (omega arith, p.1, p.2))
      go (Some m) h = (h.1, h.2, λ i p. at i p.0 p.2 (λ b. h.3 i (omega arith, p.1, p.2)))

module _ (links : List Link) (ends : List (Option Ends)) (s key after n : ℕ) (t : ∥ Chained links ends ∥₁) (w : Walked links s key after (Some n)) where
  pub walk_next : (after ≤ n → Clash key (key_at links n)) → Walked links s key after (link_at links n).next
  walk_next here =
      ∥∥₁_elim t (walked_prop links s key after (link_at links n).next) (λ h.
      walk_on links s key after n here w (link_at links n).next
      (subst (λ k. Least (length links) (symbol_at links) k (n + 1) (link_at links n).next) w.1 (h.steps n w.0)))

  pub walk_less : ahead (length links) (link_at links n).next < length links - n
  walk_less = ∥∥₁_elim t (hlevel props) (λ h. less (link_at links n).next (h.steps n w.0))
    where
      less : (o : Option ℕ) → Least (length links) (symbol_at links) (symbol_at links n) (n + 1) o → ahead (length links) o < length links - n
      less None h = let a : n < length links = w.0 in omega arith
      less (Some m) h = let a : n < length links = w.0 in let b : n + 1 ≤ m = h.0 in omega arith

-- what is found is a pick
pub found_picks : (rows : List Row) (s key after : ℕ) (r : Option ℕ) → Finds rows s key after r → Picks rows s key after r
found_picks rows s key after None f = f
found_picks rows s key after (Some m) f = f.0

-- with a key that clashes with none, it is one for every key
any_passed : (rows : List Row) (s key after m : ℕ) → Passed rows s 0 after m → Passed rows s key after m
any_passed rows s key after m p i low lt e = let c = (p i low lt e).0 in absurd (omega arith)

pub next_picks : (rows : List Row) (s key after : ℕ) (r : Option ℕ) → Finds rows s 0 after r → Picks rows s key after r
next_picks rows s key after None f = any_passed rows s key after (length rows + 1) f
next_picks rows s key after (Some m) f =
    record { above = f.0.above; within = f.0.within; has = f.0.has; passed = any_passed rows s key after m f.0.passed }

module _ (links : List Link) (s key after : ℕ) where
  abbrev rows : List Row
  rows = map (λ (l : Link). l.row) links

  row_is : (m : ℕ) → 0 < m → m ≤ length links → row_of rows m ≡ (link_at links (m - 1)).row
  row_is m low le = get_or-map (λ (l : Link). l.row) links (m - 1) (record { row = blank; next = None }) blank (omega arith)

  told : length rows ≡ length links
  told = length-map links (λ (l : Link). l.row)

  passed : (m n : ℕ) → m ≤ n + 1 → n ≤ length links → ((i : ℕ) → (after ≤ i) × (i < n) × (symbol_at links i ≡ s) → Clash key (key_at links i)) → Passed rows s key after m
  passed m n le within w i low lt e =
      let same = row_is i (omega arith) (omega arith) in
      subst (λ r. Clash key r.key) (sym same) (w (i - 1) (omega arith, omega arith, ap (λ r. r.symbol) (sym same) ∙ e))

  pub walk_found : (n : ℕ) → Walked links s key after (Some n) → after ≤ n → (Clash key (key_at links n) → ⊥) → Finds rows s key after (Some (n + 1))
  walk_found n w low serves =
      let back : n + 1 - 1 ≡ n = omega arith in
      let same = row_is (n + 1) (omega arith) (let a = w.0 in omega arith) ∙ ap (λ i. (link_at links i).row) back in (
        record {
          above = omega arith;
          within = (let a : n < length links = w.0 in omega (arith, told));
          has = ap (λ r. r.symbol) same ∙ w.1;
          passed = passed (n + 1) n (omega arith) (let a : n < length links = w.0 in omega arith) w.2;
        },
        λ c. serves (subst (λ r. Clash key r.key) same c),
      )

  pub walk_done : Walked links s key after None → Finds rows s key after None
  walk_done w = subst (λ n. Passed rows s key after (n + 1)) (sym told) (passed (length links + 1) (length links) (omega arith) (omega arith) w)
