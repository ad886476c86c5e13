-- A row more keeps the chains.
use Rattle.std.proofs.Common.{◌≡◌, ℕ, ◌+◌, ◌<◌, ◌≤◌, List, [], ◌∷◌, ◌++◌, length, get_or, set, Some, None, Option, sym, ap, ◌∙◌, subst, ⊎_elim, length-append, length-set, arith}
use Rattle.std.proofs.lemmas.List.{get_or-set_same, get_or-set_other, get_or_append_left, get_or-append-add}
use Rattle.std.proofs.lemmas.Bool.{cases_lt, cases_eq}
use Rattle.choosers.specs.declared.row.Row.{Row}
use Rattle.choosers.specs.declared.chains.Link.{Link}
use Rattle.choosers.specs.declared.chains.Ends.{Ends}
use Rattle.choosers.specs.Chained.{link_at, symbol_at, Least, Spans, Chained}
use Rattle.choosers.specs.Rows.{blank}

-- a row of the symbol s after len rows
module _ (len s : ℕ) (old new : ℕ → ℕ) (same : (i : ℕ) → i < len → new i ≡ old i) (here : new len ≡ s) where
  first_kept : (t low n : ℕ) → Least len old t low (Some n) → Least (len + 1) new t low (Some n)
  first_kept t low n h = (h.0, omega (arith, h.1), same n h.1 ∙ h.2, λ i p. h.3 i (p.0, p.1, sym (same i (omega (arith, p.1, h.1))) ∙ p.2))

  none_other : (t low : ℕ) → (t ≡ s → ⊥) → Least len old t low None → Least (len + 1) new t low None
  none_other t low ne h =
      λ i p. ⊎_elim (λ (lt : i < len). h i (p.0, lt, sym (same i lt) ∙ p.2))
      (λ (ge : len ≤ i). let e : i ≡ len = omega (arith, p.1) in ne (sym p.2 ∙ ap new e ∙ here)) (cases_lt i len)

  least_other : (t low : ℕ) (o : Option ℕ) → (t ≡ s → ⊥) → Least len old t low o → Least (len + 1) new t low o
  least_other t low None ne h = none_other t low ne h
  least_other t low (Some n) ne h = first_kept t low n h

  least_new : (low : ℕ) → low ≤ len → Least len old s low None → Least (len + 1) new s low (Some len)
  least_new low le h = (le, omega arith, here, λ i p. h i (p.0, p.1, sym (same i p.1) ∙ p.2))

  none_after : Least (len + 1) new s (len + 1) None
  none_after = λ i p. absurd (omega (arith, p.0, p.1))

  spans_other : (t : ℕ) (o : Option Ends) → (t ≡ s → ⊥) → Spans len old t o → Spans (len + 1) new t o
  spans_other t None ne h = none_other t 0 ne h
  spans_other t (Some e) ne h = (first_kept t 0 e.first h.0, (omega (arith, h.1.0), same e.last h.1.0 ∙ h.1.1, none_other t (e.last + 1) ne h.1.2))

  spans_first : Least len old s 0 None → Spans (len + 1) new s (Some (record { first = len; last = len }))
  spans_first h = (least_new 0 (omega arith) h, (omega arith, here, none_after))

  spans_last : (e : Ends) → Spans len old s (Some e) → Spans (len + 1) new s (Some (record { first = e.first; last = len }))
  spans_last e h = (first_kept s 0 e.first h.0, (omega arith, here, none_after))

  module _ (next next' : ℕ → Option ℕ) (end : next' len ≡ None) (steps : (i : ℕ) → i < len → Least len old (old i) (i + 1) (next i)) where
    steps_by : ((i : ℕ) → i < len → Least (len + 1) new (old i) (i + 1) (next' i)) → (i : ℕ) → i < len + 1 → Least (len + 1) new (new i) (i + 1) (next' i)
    steps_by f i lt =
        ⊎_elim (λ (b : i < len). subst (λ k. Least (len + 1) new k (i + 1) (next' i)) (sym (same i b)) (f i b))
        (λ (ge : len ≤ i).
        let e : len ≡ i = omega arith in
        subst (λ k. Least (len + 1) new (new k) (k + 1) (next' k)) e
        (subst (λ k. Least (len + 1) new k (len + 1) (next' len)) (sym here) (subst (Least (len + 1) new s (len + 1)) (sym end) none_after)))
        (cases_lt i len)

    -- the first row of its symbol
    steps_first : Least len old s 0 None → ((i : ℕ) → i < len → next' i ≡ next i) → (i : ℕ) → i < len + 1 → Least (len + 1) new (new i) (i + 1) (next' i)
    steps_first free kept =
        steps_by (λ i lt. subst (Least (len + 1) new (old i) (i + 1)) (sym (kept i lt)) (least_other (old i) (i + 1) (next i) (λ e. free i (omega arith, lt, e)) (steps i lt)))

    -- the next row after b, the last of its symbol
    module _ (b : ℕ) (bl : b < len) (at : old b ≡ s) (last : Least len old s (b + 1) None) where
      later : (i : ℕ) → i < len → (i ≡ b → ⊥) → (o : Option ℕ) → Least len old (old i) (i + 1) o → Least (len + 1) new (old i) (i + 1) o
      later i lt ne (Some n) h = first_kept (old i) (i + 1) n h
      later i lt ne None h =
          none_other (old i) (i + 1) (λ e. ⊎_elim (λ (lo : i < b). h b (omega arith, bl, at ∙ sym e)) (λ (hi : b ≤ i). last i (omega arith, lt, e)) (cases_lt i b)) h

      steps_linked : ((i : ℕ) → i < len → (i ≡ b → ⊥) → next' i ≡ next i) → next' b ≡ Some len → (i : ℕ) → i < len + 1 → Least (len + 1) new (new i) (i + 1) (next' i)
      steps_linked others linked =
          steps_by (λ i lt. ⊎_elim
          (λ (e : i ≡ b).
          subst (λ k. Least (len + 1) new (old k) (k + 1) (next' k)) (sym e)
          (subst (λ t. Least (len + 1) new t (b + 1) (next' b)) (sym at) (subst (Least (len + 1) new s (b + 1)) (sym linked) (least_new (b + 1) (omega arith) last))))
          (λ (ne : i ≡ b → ⊥). subst (Least (len + 1) new (old i) (i + 1)) (sym (others i lt ne)) (later i lt ne (next i) (steps i lt)))
          (cases_eq i b))

abbrev pub unlinked : Link
unlinked = record { row = blank; next = None }

abbrev pub last_link : Row → Link
last_link r = record { row = r; next = None }

-- the links with one more at the end
module _ (links : List Link) (r : Row) where
  before : (i : ℕ) → i < length links → link_at (links ++ last_link r ∷ []) i ≡ link_at links i
  before i lt = get_or_append_left links (last_link r ∷ []) unlinked i lt

  added : link_at (links ++ last_link r ∷ []) (length links) ≡ last_link r
  added = let e : length links ≡ length links + 0 = omega arith in ap (link_at (links ++ last_link r ∷ [])) e ∙ get_or-append-add links (last_link r ∷ []) 0 unlinked

  one_more : length (links ++ last_link r ∷ []) ≡ length links + 1
  one_more = length-append links (last_link r ∷ [])

abbrev Stepped : ℕ → List Link → Type 0
Stepped n links = (i : ℕ) → i < n → Least n (symbol_at links) (symbol_at links i) (i + 1) (link_at links i).next

module _ (links : List Link) (ends : List (Option Ends)) (r : Row) (long : length ends ≡ 256) (small : r.symbol < 256) (h : Chained links ends) where
  abbrev len : ℕ
  len = length links

  -- the symbol's ends as the row is told
  was : (o : Option Ends) → get_or ends r.symbol None ≡ o → Spans len (symbol_at links) r.symbol o
  was o e = subst (Spans len (symbol_at links) r.symbol) e (h.spans r.symbol small)

  module _ (new : ℕ → ℕ) (same : (i : ℕ) → i < len → new i ≡ symbol_at links i) (here : new len ≡ r.symbol) (e : Ends) (now : Spans (len + 1) new r.symbol (Some e)) where
    spans_now : (t : ℕ) → t < 256 → Spans (len + 1) new t (get_or (set ends r.symbol (Some e)) t None)
    spans_now t lt =
        ⊎_elim
        (λ (q : t ≡ r.symbol).
        subst (λ k. Spans (len + 1) new k (get_or (set ends r.symbol (Some e)) k None)) (sym q)
        (subst (Spans (len + 1) new r.symbol) (sym (get_or-set_same ends r.symbol (Some e) None (omega arith))) now))
        (λ (ne : t ≡ r.symbol → ⊥).
        subst (Spans (len + 1) new t) (sym (get_or-set_other ends r.symbol t (Some e) None ne))
        (spans_other len r.symbol (symbol_at links) new same here t (get_or ends t None) ne (h.spans t lt)))
        (cases_eq t r.symbol)

  pub chained_first : get_or ends r.symbol None ≡ None → Chained (links ++ last_link r ∷ []) (set ends r.symbol (Some (record { first = len; last = len })))
  chained_first none =
      let links' = links ++ last_link r ∷ [] in
      let same : (i : ℕ) → i < len → symbol_at links' i ≡ symbol_at links i = λ i lt. ap (λ (l : Link). l.row.symbol) (before links r i lt) in
      let here : symbol_at links' len ≡ r.symbol = ap (λ (l : Link). l.row.symbol) (added links r) in
      let free = was None none in
      record {
        spans = subst (λ n. (t : ℕ) → t < 256 → Spans n (symbol_at links') t (get_or (set ends r.symbol (Some (record { first = len; last = len }))) t None)) (sym (one_more links r))
            (spans_now (symbol_at links') same here (record { first = len; last = len }) (spans_first len r.symbol (symbol_at links) (symbol_at links') same here free));
        steps = subst (λ n. Stepped n links') (sym (one_more links r))
            (steps_first len r.symbol (symbol_at links) (symbol_at links') same here (λ i. (link_at links i).next) (λ i. (link_at links' i).next) (ap (λ (l : Link). l.next) (added links r)) h.steps free
            (λ i lt. ap (λ (l : Link). l.next) (before links r i lt)));
      }

  module _ (e : Ends) (some : get_or ends r.symbol None ≡ Some e) where
    abbrev linked : List Link
    linked = set links e.last (record (link_at links e.last) { next = Some len })

    pub last_is : (e.last < len) × (symbol_at links e.last ≡ r.symbol) × Least len (symbol_at links) r.symbol (e.last + 1) None
    last_is = (was (Some e) some).1

    linked_long : length linked ≡ len
    linked_long = length-set links e.last (record (link_at links e.last) { next = Some len })

    at_last : link_at linked e.last ≡ record (link_at links e.last) { next = Some len }
    at_last = get_or-set_same links e.last (record (link_at links e.last) { next = Some len }) unlinked last_is.0

    at_other : (i : ℕ) → (i ≡ e.last → ⊥) → link_at linked i ≡ link_at links i
    at_other i ne = get_or-set_other links e.last i (record (link_at links e.last) { next = Some len }) unlinked ne

    same_symbol : (i : ℕ) → symbol_at linked i ≡ symbol_at links i
    same_symbol i =
        ⊎_elim (λ (q : i ≡ e.last). ap (symbol_at linked) q ∙ ap (λ (l : Link). l.row.symbol) at_last ∙ ap (symbol_at links) (sym q))
        (λ (ne : i ≡ e.last → ⊥). ap (λ (l : Link). l.row.symbol) (at_other i ne)) (cases_eq i e.last)

    pub chained_linked : Chained (linked ++ last_link r ∷ []) (set ends r.symbol (Some (record { first = e.first; last = len })))
    chained_linked =
        let links' = linked ++ last_link r ∷ [] in
        let longer : length links' ≡ len + 1 = one_more linked r ∙ ap (λ n. n + 1) linked_long in
        let kept : (i : ℕ) → i < len → link_at links' i ≡ link_at linked i = λ i lt. before linked r i (let q = linked_long in omega arith) in
        let new : link_at links' len ≡ last_link r = ap (link_at links') (sym linked_long) ∙ added linked r in
        let same : (i : ℕ) → i < len → symbol_at links' i ≡ symbol_at links i = λ i lt. ap (λ (l : Link). l.row.symbol) (kept i lt) ∙ same_symbol i in
        let here : symbol_at links' len ≡ r.symbol = ap (λ (l : Link). l.row.symbol) new in
        record {
          spans = subst (λ n. (t : ℕ) → t < 256 → Spans n (symbol_at links') t (get_or (set ends r.symbol (Some (record { first = e.first; last = len }))) t None)) (sym longer)
              (spans_now (symbol_at links') same here (record { first = e.first; last = len }) (spans_last len r.symbol (symbol_at links) (symbol_at links') same here e (was (Some e) some)));
          steps = subst (λ n. Stepped n links') (sym longer)
              (steps_linked len r.symbol (symbol_at links) (symbol_at links') same here (λ i. (link_at links i).next) (λ i. (link_at links' i).next) (ap (λ (l : Link). l.next) new) h.steps
              e.last last_is.0 last_is.1 last_is.2
              (λ i lt ne. ap (λ (l : Link). l.next) (kept i lt ∙ at_other i ne)) (ap (λ (l : Link). l.next) (kept e.last last_is.0 ∙ at_last)));
        }

pub chain_none : (ends : List (Option Ends)) → ((s : ℕ) → s < 256 → get_or ends s None ≡ None) → ∥ Chained [] ends ∥₁
chain_none ends f =
    ∣ record {
      spans = λ s lt. subst (Spans 0 (symbol_at []) s) (sym (f s lt)) (λ i p. absurd (omega (arith, p.1)));
      steps = λ i lt. absurd (omega arith);
    } ∣₁
