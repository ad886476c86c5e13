-- What the compiler's tables stand for.
use Rattle.std.specs.Prelude.{◌≡◌, ℕ, ◌<◌, List, map, ◌≢◌, slice_index}
use Rattle.symbol_table.specs.Tables.{signature}
use Rattle.compiler.specs.Places.{Plan, Ends}
use Rattle.compiler.specs.Lines.{plan, Numbered, Known}
use Rattle.compiler.specs.Filling.{OffAt}
use Rattle.compiler.specs.declared.flat.Flat.{Flat}
use Rattle.compiler.specs.declared.flat.Place.{Place}
use Rattle.compiler.specs.declared.items.Item.{Item}
use Rattle.compiler.specs.declared.items.Item.TheVariants.{Structure}

-- what the places have, in turn
abbrev pub items_of : List Place → List Item
items_of ps = map (λ p. p.item) ps

abbrev pub ends_of : List Place → List ℕ
ends_of ps = map (λ p. p.after) ps

abbrev pub slots_of : List Place → List ℕ
slots_of ps = map (λ p. p.slot) ps

-- the table as a function
abbrev pub table : List ℕ → ℕ → ℕ
table xs i = slice_index xs i

abbrev pub laid : Flat → Plan
laid l = plan (signature l.symbols.now) (items_of l.places.now) (ends_of l.places.now) (slots_of l.places.now)

-- the tables of a line are right, and its slots below n
pub record Ready (l : Flat) (n : ℕ) : Type 0 where
  pub ends : Ends (laid l) 0
  pub slots : (i f : ℕ) → i < (laid l).size → (laid l).tok i ≡ Structure f → (laid l).slot i < n
  pub vars : Numbered n (items_of l.places.now)
  pub apart : (i j f : ℕ) → i < (laid l).size → j < (laid l).size → (laid l).tok i ≡ Structure f → (i ≢ j) → OffAt (laid l) ((laid l).slot i) j
  pub known : Known (signature l.symbols.now) (items_of l.places.now)
