-- What words say in front of any others.
use Rattle.std.specs.Prelude.{◌≡◌, ℕ, suc, ◌<◌, Bool, List, [], ◌∷◌, ◌++◌, map, length, ◌≢◌}
use Rattle.horn.specs.Terms.{Terms, var, nil, join}
use Rattle.symbol_table.specs.Symbols.{Signature, symbols_of}
use Rattle.compiler.specs.Terms.{hop}
use Rattle.code.specs.Meaning.{Terming}
use Rattle.code.specs.Meaning.{given, Says, goals}
use Rattle.compiler.specs.Places.{Plan, value, BuiltAt, gain, wide}
use Rattle.compiler.specs.Filling.{Fits, fill, Filled, Empty, Fills, MarkedAt, OffAt}
use Rattle.compiler.specs.Order.{Orderly}
use Rattle.compiler.specs.Rows.{row}
use Rattle.compiler.specs.Scripts.{Phase, Script}
use Rattle.compiler.specs.Lawful.{Fair, Fairs, Lawfuls}
use Rattle.code.specs.Words.{encode, decode}
use Rattle.code.specs.declared.instructions.Operand.{Operand}
use Rattle.code.specs.declared.instructions.Instruction.{Instruction}
use Rattle.compiler.specs.Rows.{Role}

-- in front of any others, from one call to the next, the words say X and leave the goals G
pub record Emits (sig : Signature) (words : List Instruction) (X : Terming → Terming → Type 0) (G : Terming → Terms ℕ) : Type 0 where
  pub into : (α ρ : Terming) (rest : List Instruction) → Says (symbols_of sig) (words ++ rest) α ρ → X α ρ × Says (symbols_of sig) rest α ρ
  pub back : (α ρ : Terming) (rest : List Instruction) → X α ρ → Says (symbols_of sig) rest α ρ → Says (symbols_of sig) (words ++ rest) α ρ
  pub leaves : (ρ : Terming) (rest : List Instruction) → goals (symbols_of sig) (words ++ rest) ρ var ≡ join (G ρ) (goals (symbols_of sig) rest ρ var)

-- n words that say X, leave the goals G and take the slots s to s' have been added
pub record Added (sig : Signature) (a b : Phase) (out out' : List ℕ) (n : ℕ) (X : Terming → Terming → Type 0) (G : Terming → Terms ℕ) (s s' : List Bool) : Type 0 where
  pub words : List Instruction
  pub longer : out' ≡ out ++ map encode words
  pub exact : map decode (map encode words) ≡ words
  pub size : length words ≡ n
  pub lawful : Lawfuls sig words
  pub emits : Emits sig words X G
  pub flows : (rest : List Instruction) → Orderly sig 0 0 rest s' → Orderly sig 0 0 (words ++ rest) s
  pub more : (z : ℕ) → Filled s z → Filled s' z
  pub script : Script sig a b words

-- the operand names what stands at i
abbrev pub Names : Plan → Operand → ℕ → Type 0
Names p o i = (ρ : Terming) → given (symbols_of p.sig) o ρ ≡ value p ρ i

-- the operand is the next for the slot y
pub record Picked (y : ℕ) (o : Operand) (s s' : List Bool) : Type 0 where
  pub names : (sig : Signature) (ρ : Terming) → given (symbols_of sig) o ρ ≡ ρ y
  pub fair : (sig : Signature) → Fair sig o
  pub fits : Fits o s
  pub after : s' ≡ fill o s
  pub filled : Filled s' y
  pub keeps : (z : ℕ) → (y ≢ z) → Empty s z → Empty s' z

-- the operand is the next for what stands at i
pub record Chosen (p : Plan) (i : ℕ) (o : Operand) (s s' : List Bool) : Type 0 where
  pub names : Names p o i
  pub fair : Fair p.sig o
  pub fits : Fits o s
  pub after : s' ≡ fill o s
  pub marked : MarkedAt p s' i
  pub keeps : (z : ℕ) → OffAt p z i → Empty s z → Empty s' z

-- the operands name the n terms from j on
pub data Named (p : Plan) : List Operand → ℕ → ℕ → Type 0 where
  none : {j : ℕ} → Named p [] 0 j
  more : {o : Operand} {os : List Operand} {n j : ℕ} → Names p o j → Named p os n (p.after j) → Named p (o ∷ os) (suc n) j

-- the words of a row that names the n terms from j on have been added, and their slots are filled
pub record Rowed (p : Plan) (role : Role) (out out' : List ℕ) (s s' : List Bool) (n j : ℕ) : Type 0 where
  pub os : List Operand
  pub longer : out' ≡ out ++ map encode (row role 1 os)
  pub exact : map decode (map encode (row role 1 os)) ≡ row role 1 os
  pub fair : Fairs p.sig os
  pub named : Named p os n j
  pub fills : Fills os s s'
  pub all : (k : ℕ) → k < n → MarkedAt p s' (hop p.after k j)
  pub keeps : (z : ℕ) → ((k : ℕ) → k < n → OffAt p z (hop p.after k j)) → Empty s z → Empty s' z

-- the structure at i, if there is one, has been taken apart or built
pub record Struck (p : Plan) (a : Phase) (i : ℕ) (out out' : List ℕ) (s s' : List Bool) : Type 0 where
  pub added : Added p.sig a a out out' (gain p.sig (p.tok i)) (λ α ρ. BuiltAt p ρ i) (λ ρ. nil) s s'
  pub all : (k : ℕ) → k < wide p i → MarkedAt p s' (hop p.after k (suc i))
  pub keeps : (z : ℕ) → OffAt p z i → ((k : ℕ) → k < wide p i → OffAt p z (hop p.after k (suc i))) → Empty s z → Empty s' z
