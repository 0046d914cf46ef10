-- Which words are a command, and the first word that offends.
use Rattle.std.specs.Prelude.{◌≡◌, ◌≢◌, ◌⊎◌, ℕ, ◌+◌, ◌^◌, ◌<◌, ◌≤◌, Bool, true, false, List, [], ◌∷◌, ◌++◌, length, take, map, Contains, slice_index_or, codes, decimal, String, string_bytes}
use Rattle.std.specs.List.{join_with_byte}
use Rattle.std.specs.declared.alloc.Global.{Global}
use Rattle.mr_field.specs.Order.{IsOrder}
use Rattle.mr_set.specs.Elements.{IsSet, elements_below}
use Rattle.mr_minor.specs.declared.masks.TheConstants.{BITS}
use Rattle.mr_exchange.specs.declared.TheConstants.{NODES, SPLIT}
use Rattle.matrep.specs.declared.TheConstants.{WORKERS, DEFAULT_NODES, PLANE_ORDER}
use Rattle.matrep.specs.declared.words.Command.{Command}
use Rattle.matrep.specs.declared.words.Command.TheVariants.{Solve, Check, Confirm, MatroidOf, Dual, Minor, Plane}
use Rattle.matrep.specs.declared.names.Name.{Name}
use Rattle.matrep.specs.declared.names.Name.TheVariants as named
use Rattle.matrep.specs.declared.names.Key.{Key}
use Rattle.matrep.specs.declared.names.Key.TheVariants.{Field, Workers, Nodes, Split, Classes, Delete, Contract, Order}

-- the bytes of each word
abbrev pub texts : List (String Global) → List (List ℕ)
texts words = map (λ (w : String Global). string_bytes w) words

-- the word for a command
abbrev pub name_text : Name → List ℕ
name_text named.Solve = codes "solve"
name_text named.Check = codes "check"
name_text named.Confirm = codes "confirm"
name_text named.Matroid = codes "matroid"
name_text named.Dual = codes "dual"
name_text named.Minor = codes "minor"
name_text named.Plane = codes "plane"

-- the word for a key
abbrev pub key_text : Key → List ℕ
key_text Field = codes "field"
key_text Workers = codes "workers"
key_text Nodes = codes "nodes"
key_text Split = codes "split"
key_text Classes = codes "classes"
key_text Delete = codes "delete"
key_text Contract = codes "contract"
key_text Order = codes "order"

-- the keys that a command takes
abbrev pub TakesKey : Name → Key → Type 0
TakesKey named.Solve key = (key ≢ Delete) × (key ≢ Contract) × (key ≢ Order)
TakesKey named.Check key = key ≡ Field
TakesKey named.Confirm key = key ≡ Field
TakesKey named.Matroid key = key ≡ Field
TakesKey named.Dual key = ⊥
TakesKey named.Minor key = (key ≡ Delete) ⊎ (key ≡ Contract)
TakesKey named.Plane key = key ≡ Order

-- the keys that it needs
abbrev pub NeedsKey : Name → Key → Type 0
NeedsKey named.Solve key = key ≡ Field
NeedsKey named.Check key = key ≡ Field
NeedsKey named.Confirm key = key ≡ Field
NeedsKey named.Matroid key = key ≡ Field
NeedsKey named.Dual key = ⊥
NeedsKey named.Minor key = ⊥
NeedsKey named.Plane key = key ≡ Order

-- numbers with single commas between them
abbrev pub list_text : List ℕ → List ℕ
list_text xs = join_with_byte 44 (map decimal xs)

-- one or more numbers that rise, each below the number of bits of a mask, and their text
pub record IsListText (text xs : List ℕ) : Type 0 where
  pub some : xs ≢ []
  pub set : IsSet BITS xs
  pub text_is : text ≡ list_text xs

-- the word for whether orbits are asked for
abbrev pub classes_word : Bool → List ℕ
classes_word true = codes "auto"
classes_word false = codes "projective"

-- the values that a key takes
abbrev pub IsValue : Key → List ℕ → Type 0
IsValue Field value = (q : ℕ) × IsOrder q × (value ≡ decimal q)
IsValue Workers value = (k : ℕ) × (1 ≤ k) × (k ≤ WORKERS) × (value ≡ decimal k)
IsValue Nodes value = (k : ℕ) × (1 ≤ k) × (k ≤ NODES) × (value ≡ decimal k)
IsValue Split value = (k : ℕ) × (k ≤ SPLIT) × (value ≡ decimal k)
IsValue Classes value = (orbits : Bool) × (value ≡ classes_word orbits)
IsValue Delete value = (xs : List ℕ) × IsListText value xs
IsValue Contract value = (xs : List ℕ) × IsListText value xs
IsValue Order value = (q : ℕ) × IsOrder q × (q ≤ PLANE_ORDER) × (value ≡ decimal q)

-- one of the words is this key and this value, with `=` between them
abbrev pub Gives : List (List ℕ) → Key → List ℕ → Type 0
Gives words key value = Contains words (key_text key ++ codes "=" ++ value)

-- one of the words gives a value to the key
abbrev pub HasKey : List (List ℕ) → Key → Type 0
HasKey words key = (value : List ℕ) × Gives words key value

-- e is one of the elements that the value lists for the key
abbrev pub Lists : Key → List ℕ → ℕ → Type 0
Lists Delete value e = (xs : List ℕ) × IsListText value xs × Contains xs e
Lists Contract value e = (xs : List ℕ) × IsListText value xs × Contains xs e
Lists key value e = ⊥

-- The word is an operand of the command after the words before it: a key of the command that none of them gives, and a value of
-- that key. It lists no element that one of them lists.
pub record IsOperand (name : Name) (before : List (List ℕ)) (word : List ℕ) : Type 0 where
  pub key : Key
  pub value : List ℕ
  pub text : word ≡ key_text key ++ codes "=" ++ value
  pub takes : TakesKey name key
  pub of_key : IsValue key value
  pub new : ¬ (HasKey before key)
  pub apart : (other : Key) (text : List ℕ) (e : ℕ) → Gives before other text → Lists other text e → ¬ (Lists key value e)

-- the first k words after the command's name are operands
abbrev pub AreOperands : Name → List (List ℕ) → ℕ → Type 0
AreOperands name words k = (j : ℕ) → j < k → IsOperand name (take j words) (slice_index_or words j [])

-- each key that is needed is given
abbrev pub HasNeeded : Name → List (List ℕ) → Type 0
HasNeeded name words = (key : Key) → NeedsKey name key → HasKey words key

-- k is the number that is given to the key, or else the default
abbrev pub GivesNumber : List (List ℕ) → Key → ℕ → ℕ → Type 0
GivesNumber operands key default k = Gives operands key (decimal k) ⊎ (¬ (HasKey operands key) × (k ≡ default))

-- orbits are asked for, or are not
abbrev pub GivesClasses : List (List ℕ) → Bool → Type 0
GivesClasses operands orbits = Gives operands Classes (classes_word orbits) ⊎ (¬ (HasKey operands Classes) × (orbits ≡ false))

-- the bits of the mask are the elements that are given to the key, or none
abbrev pub GivesElements : List (List ℕ) → Key → ℕ → Type 0
GivesElements operands key mask =
    ((xs : List ℕ) × IsListText (list_text xs) xs × Gives operands key (list_text xs) × (elements_below BITS mask ≡ xs)) ⊎ (¬ (HasKey operands key) × (mask ≡ 0))

-- the operands of a solve
pub record MeansSolve (operands : List (List ℕ)) (q workers nodes split : ℕ) (orbits : Bool) : Type 0 where
  pub field : Gives operands Field (decimal q)
  pub workers_are : GivesNumber operands Workers 1 workers
  pub nodes_are : GivesNumber operands Nodes DEFAULT_NODES nodes
  pub split_is : GivesNumber operands Split 0 split
  pub classes_are : GivesClasses operands orbits

-- what the operands say
abbrev pub Means : List (List ℕ) → Command → Type 0
Means operands (Solve q workers nodes split orbits) = MeansSolve operands q workers nodes split orbits
Means operands (Check q) = Gives operands Field (decimal q)
Means operands (Confirm q) = Gives operands Field (decimal q)
Means operands (MatroidOf q) = Gives operands Field (decimal q)
Means operands Dual = Unit {0}
Means operands (Minor delete contract) = GivesElements operands Delete delete × GivesElements operands Contract contract
Means operands (Plane q) = Gives operands Order (decimal q)

-- the name of a command
abbrev pub name_of : Command → Name
name_of (Solve q workers nodes split orbits) = named.Solve
name_of (Check q) = named.Check
name_of (Confirm q) = named.Confirm
name_of (MatroidOf q) = named.Matroid
name_of Dual = named.Dual
name_of (Minor delete contract) = named.Minor
name_of (Plane q) = named.Plane

-- the command's numbers are such as its words may say
abbrev pub IsBuilt : Command → Type 0
IsBuilt (Solve q workers nodes split orbits) = IsOrder q × (1 ≤ workers) × (workers ≤ WORKERS) × (1 ≤ nodes) × (nodes ≤ NODES) × (split ≤ SPLIT)
IsBuilt (Check q) = IsOrder q
IsBuilt (Confirm q) = IsOrder q
IsBuilt (MatroidOf q) = IsOrder q
IsBuilt Dual = Unit {0}
IsBuilt (Minor delete contract) = (delete < 2 ^ BITS) × (contract < 2 ^ BITS)
IsBuilt (Plane q) = IsOrder q × (q ≤ PLANE_ORDER)

-- the words are the command's name and its operands, the needed keys are given, and the operands mean the command, whose numbers fit
pub record Says (words : List (List ℕ)) (command : Command) : Type 0 where
  pub operands : List (List ℕ)
  pub whole : words ≡ name_text (name_of command) ∷ operands
  pub each : AreOperands (name_of command) operands (length operands)
  pub needed : HasNeeded (name_of command) operands
  pub means : Means operands command
  pub built : IsBuilt command

-- place k + 1 is the first that offends after the command's name: its word is no operand, or it is missing though a needed key isn't given
pub record OffendsAfter (name : Name) (operands : List (List ℕ)) (k : ℕ) : Type 0 where
  pub before : AreOperands name operands k
  pub here : ((k < length operands) × ¬ (IsOperand name (take k operands) (slice_index_or operands k []))) ⊎ ((k ≡ length operands) × ¬ (HasNeeded name operands))

-- The first place that offends: the place 0 where no word stands or another than a command's name, or the first after the name.
abbrev pub IsFirstOffence : List (List ℕ) → ℕ → Type 0
IsFirstOffence [] place = place ≡ 0
IsFirstOffence (word ∷ operands) place =
    ((place ≡ 0) × ((name : Name) → word ≢ name_text name))
    ⊎ ((name : Name) × (k : ℕ) × (word ≡ name_text name) × (place ≡ k + 1) × OffendsAfter name operands k)
