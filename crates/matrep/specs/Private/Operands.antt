-- What the parts of the reading of words say.
use Rattle.std.specs.Prelude.{◌≡◌, ℕ, ◌≤◌, List, length, All, Contains}
use Rattle.matrep.specs.Words.{IsListText, Gives, Lists, AreOperands, HasNeeded, Means, IsBuilt, name_of}
use Rattle.matrep.specs.declared.words.Command.{Command}
use Rattle.matrep.specs.declared.names.Name.{Name}
use Rattle.matrep.specs.declared.names.Key.{Key}

-- all of the words are operands of some command
abbrev pub AreRight : List (List ℕ) → Type 0
AreRight words = (name : Name) × AreOperands name words (length words)

-- one or more bits that rise, none below low, and their text
pub record IsListFrom (low : ℕ) (text xs : List ℕ) : Type 0 where
  pub list : IsListText text xs
  pub from : All (λ e. low ≤ e) xs

-- e is one of the numbers of the list
abbrev pub HasNumber : List ℕ → ℕ → Type 0
HasNumber text e = (xs : List ℕ) × IsListText text xs × Contains xs e

-- two lists share no number
abbrev pub ShareNone : List ℕ → List ℕ → Type 0
ShareNone x y = (e : ℕ) → HasNumber x e → ¬ (HasNumber y e)

-- the value lists no number that one of the words lists
abbrev pub IsApart : List (List ℕ) → Key → List ℕ → Type 0
IsApart before key value = (other : Key) (text : List ℕ) (e : ℕ) → Gives before other text → Lists other text e → ¬ (Lists key value e)

-- the operands are right and mean the command
pub record AreMeant (name : Name) (operands : List (List ℕ)) (command : Command) : Type 0 where
  pub name_is : name_of command ≡ name
  pub each : AreOperands name operands (length operands)
  pub needed : HasNeeded name operands
  pub means : Means operands command
  pub built : IsBuilt command
