-- What each line of a text may be, given the lines before it, and the first fault of a text.
use Rattle.std.specs.Prelude.{◌≡◌, ◌≢◌, ◌⊎◌, ℕ, ◌+◌, List, []}
use Rattle.mr_text.specs.Text.{Lacks, BeginsWith}

-- a fault in a text, with the number of its line
pub data FirstFault (M : Type 0) : Type 0 where
  grammar : ℕ → FirstFault M
  size : ℕ → M → FirstFault M

-- what one line may be: which value it spells, and by which measure that value is too large
pub record Table (M A : Type 0) : Type 1 where
  pub spells : List ℕ → A → Type 0
  pub exceeds : A → M → Type 0

-- What is due from some line on. In the end the lines stand for a value.
pub data Format (M X : Type 0) : Type 1 where
  -- no more lines
  done : X → Format M X
  -- a line; its value says what is due after it
  line_of : {A : Type 0} → Table M A → (A → Format M X) → Format M X

-- The first line spells a, which isn't too large. It is ended by a newline, and the rest follows.
pub record IsLineOf {M A : Type 0} (table : Table M A) (bytes : List ℕ) (a : A) (rest : List ℕ) : Type 0 where
  pub line : List ℕ
  pub begins : BeginsWith bytes line rest
  pub spelled : table.spells line a
  pub fits : (m : M) → ¬ (table.exceeds a m)

-- there is no first line that is ended by a newline
abbrev pub IsCutShort : List ℕ → Type 0
IsCutShort bytes = Lacks 10 bytes

-- the first line is ended by a newline, and it doesn't meet the table
pub record IsStray {M A : Type 0} (table : Table M A) (bytes : List ℕ) : Type 0 where
  pub line : List ℕ
  pub rest : List ℕ
  pub begins : BeginsWith bytes line rest
  pub stray : (a : A) → ¬ (table.spells line a)

-- the first line is ended by a newline, and its value is too large by the measure m
pub record IsTooLarge {M A : Type 0} (table : Table M A) (bytes : List ℕ) (m : M) : Type 0 where
  pub line : List ℕ
  pub rest : List ℕ
  pub value : A
  pub begins : BeginsWith bytes line rest
  pub spelled : table.spells line value
  pub exceeds : table.exceeds value m

-- the fault of the first line, which has this number
abbrev pub IsLineFault : {M A : Type 0} → Table M A → ℕ → List ℕ → FirstFault M → Type 0
IsLineFault table number bytes (grammar l) = (l ≡ number) × (IsCutShort bytes ⊎ IsStray table bytes)
IsLineFault table number bytes (size l m) = (l ≡ number) × IsTooLarge table bytes m

-- The first fault from a line with this number on. It is that line's, or else the first fault of what is due after it.
abbrev pub IsFirstFault : {M X : Type 0} → Format M X → ℕ → List ℕ → FirstFault M → Type 0
IsFirstFault (done x) number bytes fault = ⊥
IsFirstFault (line_of {A} table due) number bytes fault =
    IsLineFault table number bytes fault
    ⊎ ((a : A) × (rest : List ℕ) × IsLineOf table bytes a rest × IsFirstFault (due a) (number + 1) rest fault)

-- The lines from the one with this number on have no fault and stand for x. The rest follows them, from the line with the number next on.
abbrev pub StandsFor : {M X : Type 0} → Format M X → ℕ → List ℕ → X → List ℕ → ℕ → Type 0
StandsFor (done y) number bytes x rest next = (x ≡ y) × (rest ≡ bytes) × (next ≡ number)
StandsFor (line_of {A} table due) number bytes x rest next =
    (a : A) × (after : List ℕ) × IsLineOf table bytes a after × StandsFor (due a) (number + 1) after x rest next

-- the whole text stands for x
abbrev pub IsTextOf : {M X : Type 0} → Format M X → List ℕ → X → Type 0
IsTextOf format bytes x = (next : ℕ) × StandsFor format 1 bytes x [] next

-- The first fault of a whole text. Where the lines have none, bytes after them make one in their line.
abbrev pub IsFirstFaultOf : {M X : Type 0} → Format M X → List ℕ → FirstFault M → Type 0
IsFirstFaultOf {M} {X} format bytes fault =
    IsFirstFault format 1 bytes fault
    ⊎ ((x : X) × (rest : List ℕ) × (next : ℕ) × StandsFor format 1 bytes x rest next × (rest ≢ []) × (fault ≡ grammar next))
