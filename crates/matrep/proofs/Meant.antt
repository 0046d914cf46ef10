-- The command that right operands mean.
use Rattle.std.proofs.Common.{◌≡◌, ◌≢◌, ℕ, zero, suc, ◌+◌, ◌<◌, ◌≤◌, List, [], ◌∷◌, ◌++◌, length, get_or, take, drop, ◌-◌, refl, sym, ap, subst, ◌∙◌, inl, inr, arith, Option, Some, None, String, string_bytes}
use Rattle.std.specs.Prelude.{codes, decimal, MatchOption, Contains}
use Rattle.std.specs.declared.alloc.Global.{Global}
use Rattle.std.proofs.lemmas.List.{take_all}
use Rattle.mr_field.specs.Order.{IsOrder}
use Rattle.mr_set.specs.Elements.{elements_below}
use Rattle.matrep.specs.declared.TheConstants.{PLANE_ORDER}
use Rattle.matrep.specs.declared.words.Command.{Command}
use Rattle.matrep.specs.declared.names.Name.{Name}
use Rattle.matrep.specs.declared.names.Key.{Key}
use Rattle.matrep.specs.declared.names.Key.TheVariants.{Field, Order}
use Rattle.matrep.specs.Words.{texts, name_text, name_of, list_text, IsListText, Gives, HasKey, AreOperands, HasNeeded, GivesElements, IsOperand, Says, OffendsAfter}
use Rattle.matrep.specs.Private.Operands.{AreRight, AreMeant}
use Rattle.matrep.proofs.Given.{given_is_value}
use Rattle.matrep.proofs.Scanning.{length-texts}

-- the value that is given to `field` is a number of elements
pub field_given : (words : List (List ℕ)) (text : List ℕ) (r : Option ℕ) → AreRight words → Gives words Field text → MatchOption r ((q : ℕ) → IsOrder q → text ≢ decimal q) (λ q. IsOrder q × (text ≡ decimal q)) →
    MatchOption r (¬ (HasKey words Field)) (λ q. IsOrder q × Gives words Field (decimal q))
field_given words text (Some q) right given found = (found.0, subst (λ (t : List ℕ). Gives words Field t) found.1 given)
field_given words text None right given none = let value = given_is_value right.0 words right.1 Field text given in absurd (none value.0 value.1 value.2)

-- where the field is given, the one key that is needed is
pub has_field : (words : List (List ℕ)) (q : ℕ) → Gives words Field (decimal q) → (key : Key) → key ≡ Field → HasKey words key
has_field words q given key is = subst (λ (k : Key). HasKey words k) (sym is) (decimal q, given)

-- the value that is given to `order` is the order of a plane
pub order_given : (words : List (List ℕ)) (text : List ℕ) (r : Option ℕ) → AreRight words → Gives words Order text →
    MatchOption r ((q : ℕ) → IsOrder q → q ≤ PLANE_ORDER → text ≢ decimal q) (λ q. IsOrder q × (q ≤ PLANE_ORDER) × (text ≡ decimal q)) →
    MatchOption r (¬ (HasKey words Order)) (λ q. IsOrder q × (q ≤ PLANE_ORDER) × Gives words Order (decimal q))
order_given words text (Some q) right given found = (found.0, found.1, subst (λ (t : List ℕ). Gives words Order t) found.2 given)
order_given words text None right given none = let value = given_is_value right.0 words right.1 Order text given in absurd (none value.0 value.1 value.2 value.3)

-- the mask of a list that is given
pub elements_given : (words : List (List ℕ)) (key : Key) (text : List ℕ) (mask : ℕ) → Gives words key text → IsListText text (elements_below 64 mask) → GivesElements words key mask
elements_given words key text mask given list = inl (
  elements_below 64 mask,
  record { some = list.some; set = list.set; text_is = refl },
  subst (λ (t : List ℕ). Gives words key t) list.text_is given,
  refl,
)

-- a needed key that is not given offends at the place after the operands
pub needed_offends : (name : Name) (words : List (String Global)) → AreOperands name (texts words) (length (texts words)) → ¬ (HasNeeded name (texts words)) → OffendsAfter name (texts words) (length words)
needed_offends name words each none =
    record { before = subst (λ (n : ℕ). AreOperands name (texts words) n) (length-texts words) each; here = inr (sym (length-texts words), none) }

-- the words after the first one
abbrev rest_of : List (String Global) → List (String Global)
rest_of words = take (length words - 1) (drop 1 words)

-- the texts of words, from the first one
pub texts-first : (words : List (String Global)) (w : String Global) → 1 ≤ length words → w ≡ get_or words 0 w → texts words ≡ string_bytes w ∷ texts (rest_of words)
texts-first [] w some is = absurd (omega arith)
texts-first (v ∷ vs) w some is = ap (λ (x : String Global). string_bytes x ∷ texts vs) (sym is) ∙ ap (λ (xs : List (String Global)). string_bytes w ∷ texts xs) (sym whole)
  where
    whole : rest_of (v ∷ vs) ≡ vs
    whole = take_all (length (v ∷ vs) - 1) vs (omega arith)

-- a name and its operands are a command
pub says : (words : List (String Global)) (w : String Global) (name : Name) (command : Command) → 1 ≤ length words → w ≡ get_or words 0 w → string_bytes w ≡ name_text name →
    AreMeant name (texts (rest_of words)) command → Says (texts words) command
says words w name command some is name_is meant = record {
  operands = texts (rest_of words);
  whole = texts-first words w some is ∙ ap (λ (x : List ℕ). x ∷ texts (rest_of words)) (name_is ∙ ap name_text (sym meant.name_is));
  each = subst (λ (n : Name). AreOperands n (texts (rest_of words)) (length (texts (rest_of words)))) (sym meant.name_is) meant.each;
  needed = subst (λ (n : Name). HasNeeded n (texts (rest_of words))) (sym meant.name_is) meant.needed;
  means = meant.means;
  built = meant.built;
}

-- what is read for a name
abbrev pub IsRead : Name → List (List ℕ) → Option Command → Type 0
IsRead name words r = MatchOption r (¬ (HasNeeded name words)) (AreMeant name words)

-- it is read for the name that it is
pub read_as : (m n : Name) (words : List (List ℕ)) (r : Option Command) → n ≡ m → IsRead m words r → IsRead n words r
read_as m n words r is read = subst (λ (x : Name). IsRead x words r) (sym is) read
