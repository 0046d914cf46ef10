-- What words give and which of them are operands, word by word.
use Rattle.std.proofs.Common.{◌≡◌, ◌≢◌, ℕ, zero, suc, ◌+◌, ◌<◌, ◌≤◌, ◌↔◌, Bool, true, false, List, [], ◌∷◌, ◌++◌, length, get_or, take, refl, sym, ap, subst, ◌∙◌, inl, inr, ◌⊎◌, ⊎_elim, arith, String, string_bytes}
use Rattle.std.specs.Prelude.{codes, Contains, IsTrue}
use Rattle.std.specs.declared.alloc.Global.{Global}
use Rattle.std.proofs.lemmas.Bool.{cases_eq, cases_lt}
use Rattle.std.proofs.lemmas.List.{take-map, get_or-map, take_more, take_all, length-take-le}
use Rattle.std.proofs.lemmas.List.Elements.{Contains-get_or, Contains-push_cases}
use Rattle.matrep.specs.declared.names.Name.{Name}
use Rattle.matrep.specs.declared.names.Key.{Key}
use Rattle.matrep.specs.declared.names.Key.TheVariants.{Field, Workers, Nodes, Split, Classes, Delete, Contract, Order}
use Rattle.matrep.specs.Words.{texts, key_text, TakesKey, IsValue, Gives, HasKey, IsOperand, AreOperands}
use Rattle.matrep.specs.Private.Operands.{AreRight, IsApart, ShareNone}
use Rattle.matrep.proofs.Keys.{one_cut}
use Rattle.matrep.proofs.Given.{fewer, few, one_value_given}

-- as many texts as words
pub length-texts : (words : List (String Global)) → length (texts words) ≡ length words
length-texts [] = refl
length-texts (w ∷ ws) = ap (λ (n : ℕ). suc n) (length-texts ws)

-- the text at a place is that of the word there
pub text_at : (words : List (String Global)) (w : String Global) (i : ℕ) → i < length words → w ≡ get_or words i w → get_or (texts words) i [] ≡ string_bytes w
text_at words w i lt is = get_or-map (λ (x : String Global). string_bytes x) words i w [] lt ∙ ap (λ (x : String Global). string_bytes x) (sym is)

-- the texts of the first words
pub texts-take : (words : List (String Global)) (k : ℕ) → texts (take k words) ≡ take k (texts words)
texts-take words k = sym (take-map (λ (x : String Global). string_bytes x) k words)

-- the word gives its value to its key
pub key_found : (words : List (String Global)) (w : String Global) (key : Key) (value : List ℕ) (i : ℕ) → i < length words → w ≡ get_or words i w →
    string_bytes w ≡ key_text key ++ codes "=" ++ value → Gives (texts words) key value
key_found words w key value i lt is text =
    subst (λ (x : List ℕ). Contains (texts words) x) (text_at words w i lt is ∙ text) (Contains-get_or (texts words) i [] (let size = length-texts words in omega (arith, size, lt)))

-- no word gives a value to the key, and the next one neither
pub key_not_yet : (words : List (String Global)) (w : String Global) (key : Key) (i : ℕ) → i < length words → w ≡ get_or words i w →
    ¬ (HasKey (take i (texts words)) key) → ((value : List ℕ) → string_bytes w ≢ key_text key ++ codes "=" ++ value) → ¬ (HasKey (take (i + 1) (texts words)) key)
key_not_yet words w key i lt is none other (value, inside) =
    let size = length-texts words in
    let more = take_more (texts words) i [] (omega (arith, size, lt)) in
    ⊎_elim (λ (h : Contains (take i (texts words)) (key_text key ++ codes "=" ++ value)). none (value, h))
    (λ (h : get_or (texts words) i [] ≡ key_text key ++ codes "=" ++ value). other value (sym (text_at words w i lt is) ∙ h))
    (Contains-push_cases (take i (texts words)) (get_or (texts words) i []) (key_text key ++ codes "=" ++ value) (subst (λ (xs : List (List ℕ)). Contains xs (key_text key ++ codes "=" ++ value)) more inside))

-- none of all words
pub key_not_given : (words : List (String Global)) (key : Key) (n : ℕ) → length words ≤ n → ¬ (HasKey (take n (texts words)) key) → ¬ (HasKey (texts words) key)
key_not_given words key n le none (value, inside) =
    none (value, subst (λ (xs : List (List ℕ)). Contains xs (key_text key ++ codes "=" ++ value)) (sym (take_all n (texts words) (let size = length-texts words in omega (arith, size, le)))) inside)

-- none of no words
pub key_of_none : (words : List (List ℕ)) (key : Key) → ¬ (HasKey (take 0 words) key)
key_of_none words key (value, (k, lt, is)) = absurd (omega (arith, lt))

-- the list of one key is apart where it shares no number with the list of the other
pub apart_delete : (before : List (List ℕ)) (value : List ℕ) → ¬ (HasKey before Delete) → ((text : List ℕ) → Gives before Contract text → ShareNone text value) → IsApart before Delete value
apart_delete before value new all Delete text e gives p q = new (text, gives)
apart_delete before value new all Contract text e gives p q = all text gives e p q
apart_delete before value new all Field text e gives p q = p
apart_delete before value new all Workers text e gives p q = p
apart_delete before value new all Nodes text e gives p q = p
apart_delete before value new all Split text e gives p q = p
apart_delete before value new all Classes text e gives p q = p
apart_delete before value new all Order text e gives p q = p

-- the same the other way round
pub apart_contract : (before : List (List ℕ)) (value : List ℕ) → ¬ (HasKey before Contract) → ((text : List ℕ) → Gives before Delete text → ShareNone text value) → IsApart before Contract value
apart_contract before value new all Contract text e gives p q = new (text, gives)
apart_contract before value new all Delete text e gives p q = all text gives e p q
apart_contract before value new all Field text e gives p q = p
apart_contract before value new all Workers text e gives p q = p
apart_contract before value new all Nodes text e gives p q = p
apart_contract before value new all Split text e gives p q = p
apart_contract before value new all Classes text e gives p q = p
apart_contract before value new all Order text e gives p q = p

-- the answers for a list to delete
pub delete_answer : (before : List (List ℕ)) (key : Key) (value : List ℕ) (b : Bool) → key ≡ Delete → ¬ (HasKey before key) → IsTrue b ↔ ((text : List ℕ) → Gives before Contract text → ShareNone text value) →
    IsTrue b ↔ IsApart before key value
delete_answer before key value b is new all =
    subst (λ (k : Key). ¬ (HasKey before k) → IsTrue b ↔ IsApart before k value) (sym is)
    (λ none. ((λ yes. apart_delete before value none (all.0 yes)), (λ apart. all.1 (λ text gives e p q. apart Contract text e gives p q)))) new

-- and for one to contract
pub contract_answer : (before : List (List ℕ)) (key : Key) (value : List ℕ) (b : Bool) → key ≡ Contract → ¬ (HasKey before key) → IsTrue b ↔ ((text : List ℕ) → Gives before Delete text → ShareNone text value) →
    IsTrue b ↔ IsApart before key value
contract_answer before key value b is new all =
    subst (λ (k : Key). ¬ (HasKey before k) → IsTrue b ↔ IsApart before k value) (sym is)
    (λ none. ((λ yes. apart_contract before value none (all.0 yes)), (λ apart. all.1 (λ text gives e p q. apart Delete text e gives p q)))) new

-- a list shares no number with the one list that is given to the other key
pub apart_from_one : (before : List (List ℕ)) (other : Key) (text list : List ℕ) (b : Bool) → AreRight before → Gives before other text → IsTrue b ↔ ShareNone text list →
    IsTrue b ↔ ((text : List ℕ) → Gives before other text → ShareNone text list)
apart_from_one before other text list b right given shares = (
  (λ yes more gives. subst (λ (t : List ℕ). ShareNone t list) (one_value_given right.0 before right.1 other text more given gives) (shares.0 yes)),
  (λ all. shares.1 (all text given)),
)

-- a word with this key and this value is an operand where they are new
pub operand_answer : (name : Name) (before : List (List ℕ)) (word : List ℕ) (key : Key) (value : List ℕ) (b : Bool) → word ≡ key_text key ++ codes "=" ++ value →
    IsTrue b ↔ (TakesKey name key × IsValue key value × ¬ (HasKey before key) × IsApart before key value) → IsTrue b ↔ IsOperand name before word
operand_answer name before word key value b is new = (
  (λ yes. let all = new.0 yes in record { key = key; value = value; text = is; takes = all.0; of_key = all.1; new = all.2; apart = all.3 }),
  (λ op.
      let cut = one_cut word op.key key op.value value op.text is in
      new.1 (parts op.key key op.value value cut.0 cut.1 (op.takes, op.of_key, op.new, op.apart))),
)
  where
    parts : (j k : Key) (v w : List ℕ) → j ≡ k → v ≡ w → (TakesKey name j × IsValue j v × ¬ (HasKey before j) × IsApart before j v) → TakesKey name k × IsValue k w × ¬ (HasKey before k) × IsApart before k w
    parts j k v w same equal all =
        subst (λ (x : List ℕ). TakesKey name k × IsValue k x × ¬ (HasKey before k) × IsApart before k x) equal
        (subst (λ (x : Key). TakesKey name x × IsValue x v × ¬ (HasKey before x) × IsApart before x v) same all)

-- the words before a place are operands
pub before_right : (name : Name) (words : List (String Global)) (k : ℕ) → k ≤ length words → AreOperands name (texts words) k → AreOperands name (texts (take k words)) (length (texts (take k words)))
before_right name words k le each =
    let size = length-texts words in
    subst (λ (xs : List (List ℕ)). AreOperands name xs (length xs)) (sym (texts-take words k)) (fewer name (texts words) k k (omega arith) (omega (arith, size, le)) each)

-- there are few of them
pub few_before : (name : Name) (words : List (String Global)) (k : ℕ) → k ≤ length words → AreOperands name (texts words) k → k < 9
few_before name words k le each = few name (texts words) k (let size = length-texts words in omega (arith, size, le)) each

-- what the word at a place is after those before it
pub operand_there : (name : Name) (words : List (String Global)) (w : String Global) (k : ℕ) → k < length words → w ≡ get_or words k w →
    IsOperand name (texts (take k words)) (string_bytes w) ↔ IsOperand name (take k (texts words)) (get_or (texts words) k [])
operand_there name words w k lt is = (
  (λ op. subst (λ (word : List ℕ). IsOperand name (take k (texts words)) word) (sym (text_at words w k lt is)) (subst (λ (xs : List (List ℕ)). IsOperand name xs (string_bytes w)) (texts-take words k) op)),
  (λ op. subst (λ (xs : List (List ℕ)). IsOperand name xs (string_bytes w)) (sym (texts-take words k)) (subst (λ (word : List ℕ). IsOperand name (take k (texts words)) word) (text_at words w k lt is) op)),
)

-- one more operand
pub one_more : (name : Name) (words : List (List ℕ)) (k : ℕ) → AreOperands name words k → IsOperand name (take k words) (get_or words k []) → AreOperands name words (k + 1)
one_more name words k each here j lt = elim (cases_eq j k) [
  | inl same ↦ subst (λ (i : ℕ). IsOperand name (take i words) (get_or words i [])) (sym same) here
  | inr differs ↦ each j (omega arith)
]
