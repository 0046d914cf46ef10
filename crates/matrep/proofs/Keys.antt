-- A text names one command or one key, and a word has one key and one value.
use Rattle.std.proofs.Common.{◌≡◌, ◌≢◌, ℕ, zero, suc, ◌+◌, ◌<◌, ◌≤◌, Bool, true, false, cond, List, [], ◌∷◌, ◌++◌, length, get_or, take, refl, sym, ap, subst, ◌∙◌, append_assoc, arith}
use Rattle.std.specs.Prelude.{codes, nat_eq}
use Rattle.mr_text.specs.Text.{Lacks}
use Rattle.mr_text.proofs.Formats.{same_parts}
use Rattle.matrep.specs.declared.names.Name.{Name}
use Rattle.matrep.specs.declared.names.Name.TheVariants as named
use Rattle.matrep.specs.declared.names.Key.{Key}
use Rattle.matrep.specs.declared.names.Key.TheVariants.{Field, Workers, Nodes, Split, Classes, Delete, Contract, Order}
use Rattle.matrep.specs.Words.{name_text, key_text}

-- the command that a text names, by its first two letters
abbrev name_in : List ℕ → Name
name_in text =
    cond (nat_eq (get_or text 0 0) 115) named.Solve (cond (nat_eq (get_or text 1 0) 104) named.Check (cond (nat_eq (get_or text 0 0) 99) named.Confirm
    (cond (nat_eq (get_or text 1 0) 97) named.Matroid (cond (nat_eq (get_or text 0 0) 100) named.Dual (cond (nat_eq (get_or text 0 0) 109) named.Minor named.Plane)))))

-- so the name comes back from its text
name_in-text : (name : Name) → name_in (name_text name) ≡ name
name_in-text named.Solve = refl
name_in-text named.Check = refl
name_in-text named.Confirm = refl
name_in-text named.Matroid = refl
name_in-text named.Dual = refl
name_in-text named.Minor = refl
name_in-text named.Plane = refl

-- a text names one command
pub one_name : (m n : Name) → name_text m ≡ name_text n → m ≡ n
one_name m n same = sym (name_in-text m) ∙ ap name_in same ∙ name_in-text n

-- the key at a place
abbrev pub key_at : ℕ → Key
key_at place =
    cond (nat_eq place 0) Field (cond (nat_eq place 1) Workers (cond (nat_eq place 2) Nodes (cond (nat_eq place 3) Split
    (cond (nat_eq place 4) Classes (cond (nat_eq place 5) Delete (cond (nat_eq place 6) Contract Order))))))

-- the place of a key among the eight
abbrev pub place_of : Key → ℕ
place_of Field = 0
place_of Workers = 1
place_of Nodes = 2
place_of Split = 3
place_of Classes = 4
place_of Delete = 5
place_of Contract = 6
place_of Order = 7

-- the key comes back from its place
pub key_at-place : (key : Key) → key_at (place_of key) ≡ key
key_at-place Field = refl
key_at-place Workers = refl
key_at-place Nodes = refl
key_at-place Split = refl
key_at-place Classes = refl
key_at-place Delete = refl
key_at-place Contract = refl
key_at-place Order = refl

-- there are eight
pub place-lt : (key : Key) → place_of key < 8
place-lt Field = omega arith
place-lt Workers = omega arith
place-lt Nodes = omega arith
place-lt Split = omega arith
place-lt Classes = omega arith
place-lt Delete = omega arith
place-lt Contract = omega arith
place-lt Order = omega arith

-- the key that a text names, by its first letter and its length
abbrev key_in : List ℕ → Key
key_in text =
    cond (nat_eq (get_or text 0 0) 102) Field (cond (nat_eq (get_or text 0 0) 119) Workers (cond (nat_eq (get_or text 0 0) 110) Nodes (cond (nat_eq (get_or text 0 0) 115) Split
    (cond (nat_eq (get_or text 0 0) 100) Delete (cond (nat_eq (get_or text 0 0) 111) Order (cond (nat_eq (length text) 7) Classes Contract))))))

-- so the key comes back from its text
key_in-text : (key : Key) → key_in (key_text key) ≡ key
key_in-text Field = refl
key_in-text Workers = refl
key_in-text Nodes = refl
key_in-text Split = refl
key_in-text Classes = refl
key_in-text Delete = refl
key_in-text Contract = refl
key_in-text Order = refl

-- a text names one key
pub one_key : (j k : Key) → key_text j ≡ key_text k → j ≡ k
one_key j k same = sym (key_in-text j) ∙ ap key_in same ∙ key_in-text k

-- no key has an `=`
pub whole_key : (key : Key) → Lacks 61 (key_text key)
whole_key Field = refl
whole_key Workers = refl
whole_key Nodes = refl
whole_key Split = refl
whole_key Classes = refl
whole_key Delete = refl
whole_key Contract = refl
whole_key Order = refl

-- a word with a key and a value
pub word-cut : (key : Key) (value : List ℕ) → (key_text key ++ codes "=") ++ value ≡ key_text key ++ 61 ∷ value
word-cut key value = append_assoc (key_text key) (codes "=") value

-- a word has one key and one value
pub one_cut : (word : List ℕ) (j k : Key) (v w : List ℕ) → word ≡ key_text j ++ codes "=" ++ v → word ≡ key_text k ++ codes "=" ++ w → (j ≡ k) × (v ≡ w)
one_cut word j k v w p q =
    let both = same_parts 61 (key_text j) (key_text k) v w (whole_key j) (whole_key k) (sym (word-cut j v) ∙ sym p ∙ q ∙ word-cut k w) in
    (one_key j k both.0, both.1)

-- where a word is cut at its first `=`, the front is its key
pub cut_front : (word front rest : List ℕ) (key : Key) (value : List ℕ) → word ≡ front ++ 61 ∷ rest → Lacks 61 front → word ≡ key_text key ++ codes "=" ++ value → (front ≡ key_text key) × (rest ≡ value)
cut_front word front rest key value p whole q = same_parts 61 front (key_text key) rest value whole (whole_key key) (sym p ∙ q ∙ word-cut key value)
