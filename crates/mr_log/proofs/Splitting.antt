-- A line by its words.
use Rattle.std.proofs.Common.{◌≡◌, ℕ, List, [], ◌∷◌, ◌++◌, length, refl, sym, ap, ◌∙◌, Bool, true, false, eqb, ◌||◌, arith, append_assoc}
use Rattle.std.specs.Prelude.{nat_eq}
use Rattle.std.specs.List.{AllByRecursion, join_with_byte, onto_first}
use Rattle.std.proofs.lemmas.Bool.Decides.{nat_tests}
use Rattle.std.proofs.lemmas.List.Splits.{slice_split-cons_no, join_with_byte-slice_split, length-slice_split}
use Rattle.mr_set.specs.Elements.{is_element}
use Rattle.mr_text.specs.Text.{Lacks}
use Rattle.mr_text.proofs.Formats.{lacks-append, right}
use Rattle.mr_log.specs.Words.{words_of}

-- no byte of a word is c
abbrev pub AllLack : ℕ → List (List ℕ) → Type 0
AllLack c ws = AllByRecursion (Lacks c) ws

-- where neither of two tests answers yes, the first does not
left : (s t : Bool) → (s || t) ≡ false → s ≡ false
left true t h = cc
left false t h = refl

-- the test for a space, by either side
turned : (b : ℕ) → nat_eq 32 b ≡ false → eqb b 32 ≡ false
turned b h = grind (arith, nat_tests)

-- a word and what follows the space after it
pub words_of-space : (word rest : List ℕ) → Lacks 32 word → words_of (word ++ 32 ∷ rest) ≡ word ∷ words_of rest
words_of-space [] rest whole = refl
words_of-space (b ∷ word) rest whole =
    slice_split-cons_no (λ c. eqb c 32) b (word ++ 32 ∷ rest) (turned b (left (nat_eq 32 b) (is_element word 32) whole))
    ∙ ap (onto_first b) (words_of-space word rest (right (nat_eq 32 b) (is_element word 32) whole))

-- a line without a space is one word
pub words_of-word : (word : List ℕ) → Lacks 32 word → words_of word ≡ word ∷ []
words_of-word [] whole = refl
words_of-word (b ∷ word) whole =
    slice_split-cons_no (λ c. eqb c 32) b word (turned b (left (nat_eq 32 b) (is_element word 32) whole))
    ∙ ap (onto_first b) (words_of-word word (right (nat_eq 32 b) (is_element word 32) whole))

-- the words of a line with spaces between them are that line
pub join-words_of : (line : List ℕ) → join_with_byte 32 (words_of line) ≡ line
join-words_of line = join_with_byte-slice_split 32 line

-- the words of words with spaces between them are those words
pub words_of-join : (w : List ℕ) (ws : List (List ℕ)) → AllLack 32 (w ∷ ws) → words_of (join_with_byte 32 (w ∷ ws)) ≡ w ∷ ws
words_of-join w [] whole = words_of-word w whole.0
words_of-join w (v ∷ ws) whole = words_of-space w (join_with_byte 32 (v ∷ ws)) whole.0 ∙ ap (λ z. w ∷ z) (words_of-join v ws whole.1)

-- a line has words
pub some_words : (line : List ℕ) → words_of line ≡ [] → ⊥
some_words line none = let size = length-slice_split (λ c. eqb c 32) line in let e = ap length none in omega arith

-- two groups of words with spaces between them
pub join-append : (a : List ℕ) (xs : List (List ℕ)) (b : List ℕ) (ys : List (List ℕ)) → join_with_byte 32 ((a ∷ xs) ++ (b ∷ ys)) ≡ join_with_byte 32 (a ∷ xs) ++ 32 ∷ join_with_byte 32 (b ∷ ys)
join-append a [] b ys = refl
join-append a (c ∷ xs) b ys = ap (λ z. a ++ 32 ∷ z) (join-append c xs b ys) ∙ sym (append_assoc a (32 ∷ join_with_byte 32 (c ∷ xs)) (32 ∷ join_with_byte 32 (b ∷ ys)))

-- words that lack a byte, one group after the other
pub all_lack-append : (c : ℕ) (xs ys : List (List ℕ)) → AllLack c xs → AllLack c ys → AllLack c (xs ++ ys)
all_lack-append c [] ys p q = q
all_lack-append c (a ∷ xs) ys p q = (p.0, all_lack-append c xs ys p.1 q)

-- with spaces between them they lack it still
pub lacks-join : (ws : List (List ℕ)) → AllLack 10 ws → Lacks 10 (join_with_byte 32 ws)
lacks-join [] all = refl
lacks-join (w ∷ []) all = all.0
lacks-join (w ∷ v ∷ ws) all = lacks-append 10 w (32 ∷ join_with_byte 32 (v ∷ ws)) all.0 (lacks-join (v ∷ ws) all.1)
