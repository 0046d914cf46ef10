-- Faults and values of a text, line by line.
use Rattle.std.proofs.Common.{◌≡◌, ℕ, ◌+◌, ◌≤◌, List, [], ◌∷◌, ◌++◌, refl, sym, ap, ◌∙◌, inl, inr, Bool, true, false, ◌||◌, arith, length, append_assoc}
use Rattle.std.specs.Prelude.{nat_eq}
use Rattle.std.proofs.lemmas.List.Folds.{list_any-append}
use Rattle.std.proofs.lemmas.Bool.Decides.{Decides-eqb}
use Rattle.mr_set.specs.Elements.{is_element}
use Rattle.mr_text.specs.Text.{Lacks, BeginsWith}
use Rattle.mr_text.specs.Format.{FirstFault, grammar, size, Table, Format, done, line_of, IsLineOf, IsCutShort, IsLineFault, StandsFor}
use Rattle.mr_text.specs.Tables.{never, fixed}
use Rattle.mr_text.specs.Private.Sharp.{IsSharpTable}

-- where one of two tests answers yes, one of them does
either : (s t : Bool) → s ≡ true → (s || t) ≡ false → ⊥
either true t h g = cc
either false t h g = cc

-- where neither does, the second does not
pub right : (s t : Bool) → (s || t) ≡ false → t ≡ false
right true t h = cc
right false t h = h

-- the parts round the first separator are determined
pub same_parts : (c : ℕ) (a b x y : List ℕ) → Lacks c a → Lacks c b → a ++ c ∷ x ≡ b ++ c ∷ y → (a ≡ b) × (x ≡ y)
same_parts c [] [] x y p q same = (refl, let h : x ≡ y = cc in h)
same_parts c [] (d ∷ b) x y p q same = let e : c ≡ d = cc in let is : nat_eq c d ≡ true = (Decides-eqb c d).1 e in absurd (either (nat_eq c d) (is_element b c) is q)
same_parts c (d ∷ a) [] x y p q same = let e : c ≡ d = cc in let is : nat_eq c d ≡ true = (Decides-eqb c d).1 e in absurd (either (nat_eq c d) (is_element a c) is p)
same_parts c (d ∷ a) (e ∷ b) x y p q same =
    let heads : d ≡ e = cc in
    let tails : a ++ c ∷ x ≡ b ++ c ∷ y = cc in
    let rest = same_parts c a b x y (right (nat_eq c d) (is_element a c) p) (right (nat_eq c e) (is_element b c) q) tails in
    ((let one = rest.0 in cc), rest.1)

-- what holds c doesn't lack it
pub has_separator : (c : ℕ) (a x : List ℕ) → is_element (a ++ c ∷ x) c ≡ true
has_separator c [] x = ap (λ b. b || is_element x c) ((Decides-eqb c c).1 refl)
has_separator c (d ∷ a) x = ap (λ b. nat_eq c d || b) (has_separator c a x) ∙ or_true (nat_eq c d)
  where
    or_true : (b : Bool) → (b || true) ≡ true
    or_true true = refl
    or_true false = refl

-- neither of two texts has the byte, so the text of both lacks it
pub lacks-append : (c : ℕ) (a b : List ℕ) → Lacks c a → Lacks c b → Lacks c (a ++ b)
lacks-append c a b p q = list_any-append (nat_eq c) a b ∙ ap (λ z. z || is_element b c) p ∙ q

-- a text has one first line
pub same_line : (bytes a b x y : List ℕ) → BeginsWith bytes a x → BeginsWith bytes b y → (a ≡ b) × (x ≡ y)
same_line bytes a b x y p q = same_parts 10 a b x y p.whole q.whole (sym p.text ∙ q.text)

-- a line that is ended is not cut short
pub not_cut_short : (bytes line rest : List ℕ) → BeginsWith bytes line rest → IsCutShort bytes → ⊥
not_cut_short bytes line rest is none = let yes = has_separator 10 line rest in let e = ap (λ w. is_element w 10) is.text in cc

-- a fault of the first line where no value is too large
pub cut_short : {M A : Type 0} (table : Table M A) (number : ℕ) (bytes : List ℕ) → Lacks 10 bytes → IsLineFault table number bytes (grammar number)
cut_short table number bytes none = (refl, inl none)

-- a line that spells nothing is a grammar fault
pub stray : {M A : Type 0} (table : Table M A) (number : ℕ) (bytes line rest : List ℕ) → bytes ≡ line ++ 10 ∷ rest → Lacks 10 line → ((a : A) → ¬ (table.spells line a)) → IsLineFault table number bytes (grammar number)
stray table number bytes line rest is whole none = (refl, inr (record { line = line; rest = rest; begins = record { text = is; whole = whole }; stray = none }))

-- a value that is too large is a size fault
pub too_large : {M A : Type 0} (table : Table M A) (number : ℕ) (bytes line rest : List ℕ) (a : A) (m : M) → BeginsWith bytes line rest → table.spells line a → table.exceeds a m → IsLineFault table number bytes (size number m)
too_large table number bytes line rest a m begins spelled exceeds = (refl, record { line = line; rest = rest; value = a; begins = begins; spelled = spelled; exceeds = exceeds })

-- a line that spells a value within the limits
pub line_is : {M A : Type 0} (table : Table M A) (bytes line rest : List ℕ) (a : A) → bytes ≡ line ++ 10 ∷ rest → Lacks 10 line → table.spells line a → ((m : M) → ¬ (table.exceeds a m)) → IsLineOf table bytes a rest
line_is table bytes line rest a is whole spelled fits = record { line = line; begins = record { text = is; whole = whole }; spelled = spelled; fits = fits }

-- the same line under another limit
abbrev under : {M A : Type 0} → (List ℕ → A → Type 0) → (A → M → Type 0) → Table M A
under spells exceeds = record { spells = spells; exceeds = exceeds }

-- a grammar fault stays one under a limit
pub fault_under : {M A : Type 0} (spells : List ℕ → A → Type 0) (exceeds : A → M → Type 0) (number : ℕ) (bytes : List ℕ) (fault : FirstFault M) → IsLineFault (under spells never) number bytes fault → IsLineFault (under spells exceeds) number bytes fault
fault_under spells exceeds number bytes (grammar l) (is, inl short) = (is, inl short)
fault_under spells exceeds number bytes (grammar l) (is, inr s) = (is, inr (record { line = s.line; rest = s.rest; begins = s.begins; stray = s.stray }))
fault_under spells exceeds number bytes (size l m) (is, large) = absurd (large.exceeds)

-- a line within the limit
pub line_under : {M A : Type 0} (spells : List ℕ → A → Type 0) (exceeds : A → M → Type 0) (bytes : List ℕ) (a : A) (rest : List ℕ) → IsLineOf (under {M = M} spells never) bytes a rest → ((m : M) → ¬ (exceeds a m)) → IsLineOf (under spells exceeds) bytes a rest
line_under spells exceeds bytes a rest is fits = record { line = is.line; begins = is.begins; spelled = is.spelled; fits = fits }

-- a line above the limit
pub large_under : {M A : Type 0} (spells : List ℕ → A → Type 0) (exceeds : A → M → Type 0) (number : ℕ) (bytes : List ℕ) (a : A) (rest : List ℕ) (m : M) → IsLineOf (under {M = M} spells never) bytes a rest → exceeds a m → IsLineFault (under spells exceeds) number bytes (size number m)
large_under spells exceeds number bytes a rest m is large = (refl, record { line = is.line; rest = rest; value = a; begins = is.begins; spelled = is.spelled; exceeds = large })

-- a line takes a byte at least
pub shorter : {M A : Type 0} (table : Table M A) (bytes : List ℕ) (a : A) (rest : List ℕ) → IsLineOf table bytes a rest → length rest + 1 ≤ length bytes
shorter table bytes a rest is = let e = ap length is.begins.text in let f = long is.line rest in omega arith
  where
    long : (line rest : List ℕ) → length rest + 1 ≤ length (line ++ 10 ∷ rest)
    long [] rest = omega arith
    long (b ∷ line) rest = let h = long line rest in omega arith

-- what follows is a part of the text
pub front_of : {M X : Type 0} (format : Format M X) (number : ℕ) (bytes : List ℕ) (x : X) (rest : List ℕ) (next : ℕ) → StandsFor format number bytes x rest next → (front : List ℕ) × (bytes ≡ front ++ rest)
front_of (done y) number bytes x rest next is = ([], sym is.1)
front_of (line_of table due) number bytes x rest next (a, after, line, more) =
    let tail = front_of (due a) (number + 1) after x rest next more in
    (line.line ++ 10 ∷ tail.0, line.begins.text ∙ ap (λ w. line.line ++ 10 ∷ w) tail.1 ∙ sym (append_assoc line.line (10 ∷ tail.0) rest))

-- a line of a fixed text stands for it
pub fixed_stands : {M : Type 0} (text tail : List ℕ) → Lacks 10 text → IsLineOf (fixed {M = M} text) (text ++ 10 ∷ tail) tt tail
fixed_stands text tail whole = record { line = text; begins = record { text = refl; whole = whole }; spelled = refl; fits = λ m h. h }

-- it spells one value, and none is too large
pub fixed_sharp : {M : Type 0} (text : List ℕ) → IsSharpTable (fixed {M = M} text)
fixed_sharp text = record { one_value = λ line a b p q. refl; one_measure = λ a m n p q. absurd p }
