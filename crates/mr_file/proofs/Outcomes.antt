-- A refusal of the first line, or of what is due after it.
use Rattle.std.proofs.Common.{◌≡◌, ℕ, zero, suc, ◌+◌, ◌≤◌, List, [], ◌∷◌, ◌++◌, refl, subst, inl, inr, arith, Option, Some, None}
use Rattle.std.specs.Prelude.{codes}
use Rattle.mr_set.specs.Matroid.{Presentation}
use Rattle.mr_set.specs.Subsets.{choose}
use Rattle.mr_set.specs.declared.TheConstants.{ELEMENTS, SETS}
use Rattle.mr_text.specs.Format.{FirstFault, grammar, size, Table, Format, done, line_of, IsLineOf, IsLineFault, IsFirstFault, StandsFor}
use Rattle.mr_text.specs.Tables.{never, fixed, keyed}
use Rattle.mr_text.proofs.Formats.{fault_under}
use Rattle.mr_text.proofs.Leads.{Leads, leads_on, leads_fault}
use Rattle.mr_file.specs.File.{ElementsExceed, RankExceeds, CountExceeds, set_table, set_lines}
use Rattle.mr_file.specs.Reading.{Names}
use Rattle.mr_file.specs.Private.Reading.{end_line, from_sets}
use Rattle.mr_file.specs.declared.fault.Measure.{Measure}
use Rattle.mr_file.specs.declared.fault.Measure.TheVariants.{Elements, Rank, Sets, Nonbases}
use Rattle.mr_file.specs.declared.fault.FileFault.{FileFault}
use Rattle.mr_file.specs.declared.fault.FileFault.TheVariants.{Grammar, Size, NoBasis, Exchange, Memory}

-- a refusal by one fact is a refusal by another that follows from it
pub names_map : (P Q : FirstFault Measure → Type 0) (e : FileFault) → ((f : FirstFault Measure) → P f → Q f) → Names P e → Names Q e
names_map P Q (Grammar line) more h = more (grammar line) h
names_map P Q (Size line what) more h = more (size line what) h
names_map P Q NoBasis more h = h
names_map P Q (Exchange b1 b2 x) more h = h
names_map P Q Memory more h = h

-- the fault of the first line is the first fault
pub refused_here : {X A : Type 0} (table : Table Measure A) (due : A → Format Measure X) (number : ℕ) (bytes : List ℕ) (e : FileFault) → Names (IsLineFault table number bytes) e → Names (IsFirstFault (line_of table due) number bytes) e
refused_here table due number bytes e = names_map (IsLineFault table number bytes) (IsFirstFault (line_of table due) number bytes) e (λ f h. inl h)

-- the first fault after a line without one
pub refused_later : {X A : Type 0} (table : Table Measure A) (due : A → Format Measure X) (number : ℕ) (bytes : List ℕ) (a : A) (rest : List ℕ) (e : FileFault) → IsLineOf table bytes a rest → Names (IsFirstFault (due a) (number + 1) rest) e → Names (IsFirstFault (line_of table due) number bytes) e
refused_later table due number bytes a rest e line = names_map (IsFirstFault (due a) (number + 1) rest) (IsFirstFault (line_of table due) number bytes) e (λ f h. inr (a, rest, line, h))

-- the same for a line with a number that may be too large
pub refused_keyed : {X : Type 0} (key : List ℕ) (exceeds : ℕ → Measure → Type 0) (due : ℕ → Format Measure X) (number : ℕ) (bytes : List ℕ) (e : FileFault) → Names (IsLineFault (keyed key never) number bytes) e → Names (IsFirstFault (line_of (keyed key exceeds) due) number bytes) e
refused_keyed key exceeds due number bytes e = names_map (IsLineFault (keyed key never) number bytes) (IsFirstFault (line_of (keyed key exceeds) due) number bytes) e (λ f h. inl (fault_under (keyed {M = Measure} key never).spells exceeds number bytes f h))

-- which numbers are small enough
pub elements_fit : (n : ℕ) → n ≤ ELEMENTS → (m : Measure) → ¬ (ElementsExceed n m)
elements_fit n le Elements h = omega arith
elements_fit n le Rank h = h
elements_fit n le Sets h = h
elements_fit n le Nonbases h = h

-- a rank within the limits
pub rank_fits : (n r : ℕ) → r ≤ n → choose n r ≤ SETS → (m : Measure) → ¬ (RankExceeds n r m)
rank_fits n r le sets Elements h = h
rank_fits n r le sets Rank h = omega arith
rank_fits n r le sets Sets h = let g = h.1 in omega arith
rank_fits n r le sets Nonbases h = h

-- a number of nonbases within the limits
pub count_fits : (n r k : ℕ) → k ≤ choose n r → (m : Measure) → ¬ (CountExceeds n r k m)
count_fits n r k le Elements h = h
count_fits n r k le Rank h = h
count_fits n r k le Sets h = h
count_fits n r k le Nonbases h = omega arith

-- the sets, one after another
abbrev pub Start : ℕ → ℕ → ℕ → Format Measure Presentation
Start n r count = from_sets n r count [] None

-- one set more was read
pub sets_on : (n r count k j : ℕ) (number : ℕ) (bytes : List ℕ) (sets : List (List ℕ)) (last : Option (List ℕ)) (at : ℕ) (rest x after : List ℕ)
    → k ≡ suc j → Leads (Start n r count) number bytes (from_sets n r k sets last) at rest → IsLineOf (set_table n r last) rest x after → Leads (Start n r count) number bytes (from_sets n r j (sets ++ x ∷ []) (Some x)) (at + 1) after
unfolding set_lines
sets_on n r count zero j number bytes sets last at rest x after is leads line = absurd (omega arith)
sets_on n r count (suc k) j number bytes sets last at rest x after is leads line =
    let same : k ≡ j = omega arith in
    subst (λ i. Leads (Start n r count) number bytes (from_sets n r i (sets ++ x ∷ []) (Some x)) (at + 1) after) same
    (leads_on (Start n r count) number bytes (set_table n r last) (λ y. from_sets n r k (sets ++ y ∷ []) (Some y)) at rest x after leads line)

-- the fault of a line of a set
pub sets_fault : (n r count k j : ℕ) (number : ℕ) (bytes : List ℕ) (sets : List (List ℕ)) (last : Option (List ℕ)) (at : ℕ) (rest : List ℕ) (e : FileFault)
    → k ≡ suc j → Leads (Start n r count) number bytes (from_sets n r k sets last) at rest → Names (IsLineFault (set_table n r last) at rest) e → Names (IsFirstFault (Start n r count) number bytes) e
unfolding set_lines
sets_fault n r count zero j number bytes sets last at rest e is leads h = absurd (omega arith)
sets_fault n r count (suc k) j number bytes sets last at rest e is leads h =
    names_map (IsLineFault (set_table n r last) at rest) (IsFirstFault (Start n r count) number bytes) e
    (λ f. leads_fault (Start n r count) number bytes (set_table n r last) (λ y. from_sets n r k (sets ++ y ∷ []) (Some y)) at rest f leads) h

-- after the last set
pub sets_end : (n r count k : ℕ) (number : ℕ) (bytes : List ℕ) (sets : List (List ℕ)) (last : Option (List ℕ)) (at : ℕ) (rest : List ℕ)
    → k ≡ 0 → Leads (Start n r count) number bytes (from_sets n r k sets last) at rest → Leads (Start n r count) number bytes (end_line n r sets) at rest
unfolding set_lines
sets_end n r count zero number bytes sets last at rest is leads = leads
sets_end n r count (suc k) number bytes sets last at rest is leads = absurd (omega arith)

-- the fault of the last line
pub end_fault : (n r count : ℕ) (number : ℕ) (bytes : List ℕ) (sets : List (List ℕ)) (at : ℕ) (rest : List ℕ) (e : FileFault)
    → Leads (Start n r count) number bytes (end_line n r sets) at rest → Names (IsLineFault (fixed {M = Measure} (codes "end")) at rest) e → Names (IsFirstFault (Start n r count) number bytes) e
end_fault n r count number bytes sets at rest e leads = names_map (IsLineFault (fixed {M = Measure} (codes "end")) at rest) (IsFirstFault (Start n r count) number bytes) e
    (λ f. leads_fault (Start n r count) number bytes (fixed (codes "end")) (λ _. done (record { elements = n; rank = r; nonbases = sets })) at rest f leads)

-- the last line ends the file
pub end_value : (n r count : ℕ) (number : ℕ) (bytes : List ℕ) (sets : List (List ℕ)) (at : ℕ) (rest after : List ℕ)
    → Leads (Start n r count) number bytes (end_line n r sets) at rest → IsLineOf (fixed {M = Measure} (codes "end")) rest tt after → StandsFor (Start n r count) number bytes (record { elements = n; rank = r; nonbases = sets }) after (at + 1)
end_value n r count number bytes sets at rest after leads line = leads.values (record { elements = n; rank = r; nonbases = sets }) after (at + 1) (tt, after, line, (refl, refl, refl))
