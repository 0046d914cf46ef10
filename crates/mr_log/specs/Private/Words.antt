-- The words of a line, and what is read from the front of them: words of private contracts and of the proofs.
use Rattle.std.specs.Prelude.{◌≡◌, ◌≢◌, ℕ, ◌+◌, ◌-◌, ◌<◌, ◌≤◌, List, [], ◌∷◌, ◌++◌, take, map, flat_map, All, codes, decimal, Option, MatchOption, length, slice_index, slice_index_or}
use Rattle.mr_set.specs.Subsets.{IsSetOf}
use Rattle.mr_assign.specs.Assign.{IsAssign}
use Rattle.mr_assign.specs.declared.TheConstants.{VALUES}
use Rattle.mr_set.specs.Matroid.{Presentation}
use Rattle.mr_log.specs.Lines.{pair_texts, IsLogCite}
use Rattle.mr_nogood.specs.declared.row.Cite.{Cite}
use Rattle.mr_nogood.specs.declared.row.Cite.TheVariants.{Nothing, Test, Slot}
use Rattle.mr_nogood.specs.declared.row.Row.{Row}

-- What was read from the front of the words is such a value, its words stood there, and the others are left. Nothing was read
-- where the words of no such value stand there.
abbrev pub Reads : {A : Type 0} → (A → Type 0) → (A → List (List ℕ)) → Option A → List (List ℕ) → List (List ℕ) → Type 0
Reads {A} P words result old new = MatchOption result ((a : A) (rest : List (List ℕ)) → P a → old ≢ words a ++ rest) (λ a. P a × (old ≡ words a ++ new))

-- `-` in place of no words
abbrev pub or_dash : List (List ℕ) → List (List ℕ)
or_dash [] = codes "-" ∷ []
or_dash (w ∷ ws) = w ∷ ws

-- a set of r of the first n elements, from low on
pub record IsSetFrom (low n r : ℕ) (x : List ℕ) : Type 0 where
  pub set : IsSetOf n r x
  pub from : All (λ e. low ≤ e) x

-- the words of a set
abbrev pub set_words : List ℕ → List (List ℕ)
set_words x = or_dash (map decimal x)

-- the words of a cite
abbrev pub cite_words : Cite → List (List ℕ)
cite_words Nothing = [] ∷ []
cite_words (Test x) = codes "t" ∷ set_words x
cite_words (Slot s) = codes "s" ∷ decimal s ∷ []

-- values below q of positions from low on
pub record IsClauseFrom (q low : ℕ) (a : List ℕ) : Type 0 where
  pub assign : IsAssign a
  pub values : All (λ v. v < q) a
  pub none : (p : ℕ) → p < low → slice_index a p ≡ 0

-- the words of pairs, up to the word after them
abbrev pub pair_words : List ℕ → List (List ℕ)
pair_words a = pair_texts 0 a ++ codes "by" ∷ []

-- the words of a clause, up to the word after it
abbrev pub clause_words : List ℕ → List (List ℕ)
clause_words a = or_dash (pair_texts 0 a) ++ codes "by" ∷ []

-- the words of a step's position, up to the word after it
abbrev pub position_words : ℕ → List (List ℕ)
position_words p = codes "at" ∷ decimal p ∷ codes "if" ∷ []

-- the words of the cites for the values of the field with q elements
abbrev pub cites_words : ℕ → List Cite → List (List ℕ)
cites_words q cites = flat_map cite_words (take (q - 1) cites)

-- the words of a step
abbrev pub step_words : ℕ → Row → List (List ℕ)
step_words q row = position_words row.at ++ (clause_words row.clause ++ cites_words q row.cites)

-- cites for the values of the field with q elements, and none for the others
pub record IsCites (m : Presentation) (q : ℕ) (list : List Cite) : Type 0 where
  pub count : length list ≡ VALUES
  pub cites : (k : ℕ) → k + 1 < q → IsLogCite m (slice_index_or list k Nothing)
  pub others : (k : ℕ) → q ≤ k + 1 → slice_index_or list k Nothing ≡ Nothing
