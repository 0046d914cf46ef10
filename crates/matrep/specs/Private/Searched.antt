-- What a search over a frame ends with.
use Rattle.std.specs.Prelude.{◌≡◌, ◌≢◌, ℕ, ◌+◌, ◌≤◌, min, List, [], length}
use Rattle.mr_field.specs.Gf.{gf2}
use Rattle.mr_assign.specs.Assign.{no_values}
use Rattle.mr_frame.specs.Frame.{Framed}
use Rattle.mr_log.specs.declared.log.Log.{Log}
use Rattle.mr_exchange.specs.Right.{AreCompletions}
use Rattle.mr_merge.specs.declared.TheConstants.{PREFIXES}
use Rattle.mr_merge.specs.Merged.{IsRefutationOf}
use Rattle.mr_search.specs.Nodes.{IsNode, HoldsOfMany}
use Rattle.matrep.specs.Solving.{IsShortLog}
use Rattle.matrep.specs.declared.searching.Searched.{Searched}
use Rattle.matrep.specs.declared.searching.Searched.TheVariants.{Forms, Refuted, Stopped}

-- these are all forms, in order; there are some, and no more than nodes
pub record AreForms (f : Framed) (nodes : ℕ) (forms : List (List ℕ)) : Type 0 where
  pub are : AreCompletions f no_values forms
  pub some : forms ≢ []
  pub few : length forms ≤ nodes

-- There is no form, and the log is a refutation with no more steps than the nodes and the proper prefixes of cubes. Over two
-- elements it is the short one.
pub record IsRefutedBy (f : Framed) (nodes : ℕ) (log : Log) : Type 0 where
  pub none : AreCompletions f no_values []
  pub refutation : IsRefutationOf f log
  pub few : length log.steps ≤ nodes + PREFIXES
  pub short : f.field ≡ gf2 → IsShortLog f.matroid log

-- the number told is the budget, and there are more nodes than that
pub record IsSpentOn (f : Framed) (nodes split opened : ℕ) : Type 0 where
  pub opened_is : opened ≡ nodes
  pub more : HoldsOfMany (IsNode f (min split (length f.places))) (nodes + 1)

-- what a search ends with
abbrev pub IsSearchedTo : Framed → ℕ → ℕ → Searched → Type 0
IsSearchedTo f nodes split (Forms forms) = AreForms f nodes forms
IsSearchedTo f nodes split (Refuted log) = IsRefutedBy f nodes log
IsSearchedTo f nodes split (Stopped opened) = IsSpentOn f nodes split opened
