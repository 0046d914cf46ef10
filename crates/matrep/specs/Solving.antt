-- What a search for representations of a matroid over a field may end with.
use Rattle.std.specs.Prelude.{◌≡◌, ◌≢◌, ℕ, ◌+◌, ◌≤◌, min, Bool, true, false, List, [], length, sum}
use Rattle.mr_field.specs.Gf.{Gf, gf2, order}
use Rattle.mr_set.specs.Matroid.{Presentation}
use Rattle.mr_linear.specs.Matrix.{Grid}
use Rattle.mr_linear.specs.Representation.{IsAnswer, HasNoRepresentation}
use Rattle.mr_assign.specs.Assign.{no_values}
use Rattle.mr_frame.specs.Frame.{Framed, IsFrameOf}
use Rattle.mr_frame.specs.Test.{IsFirstFailing}
use Rattle.mr_nogood.specs.declared.row.Cite.TheVariants.{Test}
use Rattle.mr_log.specs.declared.log.Log.{Log}
use Rattle.mr_check.specs.Accepted.{IsAcceptedLog}
use Rattle.mr_merge.specs.declared.TheConstants.{PREFIXES}
use Rattle.mr_search.specs.Nodes.{IsNode, HoldsOfMany}
use Rattle.mr_auto.specs.Orbits.{AreOrbitsOfAnswer}
use Rattle.matrep.specs.Texts.{classes_text, orbits_text, stopped_text}
use Rattle.matrep.specs.declared.TheConstants.{LOG_BYTES}
use Rattle.matrep.specs.declared.outcome.Exit.{Exit}
use Rattle.matrep.specs.declared.outcome.Exit.TheVariants.{Done, Negative, Stopped}

-- the text has the least standard matrix of each class, in order; there are some, and no more than nodes
pub record ListsClasses (f : Gf) (nodes : ℕ) (m : Presentation) (text : List ℕ) : Type 0 where
  pub answer : List Grid
  pub is_answer : IsAnswer m f answer
  pub some : answer ≢ []
  pub few : length answer ≤ nodes
  pub text_is : text ≡ classes_text f answer

-- the text has the least member and the size of each orbit of the answer, in order; there are some, with no more members than nodes
pub record ListsOrbits (f : Gf) (nodes : ℕ) (m : Presentation) (text : List ℕ) : Type 0 where
  pub leasts : List Grid
  pub sizes : List ℕ
  pub are_orbits : AreOrbitsOfAnswer m f leasts sizes
  pub some : leasts ≢ []
  pub few : sum sizes ≤ nodes
  pub text_is : text ≡ orbits_text f leasts sizes

-- the log without steps over the field with two elements that ends with the set x
abbrev pub short_log : Presentation → List ℕ → Log
short_log m x = record { matroid = m; q = 2; steps = []; last = Test x }

-- the log has no step, and its end is the first set that fails
pub record IsShortLog (m : Presentation) (log : Log) : Type 0 where
  pub frame : Framed
  pub is_frame : IsFrameOf m gf2 frame
  pub set : List ℕ
  pub first : IsFirstFailing frame no_values set
  pub log_is : log ≡ short_log m set

-- No matrix over the field represents the matroid, and the text is a log of this matroid that the checker accepts, no longer than
-- what it reads. It has no more steps than nodes and the most proper prefixes that cubes have. Over two elements it is the short
-- one.
pub record Refutes (f : Gf) (nodes : ℕ) (m : Presentation) (text : List ℕ) : Type 0 where
  pub none : HasNoRepresentation m f
  pub empty : IsAnswer m f []
  pub log : Log
  pub accepted : IsAcceptedLog f text log
  pub matroid : log.matroid ≡ m
  pub few : length log.steps ≤ nodes + PREFIXES
  pub within : length text ≤ LOG_BYTES
  pub short : f ≡ gf2 → IsShortLog m log

-- More nodes than the budget are there to be opened: assignments of just the first free positions, from the depth of the split
-- on, under which no set fails.
pub record HasMoreNodes (f : Gf) (m : Presentation) (nodes split : ℕ) : Type 0 where
  pub frame : Framed
  pub is_frame : IsFrameOf m f frame
  pub more : HoldsOfMany (IsNode frame (min split (length frame.places))) (nodes + 1)

-- the number told is the budget, and there are more nodes than that
pub record IsOutOfNodes (f : Gf) (m : Presentation) (nodes split opened : ℕ) (text : List ℕ) : Type 0 where
  pub opened_is : opened ≡ nodes
  pub more : HasMoreNodes f m nodes split
  pub text_is : text ≡ stopped_text opened

-- The exit and the text of a solve for a matroid.
abbrev pub Solves : Gf → ℕ → ℕ → Bool → Presentation → Exit → List ℕ → Type 0
Solves f nodes split false m Done text = ListsClasses f nodes m text
Solves f nodes split true m Done text = ListsOrbits f nodes m text
Solves f nodes split orbits m Negative text = Refutes f nodes m text
Solves f nodes split orbits m (Stopped opened) text = IsOutOfNodes f m nodes split opened text
Solves f nodes split orbits m exit text = ⊥
