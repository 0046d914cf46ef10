-- What a seat of the table knows, and the words of the table.
use Rattle.std.specs.Prelude.{ℕ, ◌+◌, ◌*◌, List, [], ◌∷◌, ◌++◌, ◌==◌, if◌then◌else◌, Option, Some, None, Contains}
use Rattle.mr_field.specs.Gf.{gf2}
use Rattle.mr_set.specs.Elements.{is_element}
use Rattle.mr_frame.specs.Frame.{Framed}
use Rattle.mr_nogood.specs.declared.TheConstants.{ROW_WORDS}
use Rattle.mr_nogood.specs.declared.row.Row.{Row}
use Rattle.mr_nogood.specs.Follows.{Rows}
use Rattle.mr_exchange.specs.declared.problem.Problem.{Problem}
use Rattle.mr_exchange.specs.State.{Pass, new_pass, spent}
use Rattle.mr_exchange.specs.Events.{claimed, opened, looked, published, joins}
use Rattle.mr_exchange.specs.Board.{Holding}

-- the frame, the problem, and how many passes may be made
pub record Setting : Type 0 where
  pub frame : Framed
  pub problem : Problem
  pub limit : ℕ

-- What a seat knows: the setting, its pass, the rows that it found in slots and those that it was given, which are the ones
-- that the first pass had found or been given when this pass was made, the words that it stored, and the number that it found
-- last in the claim word or the ticket word. Rows and words have the latest first.
pub record Seen : Type 0 where
  pub setting : Setting
  pub pass : Pass
  pub found : List (ℕ × Row)
  pub given : List (ℕ × Row)
  pub laid : List (ℕ × ℕ)
  pub last_word : ℕ

-- the first that stands beside the number
abbrev pub find : {A : Type 0} → List (ℕ × A) → ℕ → Option A
find [] k = None
find (x ∷ xs) k = if x.0 == k then Some x.1 else find xs k

-- a word that was stored, or 0
abbrev pub or_zero : Option ℕ → ℕ
or_zero None = 0
or_zero (Some n) = n

-- Word 0 is the claim word and word 1 the ticket word. Then each slot has the words of a packed row, its head first.
abbrev pub word_at : ℕ → ℕ → ℕ
word_at slot j = 2 + ROW_WORDS * slot + j

-- The seat was told that the row stands in the slot: it found it there, or it was given it.
abbrev pub IsTold : Seen → ℕ → Row → Type 0
IsTold v slot row = Contains (v.found ++ v.given) (slot, row)

-- the rows that the seat's pass knows
abbrev pub known_of : Seen → Rows
known_of v slot = if is_element v.pass.known slot then find v.found slot else None

-- what the seat's pass has and knows
abbrev pub holding_seen : Seen → Holding
holding_seen v = record {
  frame = v.setting.frame;
  problem = v.setting.problem;
  cubes = v.pass.cubes;
  tickets = v.pass.tickets;
  known = known_of v;
  looks = v.pass.looks;
  last_head = v.pass.last_head;
  cursor = v.pass.cursor;
  claim_ends = v.pass.claim_ends;
  ticket_ends = v.pass.ticket_ends;
}

-- the first seat knows the setting
abbrev pub first_view : Setting → Seen
first_view g = record { setting = g; pass = new_pass 0; found = []; given = []; laid = []; last_word = 0 }

-- after a claim that found this number in the claim word
abbrev pub view_claimed : ℕ → Seen → Seen
view_claimed word v = record v { pass = claimed v.setting.problem.cubes word v.pass; last_word = word }

-- after an opening of the node that found this number in the ticket word
abbrev pub view_opened : ℕ → List ℕ → Seen → Seen
view_opened word node v = record v { pass = opened v.setting.problem.nodes word node v.pass; last_word = word }

-- after a store of a word
abbrev pub view_laid : ℕ → ℕ → Seen → Seen
view_laid i n v = record v { laid = (i, n) ∷ v.laid }

-- after a publication in the slot
abbrev pub view_published : ℕ → Row → Seen → Seen
view_published slot row v = record v { pass = published slot v.pass; found = (slot, row) ∷ v.found }

-- with what was found in the slot
abbrev pub finding : ℕ → Option Row → List (ℕ × Row) → List (ℕ × Row)
finding slot None found = found
finding slot (Some row) found = (slot, row) ∷ found

-- after a look that found a row or none
abbrev pub view_looked : Option Row → Seen → Seen
view_looked row v = record v { pass = looked v.setting.problem.nodes (λ _. row) v.pass; found = finding v.pass.cursor row v.found }

-- a pass more was made
abbrev pub view_made : Seen → Seen
view_made v = record v { pass = record v.pass { made = v.pass.made + 1 } }

-- and this is its seat's, which is given all that the first was told
abbrev pub view_new : Seen → Seen
view_new v = record { setting = v.setting; pass = new_pass v.pass.made; found = []; given = v.found ++ v.given; laid = []; last_word = 0 }

-- all that two seats know
abbrev pub view_joined : Seen → Seen → Seen
view_joined v w = record v { pass = joins v.pass w.pass; found = v.found ++ w.found; given = v.given ++ w.given; laid = v.laid ++ w.laid }

-- what is left of a seat that was joined into another
abbrev pub view_spent : Seen
view_spent = record {
  setting = record {
    frame = record { matroid = record { elements = 0; rank = 0; nonbases = [] }; field = gf2; basis = []; forest = []; places = [] };
    problem = record { depth = 0; cubes = 0; nodes = 0 };
    limit = 0;
  };
  pass = spent;
  found = [];
  given = [];
  laid = [];
  last_word = 0;
}
