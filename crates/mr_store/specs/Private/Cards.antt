-- What the code keeps of a card beside what callers see of it.
use Rattle.std.specs.Prelude.{◌≡◌, ℕ, List, [], replicate, Option, None}
pub use Rattle.atomic_table.specs.Seated.{TableId}
use Rattle.atomic_table.specs.Table.{Me}
use Rattle.mr_frame.specs.Frame.{Framed}
use Rattle.mr_nogood.specs.declared.row.Row.{Row}
use Rattle.mr_exchange.specs.declared.problem.Problem.{Problem}
use Rattle.mr_exchange.specs.State.{State, latest_of}
use Rattle.mr_store.specs.Seats.{Setting, Seen, word_at}
use Rattle.mr_store.specs.Steps.{IsShownIn}

-- what is kept of a store: its frame is that of its table, which has two words and the words of as many slots as there are nodes,
-- and no row is kept yet for the closed board
pub record IsStore (id : TableId) (g : Setting) (f : Framed) (kept : List (Option Row)) : Type 0 where
  pub frame : g.frame ≡ f
  pub words : id.words ≡ word_at g.problem.nodes 0
  pub slots : id.slots ≡ 0
  pub none : kept ≡ replicate g.problem.nodes None

-- what is kept of a card: a sound state shows what its seat knows, and the numbers that it has are those of its pass
pub record IsCard (id : TableId) (problem : Problem) (cursor latest : ℕ) (m : Me (Unit {0}) Seen) : Type 0 where
  pub none_held : m.1 ≡ []
  pub shown : (s : State) × IsShownIn s m.0
  pub words : id.words ≡ word_at m.0.setting.problem.nodes 0
  pub problem_is : problem ≡ m.0.setting.problem
  pub cursor_is : cursor ≡ m.0.pass.cursor
  pub latest_is : m.0.pass.joined ≡ [] → latest ≡ latest_of m.0.pass.tickets
