-- Rows as the code may hold them.
use Rattle.std.specs.Prelude.{◌≡◌, ℕ, ◌^◌, ◌<◌, length, All, slice_index_or}
use Rattle.mr_set.specs.Elements.{IsSet}
use Rattle.mr_set.specs.declared.TheConstants.{ELEMENTS}
use Rattle.mr_assign.specs.Assign.{IsAssign}
use Rattle.mr_assign.specs.declared.TheConstants.{VALUES}
use Rattle.mr_nogood.specs.declared.row.Cite.{Cite}
use Rattle.mr_nogood.specs.declared.row.Cite.TheVariants.{Nothing, Test, Slot}
use Rattle.mr_nogood.specs.declared.row.Row.{Row}

-- the cite for a value from 1 on, Nothing past the last
abbrev pub cite_for : Row → ℕ → Cite
cite_for row k = slice_index_or row.cites k Nothing

-- its set is a set of elements, its number a number of 32 bits
abbrev pub IsCite : Cite → Type 0
IsCite Nothing = Unit {0}
IsCite (Test x) = IsSet ELEMENTS x
IsCite (Slot s) = s < 2 ^ 32

-- its parts are such as a row may have
pub record IsRow (row : Row) : Type 0 where
  pub rank : row.rank < 2 ^ 32
  pub at : row.at < 2 ^ 8
  pub clause : IsAssign row.clause
  pub count : length row.cites ≡ VALUES
  pub cites : All IsCite row.cites
