-- What the readers of a matroid file answer: words of private contracts and of the proofs.
use Rattle.std.specs.Prelude.{ℕ, List, [], codes, Option, None}
use Rattle.mr_set.specs.Matroid.{Presentation}
use Rattle.mr_text.specs.Format.{Format, done, line_of}
use Rattle.mr_text.specs.Tables.{fixed, keyed}
use Rattle.mr_file.specs.File.{ElementsExceed, RankExceeds, CountExceeds, set_lines}
use Rattle.mr_file.specs.declared.fault.Measure.{Measure}
use Rattle.mr_file.specs.declared.fault.FileFault.{FileFault}
use Rattle.mr_file.specs.declared.fault.FileFault.TheVariants.{NoBasis, Exchange, Memory}
use Rattle.mr_matroid.specs.declared.fault.MatroidFault.{MatroidFault}
use Rattle.mr_matroid.specs.declared.fault.MatroidFault.TheVariants as matroid

-- what is due after the last set
abbrev pub end_line : ℕ → ℕ → List (List ℕ) → Format Measure Presentation
end_line n r sets = line_of (fixed (codes "end")) (λ _. done (record { elements = n; rank = r; nonbases = sets }))

-- after the number of nonbases, and after some sets
abbrev pub from_sets : ℕ → ℕ → ℕ → List (List ℕ) → Option (List ℕ) → Format Measure Presentation
from_sets n r count sets last = set_lines n r count sets last (end_line n r)

-- after the rank
abbrev pub from_count : ℕ → ℕ → Format Measure Presentation
from_count n r = line_of (keyed (codes "nonbases ") (CountExceeds n r)) (λ k. from_sets n r k [] None)

-- after the number of elements
abbrev pub from_rank : ℕ → Format Measure Presentation
from_rank n = line_of (keyed (codes "rank ") (RankExceeds n)) (λ r. from_count n r)

-- after the first line
abbrev pub from_elements : Format Measure Presentation
from_elements = line_of (keyed (codes "elements ") ElementsExceed) (λ n. from_rank n)

-- a matroid's refusal as that of its file
abbrev pub as_file_fault : MatroidFault → FileFault
as_file_fault matroid.NoBasis = NoBasis
as_file_fault (matroid.Exchange b1 b2 x) = Exchange b1 b2 x
as_file_fault matroid.Memory = Memory
