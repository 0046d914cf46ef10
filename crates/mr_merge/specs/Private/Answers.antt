-- The answers of all cubes: words of private contracts and of the proofs.
use Rattle.std.specs.Prelude.{ℕ, List, []}
use Rattle.mr_nogood.specs.declared.row.Cite.{Cite}
use Rattle.mr_nogood.specs.declared.row.Cite.TheVariants.{Nothing}
use Rattle.mr_exchange.specs.declared.answer.CubeAnswer.{CubeAnswer}
use Rattle.mr_exchange.specs.declared.answer.CubeAnswer.TheVariants.{Found, Refuted}

-- what was found of a cube
abbrev pub found_of : CubeAnswer → List (List ℕ)
found_of (Found xs) = xs
found_of (Refuted cite) = []

-- why a cube has no completion
abbrev pub cite_of : CubeAnswer → Cite
cite_of (Found xs) = Nothing
cite_of (Refuted cite) = cite
