-- There are words where there is a line.
use Rattle.std.proofs.Common.{◌≡◌, ℕ, List, [], subst, Bool, true, false, refl, Option, Some, None}
use Rattle.std.specs.Prelude.{◌↔◌, IsTrue, option_copied, not}
use Rattle.std.specs.Option.{is_some}
use Rattle.std.specs.Borrow.{Bor}
use Rattle.mr_log.specs.Words.{words_left}
use Rattle.mr_log.proofs.Splitting.{some_words}
use Rattle.mr_log.proofs.words.WordsLeft.is_done.Goals as goal

-- no line is left where the test says so
left : (rest : Option (Bor (List ℕ))) (r : Bool) → is_some rest ≡ not r → IsTrue r ↔ (words_left (option_copied rest) ≡ [])
left None true is = (λ _. refl, λ _. refl)
left None false is = absurd cc
left (Some line) true is = absurd cc
left (Some line) false is = (λ h. absurd cc, λ none. absurd (some_words line.now none))

pub returns : goal.returns
returns c = subst (λ (w : List (List ℕ)). IsTrue c.is_none.result ↔ (w ≡ [])) c.self.view_is (left c.self.inside.rest c.is_none.result c.is_none.ensures)
