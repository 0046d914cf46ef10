-- A new table keeps the rule.
use Rattle.std.proofs.Common.{◌≡◌, ℕ, zero, suc, ◌≤◌, IsTrue, List, [], ◌∷◌, length, replicate, slice_index, None, refl, sym, ap, ◌∙◌, subst, arith}
use mathlib.Core.Option.{some, some-injective, some-ne-none}
use lib.ListN.{get_elem?}
use Rattle.std.proofs.Math.Path.{fun_ext}
use Rattle.std.proofs.lemmas.List.{length-replicate}
use Rattle.std.proofs.lemmas.Option.{none-some}
use Rattle.atomic_table.specs.Table.{opening}
use Rattle.mr_frame.specs.Frame.{IsFrame}
use Rattle.mr_nogood.specs.Follows.{Rows}
use Rattle.mr_exchange.specs.declared.TheConstants.{PASSES}
use Rattle.mr_exchange.specs.Cubes.{IsProblemOf}
use Rattle.mr_exchange.specs.State.{new_state, new_pass}
use Rattle.mr_exchange.specs.Sound.{IsSound}
use Rattle.mr_exchange.proofs.RowWords.{zero_at}
use Rattle.mr_exchange.proofs.Runs.{new_states_are_sound}
use Rattle.mr_store.specs.Seats.{Setting, Seen, word_at, first_view}
use Rattle.mr_store.specs.Shown.{shown, rows_in_words, IsFound, IsTied, Holds}
use Rattle.mr_store.proofs.Words.{rows_of-none}
use Rattle.mr_store.proofs.Forking.{none_in}

module _ (g : Setting) (words : List ℕ) (zeros : words ≡ replicate (word_at g.problem.nodes 0) 0) where
  -- each word is 0
  zero_word : (i : ℕ) → slice_index words i ≡ 0
  zero_word i = ap (λ ws. slice_index ws i) zeros ∙ zero_at (word_at g.problem.nodes 0) i

  -- no slot has a row
  no_rows : rows_in_words words ≡ (λ slot. None)
  no_rows = fun_ext (λ slot. rows_of-none words slot (zero_word (word_at slot 0)))

  -- the words and the first seat show a new state
  pub shown_new : shown g words (first_view g ∷ []) ≡ new_state g.frame g.problem g.limit
  shown_new = let claim = zero_word 0 in let ticket = zero_word 1 in let rows = no_rows in
      λ k. record { frame = g.frame; problem = g.problem; limit = g.limit; claim = claim k; ticket = ticket k; passes = new_pass 0 ∷ []; rows = rows k }

  -- the first seat knows nothing
  first_tied : IsTied (shown g words (first_view g ∷ [])) words (first_view g)
  first_tied = record {
    setting = refl;
    found = λ slot row has. absurd (let lt = has.1 in omega arith);
    given = λ slot row has. absurd (let lt = has.1 in omega arith);
    known = λ slot. ((λ has. none_in slot has), λ (f : IsFound [] [] slot). absurd (none-some f.row f.at));
    laid = λ slot j mine _ _. none_in slot mine;
    own = λ i n e. absurd (none-some n e);
  }

  -- there is no other
  only_first : (k : ℕ) (v : Seen) → get_elem? (first_view g ∷ []) k ≡ some v → IsTrue v.pass.live → IsTied (shown g words (first_view g ∷ [])) words v
  only_first zero v at live = subst (λ (x : Seen). IsTied (shown g words (first_view g ∷ [])) words x) (some-injective (first_view g) v at) first_tied
  only_first (suc k) v at live = absurd (some-ne-none v (sym at))

  -- so the table keeps the rule
  pub opening_holds : IsFrame g.frame → IsProblemOf g.frame g.problem → 1 ≤ g.limit → g.limit ≤ PASSES → Holds g (opening words [] (first_view g))
  opening_holds frame problem some_passes few_passes = record {
    frame = frame;
    problem = problem;
    limit = few_passes;
    sound = subst IsSound (sym shown_new) (new_states_are_sound g.frame g.problem g.limit some_passes);
    tied = record {
      size = ap length zeros ∙ length-replicate (word_at g.problem.nodes 0) 0;
      each = only_first;
      packed = λ slot row e. absurd (none-some row (sym (ap (λ (rows : Rows). rows slot) no_rows) ∙ e));
      undrawn = λ slot j _ _. zero_word (word_at slot j);
    };
  }
