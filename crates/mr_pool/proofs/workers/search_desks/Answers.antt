-- From each desk's turn to all desks.
use Rattle.std.proofs.Common.{◌≡◌, ◌∙◌, ap, sym, subst, arith, ℕ, ◌<◌, List, ◌++◌, ◌∷◌, [], length, take, drop, get_or}
use Rattle.std.specs.Prelude.{All}
use Rattle.std.proofs.lemmas.Grind.{common_steps}
use Rattle.mr_pool.specs.declared.desk.Desk.{Desk}
use Rattle.mr_pool.specs.Private.Desks.{IsNewDesk, IsServed, AreDone}
use Rattle.mr_pool.proofs.Dealing.{all_can, all_done, some_new}
use Rattle.mr_pool.proofs.workers.search_desks.Goals as goal

-- what is written back is the list
back : (n xs : List Desk) (k : ℕ) → length n ≡ length xs → k ≡ length xs → take k (n ++ drop (length n) xs) ≡ n
back n xs k a b = grind (arith, common_steps)

pub serve_all-requires-clause-some : goal.serve_all-requires-clause-some
serve_all-requires-clause-some g c κs within = subst (λ (l : List Desk). 0 < length l) (sym c.as_mut_slice.ensures.value) (some_new c.args.store.now c.args.desks.items c.requires.desks)

pub serve_all-requires-clause-new : goal.serve_all-requires-clause-new
serve_all-requires-clause-new g c κs within = subst (λ l. All (IsNewDesk c.args.store.now) l) (sym c.as_mut_slice.ensures.value) (all_can c.args.store.now c.args.desks.items c.requires.desks)

pub gather-requires-clause-desks : goal.gather-requires-clause-desks
gather-requires-clause-desks g c =
    let e = c.as_mut_slice.ensures.value in let n = c.serve_all.new.desks in let len = c.serve_all.auto.desks in
    let whole : length n ≡ length c.args.desks.items = len ∙ ap length e in
    subst (λ l. AreDone c.args.store.now l) (sym (back n c.args.desks.items c.args.desks.len whole (omega arith)))
    (all_done c.args.store.now c.args.desks.items n c.requires.desks whole (λ i d lt. subst (λ (l : List Desk). IsServed (get_or l i d) (get_or n i d)) e (c.serve_all.ensures i d (omega arith))))
