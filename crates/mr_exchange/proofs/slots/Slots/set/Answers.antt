-- the items have the place, and what is left has none
use Rattle.std.proofs.Common.{◌≡◌, ◌+◌, List, Option, replicate, length, None, sym, ap, ◌∙◌, arith, length-append}
use Rattle.std.proofs.lemmas.List.{length-replicate}
use Rattle.mr_nogood.specs.declared.row.Row.{Row}
use Rattle.mr_exchange.proofs.Filling.{set-more}
use Rattle.mr_exchange.proofs.slots.Slots.set.Goals as goal

pub returns : goal.returns
returns c =
    let items : List (Option Row) = c.self.inside.items.items in
    let wide : length c.args.self.now ≡ length items + c.self.inside.rest =
    sym (ap (λ (xs : List (Option Row)). length xs) c.self.view_is) ∙ length-append items (replicate c.self.inside.rest None) ∙ ap (λ n. length items + n) (length-replicate c.self.inside.rest None) in
    let grown : length c.fill.new.items.items ≡ length items + c.fill.result =
    ap (λ (xs : List (Option Row)). length xs) c.fill.ensures.items ∙ length-append items (replicate c.fill.result None) ∙ ap (λ n. length items + n) (length-replicate c.fill.result None) in
    set-more items c.fill.new.items.items c.args.self.now c.self.inside.rest c.fill.result c.args.slot c.args.row.now c.fill.ensures.items
    (let count = c.fill.ensures.count in omega (arith, c.requires)) (let count = c.fill.ensures.count in omega (arith, c.requires)) c.self.view_is
