-- the matrices of all forms are the answer
use Rattle.std.proofs.Common.{ℕ, List, sym, ap, subst, length}
use Rattle.std.specs.Prelude.{All}
use Rattle.std.proofs.lemmas.List.Elements.{Contains-get_or}
use Rattle.mr_class.specs.Forms.{IsForm}
use Rattle.matrep.specs.Private.Listing.{AppendsBlocks}
use Rattle.matrep.proofs.Listed.{classes_listed}
use Rattle.matrep.proofs.listing.list_classes.Goals as goal

pub put_blocks-requires : goal.put_blocks-requires
put_blocks-requires c =
    let forms = c.args.forms.now in
    subst (All (IsForm c.args.frame.now)) (sym c.as_slice-forms.ensures) (λ k d lt. (c.requires.are.exactly _).0 (Contains-get_or forms k d lt))

pub returns-clause-text : goal.returns-clause-text
returns-clause-text c = λ nodes few.
    let f = c.args.frame.now in
    let forms = c.args.forms.now in
    classes_listed f forms nodes (length c.as_slice-forms.result.now) c.new-text.result c.put_count.new.text c.put_blocks.new.text c.basis-basis.ensures.frame c.requires few (ap length c.as_slice-forms.ensures) c.new-text.ensures
    c.in_ok-put_count.ensures (subst (λ (xs : List (List ℕ)). AppendsBlocks f xs c.put_count.new.text c.put_blocks.new.text) c.as_slice-forms.ensures c.in_ok-put_blocks.ensures)
