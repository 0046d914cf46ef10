-- one block after another
use Rattle.matrep.proofs.Listed.{blocks_none, blocks_more, blocks_all}
use Rattle.matrep.proofs.listing.put_blocks.Goals as goal

pub loop-form-init : goal.loop-form-init
loop-form-init c = blocks_none c.args.frame.now c.args.text.now

pub loop-form-preserved : goal.loop-form-preserved
loop-form-preserved c = blocks_more c.args.frame.now c.args.forms.now c.loop-form.form-index c.form-item.result c.args.text.now c.loop-form.text c.put_block.new.text c.loop-form-test.true c.form-item.is c.loop-form.invariant c.in_ok-put_block.ensures

pub returns : goal.returns
returns c = blocks_all c.args.frame.now c.args.forms.now c.loop-form.form-index c.args.text.now c.loop-form.text c.loop-form-test.false c.loop-form.invariant
