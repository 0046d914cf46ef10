-- position by position
use Rattle.std.proofs.Common.{sym, subst, arith}
use Rattle.mr_frame.specs.Frame.{IsExchange}
use Rattle.mr_class.specs.Private.Scaling.{IsReadTo}
use Rattle.mr_class.proofs.Reading.{place-edge, edge-not_zero, read_none}
use Rattle.mr_class.proofs.scale.read_form.Goals as goal

pub loop-p-init : goal.loop-p-init
loop-p-init c = subst (IsReadTo c.args.frame.now.places c.args.a.now 0) (sym c.empty-form.ensures) (read_none c.args.frame.now.places c.args.a.now)

pub get-requires-clause-row : goal.get-requires-clause-row
get-requires-clause-row c =
    let edge : IsExchange c.args.frame.now.matroid c.args.frame.now.basis c.place-place.result.row c.place-place.result.col =
    place-edge c.args.frame.now c.basis-basis.ensures.frame c.args.a.now c.requires.scaled c.requires.field c.loop-p.p c.place-place.result c.place-place.ensures in
    let row = edge.row in
    let rows = c.requires.scaled.represents.fits.rows in
    omega arith

pub get-requires-clause-column : goal.get-requires-clause-column
get-requires-clause-column c =
    let edge : IsExchange c.args.frame.now.matroid c.args.frame.now.basis c.place-place.result.row c.place-place.result.col =
    place-edge c.args.frame.now c.basis-basis.ensures.frame c.args.a.now c.requires.scaled c.requires.field c.loop-p.p c.place-place.result c.place-place.ensures in
    let element = edge.element in
    let cols = c.requires.scaled.represents.fits.cols in
    omega arith

pub with-form-requires-clause-low : goal.with-form-requires-clause-low
with-form-requires-clause-low c =
    let edge : IsExchange c.args.frame.now.matroid c.args.frame.now.basis c.place-place.result.row c.place-place.result.col =
    place-edge c.args.frame.now c.basis-basis.ensures.frame c.args.a.now c.requires.scaled c.requires.field c.loop-p.p c.place-place.result c.place-place.ensures in
    let some = edge-not_zero c.args.frame.now c.basis-basis.ensures.frame c.args.a.now c.requires.scaled c.requires.field c.place-place.result.row c.place-place.result.col edge in
    let value = c.get.ensures.value in
    omega arith
