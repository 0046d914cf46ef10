-- what the search over the plane's frame ends with is told of the plane
use Rattle.std.proofs.Common.{◌≡◌, ℕ, List, length, ap}
use Rattle.matrep.specs.Texts.{plane_line, stopped_text}
use Rattle.matrep.specs.Answering.{CountsClasses}
use Rattle.matrep.specs.declared.outcome.Exit.TheVariants.{Done, Stopped}
use Rattle.mr_exchange.specs.declared.TheConstants.{NODES}
use Rattle.matrep.proofs.Solved.{outcome_told, searched_forms, searched_log, searched_stop}
use Rattle.matrep.proofs.Counted.{plane_not_refuted, classes_counted, plane_stopped}
use Rattle.matrep.proofs.planes.count.Goals as goal

pub returns-in-Forms : goal.returns-in-Forms
returns-in-Forms c =
    let f = c.in_ok-frame.frame in
    let forms = c.in-Forms.forms in
    let all = searched_forms f NODES 0 c.in_ok-searched.searched forms c.in-Forms.is c.in_ok-searched.ensures in
    let k = c.matroid.result.now in
    let classes = length c.as_slice.result.now in
    outcome_told (λ o. o.exit) (λ o. o.text) (CountsClasses c.args.field) Done (λ (t : List ℕ). t ≡ plane_line c.args.field k.elements (length k.nonbases) classes) c.counted.result c.counted.ensures.exit c.counted.ensures.text
    (λ t is. classes_counted c.args.field c.args.m c.requires f c.in_ok-frame.ensures.frame c.in_ok-frame.ensures.matroid c.in_ok-frame.ensures.field forms k classes t all c.matroid.ensures (ap length c.as_slice.ensures) is)

pub returns-in-Stopped : goal.returns-in-Stopped
returns-in-Stopped c =
    let f = c.in_ok-frame.frame in
    let opened = c.in-Stopped.opened in
    let spent = searched_stop f NODES 0 c.in_ok-searched.searched opened c.in-Stopped.is c.in_ok-searched.ensures in
    outcome_told (λ o. o.exit) (λ o. o.text) (CountsClasses c.args.field) (Stopped opened) (λ (t : List ℕ). t ≡ stopped_text opened) c.stopped.result c.stopped.ensures.exit c.stopped.ensures.text
    (λ t is. plane_stopped c.args.field c.args.m c.requires f c.in_ok-frame.ensures.frame c.in_ok-frame.ensures.matroid c.in_ok-frame.ensures.field opened t spent is)

pub unreachable-requires : goal.unreachable-requires
unreachable-requires c =
    let f = c.in_ok-frame.frame in
    let log = c.in-Refuted.field-0 in
    plane_not_refuted c.args.field c.args.m c.requires f c.in_ok-frame.ensures.frame c.in_ok-frame.ensures.matroid c.in_ok-frame.ensures.field log (searched_log f NODES 0 c.in_ok-searched.searched log c.in-Refuted.is c.in_ok-searched.ensures)
