-- what the search over the frame ends with is told of its matroid
use Rattle.std.proofs.Common.{◌≡◌, ◌≤◌, ℕ, Bool, List, length, sym, subst, arith}
use Rattle.mr_log.specs.Log.{log_text}
use Rattle.matrep.specs.Texts.{stopped_text}
use Rattle.matrep.specs.Solving.{ListsClasses, ListsOrbits, Refutes, IsOutOfNodes, Solves}
use Rattle.matrep.specs.declared.outcome.Exit.TheVariants.{Done, Negative, Stopped}
use Rattle.matrep.proofs.Solved.{refutes, out_of_nodes, negative_solves, stopped_solves, outcome_told, searched_forms, searched_log, searched_stop}
use Rattle.matrep.proofs.solve.outcome_of.Goals as goal

pub returns-then-orbits : goal.returns-then-orbits
returns-then-orbits c =
    let f = c.args.frame.now in
    let nodes = c.args.nodes in
    let split = c.args.split in
    let forms = searched_forms f nodes split c.args.searched c.in-Forms.forms c.in-Forms.is c.requires.searched in
    outcome_told (λ o. o.exit) (λ o. o.text) (Solves f.field nodes split c.args.orbits f.matroid) Done (ListsOrbits f.field nodes f.matroid) c.list_orbits.result c.list_orbits.ensures.exit (c.list_orbits.ensures.text nodes forms.few)
    (λ t lists. subst (λ (b : Bool). Solves f.field nodes split b f.matroid Done t) (sym c.if-orbits.true) lists)

pub returns-in-Forms : goal.returns-in-Forms
returns-in-Forms c =
    let f = c.args.frame.now in
    let nodes = c.args.nodes in
    let split = c.args.split in
    let forms = searched_forms f nodes split c.args.searched c.in-Forms.forms c.in-Forms.is c.requires.searched in
    outcome_told (λ o. o.exit) (λ o. o.text) (Solves f.field nodes split c.args.orbits f.matroid) Done (ListsClasses f.field nodes f.matroid) c.list_classes.result c.list_classes.ensures.exit (c.list_classes.ensures.text nodes forms.few)
    (λ t lists. subst (λ (b : Bool). Solves f.field nodes split b f.matroid Done t) (sym c.if-orbits.false) lists)

pub returns-in-Refuted : goal.returns-in-Refuted
returns-in-Refuted c =
    let f = c.args.frame.now in
    let nodes = c.args.nodes in
    let split = c.args.split in
    let log = c.in-Refuted.log in
    let refuted = refutes f nodes log c.requires.few_nodes c.basis-basis.ensures.frame (searched_log f nodes split c.args.searched log c.in-Refuted.is c.requires.searched) in
    outcome_told (λ o. o.exit) (λ o. o.text) (Solves f.field nodes split c.args.orbits f.matroid) Negative (λ (t : List ℕ). t ≡ log_text log) c.refuted.result c.refuted.ensures.exit c.refuted.ensures.text
    (λ t is. negative_solves f.field nodes split c.args.orbits f.matroid t (subst (Refutes f.field nodes f.matroid) (sym is) refuted))

pub returns : goal.returns
returns c =
    let f = c.args.frame.now in
    let nodes = c.args.nodes in
    let split = c.args.split in
    let opened = c.in-Stopped.opened in
    let out = out_of_nodes f nodes split opened c.basis-basis.ensures.frame (searched_stop f nodes split c.args.searched opened c.in-Stopped.is c.requires.searched) in
    outcome_told (λ o. o.exit) (λ o. o.text) (Solves f.field nodes split c.args.orbits f.matroid) (Stopped opened) (λ (t : List ℕ). t ≡ stopped_text opened) c.stopped.result c.stopped.ensures.exit c.stopped.ensures.text
    (λ t is. stopped_solves f.field nodes split opened c.args.orbits f.matroid t (subst (IsOutOfNodes f.field f.matroid nodes split opened) (sym is) out))

pub list_orbits-requires : goal.list_orbits-requires
list_orbits-requires c =
    let forms = searched_forms c.args.frame.now c.args.nodes c.args.split c.args.searched c.in-Forms.forms c.in-Forms.is c.requires.searched in
    let few = forms.few in
    let most = c.requires.few_nodes in
    record { are = forms.are; some = forms.some; few = omega arith }

pub list_classes-requires : goal.list_classes-requires
list_classes-requires c =
    let forms = searched_forms c.args.frame.now c.args.nodes c.args.split c.args.searched c.in-Forms.forms c.in-Forms.is c.requires.searched in
    let few = forms.few in
    let most = c.requires.few_nodes in
    record { are = forms.are; some = forms.some; few = omega arith }
