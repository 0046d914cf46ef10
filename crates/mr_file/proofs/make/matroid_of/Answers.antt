-- The answer is that of the matroid's maker.
use Rattle.std.proofs.Common.{sym, subst, List, ℕ, Err}
use Rattle.mr_file.specs.Reading.{listing, IsRefused}
use Rattle.mr_file.specs.declared.fault.FileFault.{FileFault}
use Rattle.mr_matroid.specs.Answers.{IsMatroidVerdict}
use Rattle.mr_file.proofs.Making.{refused}
use Rattle.mr_file.proofs.make.matroid_of.Goals as goal

pub returns-in-Err : goal.returns-in-Err
returns-in-Err c = subst (λ (e : FileFault). IsRefused (listing c.args.listed.now) e) (sym c.fault_of.ensures) (refused (listing c.args.listed.now) c.in-Err.fault
    (subst (λ (s : List (List ℕ)). IsMatroidVerdict (record { elements = c.args.listed.now.elements; rank = c.args.listed.now.rank; nonbases = s }) (Err c.in-Err.fault)) c.as_slice.ensures.value c.in-Err.ensures))
