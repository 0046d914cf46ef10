-- From what a search over a frame ends with to what a solve ends with.
use Rattle.std.proofs.Common.{◌≡◌, ◌≤◌, ℕ, List, [], refl, sym, subst, inl, Bool, true, false, Result, Ok, Err, arith}
use Rattle.std.specs.Prelude.{IfOk}
use Rattle.mr_field.specs.Gf.{Gf, order}
use Rattle.mr_set.specs.Matroid.{Presentation}
use Rattle.mr_set.proofs.Ordered.{member_none}
use Rattle.mr_frame.specs.Frame.{Framed, IsFrame}
use Rattle.mr_file.specs.File.{IsFileOf}
use Rattle.mr_log.specs.declared.log.Log.{Log}
use Rattle.mr_log.specs.Log.{log_text}
use Rattle.mr_exchange.specs.declared.TheConstants.{NODES}
use Rattle.mr_merge.proofs.Answering.{forms_give_the_answer, no_form_no_representation}
use Rattle.matrep.specs.Texts.{stopped_text}
use Rattle.matrep.specs.Result.{OfFile}
use Rattle.matrep.specs.Solving.{Refutes, IsOutOfNodes, Solves}
use Rattle.matrep.specs.Private.Searched.{AreForms, IsRefutedBy, IsSpentOn, IsSearchedTo}
use Rattle.matrep.specs.declared.searching.Searched.{Searched}
use Rattle.matrep.specs.declared.searching.Searched.TheVariants.{Forms, Refuted}
use Rattle.matrep.specs.declared.searching.Searched.TheVariants as ended
use Rattle.matrep.specs.declared.outcome.Exit.{Exit}
use Rattle.matrep.specs.declared.outcome.Exit.TheVariants.{Negative, Stopped}
use Rattle.matrep.proofs.LogLength.{log_length}

-- the log that refutes a frame's forms refutes its matroid
pub refutes : (f : Framed) (nodes : ℕ) (log : Log) → nodes ≤ NODES → IsFrame f → IsRefutedBy f nodes log → Refutes f.field nodes f.matroid (log_text log)
refutes f nodes log most frame refuted =
    let few = refuted.few in
    record {
      none = no_form_no_representation f frame (λ c form. member_none c ((refuted.none.exactly c).1 form));
      empty = forms_give_the_answer f [] [] frame refuted.none tt;
      log = log;
      accepted = record { log = record { log = refuted.refutation.log; field = refuted.refutation.field; text = refl }; refutation = refuted.refutation.refutation };
      matroid = refuted.refutation.matroid;
      few = few;
      within = log_length f.field log refuted.refutation.log refuted.refutation.field (omega arith);
      short = refuted.short;
    }

-- a search over a frame that was stopped
pub out_of_nodes : (f : Framed) (nodes split opened : ℕ) → IsFrame f → IsSpentOn f nodes split opened → IsOutOfNodes f.field f.matroid nodes split opened (stopped_text opened)
out_of_nodes f nodes split opened frame spent = record {
  opened_is = spent.opened_is;
  more = record { frame = f; is_frame = record { frame = frame; matroid = refl; over = refl }; more = spent.more };
  text_is = refl;
}

-- what is told of a log holds whether orbits are asked for or not
pub negative_solves : (f : Gf) (nodes split : ℕ) (orbits : Bool) (m : Presentation) (text : List ℕ) → Refutes f nodes m text → Solves f nodes split orbits m Negative text
negative_solves f nodes split true m text refuted = refuted
negative_solves f nodes split false m text refuted = refuted

-- and the other way round
pub solved_negative : (f : Gf) (nodes split : ℕ) (orbits : Bool) (m : Presentation) (text : List ℕ) → Solves f nodes split orbits m Negative text → Refutes f nodes m text
solved_negative f nodes split true m text refuted = refuted
solved_negative f nodes split false m text refuted = refuted

-- the same of a search that was stopped
pub stopped_solves : (f : Gf) (nodes split opened : ℕ) (orbits : Bool) (m : Presentation) (text : List ℕ) → IsOutOfNodes f m nodes split opened text → Solves f nodes split orbits m (Stopped opened) text
stopped_solves f nodes split opened true m text out = out
stopped_solves f nodes split opened false m text out = out

-- and the other way round
pub solved_stopped : (f : Gf) (nodes split opened : ℕ) (orbits : Bool) (m : Presentation) (text : List ℕ) → Solves f nodes split orbits m (Stopped opened) text → IsOutOfNodes f m nodes split opened text
solved_stopped f nodes split opened true m text out = out
solved_stopped f nodes split opened false m text out = out

-- what is told of a frame holds of its matroid and field
pub of_frame : {A E : Type 0} (exit : A → Exit) (text : A → List ℕ) (f : Framed) (m : Presentation) (field : Gf) (nodes split : ℕ) (orbits : Bool) (r : Result A E) → f.matroid ≡ m → f.field ≡ field
    → IfOk r (λ o. Solves f.field nodes split orbits f.matroid (exit o) (text o)) → IfOk r (λ o. Solves field nodes split orbits m (exit o) (text o))
of_frame exit text f m field nodes split orbits (Ok o) matroid over solves = subst (λ (k : Presentation). Solves field nodes split orbits k (exit o) (text o)) matroid (subst (λ (g : Gf). Solves g nodes split orbits f.matroid (exit o) (text o)) over solves)
of_frame exit text f m field nodes split orbits (Err e) matroid over solves = tt

-- an outcome of which the exit is known, and of the text what it holds
pub outcome_told : {A E : Type 0} (exit : A → Exit) (text : A → List ℕ) (P : Exit → List ℕ → Type 0) (e : Exit) (Q : List ℕ → Type 0) (r : Result A E) → IfOk r (λ o. exit o ≡ e) → IfOk r (λ o. Q (text o)) → ((t : List ℕ) → Q t → P e t) → IfOk r (λ o. P (exit o) (text o))
outcome_told exit text P e Q (Ok o) is holds gives = subst (λ (x : Exit). P x (text o)) (sym is) (gives (text o) holds)
outcome_told exit text P e Q (Err f) is holds gives = tt

-- what is told of the matroid of a file
pub solved_file : {A E : Type 0} (exit : A → Exit) (text : A → List ℕ) (f : Gf) (q nodes split : ℕ) (orbits : Bool) (bytes : List ℕ) (m : Presentation) (r : Result A E) → order f ≡ q → IsFileOf bytes m
    → IfOk r (λ o. Solves f nodes split orbits m (exit o) (text o)) → IfOk r (λ o. (g : Gf) × (order g ≡ q) × OfFile bytes (Solves g nodes split orbits) (exit o) (text o))
solved_file exit text f q nodes split orbits bytes m (Ok o) over file solves = (f, over, inl (m, file, solves))
solved_file exit text f q nodes split orbits bytes m (Err e) over file solves = tt

-- a search that ended with forms
pub searched_forms : (f : Framed) (nodes split : ℕ) (s : Searched) (forms : List (List ℕ)) → s ≡ Forms forms → IsSearchedTo f nodes split s → AreForms f nodes forms
searched_forms f nodes split s forms is to = subst (IsSearchedTo f nodes split) is to

-- one that ended with a log
pub searched_log : (f : Framed) (nodes split : ℕ) (s : Searched) (log : Log) → s ≡ Refuted log → IsSearchedTo f nodes split s → IsRefutedBy f nodes log
searched_log f nodes split s log is to = subst (IsSearchedTo f nodes split) is to

-- one that was stopped
pub searched_stop : (f : Framed) (nodes split : ℕ) (s : Searched) (opened : ℕ) → s ≡ ended.Stopped opened → IsSearchedTo f nodes split s → IsSpentOn f nodes split opened
searched_stop f nodes split s opened is to = subst (IsSearchedTo f nodes split) is to
