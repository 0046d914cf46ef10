-- From one line of a log to a later one, and what refusals say of them.
use Rattle.std.proofs.Common.{◌≡◌, ℕ, zero, suc, ◌+◌, ◌<◌, ◌≤◌, List, [], ◌∷◌, ◌++◌, length, refl, sym, subst, ◌∙◌, inr, arith, codes}
use Rattle.std.specs.Prelude.{decimal}
use Rattle.std.proofs.lemmas.List.{append_cancel_left}
use Rattle.mr_set.specs.Matroid.{Presentation}
use Rattle.mr_text.specs.declared.TheConstants.{NUMBERS}
use Rattle.mr_text.specs.Format.{FirstFault, grammar, size, Format, done, IsLineOf, IsLineFault, IsFirstFault, StandsFor}
use Rattle.mr_text.specs.Tables.{never, fixed, keyed}
use Rattle.mr_text.proofs.Leads.{Leads, leads_on, leads_fault}
use Rattle.mr_file.specs.Reading.{Names}
use Rattle.mr_file.specs.declared.fault.Measure.{Measure}
use Rattle.mr_file.specs.declared.fault.Measure.TheVariants.{Elements, Rank, Sets, Nonbases}
use Rattle.mr_file.specs.declared.fault.FileFault.{FileFault}
use Rattle.mr_file.specs.declared.fault.FileFault.TheVariants as file_fault
use Rattle.mr_nogood.specs.declared.row.Row.{Row}
use Rattle.mr_nogood.specs.declared.row.Cite.{Cite}
use Rattle.mr_text.proofs.Decimals.{decimal_one}
use Rattle.mr_log.specs.Lines.{step_table, end_table}
use Rattle.mr_log.specs.Log.{StepsExceed, step_lines}
use Rattle.mr_log.specs.Private.Stages.{from_end, from_steps, field_text, NamesBad, NamesLine, log_fault}
use Rattle.mr_log.specs.declared.TheConstants.{STEPS}
use Rattle.mr_log.specs.declared.log.Log.{Log}
use Rattle.mr_log.specs.declared.fault.Why.TheVariants.{Grammar, Size, Basis, Exchange, Step, End}
use Rattle.mr_log.specs.declared.fault.LogFault.{LogFault}
use Rattle.mr_log.specs.declared.fault.LogFault.TheVariants.{Bad, Memory}

-- a refusal by one fact is a refusal by another that follows from it
pub bad_map : (P Q : FirstFault Measure → Type 0) (e : LogFault) → ((f : FirstFault Measure) → P f → Q f) → NamesBad P e → NamesBad Q e
bad_map P Q (Bad line Grammar) more h = more (grammar line) h
bad_map P Q (Bad line Size) more h = (h.0, more (size line h.0) h.1)
bad_map P Q (Bad line Basis) more h = h
bad_map P Q (Bad line Exchange) more h = h
bad_map P Q (Bad line Step) more h = h
bad_map P Q (Bad line End) more h = h
bad_map P Q Memory more h = h

-- a refusal of a line is one of the log
pub line_named : (P : FirstFault Measure → Type 0) (e : LogFault) → NamesLine P e → NamesBad P e
line_named P (Bad line why) h = h
line_named P Memory h = absurd h

-- so is a refusal of the file, as one of the log
pub named : (P Q : FirstFault Measure → Type 0) (f : FileFault) (line : ℕ) (e : LogFault) → e ≡ log_fault f line → ((g : FirstFault Measure) → P g → Q g) → Names P f → NamesBad Q e
named P Q f line e is more h = subst (NamesBad Q) (sym is) (by_fault f h)
  where
    by_fault : (g : FileFault) → Names P g → NamesBad Q (log_fault g line)
    by_fault (file_fault.Grammar at) p = more (grammar at) p
    by_fault (file_fault.Size at what) p = (what, more (size at what) p)
    by_fault file_fault.NoBasis p = absurd p
    by_fault (file_fault.Exchange b1 b2 x) p = absurd p
    by_fault file_fault.Memory p = tt

-- a line that names another field
pub other_field : (number q v : ℕ) (bytes rest : List ℕ) → q < NUMBERS → IsLineOf (keyed {M = Measure} (codes "field ") never) bytes v rest → (v ≡ q → ⊥) → IsLineFault (fixed {M = Measure} (field_text q)) number bytes (grammar number)
other_field number q v bytes rest small line other = (
  refl,
  inr (record {
    line = line.line;
    rest = rest;
    begins = line.begins;
    stray = λ u is. other (decimal_one v q line.spelled.0 small (append_cancel_left (codes "field ") (decimal v) (decimal q) (sym line.spelled.1 ∙ is)));
  }),
)

-- a number of steps within the limit
pub steps_fit : (count : ℕ) → count ≤ STEPS → (m : Measure) → ¬ (StepsExceed count m)
steps_fit count le Elements h = h
steps_fit count le Rank h = h
steps_fit count le Sets h = omega arith
steps_fit count le Nonbases h = h

-- the steps, one after another
abbrev pub Start : ℕ → Presentation → ℕ → Format Measure Log
Start q m count = from_steps q m count []

-- one step more was read
pub steps_on : (q : ℕ) (m : Presentation) (count k j : ℕ) (number : ℕ) (bytes : List ℕ) (steps : List Row) (step : ℕ) (at : ℕ) (rest : List ℕ) (row : Row) (after : List ℕ)
    → k ≡ suc j → length steps ≡ step → Leads (Start q m count) number bytes (from_steps q m k steps) at rest → IsLineOf (step_table m q step) rest row after → Leads (Start q m count) number bytes (from_steps q m j (steps ++ row ∷ [])) (at + 1) after
unfolding step_lines
steps_on q m count zero j number bytes steps step at rest row after is long leads line = absurd (omega arith)
steps_on q m count (suc k) j number bytes steps step at rest row after is long leads line =
    let same : k ≡ j = omega arith in
    subst (λ i. Leads (Start q m count) number bytes (from_steps q m i (steps ++ row ∷ [])) (at + 1) after) same
    (leads_on (Start q m count) number bytes (step_table m q (length steps)) (λ r. from_steps q m k (steps ++ r ∷ [])) at rest row after leads
    (subst (λ i. IsLineOf (step_table m q i) rest row after) (sym long) line))

-- the fault of a line of a step
pub steps_fault : (q : ℕ) (m : Presentation) (count k j : ℕ) (number : ℕ) (bytes : List ℕ) (steps : List Row) (step : ℕ) (at : ℕ) (rest : List ℕ) (e : LogFault)
    → k ≡ suc j → length steps ≡ step → Leads (Start q m count) number bytes (from_steps q m k steps) at rest → NamesBad (IsLineFault (step_table m q step) at rest) e → NamesBad (IsFirstFault (Start q m count) number bytes) e
unfolding step_lines
steps_fault q m count zero j number bytes steps step at rest e is long leads h = absurd (omega arith)
steps_fault q m count (suc k) j number bytes steps step at rest e is long leads h =
    bad_map (IsLineFault (step_table m q step) at rest) (IsFirstFault (Start q m count) number bytes) e
    (λ f p. leads_fault (Start q m count) number bytes (step_table m q (length steps)) (λ r. from_steps q m k (steps ++ r ∷ [])) at rest f leads
    (subst (λ i. IsLineFault (step_table m q i) at rest f) (sym long) p)) h

-- after the last step
pub steps_end : (q : ℕ) (m : Presentation) (count k : ℕ) (number : ℕ) (bytes : List ℕ) (steps : List Row) (at : ℕ) (rest : List ℕ)
    → k ≡ 0 → Leads (Start q m count) number bytes (from_steps q m k steps) at rest → Leads (Start q m count) number bytes (from_end q m steps) at rest
unfolding step_lines
steps_end q m count zero number bytes steps at rest is leads = leads
steps_end q m count (suc k) number bytes steps at rest is leads = absurd (omega arith)

-- the fault of the last line
pub end_fault : (q : ℕ) (m : Presentation) (count : ℕ) (number : ℕ) (bytes : List ℕ) (steps : List Row) (at : ℕ) (rest : List ℕ) (e : LogFault)
    → Leads (Start q m count) number bytes (from_end q m steps) at rest → NamesBad (IsLineFault (end_table m) at rest) e → NamesBad (IsFirstFault (Start q m count) number bytes) e
end_fault q m count number bytes steps at rest e leads =
    bad_map (IsLineFault (end_table m) at rest) (IsFirstFault (Start q m count) number bytes) e
    (λ f. leads_fault (Start q m count) number bytes (end_table m) (λ last. done (record { matroid = m; q = q; steps = steps; last = last })) at rest f leads)

-- the last line ends the log
pub end_value : (q : ℕ) (m : Presentation) (count : ℕ) (number : ℕ) (bytes : List ℕ) (steps : List Row) (at : ℕ) (rest : List ℕ) (last : Cite) (after : List ℕ)
    → Leads (Start q m count) number bytes (from_end q m steps) at rest → IsLineOf (end_table m) rest last after → StandsFor (Start q m count) number bytes (record { matroid = m; q = q; steps = steps; last = last }) after (at + 1)
end_value q m count number bytes steps at rest last after leads line = leads.values (record { matroid = m; q = q; steps = steps; last = last }) after (at + 1) (last, after, line, (refl, refl, refl))
