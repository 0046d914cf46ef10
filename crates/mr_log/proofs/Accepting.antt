-- A text is accepted exactly where it is that of a log.
use Rattle.std.proofs.Common.{◌≡◌, ℕ, suc, ◌+◌, ◌≤◌, List, [], ◌∷◌, ◌++◌, length, refl, sym, ap, subst, ◌∙◌, arith, append_assoc, append-nil, Result, Ok, Err, codes}
use Rattle.std.specs.Prelude.{decimal, MatchResult, IfOk, IfErr}
use Rattle.std.proofs.lemmas.List.{length-append}
use Rattle.mr_field.specs.Order.{IsOrder}
use Rattle.mr_set.specs.declared.TheConstants.{ELEMENTS}
use Rattle.mr_set.specs.Matroid.{Presentation, IsBasis, IsMatroid, FailsExchange}
use Rattle.mr_matroid.specs.Exchange.{HasNoBasis}
use Rattle.mr_text.specs.Text.{Lacks}
use Rattle.mr_text.specs.Format.{grammar, size, IsLineOf, StandsFor, IsTextOf}
use Rattle.mr_text.specs.Tables.{keyed}
use Rattle.mr_text.proofs.Decimals.{decimal_without}
use Rattle.mr_text.proofs.Formats.{lacks-append, fixed_stands}
use Rattle.mr_text.proofs.OneOutcome.{one_value, no_fault_of, one_fault_of}
use Rattle.mr_file.specs.File.{file_text}
use Rattle.mr_file.proofs.Whole.{file_stands}
use Rattle.mr_file.proofs.AfterFile.{file_leads}
use Rattle.mr_nogood.specs.declared.row.Row.{Row}
use Rattle.mr_nogood.specs.declared.row.Cite.{Cite}
use Rattle.mr_log.specs.Lines.{step_table, end_table, step_text, cite_text, IsLogStep, IsLogCite}
use Rattle.mr_log.specs.Log.{StepsExceed, step_lines, log_format, log_text, IsLog, IsLogOf}
use Rattle.mr_log.specs.Reading.{IsLogFault, IsLogRefusal, file_end, OneLogRefusal, NoLogRefusal, OneLog}
use Rattle.mr_log.specs.Private.Stages.{from_steps, from_count, field_text}
use Rattle.mr_log.specs.Private.Words.{step_words, cite_words}
use Rattle.mr_log.specs.Private.Written.{steps_text}
use Rattle.mr_log.specs.declared.TheConstants.{STEPS}
use Rattle.mr_log.specs.declared.log.Log.{Log}
use Rattle.mr_log.specs.declared.fault.Why.{Why}
use Rattle.mr_log.specs.declared.fault.Why.TheVariants.{Grammar, Size, Basis, Exchange, Step, End}
use Rattle.mr_log.specs.declared.fault.LogFault.{LogFault}
use Rattle.mr_log.specs.declared.fault.LogFault.TheVariants.{Bad, Memory}
use Rattle.mr_log.proofs.Splitting.{lacks-join}
use Rattle.mr_log.proofs.Steps.{newline_apart, step_lacks, step_join, cite_lacks, end_join}
use Rattle.mr_log.proofs.Outcomes.{steps_fit}
use Rattle.mr_log.proofs.LogText.{order_within, AreSteps, line_text, log_pieces}
use Rattle.mr_log.proofs.Making.{text_read}
use Rattle.mr_log.proofs.SharpLog.{log_sharp}

-- the line of the number of steps
count_stands : (count : ℕ) (tail : List ℕ) → count ≤ STEPS → IsLineOf (keyed (codes "steps ") StepsExceed) ((codes "steps " ++ decimal count) ++ 10 ∷ tail) count tail
count_stands count tail le = record {
  line = codes "steps " ++ decimal count;
  begins = record { text = refl; whole = lacks-append 10 (codes "steps ") (decimal count) refl (decimal_without 10 count (omega arith) (omega arith)) };
  spelled = (omega arith, refl);
  fits = steps_fit count le;
}

-- the line of a step
step_stands : (m : Presentation) (q number : ℕ) (row : Row) (tail : List ℕ) → m.elements ≤ ELEMENTS → 2 ≤ q → q ≤ 9 → IsLogStep m q number row → IsLineOf (step_table m q number) (step_text q row ++ 10 ∷ tail) row tail
step_stands m q number row tail limit low nine is = record {
  line = step_text q row;
  begins = record { text = refl; whole = subst (Lacks 10) (step_join q row low (let size = is.count in omega arith)) (lacks-join (step_words q row) (step_lacks m 10 q number row newline_apart limit nine is)) };
  spelled = record { step = is; text = refl };
  fits = λ k h. h;
}

-- the line of the end
end_stands : (m : Presentation) (last : Cite) (tail : List ℕ) → m.elements ≤ ELEMENTS → IsLogCite m last → IsLineOf (end_table m) ((codes "end " ++ cite_text last) ++ 10 ∷ tail) last tail
end_stands m last tail limit is = record {
  line = codes "end " ++ cite_text last;
  begins = record { text = refl; whole = subst (Lacks 10) (end_join last) (lacks-join (codes "end" ∷ cite_words last) (refl, cite_lacks m 10 last newline_apart limit is)) };
  spelled = record { cite = is; text = refl };
  fits = λ k h. h;
}

-- the lines of steps and the last line stand for them
steps_stand : (q : ℕ) (m : Presentation) (old more : List Row) (last : Cite) (number : ℕ) (rest : List ℕ) → m.elements ≤ ELEMENTS → 2 ≤ q → q ≤ 9 → AreSteps m q (length old) more → IsLogCite m last
    → StandsFor (from_steps q m (length more) old) number (steps_text q more ++ ((codes "end " ++ cite_text last) ++ 10 ∷ rest)) (record { matroid = m; q = q; steps = old ++ more; last = last }) rest (number + length more + 1)
unfolding step_lines
steps_stand q m old [] last number rest limit low nine each is = (
  last,
  rest,
  end_stands m last rest limit is,
  (ap (λ (s : List Row). record { matroid = m; q = q; steps = s; last = last }) (append-nil old), refl, (let e : number + 0 + 1 ≡ number + 1 = omega arith in e)),
)
steps_stand q m old (row ∷ more) last number rest limit low nine each is =
    let here : IsLogStep m q (length old) row = (let e : length old + 0 ≡ length old = omega arith in subst (λ k. IsLogStep m q k row) e (each 0 row refl)) in
    let later : AreSteps m q (length (old ++ row ∷ [])) more = λ j r at. let size = length-append old (row ∷ []) in let e : length old + suc j ≡ length (old ++ row ∷ []) + j = omega arith in subst (λ k. IsLogStep m q k r) e (each (suc j) r at) in
    let tail = steps_stand q m (old ++ row ∷ []) more last (number + 1) rest limit low nine later is in
    let text = steps_text q more ++ ((codes "end " ++ cite_text last) ++ 10 ∷ rest) in (
      row,
      text,
      subst (λ w. IsLineOf (step_table m q (length old)) w row text) (line_text (step_text q row) (steps_text q more) ((codes "end " ++ cite_text last) ++ 10 ∷ rest)) (step_stands m q (length old) row text limit low nine here),
      subst (λ k. StandsFor (from_steps q m (length more) (old ++ row ∷ [])) (number + 1) text (record { matroid = m; q = q; steps = old ++ row ∷ more; last = last }) rest k)
          (let e : number + 1 + length more + 1 ≡ number + suc (length more) + 1 = omega arith in e)
          (subst (λ (s : List Row). StandsFor (from_steps q m (length more) (old ++ row ∷ [])) (number + 1) text (record { matroid = m; q = q; steps = s; last = last }) rest (number + 1 + length more + 1))
          (append_assoc old (row ∷ []) more) tail),
    )

-- the field's line holds no newline
field_lacks : (q : ℕ) → q ≤ 9 → Lacks 10 (field_text q)
field_lacks q nine = lacks-append 10 (codes "field ") (decimal q) refl (decimal_without 10 q (omega arith) (omega arith))

-- the text of a log stands for it
log_stands : (l : Log) → IsLog l → IsTextOf (log_format l.q) (log_text l) l
log_stands l is =
    let range = order_within l.q is.field in
    let end = codes "end " ++ cite_text l.last in
    let after = steps_text l.q l.steps ++ (end ++ 10 ∷ []) in
    let counted = (codes "steps " ++ decimal (length l.steps)) ++ 10 ∷ after in
    let file = file_stands 3 l.matroid counted is.matroid.presentation is.limits in
    let at = 3 + 1 + 1 + 1 + 1 + length l.matroid.nonbases + 1 in
    let steps = steps_stand l.q l.matroid [] l.steps l.last (at + 1) [] is.limits.elements range.0 range.1 (λ j row there. let e : j ≡ 0 + j = omega arith in subst (λ k. IsLogStep l.matroid l.q k row) e (is.steps j row there)) is.last in
    let leads = file_leads (from_count l.q) 3 (file_text l.matroid ++ counted) l.matroid counted at file in (
      at + 1 + length l.steps + 1,
      subst (λ w. StandsFor (log_format l.q) 1 w l [] (at + 1 + length l.steps + 1)) (log_pieces l [] ∙ append-nil (log_text l)) (
        tt,
        field_text l.q ++ 10 ∷ (file_text l.matroid ++ counted),
        fixed_stands (codes "refutation 1") (field_text l.q ++ 10 ∷ (file_text l.matroid ++ counted)) refl,
        (
          tt,
          file_text l.matroid ++ counted,
          fixed_stands (field_text l.q) (file_text l.matroid ++ counted) (field_lacks l.q range.1),
          leads.values l [] (at + 1 + length l.steps + 1) (length l.steps, after, count_stands (length l.steps) after is.count, steps),
        ),
      ),
    )

-- so do the bytes of a log
pub text_of_log : (q : ℕ) (bytes : List ℕ) (l : Log) → IsLogOf q bytes l → IsTextOf (log_format q) bytes l
text_of_log q bytes l is = subst (λ k. IsTextOf (log_format k) bytes l) is.field (subst (λ w. IsTextOf (log_format l.q) w l) (sym is.text) (log_stands l is.log))

-- a text that stands for a log with a matroid is that log's
pub is_log : (q : ℕ) (bytes : List ℕ) (l : Log) → IsOrder q → IsTextOf (log_format q) bytes l → IsMatroid l.matroid → IsLogOf q bytes l
is_log q bytes l order text matroid =
    let read = text_read q bytes l text in
    record {
      log = record {
        matroid = matroid;
        limits = read.limits;
        field = subst IsOrder (sym read.field) order;
        count = read.count;
        steps = λ j row at. subst (λ k. IsLogStep l.matroid k j row) (sym read.field) (let e : 0 + j ≡ j = omega arith in subst (λ k. IsLogStep l.matroid q k row) e (read.steps j row at));
        last = read.last;
      };
      field = read.field;
      text = read.text ∙ append-nil (log_text l);
    }

-- a text stands for one log
pub same_log : (q : ℕ) (bytes : List ℕ) (k l : Log) → IsTextOf (log_format q) bytes k → IsTextOf (log_format q) bytes l → k ≡ l
same_log q bytes k l (next, p) (other, t) = (one_value (log_format q) (log_sharp q) 1 bytes k l [] [] next other p t).0

-- the bytes are those of one log
pub one_log : OneLog
one_log q bytes k l p t = same_log q bytes k l (text_of_log q bytes k p) (text_of_log q bytes l t)

-- a failing exchange is one of bases
basis_or_exchange : {A : Type 0} (m k : Presentation) (b1 b2 : List ℕ) (x : ℕ) → m ≡ k → HasNoBasis m → FailsExchange k b1 b2 x → A
basis_or_exchange m k b1 b2 x same none fails = absurd (none b1 (subst (λ (p : Presentation). IsBasis p b1) (sym same) fails.first))

-- the bytes of a log have no fault
no_log_fault : (q : ℕ) (bytes : List ℕ) (l : Log) (line : ℕ) (why : Why) → IsLogOf q bytes l → IsLogFault q bytes line why → ⊥
no_log_fault q bytes l line Grammar is h = no_fault_of (log_format q) (log_sharp q) bytes l (grammar line) (text_of_log q bytes l is) h
no_log_fault q bytes l line Size is h = no_fault_of (log_format q) (log_sharp q) bytes l (size line h.0) (text_of_log q bytes l is) h.1
no_log_fault q bytes l line Basis is (k, text, none, at) =
    let same = same_log q bytes l k (text_of_log q bytes l is) text in
    let basis = is.log.matroid.basis in
    subst (λ (g : Log). HasNoBasis g.matroid) (sym same) none basis.0 basis.1
no_log_fault q bytes l line Exchange is (k, text, b1, b2, x, fails, at) =
    let same = same_log q bytes l k (text_of_log q bytes l is) text in
    is.log.matroid.exchange b1 b2 x (subst (λ (g : Log). FailsExchange g.matroid b1 b2 x) (sym same) fails)
no_log_fault q bytes l line Step is h = h
no_log_fault q bytes l line End is h = h

-- so they are not refused
pub no_log_refusal : NoLogRefusal
no_log_refusal q bytes l (Bad line why) is h = absurd (no_log_fault q bytes l line why is h)
no_log_refusal q bytes l Memory is h = refl

-- where the files of two readings of a text end
same_end : (q : ℕ) (bytes : List ℕ) (k l : Log) (i j : ℕ) → IsTextOf (log_format q) bytes k → IsTextOf (log_format q) bytes l → i ≡ file_end k → j ≡ file_end l → i ≡ j
same_end q bytes k l i j p t at to = at ∙ ap (λ (g : Log). file_end g) (same_log q bytes k l p t) ∙ sym to

-- a text has one fault
one_cause : (q : ℕ) (bytes : List ℕ) (i j : ℕ) (w v : Why) → IsLogFault q bytes i w → IsLogFault q bytes j v → Bad i w ≡ Bad j v
one_cause q bytes i j Grammar Grammar p t = let e = one_fault_of (log_format q) (log_sharp q) bytes (grammar i) (grammar j) p t in let n : i ≡ j = cc in ap (λ k. Bad k Grammar) n
one_cause q bytes i j Grammar Size p t = let e = one_fault_of (log_format q) (log_sharp q) bytes (grammar i) (size j t.0) p t.1 in absurd cc
one_cause q bytes i j Grammar Basis p (l, text, none, at) = absurd (no_fault_of (log_format q) (log_sharp q) bytes l (grammar i) text p)
one_cause q bytes i j Grammar Exchange p (l, text, b1, b2, x, fails, at) = absurd (no_fault_of (log_format q) (log_sharp q) bytes l (grammar i) text p)
one_cause q bytes i j Grammar Step p t = absurd t
one_cause q bytes i j Grammar End p t = absurd t
one_cause q bytes i j Size Grammar p t = let e = one_fault_of (log_format q) (log_sharp q) bytes (size i p.0) (grammar j) p.1 t in absurd cc
one_cause q bytes i j Size Size p t = let e = one_fault_of (log_format q) (log_sharp q) bytes (size i p.0) (size j t.0) p.1 t.1 in let n : i ≡ j = cc in ap (λ k. Bad k Size) n
one_cause q bytes i j Size Basis p (l, text, none, at) = absurd (no_fault_of (log_format q) (log_sharp q) bytes l (size i p.0) text p.1)
one_cause q bytes i j Size Exchange p (l, text, b1, b2, x, fails, at) = absurd (no_fault_of (log_format q) (log_sharp q) bytes l (size i p.0) text p.1)
one_cause q bytes i j Size Step p t = absurd t
one_cause q bytes i j Size End p t = absurd t
one_cause q bytes i j Basis Grammar (l, text, none, at) t = absurd (no_fault_of (log_format q) (log_sharp q) bytes l (grammar j) text t)
one_cause q bytes i j Basis Size (l, text, none, at) t = absurd (no_fault_of (log_format q) (log_sharp q) bytes l (size j t.0) text t.1)
one_cause q bytes i j Basis Basis (k, p, none, at) (l, t, nil, to) = ap (λ n. Bad n Basis) (same_end q bytes k l i j p t at to)
one_cause q bytes i j Basis Exchange (k, p, none, at) (l, t, b1, b2, x, fails, to) = basis_or_exchange k.matroid l.matroid b1 b2 x (ap (λ (g : Log). g.matroid) (same_log q bytes k l p t)) none fails
one_cause q bytes i j Basis Step p t = absurd t
one_cause q bytes i j Basis End p t = absurd t
one_cause q bytes i j Exchange Grammar (l, text, b1, b2, x, fails, at) t = absurd (no_fault_of (log_format q) (log_sharp q) bytes l (grammar j) text t)
one_cause q bytes i j Exchange Size (l, text, b1, b2, x, fails, at) t = absurd (no_fault_of (log_format q) (log_sharp q) bytes l (size j t.0) text t.1)
one_cause q bytes i j Exchange Basis (k, p, b1, b2, x, fails, at) (l, t, none, to) = basis_or_exchange l.matroid k.matroid b1 b2 x (ap (λ (g : Log). g.matroid) (same_log q bytes l k t p)) none fails
one_cause q bytes i j Exchange Exchange (k, p, b1, b2, x, fails, at) (l, t, c1, c2, y, other, to) = ap (λ n. Bad n Exchange) (same_end q bytes k l i j p t at to)
one_cause q bytes i j Exchange Step p t = absurd t
one_cause q bytes i j Exchange End p t = absurd t
one_cause q bytes i j Step v p t = absurd p
one_cause q bytes i j End v p t = absurd p

-- a text is refused for one cause
pub one_log_refusal : OneLogRefusal
one_log_refusal q bytes (Bad i w) (Bad j v) some other p t = one_cause q bytes i j w v p t
one_log_refusal q bytes (Bad i w) Memory some other p t = absurd (other refl)
one_log_refusal q bytes Memory f some other p t = absurd (some refl)

-- what is read is a log
pub ok : (q : ℕ) (bytes : List ℕ) (r : Result Log LogFault) → IsOrder q → IfOk r (λ l. IsTextOf (log_format q) bytes l × IsMatroid l.matroid) → IfOk r (IsLogOf q bytes)
ok q bytes (Ok l) order h = is_log q bytes l order h.0 h.1
ok q bytes (Err e) order h = tt

-- the bytes of a log are read as that
pub only : (q : ℕ) (bytes : List ℕ) (r : Result Log LogFault) → IfOk r (λ l. IsTextOf (log_format q) bytes l × IsMatroid l.matroid) → IfErr r (IsLogRefusal q bytes) → (l : Log) → IsLogOf q bytes l → MatchResult r (λ x. x ≡ l) (λ e. e ≡ Memory)
only q bytes (Ok x) h g l is = same_log q bytes x l h.0 (text_of_log q bytes l is)
only q bytes (Err e) h g l is = no_log_refusal q bytes l e is g
