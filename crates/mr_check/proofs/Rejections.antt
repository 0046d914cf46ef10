-- A text is accepted, or rejected for one cause.
use Rattle.std.proofs.Common.{◌≡◌, ◌≢◌, ℕ, ◌<◌, ◌≤◌, ◌⊎◌, List, length, refl, sym, ap, subst, ◌∙◌, inl, inr, ⊎_elim, arith}
use Rattle.std.proofs.lemmas.Bool.{cases_lt}
use Rattle.mr_field.specs.Gf.{Gf, order}
use Rattle.mr_frame.specs.Frame.{Framed, IsFrameOf}
use Rattle.mr_frame.proofs.OneFrame.{one_frame}
use Rattle.mr_log.specs.declared.log.Log.{Log}
use Rattle.mr_log.specs.declared.fault.Why.{Why}
use Rattle.mr_log.specs.declared.fault.Why.TheVariants.{Grammar, Size, Basis, Exchange, Step, End}
use Rattle.mr_log.specs.declared.fault.LogFault.TheVariants.{Bad, Memory}
use Rattle.mr_log.specs.Log.{IsLogOf}
use Rattle.mr_log.specs.Reading.{IsLogFault}
use Rattle.mr_log.proofs.Accepting.{one_log, no_log_refusal, one_log_refusal}
use Rattle.mr_check.specs.Accepted.{StepFollows, IsEnd, step_line, IsFirstStray, IsBadEnd, IsRejection}
use Rattle.mr_check.specs.Laws.{AcceptedLogsAreNotRejected, OneRejection}

-- a refusal of a log names one line and one cause
same_line : (line other : ℕ) (why cause : Why) → Bad line why ≡ Bad other cause → (line ≡ other) × (why ≡ cause)
same_line line other why cause same = (cc, cc)

-- a fault of a line is no want of memory
not_memory : (line : ℕ) (why : Why) → Bad line why ≢ Memory
not_memory line why same = cc

-- a rejection is that of a text that is no log, or of a step, or of the end
abbrev Kinds : Gf → List ℕ → ℕ → Why → Type 0
Kinds field bytes line why =
    IsLogFault (order field) bytes line why
    ⊎ (((why ≡ Step) × ((l : Log) × IsLogOf (order field) bytes l × IsFirstStray field l line))
    ⊎ ((why ≡ End) × ((l : Log) × IsLogOf (order field) bytes l × IsBadEnd field l line)))

kinds : (field : Gf) (bytes : List ℕ) (line : ℕ) (why : Why) → IsRejection field bytes line why → Kinds field bytes line why
kinds field bytes line Grammar p = inl p
kinds field bytes line Size p = inl p
kinds field bytes line Basis p = inl p
kinds field bytes line Exchange p = inl p
kinds field bytes line Step p = inr (inl (refl, p))
kinds field bytes line End p = inr (inr (refl, p))

-- the frames of a matroid over a field are one
frames : (field : Gf) (k l : Log) (f g : Framed) → k ≡ l → IsFrameOf k.matroid field f → IsFrameOf l.matroid field g → f ≡ g
frames field k l f g same p q = one_frame f g p.frame q.frame (p.matroid ∙ ap (λ (x : Log). x.matroid) same ∙ sym q.matroid) (p.over ∙ sym q.over)

-- what follows in one log's frame follows in the other's
moved : (f g : Framed) (k l : Log) (j : ℕ) → f ≡ g → k ≡ l → StepFollows f k.steps j → StepFollows g l.steps j
moved f g k l j same logs follows = subst (λ (x : Framed). StepFollows x l.steps j) same (subst (λ (x : Log). StepFollows f x.steps j) logs follows)

-- so is an end
moved_end : (f g : Framed) (k l : Log) → f ≡ g → k ≡ l → IsEnd f k.steps k.last → IsEnd g l.steps l.last
moved_end f g k l same logs end = subst (λ (x : Framed). IsEnd x l.steps l.last) same (subst (λ (x : Log). IsEnd f x.steps x.last) logs end)

-- a text with a fault is no log
fault_or_log : (field : Gf) (bytes : List ℕ) (line : ℕ) (why : Why) (l : Log) → IsLogFault (order field) bytes line why → IsLogOf (order field) bytes l → ⊥
fault_or_log field bytes line why l fault log = not_memory line why (no_log_refusal (order field) bytes l (Bad line why) log fault)

-- an accepted log is not rejected
pub accepted_is_not_rejected : AcceptedLogsAreNotRejected
accepted_is_not_rejected field bytes l line why accepted rejected = by (kinds field bytes line why rejected)
  where
    by : Kinds field bytes line why → ⊥
    by (inl fault) = fault_or_log field bytes line why l fault accepted.log
    by (inr (inl (is, (k, log, stray)))) =
        let logs = one_log (order field) bytes l k accepted.log log in
        stray.stray (moved accepted.refutation.frame stray.frame l k stray.number (frames field l k accepted.refutation.frame stray.frame logs accepted.refutation.is_frame stray.is_frame) logs (accepted.refutation.steps stray.number))
    by (inr (inr (is, (k, log, bad)))) =
        let logs = one_log (order field) bytes l k accepted.log log in
        bad.bad (moved_end accepted.refutation.frame bad.frame l k (frames field l k accepted.refutation.frame bad.frame logs accepted.refutation.is_frame bad.is_frame) logs accepted.refutation.end)

-- a step that doesn't follow, and one of the log with which each step follows
stray_or_end : (field : Gf) (bytes : List ℕ) (k l : Log) (line other : ℕ) → IsLogOf (order field) bytes k → IsLogOf (order field) bytes l → IsFirstStray field k line → IsBadEnd field l other → ⊥
stray_or_end field bytes k l line other log log_too stray bad =
    let logs = one_log (order field) bytes l k log_too log in
    stray.stray (moved bad.frame stray.frame l k stray.number (frames field l k bad.frame stray.frame logs bad.is_frame stray.is_frame) logs (bad.steps stray.number))

-- of two first steps that don't follow none is before the other
none_before : (field : Gf) (bytes : List ℕ) (k l : Log) (line other : ℕ) → IsLogOf (order field) bytes k → IsLogOf (order field) bytes l → (p : IsFirstStray field k line) → (q : IsFirstStray field l other) → p.number < q.number → ⊥
none_before field bytes k l line other log log_too p q lt =
    let logs = one_log (order field) bytes l k log_too log in
    p.stray (moved q.frame p.frame l k p.number (frames field l k q.frame p.frame logs q.is_frame p.is_frame) logs (q.before p.number lt))

-- so they are one
one_stray : (field : Gf) (bytes : List ℕ) (k l : Log) (line other : ℕ) → IsLogOf (order field) bytes k → IsLogOf (order field) bytes l → IsFirstStray field k line → IsFirstStray field l other → line ≡ other
one_stray field bytes k l line other log log_too p q =
    let not_less = none_before field bytes k l line other log log_too p q in
    let not_more = none_before field bytes l k other line log_too log q p in
    let number : p.number ≡ q.number = ⊎_elim (λ (lt : p.number < q.number). absurd (not_less lt)) (λ (ge : q.number ≤ p.number).
    ⊎_elim (λ (gt : q.number < p.number). absurd (not_more gt)) (λ (le : p.number ≤ q.number). omega (arith, ge, le)) (cases_lt q.number p.number)) (cases_lt p.number q.number) in
    p.line_is ∙ ap (step_line k) number ∙ ap (λ (x : Log). step_line x q.number) (one_log (order field) bytes k l log log_too) ∙ sym q.line_is

-- a text is rejected in one line and for one cause
pub rejected_once : OneRejection
rejected_once field bytes line other why cause p q = by (kinds field bytes line why p) (kinds field bytes other cause q)
  where
    by : Kinds field bytes line why → Kinds field bytes other cause → (line ≡ other) × (why ≡ cause)
    by (inl fault) (inl fault_too) = same_line line other why cause (one_log_refusal (order field) bytes (Bad line why) (Bad other cause) (not_memory line why) (not_memory other cause) fault fault_too)
    by (inl fault) (inr (inl (is, (l, log, stray)))) = absurd (fault_or_log field bytes line why l fault log)
    by (inl fault) (inr (inr (is, (l, log, bad)))) = absurd (fault_or_log field bytes line why l fault log)
    by (inr (inl (is, (k, log, stray)))) (inl fault) = absurd (fault_or_log field bytes other cause k fault log)
    by (inr (inl (is, (k, log, stray)))) (inr (inl (is_too, (l, log_too, stray_too)))) = (one_stray field bytes k l line other log log_too stray stray_too, is ∙ sym is_too)
    by (inr (inl (is, (k, log, stray)))) (inr (inr (is_too, (l, log_too, bad)))) = absurd (stray_or_end field bytes k l line other log log_too stray bad)
    by (inr (inr (is, (k, log, bad)))) (inl fault) = absurd (fault_or_log field bytes other cause k fault log)
    by (inr (inr (is, (k, log, bad)))) (inr (inl (is_too, (l, log_too, stray)))) = absurd (stray_or_end field bytes l k other line log_too log stray bad)
    by (inr (inr (is, (k, log, bad)))) (inr (inr (is_too, (l, log_too, bad_too)))) =
        let logs = one_log (order field) bytes k l log log_too in
        (bad.line_is ∙ ap (λ (x : Log). step_line x (length x.steps)) logs ∙ sym bad_too.line_is, is ∙ sym is_too)
