-- For given words and a known input one end is due.
use Rattle.std.proofs.Common.{◌≡◌, ◌⊎◌, ℕ, ◌+◌, ◌≤◌, Bool, List, ◌++◌, length, refl, sym, ap, subst, ◌∙◌, inl, inr, ⊎_elim, arith, take, Option, Some, None}
use Rattle.std.specs.Prelude.{◌<◌}
use Rattle.std.specs.Io.KnownBytes.{Keeps}
use Rattle.std.proofs.lemmas.Bool.{cases_lt}
use Rattle.std.proofs.lemmas.List.{append_cancel_left, length-append}
use Rattle.std.proofs.Math.Seq.{take-append_seam}
use Rattle.mr_field.specs.Gf.{Gf}
use Rattle.mr_matrix.specs.Block.{IsBlockOf}
use Rattle.mr_matrix.specs.Reading.{IsMatrixRefusal}
use Rattle.mr_matrix.specs.Pairs.{IsPairOf, IsPairRefusal}
use Rattle.matrep.specs.Words.{Says}
use Rattle.matrep.specs.Texts.{usage_text}
use Rattle.matrep.specs.Solving.{Solves}
use Rattle.matrep.specs.Answering.{Checks, Confirms, FindsMatroid, WritesDual, WritesMinor, CountsClasses}
use Rattle.matrep.specs.Result.{IsFileFault, IsMatrixFault, OfInput, OfFile, Answers, limit_of, Allows}
use Rattle.matrep.specs.Headline.{Takes, Reads}
use Rattle.matrep.specs.Laws.{IsStopped, IsRefuted, OneEndIsDue}
use Rattle.matrep.specs.declared.words.Command.{Command}
use Rattle.matrep.specs.declared.words.Command.TheVariants.{Solve, Check, Confirm, MatroidOf, Dual, Minor, Plane}
use Rattle.matrep.specs.declared.outcome.Exit.{Exit}
use Rattle.matrep.specs.declared.outcome.Exit.TheVariants.{Negative, Usage}
use Rattle.matrep.proofs.OneReading.{one_command, no_offence, one_offence}
use Rattle.matrep.proofs.OneInput.{AreOne, one_of_file, one_of_pair, one_of_matrix}
use Rattle.matrep.proofs.OneAnswer.{same_field, one_solved, one_checked, one_confirmed, one_found, one_dual, one_taken, one_counted}

-- the command is a solve, and no matrix represents the matroid
abbrev Refutes : Command → Exit → Type 0
Refutes command exit = (q : ℕ) × (workers : ℕ) × (nodes : ℕ) × (split : ℕ) × (orbits : Bool) × (command ≡ Solve q workers nodes split orbits) × (exit ≡ Negative)

-- equal texts don't differ
with_text : (command : Command) (exit end : Exit) (text line : List ℕ) → (exit ≡ end) × (text ≡ line) → AreOne (Refutes command) exit end text line
with_text command exit end text line same = (same.0, inr same.1)

-- but for the text of a log
with_log : (q workers nodes split : ℕ) (orbits : Bool) (exit end : Exit) (text line : List ℕ) → (exit ≡ end) × ((exit ≡ Negative) ⊎ (text ≡ line)) → AreOne (Refutes (Solve q workers nodes split orbits)) exit end text line
with_log q workers nodes split orbits exit end text line (same, inl negative) = (same, inl (q, workers, nodes, split, orbits, refl, negative))
with_log q workers nodes split orbits exit end text line (same, inr texts) = (same, inr texts)

-- one exit and one text answer a command
one_answered : (command : Command) (bytes : List ℕ) (exit end : Exit) (text line : List ℕ) → ¬ (IsStopped exit) → ¬ (IsStopped end) → Answers command bytes exit text → Answers command bytes end line → AreOne (Refutes command) exit end text line
one_answered (Solve q workers nodes split orbits) bytes exit end text line goes on (f, over, p) (g, also, r) =
    let there : OfFile bytes (Solves f nodes split orbits) end line = subst (λ (h : Gf). OfFile bytes (Solves h nodes split orbits) end line) (same_field g f (also ∙ sym over)) r in
    one_of_file bytes (Solves f nodes split orbits) (Refutes (Solve q workers nodes split orbits)) exit end text line
    (λ m here other. with_log q workers nodes split orbits exit end text line (one_solved f nodes split orbits m exit end text line goes on here other)) p there
one_answered (Check q) bytes exit end text line goes on (f, over, p) (g, also, r) =
    let there : Checks f bytes end line = subst (λ (h : Gf). Checks h bytes end line) (same_field g f (also ∙ sym over)) r in
    with_text (Check q) exit end text line (one_checked f bytes exit end text line p there)
one_answered (Confirm q) bytes exit end text line goes on (f, over, p) (g, also, r) =
    let there = subst (λ (h : Gf). OfInput (IsPairOf h bytes) (IsFileFault (IsPairRefusal h bytes)) Confirms end line) (same_field g f (also ∙ sym over)) r in
    one_of_pair f bytes Confirms (Refutes (Confirm q)) exit end text line (λ pair here other. with_text (Confirm q) exit end text line (one_confirmed pair exit end text line here other)) p there
one_answered (MatroidOf q) bytes exit end text line goes on (f, over, p) (g, also, r) =
    let there = subst (λ (h : Gf). OfInput (IsBlockOf h bytes) (IsMatrixFault (IsMatrixRefusal h bytes)) FindsMatroid end line) (same_field g f (also ∙ sym over)) r in
    one_of_matrix f bytes FindsMatroid (Refutes (MatroidOf q)) exit end text line (λ a here other. with_text (MatroidOf q) exit end text line (one_found a exit end text line here other)) p there
one_answered Dual bytes exit end text line goes on p r =
    one_of_file bytes WritesDual (Refutes Dual) exit end text line (λ m here other. with_text Dual exit end text line (one_dual m exit end text line here other)) p r
one_answered (Minor d c) bytes exit end text line goes on p r =
    one_of_file bytes (WritesMinor d c) (Refutes (Minor d c)) exit end text line (λ m here other. with_text (Minor d c) exit end text line (one_taken d c m exit end text line here other)) p r
one_answered (Plane q) bytes exit end text line goes on (f, over, p) (g, also, r) =
    let there : CountsClasses f end line = subst (λ (h : Gf). CountsClasses h end line) (same_field g f (also ∙ sym over)) r in
    with_text (Plane q) exit end text line (one_counted f exit end text line goes on p there)

-- one exit and one text are allowed for a command and the bytes
one_allowed : (command : Command) (bytes : List ℕ) (exit end : Exit) (text line : List ℕ) → ¬ (IsStopped exit) → ¬ (IsStopped end) → Allows command bytes exit text → Allows command bytes end line → AreOne (Refutes command) exit end text line
one_allowed command bytes exit end text line goes on (inl (long, exit_is, text_is)) (inl (also, end_is, line_is)) = (exit_is ∙ sym end_is, inr (text_is ∙ sym line_is))
one_allowed command bytes exit end text line goes on (inl (long, exit_is, text_is)) (inr (short, answers)) = absurd (omega (arith, long, short))
one_allowed command bytes exit end text line goes on (inr (short, answers)) (inl (long, exit_is, text_is)) = absurd (omega (arith, long, short))
one_allowed command bytes exit end text line goes on (inr (short, answers)) (inr (also, other)) = one_answered command bytes exit end text line goes on answers other

-- fronts of one length are equal
same_front : (old b c r s : List ℕ) → old ≡ b ++ r → old ≡ c ++ s → length b ≡ length c → (b ≡ c) × (r ≡ s)
same_front old b c r s p q same_size =
    let fronts : b ≡ c = sym (take-append_seam b r) ∙ ap (λ (w : List ℕ). take (length b) w) (sym p ∙ q) ∙ ap (λ (n : ℕ). take n (c ++ s)) same_size ∙ take-append_seam c s in
    (fronts, append_cancel_left b r s (sym p ∙ q ∙ ap (λ (w : List ℕ). w ++ s) (sym fronts)))

-- one front is taken from known bytes
one_front : (limit : ℕ) (old : List ℕ) (new rest : Option (List ℕ)) (b c : List ℕ) → Takes limit (Some old) new b → Takes limit (Some old) rest c → (b ≡ c) × (new ≡ rest)
one_front limit old None rest b c p q = absurd p.taken
one_front limit old (Some r) None b c p q = absurd q.taken
one_front limit old (Some r) (Some s) b c p q =
    let both = same_front old b c r s p.taken q.taken same_size in (both.0, ap Some both.1)
  where
    whole : length old ≡ length b + length r
    whole = ap length p.taken ∙ length-append b r

    whole_too : length old ≡ length c + length s
    whole_too = ap length q.taken ∙ length-append c s

    same_size : length b ≡ length c
    same_size = ⊎_elim
        (λ (long : limit < length b). ⊎_elim
        (λ (long_too : limit < length c). let most = p.most in let most_too = q.most in omega arith)
        (λ (short_too : length c ≤ limit). let none : length s ≡ 0 = ap length (q.ended short_too) in omega (arith, whole, whole_too))
        (cases_lt limit (length c)))
        (λ (short : length b ≤ limit). let none : length r ≡ 0 = ap length (p.ended short) in ⊎_elim
        (λ (long_too : limit < length c). omega (arith, whole, whole_too))
        (λ (short_too : length c ≤ limit). let none_too : length s ≡ 0 = ap length (q.ended short_too) in omega (arith, whole, whole_too))
        (cases_lt limit (length c)))
        (cases_lt limit (length b))

-- known bytes that stay
kept : (old : List ℕ) (new rest : Option (List ℕ)) → Keeps (Some old) new → Keeps (Some old) rest → new ≡ rest
kept old None rest p q = absurd p
kept old (Some r) None p q = absurd q
kept old (Some r) (Some s) p q = ap Some (p ∙ sym q)

-- a command reads one text from known bytes
one_text_read : (command : Command) (old : List ℕ) (new rest : Option (List ℕ)) (b c : List ℕ) → Reads command (Some old) new b → Reads command (Some old) rest c → (b ≡ c) × (new ≡ rest)
one_text_read (Solve q workers nodes split orbits) old new rest b c p r = one_front (limit_of (Solve q workers nodes split orbits)) old new rest b c p r
one_text_read (Check q) old new rest b c p r = one_front (limit_of (Check q)) old new rest b c p r
one_text_read (Confirm q) old new rest b c p r = one_front (limit_of (Confirm q)) old new rest b c p r
one_text_read (MatroidOf q) old new rest b c p r = one_front (limit_of (MatroidOf q)) old new rest b c p r
one_text_read Dual old new rest b c p r = one_front (limit_of Dual) old new rest b c p r
one_text_read (Minor d e) old new rest b c p r = one_front (limit_of (Minor d e)) old new rest b c p r
one_text_read (Plane q) old new rest b c (none, keeps) (also, other) = (none ∙ sym also, kept old new rest keeps other)

-- a text may differ where the words are those of a solve
told : (words : List (List ℕ)) (command : Command) (exit : Exit) (text line : List ℕ) → Says words command → Refutes command exit ⊎ (text ≡ line) → IsRefuted words exit ⊎ (text ≡ line)
told words command exit text line says (inl (q, workers, nodes, split, orbits, is, negative)) = inl (q, workers, nodes, split, orbits, subst (λ (c : Command). Says words c) is says, negative)
told words command exit text line says (inr same) = inr same

-- one end is due
pub one_end : OneEndIsDue
one_end words old new rest exit end text line (inl p) (inl q) goes on =
    let command : q.command ≡ p.command = one_command words q.command p.command q.says p.says in
    let reads : Reads p.command (Some old) rest q.bytes = subst (λ (c : Command). Reads c (Some old) rest q.bytes) command q.reads in
    let same = one_text_read p.command old new rest p.bytes q.bytes p.reads reads in
    let allows : Allows p.command p.bytes end line = subst (λ (w : List ℕ). Allows p.command w end line) (sym same.0) (subst (λ (c : Command). Allows c q.bytes end line) command q.allows) in
    let ends = one_allowed p.command p.bytes exit end text line goes on p.allows allows in
    (ends.0, same.1, told words p.command exit text line p.says ends.1)
one_end words old new rest exit end text line (inl p) (inr q) goes on = absurd (no_offence words p.command q.word p.says q.offends)
one_end words old new rest exit end text line (inr p) (inl q) goes on = absurd (no_offence words q.command p.word q.says p.offends)
one_end words old new rest exit end text line (inr p) (inr q) goes on =
    let word = one_offence words p.word q.word p.offends q.offends in
    (p.exit_is ∙ ap Usage word ∙ sym q.exit_is, kept old new rest p.keeps q.keeps, inr (p.text_is ∙ ap usage_text word ∙ sym q.text_is))
