-- What is due after a matroid file within a longer text.
use Rattle.std.proofs.Common.{ℕ, zero, suc, ◌+◌, ◌≤◌, List, [], ◌∷◌, ◌++◌, length, refl, sym, ap, subst, inl, inr, arith, Option, Some, None, codes}
use Rattle.mr_set.specs.Matroid.{Presentation}
use Rattle.mr_set.specs.declared.TheConstants.{ELEMENTS}
use Rattle.mr_text.specs.Format.{FirstFault, Table, Format, done, line_of, IsLineOf, IsFirstFault, StandsFor}
use Rattle.mr_text.specs.Tables.{fixed}
use Rattle.mr_text.specs.Private.Sharp.{IsSharp}
use Rattle.mr_text.proofs.Formats.{shorter}
use Rattle.mr_text.proofs.Leads.{Leads}
use Rattle.mr_file.specs.File.{set_table, set_lines, file}
use Rattle.mr_file.specs.Reading.{whole_file}
use Rattle.mr_file.specs.Private.Reading.{end_line}
use Rattle.mr_file.specs.declared.fault.Measure.{Measure}
use Rattle.mr_file.specs.declared.fault.Measure.TheVariants.{Elements}
use Rattle.mr_file.proofs.Whole.{at_most}
use Rattle.mr_file.proofs.SharpFile.{file_sharp}

-- from before a line to a later point
pub leads_over : {M X A : Type 0} (table : Table M A) (due : A → Format M X) (number : ℕ) (bytes : List ℕ) (a : A) (after : List ℕ) (to : Format M X) (at : ℕ) (rest : List ℕ)
    → IsLineOf table bytes a after → Leads (due a) (number + 1) after to at rest → Leads (line_of table due) number bytes to at rest
leads_over table due number bytes a after to at rest line leads = record {
  faults = λ fault h. inr (a, after, line, leads.faults fault h);
  values = λ x end next h. (a, after, line, leads.values x end next h);
}

-- what is due after the last set
abbrev pub after_sets : {X : Type 0} → ℕ → ℕ → (Presentation → Format Measure X) → List (List ℕ) → Format Measure X
after_sets n r due sets = line_of (fixed (codes "end")) (λ _. due (record { elements = n; rank = r; nonbases = sets }))

-- the sets lead to what is due after the file
sets_lead : {X : Type 0} (n r k : ℕ) (sets : List (List ℕ)) (last : Option (List ℕ)) (due : Presentation → Format Measure X) (number : ℕ) (bytes : List ℕ) (m : Presentation) (rest : List ℕ) (next : ℕ)
    → StandsFor (set_lines n r k sets last (end_line n r)) number bytes m rest next → Leads (set_lines n r k sets last (after_sets n r due)) number bytes (due m) next rest
unfolding set_lines
sets_lead {X} n r zero sets last due number bytes m rest next (u, after, line, (is, same, at)) =
    subst (λ (p : Presentation). Leads (after_sets n r due sets) number bytes (due p) next rest) (sym is)
    (subst (λ (w : List ℕ). Leads (after_sets n r due sets) number bytes (due (record { elements = n; rank = r; nonbases = sets })) next w) (sym same)
    (subst (λ k. Leads (after_sets n r due sets) number bytes (due (record { elements = n; rank = r; nonbases = sets })) k after) (sym at)
    (leads_over (fixed (codes "end")) (λ _. due (record { elements = n; rank = r; nonbases = sets })) number bytes tt after (due (record { elements = n; rank = r; nonbases = sets })) (number + 1) after line
    (record { faults = λ fault h. h; values = λ x end k h. h }))))
sets_lead n r (suc k) sets last due number bytes m rest next (x, after, line, more) =
    leads_over (set_table n r last) (λ y. set_lines n r k (sets ++ y ∷ []) (Some y) (after_sets n r due)) number bytes x after (due m) next rest line
    (sets_lead n r k (sets ++ x ∷ []) (Some x) due (number + 1) after m rest next more)

-- the file leads to what is due after it
pub file_leads : {X : Type 0} (due : Presentation → Format Measure X) (number : ℕ) (bytes : List ℕ) (m : Presentation) (rest : List ℕ) (next : ℕ) → StandsFor whole_file number bytes m rest next → Leads (file due) number bytes (due m) next rest
file_leads due number bytes m rest next (u, r1, l1, (n, r2, l2, (r, r3, l3, (k, r4, l4, lines)))) =
    let s = sets_lead n r k [] None due (number + 1 + 1 + 1 + 1) r4 m rest next lines in
    record {
      faults = λ fault h. inr (u, r1, l1, inr (n, r2, l2, inr (r, r3, l3, inr (k, r4, l4, s.faults fault h))));
      values = λ x end after h. (u, r1, l1, (n, r2, l2, (r, r3, l3, (k, r4, l4, s.values x end after h))));
    }

-- a fault among the sets is one whatever is due after the file
sets_fault : {X : Type 0} (n r k : ℕ) (sets : List (List ℕ)) (last : Option (List ℕ)) (due : Presentation → Format Measure X) (number : ℕ) (bytes : List ℕ) (fault : FirstFault Measure)
    → IsFirstFault (set_lines n r k sets last (end_line n r)) number bytes fault → IsFirstFault (set_lines n r k sets last (after_sets n r due)) number bytes fault
unfolding set_lines
sets_fault n r zero sets last due number bytes fault (inl h) = inl h
sets_fault n r zero sets last due number bytes fault (inr (u, after, line, h)) = absurd h
sets_fault n r (suc k) sets last due number bytes fault (inl h) = inl h
sets_fault n r (suc k) sets last due number bytes fault (inr (x, after, line, h)) = inr (x, after, line, sets_fault n r k (sets ++ x ∷ []) (Some x) due (number + 1) after fault h)

-- so is a fault of the file
pub file_faults : {X : Type 0} (due : Presentation → Format Measure X) (number : ℕ) (bytes : List ℕ) (fault : FirstFault Measure) → IsFirstFault whole_file number bytes fault → IsFirstFault (file due) number bytes fault
file_faults due number bytes fault (inl h) = inl h
file_faults due number bytes fault (inr (u, r1, l1, inl h)) = inr (u, r1, l1, inl h)
file_faults due number bytes fault (inr (u, r1, l1, inr (n, r2, l2, inl h))) = inr (u, r1, l1, inr (n, r2, l2, inl h))
file_faults due number bytes fault (inr (u, r1, l1, inr (n, r2, l2, inr (r, r3, l3, inl h)))) = inr (u, r1, l1, inr (n, r2, l2, inr (r, r3, l3, inl h)))
file_faults due number bytes fault (inr (u, r1, l1, inr (n, r2, l2, inr (r, r3, l3, inr (k, r4, l4, h))))) =
    inr (u, r1, l1, inr (n, r2, l2, inr (r, r3, l3, inr (k, r4, l4, sets_fault n r k [] None due (number + 1 + 1 + 1 + 1) r4 fault h))))

-- the file, and what is due after it
pub record FileThen {X : Type 0} (due : Presentation → Format Measure X) (number : ℕ) (bytes : List ℕ) (x : X) (rest : List ℕ) (next : ℕ) : Type 0 where
  pub m : Presentation
  pub after : List ℕ
  pub at : ℕ
  pub file : StandsFor whole_file number bytes m after at
  pub then : StandsFor (due m) at after x rest next

-- the sets, and what is due after the file
record SetsThen {X : Type 0} (n r k : ℕ) (sets : List (List ℕ)) (last : Option (List ℕ)) (due : Presentation → Format Measure X) (number : ℕ) (bytes : List ℕ) (x : X) (rest : List ℕ) (next : ℕ) : Type 0 where
  m : Presentation
  after : List ℕ
  at : ℕ
  sets_stand : StandsFor (set_lines n r k sets last (end_line n r)) number bytes m after at
  then : StandsFor (due m) at after x rest next

-- lines of sets are cut after the last one of the file
sets_then : {X : Type 0} (n r k : ℕ) (sets : List (List ℕ)) (last : Option (List ℕ)) (due : Presentation → Format Measure X) (number : ℕ) (bytes : List ℕ) (x : X) (rest : List ℕ) (next : ℕ)
    → StandsFor (set_lines n r k sets last (after_sets n r due)) number bytes x rest next → SetsThen n r k sets last due number bytes x rest next
unfolding set_lines
sets_then n r zero sets last due number bytes x rest next (u, after, line, more) = record {
  m = record { elements = n; rank = r; nonbases = sets };
  after = after;
  at = number + 1;
  sets_stand = (u, after, line, (refl, refl, refl));
  then = more;
}
sets_then n r (suc k) sets last due number bytes x rest next (y, after, line, more) =
    let tail = sets_then n r k (sets ++ y ∷ []) (Some y) due (number + 1) after x rest next more in
    record { m = tail.m; after = tail.after; at = tail.at; sets_stand = (y, after, line, tail.sets_stand); then = tail.then }

-- a text is cut after the file
pub file_then : {X : Type 0} (due : Presentation → Format Measure X) (number : ℕ) (bytes : List ℕ) (x : X) (rest : List ℕ) (next : ℕ) → StandsFor (file due) number bytes x rest next → FileThen due number bytes x rest next
file_then due number bytes x rest next (u, r1, l1, (n, r2, l2, (r, r3, l3, (k, r4, l4, lines)))) =
    let s = sets_then n r k [] None due (number + 1 + 1 + 1 + 1) r4 x rest next lines in
    record { m = s.m; after = s.after; at = s.at; file = (u, r1, l1, (n, r2, l2, (r, r3, l3, (k, r4, l4, s.sets_stand)))); then = s.then }

-- what follows a text is no longer than it, and line numbers are no more than lines
pub numbers_within : {M X : Type 0} (format : Format M X) (number : ℕ) (bytes : List ℕ) (x : X) (rest : List ℕ) (next : ℕ) → StandsFor format number bytes x rest next → next + length rest ≤ number + length bytes
numbers_within (done y) number bytes x rest next is = let e = ap length is.1 in let n = is.2 in omega arith
numbers_within (line_of table due) number bytes x rest next (a, after, line, more) =
    let here = shorter table bytes a after line in
    let later = numbers_within (due a) (number + 1) after x rest next more in
    omega arith

-- the sets, whatever is due after the file
sets_sharp : {X : Type 0} (n r k : ℕ) (sets : List (List ℕ)) (last : Option (List ℕ)) (due : Presentation → Format Measure X) → n ≤ ELEMENTS → ((m : Presentation) → m.elements ≤ ELEMENTS → IsSharp (due m)) → IsSharp (set_lines n r k sets last (end_line n r)) → IsSharp (set_lines n r k sets last (after_sets n r due))
unfolding set_lines
sets_sharp n r zero sets last due limit then sharp = (sharp.0, λ line a spelled fits. then (record { elements = n; rank = r; nonbases = sets }) limit)
sets_sharp n r (suc k) sets last due limit then sharp = (sharp.0, λ line x spelled fits. sets_sharp n r k (sets ++ x ∷ []) (Some x) due limit then (sharp.1 line x spelled fits))

-- the file, whatever is due after it
pub file_then_sharp : {X : Type 0} (due : Presentation → Format Measure X) → ((m : Presentation) → m.elements ≤ ELEMENTS → IsSharp (due m)) → IsSharp (file due)
file_then_sharp due then = by_file file_sharp
  where
    by_file : IsSharp whole_file → IsSharp (file due)
    by_file s = (
      s.0,
      λ l1 u s1 f1. let a = s.1 l1 u s1 f1 in (
        a.0,
        λ l2 n s2 f2. let b = a.1 l2 n s2 f2 in (
          b.0,
          λ l3 r s3 f3. let c = b.1 l3 r s3 f3 in (
            c.0,
            λ l4 k s4 f4.
                sets_sharp n r k [] None due (at_most ELEMENTS n (f2 Elements)) then (c.1 l4 k s4 f4),
          ),
        ),
      ),
    )
