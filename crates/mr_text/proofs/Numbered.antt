-- The number of a fault's line is the number of that line in the text.
use Rattle.std.proofs.Common.{◌≡◌, ℕ, ◌+◌, List, [], ◌∷◌, ◌++◌, length, refl, sym, ap, ◌∙◌, inl, inr, arith, append_assoc}
use Rattle.std.specs.List.{AllByRecursion}
use Rattle.mr_text.specs.Text.{Lacks, text_of_lines}
use Rattle.mr_text.specs.Format.{FirstFault, grammar, size, Table, Format, done, line_of, IsLineFault, IsFirstFault}

-- the number of the line with the fault
abbrev pub line_of_fault : {M : Type 0} → FirstFault M → ℕ
line_of_fault (grammar l) = l
line_of_fault (size l m) = l

-- so many whole lines stand before the line with the fault
pub record StandsBefore (bytes : List ℕ) (number line : ℕ) : Type 0 where
  pub lines : List (List ℕ)
  pub rest : List ℕ
  pub text : bytes ≡ text_of_lines lines ++ rest
  pub whole : AllByRecursion (Lacks 10) lines
  pub count : line ≡ number + length lines

-- the fault of the first line has its number
here : {M A : Type 0} (table : Table M A) (number : ℕ) (bytes : List ℕ) (fault : FirstFault M) → IsLineFault table number bytes fault → line_of_fault fault ≡ number
here table number bytes (grammar l) h = h.0
here table number bytes (size l m) h = h.0

-- so many whole lines stand before the first fault
pub numbered : {M X : Type 0} (format : Format M X) (number : ℕ) (bytes : List ℕ) (fault : FirstFault M) → IsFirstFault format number bytes fault → StandsBefore bytes number (line_of_fault fault)
numbered (done x) number bytes fault h = absurd h
numbered (line_of table due) number bytes fault (inl h) = record { lines = []; rest = bytes; text = refl; whole = tt; count = here table number bytes fault h ∙ (let e : number ≡ number + 0 = omega arith in e) }
numbered (line_of table due) number bytes fault (inr (a, after, line, later)) =
    let tail = numbered (due a) (number + 1) after fault later in
    record {
      lines = line.line ∷ tail.lines;
      rest = tail.rest;
      text = line.begins.text ∙ ap (λ w. line.line ++ 10 ∷ w) tail.text ∙ sym (append_assoc (line.line ++ 10 ∷ []) (text_of_lines tail.lines) tail.rest ∙ append_assoc line.line (10 ∷ []) (text_of_lines tail.lines ++ tail.rest));
      whole = (line.begins.whole, tail.whole);
      count = (let h = tail.count in omega arith);
    }
