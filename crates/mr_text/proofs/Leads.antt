-- From one point of a text to a later one.
use Rattle.std.proofs.Common.{ℕ, ◌+◌, List, inl, inr}
use Rattle.mr_text.specs.Format.{FirstFault, Table, Format, line_of, IsLineOf, IsLineFault, IsFirstFault, StandsFor}

-- what is said of the later point holds of the earlier one
pub record Leads {M X : Type 0} (from : Format M X) (number : ℕ) (bytes : List ℕ) (to : Format M X) (at : ℕ) (rest : List ℕ) : Type 0 where
  pub faults : (fault : FirstFault M) → IsFirstFault to at rest fault → IsFirstFault from number bytes fault
  pub values : (x : X) (after : List ℕ) (next : ℕ) → StandsFor to at rest x after next → StandsFor from number bytes x after next

-- from a point to itself
pub leads_nowhere : {M X : Type 0} (from : Format M X) (number : ℕ) (bytes : List ℕ) → Leads from number bytes from number bytes
leads_nowhere from number bytes = record { faults = λ fault h. h; values = λ x after next h. h }

-- over one line more
pub leads_on : {M X A : Type 0} (from : Format M X) (number : ℕ) (bytes : List ℕ) (table : Table M A) (due : A → Format M X) (at : ℕ) (rest : List ℕ) (a : A) (after : List ℕ)
    → Leads from number bytes (line_of table due) at rest → IsLineOf table rest a after → Leads from number bytes (due a) (at + 1) after
leads_on from number bytes table due at rest a after leads line = record {
  faults = λ fault h. leads.faults fault (inr (a, after, line, h));
  values = λ x end next h. leads.values x end next (a, after, line, h);
}

-- the fault of the next line is the first fault
pub leads_fault : {M X A : Type 0} (from : Format M X) (number : ℕ) (bytes : List ℕ) (table : Table M A) (due : A → Format M X) (at : ℕ) (rest : List ℕ) (fault : FirstFault M)
    → Leads from number bytes (line_of table due) at rest → IsLineFault table at rest fault → IsFirstFault from number bytes fault
leads_fault from number bytes table due at rest fault leads h = leads.faults fault (inl h)

-- the value of the last line is that of the text
pub leads_end : {M X A : Type 0} (from : Format M X) (number : ℕ) (bytes : List ℕ) (table : Table M A) (due : A → Format M X) (at : ℕ) (rest : List ℕ) (a : A) (after : List ℕ) (x : X)
    → Leads from number bytes (line_of table due) at rest → IsLineOf table rest a after → StandsFor (due a) (at + 1) after x after (at + 1) → StandsFor from number bytes x after (at + 1)
leads_end from number bytes table due at rest a after x leads line h = leads.values x after (at + 1) (a, after, line, h)
