-- A text is accepted exactly where it is the block of a matrix.
use Rattle.std.proofs.Common.{◌≡◌, ℕ, ◌+◌, List, [], refl, sym, subst, ◌∙◌, append-nil}
use Rattle.mr_field.specs.Gf.{Gf}
use Rattle.mr_text.specs.Format.{grammar, size, StandsFor, IsTextOf, IsFirstFaultOf}
use Rattle.mr_text.proofs.OneOutcome.{one_value, no_fault_of}
use Rattle.mr_file.specs.Reading.{Names}
use Rattle.mr_file.specs.declared.fault.FileFault.{FileFault}
use Rattle.mr_file.specs.declared.fault.FileFault.TheVariants as file_fault
use Rattle.mr_linear.specs.Matrix.{Grid, height}
use Rattle.mr_matrix.specs.Block.{block_text, IsBlockOf}
use Rattle.mr_matrix.specs.Reading.{whole_block, IsMatrixRefusal}
use Rattle.mr_matrix.specs.Private.Reading.{as_matrix_fault}
use Rattle.mr_matrix.specs.declared.fault.MatrixFault.{MatrixFault}
use Rattle.mr_matrix.specs.declared.fault.MatrixFault.TheVariants.{Grammar, Size, Memory}
use Rattle.mr_matrix.proofs.Blocks.{block_read, block_stands}
use Rattle.mr_matrix.proofs.SharpBlock.{block_sharp}

-- a text that stands for a matrix is its block
pub is_block : (f : Gf) (bytes : List ℕ) (a : Grid) → IsTextOf (whole_block f) bytes a → IsBlockOf f bytes a
is_block f bytes a (next, stands) = let read = block_read f 1 bytes a [] next stands in record { field = read.field; held = read.held; text = read.text ∙ append-nil (block_text a) }

-- the block of a matrix stands for it
pub text_of_block : (f : Gf) (bytes : List ℕ) (a : Grid) → IsBlockOf f bytes a → IsTextOf (whole_block f) bytes a
text_of_block f bytes a is = (
  1 + 1 + height a + 1,
  subst (λ g. StandsFor (whole_block g) 1 bytes a [] (1 + 1 + height a + 1)) is.field
      (subst (λ (w : List ℕ). StandsFor (whole_block a.field) 1 w a [] (1 + 1 + height a + 1)) (append-nil (block_text a) ∙ sym is.text) (block_stands a 1 [] is.held)),
)

-- a text is the block of one matrix
pub one_block : (f : Gf) (bytes : List ℕ) (a b : Grid) → IsBlockOf f bytes a → IsBlockOf f bytes b → a ≡ b
one_block f bytes a b one two =
    let p = text_of_block f bytes a one in
    let q = text_of_block f bytes b two in
    (one_value (whole_block f) (block_sharp f) 1 bytes a b [] [] p.0 q.0 p.1 q.1).0

-- what is read is a block
pub block_ok : (f : Gf) (bytes : List ℕ) (a : Grid) → IsTextOf (whole_block f) bytes a → IsBlockOf f bytes a
block_ok = is_block

-- a refusal names the first fault
pub block_refusal : (f : Gf) (bytes : List ℕ) (e : FileFault) (g : MatrixFault) → g ≡ as_matrix_fault e → Names (IsFirstFaultOf (whole_block f) bytes) e → IsMatrixRefusal f bytes g
block_refusal f bytes e g is names = subst (IsMatrixRefusal f bytes) (sym is) (by_fault e names)
  where
    by_fault : (d : FileFault) → Names (IsFirstFaultOf (whole_block f) bytes) d → IsMatrixRefusal f bytes (as_matrix_fault d)
    by_fault (file_fault.Grammar line) h = h
    by_fault (file_fault.Size line what) h = h
    by_fault file_fault.NoBasis h = absurd h
    by_fault (file_fault.Exchange b1 b2 x) h = absurd h
    by_fault file_fault.Memory h = tt

-- the block of a matrix is not refused, unless memory runs out
pub block_never_refused : (f : Gf) (bytes : List ℕ) (a : Grid) (e : MatrixFault) → IsBlockOf f bytes a → IsMatrixRefusal f bytes e → e ≡ Memory
block_never_refused f bytes a (Grammar line) is h = absurd (no_fault_of (whole_block f) (block_sharp f) bytes a (grammar line) (text_of_block f bytes a is) h)
block_never_refused f bytes a (Size line what) is h = absurd (no_fault_of (whole_block f) (block_sharp f) bytes a (size line what) (text_of_block f bytes a is) h)
block_never_refused f bytes a Memory is h = refl
