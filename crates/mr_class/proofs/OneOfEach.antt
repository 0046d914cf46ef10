-- Each representation has one of its class in the answer, so the answer is empty where there is none.
use Rattle.std.proofs.Common.{◌≡◌, List, [], ◌∷◌, sym, ap, ◌∙◌}
use Rattle.std.specs.List.Sorted.{IsStrictlySortedBy}
use Rattle.mr_set.proofs.Ordered.{member_none}
use Rattle.mr_linear.specs.Matrix.{Grid, grid_cmp}
use Rattle.mr_linear.specs.Operations.{Leads, matrix_after}
use Rattle.mr_linear.specs.declared.operation.RowOp.{RowOp}
use Rattle.mr_linear.specs.Representation.{IsMember}
use Rattle.mr_class.specs.Laws.{AnswersHaveOneOfEachClass, EmptyAnswersMeanNoRepresentation}
use Rattle.mr_class.proofs.FirstBasis.{each_has_one_chosen}

-- operations keep the field
pub leads-field : (ops : List RowOp) (a b : Grid) → Leads a ops b → b.field ≡ a.field
leads-field [] a b is = ap (λ (g : Grid). g.field) (sym is)
leads-field (op ∷ ops) a b is = leads-field ops (matrix_after a op) b is.1

-- each representation is equivalent to one matrix of the answer
pub one_of_each : AnswersHaveOneOfEachClass
one_of_each m field answer a matroid is over represents =
    let one = each_has_one_chosen m a matroid represents in
    record {
      member = one.chosen;
      among = (is.exactly one.chosen).1 (record { field = leads-field one.equivalent.0 a one.chosen one.equivalent.1 ∙ over; chosen = one.is; represents = one.represents });
      equivalent = one.equivalent;
      only = λ b there other. one.only b other ((is.exactly b).0 there).chosen;
    }

-- no matrix is a list in order
sorted_none : IsStrictlySortedBy grid_cmp []
unfolding IsStrictlySortedBy
sorted_none = tt

-- the answer is empty just where nothing represents the matroid
pub empty_answers : EmptyAnswersMeanNoRepresentation
empty_answers m field matroid = (
  (λ is a over represents. let one = one_of_each m field [] a matroid is over represents in member_none one.member one.among),
  (λ none. record { increasing = sorted_none; exactly = λ a. ((λ there. absurd (member_none a there)), (λ (member : IsMember m field a). absurd (none a member.field member.represents))) }),
)
