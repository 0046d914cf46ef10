-- Flags of sets by their places.
use Rattle.std.proofs.Common.{◌≡◌, ◌↔◌, ℕ, ◌+◌, Bool, true, false, List, [], ◌∷◌, ◌++◌, length, get_or, set, take, replicate, sym, ap, ◌∙◌, subst, inl, inr, arith, ⊎_elim}
use Rattle.std.specs.Prelude.{◌<◌, Contains}
use Rattle.std.proofs.lemmas.Bool.{cases_lt, cases_eq}
use Rattle.std.proofs.lemmas.List.{length-set, length-replicate, get_or-replicate, get_or_past, get_or_default, get_or-set_same, get_or-set_other, take_more}
use Rattle.std.proofs.lemmas.List.Elements.{Contains-push, Contains-push_cases, Contains-append_left}
use Rattle.std.proofs.lemmas.Option.{slice_get_within}
use Rattle.mr_set.specs.Subsets.{IsSetOf, choose}
use Rattle.mr_set.specs.Places.{IsPlaceOf}
use Rattle.mr_set.proofs.Uniqueness.{set-one_place, place-one_set, sets-counted}
use Rattle.mr_set.proofs.Ordered.{member_none}
use Rattle.mr_matroid.specs.Private.Table.{AreFlags}

-- a place is less than the number of the sets of its size
pub place_small : (n r k : ℕ) (x : List ℕ) → length x ≡ r → IsPlaceOf n x k → k < choose n r
place_small n r k x size place =
    let within = slice_get_within place.all k x place.here in
    let count = sets-counted n (length x) place.all place.listed in
    let same = ap (choose n) size in
    omega arith

-- flags that are not set
unset : (total k : ℕ) → get_or (replicate total false) k false ≡ true → ⊥
unset total k is = elim (cases_lt k total) [
  | inl lt ↦ let no_flag = get_or-replicate total k false false lt in cc
  | inr le ↦ let no_flag = get_or_past (replicate total false) k false (let size = length-replicate total false in omega arith) in cc
]

-- of no sets no flag is set
pub flags_none : (n r total : ℕ) → total ≡ choose n r → AreFlags n r [] (replicate total false)
flags_none n r total is = record {
  size = length-replicate total false ∙ is;
  each = λ x k _ _. (λ flag. absurd (unset total k flag), λ inside. absurd (member_none x inside));
}

-- one set more
pub flags_more : (n r i place : ℕ) (sets : List (List ℕ)) (flags : List Bool) (s : List ℕ) → i < length sets → get_or sets i s ≡ s → IsSetOf n r s → IsPlaceOf n s place → AreFlags n r (take i sets) flags → AreFlags n r (take (i + 1) sets) (set flags place true)
flags_more n r i place sets flags s lt here is at are = record {
  size = length-set flags place true ∙ are.size;
  each = λ x k of there. ⊎_elim
      (λ (same : k ≡ place).
      let twin : x ≡ s = place-one_set n x s k (of.size ∙ sym is.size) there (subst (IsPlaceOf n s) (sym same) at) in
      let flag : get_or (set flags place true) k false ≡ true = subst (λ j. get_or (set flags place true) j false ≡ true) (sym same) (get_or-set_same flags place true false within) in
      (λ _. subst (λ list. Contains list x) (sym more) (subst (Contains (take i sets ++ s ∷ [])) (sym twin) (Contains-push (take i sets) s)), λ _. flag))
      (λ (other : k ≡ place → ⊥).
      let same : get_or (set flags place true) k false ≡ get_or flags k false = get_or-set_other flags place k true false other in
      let old = are.each x k of there in (
        λ flag. subst (λ list. Contains list x) (sym more) (Contains-append_left (take i sets) (s ∷ []) x (old.0 (sym same ∙ flag))),
        λ inside. same ∙ ⊎_elim (λ (before : Contains (take i sets) x). old.1 before)
            (λ (last : s ≡ x). absurd (other (set-one_place n x k place there (subst (λ z. IsPlaceOf n z place) last at))))
            (Contains-push_cases (take i sets) s x (subst (λ list. Contains list x) more inside)),
      ))
      (cases_eq k place);
}
  where
    within : place < length flags
    within = let small = place_small n r place s is.size at in let size = are.size in omega arith

    more : take (i + 1) sets ≡ take i sets ++ s ∷ []
    more = take_more sets i s lt ∙ ap (λ e. take i sets ++ e ∷ []) here

-- the flag of a set tells whether it is listed
pub flag_tells : (n r k : ℕ) (sets : List (List ℕ)) (flags : List Bool) (s : List ℕ) (b : Bool) → AreFlags n r sets flags → IsSetOf n r s → IsPlaceOf n s k → b ≡ get_or flags k b → (b ≡ true) ↔ Contains sets s
flag_tells n r k sets flags s b are is at read =
    let small = place_small n r k s is.size at in
    let size = are.size in
    let same : b ≡ get_or flags k false = read ∙ get_or_default flags k b false (omega arith) in
    let old = are.each s k is at in
    (λ flag. old.0 (sym same ∙ flag), λ inside. same ∙ old.1 inside)
