-- The words of several cites.
use Rattle.std.proofs.Common.{◌≡◌, ◌≢◌, ℕ, zero, suc, ◌-◌, ◌<◌, ◌≤◌, List, [], ◌∷◌, ◌++◌, length, take, get_or, refl, sym, ap, ◌∙◌, inl, inr, arith, append_assoc, map, get_or-take}
use Rattle.std.specs.Prelude.{All, decimal, flat_map}
use Rattle.std.specs.List.{AllByRecursion}
use Rattle.std.proofs.lemmas.Bool.{cases_lt}
use Rattle.std.proofs.lemmas.List.{ext_get_or, length-take-le}
use Rattle.mr_set.specs.declared.TheConstants.{ELEMENTS}
use Rattle.mr_set.specs.Subsets.{IsSetOf}
use Rattle.mr_set.specs.Matroid.{Presentation}
use Rattle.mr_set.proofs.Sorted.{all_head, all_tail}
use Rattle.mr_assign.specs.declared.TheConstants.{VALUES}
use Rattle.mr_nogood.specs.declared.row.Cite.{Cite}
use Rattle.mr_nogood.specs.declared.row.Cite.TheVariants.{Nothing, Test, Slot}
use Rattle.mr_text.proofs.Decimals.{decimal_one}
use Rattle.mr_log.specs.Lines.{IsLogCite}
use Rattle.mr_log.specs.Private.Words.{IsCites, set_words, cite_words, cites_words}
use Rattle.mr_log.proofs.Cites.{NoCite, test_or_slot}

-- words that begin with the elements of a set
elements_one : (x y : List ℕ) (r s : List (List ℕ)) → length x ≡ length y → All (λ e. e < ELEMENTS) x → All (λ e. e < ELEMENTS) y → map decimal x ++ r ≡ map decimal y ++ s → (x ≡ y) × (r ≡ s)
elements_one [] [] r s size p q same = (refl, same)
elements_one [] (f ∷ fs) r s size p q same = absurd (omega arith)
elements_one (e ∷ es) [] r s size p q same = absurd (omega arith)
elements_one (e ∷ es) (f ∷ fs) r s size p q same =
    let low = all_head (λ k. k < ELEMENTS) e es p in
    let low2 = all_head (λ k. k < ELEMENTS) f fs q in
    let heads : decimal e ≡ decimal f = cc in
    let tails : map decimal es ++ r ≡ map decimal fs ++ s = cc in
    let head : e ≡ f = decimal_one e f (omega arith) (omega arith) heads in
    let rest = elements_one es fs r s (omega arith) (all_tail (λ k. k < ELEMENTS) e es p) (all_tail (λ k. k < ELEMENTS) f fs q) tails in
    (ap (λ k. k ∷ es) head ∙ ap (λ z. f ∷ z) rest.0, rest.1)

-- words that begin with a set of one size
set_one : (n k : ℕ) (x y : List ℕ) (r s : List (List ℕ)) → n ≤ ELEMENTS → IsSetOf n k x → IsSetOf n k y → set_words x ++ r ≡ set_words y ++ s → (x ≡ y) × (r ≡ s)
set_one n k [] [] r s limit p q same = (refl, let h : r ≡ s = cc in h)
set_one n k [] (f ∷ fs) r s limit p q same = let a = p.size in let b = q.size in absurd (omega arith)
set_one n k (e ∷ es) [] r s limit p q same = let a = p.size in let b = q.size in absurd (omega arith)
set_one n k (e ∷ es) (f ∷ fs) r s limit p q same =
    elements_one (e ∷ es) (f ∷ fs) r s (p.size ∙ sym q.size) (λ j d lt. let h = p.set.elements j d lt in omega arith) (λ j d lt. let h = q.set.elements j d lt in omega arith) same

-- words that begin with a cite
pub cite_one : (m : Presentation) (c d : Cite) (r s : List (List ℕ)) → m.elements ≤ ELEMENTS → IsLogCite m c → IsLogCite m d → cite_words c ++ r ≡ cite_words d ++ s → (c ≡ d) × (r ≡ s)
cite_one m Nothing d r s limit p q same = absurd p
cite_one m (Test x) Nothing r s limit p q same = absurd q
cite_one m (Test x) (Test y) r s limit p q same =
    let rest = set_one m.elements m.rank x y r s limit p q (let h : set_words x ++ r ≡ set_words y ++ s = cc in h) in
    (ap Test rest.0, rest.1)
cite_one m (Test x) (Slot t) r s limit p q same = absurd (test_or_slot (set_words x ++ r) (decimal t ∷ s) same)
cite_one m (Slot t) Nothing r s limit p q same = absurd q
cite_one m (Slot t) (Test y) r s limit p q same = absurd (test_or_slot (set_words y ++ s) (decimal t ∷ r) (sym same))
cite_one m (Slot t) (Slot u) r s limit p q same =
    (ap Slot (decimal_one t u p q (let h : decimal t ≡ decimal u = cc in h)), let h : r ≡ s = cc in h)

-- cites that a log may have
abbrev pub AreCites : Presentation → List Cite → Type 0
AreCites m list = AllByRecursion (IsLogCite m) list

-- the words of a list of cites
abbrev pub list_words : List Cite → List (List ℕ)
list_words list = flat_map cite_words list

-- after fewer cites there is another
pub next_cite : (m : Presentation) (xs ys : List Cite) (r s : List (List ℕ)) → m.elements ≤ ELEMENTS → AreCites m xs → AreCites m ys → length xs < length ys → list_words xs ++ r ≡ list_words ys ++ s → NoCite m r → ⊥
next_cite m xs [] r s limit p q less same never = omega arith
next_cite m [] (y ∷ ys) r s limit p q less same never = never y (list_words ys ++ s) q.0 (same ∙ append_assoc (cite_words y) (list_words ys) s)
next_cite m (x ∷ xs) (y ∷ ys) r s limit p q less same never =
    let parts = cite_one m x y (list_words xs ++ r) (list_words ys ++ s) limit p.0 q.0 (sym (append_assoc (cite_words x) (list_words xs) r) ∙ same ∙ append_assoc (cite_words y) (list_words ys) s) in
    next_cite m xs ys r s limit p.1 q.1 (omega arith) parts.1 never

-- words that begin with as many cites
pub cites_one : (m : Presentation) (xs ys : List Cite) (r s : List (List ℕ)) → m.elements ≤ ELEMENTS → AreCites m xs → AreCites m ys → length xs ≡ length ys → list_words xs ++ r ≡ list_words ys ++ s → (xs ≡ ys) × (r ≡ s)
cites_one m [] [] r s limit p q size same = (refl, same)
cites_one m [] (y ∷ ys) r s limit p q size same = absurd (omega arith)
cites_one m (x ∷ xs) [] r s limit p q size same = absurd (omega arith)
cites_one m (x ∷ xs) (y ∷ ys) r s limit p q size same =
    let parts = cite_one m x y (list_words xs ++ r) (list_words ys ++ s) limit p.0 q.0 (sym (append_assoc (cite_words x) (list_words xs) r) ∙ same ∙ append_assoc (cite_words y) (list_words ys) s) in
    let rest = cites_one m xs ys r s limit p.1 q.1 (omega arith) parts.1 in
    (ap (λ c. c ∷ xs) parts.0 ∙ ap (λ cs. y ∷ cs) rest.0, rest.1)

-- the first cites of a list
pub taken : (m : Presentation) (k : ℕ) (list : List Cite) → k ≤ length list → ((j : ℕ) → j < k → IsLogCite m (get_or list j Nothing)) → AreCites m (take k list)
taken m zero list le each = tt
taken m (suc k) [] le each = absurd (omega arith)
taken m (suc k) (c ∷ list) le each = (each 0 (omega arith), taken m k list (omega arith) (λ j lt. each (suc j) (omega arith)))

-- so many cites were read, and the others are none yet
pub record FirstCites (m : Presentation) (k : ℕ) (list : List Cite) (old new : List (List ℕ)) : Type 0 where
  pub count : length list ≡ VALUES
  pub some : (j : ℕ) → j < k → IsLogCite m (get_or list j Nothing)
  pub none : (j : ℕ) → k ≤ j → get_or list j Nothing ≡ Nothing
  pub words : old ≡ list_words (take k list) ++ new

-- the cites of a step, in front
abbrev pub front : ℕ → List Cite → List Cite
front q list = take (q - 1) list

-- they are such as a log may have
pub front_cites : (m : Presentation) (q : ℕ) (list : List Cite) → q ≤ 9 → IsCites m q list → AreCites m (front q list)
front_cites m q list nine is = taken m (q - 1) list (let size = is.count in omega arith) (λ j lt. is.cites j (omega arith))

-- and as many as there are values
pub front_count : (m : Presentation) (q : ℕ) (list : List Cite) → q ≤ 9 → IsCites m q list → length (front q list) ≡ q - 1
front_count m q list nine is = length-take-le (q - 1) list (let size = is.count in omega arith)

-- a cite that is missing
pub missing : (m : Presentation) (q k : ℕ) (list : List Cite) (old mid : List (List ℕ)) → m.elements ≤ ELEMENTS → q ≤ 9 → k < q - 1 → FirstCites m k list old mid → NoCite m mid → (all : List Cite) (rest : List (List ℕ)) → IsCites m q all → old ≢ cites_words q all ++ rest
missing m q k list old mid limit nine less is never all rest cites words =
    let size = is.count in
    let count = front_count m q all nine cites in
    let few = length-take-le k list (omega arith) in
    next_cite m (take k list) (front q all) mid rest limit (taken m k list (omega arith) is.some) (front_cites m q all nine cites) (omega arith) (sym is.words ∙ words) never

-- words that begin with the cites of a step
pub step_cites_one : (m : Presentation) (q : ℕ) (a b : List Cite) (r s : List (List ℕ)) → m.elements ≤ ELEMENTS → q ≤ 9 → IsCites m q a → IsCites m q b → cites_words q a ++ r ≡ cites_words q b ++ s → (a ≡ b) × (r ≡ s)
step_cites_one m q a b r s limit nine p t same =
    let parts = cites_one m (front q a) (front q b) r s limit (front_cites m q a nine p) (front_cites m q b nine t) (front_count m q a nine p ∙ sym (front_count m q b nine t)) same in (
      ext_get_or Nothing a b (p.count ∙ sym t.count) (λ j lt. elim (cases_lt j (q - 1)) as (λ _. get_or a j Nothing ≡ get_or b j Nothing) [
        | inl low ↦ sym (get_or-take (q - 1) a j Nothing low) ∙ ap (λ z. get_or z j Nothing) parts.0 ∙ get_or-take (q - 1) b j Nothing low
        | inr high ↦ p.others j (omega arith) ∙ sym (t.others j (omega arith))
      ]),
      parts.1,
    )
