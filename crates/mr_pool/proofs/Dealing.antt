-- From each desk's turn to all desks.
use Rattle.std.proofs.Common.{◌≡◌, ◌≢◌, ℕ, zero, suc, ◌+◌, ◌<◌, ◌≤◌, List, [], ◌∷◌, ◌++◌, length, get_or, sym, refl, ap, ◌∙◌, subst, arith, length-append}
use Rattle.std.specs.Prelude.{Option, Some, None, All}
use Rattle.mr_exchange.specs.Board.{Holding, new_holding}
use Rattle.mr_store.specs.Cards.{StoreIs, CardIs, Mark, store_of, mark_of, held_by}
use Rattle.mr_pool.specs.declared.desk.Desk.{Desk}
use Rattle.mr_pool.specs.Private.Desks.{HasCard, HasEnded, IsNewCard, IsNewDesk, IsOtherDesk, AreNew, IsServed, IsDoneCard, IsDoneDesk, IsFirstDone, AreDone}
use Rattle.mr_pool.specs.Work.{IsFirst}

-- what follows of a card that is there
has_map : (P Q : CardIs → Type 0) (o : Option CardIs) → ((card : CardIs) → P card → Q card) → HasCard P o → HasCard Q o
has_map P Q None f has = absurd has
has_map P Q (Some card) f has = f card has

-- the card that comes back
done_card : (store : StoreIs) (new : Desk) (o : Option CardIs) (before : CardIs) → IsNewCard store before → HasCard (λ card. (mark_of card ≡ mark_of before) × HasEnded (held_by card) new.list.items 1 new.stop) o
    → HasCard (λ card. IsDoneCard store new card × (mark_of card ≡ mark_of before)) o
done_card store new None before is after = absurd after
done_card store new (Some card) before is after = (record { store_is = ap (λ (m : Mark). m.store) after.0 ∙ is.store_is; alone = ap (λ (m : Mark). m.joined) after.0 ∙ is.alone; ended = after.1 }, after.0)

-- what M says of the mark stays
served_done : (M : Mark → Type 0) (store : StoreIs) (o : Option CardIs) (new : Desk) → HasCard (λ card. IsNewCard store card × M (mark_of card)) o
    → HasCard (λ before. HasCard (λ card. (mark_of card ≡ mark_of before) × HasEnded (held_by card) new.list.items 1 new.stop) new.card) o
    → HasCard (λ card. IsDoneCard store new card × M (mark_of card)) new.card
served_done M store None new has after = absurd has
served_done M store (Some before) new has after = has_map (λ card. IsDoneCard store new card × (mark_of card ≡ mark_of before)) (λ card. IsDoneCard store new card × M (mark_of card)) new.card
    (λ card d. (d.0, subst M (sym d.1) has.1)) (done_card store new new.card before has.0 after)

-- P holds of each desk of a longer list
all_cons : (P : Desk → Type 0) (x : Desk) (xs : List Desk) → P x → All P xs → All P (x ∷ xs)
all_cons P x xs p ps zero d lt = p
all_cons P x xs p ps (suc k) d lt = ps k d (omega arith)

-- the mark of the first pass, of which so many were made
record IsFirstMark (n : ℕ) (m : Mark) : Type 0 where
  pub number : m.number ≡ 0
  pub made : m.made ≡ n

-- the desks after the turns: the others, and the first card's at the end
record Turned (store : StoreIs) (n : ℕ) (new : List Desk) : Type 0 where
  pub others : List Desk
  pub last : Desk
  pub is : new ≡ others ++ last ∷ []
  pub done : All (IsDoneDesk store) others
  pub first : HasCard (λ card. IsDoneCard store last card × IsFirstMark n (mark_of card)) last.card

-- with one desk more before them
turned_more : (store : StoreIs) (n : ℕ) (x : Desk) (xs : List Desk) → IsDoneDesk store x → Turned store n xs → Turned store n (x ∷ xs)
turned_more store n x xs here rest = record { others = x ∷ rest.others; last = rest.last; is = ap (λ l. x ∷ l) rest.is; done = all_cons (IsDoneDesk store) x rest.others here rest.done; first = rest.first }

-- so they are
turned : (store : StoreIs) (n : ℕ) (others new : List Desk) (first : Desk) → All (IsOtherDesk store) others → HasCard (λ card. IsNewCard store card × IsFirstMark n (mark_of card)) first.card
    → length new ≡ suc (length others) → ((i : ℕ) (d : Desk) → i < suc (length others) → IsServed (get_or (others ++ first ∷ []) i d) (get_or new i d)) → Turned store n new
turned store n [] [] first a f len s = absurd (omega arith)
turned store n [] (x ∷ []) first a f len s = record { others = []; last = x; is = refl; done = λ k d lt. absurd (omega arith); first = served_done (IsFirstMark n) store first.card x f (s 0 x (omega arith)) }
turned store n [] (x ∷ y ∷ ys) first a f len s = absurd (omega arith)
turned store n (o ∷ os) [] first a f len s = absurd (omega arith)
turned store n (o ∷ os) (x ∷ xs) first a f len s =
    let new = has_map (λ card. IsNewCard store card × ((mark_of card).number ≢ 0) × ((mark_of card).number ≡ o.worker)) (λ card. IsNewCard store card × ((mark_of card).number ≢ 0)) o.card (λ card p. (p.0, p.1)) (a 0 x (omega arith)).0 in
    let here : IsDoneDesk store x = served_done (λ (m : Mark). m.number ≢ 0) store o.card x new (s 0 x (omega arith)) in
    turned_more store n x xs here (turned store n os xs first (λ k d lt. a (suc k) d (omega arith)) f (omega arith) (λ i d lt. s (suc i) d (omega arith)))

-- desks after their turns, each with a pass of the store
turned_done : (store : StoreIs) (n : ℕ) (new : List Desk) → n ≡ length new → Turned store n new → AreDone store new
turned_done store n new len t = record {
  others = t.others;
  last = t.last;
  is = t.is;
  done = t.done;
  first = has_map (λ card. IsDoneCard store t.last card × IsFirstMark n (mark_of card)) (λ card. IsDoneCard store t.last card × ((mark_of card).number ≡ 0)) t.last.card (λ card p. (p.0, p.1.number)) t.first;
  made = has_map (λ card. IsDoneCard store t.last card × IsFirstMark n (mark_of card)) (λ card. (mark_of card).made ≡ length new) t.last.card (λ card p. p.1.made ∙ len) t.first;
}

-- all desks after their turns
pub all_done : (store : StoreIs) (old new : List Desk) → AreNew store old → length new ≡ length old → ((i : ℕ) (d : Desk) → i < length old → IsServed (get_or old i d) (get_or new i d)) → AreDone store new
all_done store old new h len s =
    let long : length old ≡ suc (length h.others) = ap length h.is ∙ (let a = length-append h.others (h.last ∷ []) in omega arith) in
    turned_done store (length old) new (sym len) (turned store (length old) h.others new h.last h.new
    (has_map (λ card. IsNewCard store card × ((mark_of card).number ≡ 0) × ((mark_of card).made ≡ length old) × ((mark_of card).number ≡ h.last.worker)) (λ card. IsNewCard store card × IsFirstMark (length old) (mark_of card)) h.last.card (λ card p. (p.0, record { number = p.1; made = p.2 })) h.first)
    (len ∙ long) (λ i d lt. subst (λ l. IsServed (get_or l i d) (get_or new i d)) h.is (s i d (omega arith))))

-- each desk has a new card
can_all : (store : StoreIs) (others : List Desk) (last : Desk) → All (IsOtherDesk store) others → IsNewDesk store last → All (IsNewDesk store) (others ++ last ∷ [])
can_all store [] last all here = all_cons (IsNewDesk store) last [] here (λ k d lt. absurd (omega arith))
can_all store (o ∷ os) last all here =
    let other = all 0 o (omega arith) in
    all_cons (IsNewDesk store) o (os ++ last ∷ []) (has_map (λ card. IsNewCard store card × ((mark_of card).number ≢ 0) × ((mark_of card).number ≡ o.worker)) (λ card. IsNewCard store card × ((mark_of card).number ≡ o.worker)) o.card (λ card p. (p.0, p.2)) other.0, other.1)
    (can_all store os last (λ k d lt. all (suc k) d (omega arith)) here)

-- so it is with all desks before the turns
pub all_can : (store : StoreIs) (desks : List Desk) → AreNew store desks → All (IsNewDesk store) desks
all_can store desks h = subst (λ l. All (IsNewDesk store) l) (sym h.is) (can_all store h.others h.last h.new
    (has_map (λ card. IsNewCard store card × ((mark_of card).number ≡ 0) × ((mark_of card).made ≡ length desks) × ((mark_of card).number ≡ h.last.worker)) (λ card. IsNewCard store card × ((mark_of card).number ≡ h.last.worker)) h.last.card (λ card p. (p.0, p.3)) h.first, h.list))

-- the first card, once the others were split off
pub all_new : (store : StoreIs) (workers : ℕ) (others all : List Desk) (last : Desk) (first card : CardIs) → IsFirst store first → mark_of card ≡ record (mark_of first) { made = workers } → held_by card ≡ held_by first
    → All (IsOtherDesk store) others → all ≡ others ++ last ∷ [] → length others + 1 ≡ workers → last.card ≡ Some card → last.worker ≡ 0 → last.list.items ≡ [] → AreNew store all
all_new store workers others all last first card is mark held new whole count card_is worker list =
    let long : length all ≡ workers = ap length whole ∙ length-append others (last ∷ []) ∙ count in record {
      others = others;
      last = last;
      is = whole;
      new = new;
      first = subst (HasCard (λ c. IsNewCard store c × ((mark_of c).number ≡ 0) × ((mark_of c).made ≡ length all) × ((mark_of c).number ≡ last.worker))) (sym card_is) (
        record { store_is = ap (λ (m : Mark). m.store) mark ∙ ap (λ (m : Mark). m.store) is.mark; alone = ap (λ (m : Mark). m.joined) mark ∙ ap (λ (m : Mark). m.joined) is.mark; new = held ∙ is.new },
        ap (λ (m : Mark). m.number) mark ∙ ap (λ (m : Mark). m.number) is.mark,
        ap (λ (m : Mark). m.made) mark ∙ sym long,
        ap (λ (m : Mark). m.number) mark ∙ ap (λ (m : Mark). m.number) is.mark ∙ sym worker,
      );
      list = list;
    }

-- there is a desk
pub some_new : (store : StoreIs) (desks : List Desk) → AreNew store desks → 0 < length desks
some_new store desks h = (let long = ap length h.is ∙ length-append h.others (h.last ∷ []) in omega arith)

-- one more pass was made
pub mark_more : (first next after : Mark) (made : ℕ) → next ≡ record first { made = made } → after ≡ record next { made = next.made + 1 } → after ≡ record first { made = made + 1 }
mark_more first next after made is more = more ∙ ap (λ (m : Mark). record m { made = m.made + 1 }) is

-- P holds of each desk with one more at the end
pub all_push : (P : Desk → Type 0) (xs : List Desk) (x : Desk) → All P xs → P x → All P (xs ++ x ∷ [])
all_push P [] x all here = all_cons P x [] here (λ k d lt. absurd (omega arith))
all_push P (y ∷ ys) x all here = all_cons P y (ys ++ x ∷ []) (all 0 y (omega arith)) (all_push P ys x (λ k d lt. all (suc k) d (omega arith)) here)

-- the desk of a further pass
pub other_desk : (store : StoreIs) (desk : Desk) (card : CardIs) (n : ℕ) → desk.card ≡ Some card → desk.worker ≡ n → desk.list.items ≡ [] → mark_of card ≡ record { store = store; number = n; made = 1; joined = [] } → 0 < n
    → held_by card ≡ new_holding store.setting.frame store.setting.problem → IsOtherDesk store desk
other_desk store desk card n card_is worker list mark later new = (
  subst (HasCard (λ c. IsNewCard store c × ((mark_of c).number ≢ 0) × ((mark_of c).number ≡ desk.worker))) (sym card_is) (
    record { store_is = ap (λ (m : Mark). m.store) mark; alone = ap (λ (m : Mark). m.joined) mark; new = new },
    (λ none. (let same = ap (λ (m : Mark). m.number) mark in omega arith)),
    ap (λ (m : Mark). m.number) mark ∙ sym worker,
  ),
  list,
)
